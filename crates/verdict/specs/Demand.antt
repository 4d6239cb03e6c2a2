-- Demand 2, of the verdict: it admits a table exactly if none of the refusals that document 01 lists for it applies.
-- It holds statements only; `proofs/Judging.antt` proves `Demand2` of every answer that the contract allows.
--
--   Unrefused cs       no check of the list cs applies
--   Demand2 f r       the answer r admits the table of file f exactly if no check of the verdict's applies
use Rattle.std.specs.Prelude.{◌≡◌, ◌↔◌, List, ℕ, ◌<◌, length, get_or, Result}
use Rattle.rules.specs.Refusals.{Check, refuse, verdict_checks}
use Rattle.table.specs.Refusal.{number}
use Rattle.table.specs.declared.refusals.Refusal.{Refusal}
use Rattle.verdict.specs.declared.Admitted.{Admitted}

abbrev pub Unrefused : List Check → Type 0
Unrefused cs = (k : ℕ) → k < length cs → (get_or cs k (refuse 0 0 ⊥)).applies → ⊥

abbrev pub Demand2 : List ℕ → Result Admitted Refusal → Type 0
Demand2 f r = (number r ≡ 0) ↔ Unrefused (verdict_checks f)
