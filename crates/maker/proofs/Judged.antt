-- What the verdict says to the maker.
use mathlib.Core.Path.{◌≡◌, refl, sym, ap, subst, ◌∙◌}
use mathlib.Core.List.{List, []}
use Prim.Native.Nat.{ℕ, ◌≤◌}
use native.Mathlib.Omega.{arith}
use Rattle.std.specs.Prelude.{Result, Ok, Err}
use Rattle.rules.specs.Bounds.{max_slots}
use Rattle.rules.specs.Bus.{Table}
use Rattle.rules.specs.TableFile.{file_table}
use Rattle.rules.specs.Loads.{hyperperiod}
use Rattle.rules.specs.Refusals.{file_checks}
use Rattle.rules.specs.Calls.{one_ring_ask}
use Rattle.rules.proofs.Answers.{None, none_of}
use Rattle.table.specs.Sound.{Sound}
use Rattle.table.specs.Columns.{table_of}
use Rattle.table.specs.declared.columns.Columns.{Columns}
use Rattle.table.specs.declared.refusals.Refusal.{Refusal}
use Rattle.decoding.specs.Decoded.{DecodesInto}
use Rattle.decoding.proofs.OneRing.{OtherMark}
use Rattle.verdict.specs.declared.Admitted.{Admitted}
use Rattle.verdict.specs.Verdict.{IsVerdict}
use Rattle.maker.specs.Finding.{Finds}
use Rattle.maker.proofs.Finding.{judged_numbered, own_verdict, verdict_stops, admitted_table, admitted_columns}

module _ (f : List ℕ) (own : OtherMark f → ⊥) where
  -- it refuses
  pub judged_refused : (plan : List ℕ) (e : ℕ) (r : Refusal) → IsVerdict f (Err r) → Finds (one_ring_ask f).checks (file_table f) plan e (Err r)
  judged_refused plan e r X = verdict_stops f plan e r (own_verdict f own _ _ X.answers)

  -- it admits
  module _ (v : Admitted) (X : IsVerdict f (Ok v)) where
    pub judged_none : None (one_ring_ask f).checks
    judged_none = none_of (one_ring_ask f).checks 0 (judged_numbered f) (own_verdict f own 0 0 X.answers)

    pub judged_table : {a : Result Unit Refusal} {c : Columns} → DecodesInto (file_checks f) (file_table f) a c
        → Sound (table_of c) × (v.hyper ≡ hyperperiod (table_of c)) × (v.hyper ≤ max_slots) × (c.rings ≡ 1)
    judged_table {c = c} D =
        let e : table_of c ≡ file_table f = admitted_columns f [] 0 judged_none D in
        let s = admitted_table f [] 0 judged_none in
        let h : v.hyper ≡ hyperperiod (file_table f) = (X.done refl).hyper_is in
        (subst Sound (sym e) s.0, h ∙ ap hyperperiod (sym e), omega (arith, h, s.1), ap (λ (t : Table). t.rings) e ∙ s.2)
