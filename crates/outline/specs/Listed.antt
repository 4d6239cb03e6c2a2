-- The list of sets on an outline, whatever it was made from. A refusal by it is handed on; a table that it shows is an ask with no check
-- left before the call's own.
--
--   Traced o             o is of some table, where it refuses none
--   count r              how many sets are listed, 0 where that is refused
--   ListedOn o r was now    the list of sets of the outline o answers r
--
-- Only one answer fits (proofs/Listed, `listed_on_only`).
use Rattle.std.specs.Prelude.{◌≡◌, List, ℕ, Result, Ok, Err, IfOk, IfErr}
use Rattle.rules.specs.Bus.{Table}
use Rattle.rules.specs.Calls.{admitted, Listed}
use Rattle.table.specs.Refusal.{number, place}
use Rattle.table.specs.declared.refusals.Refusal.{Refusal}
use Rattle.outline.specs.declared.Outline.{Outline}
use Rattle.outline.specs.Outlined.{Found}

abbrev pub Traced : Result Outline Refusal → Type 0
Traced o = IfOk o (λ x. (t : Table) × Found t x)

abbrev pub count : Result ℕ Refusal → ℕ
count (Ok n) = n
count (Err _) = 0

pub record ListedOn (o : Result Outline Refusal) (r : Result ℕ Refusal) (was now : List ℕ) : Type 0 where
  pub done : IfOk o (λ x. (t : Table) → Found t x → Listed (admitted t) was now (number r) (place r) (count r))
  pub refused : IfErr o (λ e. (r ≡ Err e) × (now ≡ was))
