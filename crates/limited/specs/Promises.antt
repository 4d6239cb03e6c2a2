-- What the calls with limits promise (#108). The file holds statements only; proofs/Promises proves them.
--
--   LimitedProper     an ask with limits is proper, so that all that the planner promises of proper asks holds of it
--   SamePlan          where the whole plan with limits is done, the one without answers alike and leaves the same words
use Rattle.std.specs.Prelude.{◌≡◌, List, ℕ, Result}
use Rattle.rules.specs.Calls.{file_ask, limited_ask}
use Rattle.table.specs.Refusal.{number}
use Rattle.table.specs.declared.refusals.Refusal.{Refusal}
use Rattle.planner.specs.Answers.{PlanAnswer}
use Rattle.planner.specs.Proper.{Proper}

abbrev pub LimitedProper : Type 0
LimitedProper = (f : List ℕ) (our their : ℕ) → Proper (limited_ask f our their)

abbrev pub SamePlan : Type 0
SamePlan = (f : List ℕ) (our their : ℕ) (r s : Result Unit Refusal) (was now then : List ℕ) → PlanAnswer (limited_ask f our their) r was now
    → PlanAnswer (file_ask f) s was then → number r ≡ 0 → (r ≡ s) × (now ≡ then)
