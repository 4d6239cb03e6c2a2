-- Only one answer fits a planner moved on where it is kept, and it is the step's.
use mathlib.Core.Path.{◌≡◌, refl, sym, ap, ◌∙◌}
use mathlib.Core.List.{List}
use Prim.Native.Nat.{ℕ}
use Rattle.std.specs.Prelude.{Result, Ok, Err}
use Rattle.rules.specs.Calls.{file_ask}
use Rattle.table.specs.declared.refusals.Refusal.{Refusal}
use Rattle.planner.specs.declared.Planner.{Planner}
use Rattle.planner.specs.State.{after}
use Rattle.planner.specs.Answers.{StepAnswer}
use Rattle.planner.proofs.Only.{step_only}
use Rattle.planner.specs.InPlace.{joined, MovedInPlace}

-- what is left in place is the planner after the step
left_in_place : {f : List ℕ} {p q : Planner} {r : Result Unit Refusal} {was now : List ℕ} → MovedInPlace f p q r was now
    → q ≡ after p (joined q r)
left_in_place {r = Ok _} A = refl
left_in_place {r = Err _} A = A.kept

-- the same answers as the step by value, and the same planner after it
pub moved_in_place_as_step : (f : List ℕ) (p q : Planner) (r : Result Unit Refusal) (s : Result Planner Refusal) (was now then : List ℕ)
    → MovedInPlace f p q r was now → StepAnswer (file_ask f) p s was then → (joined q r ≡ s) × (q ≡ after p s) × (now ≡ then)
moved_in_place_as_step f p q r s was now then A B =
    let e = step_only (file_ask f) p (joined q r) s was now then A.moved B in (e.0, left_in_place A ∙ ap (after p) e.0, e.1)

-- and its answer is the step's
unjoined : (r : Result Planner Refusal) → Result Unit Refusal
unjoined (Ok _) = Ok tt
unjoined (Err e) = Err e

answer_is : (q : Planner) (r : Result Unit Refusal) → unjoined (joined q r) ≡ r
unfolding unjoined
answer_is q (Ok _) = refl
answer_is q (Err _) = refl

pub moved_in_place_only : (f : List ℕ) (p q q' : Planner) (r r' : Result Unit Refusal) (was now then : List ℕ)
    → MovedInPlace f p q r was now → MovedInPlace f p q' r' was then → (q ≡ q') × (r ≡ r') × (now ≡ then)
moved_in_place_only f p q q' r r' was now then A B =
    let e = moved_in_place_as_step f p q r (joined q' r') was now then A B.moved in (
      e.1 ∙ sym (left_in_place B),
      sym (answer_is q r) ∙ ap unjoined e.0 ∙ answer_is q' r',
      e.2,
    )
