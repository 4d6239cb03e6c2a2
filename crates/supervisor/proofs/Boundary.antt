-- What a C program may rely on, proved of every answer that the contracts allow.
use mathlib.Core.Path.{◌≡◌, sym, ap, ◌∙◌}
use mathlib.Core.List.{List, [], ◌∷◌}
use Prim.Native.Nat.{ℕ, ◌≤◌, ◌<◌}
use native.Mathlib.Omega.{arith}
use lib.ListN.{length}
use Rattle.numbers.specs.Lists.{at}
use Rattle.rules.specs.TableFile.{file_table}
use Rattle.rules.specs.Line.{Sets}
use Rattle.rules.specs.Loads.{hyperperiod}
use Rattle.rules.specs.Refusals.{Check, Answers, short_output, bound_checks, verdict_checks, sets_checks}
use Rattle.rules.specs.Calls.{lent, c_answer, Ask, file_ask, limited_ask}
use Rattle.rules.proofs.Answers.{None, none_left, passed, done, joined, answered, answers_only}
use Rattle.outline.specs.Outlined.{outline_checks}
use Rattle.outline.proofs.Outlined.{outline_list_only}
use Rattle.std.specs.Prelude.{Result}
use Rattle.table.specs.Refusal as told
use Rattle.table.specs.declared.refusals.Refusal.{Refusal}
use Rattle.promises.specs.Demands.{Carries}
use Rattle.planner.specs.Proper.{Proper}
use Rattle.planner.proofs.Asks.{file_proper}
use Rattle.planner.proofs.Promises.{carried}
use Rattle.limited.proofs.Promises.{limited_proper, same_plan}
use Rattle.relayed.proofs.Promises.{relayed_carried}
use Rattle.supervisor.specs.ToC.{VerdictToC, Valued, ValuesToC, PlanToC}
use Rattle.supervisor.specs.Boundary.{CarriedToC, LimitedToC, RelayedToC, ValuesAre, CarriedByValue, ListedByValue}
use Rattle.supervisor.specs.Boundary.{Boundary}
use Rattle.supervisor.proofs.Values.{values_none}
use Rattle.supervisor.proofs.Lists.{told_apart, element_of_plan}

-- an answer of 0 has number 0 and place 0
number_zero : (r n p : ℕ) → r ≡ c_answer n p → r ≡ 0 → n ≡ 0
number_zero r n p e z = omega arith

place_zero : (r n p : ℕ) → r ≡ c_answer n p → r ≡ 0 → p ≡ 0
place_zero r n p e z = omega arith

one_zero : (r n p : ℕ) → r ≡ c_answer n p → n ≡ 0 → p ≡ 0 → r ≡ 0
one_zero r n p e z q = omega arith

-- of any proper ask, with limits, with a relay, or without
module _ (a : Ask) (N : Proper a) (was now : List ℕ) (r s : ℕ) (A : VerdictToC a r) (P : PlanToC a was now s) (z : r ≡ 0)
    (room : hyperperiod a.table ≤ length was) where
  n_zero : A.number ≡ 0
  n_zero = number_zero r A.number A.place A.as_one z

  planned_by : (told.number P.answer ≡ 0) × (told.place P.answer ≡ 0) × ((ws : List ℕ) × Carries a.table ws × (now ≡ lent ws was))
  planned_by =
      let place = place_zero r A.number A.place A.as_one z in
      carried a P.answer was now N P.planned (rw (n_zero, place) at A.answers) room

  carried_by : (s ≡ 0) × ((ws : List ℕ) × Carries a.table ws × (now ≡ lent ws was))
  carried_by = (one_zero s _ _ P.as_one planned_by.0 planned_by.1, planned_by.2)

pub carried_to_c : CarriedToC
carried_to_c f was now r s A P z room = carried_by (file_ask f) (file_proper f) was now r s A P z room

pub limited_to_c : LimitedToC
limited_to_c f was now then our their r s q A P Q z room =
    let a = limited_ask f our their in
    let w = planned_by a (limited_proper f our their) was now r s A P z room in
    let e = same_plan f our their P.answer Q.answer was now then P.planned Q.planned w.0 in
    let number : told.number Q.answer ≡ 0 = sym (ap (λ (b : Result Unit Refusal). told.number b) e.0) ∙ w.0 in
    let place : told.place Q.answer ≡ 0 = sym (ap (λ (b : Result Unit Refusal). told.place b) e.0) ∙ w.1 in
    (carried_by a (limited_proper f our their) was now r s A P z room, one_zero q _ _ Q.as_one number place, sym e.1)

pub relayed_to_c : RelayedToC
relayed_to_c f was now relay r s A P z room =
    let place = place_zero r A.number A.place A.as_one z in
    let n = number_zero r A.number A.place A.as_one z in
    let w = relayed_carried f relay P.answer was now P.planned (rw (n, place) at A.answers) room in
    (one_zero s _ _ P.as_one w.0 w.1, w.2)

-- ---- with the values

module _ (f was now : List ℕ) (r : ℕ) (A : ValuesToC f was now r) (z : r ≡ 0) where
  n : A.number ≡ 0
  n = number_zero r A.number A.place A.as_one z

  given : Valued f was now
  given = A.called.done n

  none : None (verdict_checks f)
  none = values_none f (length was) A.place (rw n at A.called.answers)

  outline_none : None (outline_checks f)
  unfolding verdict_checks
  outline_none = none_left (outline_checks f) (bound_checks (file_table f)) none

  hyper_at : at now 3 ≡ hyperperiod (file_table f)
  unfolding lent
  hyper_at = ap (λ (l : List ℕ). at l 3) given.written ∙ given.admitted.hyper_is

  sets_at : at now 5 ≡ length given.admitted.list
  unfolding lent
  sets_at = ap (λ (l : List ℕ). at l 5) given.written ∙ given.admitted.sets_is

  -- any list of the sets is as long as the sixth value says
  length_at : (ws : List ℕ) → Sets (file_table f) ws → length ws ≡ at now 5
  length_at ws S = ap length (outline_list_only f outline_none ws given.admitted.list S given.admitted.listed) ∙ sym sets_at

  abbrev no_room : ℕ → Check
  no_room room = short_output ((ws : List ℕ) × Sets (file_table f) ws × (room < length ws))

  listed : (room : ℕ) → at now 5 ≤ room → Answers (sets_checks (outline_checks f) (file_table f) room) 0 0
  unfolding sets_checks
  listed room l =
      joined (outline_checks f) (no_room room ∷ []) 0 0 outline_none
      (passed (no_room room) [] 0 0 (λ w. omega (arith, w.2, length_at w.0 w.1, l)) done)

pub values_are : ValuesAre
values_are f was now r s A W z =
    let e = answers_only (verdict_checks f) W.number 0 W.place 0 W.answers (answered (verdict_checks f) (none f was now r A z)) in
    (one_zero s _ _ W.as_one e.0 e.1, hyper_at f was now r A z)

pub carried_by_value : CarriedByValue
carried_by_value f was now plan plan' r s A P z room =
    let h = hyper_at f was now r A z in
    let a = answered (verdict_checks f) (none f was now r A z) in
    let w = carried (file_ask f) P.answer plan plan' (file_proper f) P.planned a (omega arith) in
    (one_zero s _ _ P.as_one w.0 w.1, w.2)

pub listed_by_value : ListedByValue
listed_by_value f was now list list' r s A S z room =
    let e =
    answers_only (sets_checks (outline_checks f) (file_table f) (length list)) S.number 0 S.place 0 S.listed.answers
    (listed f was now r A z (length list) room) in
    let w = S.listed.done e.0 in
    (one_zero s _ _ S.as_one e.0 e.1, (w.0, w.1, length_at f was now r A z w.0 w.1, w.3))

pub boundary : Boundary
boundary = record {
  carried = carried_to_c;
  limited = limited_to_c;
  relayed = relayed_to_c;
  values_are = values_are;
  carried_by_value = carried_by_value;
  listed_by_value = listed_by_value;
  told_apart = told_apart;
  element_of_plan = element_of_plan;
}
