-- The plain planner gives the same words and is refused alike, as only one answer fits either contract.
use Rattle.rules.specs.Calls.{file_ask}
use Rattle.placing.proofs.Filled.{filled_only}
use Rattle.planner.proofs.Only.{plan_only}
use Rattle.demands.specs.Plain.{PlainPlanner}

pub plain_planner : PlainPlanner
plain_planner = record {
  same_words = λ f k had x first second was plain now A Q F S P N. filled_only P N;
  same_plan = λ f r s was plain now. plan_only (file_ask f) r s was plain now;
}
