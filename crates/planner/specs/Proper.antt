-- The asks that the planner's promises are about.
--
--   Proper a           no check of ask a has the number 0, which stands for done, and a table to which none of them applies may be admitted
--   Admits a           no check of ask a refuses its table
use Rattle.rules.specs.Refusals.{Answers}
use Rattle.rules.specs.Calls.{Ask}
use Rattle.rules.proofs.Answers.{None, Numbered}
use Rattle.lags.specs.Lags.{Admissible}

pub record Proper (a : Ask) : Type 0 where
  pub numbered : Numbered a.checks
  pub admissible : None a.checks → Admissible a.table

abbrev pub Admits : Ask → Type 0
Admits a = Answers a.checks 0 0
