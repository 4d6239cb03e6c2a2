-- The promises of the calls with limits.
use mathlib.Core.List.{List, [], ◌∷◌, ◌++◌}
use Prim.Native.Nat.{◌<◌}
use native.Mathlib.Omega.{arith}
use lib.ListN.{length}
use Rattle.rules.specs.TableFile.{file_table}
use Rattle.rules.specs.Loads.{hyperperiod}
use Rattle.rules.specs.Refusals.{Check, Answers, short_output, verdict_checks, limited_checks, plan_checks}
use Rattle.rules.specs.Calls.{file_ask}
use Rattle.rules.proofs.Answers.{Numbered, answered, answers_only, none_of, none_join, none_left, none_right, numbered_join}
use Rattle.table.specs.Refusal.{place}
use Rattle.planner.proofs.Only.{plan_only}
use Rattle.limited.proofs.Checked.{limited_numbered, limited_none, limited_admissible}
use Rattle.limited.specs.Promises.{LimitedProper, SamePlan}

pub limited_proper : LimitedProper
limited_proper f our their = record { numbered = limited_numbered f our their; admissible = limited_admissible f our their }

-- a table that passes the checks with limits passes those without
pub same_plan : SamePlan
unfolding plan_checks Numbered
same_plan f our their r s was now then A B z =
    let cs = limited_checks f our their in
    let room : List Check = short_output (length was < hyperperiod (file_table f)) ∷ [] in
    let a : Answers (cs ++ room) 0 (place r) = rw z at A.planned.answers in
    let n = none_of (cs ++ room) (place r) (numbered_join cs room (limited_numbered f our their) (omega arith)) a in
    let still = (answers_only (cs ++ room) 0 0 (place r) 0 a (answered (cs ++ room) n)).1 in
    let without = none_join (verdict_checks f) room (limited_none f our their (none_left cs room n)) (none_right cs room n) in
    plan_only (file_ask f) r s was now then
    (record {
      planned = record {
        answers = rw (z, still) (answered (verdict_checks f ++ room) without);
        done = A.planned.done;
        refused = A.planned.refused;
      };
    })
    B
