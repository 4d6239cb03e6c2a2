-- The promises of the calls with a relay.
use mathlib.Core.Path.{◌≡◌, subst}
use mathlib.Core.Logic.{⊎_elim}
use mathlib.Core.List.{List, [], ◌∷◌, ◌++◌}
use Prim.Native.Nat.{ℕ, ◌<◌}
use native.Mathlib.Decide.{ℕ_discrete}
use native.Mathlib.Omega.{arith}
use lib.ListN.{length}
use Rattle.rules.specs.Bus.{Table}
use Rattle.rules.specs.TableFile.{table_mark, mark, file_table}
use Rattle.rules.specs.Loads.{hyperperiod}
use Rattle.rules.specs.Planner.{WholePlan}
use Rattle.rules.specs.Refusals.{Check, Answers, short_output, header_checks, file_checks, given_checks, one_ring_checks, relayed_checks}
use Rattle.rules.specs.Refusals.{verdict_checks, plan_checks}
use Rattle.rules.specs.Calls.{one_ring_ask, relayed_ask}
use Rattle.table.specs.Refusal.{number, place}
use Rattle.rules.proofs.Answers.{None, Numbered, answered, none_of, stopped, joined, unjoined, none_left, numbered_join}
use Rattle.rules.proofs.Answers.{answers_split}
use Rattle.decoding.proofs.OneRing.{own_mark, one_numbered, one_rest}
use Rattle.verdict.specs.Analysed.{table_checks}
use Rattle.verdict.proofs.Bound.{verdict_numbered, verdict_split}
use Rattle.rules.specs.Relay.{split}
use Rattle.relay.proofs.Given.{given_sound}
use Rattle.relayed.specs.Without.{Unused}
use Rattle.relayed.proofs.Checked.{relayed_numbered, relayed_admissible, relayed_split}
use Rattle.relayed.proofs.Without.{same_table, as_without}
use Rattle.relay_jobs.proofs.Jobs.{split_relays}
use Rattle.planner.proofs.Only.{plan_only}
use Rattle.planner.proofs.Promises.{carried}
use Rattle.relayed.specs.Promises.{RelayedProper, RelayedCarried, SamePlan}

pub relayed_proper : RelayedProper
relayed_proper f r = record { numbered = relayed_numbered f r; admissible = relayed_admissible f r }

-- ---- what an admitted table's plan does for the rows as they were given

pub relayed_carried : RelayedCarried
relayed_carried f r a was now A d room =
    let w = carried (relayed_ask f r) a was now (relayed_proper f r) A d room in
    let n = none_of (relayed_checks f r) 0 (relayed_numbered f r) d in
    (w.0, w.1, (w.2.0, split_relays (file_table f) r w.2.0 (given_sound f r (relayed_split f r n)) w.2.1, w.2.2))

-- ---- a relay that no row goes through

-- a plan that is done has passed all checks before 17
pub plan_passed : (f : List ℕ) (r room p : ℕ) → Answers (plan_checks (relayed_checks f r) (split (file_table f) r) room) 0 p
    → None (relayed_checks f r)
unfolding plan_checks Numbered
plan_passed f r room p A =
    let short : List Check = short_output (room < hyperperiod (split (file_table f) r)) ∷ [] in
    none_left (relayed_checks f r) short
    (none_of (relayed_checks f r ++ short) p (numbered_join (relayed_checks f r) short (relayed_numbered f r) (omega arith, tt)) A)

-- a table of one ring is answered as where one ring alone is taken
one_alike : (f : List ℕ) (room : ℕ) → mark f ≡ table_mark → (k p : ℕ) → Answers (plan_checks (verdict_checks f) (file_table f) room) k p
    → Answers (plan_checks (one_ring_checks f (verdict_checks f)) (file_table f) room) k p
unfolding plan_checks verdict_checks given_checks file_checks header_checks
one_alike f room m k p A = own_mark f _ (λ w. w.1 m) k p A

module _ (f : List ℕ) (r : ℕ) (U : Unused f r) (room : ℕ) where
  abbrev t : Table
  t = file_table f

  -- the verdict's checks where one ring alone is taken, and 17
  abbrev one : List Check
  one = one_ring_checks f (verdict_checks f)

  abbrev short : Table → List Check
  short u = short_output (room < hyperperiod u) ∷ []

  -- a table that passes with the relay passes without, and is the same
  module _ (n : None (relayed_checks f r)) where
    passes : None one
    passes =
        none_of one 0 (one_numbered f (verdict_checks f) (verdict_numbered f)) (as_without f r U 0 0 (answered (relayed_checks f r) n))

    same : split t r ≡ t
    same =
        let v : None (given_checks f ++ table_checks t) = rw (verdict_split f) at (one_rest f (verdict_checks f) passes) in
        same_table f r U (none_left (given_checks f) (table_checks t) v)

  -- what is answered with the relay is what is answered without
  answers_alike : (k p : ℕ) → Answers (plan_checks (relayed_checks f r) (split t r) room) k p → Answers (plan_checks one t room) k p
  unfolding plan_checks
  answers_alike k p A = go (ℕ_discrete k 0)
    where
      after : None (relayed_checks f r) → Answers (short (split t r)) k p → Answers (one ++ short t) k p
      after n B = joined one (short t) k p (passes n) (subst (λ (u : Table). Answers (short u) k p) (same n) B)

      go : Dec (k ≡ 0) → Answers (one ++ short t) k p
      go (no h) =
          ⊎_elim (λ a. stopped one (short t) k p h (as_without f r U k p a)) (λ w. after w.0 w.1)
          (answers_split (relayed_checks f r) (short (split t r)) k p A)
      go (yes z) =
          let n = plan_passed f r room p (rw z at A) in
          after n (unjoined (relayed_checks f r) (short (split t r)) k p n A)

pub same_plan : SamePlan
same_plan f r a b was now then m U A B =
    plan_only (one_ring_ask f) a b was now then
    (record {
      planned = record {
        answers = answers_alike f r U (length was) (number a) (place a) A.planned.answers;
        done = λ z.
            let n = plan_passed f r (length was) (place a) (rw z at A.planned.answers) in
            let w = A.planned.done z in
            (w.0, subst (λ (u : Table). WholePlan u w.0) (same f r U (length was) n) w.1, w.2);
        refused = A.planned.refused;
      };
    })
    (record {
      planned = record {
        answers = one_alike f (length was) m (number b) (place b) B.planned.answers;
        done = B.planned.done;
        refused = B.planned.refused;
      };
    })
