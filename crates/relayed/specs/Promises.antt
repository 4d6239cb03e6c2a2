-- What the calls with a relay promise (#113). The file holds statements only; proofs/Promises proves them.
--
--   RelayedProper     an ask with a relay is proper, so that all that the planner promises of proper asks holds of it
--   RelayedCarried    a table that the verdict with a relay admits, with room for h words, gets a plan that relays it
--   SamePlan          with a relay that no row goes through, the whole plan is the one without
use Rattle.std.specs.Prelude.{◌≡◌, List, ℕ, ◌≤◌, length, Result}
use Rattle.rules.specs.TableFile.{table_mark, mark, file_table}
use Rattle.rules.specs.Loads.{hyperperiod}
use Rattle.rules.specs.Calls.{lent, file_ask, relayed_ask}
use Rattle.table.specs.Refusal.{number, place}
use Rattle.table.specs.declared.refusals.Refusal.{Refusal}
use Rattle.rules.specs.Relay.{split}
use Rattle.relayed.specs.Without.{Unused}
use Rattle.relay_jobs.specs.Jobs.{Relays}
use Rattle.planner.specs.Answers.{PlanAnswer}
use Rattle.planner.specs.Proper.{Proper, Admits}

abbrev pub RelayedProper : Type 0
RelayedProper = (f : List ℕ) (r : ℕ) → Proper (relayed_ask f r)

abbrev pub RelayedCarried : Type 0
RelayedCarried = (f : List ℕ) (r : ℕ) (a : Result Unit Refusal) (was now : List ℕ) → PlanAnswer (relayed_ask f r) a was now → Admits (relayed_ask f r)
    → hyperperiod (split (file_table f) r) ≤ length was
    → (number a ≡ 0) × (place a ≡ 0) × ((ws : List ℕ) × Relays (file_table f) r ws × (now ≡ lent ws was))

abbrev pub SamePlan : Type 0
SamePlan = (f : List ℕ) (r : ℕ) (a b : Result Unit Refusal) (was now then : List ℕ) → mark f ≡ table_mark → Unused f r
    → PlanAnswer (relayed_ask f r) a was now → PlanAnswer (file_ask f) b was then → (a ≡ b) × (now ≡ then)
