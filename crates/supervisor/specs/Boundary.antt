-- What a C program may rely on. The file holds statements only; proofs/Boundary proves them of every answer that the contracts allow.
--
--   Carried f was now r   a plan of file f was answered with r, and r is 0 and its words carry the table
--   CarriedToC          where ring_verdict answers 0 and there is room for h words, so is every plan
--   LimitedToC          the same with limits, and the words are those without
--   RelayedToC          the same with a relay, and the words relay the table (#113)
--   ValuesAre            where ring_values answers 0, so does ring_verdict, and the fourth value is h
--   CarriedByValue      the first again, with the fourth value for h
--   ListedByValue       the list of sets, with room for as many as the sixth value says
--   max_list              the bytes of the longest list file
--   ToldApart            ring_element_list answers below 2^32 exactly if it doesn't refuse, and then with at most max_list
--   ElementOfPlan       of a table with one ring it never refuses an element, a plan that ring_plan wrote, and room for max_list bytes
use Rattle.std.specs.Prelude.{◌≡◌, ◌≢◌, List, ℕ, ◌+◌, ◌*◌, ◌≤◌, length}
use Rattle.numbers.specs.Lists.{at}
use Rattle.rules.specs.Bounds.{max_slots}
use Rattle.rules.specs.TableFile.{table_mark, mark, file_table}
use Rattle.rules.specs.Line.{Sets}
use Rattle.rules.specs.Relay.{split}
use Rattle.rules.specs.Loads.{hyperperiod}
use Rattle.rules.specs.ElementList.{list_header, entry_size, list_bytes, moves_list}
use Rattle.rules.specs.Calls.{lent, file_ask, limited_ask, relayed_ask}
use Rattle.promises.specs.Demands.{Carries}
use Rattle.relay_jobs.specs.Jobs.{Relays}
use Rattle.supervisor.specs.ToC.{VerdictToC, ValuesToC, SetsToC, PlanToC, ListToC}

-- A plan that held `was` and now holds `now` is answered with 0, and its front carries the table of file f.
abbrev pub Carried : (f was now : List ℕ) (r : ℕ) → Type 0
Carried f was now r = (r ≡ 0) × ((ws : List ℕ) × Carries (file_table f) ws × (now ≡ lent ws was))

-- If ring_verdict answers 0 and there is room for h words, ring_plan answers 0 and the words carry the table.
abbrev pub CarriedToC : Type 0
CarriedToC = (f was now : List ℕ) (r s : ℕ) → VerdictToC (file_ask f) r → PlanToC (file_ask f) was now s → r ≡ 0
    → hyperperiod (file_table f) ≤ length was → Carried f was now s

-- If ring_verdict_limited answers 0 and there is room for h words, ring_plan_limited answers 0 and the words carry the table; ring_plan
-- answers 0 then too, and writes the same words (#108).
abbrev pub LimitedToC : Type 0
LimitedToC = (f was now then : List ℕ) (our their r s q : ℕ) → VerdictToC (limited_ask f our their) r
    → PlanToC (limited_ask f our their) was now s → PlanToC (file_ask f) was then q → r ≡ 0 → hyperperiod (file_table f) ≤ length was
    → Carried f was now s × (q ≡ 0) × (then ≡ now)

-- If ring_verdict_relayed answers 0 and there is room for the h words of the split table, ring_plan_relayed answers 0 and the words relay
-- the table as it was given (#113).
abbrev pub RelayedToC : Type 0
RelayedToC = (f was now : List ℕ) (relay r s : ℕ) → VerdictToC (relayed_ask f relay) r → PlanToC (relayed_ask f relay) was now s → r ≡ 0
    → hyperperiod (split (file_table f) relay) ≤ length was
    → (s ≡ 0) × ((ws : List ℕ) × Relays (file_table f) relay ws × (now ≡ lent ws was))

-- ring_values answers 0 only for a table that ring_verdict admits, and the fourth value is then h.
abbrev pub ValuesAre : Type 0
ValuesAre = (f was now : List ℕ) (r s : ℕ) → ValuesToC f was now r → VerdictToC (file_ask f) s → r ≡ 0
    → (s ≡ 0) × (at now 3 ≡ hyperperiod (file_table f))

-- So with as many words as the fourth value says, ring_plan answers 0 and the words carry the table.
abbrev pub CarriedByValue : Type 0
CarriedByValue = (f was now plan plan' : List ℕ) (r s : ℕ) → ValuesToC f was now r → PlanToC (file_ask f) plan plan' s → r ≡ 0
    → at now 3 ≤ length plan → Carried f plan plan' s

-- With as many words as the sixth value says, ring_sets answers 0 and writes the list of sets.
abbrev pub ListedByValue : Type 0
ListedByValue = (f was now list list' : List ℕ) (r s : ℕ) → ValuesToC f was now r → SetsToC f list list' s → r ≡ 0
    → at now 5 ≤ length list → (s ≡ 0) × ((ws : List ℕ) × Sets (file_table f) ws × (length ws ≡ at now 5) × (list' ≡ lent ws list))

-- ---- the list of one element (#101)

abbrev pub max_list : ℕ
max_list = list_header + entry_size * (2 * max_slots)

abbrev pub ToldApart : Type 0
ToldApart = (f ws : List ℕ) (e : ℕ) (was now : List ℕ) (r : ℕ) (L : ListToC f ws e was now r)
    → (L.number ≡ 0 → r ≤ max_list) × (L.number ≢ 0 → 4294967296 ≤ r)

abbrev pub ElementOfPlan : Type 0
ElementOfPlan = (f plan plan' : List ℕ) (e : ℕ) (was now : List ℕ) (s r : ℕ) → mark f ≡ table_mark
    → PlanToC (file_ask f) plan plan' s → s ≡ 0 → ListToC f plan' e was now r → (1 ≤ e) × (e ≤ (file_table f).elements)
    → max_list ≤ length was
    → (r ≡ length (list_bytes (moves_list (file_table f) e plan'))) × (now ≡ lent (list_bytes (moves_list (file_table f) e plan')) was)

pub record Boundary : Type 0 where
  pub carried : CarriedToC
  pub limited : LimitedToC
  pub relayed : RelayedToC
  pub values_are : ValuesAre
  pub carried_by_value : CarriedByValue
  pub listed_by_value : ListedByValue
  pub told_apart : ToldApart
  pub element_of_plan : ElementOfPlan
