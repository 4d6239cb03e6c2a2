-- What the functions for C answer: number and place of the verdict, its values, shared segments, the list of sets and the whole plan, as
-- one number; and the list of one element.
--
--   VerdictToC a r            r is the verdict on ask a
--   values c o i h l s        the values of an admitted table in the order in which C gets them
--   values_checks f room      the checks of the values: the verdict's, then 17
--   ValuesToC f was now r     r answers for the values of file f's table, and a slice that held `was` now holds `now`
--   SharedToC f i j was now r   r answers for the segments that rows i and j share, and a number that was `was` is now `now`
--   SetsToC f was now r       r answers for the list of its sets
--   PlanToC a was now r       r answers for the whole plan of ask a
--   RaiseToC f was now r      r answers for the raised file
--   list_refusal n p          a refusal of the list of an element, whose place may be a slot
--   ListToC f ws e was now r  r answers for the list of element e's moves in the plan ws: how many bytes it has, or a refusal
--
-- Verdict and whole plan have forms with limits (#108) and with a relay (#113), so they are said of an ask.
use Rattle.std.specs.Prelude.{◌≡◌, ◌≢◌, List, [], ◌∷◌, ◌++◌, ℕ, ◌+◌, ◌*◌, ◌<◌, length, Result}
use Rattle.rules.specs.TableFile.{file_table}
use Rattle.rules.specs.Bus.{shared}
use Rattle.rules.specs.Refusals.{Check, Answers, short_output, shared_checks, verdict_checks}
use Rattle.rules.specs.ElementList.{list_header, entry_size, list_bytes}
use Rattle.rules.specs.Calls.{Call, lent, Ask, Admitted, Listed, ListMade, line_ask, one_ring_ask, c_answer}
use Rattle.rules.specs.Raising.{Raised}
use Rattle.table.specs.Refusal.{number, place}
use Rattle.table.specs.declared.refusals.Refusal.{Refusal}
use Rattle.planner.specs.Answers.{PlanAnswer}

pub record VerdictToC (a : Ask) (r : ℕ) : Type 0 where
  pub number : ℕ
  pub place : ℕ
  pub answers : Answers a.checks number place
  pub as_one : r ≡ c_answer number place

-- ---- the values of an admitted table

-- the cuts, clockwise first, L, h, reported load, number of sets
abbrev pub values : (cut other interval hyper load sets : ℕ) → List ℕ
values cut other interval hyper load sets = cut ∷ other ∷ interval ∷ hyper ∷ load ∷ sets ∷ []

abbrev pub value_count : ℕ
value_count = 6

-- the verdict's, then 17
unfoldable pub values_checks : List ℕ → ℕ → List Check
values_checks f room = verdict_checks f ++ (short_output (room < value_count) ∷ [])

pub record Valued (f was now : List ℕ) : Type 0 where
  pub cut : ℕ
  pub other : ℕ
  pub interval : ℕ
  pub hyper : ℕ
  pub load : ℕ
  pub sets : ℕ
  pub admitted : Admitted (file_table f) cut other interval hyper load sets
  pub written : now ≡ lent (values cut other interval hyper load sets) was

pub record ValuesToC (f was now : List ℕ) (r : ℕ) : Type 0 where
  pub number : ℕ
  pub place : ℕ
  pub called : Call (values_checks f (length was)) number place (Valued f was now) (now ≡ was)
  pub as_one : r ≡ c_answer number place

-- ---- where two rows meet

pub record SharedToC (f : List ℕ) (i j was now r : ℕ) : Type 0 where
  pub number : ℕ
  pub place : ℕ
  pub called : Call (shared_checks f i j) number place (now ≡ shared (file_table f) i j) (now ≡ was)
  pub as_one : r ≡ c_answer number place

-- ---- lists and plans

pub record SetsToC (f was now : List ℕ) (r : ℕ) : Type 0 where
  pub number : ℕ
  pub place : ℕ
  pub sets : ℕ
  pub listed : Listed (line_ask f) was now number place sets
  pub as_one : r ≡ c_answer number place

pub record PlanToC (a : Ask) (was now : List ℕ) (r : ℕ) : Type 0 where
  pub answer : Result Unit Refusal
  pub planned : PlanAnswer a answer was now
  pub as_one : r ≡ c_answer (number answer) (place answer)

-- ---- raising light rows (#111)

pub record RaiseToC (f was now : List ℕ) (r : ℕ) : Type 0 where
  pub number : ℕ
  pub place : ℕ
  pub raised : Raised f was now number place
  pub as_one : r ≡ c_answer number place

-- ---- the list of one element (#101)

abbrev pub list_refusal : ℕ → ℕ → ℕ
list_refusal number place = 4294967296 * number + place

pub record ListToC (f ws : List ℕ) (e : ℕ) (was now : List ℕ) (r : ℕ) : Type 0 where
  pub number : ℕ
  pub place : ℕ
  pub hyper : ℕ
  pub entries : ℕ
  pub made : ListMade (one_ring_ask f) ws e list_bytes was now number place hyper entries
  pub size : number ≡ 0 → r ≡ list_header + entry_size * entries
  pub refused : number ≢ 0 → r ≡ list_refusal number place
