-- Document 01, what each call returns and what it leaves in the memory lent to it ("Refusal numbers", "The planner").
--
--   Call cs n p D R     a call with checks cs answers with number n and place p; D holds of it where it is done, R where it refuses
--   lent ws was         a lent slice that held `was`, with ws written to its front: past them it is unchanged
--   Read, Written       the reader and the writer
--   ReadVersion1        the reader that takes version 1 alone
--   Met                 where two rows meet: the segments that they share
--   Crowded             an overlap set's rows, and the segments that all of them use
--   Ask                 what verdict and planner are asked about: a table, and the checks before their own
--   file_ask f           a file's table, and the verdict's checks
--   one_ring_ask f        the same where a table of one ring alone is taken (#112)
--   limited_ask f x y    a file's table, and the checks of the verdict with limits (#108)
--   relayed_ask f r      a file's table split at the relay r, and the checks of the verdict with a relay (#113)
--   line_ask f, relayed_line_ask f r    the same tables, and the checks up to 11
--   admitted t          a table, and no checks
--   Judged              the verdict
--   Listed              the list of sets
--   Planned             the whole plan
--   Stepped             a planner step
--   Stood               the standings
--   ListMade                the list of an element's moves in a plan
--   ListRead, ListWritten    the reader and the writer of such a list
--   c_answer n p        what verdict and whole plan answer to C
--
-- `was` and `now` are what a lent slice holds before and after. A refusal leaves lent output unchanged and hands back the planner it was
-- given; any other returned number is then 0.
use Rattle.std.specs.Prelude.{◌≡◌, ◌≢◌, List, [], ◌∷◌, ◌++◌, ℕ, ◌+◌, ◌*◌, ◌≤◌, ◌<◌, ℤ, pos, length, drop}
use Rattle.numbers.specs.Lists.{at}
use Rattle.rules.specs.Bounds.{max_rows}
use Rattle.rules.specs.Bus.{Table, clockwise, counterclockwise, shared, common}
use Rattle.rules.specs.TableFile.{mark, version, rings_of, file_table, file_labelled, memory_labelled_with, numbers, bytes}
use Rattle.rules.specs.Relay.{split}
use Rattle.rules.specs.Line.{board_cut, set_at, Sets}
use Rattle.rules.specs.Loads.{hyperperiod, shortest, reported}
use Rattle.rules.specs.ElementList.{ElementList, file_list, memory_list, list_numbers, list_bytes, moves_list}
use Rattle.rules.specs.Planner.{Planner, standing, Step, WholePlan}
use Rattle.rules.specs.Refusals.{
  Check,
  Answers,
  reader_checks,
  version_1_checks,
  writer_checks,
  shared_checks,
  one_ring_checks,
  given_checks,
  line_checks,
  verdict_checks,
  limited_checks,
  relayed_line_checks,
  relayed_checks,
  sets_checks,
  set_checks,
  plan_checks,
  step_checks,
  standings_checks,
  maker_checks,
  list_reader_checks,
  list_writer_checks,
}

pub record Call (cs : List Check) (number place : ℕ) (Done Refused : Type 0) : Type 0 where
  pub answers : Answers cs number place
  pub done : number ≡ 0 → Done
  pub refused : number ≢ 0 → Refused

unfoldable pub lent : List ℕ → List ℕ → List ℕ
lent ws was = ws ++ drop (length ws) was

-- the mark beside a refusal
abbrev pub no_mark : List ℕ
no_mark = 0 ∷ 0 ∷ 0 ∷ []

-- Returns the mark, the version, M and the row count, and fills a slice with five numbers a row. It refuses by the checks cs.
abbrev pub ReadBy : (cs : List Check) (file was now : List ℕ) (number place : ℕ) (mark' : List ℕ) (version' elements rows : ℕ) → Type 0
ReadBy cs file was now number place mark' version' elements rows =
    Call cs number place
    ((mark' ≡ mark file) × (version' ≡ version file) × (elements ≡ (file_table file).elements) × (rows ≡ (file_table file).rows)
    × (now ≡ lent (numbers (file_labelled file)) was))
    ((mark' ≡ no_mark) × (version' ≡ 0) × (elements ≡ 0) × (rows ≡ 0) × (now ≡ was))

abbrev pub Read : (file was now : List ℕ) (number place : ℕ) (mark' : List ℕ) (version' elements rows : ℕ) → Type 0
Read file was now = ReadBy (reader_checks file (length was)) file was now

abbrev pub ReadVersion1 : (file was now : List ℕ) (number place : ℕ) (mark' : List ℕ) (version' elements rows : ℕ) → Type 0
ReadVersion1 file was now = ReadBy (version_1_checks file (length was)) file was now

-- Takes the mark and the version to write, M, the row count and a slice of five numbers a row.
abbrev pub Written : (mark' : List ℕ) (version' elements rows : ℕ) (xs was now : List ℕ) (number place : ℕ) → Type 0
Written mark' version' elements rows xs was now number place =
    Call (writer_checks mark' version' elements rows xs (length was)) number place
    (now ≡ lent (bytes version' (memory_labelled_with (rings_of mark') elements rows xs)) was) (now ≡ was)

-- Returns the word of the segments that rows i and j share (#102).
abbrev pub Met : (file : List ℕ) (i j number place word : ℕ) → Type 0
Met file i j number place word =
    Call (shared_checks file i j) number place (word ≡ shared (file_table file) i j) (word ≡ 0)

-- Returns the word of the rows of set number k, and the word of the segments that all of them use (#102).
abbrev pub Crowded : (file : List ℕ) (k number place rows segments : ℕ) → Type 0
Crowded file k number place rows segments =
    Call (set_checks file k) number place
    ((ws : List ℕ) × Sets (file_table file) ws × (k < length ws) × (rows ≡ at ws k) × (segments ≡ common (file_table file) (set_at ws k)))
    ((rows ≡ 0) × (segments ≡ 0))

-- Verdict, list of sets, whole plan, step and standings have forms with other checks before their own, or on another table. So they are
-- said of any table with checks.
pub record Ask : Type 1 where
  pub checks : List Check
  pub table : Table

abbrev pub file_ask : List ℕ → Ask
file_ask f = record { checks = verdict_checks f; table = file_table f }

-- the same where a table of one ring alone is taken (#112)
abbrev pub one_ring_ask : List ℕ → Ask
one_ring_ask f = record { checks = one_ring_checks f (verdict_checks f); table = file_table f }

-- the same with a limit for each party (#108)
abbrev pub limited_ask : List ℕ → (our their : ℕ) → Ask
limited_ask f our their = record { checks = limited_checks f our their; table = file_table f }

-- the same with a relay, of the split table (#113)
abbrev pub relayed_ask : List ℕ → ℕ → Ask
relayed_ask f r = record { checks = relayed_checks f r; table = split (file_table f) r }

-- the list of sets is there past 11: a file's table, and the checks up to there
abbrev pub line_ask : List ℕ → Ask
line_ask f = record { checks = given_checks f ++ line_checks (file_table f); table = file_table f }

abbrev pub relayed_line_ask : List ℕ → ℕ → Ask
relayed_line_ask f r = record { checks = relayed_line_checks f r; table = split (file_table f) r }

-- a table that has passed all checks before a call's own
abbrev pub admitted : Table → Ask
admitted t = record { checks = []; table = t }

-- When admitted, the verdict also returns cut, L, h, reported load and the number of sets. A table with two rings has two cuts; the second
-- of a table with one is 0 (#112).
pub record Admitted (t : Table) (cut second interval hyper load sets : ℕ) : Type 0 where
  pub list : List ℕ
  pub listed : Sets t list
  pub cut_is : cut ≡ board_cut t clockwise
  pub second_is : second ≡ board_cut t counterclockwise
  pub interval_is : interval ≡ shortest t
  pub hyper_is : hyper ≡ hyperperiod t
  pub load_is : load ≡ reported t list
  pub sets_is : sets ≡ length list

abbrev pub Judged : (a : Ask) (number place cut second interval hyper load sets : ℕ) → Type 0
Judged a number place cut second interval hyper load sets =
    Call a.checks number place (Admitted a.table cut second interval hyper load sets)
    ((cut ≡ 0) × (second ≡ 0) × (interval ≡ 0) × (hyper ≡ 0) × (load ≡ 0) × (sets ≡ 0))

-- Returns the length of the list, and fills a slice with it.
abbrev pub Listed : (a : Ask) (was now : List ℕ) (number place sets : ℕ) → Type 0
Listed a was now number place sets =
    Call (sets_checks a.checks a.table (length was)) number place
    ((ws : List ℕ) × Sets a.table ws × (sets ≡ length ws) × (now ≡ lent ws was))
    ((sets ≡ 0) × (now ≡ was))

abbrev pub Planned : (a : Ask) (was now : List ℕ) (number place : ℕ) → Type 0
Planned a was now number place =
    Call (plan_checks a.checks a.table (length was)) number place
    ((ws : List ℕ) × WholePlan a.table ws × (now ≡ lent ws was)) (now ≡ was)

abbrev pub Stepped : (a : Ask) (p q : Planner) (was now : List ℕ) (number place : ℕ) → Type 0
Stepped a p q was now number place =
    Call (step_checks a.checks a.table p (length was)) number place
    ((ws : List ℕ) × Step a.table p q ws × (now ≡ lent ws was)) ((q ≡ p) × (now ≡ was))

-- All 64 standings are given together, 0 past the last row.
abbrev pub Stood : (a : Ask) (p : Planner) (standings : ℕ → ℤ) (number place : ℕ) → Type 0
Stood a p standings number place =
    Call (standings_checks a.checks a.table p) number place
    (((i : ℕ) → i < a.table.rows → standings i ≡ standing a.table p i)
    × ((i : ℕ) → a.table.rows ≤ i → i < max_rows → standings i ≡ pos 0))
    ((i : ℕ) → i < max_rows → standings i ≡ pos 0)

-- Returns h and the number of entries, and fills a slice with the list in some form: numbers in memory, or the bytes of its file (#101).
abbrev pub ListMade : (a : Ask) (plan : List ℕ) (element : ℕ) (form : ElementList → List ℕ) (was now : List ℕ)
    (number place hyper entries : ℕ) → Type 0
ListMade a plan element form was now number place hyper entries =
    Call (maker_checks a.checks a.table plan element (length was) (length (form (moves_list a.table element plan)))) number place
    ((hyper ≡ (moves_list a.table element plan).hyper) × (entries ≡ (moves_list a.table element plan).entries)
    × (now ≡ lent (form (moves_list a.table element plan)) was))
    ((hyper ≡ 0) × (entries ≡ 0) × (now ≡ was))

-- Returns element, hyperperiod and number of entries of a list file, and fills a slice with three numbers an entry (#101).
abbrev pub ListRead : (file was now : List ℕ) (number place element hyper entries : ℕ) → Type 0
ListRead file was now number place element hyper entries =
    Call (list_reader_checks file (length was)) number place
    ((element ≡ (file_list file).element) × (hyper ≡ (file_list file).hyper) × (entries ≡ (file_list file).entries)
    × (now ≡ lent (list_numbers (file_list file)) was))
    ((element ≡ 0) × (hyper ≡ 0) × (entries ≡ 0) × (now ≡ was))

-- Takes an element, a hyperperiod and a slice of three numbers an entry (#101).
abbrev pub ListWritten : (element hyper : ℕ) (xs was now : List ℕ) (number place : ℕ) → Type 0
ListWritten element hyper xs was now number place =
    Call (list_writer_checks element hyper xs (length was)) number place (now ≡ lent (list_bytes (memory_list element hyper xs)) was)
    (now ≡ was)

abbrev pub c_answer : ℕ → ℕ → ℕ
c_answer number place = 256 * number + place
