-- Document 01, "The program and one whole output", #102's program that says where rows meet, and #101's that shows a list of an element.
--
--   verdict, cut, interval, hyper, load, set, slot    the program's lines, each with its numbers
--   cut_lines t        the lines of the cuts, one for each ring, clockwise first (#112)
--   values l h x       the lines of L, h and reported load
--   set_lines ws       the lines of the overlap sets whose words are ws
--   slot_lines ws      the lines of the slots whose words are ws
--   table_lines t ws vs    the lines of an admitted table with the sets ws and the plan vs
--   max_input          it reads at most so many bytes
--   PrintedFor a ls    the lines ls are printed for the ask a
--   Printed input ls   the program prints the lines ls for what stands on its standard input
--   RelayPrinted input r ls    so does the one with the relay r (#113)
--   shared, row, segment    the lines of the program that says where rows meet
--   row_lines w        the lines of the rows whose word is w, ascending
--   segment_lines w    the lines of the segments whose word is w, ascending
--   MeetingPrinted file i j ls   it prints the lines ls for rows i and j of the table on its standard input
--   CrowdPrinted file k ls       it prints the lines ls for set number k
--   list, element, receive, send    the lines of the program that shows a list of an element
--   entry_lines l      the lines of a list's entries, in their order
--   ListPrinted file ls          it prints the lines ls for the list file on its standard input
use Rattle.std.specs.Prelude.{◌≡◌, ◌≢◌, cond, List, [], ◌∷◌, ◌++◌, ℕ, suc, eqb, length, take}
use Rattle.numbers.specs.Lists.{at, each}
use Rattle.numbers.specs.Word.{bit}
use Rattle.rules.specs.Bounds.{max_elements, max_rows}
use Rattle.rules.specs.Bus.{Table}
use Rattle.rules.specs.Line.{Sets}
use Rattle.rules.specs.Line as line
use Rattle.rules.specs.Loads.{hyperperiod, shortest, reported}
use Rattle.rules.specs.ElementList.{Entry, ElementList, file_list}
use Rattle.rules.specs.Planner.{WholePlan}
use Rattle.rules.specs.Refusals.{Answers, list_file_checks}
use Rattle.rules.specs.Calls.{Met, Crowded, Ask, file_ask, relayed_ask}
use Rattle.rules.specs.Text.{Line, says}

-- ---- its lines

abbrev pub verdict : ℕ → ℕ → Line
verdict number place = says "verdict" (number ∷ place ∷ [])

abbrev pub cut : ℕ → Line
cut element = says "cut" (element ∷ [])

abbrev pub interval : ℕ → Line
interval slots = says "interval" (slots ∷ [])

abbrev pub hyper : ℕ → Line
hyper slots = says "hyper" (slots ∷ [])

abbrev pub load : ℕ → Line
load thousandths = says "load" (thousandths ∷ [])

abbrev pub set : ℕ → Line
set word = says "set" (word ∷ [])

abbrev pub slot : ℕ → ℕ → Line
slot number word = says "slot" (number ∷ word ∷ [])

-- ---- what it prints

abbrev pub cut_lines : Table → List Line
cut_lines t = each t.rings (λ d. cut (line.board_cut t d) ∷ [])

abbrev pub values : ℕ → ℕ → ℕ → List Line
values l h x = interval l ∷ hyper h ∷ load x ∷ []

abbrev pub set_lines : List ℕ → List Line
set_lines ws = each (length ws) (λ k. set (at ws k) ∷ [])

abbrev pub slot_lines : List ℕ → List Line
slot_lines ws = each (length ws) (λ s. slot s (at ws s) ∷ [])

-- one byte more than the longest table file has
abbrev pub max_input : ℕ
max_input = 520

-- the lines of an admitted table t, of its overlap sets and of its plan
abbrev pub table_lines : Table → (sets plan : List ℕ) → List Line
table_lines t sets plan =
    verdict 0 0 ∷ (cut_lines t ++ (values (shortest t) (hyperperiod t) (reported t sets) ++ (set_lines sets ++ slot_lines plan)))

-- On a refusal it prints its first line only.
pub data PrintedFor (a : Ask) : List Line → Type 0 where
  refused : (number place : ℕ) → Answers a.checks number place → number ≢ 0 → PrintedFor a (verdict number place ∷ [])
  admitted : (sets plan : List ℕ) → Answers a.checks 0 0 → Sets a.table sets → WholePlan a.table plan
      → PrintedFor a (table_lines a.table sets plan)

abbrev pub Printed : (input : List ℕ) → List Line → Type 0
Printed input = PrintedFor (file_ask (take max_input input))

-- With a relay sets and slots are those of split rows.
abbrev pub RelayPrinted : (input : List ℕ) (relay : ℕ) → List Line → Type 0
RelayPrinted input relay = PrintedFor (relayed_ask (take max_input input) relay)

-- ---- where rows meet (#102): number and place, a line for each row of a set, and one for each segment that the rows share

abbrev pub shared : ℕ → ℕ → Line
shared number place = says "shared" (number ∷ place ∷ [])

abbrev pub row : ℕ → Line
row number = says "row" (number ∷ [])

abbrev pub segment : ℕ → Line
segment number = says "segment" (number ∷ [])

abbrev pub row_lines : ℕ → List Line
row_lines w = each max_rows (λ i. cond (bit w i) (row i ∷ []) [])

abbrev pub segment_lines : ℕ → List Line
segment_lines w = each max_elements (λ s. cond (bit w s) (segment (suc s) ∷ []) [])

pub record MeetingPrinted (file : List ℕ) (i j : ℕ) (ls : List Line) : Type 0 where
  pub number : ℕ
  pub place : ℕ
  pub word : ℕ
  pub met : Met file i j number place word
  pub lines : ls ≡ shared number place ∷ segment_lines word

pub record CrowdPrinted (file : List ℕ) (k : ℕ) (ls : List Line) : Type 0 where
  pub number : ℕ
  pub place : ℕ
  pub rows : ℕ
  pub segments : ℕ
  pub crowded : Crowded file k number place rows segments
  pub lines : ls ≡ shared number place ∷ (row_lines rows ++ segment_lines segments)

-- ---- a list of an element (#101): number and place, element, hyperperiod, and a line for each entry with its slot and its row

abbrev pub list : ℕ → ℕ → Line
list number place = says "list" (number ∷ place ∷ [])

abbrev pub element : ℕ → Line
element number = says "element" (number ∷ [])

abbrev pub receive : ℕ → ℕ → Line
receive slot row = says "receive" (slot ∷ row ∷ [])

abbrev pub send : ℕ → ℕ → Line
send slot row = says "send" (slot ∷ row ∷ [])

abbrev pub entry : Entry → Line
entry x = cond (eqb x.way 0) (receive x.slot x.row) (send x.slot x.row)

abbrev pub entry_lines : ElementList → List Line
entry_lines l = each l.entries (λ k. entry (l.entry k) ∷ [])

-- On a refusal it prints its first line only.
pub data ListPrinted (file : List ℕ) : List Line → Type 0 where
  refused : (number place : ℕ) → Answers (list_file_checks file) number place → number ≢ 0 → ListPrinted file (list number place ∷ [])
  shown : Answers (list_file_checks file) 0 0
      → ListPrinted file (list 0 0 ∷ element (file_list file).element ∷ hyper (file_list file).hyper ∷ entry_lines (file_list file))
