-- What stands in a lent slice after a call that prints a list, or writes one.
--
--   max_size                no report is longer
--   Rendered P              lines that P allows stand at the front of the slice, as far as there is room; `size` is how many bytes they are
--   blank                   the memory that the plan is written to
--   ListWrittenFor f e      the list file of element e's moves in the plan of file f's table stands there, or a refusal's line
--
-- `was` and `now` are what the lent slice holds before and after. Only one answer fits (proofs/ListOnly).
use Rattle.std.specs.Prelude.{◌≡◌, ◌≢◌, List, ℕ, ◌+◌, ◌*◌, ◌≤◌, replicate, Result}
use Rattle.rules.specs.Bounds.{max_slots}
use Rattle.rules.specs.ElementList.{list_header, entry_size, list_bytes}
use Rattle.rules.specs.Text.{Line, text}
use Rattle.rules.specs.Program.{list}
use Rattle.rules.specs.Calls.{file_ask, one_ring_ask, ListMade}
use Rattle.table.specs.declared.refusals.Refusal.{Refusal}
use Rattle.planner.specs.Answers.{PlanAnswer}
use Rattle.decimal.specs.Puts.{max_line, Puts, PutsLine}

-- the answer, the element, the hyperperiod and the entries
abbrev pub max_size : ℕ
max_size = max_line * (3 + 2 * max_slots)

pub record Rendered (P : List Line → Type 0) (was now : List ℕ) (size : ℕ) : Type 0 where
  pub lines : List Line
  pub printed : P lines
  pub puts : Puts (text lines) was 0 now size
  pub fits : size ≤ max_size

abbrev pub blank : List ℕ
blank = replicate max_slots 0

pub record ListWrittenFor (f : List ℕ) (e : ℕ) (was now : List ℕ) (size : ℕ) : Type 0 where
  pub answer : Result Unit Refusal
  pub plan : List ℕ
  pub planned : PlanAnswer (file_ask f) answer blank plan
  pub number : ℕ
  pub place : ℕ
  pub hyper : ℕ
  pub entries : ℕ
  pub between : List ℕ
  pub made : ListMade (one_ring_ask f) plan e list_bytes was between number place hyper entries
  pub done : number ≡ 0 → (now ≡ between) × (size ≡ list_header + entry_size * entries)
  pub refused : number ≢ 0 → PutsLine (list number place) was 0 now size
