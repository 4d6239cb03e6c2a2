-- What stands in a lent slice after a call that writes lines to it.
--
--   cuts c o           the lines of the cuts c and o, of which o is 0 where there is one ring
--   word_line b k w    the line of slot k, whose word is w, or where b is false that of a set whose word is w
--   max_size           no report is longer
--   RenderedFor a      the lines of the ask a, as they are written
--   Rendered input, RelayRendered input r    what `render` and `render_relayed` write and return
--   RenderedOn a       what `put_analysis` writes and returns of an analysis
--
-- `was` and `now` are what the lent slice holds before and after. Only one answer fits (proofs/Only).
use Rattle.std.specs.Prelude.{Bool, true, false, cond, List, [], ◌∷◌, ℕ, ◌+◌, ◌*◌, ◌≤◌, eqb, take, Result, IfOk, IfErr}
use Rattle.rules.specs.Bounds.{max_rows, max_slots}
use Rattle.rules.specs.Bus.{Table}
use Rattle.rules.specs.Calls.{Ask, file_ask, relayed_ask, admitted}
use Rattle.rules.specs.Text.{Line, text}
use Rattle.rules.specs.Program.{verdict, cut, set, slot, max_input, PrintedFor}
use Rattle.decimal.specs.Puts.{Puts, PutsLine, max_line}
use Rattle.table.specs.Refusal.{number_of}
use Rattle.table.specs.declared.refusals.Refusal.{Refusal}
use Rattle.verdict.specs.declared.Analysis.{Analysis}
use Rattle.verdict.specs.Analysed.{Accepted}

abbrev pub cuts : ℕ → ℕ → List Line
cuts c o = cut c ∷ cond (eqb o 0) [] (cut o ∷ [])

abbrev pub word_line : Bool → ℕ → ℕ → Line
word_line true k w = slot k w
word_line false k w = set w

-- the verdict, two cuts, the three values, the sets and the slots
abbrev pub max_size : ℕ
max_size = max_line * (6 + max_rows + max_slots)

-- The lines of an ask stand at the front of the slice, as far as there is room; `size` is how many bytes they are.
pub record RenderedFor (a : Ask) (was now : List ℕ) (size : ℕ) : Type 0 where
  pub lines : List Line
  pub printed : PrintedFor a lines
  pub puts : Puts (text lines) was 0 now size
  pub fits : size ≤ max_size

-- those of the program
abbrev pub Rendered : (input was now : List ℕ) (size : ℕ) → Type 0
Rendered input = RenderedFor (file_ask (take max_input input))

-- and of the one with a relay (#113)
abbrev pub RelayRendered : (input : List ℕ) (relay : ℕ) (was now : List ℕ) (size : ℕ) → Type 0
RelayRendered input relay = RenderedFor (relayed_ask (take max_input input) relay)

-- Of an analysis, whatever it was made from: its refusal, or the lines of its table.
pub record RenderedOn (a : Result Analysis Refusal) (was now : List ℕ) (size : ℕ) : Type 0 where
  pub done : IfOk a (λ x. (t : Table) → Accepted t x → RenderedFor (admitted t) was now size)
  pub refused : IfErr a (λ e. PutsLine (verdict (number_of e.reason) e.place) was 0 now size)
