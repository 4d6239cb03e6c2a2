-- What is written from one place of a lent slice on.
--
--   Puts text was at now next    a slice that held `was` holds `now`, with text from place `at` on as far as there is room; `next` is the
--                                place after the text
--   limit                        places are below it, so that none wraps
--   field_most                   no number takes more bytes, with the space before it
--   line_of w xs                  the line of the word w and the numbers xs
--   max_line                     none of the programs' lines is longer
--   PutsLine                     a line written from one place of a slice on
--   PutsLines                    lines, so written, at most n of them
use Rattle.std.specs.Prelude.{◌≡◌, List, ℕ, ◌+◌, ◌*◌, ◌≤◌, length}
use Rattle.std.proofs.lemmas.List.Edits.{sets}
use Rattle.rules.specs.Text.{Line, text_of, text}

abbrev pub limit : ℕ
limit = 0x100000000

abbrev pub field_most : ℕ
field_most = 21

abbrev pub line_of : List ℕ → List ℕ → Line
line_of w xs = record { word = w; numbers = xs }

pub record Puts (text was : List ℕ) (at : ℕ) (now : List ℕ) (next : ℕ) : Type 0 where
  pub holds : now ≡ sets was at text
  pub after : next ≡ at + length text
  pub same : length now ≡ length was

abbrev pub max_line : ℕ
max_line = 64

abbrev pub PutsLine : (l : Line) (was : List ℕ) (at : ℕ) (now : List ℕ) (next : ℕ) → Type 0
PutsLine l was at now next = Puts (text_of l) was at now next × (next ≤ at + max_line)

abbrev pub PutsLines : (ls : List Line) (n : ℕ) (was : List ℕ) (at : ℕ) (now : List ℕ) (next : ℕ) → Type 0
PutsLines ls n was at now next = Puts (text ls) was at now next × (next ≤ at + max_line * n)
