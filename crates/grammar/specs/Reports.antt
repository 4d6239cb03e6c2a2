-- What the program of tables in text writes: the file of a text's table, or the text of a file's table; of a refusal, a line.
--
--   fault n l c        the line for a text: the refusal's number, and its line and column
--   refusal n p        the line for a file: the refusal's number and place
--   FileOf t bs        for text t it writes the bytes bs
--   TextOf f bs        for file f it writes the bytes bs
--   longest_text       no text of a table has more bytes
--   Made P was now n   bytes that P allows stand at the front of a lent slice, as far as there is room; n is how many they are
--
-- `was` and `now` are what the lent slice holds before and after. Only one answer fits (crate `file_report`, proofs/TextOnly).
use Rattle.std.specs.Prelude.{◌≢◌, List, [], ◌∷◌, ℕ, ◌≤◌}
use Rattle.rules.specs.TableFile.{version, file_labelled, bytes}
use Rattle.rules.specs.Text.{Line, says, text_of}
use Rattle.rules.specs.Refusals.{Answers, file_checks}
use Rattle.decimal.specs.Puts.{Puts}
use Rattle.grammar.specs.TableText.{text_labelled, text_version, text_checks, line_at, column_at, table_text}

abbrev pub fault : (number line column : ℕ) → Line
fault number line column = says "text" (number ∷ line ∷ column ∷ [])

abbrev pub refusal : (number place : ℕ) → Line
refusal number place = says "file" (number ∷ place ∷ [])

pub data FileOf (t : List ℕ) : List ℕ → Type 0 where
  refused : (number place : ℕ) → Answers (text_checks t) number place → number ≢ 0
      → FileOf t (text_of (fault number (line_at t place) (column_at t place)))
  made : Answers (text_checks t) 0 0 → FileOf t (bytes (text_version t) (text_labelled t))

pub data TextOf (f : List ℕ) : List ℕ → Type 0 where
  refused : (number place : ℕ) → Answers (file_checks f) number place → number ≢ 0 → TextOf f (text_of (refusal number place))
  made : Answers (file_checks f) 0 0 → TextOf f (table_text (version f) (file_labelled f))

abbrev pub longest_text : ℕ
longest_text = 2048

pub record Made (P : List ℕ → Type 0) (was now : List ℕ) (size : ℕ) : Type 0 where
  pub bytes : List ℕ
  pub allowed : P bytes
  pub puts : Puts bytes was 0 now size
  pub fits : size ≤ longest_text
