-- What is found of a text, from one place on.
--
--   between a e bs       the bytes from place a up to place e
--   is_sign s b           byte b is s
--   blank_is w b          byte b is a blank, or with w false none
--   fields_at l k         the fields of line l from byte k of it on
--   IsNext l k r         r is the first of these, or an empty stretch at the line's end
--   IsField l k r        r is field number k of line l
--   whole_lines t k       the lines of text t, as far as their comments, from place k on; past the text's end there are none
--   lines_at t k          those of them that have a field
--   IsLine t k r         r is the line that starts at place k
--   IsNextLine t k r     r is the first line that has a field, or an empty one at the text's end
--   IsCell q r           r is what is refused of field q, or its number
--   IsSpot t k r         r is the line and the column of place k
use Rattle.std.specs.Prelude.{◌≡◌, Bool, not, cond, List, [], ◌∷◌, map, ℕ, ◌+◌, ◌-◌, ◌≤◌, ◌<◌, eqb, ltb, length, take, drop, Result, IfOk}
use Rattle.rules.specs.Refusals.{Answers}
use Rattle.grammar.specs.TableText.{Part, part, is_newline, is_blank, parts, some, kept, fields, uncommented, field, number, number_checks}
use Rattle.grammar.specs.TableText.{line_at, column_at}
use Rattle.text_reader.specs.declared.fields.Span.{Span}
use Rattle.text_reader.specs.declared.fields.Line.{Line}
use Rattle.text_reader.specs.declared.faults.Fault.{Fault}
use Rattle.text_reader.specs.Faults.{number as told, place}
use Rattle.text_reader.specs.declared.fields.Spot.{Spot}

abbrev pub between : (a e : ℕ) → List ℕ → List ℕ
between a e bs = take (e - a) (drop a bs)

abbrev pub is_sign : ℕ → ℕ → Bool
is_sign s b = eqb b s

abbrev pub blank_is : Bool → ℕ → Bool
blank_is w b = cond w (is_blank b) (not (is_blank b))

-- ---- fields

abbrev pub fields_at : Part → ℕ → List Part
fields_at l k = fields (part (l.start + k) (drop k l.bytes))

abbrev pub spanned : Part → Span → Part
spanned l r = part (l.start + r.start) (between r.start r.end l.bytes)

pub record IsNext (l : Part) (k : ℕ) (r : Span) : Type 0 where
  pub low : k ≤ r.start
  pub ordered : r.start ≤ r.end
  pub high : r.end ≤ length l.bytes
  pub none : r.start ≡ r.end → (fields_at l k ≡ []) × (r.start ≡ length l.bytes)
  pub one : r.start < r.end → fields_at l k ≡ spanned l r ∷ fields_at l r.end

pub record IsField (l : Part) (k : ℕ) (r : Span) : Type 0 where
  pub ordered : r.start ≤ r.end
  pub high : r.end ≤ length l.bytes
  pub is : field l k ≡ spanned l r

-- ---- lines

abbrev pub whole_lines : List ℕ → ℕ → List Part
whole_lines t k = cond (ltb (length t) k) [] (map uncommented (parts is_newline k (drop k t)))

abbrev pub lines_at : List ℕ → ℕ → List Part
lines_at t k = kept (λ l. some (fields l)) (whole_lines t k)

abbrev pub line_of : List ℕ → Line → Part
line_of t r = part r.start (between r.start r.end t)

pub record IsLine (t : List ℕ) (k : ℕ) (r : Line) : Type 0 where
  pub start : r.start ≡ k
  pub ordered : r.start ≤ r.end
  pub high : r.end < r.next
  pub past : r.next ≤ length t + 1
  pub is : whole_lines t k ≡ line_of t r ∷ whole_lines t r.next

pub record IsNextLine (t : List ℕ) (k : ℕ) (r : Line) : Type 0 where
  pub ordered : r.start ≤ r.end
  pub high : r.end ≤ length t
  pub past : r.next ≤ length t + 1
  pub none : r.start ≡ r.end → (lines_at t k ≡ []) × (r.start ≡ length t)
  pub one : r.start < r.end → lines_at t k ≡ line_of t r ∷ lines_at t r.next

-- ---- numbers and places

pub record IsCell (q : Part) (r : Result ℕ Fault) : Type 0 where
  pub answers : Answers (number_checks q) (told r) (place r)
  pub value : IfOk r (λ v. v ≡ number q)

-- no text has more bytes
abbrev pub most : ℕ
most = 0x7FFFFFFFFFFFFFFF

-- line and column of the byte after b, which stands at s
abbrev pub stepped : Spot → ℕ → Spot
stepped s b = cond (is_newline b) (record { line = s.line + 1; column = 1 }) (record { line = s.line; column = s.column + 1 })

pub record IsSpot (t : List ℕ) (k : ℕ) (r : Spot) : Type 0 where
  pub line : r.line ≡ line_at t k
  pub column : r.column ≡ column_at t k
