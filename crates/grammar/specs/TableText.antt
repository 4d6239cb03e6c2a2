-- Tables in text, for people.
--
--     elements 4                     # how many elements the ring has
--     # cost period first second [label]
--     2 4 1 3
--     1 4 2 4 700                    # the label comes from the wiring list
--
--     board 4                        # two rings, one each way, join these elements
--     # cost period first second direction
--     2 4 1 3 0                      # clockwise
--     1 4 2 4 1                      # counterclockwise
--
-- A text is lines. What follows a `#` on a line is a comment. What is left of a line is fields, with blanks between them; a line with no
-- field counts for nothing. The first line with a field is the heading: the word `elements`, or `board` where there are two rings, and M.
-- Every other is a row: cost, period, first, second and a last field: its direction where there are two rings, else its label where it has
-- one. A number is decimal digits, with as many zeros before it as one likes.
--
--   is_newline, is_hash, is_blank    what ends a line, what begins a comment, what stands between fields
--   Part                 some bytes of a text and the place where they start; places count bytes, from 0
--   parts p k bs         the parts of bs between the bytes that p marks, where bs starts at place k
--   until p bs           how many bytes of bs come before the first that p marks
--   uncommented l        the line l as far as its comment
--   fields l             the fields of line l
--   lines t              the lines of text t that have a field
--   field l k            field number k of line l; past the last one no bytes, at the line's end
--   heading t, row t i   the first of these lines, and row i's; past the last one no bytes, at the text's end
--   number q             the number in field q; 0 where it has no bytes
--   last l               the last field of row l: its direction or its label
--   rings_in l            how many rings heading l says
--   text_table t          the table that text t says
--   text_labelled t       that table and its labels
--   text_mark t           the mark of its file
--   text_version t        the version of its file: 2 where some row has a label
--   text_checks t        what is refused of text t, in order; the place is a place of the text
--   line_at, column_at t k   the line and the column of place k, counted from 1
--   TextRead             what the reader of texts answers
--   table_text v t        the text of table t, in version 2 with labels
--   TextWritten          what the writer of texts answers
use Rattle.std.specs.Prelude.{◌≡◌, ◌≢◌, Bool, true, false, ◌&&◌, ◌||◌, cond, List, [], ◌∷◌, ◌++◌, map, ℕ, suc, ◌+◌, ◌-◌, ◌*◌, ◌<◌, ◌≤◌, min, eqb, leb, length, take, get_or}
use Rattle.numbers.specs.Finite.{any, lowest, count}
use Rattle.numbers.specs.Lists.{at, each}
use Rattle.rules.specs.Bounds.{max_rows, max_rings}
use Rattle.rules.specs.Bus.{Table, Labelled}
use Rattle.rules.specs.TableFile.{version_1, version_2, row_numbers, rings_of, mark_of, last_size, way_in, label_in, last_number_of}
use Rattle.rules.specs.TableFile.{numbers, memory_labelled_with}
use Rattle.rules.specs.Refusals.{Check, refuse, short_output, unknown_mark, wrong_elements, wrong_ends, wrong_period, wrong_cost}
use Rattle.rules.specs.Refusals.{wrong_way, version_checks}
use Rattle.rules.specs.Calls.{Call, lent, no_mark}
use Rattle.rules.specs.Text.{Line, says, letters, decimal, space, newline, text}
use Rattle.decimal.specs.Plain.{value, Digits}

-- ---- bytes

abbrev pub is_newline : ℕ → Bool
is_newline b = eqb b newline

abbrev pub is_hash : ℕ → Bool
is_hash b = eqb b 0x23

-- a space, a tab, or the carriage return that some editors write before a newline
abbrev pub is_blank : ℕ → Bool
is_blank b = eqb b space || eqb b 0x09 || eqb b 0x0D

-- ---- parts

pub record Part : Type 0 where
  pub start : ℕ
  pub bytes : List ℕ

abbrev pub part : ℕ → List ℕ → Part
part k bs = record { start = k; bytes = bs }

-- byte b, at place k, stands before the bytes of the first part
abbrev pub before : ℕ → ℕ → List Part → List Part
before k b [] = []
before k b (q ∷ qs) = part k (b ∷ q.bytes) ∷ qs

unfoldable pub parts : (ℕ → Bool) → ℕ → List ℕ → List Part
parts p k [] = part k [] ∷ []
parts p k (b ∷ bs) = cond (p b) (part k [] ∷ parts p (suc k) bs) (before k b (parts p (suc k) bs))

abbrev pub until : (ℕ → Bool) → List ℕ → ℕ
until p bs = lowest (length bs) (λ i. p (at bs i))

-- ---- lines and fields

abbrev pub some {ℓ} : {A : Type ℓ} → List A → Bool
some [] = false
some (x ∷ xs) = true

-- those of qs that p keeps, in their order
unfoldable pub kept : (Part → Bool) → List Part → List Part
kept p [] = []
kept p (q ∷ qs) = cond (p q) (q ∷ kept p qs) (kept p qs)

abbrev pub fields : Part → List Part
fields l = kept (λ q. some q.bytes) (parts is_blank l.start l.bytes)

abbrev pub uncommented : Part → Part
uncommented l = part l.start (take (until is_hash l.bytes) l.bytes)

unfoldable pub lines : List ℕ → List Part
lines t = kept (λ l. some (fields l)) (map uncommented (parts is_newline 0 t))

unfoldable pub field : Part → ℕ → Part
field l k = get_or (fields l) k (part (l.start + length l.bytes) [])

abbrev pub heading : List ℕ → Part
heading t = get_or (lines t) 0 (part (length t) [])

abbrev pub row : List ℕ → ℕ → Part
row t i = get_or (lines t) (suc i) (part (length t) [])

-- ---- what a text says

abbrev pub number : Part → ℕ
number q = value q.bytes

-- its direction where there are two rings, else its label
abbrev pub last : Part → Part
last l = field l 4

-- The two words that a heading can begin with, `elements` and `board`, differ in the first byte.
unfoldable pub rings_in : Part → ℕ
rings_in l = cond (eqb (at (field l 0).bytes 0) 0x62) max_rings 1

abbrev pub text_rings : List ℕ → ℕ
text_rings t = rings_in (heading t)

abbrev pub text_table : List ℕ → Table
text_table t = record {
  elements = number (field (heading t) 1);
  rows = length (lines t) - 1;
  rings = text_rings t;
  cost = λ i. number (field (row t i) 0);
  period = λ i. number (field (row t i) 1);
  first = λ i. number (field (row t i) 2);
  second = λ i. number (field (row t i) 3);
  way = λ i. way_in (text_rings t) (number (last (row t i)));
}

abbrev pub text_labelled : List ℕ → Labelled
text_labelled t = record { table = text_table t; label = λ i. label_in (text_rings t) (number (last (row t i))) }

abbrev pub text_mark : List ℕ → List ℕ
text_mark t = mark_of (text_rings t)

-- A table with two rings has version 1 alone.
unfoldable pub text_version : List ℕ → ℕ
text_version t =
    cond (eqb (text_rings t) max_rings) version_1 (cond (any (text_table t).rows (λ i. some (last (row t i)).bytes)) version_2 version_1)

-- ---- what is refused of a text: 33 to 38 are its own, the others document 01's, told at the field that breaks the rule

abbrev pub max_text : ℕ
max_text = 65536

abbrev pub max_number : ℕ
max_number = 65535

-- check c, told at place k
abbrev pub placed : ℕ → Check → Check
placed k c = refuse c.number k c.applies

-- the text has more bytes than are read; the place is the first of those
abbrev pub long_text : List ℕ → Check
long_text t = refuse 33 max_text (max_text < length t)

-- field q is no number
abbrev pub no_number : Part → Check
no_number q = refuse 34 q.start (¬ Digits q.bytes)

-- it is a number that 16 bits don't hold
abbrev pub large_number : Part → Check
large_number q = refuse 35 q.start (max_number < number q)

-- the first line with a field begins neither with `elements` nor with `board`
abbrev pub no_heading : Part → Check
no_heading l = refuse 36 (field l 0).start (((field l 0).bytes ≢ letters "elements") × ((field l 0).bytes ≢ letters "board"))

-- a field is missing
abbrev pub missing_field : Part → Check
missing_field q = refuse 37 q.start (q.bytes ≡ [])

-- a field is one too many
abbrev pub spare_field : Part → Check
spare_field q = refuse 38 q.start (q.bytes ≢ [])

abbrev pub number_checks : Part → List Check
number_checks q = no_number q ∷ large_number q ∷ []

-- the row that line l says, of M elements and r rings
abbrev pub row_table : (r M : ℕ) → Part → Table
row_table r M l = record {
  elements = M;
  rows = 1;
  rings = r;
  cost = λ i. number (field l 0);
  period = λ i. number (field l 1);
  first = λ i. number (field l 2);
  second = λ i. number (field l 3);
  way = λ i. way_in r (number (last l));
}

-- the end that breaks rule 7: the second, where the first is an element of the ring
abbrev pub wrong_end : ℕ → Part → Part
wrong_end M l = cond (leb 1 (number (field l 2)) && leb (number (field l 2)) M) (field l 3) (field l 2)

unfoldable pub heading_checks : Part → List Check
heading_checks l =
    no_heading l ∷ (number_checks (field l 1)
    ++ (missing_field (field l 1) ∷ spare_field (field l 2)
    ∷ placed (field l 1).start (wrong_elements (row_table 1 (number (field l 1)) l)) ∷ []))

-- the last field that a row must have: its second end or, with two rings, its direction
unfoldable pub needed : ℕ → ℕ
needed r = cond (eqb r max_rings) 4 3

-- the fields of a row, from left to right
unfoldable pub form_checks : ℕ → Part → List Check
form_checks r l =
    each 4 (λ k. number_checks (field l k))
    ++ (number_checks (last l) ++ (missing_field (field l (needed r)) ∷ spare_field (field l 5) ∷ []))

-- 7, 8, 9 and 26
unfoldable pub value_checks : (r M : ℕ) → Part → List Check
value_checks r M l =
    placed (wrong_end M l).start (wrong_ends (row_table r M l) 0) ∷ placed (field l 1).start (wrong_period (row_table r M l) 0)
    ∷ placed (field l 0).start (wrong_cost (row_table r M l) 0) ∷ placed (last l).start (wrong_way (row_table r M l) 0) ∷ []

-- of row i, on line l: whether it is one too many, its form, its numbers
unfoldable pub text_row_checks : (r M : ℕ) → Part → ℕ → List Check
text_row_checks r M l i = refuse 5 (field l 0).start (max_rows ≤ i) ∷ (form_checks r l ++ value_checks r M l)

-- line by line, and at the end that there is a row
unfoldable pub text_line_checks : List ℕ → List Check
text_line_checks t =
    heading_checks (heading t)
    ++ (each (text_table t).rows (λ i. text_row_checks (text_rings t) (text_table t).elements (row t i) i)
    ++ (refuse 5 (length t) ((text_table t).rows ≡ 0) ∷ []))

unfoldable pub text_checks : List ℕ → List Check
text_checks t = long_text t ∷ text_line_checks t

-- the reader then 17
unfoldable pub text_reader_checks : List ℕ → ℕ → List Check
text_reader_checks t room = text_checks t ++ (short_output (room < row_numbers * (text_table t).rows) ∷ [])

-- ---- where a place is; past the text's end it is the end

unfoldable pub line_at : List ℕ → ℕ → ℕ
line_at t k = suc (count (min k (length t)) (λ i. is_newline (at t i)))

-- how many bytes lie between it and the newline before it, or the beginning of the text
unfoldable pub column_at : List ℕ → ℕ → ℕ
column_at t k = let m : ℕ = min k (length t) in suc (lowest m (λ j. is_newline (at t (m - suc j))))

-- ---- the reader: returns mark, version, M and the row count, and fills a slice with five numbers a row

abbrev pub TextRead : (t was now : List ℕ) (number place : ℕ) (mark : List ℕ) (version elements rows : ℕ) → Type 0
TextRead t was now number place mark version elements rows =
    Call (text_reader_checks t (length was)) number place
    ((mark ≡ text_mark t) × (version ≡ text_version t) × (elements ≡ (text_table t).elements) × (rows ≡ (text_table t).rows)
    × (now ≡ lent (numbers (text_labelled t)) was))
    ((mark ≡ no_mark) × (version ≡ 0) × (elements ≡ 0) × (rows ≡ 0) × (now ≡ was))

-- ---- the text of a table, one space between fields

unfoldable pub head_line : (r M : ℕ) → Line
head_line r M = cond (eqb r max_rings) (says "board" (M ∷ [])) (says "elements" (M ∷ []))

-- a row's direction or its label, where its file has one
unfoldable pub last_numbers : (r v x : ℕ) → List ℕ
last_numbers r v x = cond (eqb (last_size r v) 0) [] (x ∷ [])

-- what stands in a row, as a comment
unfoldable pub note : (r v : ℕ) → Line
note r v =
    cond (eqb r max_rings) (says "# cost period first second direction" [])
    (cond (eqb v version_2) (says "# cost period first second label" []) (says "# cost period first second" []))

abbrev pub row_line : ℕ → Labelled → ℕ → Line
row_line v t i = record {
  word = decimal (t.table.cost i);
  numbers = t.table.period i ∷ t.table.first i ∷ t.table.second i ∷ last_numbers t.table.rings v (last_number_of t i);
}

unfoldable pub table_text : ℕ → Labelled → List ℕ
table_text v t =
    text
    (head_line t.table.rings t.table.elements ∷ note t.table.rings v ∷ each t.table.rows (λ i. row_line v t i ∷ []))

-- ---- the writer: takes mark, version, M, the row count and a slice of five numbers a row, and returns how many bytes the text has

abbrev pub memory_text : List ℕ → (v M n : ℕ) → List ℕ → List ℕ
memory_text m v M n xs = table_text v (memory_labelled_with (rings_of m) M n xs)

unfoldable pub text_writer_checks : List ℕ → (v M n : ℕ) (xs : List ℕ) (room : ℕ) → List Check
text_writer_checks m v M n xs room =
    unknown_mark m ∷ (version_checks (rings_of m) v M n xs ++ (short_output (room < length (memory_text m v M n xs)) ∷ []))

abbrev pub TextWritten : (mark : List ℕ) (version elements rows : ℕ) (xs was now : List ℕ) (number place size : ℕ) → Type 0
TextWritten mark version elements rows xs was now number place size =
    let t : List ℕ = memory_text mark version elements rows xs in
    Call (text_writer_checks mark version elements rows xs (length was)) number place
    ((now ≡ lent t was) × (size ≡ length t)) ((now ≡ was) × (size ≡ 0))
