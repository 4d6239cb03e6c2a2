-- Document 01, "Refusal numbers, in order of checking".
--
--   Check              a refusal: its number, its place, and the condition under which it is given
--   Answers cs n p     number n and place p answer the checks cs: those of the first that applies, or 0 and 0 where none does
--
-- Each refusal of the table stands here once, with its number; those that only a live table gives stand in specs/Live. Below are the calls'
-- own orders of checking.
use Rattle.std.specs.Prelude.{◌≡◌, ◌⊎◌, ◌≢◌, List, [], ◌∷◌, ◌++◌, ℕ, suc, ◌+◌, ◌-◌, ◌*◌, ◌%◌, ◌≤◌, ◌<◌, T, length}
use Rattle.numbers.specs.Lists.{at, each}
use Rattle.rules.specs.Bounds.{max_elements, max_rows, max_rings, max_slots}
use Rattle.rules.specs.Bus.{Table, Labelled, through, pasted}
use Rattle.rules.specs.TableFile.{table_mark, board_mark, version_1, version_2, header_size, row_size, row_numbers, mark, version}
use Rattle.rules.specs.TableFile.{rings_of, file_rings, file_table, file_labelled, memory_with, memory_labelled_with}
use Rattle.rules.specs.Line.{set_at, Sets}
use Rattle.rules.specs.Loads.{hyperperiod, start, end, light, over}
use Rattle.rules.specs.Parties.{max_limit, ours, theirs, own, is_over_limit}
use Rattle.rules.specs.Relay.{split}
use Rattle.rules.specs.ElementList.{
  ElementList,
  list_mark,
  list_version,
  list_header,
  entry_size,
  entry_numbers,
  file_list,
  memory_list,
  Rises,
  BadWord,
}
use Rattle.rules.specs.Planner.{Stage, due, finished, Planner, Off}

pub record Check : Type 1 where
  pub number : ℕ
  pub place : ℕ
  pub applies : Type 0

abbrev pub refuse : ℕ → ℕ → Type 0 → Check
refuse n p A = record { number = n; place = p; applies = A }

unfoldable pub Answers : List Check → ℕ → ℕ → Type 0
Answers [] n p = (n ≡ 0) × (p ≡ 0)
Answers (c ∷ cs) n p = (c.applies × (n ≡ c.number) × (p ≡ c.place)) ⊎ ((c.applies → ⊥) × Answers cs n p)

-- the highest number of the table below
abbrev pub last_number : ℕ
last_number = 32

-- x is one of a, a + 1, .., b
abbrev In : ℕ → ℕ → ℕ → Type 0
In x a b = (a ≤ x) × (x ≤ b)

-- ---- the table of refusals

-- file under 7 bytes
abbrev pub short_file : List ℕ → Check
short_file f = refuse 1 0 (length f < header_size)

-- mark is neither RBT nor RB2 (#112)
abbrev pub unknown_mark : List ℕ → Check
unknown_mark m = refuse 2 0 ((m ≢ table_mark) × (m ≢ board_mark))

-- mark is not RBT: where a table of one ring alone is taken
abbrev pub wrong_mark : List ℕ → Check
wrong_mark f = refuse 2 0 (mark f ≢ table_mark)

-- version is neither 1 nor, with one ring, 2 (#107, #112)
abbrev pub wrong_version : (r v : ℕ) → Check
wrong_version r v = refuse 3 0 ((v ≢ version_1) × ((v ≢ version_2) ⊎ (r ≡ max_rings)))

-- version is not 1: where version 1 alone is taken
abbrev pub not_version_1 : ℕ → Check
not_version_1 v = refuse 3 0 (v ≢ version_1)

-- M not in 2..32
abbrev pub wrong_elements : Table → Check
wrong_elements t = refuse 4 0 (¬ In t.elements 2 max_elements)

-- rows not in 1..64
abbrev pub wrong_rows : Table → Check
wrong_rows t = refuse 5 0 (¬ In t.rows 1 max_rows)

-- file length is not 7 + 6 × rows, 7 + 8 × rows in version 2, 7 + 7 × rows with two rings (writer: slice length is not 5 × rows)
abbrev pub wrong_length : ℕ → ℕ → Check
wrong_length has wants = refuse 6 0 (has ≢ wants)

-- an end not in 1..M, or both ends equal
abbrev pub wrong_ends : Table → ℕ → Check
wrong_ends t i = refuse 7 i (¬ In (t.first i) 1 t.elements ⊎ ¬ In (t.second i) 1 t.elements ⊎ (t.first i ≡ t.second i))

-- period not in 1..4096
abbrev pub wrong_period : Table → ℕ → Check
wrong_period t i = refuse 8 i (¬ In (t.period i) 1 max_slots)

-- cost 0 or above the period
abbrev pub wrong_cost : Table → ℕ → Check
wrong_cost t i = refuse 9 i (¬ In (t.cost i) 1 (t.period i))

-- the direction is none that the table has a ring for (#112)
abbrev pub wrong_way : Table → ℕ → Check
wrong_way t i = refuse 26 i (t.rings ≤ t.way i)

-- every element has some row of ring d through it
abbrev pub no_cut : Table → ℕ → Check
no_cut t d = refuse 10 d ((e : ℕ) → In e 1 t.elements → (i : ℕ) × (i < t.rows) × ((t.way i ≡ d) × T (through t i e)))

-- hyperperiod above 4096
abbrev pub long_hyperperiod : Table → Check
long_hyperperiod t = refuse 11 0 (max_slots < hyperperiod t)

-- periods differ, and cost × L is below the period
abbrev pub light_row : Table → ℕ → Check
light_row t i = refuse 13 i (T (light t i))

-- an overlap set is over its bound
abbrev pub over_bound : Table → ℕ → Check
over_bound t k = refuse 14 k ((ws : List ℕ) × Sets t ws × (k < length ws) × T (over t (set_at ws k)))

-- planner state is off
abbrev pub off_state : Table → Planner → Check
off_state t p = refuse 15 0 (Off t p)

-- planner has finished
abbrev pub has_finished : Planner → Check
has_finished p = refuse 16 0 (p.stage ≡ finished)

-- a lent output slice is too short; each call says below how short
abbrev pub short_output : Type 0 → Check
short_output A = refuse 17 0 A

-- a row has the ends and the period of an earlier one (#104); the place is the later row
abbrev pub pasted_row : Table → ℕ → Check
pasted_row t i = refuse 18 i (T (pasted t i))

-- a word of a plan has overlapping rows, or a bit past the last row (#101); the place is the slot. A plan that is too short has words of 0
-- past its end, which are neither.
abbrev pub bad_word : Table → List ℕ → ℕ → Check
bad_word t ws s = refuse 19 s (BadWord t (at ws s))

-- a label that version 1 can't hold (#107)
abbrev pub lost_label : ℕ → Labelled → ℕ → Check
lost_label v t i = refuse 20 i ((v ≡ version_1) × (t.label i ≢ 0))

-- a party's own table is over its limit on a segment (#108): 21 of our rows, 22 of the second maker's
abbrev pub over_limit : ℕ → Table → (limit s : ℕ) → Check
over_limit number t limit s = refuse number s (T (is_over_limit t limit s))

-- a limit is above 1,000 thousandths (#108)
abbrev pub wrong_limit : (our their : ℕ) → Check
wrong_limit our their = refuse 23 0 ((max_limit < our) ⊎ (max_limit < their))

-- a relay not in 1..M (#113)
abbrev pub wrong_relay : Table → ℕ → Check
wrong_relay t r = refuse 27 0 (¬ In r 1 t.elements)

-- more than 64 rows after splitting (#113)
abbrev pub many_rows : Table → ℕ → Check
many_rows t r = refuse 28 0 (max_rows < (split t r).rows)

-- an element not in 1..M (#101)
abbrev pub wrong_element : Table → ℕ → Check
wrong_element t e = refuse 29 0 (¬ In e 1 t.elements)

-- of a list of an element (#101): an element not in 1..32, or h not in 1..4096
abbrev pub wrong_list : ElementList → Check
wrong_list l = refuse 30 0 (¬ In l.element 1 max_elements ⊎ ¬ In l.hyper 1 max_slots)

-- a slot of h or more, row above 63, last byte above 1, or wrong order; the place is the entry, of two in wrong order the later
abbrev pub wrong_entry : ElementList → ℕ → Check
wrong_entry l k =
    refuse 31 k ((l.hyper ≤ (l.entry k).slot) ⊎ (max_rows ≤ (l.entry k).row) ⊎ (1 < (l.entry k).way) ⊎ ¬ Rises l k)

-- a row that is asked for is past the last (#102); the place is 0 for the first of the two rows, 1 for the second
abbrev pub no_row : Table → (place i : ℕ) → Check
no_row t place i = refuse 32 place (t.rows ≤ i)

-- or an overlap set
abbrev pub no_set : Table → ℕ → Check
no_set t k = refuse 32 0 ((ws : List ℕ) × Sets t ws × (length ws ≤ k))

-- ---- the orders of checking: rows are taken in ascending order, within a row 7, 8, 9, 26, and the lowest row or set is the place

-- 4 to 6, of a table whose file or slice has `has` places and is to have `wants`
abbrev pub size_checks : Table → (has wants : ℕ) → List Check
size_checks t has wants = wrong_elements t ∷ wrong_rows t ∷ wrong_length has wants ∷ []

-- the checks cs where a table of one ring alone is taken: 2 for RB2 too (#112)
abbrev pub one_ring_checks : List ℕ → List Check → List Check
one_ring_checks f cs = short_file f ∷ wrong_mark f ∷ cs

-- 1 to 6
unfoldable pub header_checks : List ℕ → List Check
header_checks f =
    short_file f ∷ unknown_mark (mark f) ∷ wrong_version (file_rings f) (version f)
    ∷ size_checks (file_table f) (length f) (header_size + row_size (file_rings f) (version f) * (file_table f).rows)

-- 7 to 9 of row i, then 26
abbrev pub faults : Table → ℕ → List Check
faults t i = wrong_ends t i ∷ wrong_period t i ∷ wrong_cost t i ∷ wrong_way t i ∷ []

unfoldable pub row_checks : Table → List Check
row_checks t = each t.rows (faults t)

-- 1 to 9, 26
unfoldable pub file_checks : List ℕ → List Check
file_checks f = header_checks f ++ row_checks (file_table f)

-- 18, after all of 7 to 9 and 26
unfoldable pub pasted_checks : Table → List Check
pasted_checks t = each t.rows (λ i. pasted_row t i ∷ [])

-- 1 to 9, then 18: what is refused of a table as it is given
unfoldable pub given_checks : List ℕ → List Check
given_checks f = file_checks f ++ pasted_checks (file_table f)

-- 10 for each ring, clockwise first
unfoldable pub cut_checks : Table → List Check
cut_checks t = each t.rings (λ d. no_cut t d ∷ [])

-- 10 and 11; 12, of two sets that tie, is retired (#106)
unfoldable pub line_checks : Table → List Check
line_checks t = cut_checks t ++ (long_hyperperiod t ∷ [])

-- 13 and 14. A table never has more overlap sets than rows.
unfoldable pub bound_checks : Table → List Check
bound_checks t = each t.rows (λ i. light_row t i ∷ []) ++ each t.rows (λ k. over_bound t k ∷ [])

-- 21 or 22: the lowest segment is the place
unfoldable pub segment_checks : ℕ → Table → ℕ → List Check
segment_checks number t limit = each t.elements (λ s. over_limit number t limit (suc s) ∷ [])

-- 21 for all segments, then 22
unfoldable pub limit_checks : Labelled → (our their : ℕ) → List Check
limit_checks t our their = segment_checks 21 (own ours t) our ++ segment_checks 22 (own theirs t) their

-- the reader uses 1 to 9, then 17
unfoldable pub reader_checks : List ℕ → ℕ → List Check
reader_checks f room = file_checks f ++ (short_output (room < row_numbers * (file_table f).rows) ∷ [])

-- the reader that takes RBT in version 1 alone: 2 for RB2, 3 for version 2 too, and what the reader refuses beside (#107, #112)
unfoldable pub version_1_checks : List ℕ → ℕ → List Check
version_1_checks f room = one_ring_checks f (not_version_1 (version f) ∷ reader_checks f room)

-- 4 to 9 and 26, of a slice of numbers
unfoldable pub memory_checks : (r M n : ℕ) → List ℕ → List Check
memory_checks r M n xs = size_checks (memory_with r M n xs) (length xs) (row_numbers * n) ++ row_checks (memory_with r M n xs)

-- 20, after all of 7 to 9
unfoldable pub label_checks : ℕ → Labelled → List Check
label_checks v t = each t.table.rows (λ i. lost_label v t i ∷ [])

-- 3, 4 to 9, 26, then 20: what is refused of a slice of numbers that is to be written with r rings in version v
unfoldable pub version_checks : (r v M n : ℕ) → List ℕ → List Check
version_checks r v M n xs = wrong_version r v ∷ (memory_checks r M n xs ++ label_checks v (memory_labelled_with r M n xs))

-- the writer 2, these, then 17
unfoldable pub writer_checks : List ℕ → (v M n : ℕ) → List ℕ → ℕ → List Check
writer_checks m v M n xs room =
    let r : ℕ = rings_of m in
    unknown_mark m ∷ (version_checks r v M n xs ++ (short_output (room < header_size + row_size r v * n) ∷ []))

-- the segments that rows i and j share: 1 to 9, then 32 (#102)
unfoldable pub shared_checks : List ℕ → (i j : ℕ) → List Check
shared_checks f i j = file_checks f ++ (no_row (file_table f) 0 i ∷ no_row (file_table f) 1 j ∷ [])

-- the verdict 1 to 9, 18, 10 to 14
unfoldable pub verdict_checks : List ℕ → List Check
verdict_checks f = given_checks f ++ line_checks (file_table f) ++ bound_checks (file_table f)

-- the verdict with limits 23, then 1 to 9, 18, 10, 11, 21, 22, 13, 14 (#108); 2 for RB2 too (#112)
unfoldable pub limited_checks : List ℕ → (our their : ℕ) → List Check
limited_checks f our their =
    let t : Table = file_table f in
    wrong_limit our their
    ∷ one_ring_checks f (given_checks f ++ (line_checks t ++ (limit_checks (file_labelled f) our their ++ bound_checks t)))

-- of a table that is to be split at a relay 27, then 28
unfoldable pub relay_checks : Table → ℕ → List Check
relay_checks t r = wrong_relay t r ∷ many_rows t r ∷ []

-- of its file 1 to 9, 2 for RB2 too, and 18 before them: all that is refused of the table as it is given (#113)
unfoldable pub split_checks : List ℕ → ℕ → List Check
split_checks f r = one_ring_checks f (given_checks f) ++ relay_checks (file_table f) r

-- then 11 of the split table; 10 doesn't occur
unfoldable pub relayed_line_checks : List ℕ → ℕ → List Check
relayed_line_checks f r = split_checks f r ++ (long_hyperperiod (split (file_table f) r) ∷ [])

-- the verdict with a relay then 13 and 14
unfoldable pub relayed_checks : List ℕ → ℕ → List Check
relayed_checks f r = relayed_line_checks f r ++ bound_checks (split (file_table f) r)

-- the list of sets the verdict's up to 11, here cs, then 17
unfoldable pub sets_checks : List Check → Table → ℕ → List Check
sets_checks cs t room = cs ++ (short_output ((ws : List ℕ) × Sets t ws × (room < length ws)) ∷ [])

-- set number k and where its rows meet: 1 to 9, 18, 10 and 11, then 32 (#102)
unfoldable pub set_checks : List ℕ → ℕ → List Check
set_checks f k = given_checks f ++ line_checks (file_table f) ++ (no_set (file_table f) k ∷ [])

-- the whole plan the verdict's, here cs, then 17
unfoldable pub plan_checks : List Check → Table → ℕ → List Check
plan_checks cs t room = cs ++ (short_output (room < hyperperiod t) ∷ [])

-- a planner step the verdict's, here cs, 15, 16, 17; a finished planner has no interval left to write
abbrev pub step_room : Table → Stage → ℕ
step_room t (due k) = end t k - start t k
step_room t finished = 0

unfoldable pub step_checks : List Check → Table → Planner → ℕ → List Check
step_checks cs t p room = cs ++ (off_state t p ∷ has_finished p ∷ short_output (room < step_room t p.stage) ∷ [])

-- the standings the verdict's, here cs, then 15
unfoldable pub standings_checks : List Check → Table → Planner → List Check
standings_checks cs t p = cs ++ (off_state t p ∷ [])

-- the list of an element's moves in a plan the verdict's, here cs, 29, 19, and 17 for a plan of under h words or too short an output
unfoldable pub maker_checks : List Check → Table → (plan : List ℕ) (element room wants : ℕ) → List Check
maker_checks cs t plan element room wants =
    cs ++ (wrong_element t element ∷ []) ++ each (hyperperiod t) (λ s. bad_word t plan s ∷ [])
    ++ (short_output ((length plan < hyperperiod t) ⊎ (room < wants)) ∷ [])

-- 30, then 31 entry by entry
unfoldable pub entry_checks : ElementList → List Check
entry_checks l = wrong_list l ∷ each l.entries (λ k. wrong_entry l k ∷ [])

-- of a list file 1, 2, 3 and 6 (the rest isn't whole entries), 30 and 31
unfoldable pub list_file_checks : List ℕ → List Check
list_file_checks f =
    refuse 1 0 (length f < list_header) ∷ refuse 2 0 (mark f ≢ list_mark) ∷ refuse 3 0 (version f ≢ list_version)
    ∷ refuse 6 0 ((length f - list_header) % entry_size ≢ 0) ∷ entry_checks (file_list f)

-- its reader then 17
unfoldable pub list_reader_checks : List ℕ → ℕ → List Check
list_reader_checks f room = list_file_checks f ++ (short_output (room < entry_numbers * (file_list f).entries) ∷ [])

-- of a list in memory 6, 30 and 31
unfoldable pub list_memory_checks : (element hyper : ℕ) → List ℕ → List Check
list_memory_checks element hyper xs = refuse 6 0 (length xs % entry_numbers ≢ 0) ∷ entry_checks (memory_list element hyper xs)

-- its writer then 17
unfoldable pub list_writer_checks : (element hyper : ℕ) → List ℕ → ℕ → List Check
list_writer_checks element hyper xs room =
    list_memory_checks element hyper xs ++ (short_output (room < list_header + entry_size * (memory_list element hyper xs).entries) ∷ [])
