-- Reading and writing give back what they were given. A table with its labels is the meaning of both its file and its slice of numbers.
-- Both ways are said of rows that have k bytes past their six, and of any header; the two versions, and the tables of two rings, are
-- instances.
--
--   Alike s t          tables s and t have the same elements, the same rings, the same rows and the same labels
--   Bytes f            every number of f is a byte
--   Fits k t           the last numbers of t's rows can be held in k bytes
--   Told t             they tell the rows' directions and labels
--   OneOrTwo r         r is a number of rings that has a mark
--   Heads h M n        h is a header of a file with M elements and n rows
use mathlib.Core.Path.{◌≡◌, refl, sym, ap, ap₂, ◌∙◌, subst}
use mathlib.Core.Logic.{◌⊎◌, inl, inr, ⊎_elim}
use mathlib.Core.Bool.{Bool, true, false, cond}
use mathlib.Core.List.{List, [], ◌∷◌, ◌++◌}
use Prim.Native.Nat.{ℕ, ◌+◌, ◌*◌, ◌≤◌, ◌<◌}
use native.Mathlib.Nat.{mul_comm, add-zero, zero-add, add_assoc}
use native.Mathlib.Omega.{arith}
use lib.Dec.{eqb}
use lib.ListN.{length, take, length-append}
use native.Mathlib.Decide.{ℕ_discrete}
use borrow.Author.Tests.{eq-eqb, ne_eqb}
use lib.Seq.{get_or-append-add, get_or-take}
use Rattle.numbers.specs.Lists.{at, each}
use Rattle.numbers.specs.Codec.{read_low, write_low}
use Rattle.numbers.proofs.Lists.{each_eq, each_length, each_join}
use Rattle.numbers.proofs.Codec.{places, row_place, rows_whole, low_high, low_of, high_of, low_eq, low_back, low_again}
use Rattle.numbers.proofs.Truth.{equals}
use Rattle.rules.specs.Bus.{Labelled}
use Rattle.rules.specs.Bounds.{max_rings}
use Rattle.rules.specs.TableFile.{version_1, header_size, label_size, last_size, way_in, label_in, last_of, last_number_of, rings_of, mark_of, file_rings, row_with, row_size, row_numbers, write16, mark, version, labelled_with, file_table, file_labelled, memory_labelled_with, memory_row, numbers, file_header, file_row, row_bytes, bytes}
use Rattle.rules.specs.Refusals.{unknown_mark, wrong_version, lost_label, header_checks, file_checks, reader_checks}
use Rattle.rules.specs.Refusals.{label_checks, version_checks, writer_checks}
use Rattle.rules.specs.Calls.{lent, Read, Written}
use Rattle.rules.proofs.Answers.{None, Numbered, none_join, none_left, numbered_join, single_none, none_single}
use Rattle.table.specs.Sound.{Sound}
use Rattle.table.proofs.Faults.{Marked, marked, marked_right, mark_whole, mark_again, Known, known_right}
use Rattle.table.proofs.Faults.{header_split, passed_none, none_passed, file_numbered}
use Rattle.table.proofs.Faults.{memory_sound, memory_none, version_numbered, version_none, version_known}
use Rattle.table.proofs.RowSizes.{label_none, last_way, last_label, row_length}
use Rattle.rules.proofs.Calls.{lent_take, call_none, call_must}

pub record Alike (s t : Labelled) : Type 0 where
  pub elements : s.table.elements ≡ t.table.elements
  pub rows : s.table.rows ≡ t.table.rows
  pub cost : (i : ℕ) → i < t.table.rows → s.table.cost i ≡ t.table.cost i
  pub period : (i : ℕ) → i < t.table.rows → s.table.period i ≡ t.table.period i
  pub first : (i : ℕ) → i < t.table.rows → s.table.first i ≡ t.table.first i
  pub second : (i : ℕ) → i < t.table.rows → s.table.second i ≡ t.table.second i
  pub rings : s.table.rings ≡ t.table.rings
  pub way : (i : ℕ) → i < t.table.rows → s.table.way i ≡ t.table.way i
  pub label : (i : ℕ) → i < t.table.rows → s.label i ≡ t.label i

abbrev pub Bytes : List ℕ → Type 0
Bytes f = (i : ℕ) → at f i < 256

-- a number of no bytes is 0
abbrev pub Fits : ℕ → Labelled → Type 0
Fits k t = k ≡ 0 → (i : ℕ) → i < t.table.rows → last_number_of t i ≡ 0

-- with one ring no row runs counterclockwise, and with two none has a label
abbrev pub Told : Labelled → Type 0
Told t = (i : ℕ) → i < t.table.rows
    → (way_in t.table.rings (last_number_of t i) ≡ t.table.way i) × (label_in t.table.rings (last_number_of t i) ≡ t.label i)

abbrev pub OneOrTwo : ℕ → Type 0
OneOrTwo r = (r ≡ 1) ⊎ (r ≡ max_rings)

pub record Heads (h : List ℕ) (M n : ℕ) : Type 0 where
  pub size : length h ≡ header_size
  pub elements : (xs : List ℕ) → at (h ++ xs) 5 ≡ M
  pub rows : (xs : List ℕ) → at (h ++ xs) 6 ≡ n

-- ---- a row's last number

module _ (r x : ℕ) where
  told_if : (b : Bool) → cond b (cond b x 0) (cond b 0 x) ≡ x
  told_if true = refl
  told_if false = refl

  -- it tells direction and label, and these tell it
  pub last_told : last_of r (way_in r x) (label_in r x) ≡ x
  unfolding last_of way_in label_in
  last_told = told_if (eqb r max_rings)

pub memory_told : (r M n : ℕ) (xs : List ℕ) → Told (memory_labelled_with r M n xs)
memory_told r M n xs i l =
    let x : ℕ = at xs (row_numbers * i + 4) in
    (ap (way_in r) (last_told r x), ap (label_in r) (last_told r x))

pub file_told : (f : List ℕ) → Told (file_labelled f)
file_told f i l =
    let k : ℕ = last_size (file_rings f) (version f) in
    let x : ℕ = read_low k f (header_size + row_with k * i + 6) in
    (ap (way_in (file_rings f)) (last_told (file_rings f) x), ap (label_in (file_rings f)) (last_told (file_rings f) x))

-- a mark tells the number of rings, and this tells it
pub rings_marked : {r : ℕ} → OneOrTwo r → (xs : List ℕ) → rings_of (mark_of r ++ xs) ≡ r
unfolding rings_of mark_of
rings_marked o xs = ⊎_elim (λ e. rw e refl) (λ e. rw e refl) o

pub mark_marked : {r : ℕ} → OneOrTwo r → Marked (mark_of r)
unfolding mark_of
mark_marked o = ⊎_elim (λ e. inl (rw e refl)) (λ e. inr (rw e refl)) o

-- ---- alike tables

pub numbers_alike : {s t : Labelled} → Alike s t → numbers s ≡ numbers t
unfolding numbers
numbers_alike {s} {t} q =
    ap (λ (n : ℕ). each n (memory_row s)) q.rows
    ∙ each_eq t.table.rows (memory_row s) (memory_row t)
    (λ i l. rw (q.cost i l, q.period i l, q.first i l, q.second i l, q.rings, q.way i l, q.label i l))

pub rows_alike : (k : ℕ) {s t : Labelled} → Alike s t → row_bytes k s ≡ row_bytes k t
unfolding row_bytes
rows_alike k {s} {t} q =
    ap (λ (n : ℕ). each n (file_row k s)) q.rows
    ∙ each_eq t.table.rows (file_row k s) (file_row k t)
    (λ i l. rw (q.cost i l, q.period i l, q.first i l, q.second i l, q.rings, q.way i l, q.label i l))

pub bytes_alike : (v : ℕ) {s t : Labelled} → Alike s t → bytes v s ≡ bytes v t
unfolding bytes
bytes_alike v {s} {t} q =
    ap₂ (λ (h r : List ℕ). h ++ r)
    (ap (λ (r : ℕ). file_header (mark_of r) v s.table.elements s.table.rows) q.rings
    ∙ ap₂ (file_header (mark_of t.table.rings) v) q.elements q.rows)
    (ap (λ (r : ℕ). row_bytes (last_size r v) s) q.rings ∙ rows_alike (last_size t.table.rings v) q)

pub sound_alike : {s t : Labelled} → Alike s t → Sound t.table → Sound s.table
sound_alike {s} {t} q h = record {
  elements_low = rw q.elements h.elements_low;
  elements_high = rw q.elements h.elements_high;
  rows_low = rw q.rows h.rows_low;
  rows_high = rw q.rows h.rows_high;
  rings_few = rw q.rings h.rings_few;
  row = λ i l.
      let m : i < t.table.rows = rw q.rows at l in
      let r = h.row i m in
      record {
        first_low = rw (q.first i m) r.first_low;
        first_high = rw (q.first i m, q.elements) r.first_high;
        second_low = rw (q.second i m) r.second_low;
        second_high = rw (q.second i m, q.elements) r.second_high;
        ends_differ = rw (q.first i m, q.second i m) r.ends_differ;
        period_low = rw (q.period i m) r.period_low;
        period_high = rw (q.period i m) r.period_high;
        cost_low = rw (q.cost i m) r.cost_low;
        cost_high = rw (q.cost i m, q.period i m) r.cost_high;
        way_known = rw (q.way i m, q.rings) r.way_known;
      };
}

-- ---- what stands in a file, and in a slice

-- the six bytes that all rows have
abbrev front : Labelled → ℕ → List ℕ
front t i = write16 (t.table.cost i) ++ write16 (t.table.period i) ++ (t.table.first i ∷ t.table.second i ∷ [])

module _ (t : Labelled) (i : ℕ) (l : i < t.table.rows) where
  file_at : (k : ℕ) (h : List ℕ) → length h ≡ header_size
      → (j : ℕ) → j < row_with k → at (h ++ row_bytes k t) (header_size + row_with k * i + j) ≡ at (file_row k t i) j
  unfolding row_bytes
  file_at k h e j m = row_place header_size (row_with k) t.table.rows h (file_row k t) e (λ n p. row_length k t n) i j l m

  memory_at : (j : ℕ) → j < row_numbers → at (numbers t) (row_numbers * i + j) ≡ at (memory_row t i) j
  unfolding numbers
  memory_at j m = rw zero-add at (row_place 0 row_numbers t.table.rows [] (memory_row t) refl (λ k h. refl) i j l m)

-- ---- there and back, once over k and the header

-- the rows of a table, read back
pub rows_back : (k : ℕ) (h : List ℕ) (t : Labelled) → Heads h t.table.elements t.table.rows → Fits k t → Told t
    → Alike (labelled_with t.table.rings k (h ++ row_bytes k t)) t
rows_back k h t H F W = record {
  elements = H.elements (row_bytes k t);
  rows = H.rows (row_bytes k t);
  cost = λ i l.
      ap₂ (λ (a b : ℕ). a + 256 * b) (rw (add-zero (header_size + row_with k * i)) at (byte i l 0 (omega arith))) (byte i l 1 (omega arith))
      ∙ low_high (t.table.cost i);
  period = λ i l.
      ap₂ (λ (a b : ℕ). a + 256 * b) (byte i l 2 (omega arith))
      (rw (add_assoc (header_size + row_with k * i) 2 1) (byte i l 3 (omega arith)))
      ∙ low_high (t.table.period i);
  first = λ i l. byte i l 4 (omega arith);
  second = λ i l. byte i l 5 (omega arith);
  rings = refl;
  way = λ i l. ap (way_in t.table.rings) (last i l) ∙ (W i l).0;
  label = λ i l. ap (label_in t.table.rings) (last i l) ∙ (W i l).1;
}
  where
    byte : (i : ℕ) → i < t.table.rows → (j : ℕ) → j < row_with k
        → at (h ++ row_bytes k t) (header_size + row_with k * i + j) ≡ at (file_row k t i) j
    byte i l j m = file_at t i l k h H.size j m

    last : (i : ℕ) → i < t.table.rows → read_low k (h ++ row_bytes k t) (header_size + row_with k * i + 6) ≡ last_number_of t i
    last i l =
        low_eq k (h ++ row_bytes k t) (write_low k (last_number_of t i)) (header_size + row_with k * i + 6) 0
        (λ j m.
        rw (add_assoc (header_size + row_with k * i) 6 j, zero-add j)
        (byte i l (6 + j) (omega arith) ∙ get_or-append-add (front t i) (write_low k (last_number_of t i)) j 0))
        ∙ low_back k (last_number_of t i) (λ e. F e i l)

row_whole : (r k : ℕ) (f : List ℕ) (i : ℕ) → Bytes f
    → file_row k (labelled_with r k f) i ≡ each (row_with k) (λ j. at f (header_size + row_with k * i + j) ∷ [])
unfolding each
row_whole r k f i b =
    let p : ℕ = header_size + row_with k * i in
    let a : at f p < 256 = b p in
    let c : at f (p + 2) < 256 = b (p + 2) in
    let six : front (labelled_with r k f) i ≡ each 6 (λ j. at f (p + j) ∷ []) =
    rw (
      low_of (at f p) (at f (p + 1)) a,
      high_of (at f p) (at f (p + 1)) a,
      low_of (at f (p + 2)) (at f (p + 2 + 1)) c,
      high_of (at f (p + 2)) (at f (p + 2 + 1)) c,
      add_assoc p 2 1,
      add-zero p,
    ) in
    let rest : write_low k (read_low k f (p + 6)) ≡ each k (λ j. at f (p + (6 + j)) ∷ []) =
    low_again k (p + 6) f b ∙ each_eq k (λ j. at f (p + 6 + j) ∷ []) (λ j. at f (p + (6 + j)) ∷ []) (λ j l. rw (add_assoc p 6 j)) in
    ap₂ (λ (x y : List ℕ). x ++ y) six (ap (write_low k) (last_told r (read_low k f (p + 6))) ∙ rest)
    ∙ sym (each_join 6 k (λ j. at f (p + j) ∷ []))

-- a file's rows, written again after the header that they had
pub rows_again : (r k : ℕ) (f : List ℕ) → Bytes f → length f ≡ header_size + row_with k * (labelled_with r k f).table.rows
    → take header_size f ++ row_bytes k (labelled_with r k f) ≡ f
unfolding row_bytes
rows_again r k f b e =
    rows_whole header_size (row_with k) (labelled_with r k f).table.rows (file_row k (labelled_with r k f)) f e (λ i l. row_whole r k f i b)

pub rows_length : (k : ℕ) (h : List ℕ) (t : Labelled) → length h ≡ header_size
    → length (h ++ row_bytes k t) ≡ header_size + row_with k * t.table.rows
unfolding row_bytes
rows_length k h t e =
    length-append h (each t.table.rows (file_row k t))
    ∙ ap₂ ◌+◌ e (each_length t.table.rows (row_with k) (file_row k t) (λ i l. row_length k t i) ∙ mul_comm t.table.rows (row_with k))

-- ---- both kinds of table, and both versions

module _ (v : ℕ) (t : Labelled) (o : OneOrTwo t.table.rings) where
  abbrev header : List ℕ
  header = file_header (mark_of t.table.rings) v t.table.elements t.table.rows

  -- what a header says, whatever follows
  header_says : (xs : List ℕ) → (length header ≡ header_size) × (version (header ++ xs) ≡ v) × (at (header ++ xs) 5 ≡ t.table.elements)
      × (at (header ++ xs) 6 ≡ t.table.rows) × (rings_of (header ++ xs) ≡ t.table.rings)
      × (mark (header ++ xs) ≡ mark_of t.table.rings)
  unfolding rings_of mark_of
  header_says xs =
      ⊎_elim (λ e. rw e (refl, low_high v, refl, refl, refl, refl)) (λ e. rw e (refl, low_high v, refl, refl, refl, refl)) o

  pub version_back : version (bytes v t) ≡ v
  unfolding bytes
  version_back = (header_says (row_bytes (last_size t.table.rings v) t)).1

  pub rings_back : file_rings (bytes v t) ≡ t.table.rings
  unfolding bytes
  rings_back = (header_says (row_bytes (last_size t.table.rings v) t)).4

  pub mark_back : mark (bytes v t) ≡ mark_of t.table.rings
  unfolding bytes
  mark_back = (header_says (row_bytes (last_size t.table.rings v) t)).5

  -- the table of a file is the table that it was made of
  pub file_back : Fits (last_size t.table.rings v) t → Told t → Alike (file_labelled (bytes v t)) t
  unfolding bytes
  file_back F W =
      subst (λ (q : ℕ × ℕ). Alike (labelled_with q.0 (last_size q.0 q.1) (bytes v t)) t)
      (sym {A = ℕ × ℕ} (λ k. (rings_back k, version_back k)))
      (rows_back (last_size t.table.rings v) header t
      (record {
        size = (header_says []).0;
        elements = λ xs. (header_says xs).2;
        rows = λ xs. (header_says xs).3;
      }) F W)

-- and that of a slice
pub memory_back : (t : Labelled) → Told t → Alike (memory_labelled_with t.table.rings t.table.elements t.table.rows (numbers t)) t
memory_back t W = record {
  elements = refl;
  rows = refl;
  cost = λ i l. rw add-zero at (memory_at t i l 0 (omega arith));
  period = λ i l. memory_at t i l 1 (omega arith);
  first = λ i l. memory_at t i l 2 (omega arith);
  second = λ i l. memory_at t i l 3 (omega arith);
  rings = refl;
  way = λ i l. ap (way_in t.table.rings) (memory_at t i l 4 (omega arith)) ∙ (W i l).0;
  label = λ i l. ap (label_in t.table.rings) (memory_at t i l 4 (omega arith)) ∙ (W i l).1;
}

-- the file or slice of a table is what the table was read from
pub numbers_whole : (r M n : ℕ) (xs : List ℕ) → length xs ≡ row_numbers * n → numbers (memory_labelled_with r M n xs) ≡ xs
unfolding numbers each
numbers_whole r M n xs e =
    rows_whole 0 row_numbers n (memory_row (memory_labelled_with r M n xs)) xs (omega arith)
    (λ i l. rw (last_told r (at xs (row_numbers * i + 4)), zero-add (row_numbers * i), add-zero (row_numbers * i)))

header_whole : (f : List ℕ) → header_size ≤ length f → Marked (mark f) → Bytes f
    → file_header (mark_of (file_rings f)) (version f) (file_table f).elements (file_table f).rows ≡ take header_size f
unfolding each
header_whole f l m b =
    let three : mark f ≡ at f 0 ∷ at f 1 ∷ at f 2 ∷ [] = places 3 0 f (omega arith) in
    sym
    (places header_size 0 f l
    ∙ rw (mark_again f m ∙ three, low_of (at f 3) (at f 4) (b 3), high_of (at f 3) (at f 4) (b 3)))

pub bytes_whole : (f : List ℕ) → Bytes f → None (file_checks f) → bytes (version f) (file_labelled f) ≡ f
unfolding file_checks bytes
bytes_whole f b a =
    let h = header_split f (none_left (header_checks f) _ a) in
    ap (λ (r : List ℕ). r ++ row_bytes (last_size (file_rings f) (version f)) (file_labelled f)) (header_whole f h.0 h.1 b)
    ∙ rows_again (file_rings f) (last_size (file_rings f) (version f)) f b (passed_none f a).size

-- ---- there and back

pub numbers_length : (t : Labelled) → length (numbers t) ≡ row_numbers * t.table.rows
unfolding numbers
numbers_length t = each_length t.table.rows row_numbers (memory_row t) (λ i l. refl) ∙ mul_comm t.table.rows row_numbers

pub bytes_length : (v : ℕ) (t : Labelled) → OneOrTwo t.table.rings
    → length (bytes v t) ≡ header_size + row_size t.table.rings v * t.table.rows
unfolding bytes
bytes_length v t o =
    rows_length (last_size t.table.rings v) (file_header (mark_of t.table.rings) v t.table.elements t.table.rows) t
    (header_says v t o []).0

-- version 1 has no bytes for labels, and refuses to write any but 0
pub labels_fit : (v : ℕ) (t : Labelled) → Known t.table.rings v → None (label_checks v t) → Fits (last_size t.table.rings v) t
unfolding label_checks label_size last_of
labels_fit v t k a e i l = go (ℕ_discrete t.table.rings max_rings)
  where
    go : Dec (t.table.rings ≡ max_rings) → last_number_of t i ≡ 0
    go (yes z) = absurd (let y : ⊥ = omega (arith, e, last_way v z) in y)
    go (no n) =
        rw (ne_eqb t.table.rings max_rings n)
        (equals (t.label i) 0
        (λ h. ⊎_elim (λ one. none_single (lost_label v t) t.table.rows a i l (one, h))
        (λ two. let z : 2 ≡ 0 = rw two.0 at (sym (last_label v n) ∙ e) in omega (arith, z)) k))

fits_labels : (v : ℕ) (t : Labelled) → ((i : ℕ) → i < t.table.rows → v ≡ version_1 → t.label i ≡ 0) → None (label_checks v t)
unfolding label_checks
fits_labels v t h = single_none (lost_label v t) t.table.rows (λ i l w. w.1 (h i l w.0))

-- the numbers of a table that has no fault pass in every version that can hold its labels
pub table_passes : (v : ℕ) (t : Labelled) → ((wrong_version t.table.rings v).applies → ⊥) → Told t → Sound t.table
    → ((i : ℕ) → i < t.table.rows → v ≡ version_1 → t.label i ≡ 0)
    → None (version_checks t.table.rings v t.table.elements t.table.rows (numbers t))
table_passes v t k told s h =
    let r : ℕ = t.table.rings in
    let M : ℕ = t.table.elements in
    let n : ℕ = t.table.rows in
    let back = memory_back t told in
    version_none r M n (numbers t) v k (memory_none r M n (numbers t) (sound_alike back s) (numbers_length t))
    (fits_labels v (memory_labelled_with r M n (numbers t)) (λ i l e. back.label i l ∙ h i l e))

-- a file is read and written
module _ (f : List ℕ) (a : None (file_checks f)) where
  abbrev t : Labelled
  t = file_labelled f

  abbrev r : ℕ
  r = file_rings f

  abbrev M : ℕ
  M = t.table.elements

  abbrev n : ℕ
  n = t.table.rows

  pub read_marked : Marked (mark f)
  unfolding file_checks
  read_marked = (header_split f (none_left (header_checks f) _ a)).1

  pub read_written : Bytes f → bytes (version f) (memory_labelled_with r M n (numbers t)) ≡ f
  read_written b = bytes_alike (version f) (memory_back t (file_told f)) ∙ bytes_whole f b a

  -- in version 1 all labels are 0
  pub bare : (i : ℕ) → version f ≡ version_1 → t.label i ≡ 0
  unfolding read_low label_in
  bare i e = go (ℕ_discrete r max_rings)
    where
      go : Dec (r ≡ max_rings) → t.label i ≡ 0
      go (yes z) = rw (eq-eqb r max_rings z)
      go (no w) =
          rw (ne_eqb r max_rings w)
          (ap (λ (k : ℕ). read_low k f (header_size + row_size r (version f) * i + 6))
          (last_label (version f) w ∙ label_none (λ two. let z : ⊥ = omega (arith, e, two) in z)))

  pub read_passes : None (version_checks r (version f) M n (numbers t))
  unfolding file_checks
  read_passes =
      table_passes (version f) t (known_right (header_split f (none_left (header_checks f) _ a)).2) (file_told f)
      (passed_none f a).sound (λ i l e. bare i e)

-- rows are written and read
module _ (r v M n : ℕ) (xs : List ℕ) (o : OneOrTwo r) where
  abbrev s : Labelled
  s = memory_labelled_with r M n xs

  module _ (a : None (version_checks r v M n xs)) where
    written_fits : Fits (last_size r v) s
    written_fits = let k = version_known r M n xs v a in labels_fit v s k.0 k.2

    pub written_sound : Sound s.table × (length xs ≡ row_numbers * n)
    written_sound = memory_sound r M n xs (⊎_elim (λ e. omega (arith, e)) (λ e. omega (arith, e)) o) (version_known r M n xs v a).1

    pub written_back : Alike (file_labelled (bytes v s)) s
    written_back = file_back v s o written_fits (memory_told r M n xs)

    pub written_read : numbers (file_labelled (bytes v s)) ≡ xs
    written_read = numbers_alike written_back ∙ numbers_whole r M n xs written_sound.1

    pub written_passes : None (file_checks (bytes v s))
    written_passes =
        none_passed (bytes v s) (rw (mark_back v s o) (mark_marked o))
        (rw (rings_back v s o, version_back v s o) (version_known r M n xs v a).0)
        record {
          size =
              bytes_length v s o
              ∙ ap₂ (λ (w k : ℕ). header_size + w * k)
              (ap₂ (λ (g u : ℕ). row_size g u) (sym (rings_back v s o)) (sym (version_back v s o))) (sym written_back.rows);
          sound = sound_alike written_back written_sound.0;
        }

-- ---- the two calls

pub reader_numbered : (f : List ℕ) (room : ℕ) → Numbered (reader_checks f room)
unfolding reader_checks Numbered
reader_numbered f room = numbered_join (file_checks f) _ (file_numbered f) (omega arith)

reader_none : (f : List ℕ) (room : ℕ) → None (file_checks f) → row_numbers * (file_table f).rows ≤ room → None (reader_checks f room)
unfolding reader_checks None
reader_none f room a l = none_join (file_checks f) _ a (λ (h : room < row_numbers * (file_table f).rows). let z : ⊥ = omega arith in z, tt)

pub read_none : (f : List ℕ) (room : ℕ) → None (reader_checks f room) → None (file_checks f)
unfolding reader_checks
read_none f room a = none_left (file_checks f) _ a

-- what is not refused as a mark is one
pub known_mark : (m : List ℕ) → ((unknown_mark m).applies → ⊥) → Marked m
known_mark m h = go (ℕ_discrete (length m) 3)
  where
    go : Dec (length m ≡ 3) → Marked m
    go (yes e) = rw (mark_whole m e) at (marked m (omega (arith, e)) (rw (mark_whole m e) h))
    go (no n) = absurd (h ((λ e. n (ap length e)), (λ e. n (ap length e))))

module _ (m : List ℕ) (v M n : ℕ) (xs : List ℕ) (room : ℕ) where
  pub writer_numbered : Numbered (writer_checks m v M n xs room)
  unfolding writer_checks Numbered
  writer_numbered =
      (omega arith, numbered_join (version_checks (rings_of m) v M n xs) _ (version_numbered (rings_of m) M n xs v) (omega arith))

  writer_none : Marked m → None (version_checks (rings_of m) v M n xs) → header_size + row_size (rings_of m) v * n ≤ room
      → None (writer_checks m v M n xs room)
  unfolding writer_checks None
  writer_none k a l = (
    marked_right k,
    none_join (version_checks (rings_of m) v M n xs) _ a
        (λ (h : room < header_size + row_size (rings_of m) v * n). let z : ⊥ = omega arith in z, tt),
  )

  pub written_none : None (writer_checks m v M n xs room) → Marked m × None (version_checks (rings_of m) v M n xs)
  unfolding writer_checks None
  written_none a = (known_mark m a.0, none_left (version_checks (rings_of m) v M n xs) _ a.1)

-- a mark tells the rings of its table, alone or at the front of a file
pub rings_front : (f : List ℕ) → rings_of (mark f) ≡ file_rings f
unfolding rings_of
rings_front f = ap (λ (x : ℕ). cond (eqb x 0x32) max_rings 1) (get_or-take 3 f 2 0 (omega arith))

pub marked_own : {m : List ℕ} → Marked m → OneOrTwo (rings_of m) × (mark_of (rings_of m) ≡ m)
unfolding rings_of mark_of
marked_own k = ⊎_elim (λ e. rw e (inl refl, refl)) (λ e. rw e (inr refl, refl)) k

-- what was read, the writer writes as it stood in the file
pub read_then_written : (f was now : List ℕ) (p : ℕ) (k : List ℕ) (v M n : ℕ) (was' now' : List ℕ) (number place : ℕ) → Bytes f
    → Read f was now 0 p k v M n → header_size + row_size (rings_of k) v * n ≤ length was'
    → Written k v M n (take (row_numbers * n) now) was' now' number place
    → (number ≡ 0) × (place ≡ 0) × (take (header_size + row_size (rings_of k) v * n) now' ≡ f)
read_then_written f was now p k v M n was' now' number place b c l w =
    let t : Labelled = file_labelled f in
    let xs : List ℕ = take (row_numbers * n) now in
    let r : ℕ = rings_of k in
    let t' : Labelled = memory_labelled_with r M n xs in
    let a = read_none f (length was) (call_none (reader_numbered f (length was)) c) in
    let d = c.done refl in
    let same : xs ≡ numbers t =
    ap₂ (λ (k : ℕ) (o : List ℕ). take (row_numbers * k) o) d.3 d.4
    ∙ lent_take (numbers t) was (row_numbers * t.table.rows) (numbers_length t) in
    let rings : r ≡ file_rings f = ap rings_of d.0 ∙ rings_front f in
    let marked : Marked k = rw d.0 (read_marked f a) in
    let none : None (writer_checks k v M n xs (length was')) =
    writer_none k v M n xs (length was') marked (rw (same, rings, d.1, d.2, d.3) (read_passes f a)) l in
    let z = call_must none w in
    let file : bytes v t' ≡ f = rw (same, rings, d.1, d.2, d.3) (read_written f a b) in
    let size : ℕ = header_size + row_size r v * n in
    (z.0, z.1, ap (take size) z.2 ∙ lent_take (bytes v t') was' size (bytes_length v t' (marked_own marked).0) ∙ file)

-- what was written, the reader reads as it stood in the slice
pub written_then_read : (m : List ℕ) (v M n : ℕ) (xs was now : List ℕ) (p : ℕ) (was' now' : List ℕ) (number place : ℕ) (m' : List ℕ)
    (v' M' n' : ℕ) → Written m v M n xs was now 0 p → row_numbers * n ≤ length was'
    → Read (take (header_size + row_size (rings_of m) v * n) now) was' now' number place m' v' M' n'
    → (number ≡ 0) × (place ≡ 0) × (m' ≡ m) × (v' ≡ v) × (M' ≡ M) × (n' ≡ n) × (take (row_numbers * n) now' ≡ xs)
written_then_read m v M n xs was now p was' now' number place m' v' M' n' c l r =
    let g : ℕ = rings_of m in
    let t : Labelled = memory_labelled_with g M n xs in
    let k = written_none m v M n xs (length was) (call_none (writer_numbered m v M n xs (length was)) c) in
    let a = k.1 in
    let own = marked_own k.0 in
    let o = own.0 in
    let long : length xs ≡ row_numbers * n = (written_sound g v M n xs o a).1 in
    let file : take (header_size + row_size g v * n) now ≡ bytes v t =
    ap (take (header_size + row_size g v * n)) (c.done refl)
    ∙ lent_take (bytes v t) was (header_size + row_size g v * n) (bytes_length v t o) in
    let back = written_back g v M n xs o a in
    let none : None (reader_checks (bytes v t) (length was')) =
    reader_none (bytes v t) (length was') (written_passes g v M n xs o a) (rw back.rows l) in
    let again : Read (bytes v t) was' now' number place m' v' M' n' = rw file at r in
    let z = call_must none again in (
      z.0,
      z.1,
      z.2.0 ∙ mark_back v t o ∙ own.1,
      z.2.1 ∙ version_back v t o,
      z.2.2 ∙ back.elements,
      z.2.3 ∙ back.rows,
      ap (take (row_numbers * n)) (z.2.4 ∙ ap (λ (ys : List ℕ). lent ys was') (written_read g v M n xs o a))
          ∙ lent_take xs was' (row_numbers * n) long,
    )
