-- What the checks of a table say: of its size, of a row, of a whole file.
--
--   Marked m           mark m is that of one ring or that of two
--   Known r v          version v is 1 or, with one ring, 2
--
-- A file that passes checks 1 to 9 and 26 has its mark and its version, and is `Passed`; and the other way round.
use mathlib.Core.Path.{◌≡◌, refl, sym, ap, ◌∙◌}
use mathlib.Core.Logic.{◌⊎◌, inl, inr, ⊎_elim, ◌≢◌}
use mathlib.Core.List.{List, [], ◌∷◌, ◌++◌}
use Prim.Native.Nat.{ℕ, ◌+◌, ◌*◌, ◌≤◌, ◌<◌}
use native.Mathlib.Decide.{ℕ_discrete}
use native.Mathlib.Omega.{arith}
use lib.ListN.{length}
use lib.Seq.{get_or-take, take_all}
use Rattle.numbers.specs.Lists.{at, each}
use Rattle.numbers.proofs.Truth.{le_or_lt}
use Rattle.rules.specs.Bounds.{max_elements, max_rows, max_rings, max_slots}
use Rattle.rules.specs.Bus.{Table, Labelled}
use Rattle.rules.specs.TableFile.{table_mark, board_mark, version_1, version_2, header_size, row_size, row_numbers, mark, version}
use Rattle.rules.specs.TableFile.{rings_of, mark_of, file_rings, file_table, memory_with, memory_labelled_with}
use Rattle.rules.proofs.Rings.{rings_few}
use Rattle.rules.specs.Refusals.{Check, Answers, wrong_version, wrong_ends, lost_label, size_checks, header_checks, faults, row_checks}
use Rattle.rules.specs.Refusals.{unknown_mark, file_checks, memory_checks, label_checks, version_checks}
use Rattle.rules.proofs.Answers.{None, none_of, none_join, none_left, none_right, none_each, none_at, none_next}
use Rattle.rules.proofs.Answers.{Numbered, numbered_join, numbered_each, applied, passed, answered, stopped, stopped_at, joined}
use Rattle.rules.proofs.Answers.{single_numbered}
use Rattle.table.specs.declared.Row.{Row}
use Rattle.table.specs.Sound.{SoundRow, Sound, Passed}
use Rattle.table.specs.Rows.{IsRow, single, EndsFit}
use Rattle.table.specs.Columns.{Whole}
use Rattle.numbers.proofs.Truth.{limits, equals}

abbrev pub Marked : List ℕ → Type 0
Marked m = (m ≡ table_mark) ⊎ (m ≡ board_mark)

abbrev pub Known : (r v : ℕ) → Type 0
Known r v = (v ≡ version_1) ⊎ ((v ≡ version_2) × (r ≢ max_rings))

-- ---- no refusal has the number 0

pub faults_numbered : (t : Table) (i : ℕ) → Numbered (faults t i)
unfolding Numbered
faults_numbered t i = omega arith

pub rows_numbered : (t : Table) → Numbered (row_checks t)
unfolding row_checks
rows_numbered t = numbered_each (faults t) t.rows (faults_numbered t)

pub header_numbered : (f : List ℕ) → Numbered (header_checks f)
unfolding header_checks Numbered
header_numbered f = omega arith

pub sizes_numbered : (t : Table) (has wants : ℕ) → Numbered (size_checks t has wants)
unfolding Numbered
sizes_numbered t has wants = omega arith

pub file_numbered : (f : List ℕ) → Numbered (file_checks f)
unfolding file_checks
file_numbered f = numbered_join (header_checks f) (row_checks (file_table f)) (header_numbered f) (rows_numbered (file_table f))

-- ---- one row

-- check 7 does not apply
pub ends_right : (t : Table) (i : ℕ) → (1 ≤ t.first i) × (t.first i ≤ t.elements) → (1 ≤ t.second i) × (t.second i ≤ t.elements)
    → t.first i ≢ t.second i → (wrong_ends t i).applies → ⊥
ends_right t i f s d w = ⊎_elim (λ h. h f) (λ v. ⊎_elim (λ h. h s) d v) w

-- what a row alone is refused for, it is refused for in every table that has it
pub row_found : (M k n : ℕ) (r : Row) (t : Labelled) (i : ℕ) → t.table.elements ≡ M → t.table.rings ≡ k → IsRow t i r → n ≢ 0
    → Answers (faults (single M k r) 0) n 0 → Answers (faults t.table i) n i
unfolding Answers
row_found M k n r t i e w q h a =
    rw (e, w, ← q.cost, ← q.period, ← q.first, ← q.second, ← q.way)
    (⊎_elim
    (λ w. inl (w.0, w.1, refl))
    (λ v. inr (
      v.0,
      ⊎_elim
          (λ w. inl (w.0, w.1, refl))
          (λ v. inr (
            v.0,
            ⊎_elim
                (λ w. inl (w.0, w.1, refl))
                (λ v. inr (v.0, ⊎_elim (λ w. inl (w.0, w.1, refl)) (λ v. absurd (h v.1.0)) v.1))
                v.1,
          ))
          v.1,
    ))
    a)

pub row_clean : (M k : ℕ) (r : Row) (t : Labelled) (i : ℕ) → t.table.elements ≡ M → t.table.rings ≡ k → IsRow t i r
    → Answers (faults (single M k r) 0) 0 0 → None (faults t.table i)
unfolding None
row_clean M k r t i e w q a =
    rw (e, w, ← q.cost, ← q.period, ← q.first, ← q.second, ← q.way)
    (none_of (faults (single M k r) 0) 0 (faults_numbered (single M k r) 0) a)

pub row_sound : (t : Table) (i : ℕ) → None (faults t i) → SoundRow t i
unfolding None
row_sound t i a =
    let f = limits (t.first i) 1 t.elements (λ w. a.0 (inl w)) in
    let s = limits (t.second i) 1 t.elements (λ w. a.0 (inr (inl w))) in
    let p = limits (t.period i) 1 max_slots a.1.0 in
    let c = limits (t.cost i) 1 (t.period i) a.1.1.0 in
    record {
      first_low = f.0;
      first_high = f.1;
      second_low = s.0;
      second_high = s.1;
      ends_differ = λ e. a.0 (inr (inr e));
      period_low = p.0;
      period_high = p.1;
      cost_low = c.0;
      cost_high = c.1;
      way_known = ⊎_elim (λ h. absurd (a.1.1.1.0 h)) (λ h. h) (le_or_lt t.rings (t.way i));
    }

pub row_none : (t : Table) (i : ℕ) → SoundRow t i → None (faults t i)
unfolding None
row_none t i s = (
  ends_right t i (s.first_low, s.first_high) (s.second_low, s.second_high) s.ends_differ,
  (
    λ h. h (s.period_low, s.period_high),
    (λ h. h (s.cost_low, s.cost_high), (λ (h : t.rings ≤ t.way i). let z : ⊥ = omega (arith, s.way_known) in z, tt)),
  ),
)

-- ---- the whole table

pub rows_sound : (t : Table) → None (row_checks t) → (i : ℕ) → i < t.rows → SoundRow t i
unfolding row_checks
rows_sound t a i l = row_sound t i (none_at (faults t) t.rows i l a)

pub rows_none : (t : Table) → ((i : ℕ) → i < t.rows → SoundRow t i) → None (row_checks t)
unfolding row_checks
rows_none t h = none_each (faults t) t.rows (λ i l. row_none t i (h i l))

pub sizes_right : (t : Table) (has wants : ℕ) → None (size_checks t has wants)
    → (2 ≤ t.elements) × (t.elements ≤ max_elements) × (1 ≤ t.rows) × (t.rows ≤ max_rows) × (has ≡ wants)
unfolding None
sizes_right t has wants a =
    let m = limits t.elements 2 max_elements a.0 in
    let r = limits t.rows 1 max_rows a.1.0 in
    (m.0, m.1, r.0, r.1, equals has wants a.1.1.0)

pub table_sound : (t : Table) (has wants : ℕ) → t.rings ≤ max_rings → None (size_checks t has wants) → None (row_checks t) → Sound t
table_sound t has wants few a b =
    let s = sizes_right t has wants a in
    record {
      elements_low = s.0;
      elements_high = s.1;
      rows_low = s.2;
      rows_high = s.3;
      rings_few = few;
      row = rows_sound t b;
    }

pub table_none : (t : Table) (has wants : ℕ) → Sound t → has ≡ wants → None (size_checks t has wants)
unfolding None
table_none t has wants s e =
    (λ h. h (s.elements_low, s.elements_high), (λ h. h (s.rows_low, s.rows_high), (λ n. n e, tt)))

-- ---- the mark of a file, whatever it is

pub mark_of_lem : {x y z : ℕ} (f : List ℕ) → 3 ≤ length f → at f 0 ≡ x → at f 1 ≡ y → at f 2 ≡ z → mark f ≡ x ∷ y ∷ z ∷ []
mark_of_lem [] l a b c = absurd (let z : ⊥ = omega arith in z)
mark_of_lem (x ∷ []) l a b c = absurd (let z : ⊥ = omega arith in z)
mark_of_lem (x ∷ y ∷ []) l a b c = absurd (let z : ⊥ = omega arith in z)
mark_of_lem (x ∷ y ∷ z ∷ f) l a b c = rw (a, b, c)

pub mark_at : {m : List ℕ} (f : List ℕ) (k : ℕ) → k < 3 → mark f ≡ m → at f k ≡ at m k
mark_at f k l e = sym (get_or-take 3 f k 0 l) ∙ ap (λ (g : List ℕ). at g k) e

-- a mark by itself
pub mark_whole : (m : List ℕ) → length m ≡ 3 → mark m ≡ m
mark_whole m e = take_all 3 m (omega (arith, e))

-- its three bytes can be compared
mark_same : (f : List ℕ) (x y z : ℕ) → 3 ≤ length f → Dec (mark f ≡ x ∷ y ∷ z ∷ [])
mark_same f x y z l = go (ℕ_discrete (at f 0) x) (ℕ_discrete (at f 1) y) (ℕ_discrete (at f 2) z)
  where
    go : Dec (at f 0 ≡ x) → Dec (at f 1 ≡ y) → Dec (at f 2 ≡ z) → Dec (mark f ≡ x ∷ y ∷ z ∷ [])
    go (yes a) (yes b) (yes c) = yes (mark_of_lem f l a b c)
    go (no n) b c = no (λ e. n (mark_at f 0 (omega arith) e))
    go (yes a) (no n) c = no (λ e. n (mark_at f 1 (omega arith) e))
    go (yes a) (yes b) (no n) = no (λ e. n (mark_at f 2 (omega arith) e))

pub mark_right : {x y z : ℕ} (f : List ℕ) → 3 ≤ length f → (mark f ≢ x ∷ y ∷ z ∷ [] → ⊥) → mark f ≡ x ∷ y ∷ z ∷ []
mark_right {x} {y} {z} f l h = go (mark_same f x y z l)
  where
    go : Dec (mark f ≡ x ∷ y ∷ z ∷ []) → mark f ≡ x ∷ y ∷ z ∷ []
    go (yes e) = e
    go (no n) = absurd (h n)

-- ---- the mark of a table: of one ring, or of two

pub marked : (f : List ℕ) → 3 ≤ length f → ((unknown_mark (mark f)).applies → ⊥) → Marked (mark f)
marked f l h = go (mark_same f 0x52 0x42 0x54 l) (mark_same f 0x52 0x42 0x32 l)
  where
    go : Dec (mark f ≡ table_mark) → Dec (mark f ≡ board_mark) → Marked (mark f)
    go (yes e) d = inl e
    go (no n) (yes e) = inr e
    go (no n) (no m) = absurd (h (n, m))

pub marked_right : {m : List ℕ} → Marked m → (unknown_mark m).applies → ⊥
marked_right k w = ⊎_elim w.0 w.1 k

-- it tells how many rings there are
pub rings_one : (f : List ℕ) → mark f ≡ table_mark → file_rings f ≡ 1
unfolding rings_of
rings_one f e = rw (mark_at f 2 (omega arith) e) refl

pub rings_two : (f : List ℕ) → mark f ≡ board_mark → file_rings f ≡ max_rings
unfolding rings_of
rings_two f e = rw (mark_at f 2 (omega arith) e) refl

-- and they tell the mark
pub mark_again : (f : List ℕ) → Marked (mark f) → mark_of (file_rings f) ≡ mark f
unfolding mark_of
mark_again f o = ⊎_elim (λ e. rw (rings_one f e) (sym e)) (λ e. rw (rings_two f e) (sym e)) o

-- ---- the version

pub known : (r v : ℕ) → ((wrong_version r v).applies → ⊥) → Known r v
known r v h = go (ℕ_discrete v version_1)
  where
    go : Dec (v ≡ version_1) → Known r v
    go (yes e) = inl e
    go (no n) = inr (equals v version_2 (λ m. h (n, inl m)), λ e. h (n, inr e))

pub known_right : {r v : ℕ} → Known r v → (wrong_version r v).applies → ⊥
known_right k w = ⊎_elim w.0 (λ u. ⊎_elim (λ n. n u.0) u.1 w.1) k

-- ---- the whole file

-- what passing checks 1 to 6 says, with checks 4 to 6 by themselves
pub header_split : (f : List ℕ) → None (header_checks f)
    → (header_size ≤ length f) × Marked (mark f) × Known (file_rings f) (version f)
    × None (size_checks (file_table f) (length f) (header_size + row_size (file_rings f) (version f) * (file_table f).rows))
unfolding header_checks None
header_split f a =
    let l : header_size ≤ length f = ⊎_elim (λ h. h) (λ h. absurd (a.0 h)) (le_or_lt header_size (length f)) in
    (l, marked f (omega arith) a.1.0, known (file_rings f) (version f) a.1.1.0, a.1.1.1)

-- past checks 1 to 3 the size decides
pub header_rest : (f : List ℕ) (n : ℕ) → header_size ≤ length f → ((unknown_mark (mark f)).applies → ⊥)
    → ((wrong_version (file_rings f) (version f)).applies → ⊥)
    → Answers (size_checks (file_table f) (length f) (header_size + row_size (file_rings f) (version f) * (file_table f).rows)) n 0
    → Answers (header_checks f) n 0
unfolding header_checks
header_rest f n l m v a =
    passed _ _ n 0 (λ (h : length f < header_size). let z : ⊥ = omega arith in z)
    (passed _ _ n 0 m (passed _ _ n 0 v a))

pub header_whole : (f : List ℕ) → None (header_checks f) → Whole f
header_whole f a = let s = sizes_right (file_table f) _ _ (header_split f a).3 in record { size = s.4; few = s.3 }

pub passed_none : (f : List ℕ) → None (file_checks f) → Passed f
unfolding file_checks
passed_none f a =
    let h = none_left (header_checks f) (row_checks (file_table f)) a in
    record {
      size = (header_whole f h).size;
      sound = table_sound (file_table f) _ _ (rings_few f) (header_split f h).3 (none_right (header_checks f) (row_checks (file_table f)) a);
    }

pub passed_of : (f : List ℕ) (p : ℕ) → Answers (file_checks f) 0 p → Passed f
passed_of f p a = passed_none f (none_of (file_checks f) p (file_numbered f) a)

pub none_passed : (f : List ℕ) → Marked (mark f) → Known (file_rings f) (version f) → Passed f → None (file_checks f)
unfolding file_checks header_checks None
none_passed f m v p =
    none_join (header_checks f) (row_checks (file_table f)) (
      λ (l : length f < header_size). let z : ⊥ = omega (arith, p.size) in z,
      (
        marked_right m,
        (known_right v, table_none (file_table f) (length f) _ p.sound p.size),
      ),
    )
    (rows_none (file_table f) p.sound.row)

-- ---- rows checked one after the other

-- the rows below i are there and have no fault
pub record Checked (t : Table) (i : ℕ) : Type 0 where
  pub there : i ≤ t.rows
  pub clear : None (each i (faults t))

pub checked_start : (t : Table) → Checked t 0
unfolding each None
checked_start t = record { there = omega arith; clear = tt }

module _ {t : Labelled} {i : ℕ} (M k n : ℕ) {r : Row} (e : t.table.elements ≡ M) (w : t.table.rings ≡ k) (q : IsRow t i r)
    (a : Answers (faults (single M k r) 0) n 0) where
  pub checked_next : Checked t.table i → i < t.table.rows → n ≡ 0 → Checked t.table (i + 1)
  checked_next c l z = record {
    there = omega arith;
    clear = none_next (faults t.table) i c.clear (row_clean M k r t i e w q (rw z at a));
  }

  pub checked_stop : Checked t.table i → i < t.table.rows → n ≢ 0 → Answers (row_checks t.table) n i
  unfolding row_checks
  checked_stop c l h =
      stopped_at (faults t.table) t.table.rows i n i l h c.clear (row_found M k n r t i e w q h a)

pub checked_end : {t : Table} {i : ℕ} → Checked t i → t.rows ≤ i → Answers (row_checks t) 0 0
unfolding row_checks
checked_end {t} {i} c l =
    let e : i ≡ t.rows = omega (arith, c.there) in
    answered (each t.rows (faults t)) (rw e at c.clear)

-- ---- a table in memory

module _ (r M n : ℕ) (xs : List ℕ) where
  abbrev t : Table
  t = memory_with r M n xs

  abbrev sizes : List Check
  sizes = size_checks (memory_with r M n xs) (length xs) (row_numbers * n)

  pub memory_stopped : (m : ℕ) → m ≢ 0 → Answers sizes m 0 → Answers (memory_checks r M n xs) m 0
  unfolding memory_checks
  memory_stopped m h a = stopped sizes (row_checks t) m 0 h a

  pub memory_joined : (m p : ℕ) → None sizes → Answers (row_checks t) m p → Answers (memory_checks r M n xs) m p
  unfolding memory_checks
  memory_joined m p a b = joined sizes (row_checks t) m p a b

  pub memory_numbered : Numbered (memory_checks r M n xs)
  unfolding memory_checks
  memory_numbered = numbered_join sizes (row_checks t) (sizes_numbered t (length xs) (row_numbers * n)) (rows_numbered t)

  pub memory_sound : r ≤ max_rings → None (memory_checks r M n xs) → Sound t × (length xs ≡ row_numbers * n)
  unfolding memory_checks
  memory_sound few a =
      let s = none_left sizes (row_checks t) a in (
        table_sound t (length xs) (row_numbers * n) few s (none_right sizes (row_checks t) a),
        (sizes_right t (length xs) (row_numbers * n) s).4,
      )

  pub memory_sizes : None (memory_checks r M n xs) → (n ≤ max_rows) × (length xs ≡ row_numbers * n)
  unfolding memory_checks
  memory_sizes a = let s = sizes_right t (length xs) (row_numbers * n) (none_left sizes (row_checks t) a) in (s.3, s.4)

  pub memory_none : Sound t → length xs ≡ row_numbers * n → None (memory_checks r M n xs)
  unfolding memory_checks
  memory_none s e = none_join sizes (row_checks t) (table_none t (length xs) (row_numbers * n) s e) (rows_none t s.row)

  pub ends_fit : Sound t → EndsFit (memory_with r 0 n xs)
  ends_fit s = record {
    way = λ i l. omega (arith, (s.row i l).way_known, s.rings_few);
    first = λ i l. let r = s.row i l in omega (arith, r.first_high, s.elements_high);
    second = λ i l. let r = s.row i l in omega (arith, r.second_high, s.elements_high);
  }

  -- ---- to be written in version v

  abbrev labels : ℕ → List Check
  labels v = label_checks v (memory_labelled_with r M n xs)

  pub version_unknown : (v : ℕ) → (wrong_version r v).applies → Answers (version_checks r v M n xs) 3 0
  unfolding version_checks
  version_unknown v w = applied (wrong_version r v) (memory_checks r M n xs ++ labels v) 3 0 w refl refl

  pub labels_numbered : (v : ℕ) → Numbered (labels v)
  unfolding label_checks
  labels_numbered v = single_numbered (lost_label v (memory_labelled_with r M n xs)) n (λ i. omega arith)

  pub version_numbered : (v : ℕ) → Numbered (version_checks r v M n xs)
  unfolding version_checks Numbered
  version_numbered v = (omega arith, numbered_join (memory_checks r M n xs) (labels v) memory_numbered (labels_numbered v))

  module _ (v : ℕ) (k : (wrong_version r v).applies → ⊥) where
    pub version_stopped : (m p : ℕ) → m ≢ 0 → Answers (memory_checks r M n xs) m p → Answers (version_checks r v M n xs) m p
    unfolding version_checks
    version_stopped m p h a =
        passed (wrong_version r v) (memory_checks r M n xs ++ labels v) m p k (stopped (memory_checks r M n xs) (labels v) m p h a)

    pub version_joined : (m p : ℕ) → None (memory_checks r M n xs) → Answers (labels v) m p → Answers (version_checks r v M n xs) m p
    unfolding version_checks
    version_joined m p a b =
        passed (wrong_version r v) (memory_checks r M n xs ++ labels v) m p k (joined (memory_checks r M n xs) (labels v) m p a b)

    pub version_none : None (memory_checks r M n xs) → None (labels v) → None (version_checks r v M n xs)
    unfolding version_checks None
    version_none a b = (k, none_join (memory_checks r M n xs) (labels v) a b)

  pub version_known : (v : ℕ) → None (version_checks r v M n xs) → Known r v × None (memory_checks r M n xs) × None (labels v)
  unfolding version_checks None
  version_known v a =
      (known r v a.0, none_left (memory_checks r M n xs) (labels v) a.1, none_right (memory_checks r M n xs) (labels v) a.1)
