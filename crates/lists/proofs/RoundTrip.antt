-- Reading and writing a list give back what they were given, by the table's laws of files of rows of one size.
--
--   AlikeLists l m     lists l and m have the same head and the same entries
use mathlib.Core.Path.{◌≡◌, refl, sym, ap, ap₂, ◌∙◌}
use mathlib.Core.Logic.{⊎_elim, inl, inr}
use mathlib.Core.List.{List, [], ◌∷◌, ◌++◌}
use Prim.Native.Nat.{ℕ, ◌+◌, ◌-◌, ◌*◌, ◌≤◌, ◌<◌}
use native.Mathlib.Nat.{mul_comm, add-zero, zero-add}
use native.Mathlib.Omega.{arith}
use lib.ListN.{length, take, length-append}
use Rattle.numbers.specs.Lists.{at, each}
use Rattle.numbers.proofs.Lists.{each_eq, each_length}
use Rattle.numbers.proofs.Codec.{places, row_place, rows_whole, low_high, low_of, high_of}
use Rattle.rules.specs.ElementList.{
  Entry,
  ElementList,
  list_header,
  entry_size,
  entry_numbers,
  file_list,
  file_entry,
  memory_list,
  memory_entry,
  in_memory,
  in_file,
  file_head,
  list_numbers,
  list_bytes,
  Rises,
}
use Rattle.rules.specs.Refusals.{list_file_checks, list_reader_checks, list_memory_checks, list_writer_checks}
use Rattle.rules.specs.Calls.{lent, ListRead, ListWritten}
use Rattle.rules.proofs.Answers.{None, Numbered, none_join, none_left, numbered_join}
use Rattle.rules.proofs.Calls.{lent_take, call_none, call_must}
use Rattle.table.proofs.Faults.{mark_at}
use Rattle.lists.proofs.Heads.{
  Right,
  ListPassed,
  file_numbered,
  file_head_lem,
  head_passed,
  file_right,
  passed_none,
  memory_numbered,
  memory_right,
  memory_whole,
  right_memory,
}

pub record AlikeLists (l m : ElementList) : Type 0 where
  pub element : l.element ≡ m.element
  pub hyper : l.hyper ≡ m.hyper
  pub entries : l.entries ≡ m.entries
  pub entry : (k : ℕ) → k < m.entries → l.entry k ≡ m.entry k

-- ---- alike lists

pub numbers_alike : {l m : ElementList} → AlikeLists l m → list_numbers l ≡ list_numbers m
unfolding list_numbers
numbers_alike {l} {m} q =
    ap (λ (n : ℕ). each n (λ k. in_memory (l.entry k))) q.entries
    ∙ each_eq m.entries (λ k. in_memory (l.entry k)) (λ k. in_memory (m.entry k)) (λ k h. ap in_memory (q.entry k h))

pub bytes_alike : {l m : ElementList} → AlikeLists l m → list_bytes l ≡ list_bytes m
unfolding list_bytes
bytes_alike {l} {m} q =
    ap₂ (λ (h r : List ℕ). h ++ r) (ap₂ file_head q.element q.hyper)
    (ap (λ (n : ℕ). each n (λ k. in_file (l.entry k))) q.entries
    ∙ each_eq m.entries (λ k. in_file (l.entry k)) (λ k. in_file (m.entry k)) (λ k h. ap in_file (q.entry k h)))

rises_alike : {l m : ElementList} → AlikeLists l m → (k : ℕ) → k < m.entries → Rises m k → Rises l k
rises_alike {l} {m} q k h r =
    ⊎_elim inl (λ b. inr (rw (q.entry k h, q.entry (k - 1) (omega arith)) b)) r

pub right_alike : {l m : ElementList} → AlikeLists l m → Right m → Right l
right_alike {l} {m} q r = record {
  element_low = rw q.element r.element_low;
  element_high = rw q.element r.element_high;
  hyper_low = rw q.hyper r.hyper_low;
  hyper_high = rw q.hyper r.hyper_high;
  entry = λ k h w.
      let g : k < m.entries = rw q.entries at h in
      r.entry k g
      (⊎_elim (λ a. inl (rw (q.hyper, q.entry k g) at a))
      (λ v. ⊎_elim (λ a. inr (inl (rw (q.entry k g) at a)))
      (λ v. ⊎_elim (λ a. inr (inr (inl (rw (q.entry k g) at a)))) (λ n. inr (inr (inr (λ z. n (rises_alike q k g z))))) v) v) w);
}

-- ---- what stands in a file, and in a slice

module _ (l : ElementList) (i : ℕ) (h : i < l.entries) where
  file_at : (j : ℕ) → j < entry_size → at (list_bytes l) (list_header + entry_size * i + j) ≡ at (in_file (l.entry i)) j
  unfolding list_bytes
  file_at j m =
      row_place list_header entry_size l.entries (file_head l.element l.hyper) (λ k. in_file (l.entry k)) refl (λ k h. refl) i j h m

  memory_at : (j : ℕ) → j < entry_numbers → at (list_numbers l) (entry_numbers * i + j) ≡ at (in_memory (l.entry i)) j
  unfolding list_numbers
  memory_at j m = rw zero-add at (row_place 0 entry_numbers l.entries [] (λ k. in_memory (l.entry k)) refl (λ k h. refl) i j h m)

pub numbers_length : (l : ElementList) → length (list_numbers l) ≡ entry_numbers * l.entries
unfolding list_numbers
numbers_length l = each_length l.entries entry_numbers (λ k. in_memory (l.entry k)) (λ i h. refl) ∙ mul_comm l.entries entry_numbers

pub bytes_length : (l : ElementList) → length (list_bytes l) ≡ list_header + entry_size * l.entries
unfolding list_bytes
bytes_length l =
    length-append (file_head l.element l.hyper) (each l.entries (λ k. in_file (l.entry k)))
    ∙ ap (λ (k : ℕ). list_header + k)
    (each_length l.entries entry_size (λ k. in_file (l.entry k)) (λ i h. refl) ∙ mul_comm l.entries entry_size)

-- ---- the list of a file or slice is the list that it was made of

entry_eq : (x y : Entry) → x.slot ≡ y.slot → x.row ≡ y.row → x.way ≡ y.way → x ≡ y
entry_eq x y a b c = λ k. record { slot = a k; row = b k; way = c k }

element_back : (l : ElementList) → at (list_bytes l) 5 ≡ l.element
unfolding list_bytes
element_back l = refl

hyper_back : (l : ElementList) → at (list_bytes l) 6 + 256 * at (list_bytes l) 7 ≡ l.hyper
unfolding list_bytes
hyper_back l = low_high l.hyper

pub file_back : (l : ElementList) → AlikeLists (file_list (list_bytes l)) l
file_back l = record {
  element = element_back l;
  hyper = hyper_back l;
  entries = let e = bytes_length l in omega (arith, e);
  entry = λ i h.
      entry_eq (file_entry (list_bytes l) i) (l.entry i)
      (ap₂ (λ (a b : ℕ). a + 256 * b) (rw add-zero at (file_at l i h 0 (omega arith))) (file_at l i h 1 (omega arith))
      ∙ low_high (l.entry i).slot)
      (file_at l i h 2 (omega arith)) (file_at l i h 3 (omega arith));
}

pub memory_back : (l : ElementList) → AlikeLists (memory_list l.element l.hyper (list_numbers l)) l
memory_back l = record {
  element = refl;
  hyper = refl;
  entries = let e = numbers_length l in omega (arith, e);
  entry = λ i h.
      entry_eq (memory_entry (list_numbers l) i) (l.entry i) (rw add-zero at (memory_at l i h 0 (omega arith)))
      (memory_at l i h 1 (omega arith)) (memory_at l i h 2 (omega arith));
}

-- ---- the file or slice of a list is what the list was read from

abbrev pub Bytes : List ℕ → Type 0
Bytes f = (i : ℕ) → at f i < 256

pub numbers_whole : (e h : ℕ) (xs : List ℕ) → length xs ≡ entry_numbers * (memory_list e h xs).entries → list_numbers (memory_list e h xs) ≡ xs
unfolding list_numbers each
numbers_whole e h xs q =
    rows_whole 0 entry_numbers (memory_list e h xs).entries (λ k. in_memory (memory_entry xs k)) xs (omega (arith, q))
    (λ i l. rw (zero-add (entry_numbers * i), add-zero (entry_numbers * i)))

head_whole : (f : List ℕ) → Bytes f → ListPassed f → file_head (file_list f).element (file_list f).hyper ≡ take list_header f
unfolding each
head_whole f b p =
    let low : at f 3 ≡ 1 = omega (arith, p.versioned) in
    let high : at f 4 ≡ 0 = omega (arith, p.versioned) in
    let m = p.marked in
    sym
    (places list_header 0 f p.long
    ∙ rw (
      mark_at f 0 (omega arith) m,
      mark_at f 1 (omega arith) m,
      mark_at f 2 (omega arith) m,
      low,
      high,
      low_of (at f 6) (at f 7) (b 6),
      high_of (at f 6) (at f 7) (b 6),
    ))

entry_whole : (f : List ℕ) (i : ℕ) → Bytes f → in_file (file_entry f i) ≡ each entry_size (λ j. at f (list_header + entry_size * i + j) ∷ [])
unfolding each
entry_whole f i b =
    let p : ℕ = list_header + entry_size * i in
    rw (low_of (at f p) (at f (p + 1)) (b p), high_of (at f p) (at f (p + 1)) (b p), add-zero p)

pub bytes_whole : (f : List ℕ) → Bytes f → ListPassed f → list_bytes (file_list f) ≡ f
unfolding list_bytes
bytes_whole f b p =
    ap (λ (r : List ℕ). r ++ each (file_list f).entries (λ k. in_file (file_entry f k))) (head_whole f b p)
    ∙ rows_whole list_header entry_size (file_list f).entries (λ k. in_file (file_entry f k)) f p.size (λ i l. entry_whole f i b)

-- ---- there and back

-- what was read passes the writer's checks, and what was written the reader's
pub read_passes : (f : List ℕ) → None (list_file_checks f)
    → None (list_memory_checks (file_list f).element (file_list f).hyper (list_numbers (file_list f)))
read_passes f a =
    let q = memory_back (file_list f) in
    right_memory (file_list f).element (file_list f).hyper (list_numbers (file_list f))
    (numbers_length (file_list f) ∙ ap (λ (n : ℕ). entry_numbers * n) (sym q.entries)) (right_alike q (file_right f a))

-- what the list's own checks pass, its file's checks pass
pub bytes_pass : (l : ElementList) → Right l → None (list_file_checks (list_bytes l))
unfolding list_bytes
bytes_pass l r =
    let q = file_back l in
    let s = bytes_length l in
    passed_none (list_bytes l)
    (record { long = omega (arith, s); marked = refl; versioned = refl; size = omega (arith, s, q.entries) })
    (right_alike q r)

-- ---- the two calls

reader_numbered : (f : List ℕ) (room : ℕ) → Numbered (list_reader_checks f room)
unfolding list_reader_checks Numbered
reader_numbered f room = numbered_join (list_file_checks f) _ (file_numbered f) (omega arith)

writer_numbered : (e h : ℕ) (xs : List ℕ) (room : ℕ) → Numbered (list_writer_checks e h xs room)
unfolding list_writer_checks Numbered
writer_numbered e h xs room = numbered_join (list_memory_checks e h xs) _ (memory_numbered e h xs) (omega arith)

reader_none : (f : List ℕ) (room : ℕ) → None (list_file_checks f) → entry_numbers * (file_list f).entries ≤ room
    → None (list_reader_checks f room)
unfolding list_reader_checks None
reader_none f room a l =
    none_join (list_file_checks f) _ a (λ (h : room < entry_numbers * (file_list f).entries). let z : ⊥ = omega arith in z, tt)

pub writer_none : (e h : ℕ) (xs : List ℕ) (room : ℕ) → None (list_memory_checks e h xs)
    → list_header + entry_size * (memory_list e h xs).entries ≤ room → None (list_writer_checks e h xs room)
unfolding list_writer_checks None
writer_none e h xs room a l =
    none_join (list_memory_checks e h xs) _ a
    (λ (q : room < list_header + entry_size * (memory_list e h xs).entries). let z : ⊥ = omega arith in z, tt)

pub read_none : (f : List ℕ) (room : ℕ) → None (list_reader_checks f room) → None (list_file_checks f)
unfolding list_reader_checks
read_none f room a = none_left (list_file_checks f) _ a

pub written_none : (e h : ℕ) (xs : List ℕ) (room : ℕ) → None (list_writer_checks e h xs room) → None (list_memory_checks e h xs)
unfolding list_writer_checks
written_none e h xs room a = none_left (list_memory_checks e h xs) _ a

-- what was read, the writer writes as it stood in the file
pub read_then_written : (f was now : List ℕ) (p e h n : ℕ) (was' now' : List ℕ) (number place : ℕ) → Bytes f → ListRead f was now 0 p e h n
    → list_header + entry_size * n ≤ length was' → ListWritten e h (take (entry_numbers * n) now) was' now' number place
    → (number ≡ 0) × (place ≡ 0) × (take (list_header + entry_size * n) now' ≡ f)
read_then_written f was now p e h n was' now' number place b c l w =
    let m : ElementList = file_list f in
    let xs : List ℕ = take (entry_numbers * n) now in
    let a = read_none f (length was) (call_none (reader_numbered f (length was)) c) in
    let d = c.done refl in
    let same : xs ≡ list_numbers m =
    ap₂ (λ (k : ℕ) (o : List ℕ). take (entry_numbers * k) o) d.2 d.3
    ∙ lent_take (list_numbers m) was (entry_numbers * m.entries) (numbers_length m) in
    let q : AlikeLists (memory_list e h xs) m = rw (same, d.0, d.1) (memory_back m) in
    let none : None (list_writer_checks e h xs (length was')) =
    writer_none e h xs (length was') (rw (same, d.0, d.1) (read_passes f a)) (omega (arith, l, q.entries, d.2)) in
    let z = call_must none w in
    let file : list_bytes (memory_list e h xs) ≡ f = bytes_alike q ∙ bytes_whole f b (head_passed f (file_head_lem f a)) in
    let size : ℕ = list_header + entry_size * n in
    let long : length (list_bytes (memory_list e h xs)) ≡ size =
    bytes_length (memory_list e h xs) ∙ ap (λ (k : ℕ). list_header + entry_size * k) (q.entries ∙ sym d.2) in
    (z.0, z.1, ap (take size) z.2 ∙ lent_take (list_bytes (memory_list e h xs)) was' size long ∙ file)

-- what was written, the reader reads as it stood in the slice
pub written_then_read : (e h : ℕ) (xs was now : List ℕ) (p : ℕ) (was' now' : List ℕ) (number place e' h' n' : ℕ)
    → ListWritten e h xs was now 0 p → length xs ≤ length was'
    → ListRead (take (list_header + entry_size * (memory_list e h xs).entries) now) was' now' number place e' h' n'
    → (number ≡ 0) × (place ≡ 0) × (e' ≡ e) × (h' ≡ h) × (n' ≡ (memory_list e h xs).entries) × (take (length xs) now' ≡ xs)
written_then_read e h xs was now p was' now' number place e' h' n' c l r =
    let m : ElementList = memory_list e h xs in
    let size : ℕ = list_header + entry_size * m.entries in
    let a = written_none e h xs (length was) (call_none (writer_numbered e h xs (length was)) c) in
    let whole : length xs ≡ entry_numbers * m.entries = memory_whole e h xs a in
    let file : take size now ≡ list_bytes m = ap (take size) (c.done refl) ∙ lent_take (list_bytes m) was size (bytes_length m) in
    let q : AlikeLists (file_list (take size now)) m = rw file (file_back m) in
    let none : None (list_reader_checks (take size now) (length was')) =
    reader_none (take size now) (length was') (rw file (bytes_pass m (memory_right e h xs a))) (omega (arith, l, whole, q.entries)) in
    let z = call_must none r in
    let all : list_numbers (file_list (take size now)) ≡ xs = numbers_alike q ∙ numbers_whole e h xs whole in (
      z.0,
      z.1,
      z.2.0 ∙ q.element,
      z.2.1 ∙ q.hyper,
      z.2.2 ∙ q.entries,
      ap (take (length xs)) (z.2.3 ∙ ap (λ (ys : List ℕ). lent ys was') all) ∙ lent_take xs was' (length xs) refl,
    )
