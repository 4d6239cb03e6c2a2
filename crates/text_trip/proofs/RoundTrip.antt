-- Rows written as a text and read are the same rows, a text that is read gives a file, and a file that is read gives a text: the statements
-- of specs/Promises, proved.
use mathlib.Core.Path.{◌≡◌, refl, sym, ap, ap₂, ◌∙◌}
use mathlib.Core.List.{List, [], ◌∷◌, append-nil}
use Prim.Native.Nat.{ℕ, ◌+◌, ◌*◌, ◌≤◌, ◌<◌}
use native.Mathlib.Omega.{arith}
use lib.ListN.{length, take}
use Rattle.numbers.specs.Lists.{at, each}
use Rattle.numbers.proofs.Lists.{each_eq}
use Rattle.rules.specs.Bus.{Labelled}
use Rattle.rules.specs.TableFile.{header_size, row_size, row_numbers, last_number_of, rings_of, mark_of, version, file_rings}
use Rattle.rules.specs.TableFile.{file_labelled, memory_labelled_with, numbers, bytes}
use Rattle.rules.specs.Refusals.{unknown_mark, version_checks, writer_checks}
use Rattle.rules.specs.Calls.{lent}
use Rattle.rules.proofs.Rings.{rings_few}
use Rattle.rules.proofs.Answers.{None, Numbered, none_join, none_left, numbered_join}
use Rattle.rules.proofs.Calls.{lent_take, call_none, call_must}
use Rattle.table.proofs.Faults.{Marked, marked_right, known_right, memory_sound, version_numbered, version_known}
use Rattle.round_trip.proofs.RoundTrip.{Alike, OneOrTwo, last_told, memory_told, file_told, labels_fit, rings_marked, mark_marked}
use Rattle.round_trip.proofs.RoundTrip.{numbers_alike, bytes_alike, memory_back, numbers_length, numbers_whole, bytes_length, table_passes}
use Rattle.round_trip.proofs.RoundTrip.{reader_numbered as file_numbered, known_mark, marked_own, rings_front, read_none}
use Rattle.round_trip.proofs.RoundTrip.{read_marked, read_passes}
use Rattle.grammar.specs.TableText.{text_rings, text_table, text_labelled, text_version, row_line, table_text}
use Rattle.grammar.specs.TableText.{memory_text, text_checks, text_reader_checks, text_writer_checks, max_number, TextRead}
use Rattle.text_reader.proofs.Texts.{text_numbered}
use Rattle.text_trip.specs.Promises.{WrittenThenRead, ReadThenFiled, FileThenSaid}
use Rattle.text_trip.proofs.Passing.{text_back, text_passes, version_back}
use Rattle.text_trip.proofs.Sounds.{text_rings_lem, text_told, text_sound, version_known as text-known, version_bare}

-- ---- the checks of both calls

module _ (m : List ℕ) (v M n : ℕ) (xs : List ℕ) (room : ℕ) where
  writer_numbered : Numbered (text_writer_checks m v M n xs room)
  unfolding text_writer_checks Numbered
  writer_numbered =
      (omega arith, numbered_join (version_checks (rings_of m) v M n xs) _ (version_numbered (rings_of m) M n xs v) (omega arith))

  writer_passed : None (text_writer_checks m v M n xs room) → ((unknown_mark m).applies → ⊥) × None (version_checks (rings_of m) v M n xs)
  unfolding text_writer_checks None
  writer_passed a = (a.0, none_left (version_checks (rings_of m) v M n xs) _ a.1)

  writer_passes : Marked m → None (version_checks (rings_of m) v M n xs) → length (memory_text m v M n xs) ≤ room
      → None (text_writer_checks m v M n xs room)
  unfolding text_writer_checks None
  writer_passes k a l = (
    marked_right k,
    none_join (version_checks (rings_of m) v M n xs) _ a
        (λ (h : room < length (memory_text m v M n xs)). let z : ⊥ = omega arith in z, tt),
  )

  file_passes : Marked m → None (version_checks (rings_of m) v M n xs) → header_size + row_size (rings_of m) v * n ≤ room
      → None (writer_checks m v M n xs room)
  unfolding writer_checks None
  file_passes k a l = (
    marked_right k,
    none_join (version_checks (rings_of m) v M n xs) _ a
        (λ (h : room < header_size + row_size (rings_of m) v * n). let z : ⊥ = omega arith in z, tt),
  )

module _ (t : List ℕ) (room : ℕ) where
  reader_numbered : Numbered (text_reader_checks t room)
  unfolding text_reader_checks Numbered
  reader_numbered = numbered_join (text_checks t) _ (text_numbered t) (omega arith)

  reader_passed : None (text_reader_checks t room) → None (text_checks t)
  unfolding text_reader_checks
  reader_passed a = none_left (text_checks t) _ a

  reader_passes : None (text_checks t) → row_numbers * (text_table t).rows ≤ room → None (text_reader_checks t room)
  unfolding text_reader_checks None
  reader_passes a l =
      none_join (text_checks t) _ a (λ (h : room < row_numbers * (text_table t).rows). let z : ⊥ = omega arith in z, tt)

-- a mark tells the rings of its table
mark_rings : {r : ℕ} → OneOrTwo r → rings_of (mark_of r) ≡ r
mark_rings {r} o = ap rings_of (sym (append-nil (mark_of r))) ∙ rings_marked o []

-- ---- written, then read

pub written_then_read : WrittenThenRead
written_then_read m v M n xs was now p size was' now' number place m' v' M' n' small c l again =
    let r : ℕ = rings_of m in
    let t : Labelled = memory_labelled_with r M n xs in
    let T : List ℕ = table_text v t in
    let a = writer_passed m v M n xs (length was) (call_none (writer_numbered m v M n xs (length was)) c) in
    let own = marked_own (known_mark m a.0) in
    let o : OneOrTwo r = own.0 in
    let k = version_known r M n xs v a.1 in
    let s = memory_sound r M n xs (rings_few m) k.1 in
    let fits = labels_fit v t k.0 k.2 in
    let told = memory_told r M n xs in
    let back : Alike (text_labelled T) t = text_back v t o k.0 fits told in
    let d = c.done refl in
    let said : take size now ≡ T = ap (take size) d.0 ∙ lent_take T was size (sym d.1) in
    let read : TextRead T was' now' number place m' v' M' n' = rw said at again in
    let few : (i : ℕ) → i < n → last_number_of t i ≤ max_number =
    λ i j. omega (arith, last_told r (at xs (row_numbers * i + 4)), small (row_numbers * i + 4)) in
    let none : None (text_reader_checks T (length was')) =
    reader_passes T (length was') (text_passes v t o k.0 fits told s.0 few) (rw back.rows l) in
    let z = call_must none read in
    let same : numbers (text_labelled T) ≡ xs = numbers_alike back ∙ numbers_whole r M n xs s.1 in (
      z.0,
      z.1,
      z.2.0 ∙ ap mark_of back.rings ∙ own.1,
      z.2.1 ∙ version_back v t o k.0 s.0.rows_low,
      z.2.2 ∙ back.elements,
      z.2.3 ∙ back.rows,
      ap (take (row_numbers * n)) (z.2.4 ∙ ap (λ (ys : List ℕ). lent ys was') same) ∙ lent_take xs was' (row_numbers * n) s.1,
    )

-- ---- read, then written to a file

pub read_then_filed : ReadThenFiled
read_then_filed t was now p m v M n was' now' number place c l w =
    let T : Labelled = text_labelled t in
    let xs : List ℕ = take (row_numbers * n) now in
    let a = reader_passed t (length was) (call_none (reader_numbered t (length was)) c) in
    let d = c.done refl in
    let same : xs ≡ numbers T =
    ap₂ (λ (k : ℕ) (o : List ℕ). take (row_numbers * k) o) d.3 d.4
    ∙ lent_take (numbers T) was (row_numbers * T.table.rows) (numbers_length T) in
    let o : OneOrTwo (text_rings t) = text_rings_lem t in
    let rings : rings_of m ≡ text_rings t = ap rings_of d.0 ∙ mark_rings o in
    let marked : Marked m = rw d.0 (mark_marked o) in
    let passes : None (version_checks (rings_of m) v M n xs) =
    rw (same, rings, d.1, d.2, d.3)
    (table_passes (text_version t) T (known_right (text-known t)) (text_told t) (text_sound t a) (λ i j e. version_bare t i j e)) in
    let z = call_must (file_passes m v M n xs (length was') marked passes l) w in
    let size : ℕ = header_size + row_size (rings_of m) v * n in
    let file : bytes v (memory_labelled_with (rings_of m) M n xs) ≡ bytes (text_version t) T =
    rw (same, rings, d.1, d.2, d.3) (bytes_alike (text_version t) (memory_back T (text_told t))) in (
      z.0,
      z.1,
      ap (take size) z.2
          ∙ lent_take (bytes v (memory_labelled_with (rings_of m) M n xs)) was' size
          (bytes_length v (memory_labelled_with (rings_of m) M n xs) (rw rings o))
          ∙ file,
    )

-- ---- a file read, then written as a text

text_alike : (v : ℕ) {s t : Labelled} → Alike s t → table_text v s ≡ table_text v t
unfolding table_text
text_alike v {s} {t} q =
    let rows : each s.table.rows (λ i. row_line v s i ∷ []) ≡ each t.table.rows (λ i. row_line v t i ∷ []) =
    ap (λ (n : ℕ). each n (λ i. row_line v s i ∷ [])) q.rows
    ∙ each_eq t.table.rows (λ i. row_line v s i ∷ []) (λ i. row_line v t i ∷ [])
    (λ i l. rw (q.cost i l, q.period i l, q.first i l, q.second i l, q.rings, q.way i l, q.label i l)) in
    rw (rows, q.rings, q.elements)

pub file_then_said : FileThenSaid
file_then_said f was now p m v M n was' now' number place size c l w =
    let T : Labelled = file_labelled f in
    let xs : List ℕ = take (row_numbers * n) now in
    let a = read_none f (length was) (call_none (file_numbered f (length was)) c) in
    let d = c.done refl in
    let same : xs ≡ numbers T =
    ap₂ (λ (k : ℕ) (o : List ℕ). take (row_numbers * k) o) d.3 d.4
    ∙ lent_take (numbers T) was (row_numbers * T.table.rows) (numbers_length T) in
    let rings : rings_of m ≡ file_rings f = ap rings_of d.0 ∙ rings_front f in
    let marked : Marked m = rw d.0 (read_marked f a) in
    let passes : None (version_checks (rings_of m) v M n xs) = rw (same, rings, d.1, d.2, d.3) (read_passes f a) in
    let said : memory_text m v M n xs ≡ table_text (version f) T =
    rw (same, rings, d.1, d.2, d.3) (text_alike (version f) (memory_back T (file_told f))) in
    let z = call_must (writer_passes m v M n xs (length was') marked passes (rw said l)) w in (
      z.0,
      z.1,
      z.2.1 ∙ ap length said,
      ap (take size) z.2.0 ∙ lent_take (memory_text m v M n xs) was' size (sym z.2.1) ∙ said,
    )
