-- What the reader answers, from its checks; and that only one answer fits.
use mathlib.Core.Path.{◌≡◌, refl, sym, ap, ◌∙◌}
use mathlib.Core.Logic.{inl, inr, ⊎_elim, ◌≢◌}
use mathlib.Core.List.{List, [], ◌∷◌}
use Prim.Native.Nat.{ℕ, ◌*◌, ◌≤◌, ◌<◌}
use native.Mathlib.Omega.{arith}
use lib.ListN.{length}
use Rattle.numbers.proofs.Truth.{le_or_lt}
use Rattle.numbers.specs.Lists.{at}
use Rattle.numbers.proofs.Lists.{each_eq}
use Rattle.rules.specs.TableFile.{table_mark, version_2, header_size, row_numbers, last_of, mark, mark_of, version, file_rings}
use Rattle.rules.specs.TableFile.{file_table, file_labelled, memory_row, numbers}
use Rattle.rules.specs.Bus.{Labelled}
use Rattle.rules.specs.Refusals.{Check, Answers, header_checks, file_checks, reader_checks, version_1_checks}
use Rattle.rules.specs.Calls.{lent, no_mark, ReadBy, Read, ReadVersion1}
use Rattle.rules.proofs.Answers.{None, applied, passed}
use Rattle.rules.proofs.Calls.{call_refused, call_short, call_done, call_only}
use Rattle.table.specs.declared.Row.{Row}
use Rattle.table.specs.Rows.{IsRow, in_memory}
use Rattle.table.specs.Columns.{ByRow, column_labelled, no_labels}
use Rattle.table.proofs.Faults.{Marked, file_numbered, known, mark_right, mark_again}
use Rattle.decoding.proofs.OneRing.{OtherMark, other_mark}

-- the places of a row
pub memory_row_lem : {t : Labelled} {i : ℕ} {r : Row} → IsRow t i r → in_memory t.table.rings r ≡ memory_row t i
memory_row_lem q = rw (q.cost, q.period, q.first, q.second, q.way, q.label)

-- rows by their last numbers
numbers_last : (M n r : ℕ) (cost period first second way label last : List ℕ) → ByRow n (λ i. last_of r (at way i) (at label i)) last
    → numbers (column_labelled 0 n 1 cost period first second no_labels last)
    ≡ numbers (column_labelled M n r cost period first second way label)
unfolding numbers last_of
numbers_last M n r cost period first second way label last B =
    each_eq n _ _ (λ i l. ap (λ (x : ℕ). at cost i ∷ at period i ∷ at first i ∷ at second i ∷ x ∷ []) (B.row i l))

-- what stands in the slice, where the columns hold the table t
pub numbers_read : {t : Labelled} (M n r : ℕ) (cost period first second way label last was : List ℕ) {now : List ℕ}
    → now ≡ lent (numbers (column_labelled 0 n 1 cost period first second no_labels last)) was
    → ByRow n (λ i. last_of r (at way i) (at label i)) last → column_labelled M n r cost period first second way label ≡ t
    → now ≡ lent (numbers t) was
numbers_read M n r cost period first second way label last was e B h =
    e ∙ ap (λ (xs : List ℕ). lent xs was) (numbers_last M n r cost period first second way label last B ∙ ap numbers h)

-- the mark that is returned is the file's
pub mark_read : (f : List ℕ) {m : List ℕ} {r : ℕ} → m ≡ mark_of r → r ≡ file_rings f → Marked (mark f) → m ≡ mark f
mark_read f e h k = e ∙ ap mark_of h ∙ mark_again f k

module _ (f was : List ℕ) where
  abbrev short : Type 0
  short = length was < row_numbers * (file_table f).rows

  pub read_refused : (m p : ℕ) → Answers (file_checks f) m p → m ≢ 0 → Read f was was m p no_mark 0 0 0
  unfolding reader_checks
  read_refused m p a h = call_refused (file_checks f) short a h (refl, refl, refl, refl, refl)

  pub read_short : None (file_checks f) → short → Read f was was 17 0 no_mark 0 0 0
  unfolding reader_checks
  read_short a h = call_short (file_checks f) short a h (refl, refl, refl, refl, refl)

  pub read_done : (now : List ℕ) (m p : ℕ) (k : List ℕ) (v M n : ℕ) → Answers (file_checks f) m p → m ≡ 0 → (short → ⊥) → k ≡ mark f
      → v ≡ version f → M ≡ (file_table f).elements → n ≡ (file_table f).rows → now ≡ lent (numbers (file_labelled f)) was
      → Read f was now m p k v M n
  unfolding reader_checks
  read_done now m p k v M n a e h x y z w u = call_done (file_checks f) short (file_numbered f) a e h (x, y, z, w, u)

-- whatever the checks
pub read_only : {cs : List Check} (f was now now' : List ℕ) (m n p q : ℕ) (k k' : List ℕ) (v v' M M' r r' : ℕ)
    → ReadBy cs f was now m p k v M r → ReadBy cs f was now' n q k' v' M' r'
    → (m ≡ n) × (p ≡ q) × (k ≡ k') × (v ≡ v') × (M ≡ M') × (r ≡ r') × (now ≡ now')
read_only f was now now' m n p q k k' v v' M M' r r' c d =
    let z = call_only c d in
    let s : (k ≡ k') × (v ≡ v') × (M ≡ M') × (r ≡ r') × (now ≡ now') =
    ⊎_elim
    (λ w. (
      w.0.0 ∙ sym w.1.0,
      w.0.1 ∙ sym w.1.1,
      w.0.2 ∙ sym w.1.2,
      w.0.3 ∙ sym w.1.3,
      w.0.4 ∙ sym w.1.4,
    ))
    (λ w. (
      w.0.0 ∙ sym w.1.0,
      w.0.1 ∙ sym w.1.1,
      w.0.2 ∙ sym w.1.2,
      w.0.3 ∙ sym w.1.3,
      w.0.4 ∙ sym w.1.4,
    ))
    z.2 in
    (z.0, z.1, s.0, s.1, s.2, s.3, s.4)

-- ---- version 1 alone, with one ring

module _ (f : List ℕ) where
  abbrev labelled : Type 0
  labelled = (header_size ≤ length f) × (mark f ≡ table_mark) × (version f ≡ version_2)

  -- a file with another mark gets 2
  pub other_refused : (was : List ℕ) → OtherMark f → ReadVersion1 f was was 2 0 no_mark 0 0 0
  unfolding version_1_checks
  other_refused was w = record {
    answers = other_mark f _ w;
    done = λ e. absurd (let z : ⊥ = omega arith in z);
    refused = λ h. (refl, refl, refl, refl, refl);
  }

  -- a file of version 2 gets 3
  pub version_1_refused : (was : List ℕ) → labelled → ReadVersion1 f was was 3 0 no_mark 0 0 0
  unfolding version_1_checks
  version_1_refused was w = record {
    answers =
        passed _ _ 3 0 (λ (l : length f < header_size). let z : ⊥ = omega (arith, w.0) in z)
        (passed _ _ 3 0 (λ h. h w.1) (applied _ _ 3 0 (λ e. let z : ⊥ = omega (arith, e, w.2) in z) refl refl));
    done = λ e. absurd (let z : ⊥ = omega arith in z);
    refused = λ h. (refl, refl, refl, refl, refl);
  }

  -- any other gets what the reader answers
  version_1_answers : (room n p : ℕ) → (OtherMark f → ⊥) → (labelled → ⊥) → Answers (reader_checks f room) n p
      → Answers (version_1_checks f room) n p
  unfolding reader_checks version_1_checks file_checks header_checks Answers
  version_1_answers room n p g h a =
      ⊎_elim inl
      (λ s.
      let long : header_size ≤ length f = ⊎_elim (λ l. l) (λ l. absurd (s.0 l)) (le_or_lt header_size (length f)) in
      let plain : mark f ≡ table_mark = mark_right f (omega (arith, long)) (λ w. g (long, w)) in
      inr (
        s.0,
        inr (
          λ w. w plain,
          ⊎_elim (λ w. absurd (w.0.0 plain))
              (λ m. ⊎_elim (λ w. inl (w.0.0, w.1, w.2))
              (λ v. inr ((λ w. ⊎_elim w (λ e. h (long, plain, e.0)) (known (file_rings f) (version f) v.0)), a)) m.1)
              s.1,
        ),
      ))
      a

  pub version_1_else : (was now : List ℕ) (n p : ℕ) (k : List ℕ) (v M r : ℕ) → (OtherMark f → ⊥) → (labelled → ⊥)
      → Read f was now n p k v M r
      → ReadVersion1 f was now n p k v M r
  version_1_else was now n p k v M r g h c =
      record { answers = version_1_answers (length was) n p g h c.answers; done = c.done; refused = c.refused }
