-- What the writer puts and answers, from its checks; and that only one answer fits.
use mathlib.Core.Path.{◌≡◌, refl, sym, ◌∙◌}
use mathlib.Core.Logic.{⊎_elim, ◌≢◌}
use mathlib.Core.List.{List, [], ◌∷◌, ◌++◌}
use Prim.Native.Nat.{ℕ, suc, ◌+◌, ◌*◌, ◌<◌}
use native.Mathlib.Nat.{add-zero}
use native.Mathlib.Omega.{arith}
use lib.ListN.{length, set}
use lib.Seq.{sets}
use Rattle.numbers.specs.Codec.{write_low}
use Rattle.rules.specs.Bus.{Labelled}
use Rattle.rules.specs.TableFile.{header_size, row_with, row_size, last_of, write16, rings_of, memory_labelled_with, file_row, bytes}
use Rattle.rules.specs.Refusals.{Answers, unknown_mark, version_checks, writer_checks}
use Rattle.rules.specs.Calls.{Written, lent}
use Rattle.rules.proofs.Answers.{None, applied, passed}
use Rattle.rules.proofs.Calls.{call_refused, call_short, call_done, call_only}
use Rattle.table.specs.declared.Row.{Row}
use Rattle.table.specs.Rows.{IsRow, in_file}
use Rattle.table.proofs.Faults.{version_numbered}
use Rattle.writer.specs.Written.{WrittenWith}

-- ---- rows

-- the places of a row
pub file_row_lem : (k : ℕ) {t : Labelled} {i : ℕ} {r : Row} → IsRow t i r → in_file t.table.rings k r ≡ file_row k t i
file_row_lem k q = rw (q.cost, q.period, q.first, q.second, q.way, q.label)

-- two runs, one after the other
pub sets_join : (l : List ℕ) (i : ℕ) (xs ys : List ℕ) → sets l i (xs ++ ys) ≡ sets (sets l i xs) (i + length xs) ys
sets_join l i [] ys = rw (add-zero i)
sets_join l i (x ∷ xs) ys =
    let e : suc i + length xs ≡ i + length (x ∷ xs) = omega arith in
    rw e at (sets_join (set l i x) (suc i) xs ys)

-- a row is its six bytes, and then its direction or its label
pub row_join : (n k : ℕ) (r : Row) (l : List ℕ) (i : ℕ)
    → sets l i (in_file n k r) ≡ sets (sets l i (in_file 1 0 r)) (i + row_with 0) (write_low k (last_of n r.way r.label))
unfolding write_low
row_join n k r l i =
    sets_join l i (write16 r.cost ++ write16 r.period ++ (r.first ∷ r.second ∷ [])) (write_low k (last_of n r.way r.label))

-- ---- the answer

module _ (r v M n : ℕ) (xs was : List ℕ) where
  abbrev cramped : Type 0
  cramped = length was < header_size + row_size r v * n

  pub written_refused : (m p : ℕ) → Answers (version_checks r v M n xs) m p → m ≢ 0 → WrittenWith r v M n xs was was m p
  written_refused m p a h = call_refused (version_checks r v M n xs) cramped a h refl

  pub written_short : None (version_checks r v M n xs) → cramped → WrittenWith r v M n xs was was 17 0
  written_short a h = call_short (version_checks r v M n xs) cramped a h refl

  pub written_done : (now : List ℕ) (m p : ℕ) → Answers (version_checks r v M n xs) m p → m ≡ 0 → (cramped → ⊥)
      → now ≡ lent (bytes v (memory_labelled_with r M n xs)) was → WrittenWith r v M n xs was now m p
  written_done now m p a e h k = call_done (version_checks r v M n xs) cramped (version_numbered r M n xs v) a e h k

-- with the mark
module _ (m : List ℕ) (v M n : ℕ) (xs was : List ℕ) where
  pub mark_refused : (unknown_mark m).applies → Written m v M n xs was was 2 0
  unfolding writer_checks
  mark_refused w = record {
    answers = applied _ _ 2 0 w refl refl;
    done = λ e. absurd (let z : ⊥ = omega arith in z);
    refused = λ h. refl;
  }

  pub mark_known : (now : List ℕ) (number place : ℕ) → ((unknown_mark m).applies → ⊥) → WrittenWith (rings_of m) v M n xs was now number place
      → Written m v M n xs was now number place
  unfolding writer_checks
  mark_known now number place h c =
      record { answers = passed _ _ number place h c.answers; done = c.done; refused = c.refused }

pub written_only : (k : List ℕ) (v M r : ℕ) (xs was now now' : List ℕ) (m n p q : ℕ) → Written k v M r xs was now m p
    → Written k v M r xs was now' n q → (m ≡ n) × (p ≡ q) × (now ≡ now')
written_only k v M r xs was now now' m n p q c d =
    let z = call_only c d in
    (z.0, z.1, ⊎_elim (λ w. w.0 ∙ sym w.1) (λ w. w.0 ∙ sym w.1) z.2)
