-- Check 20: the labels of a slice of rows, looked at one after the other.
--
--   Bare r xs i        with r rings, the first i rows of the slice have label 0
use mathlib.Core.Path.{◌≡◌}
use mathlib.Core.Logic.{⊎_elim, ◌≢◌}
use mathlib.Core.List.{List}
use Prim.Native.Nat.{ℕ, suc, ◌+◌, ◌*◌, ◌<◌}
use native.Mathlib.Omega.{arith}
use Rattle.numbers.specs.Lists.{at}
use Rattle.numbers.proofs.Finite.{below}
use Rattle.rules.specs.Bus.{Labelled}
use Rattle.rules.specs.TableFile.{version_1, row_numbers, label_in, memory_labelled_with}
use Rattle.rules.specs.Refusals.{Answers, lost_label, label_checks}
use Rattle.rules.proofs.Answers.{answered, single_none, single_stopped}

pub record Bare (r : ℕ) (xs : List ℕ) (i : ℕ) : Type 0 where
  pub row : (j : ℕ) → j < i → label_in r (at xs (row_numbers * j + 4)) ≡ 0

pub bare_start : (r : ℕ) (xs : List ℕ) → Bare r xs 0
bare_start r xs = record { row = λ j l. absurd (let z : ⊥ = omega arith in z) }

pub bare_next : {r : ℕ} {xs : List ℕ} {i : ℕ} → Bare r xs i → label_in r (at xs (row_numbers * i + 4)) ≡ 0 → Bare r xs (i + 1)
bare_next {r} {xs} {i} B e = record {
  row = λ j l.
      ⊎_elim (λ (q : j ≡ i). rw q e) (λ (m : j < i). B.row j m) (below (let z : j < suc i = omega arith in z));
}

module _ (r v n : ℕ) (xs : List ℕ) (M : ℕ) where
  abbrev t : Labelled
  t = memory_labelled_with r M n xs

  -- another version than 1
  pub labels_held : v ≢ version_1 → Answers (label_checks v t) 0 0
  unfolding label_checks
  labels_held h = answered _ (single_none (lost_label v t) n (λ i l w. h w.0))

  -- no row has a label
  pub labels_bare : Bare r xs n → Answers (label_checks v t) 0 0
  unfolding label_checks
  labels_bare B = answered _ (single_none (lost_label v t) n (λ i l w. w.1 (B.row i l)))

  -- row i is the lowest that has one
  pub labels_lost : v ≡ version_1 → (i : ℕ) → i < n → Bare r xs i → label_in r (at xs (row_numbers * i + 4)) ≢ 0
      → Answers (label_checks v t) 20 i
  unfolding label_checks
  labels_lost e i l B h =
      single_stopped (lost_label v t) n i l (omega arith) (λ j m w. w.1 (B.row j m)) (e, h)
