-- The line and the column of a place, found byte by byte.
--
--   spot_at t i           line and column of place i, which is at most the text's length
use mathlib.Core.Path.{◌≡◌, refl, ap, ap₂, ◌∙◌}
use mathlib.Core.Bool.{Bool, true, false, cond}
use mathlib.Core.List.{List}
use Prim.Native.Nat.{ℕ, suc, ◌+◌, ◌-◌, ◌≤◌, min}
use native.Mathlib.Numerals.{add-one}
use native.Mathlib.Omega.{arith}
use lib.ListN.{length}
use Rattle.numbers.specs.Finite.{lowest, count, only}
use Rattle.numbers.specs.Lists.{at}
use Rattle.numbers.proofs.Finite.{lowest_eq, lowest_le, count_le, sum_next}
use Rattle.grammar.specs.TableText.{is_newline, line_at, column_at}
use Rattle.text_reader.specs.declared.fields.Spot.{Spot}
use Rattle.text_reader.specs.Walk.{stepped, IsSpot}

-- how many bytes back the newline before place i is
abbrev back : List ℕ → ℕ → ℕ → Bool
back t i j = is_newline (at t (i - suc j))

abbrev pub spot_at : List ℕ → ℕ → Spot
spot_at t i = record { line = suc (count i (λ j. is_newline (at t j))); column = suc (lowest i (back t i)) }

module _ (t : List ℕ) (i : ℕ) where
  lines_next : count (i + 1) (λ j. is_newline (at t j)) ≡ count i (λ j. is_newline (at t j)) + only (is_newline (at t i)) 1
  lines_next = sum_next i (λ j. only (is_newline (at t j)) 1)

  columns_next : lowest (i + 1) (back t (i + 1)) ≡ cond (is_newline (at t i)) 0 (suc (lowest i (back t i)))
  unfolding lowest
  columns_next =
      let e : suc i - 1 ≡ i = omega arith in
      let f : lowest i (λ j. back t (suc i) (suc j)) ≡ lowest i (back t i) =
      lowest_eq i (λ j. back t (suc i) (suc j)) (back t i)
      (λ j l. let g : suc i - suc (suc j) ≡ i - suc j = omega arith in ap (λ (m : ℕ). is_newline (at t m)) g) in
      ap (λ (n : ℕ). lowest n (back t n)) (add-one i)
      ∙ ap₂ (λ (m n : ℕ). cond (is_newline (at t m)) 0 (suc n)) e f

  pub spot_next : stepped (spot_at t i) (at t i) ≡ spot_at t (i + 1)
  unfolding only
  spot_next = go (is_newline (at t i)) refl
    where
      go : (x : Bool) → is_newline (at t i) ≡ x → stepped (spot_at t i) (at t i) ≡ spot_at t (i + 1)
      go true e = rw (lines_next, columns_next, e) (ap (λ (n : ℕ). record { line = n; column = 1 }) (omega arith))
      go false e =
          rw (lines_next, columns_next, e)
          (ap₂ (λ (m n : ℕ). record { line = m; column = n }) (omega arith) (omega arith))

  pub spot_low : ((spot_at t i).line ≤ i + 1) × ((spot_at t i).column ≤ i + 1)
  spot_low = (omega (arith, count_le i (λ j. is_newline (at t j))), omega (arith, lowest_le i (back t i)))

pub is_spot : (t : List ℕ) (k i : ℕ) (r : Spot) → i ≡ min k (length t) → r ≡ spot_at t i → IsSpot t k r
unfolding line_at column_at
is_spot t k i r e q = record {
  line = ap (λ (s : Spot). s.line) q ∙ ap (λ (m : ℕ). (spot_at t m).line) e;
  column = ap (λ (s : Spot). s.column) q ∙ ap (λ (m : ℕ). (spot_at t m).column) e;
}
