-- #106: overlap sets of rows on a line with the same least second end have the same rows. Each row of either set starts before that end and
-- ends at or past it, so all of them overlap one another, and a set to which no row can be added has them all.
--
--   meet_is, meet_of   the line's rule as facts
--   one_set_an_end     the statement of specs/Ties
use mathlib.Core.Bool.{Bool}
use Prim.Native.Nat.{ℕ, ◌<◌}
use native.Mathlib.Omega.{arith}
use lib.Dec.{T, ltb, ltb→lt, lt→ltb}
use Rattle.numbers.proofs.Truth.{both, fst, snd, same}
use Rattle.rules.specs.Line.{meet, OverlapSet, Least}
use Rattle.rules.specs.Ties.{OneSetAnEnd}

module _ (first second : ℕ → ℕ) (i j : ℕ) where
  pub meet_is : T (meet first second i j) → (first i < second j) × (first j < second i)
  unfolding meet
  meet_is h =
      let a = ltb (first i) (second j) in
      let b = ltb (first j) (second i) in
      (ltb→lt (first i) (second j) (fst a b h), ltb→lt (first j) (second i) (snd a b h))

  pub meet_of : first i < second j → first j < second i → T (meet first second i j)
  unfolding meet
  meet_of h k = both (ltb (first i) (second j)) (ltb (first j) (second i)) (lt→ltb _ _ h) (lt→ltb _ _ k)

module _ (n : ℕ) (first second : ℕ → ℕ) where
  -- rows that overlap the one that ends at e start before e
  starts_before : {D : ℕ → Bool} {e : ℕ} → OverlapSet n (meet first second) D → Least second D e → (i : ℕ) → T (D i) → first i < e
  starts_before S m i t =
      let j = m.reached in
      omega (arith, meet_is first second i j.0 (S.pairs i j.0 t j.1), j.2)

  within : {D E : ℕ → Bool} {e : ℕ} → OverlapSet n (meet first second) D → OverlapSet n (meet first second) E
      → Least second D e → Least second E e → (i : ℕ) → T (D i) → T (E i)
  within S R x y i t =
      R.full i (S.rows i t) (λ k u. meet_of first second i k
      (omega (arith, starts_before S x i t, y.under k u))
      (omega (arith, starts_before R y k u, x.under i t)))

pub one_set_an_end : OneSetAnEnd
one_set_an_end n first second D E e S R x y i =
    same (D i) (E i) (within n first second S R x y i) (within n first second R S y x i)
