-- The last second end in each slot tells whether the slot is free, as rows are taken by ascending first end.
--
--   Last n g P s z  z is the greatest second end of the rows in slot s, 0 where none is there
--   free_last       a slot is free for a row just when the last second end there is at most the row's first end
--   last_none, last_put, last_as
--                   the last end where no row has the slot; after a row is put there; the same in other words
use mathlib.Core.Path.{◌≡◌, refl, sym, ap, ◌∙◌}
use mathlib.Core.Logic.{◌⊎◌, inl, inr, ⊎_elim}
use mathlib.Core.Bool.{Bool, false, not, ◌&&◌, ◌||◌}
use Prim.Native.Nat.{ℕ, ◌≤◌, ◌<◌}
use native.Mathlib.Omega.{arith}
use lib.Dec.{T, leb, eqb, leb→le, le→leb, eqb→eq, eqb_refl}
use Rattle.numbers.specs.Finite.{any}
use Rattle.numbers.proofs.Truth.{both, fst, snd, orr, or_cases, refuted, refutes, same, along, of_false, le_or_lt}
use Rattle.numbers.proofs.Finite.{any_of, least}
use Rattle.rules.specs.Line.{meet}
use Rattle.rules.specs.Interval.{before, free}
use Rattle.rules.proofs.Interval.{before_le}
use Rattle.placing.proofs.Order.{free_among}
use Rattle.sets.proofs.Overlap.{meet_is, meet_of}

pub record Last (n : ℕ) (g : ℕ → ℕ) (P : ℕ → ℕ → Bool) (s z : ℕ) : Type 0 where
  pub over : (j : ℕ) → T (P j s) → g j ≤ z
  pub reached : (z ≡ 0) ⊎ ((j : ℕ) × (j < n) × T (P j s) × (g j ≡ z))

-- ---- is a slot free

module _ (n : ℕ) (f g : ℕ → ℕ) (P : ℕ → ℕ → Bool) (i s : ℕ) (line : f i < g i) (ahead : (j : ℕ) → T (P j s) → T (before f j i)) where
  pub free_last : (z : ℕ) → Last n g P s z → free n (meet f g) f P i s ≡ leb z (f i)
  free_last z m =
      free_among n (meet f g) f P i s ahead
      ∙ same (not (any n there)) (leb z (f i))
      (λ h. le→leb z (f i) (⊎_elim (λ a. a) (λ a. absurd (late (refutes (any n there) h) a m.reached)) (le_or_lt z (f i))))
      (λ h. refuted (any n there) (λ a.
      let r = least n there a in
      omega (arith, leb→le z (f i) h, m.over r.0 (fst (P r.0 s) _ r.2), meet_is f g r.0 i (snd (P r.0 s) _ r.2))))
    where
      there : ℕ → Bool
      there j = P j s && meet f g j i

      -- a row there that ends past the first end of row i overlaps it
      late : (T (any n there) → ⊥) → f i < z → (z ≡ 0) ⊎ ((j : ℕ) × (j < n) × T (P j s) × (g j ≡ z)) → ⊥
      late none h (inl q) = omega arith
      late none h (inr r) =
          none (any_of n there r.0 r.1 (both (P r.0 s) (meet f g r.0 i) r.2
          (meet_of f g r.0 i (omega (arith, before_le f r.0 i (ahead r.0 r.2))) (omega (arith, r.3)))))

-- ---- the last ends

module _ (n : ℕ) (g : ℕ → ℕ) where
  pub last_none : (P : ℕ → ℕ → Bool) (s : ℕ) → ((j : ℕ) → P j s ≡ false) → Last n g P s 0
  last_none P s h = record { over = λ j t. absurd (of_false (h j) t); reached = inl refl }

module _ {n : ℕ} {g : ℕ → ℕ} {P Q : ℕ → ℕ → Bool} {s z y : ℕ} (L : Last n g P s z) where
  pub last_as : y ≡ z → ((j : ℕ) → Q j s ≡ P j s) → Last n g Q s y
  last_as e h = record {
    over = λ j t. omega (arith, L.over j (along (h j) t));
    reached = ⊎_elim (λ q. inl (e ∙ q)) (λ r. inr (r.0, r.1, along (sym (h r.0)) r.2, r.3 ∙ sym e)) L.reached;
  }

  -- row i is put into the slot, where no row ends later than it does
  pub last_put : {i : ℕ} → i < n → z ≤ g i → y ≡ g i → ((j : ℕ) → Q j s ≡ (P j s || eqb j i)) → Last n g Q s y
  last_put {i} d le e h = record {
    over = λ j t.
        ⊎_elim (λ a. omega (arith, L.over j a)) (λ a. omega (arith, ap g (eqb→eq j i a))) (or_cases (P j s) (eqb j i) (along (h j) t));
    reached = inr (i, d, along (sym (h i)) (orr (P i s) (eqb i i) (eqb_refl i)), sym e);
  }
