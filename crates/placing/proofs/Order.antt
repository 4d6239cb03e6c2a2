-- The order in which rows are taken: element by element, and at each the rows that start there, by row number. Rows are the numbers below
-- n, with first ends f.
--
--   taken n f e r j       row j is taken before row r of those that start at element e
--   taken_none, taken_more, taken_skip, taken_next, taken_all
--                         none is taken; one more is; the walk goes on along a link, or to the next element; all are
--   free_among            a slot is free for a row just when no row there overlaps it, where all rows there are taken before it
use mathlib.Core.Path.{◌≡◌, sym, ap, ◌∙◌, subst}
use mathlib.Core.Logic.{◌⊎◌, inl, inr, ⊎_elim}
use mathlib.Core.Bool.{Bool, false, not, ◌&&◌, ◌||◌}
use Prim.Native.Nat.{ℕ, ◌+◌, ◌-◌, ◌≤◌, ◌<◌}
use native.Mathlib.Nat.{not-suc-le-zero}
use native.Mathlib.Omega.{arith}
use lib.Dec.{T, ltb, eqb, ltb→lt, lt→ltb, eqb→eq}
use Rattle.numbers.specs.Finite.{any}
use Rattle.numbers.proofs.Truth.{both, fst, snd, orl, orr, or_cases, decide, same, is_false, eqb_of, le_or_lt}
use Rattle.numbers.proofs.Finite.{any_eq}
use Rattle.rules.specs.Interval.{before, hinders, free}
use Rattle.sets.specs.Chained.{Link}

unfoldable pub taken : ℕ → (f : ℕ → ℕ) → ℕ → ℕ → ℕ → Bool
taken n f e r j = ltb j n && (ltb (f j) e || (eqb (f j) e && ltb j r))

-- ---- the rows taken

module _ (n : ℕ) (f : ℕ → ℕ) (e r j : ℕ) where
  pub taken_is : T (taken n f e r j) → (j < n) × ((f j < e) ⊎ ((f j ≡ e) × (j < r)))
  unfolding taken
  taken_is h = (
    ltb→lt j n (fst (ltb j n) (ltb (f j) e || (eqb (f j) e && ltb j r)) h),
    ⊎_elim (λ a. inl (ltb→lt (f j) e a))
        (λ a. inr (eqb→eq (f j) e (fst (eqb (f j) e) (ltb j r) a), ltb→lt j r (snd (eqb (f j) e) (ltb j r) a)))
        (or_cases (ltb (f j) e) (eqb (f j) e && ltb j r) (snd (ltb j n) (ltb (f j) e || (eqb (f j) e && ltb j r)) h)),
  )

  pub taken_of : j < n → ((f j < e) ⊎ ((f j ≡ e) × (j < r))) → T (taken n f e r j)
  unfolding taken
  taken_of h k =
      both (ltb j n) (ltb (f j) e || (eqb (f j) e && ltb j r)) (lt→ltb j n h)
      (⊎_elim (λ a. orl (ltb (f j) e) (eqb (f j) e && ltb j r) (lt→ltb (f j) e a))
      (λ a. orr (ltb (f j) e) (eqb (f j) e && ltb j r)
      (both (eqb (f j) e) (ltb j r) (eqb_of (f j) e a.0) (lt→ltb j r a.1))) k)

  -- where row r starts at e, they come before it
  pub taken_ahead : f r ≡ e → T (taken n f e r j) → T (before f j r)
  unfolding taken before
  taken_ahead q h =
      subst (λ (d : ℕ). T (ltb (f j) d || (eqb (f j) d && ltb j r))) (sym q)
      (snd (ltb j n) (ltb (f j) e || (eqb (f j) e && ltb j r)) h)

module _ (n : ℕ) (f : ℕ → ℕ) (e : ℕ) where
  pub taken_more : (r : ℕ) → r < n → f r ≡ e → (j : ℕ) → (taken n f e r j || eqb j r) ≡ taken n f e (r + 1) j
  taken_more r l q j =
      same (taken n f e r j || eqb j r) (taken n f e (r + 1) j)
      (λ h. ⊎_elim
      (λ a. let w = taken_is n f e r j a in
      taken_of n f e (r + 1) j w.0 (⊎_elim (λ b. inl b) (λ b. inr (b.0, omega arith)) w.1))
      (λ a. let w : j ≡ r = eqb→eq j r a in taken_of n f e (r + 1) j (omega arith) (inr (ap f w ∙ q, omega arith)))
      (or_cases (taken n f e r j) (eqb j r) h))
      (λ h. let w = taken_is n f e (r + 1) j h in
      ⊎_elim (λ a. orr (taken n f e r j) (eqb j r) a)
      (λ a. let ne : ¬ (j ≡ r) = λ p. a (eqb_of j r p) in
      orl (taken n f e r j) (eqb j r) (taken_of n f e r j w.0 (⊎_elim (λ b. inl b) (λ b. inr (b.0, omega arith)) w.1)))
      (decide (eqb j r)))

  -- no row that the link skips starts at e
  pub taken_skip : {k r : ℕ} → Link n f e k r → 0 < r → (j : ℕ) → taken n f e k j ≡ taken n f e (r - 1) j
  taken_skip {k} {r} L some j =
      same (taken n f e k j) (taken n f e (r - 1) j)
      (λ h. let w = taken_is n f e k j h in
      taken_of n f e (r - 1) j w.0 (⊎_elim (λ b. inl b) (λ b. inr (b.0, omega (arith, L.starts some))) w.1))
      (λ h. let w = taken_is n f e (r - 1) j h in
      taken_of n f e k j w.0
      (⊎_elim (λ b. inl b)
      (λ b. inr (b.0, ⊎_elim (λ d. absurd (omega (arith, L.lowest j d w.0 b.0))) (λ d. d) (le_or_lt k j))) w.1))

  -- where no row from k on starts at e, all that do are taken
  pub taken_next : {k : ℕ} → Link n f e k 0 → (j : ℕ) → taken n f e k j ≡ taken n f (e + 1) 0 j
  taken_next {k} L j =
      same (taken n f e k j) (taken n f (e + 1) 0 j)
      (λ h. let w = taken_is n f e k j h in
      taken_of n f (e + 1) 0 j w.0 (inl (⊎_elim (λ b. omega arith) (λ b. omega arith) w.1)))
      (λ h. let w = taken_is n f (e + 1) 0 j h in
      let m : f j < e + 1 = ⊎_elim (λ b. b) (λ b. absurd (not-suc-le-zero b.1)) w.1 in
      taken_of n f e k j w.0 (⊎_elim (λ b. inr (here j w.0 (omega arith))) (λ b. inl b) (le_or_lt e (f j))))
    where
      here : (j : ℕ) → j < n → f j ≡ e → (f j ≡ e) × (j < k)
      here j d q = (q, ⊎_elim (λ a. absurd (omega (arith, L.lowest j a d q))) (λ a. a) (le_or_lt k j))

  pub taken_none : ((j : ℕ) → j < n → e ≤ f j) → (j : ℕ) → taken n f e 0 j ≡ false
  taken_none h j =
      is_false (taken n f e 0 j) (λ t. let w = taken_is n f e 0 j t in
      ⊎_elim (λ b. omega (arith, h j w.0)) (λ b. not-suc-le-zero b.1) w.1)

  pub taken_all : ((j : ℕ) → j < n → f j < e) → (j : ℕ) → taken n f e 0 j ≡ ltb j n
  taken_all h j =
      same (taken n f e 0 j) (ltb j n) (λ t. lt→ltb j n (taken_is n f e 0 j t).0)
      (λ t. taken_of n f e 0 j (ltb→lt j n t) (inl (h j (ltb→lt j n t))))

-- ---- is a slot free

module _ (n : ℕ) (o : ℕ → ℕ → Bool) (f : ℕ → ℕ) (P : ℕ → ℕ → Bool) (i s : ℕ) (ahead : (j : ℕ) → T (P j s) → T (before f j i)) where
  pub free_among : free n o f P i s ≡ not (any n (λ j. P j s && o j i))
  unfolding free hinders
  free_among =
      ap not (any_eq n (λ j. hinders o f j i && P j s) (λ j. P j s && o j i)
      (λ j d. same ((before f j i && o j i) && P j s) (P j s && o j i)
      (λ h. both (P j s) (o j i) (snd (before f j i && o j i) (P j s) h)
      (snd (before f j i) (o j i) (fst (before f j i && o j i) (P j s) h)))
      (λ h. both (before f j i && o j i) (P j s)
      (both (before f j i) (o j i) (ahead j (fst (P j s) (o j i) h)) (snd (P j s) (o j i) h)) (fst (P j s) (o j i) h))))
