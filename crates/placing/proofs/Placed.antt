-- What the rows' earliest slots promise. If no overlap set's loads come to more than the interval's length, every row gets all of its load;
-- and rows that overlap never share a slot.
--
-- Rows are the numbers below n, from first end f to second end g on the line, with loads x; P gives each the earliest of l slots.
-- The rows that hinder row i all use the segment that starts at f i, so with i they lie inside one overlap set. What they have of the l
-- slots is at most their loads, so at least the load of i is left free for it.
use mathlib.Core.Path.{◌≡◌, refl, sym, ◌∙◌, subst}
use mathlib.Core.Logic.{⊎_elim}
use mathlib.Core.List.{List}
use mathlib.Core.Bool.{Bool, true, false, ◌&&◌, ◌||◌}
use Prim.Native.Nat.{ℕ, ◌+◌, ◌≤◌, ◌<◌, min}
use native.Mathlib.Nat.{le_refl}
use native.Mathlib.Omega.{arith}
use lib.Dec.{T, ltb, eqb, ltb→lt, lt→ltb, eqb→eq, eqb_refl}
use Rattle.numbers.specs.Finite.{any, only, sum, sum_in, count}
use Rattle.numbers.proofs.Truth.{both, fst, snd, orl, orr, or_cases, refutes, is_true, is_false, along}
use Rattle.numbers.proofs.Finite.{any_of, any_le, only_true, only_false, only_le, sum_le, sum_zero, sum_swap, sum_one}
use Rattle.numbers.proofs.Finite.{count_eq, count_not, count_take}
use Rattle.rules.specs.Line.{meet, OverlapSet}
use Rattle.rules.specs.Interval.{before, hinders, free, Earliest, moves, SlotWords}
use Rattle.rules.proofs.Interval.{before_le, before_self, before_total, moves_lt}
use Rattle.sets.proofs.Overlap.{meet_is, meet_of, inside}

module _ (n : ℕ) (o : ℕ → ℕ → Bool) (f x : ℕ → ℕ) (l : ℕ) (P : ℕ → ℕ → Bool) (G : Earliest n o f x l P) where
  -- a row has as many slots as its load, or all that are free for it
  pub had_is : (i : ℕ) → i < n → count l (P i) ≡ min (x i) (count l (free n o f P i))
  had_is i h =
      count_eq l (P i) (λ s. free n o f P i s && ltb (count s (free n o f P i)) (x i)) (λ s m. G i s h m)
      ∙ count_take l (free n o f P i) (x i)

  -- what a row has of the slots, where b holds
  had_le : (j : ℕ) → j < n → (b : Bool) → sum l (λ s. only (b && P j s) 1) ≤ only b (x j)
  had_le j h true = omega (arith, had_is j h, only_true true (x j) refl)
  had_le j h false = omega (arith, sum_zero l (λ s. only false 1) (λ s m. only_false false 1 refl))

  -- the slots that are not free for row i are at most the loads of the rows that hinder it
  pub hindered_le : (i : ℕ) → l ≤ count l (free n o f P i) + sum_in n (λ j. hinders o f j i) x
  unfolding free
  hindered_le i =
      omega (
        arith,
        count_not l (λ s. any n (λ j. hinders o f j i && P j s)),
        sum_le l (λ s. only (any n (λ j. hinders o f j i && P j s)) 1) (λ s. count n (λ j. hinders o f j i && P j s))
            (λ s m. any_le n (λ j. hinders o f j i && P j s)),
        sum_swap l n (λ j s. only (hinders o f j i && P j s) 1),
        sum_le n (λ j. sum l (λ s. only (hinders o f j i && P j s) 1)) (λ j. only (hinders o f j i) (x j))
            (λ j m. had_le j m (hinders o f j i)),
      )

  -- of two rows that overlap, whichever way round they are asked about, at most one has a slot
  pub apart : (i j s : ℕ) → i < n → j < n → s < l → T (P i s) → T (P j s) → T (o i j) → T (o j i) → i ≡ j
  unfolding free hinders
  apart i j s hi hj m a b u v =
      before_total f i j (λ z. never i j hi hj a b u z) (λ z. never j i hj hi b a v z)
    where
      never : (p q : ℕ) → p < n → q < n → T (P p s) → T (P q s) → T (o p q) → T (before f p q) → ⊥
      never p q hp hq c d w z =
          refutes (any n (λ k. hinders o f k q && P k s))
          (fst (free n o f P q s) (ltb (count s (free n o f P q)) (x q)) (along (G q s hq m) d))
          (any_of n (λ k. hinders o f k q && P k s) p hp (both (hinders o f p q) (P p s) (both (before f p q) (o p q) z w) c))

-- ---- on the line

hinders_early : (o : ℕ → ℕ → Bool) (f : ℕ → ℕ) (j i : ℕ) → T (hinders o f j i) → T (before f j i)
unfolding hinders
hinders_early o f j i h = fst (before f j i) (o j i) h

-- a row that hinders row i uses the segment that starts at f i
hinders_ends : (f g : ℕ → ℕ) (j i : ℕ) → T (hinders (meet f g) f j i) → (f j ≤ f i) × (f i < g j)
unfolding hinders
hinders_ends f g j i h =
    (before_le f j i (fst (before f j i) (meet f g j i) h), (meet_is f g j i (snd (before f j i) (meet f g j i) h)).1)

module _ (n : ℕ) (f g x : ℕ → ℕ) (l : ℕ) (P : ℕ → ℕ → Bool) (G : Earliest n (meet f g) f x l P)
    (line : (i : ℕ) → i < n → f i < g i) where
  pub earliest_placed : ((D : ℕ → Bool) → OverlapSet n (meet f g) D → sum_in n D x ≤ l) → (i : ℕ) → i < n → count l (P i) ≡ x i
  earliest_placed bound i h =
      let own : T (hinders (meet f g) f i i || eqb i i) = orr (hinders (meet f g) f i i) (eqb i i) (eqb_refl i) in
      let d = inside n f g line C rows pairs i (both (ltb i n) (hinders (meet f g) f i i || eqb i i) (lt→ltb i n h) own) in
      let D : ℕ → Bool = d.0 in
      let within : (j : ℕ) → j < n → T (hinders (meet f g) f j i || eqb j i) → T (D j) =
      λ j k t. d.2 j (both (ltb j n) (hinders (meet f g) f j i || eqb j i) (lt→ltb j n k) t) in
      omega (
        arith,
        had_is n (meet f g) f x l P G i h,
        hindered_le n (meet f g) f x l P G i,
        bound D d.1,
        sum_one n (λ j. only (hinders (meet f g) f j i) (x j)) (λ j. only (D j) (x j)) i (x i) h
            (λ j k w. only_le (hinders (meet f g) f j i) (D j) (x j) (x j)
            (λ t. within j k (orl (hinders (meet f g) f j i) (eqb j i) t)) (λ t. le_refl (x j)))
            (omega (
              arith,
              only_false (hinders (meet f g) f i i) (x i) (is_false (hinders (meet f g) f i i) self),
              only_true (D i) (x i) (is_true (D i) (within i h own)),
            )),
      )
    where
      self : T (hinders (meet f g) f i i) → ⊥
      self t = before_self f i (hinders_early (meet f g) f i i t)

      C : ℕ → Bool
      C j = ltb j n && (hinders (meet f g) f j i || eqb j i)

      rows : (j : ℕ) → T (C j) → j < n
      rows j t = ltb→lt j n (fst (ltb j n) (hinders (meet f g) f j i || eqb j i) t)

      around : (j : ℕ) → T (C j) → (f j ≤ f i) × (f i < g j)
      around j t =
          ⊎_elim (hinders_ends f g j i)
          (λ a. subst (λ (k : ℕ). (f k ≤ f i) × (f i < g k)) (sym (eqb→eq j i a)) (le_refl (f i), line i h))
          (or_cases (hinders (meet f g) f j i) (eqb j i) (snd (ltb j n) (hinders (meet f g) f j i || eqb j i) t))

      pairs : (j k : ℕ) → T (C j) → T (C k) → T (meet f g j k)
      pairs j k t u = let a = around j t in let b = around k u in meet_of f g j k (omega arith) (omega arith)

module _ (n : ℕ) (f g x : ℕ → ℕ) (l : ℕ) (ws : List ℕ) (W : SlotWords n (meet f g) f x l ws) where
  -- every row gets exactly its load
  pub placed : ((i : ℕ) → i < n → f i < g i) → ((D : ℕ → Bool) → OverlapSet n (meet f g) D → sum_in n D x ≤ l)
      → (i : ℕ) → i < n → count l (moves ws i) ≡ x i
  placed = earliest_placed n f g x l (moves ws) W.earliest

  -- rows that overlap never share a slot
  pub never_together : (i j s : ℕ) → T (moves ws i s) → T (moves ws j s) → T (meet f g i j) → i ≡ j
  never_together i j s a b o =
      let r = meet_is f g i j o in
      apart n (meet f g) f x l (moves ws) W.earliest i j s (W.rows i s a) (W.rows j s b)
      (omega (arith, moves_lt ws i s a, W.size)) a b o (meet_of f g j i r.1 r.0)
