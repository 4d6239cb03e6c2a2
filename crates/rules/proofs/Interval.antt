-- Laws of document 01, "Loads of one interval, and its slots": the order in which rows are taken, and that an interval has one list of
-- words at most.
--
--   before_is, before_of    the order of two rows in plain numbers
--   free_eq, chosen_eq      what is free for a row, and what it takes of that, hang on the rows taken before it alone
--   earliest_only           rows that each have the earliest slots have the same slots
--   words_only              only one list of words fits
--   words_as                tests, ends and loads that agree on the rows give the same words
use mathlib.Core.Path.{◌≡◌, sym, ap, ap₂, ◌∙◌}
use mathlib.Core.Logic.{◌⊎◌, inl, inr, ⊎_elim}
use mathlib.Core.List.{List}
use mathlib.Core.Bool.{Bool, not, ◌&&◌, ◌||◌}
use Prim.Native.Nat.{ℕ, zero, suc, ◌+◌, ◌*◌, ◌≤◌, ◌<◌}
use native.Mathlib.Nat.{le_refl, not-suc-le-zero, mul-le-mul_right}
use native.Mathlib.Omega.{arith}
use lib.Dec.{T, ltb, eqb, ltb→lt, lt→ltb, eqb→eq}
use lib.ListN.{length, get_or-eq_default}
use lib.Seq.{ext_get_or}
use Rattle.numbers.specs.Finite.{count}
use Rattle.numbers.specs.Lists.{at}
use Rattle.numbers.specs.Word.{bit}
use Rattle.numbers.proofs.Truth.{both, fst, snd, orl, orr, or_cases, decide, is_false, of_false, eqb_of, le_or_lt}
use Rattle.numbers.proofs.Truth.{and_under}
use Rattle.numbers.proofs.Finite.{any_eq, count_eq}
use Rattle.numbers.proofs.Word.{bit_zero, bit_ext}
use Rattle.rules.specs.Interval.{before, hinders, free, Earliest, moves, SlotWords}

-- ---- the order in which rows are taken

module _ (f : ℕ → ℕ) (j i : ℕ) where
  pub before_is : T (before f j i) → (f j < f i) ⊎ ((f j ≡ f i) × (j < i))
  unfolding before
  before_is h =
      ⊎_elim (λ a. inl (ltb→lt (f j) (f i) a))
      (λ a. inr (eqb→eq (f j) (f i) (fst (eqb (f j) (f i)) (ltb j i) a), ltb→lt j i (snd (eqb (f j) (f i)) (ltb j i) a)))
      (or_cases (ltb (f j) (f i)) (eqb (f j) (f i) && ltb j i) h)

  pub before_of : ((f j < f i) ⊎ ((f j ≡ f i) × (j < i))) → T (before f j i)
  unfolding before
  before_of h =
      ⊎_elim (λ a. orl (ltb (f j) (f i)) (eqb (f j) (f i) && ltb j i) (lt→ltb (f j) (f i) a))
      (λ a. orr (ltb (f j) (f i)) (eqb (f j) (f i) && ltb j i)
      (both (eqb (f j) (f i)) (ltb j i) (eqb_of (f j) (f i) a.0) (lt→ltb j i a.1))) h

  pub before_le : T (before f j i) → f j ≤ f i
  before_le h = ⊎_elim (λ a. omega arith) (λ a. omega arith) (before_is h)

  -- among n rows it is the order of one number a row
  pub before_rank : (n : ℕ) → j < n → T (before f j i) → f j * n + j < f i * n + i
  before_rank n l h = ⊎_elim (λ a. omega (arith, mul-le-mul_right n a)) (λ a. omega (arith, ap (λ (k : ℕ). k * n) a.0)) (before_is h)

pub before_asym : (f : ℕ → ℕ) (i j : ℕ) → T (before f i j) → T (before f j i) → ⊥
before_asym f i j h k =
    ⊎_elim (λ a. ⊎_elim (λ b. omega arith) (λ b. omega arith) (before_is f j i k))
    (λ a. ⊎_elim (λ b. omega arith) (λ b. omega arith) (before_is f j i k))
    (before_is f i j h)

pub before_self : (f : ℕ → ℕ) (i : ℕ) → T (before f i i) → ⊥
before_self f i h = ⊎_elim (λ a. omega arith) (λ a. omega arith) (before_is f i i h)

-- of two different rows one is taken before the other
pub before_total : (f : ℕ → ℕ) (i j : ℕ) → (T (before f i j) → ⊥) → (T (before f j i) → ⊥) → i ≡ j
before_total f i j u v =
    let p : ¬ (f i < f j) = λ h. u (before_of f i j (inl h)) in
    let q : ¬ (f j < f i) = λ h. v (before_of f j i (inl h)) in
    let e : f i ≡ f j = omega arith in
    let r : ¬ (i < j) = λ h. u (before_of f i j (inr (e, h))) in
    let s : ¬ (j < i) = λ h. v (before_of f j i (inr (sym e, h))) in
    omega arith

-- ---- what the words say

-- no row moves past the last word
pub moves_lt : (ws : List ℕ) (i s : ℕ) → T (moves ws i s) → s < length ws
moves_lt ws i s t =
    ⊎_elim (λ h. absurd (of_false (ap (λ (w : ℕ). bit w i) (get_or-eq_default ws 0 h) ∙ bit_zero i) t)) (λ h. h) (le_or_lt (length ws) s)

-- ---- one plan at most

module _ (n : ℕ) (o : ℕ → ℕ → Bool) (f : ℕ → ℕ) where
  -- what is free for row i hangs on the rows taken before it alone
  pub free_eq : (P Q : ℕ → ℕ → Bool) (i s : ℕ) → ((j : ℕ) → j < n → T (before f j i) → P j s ≡ Q j s) → free n o f P i s ≡ free n o f Q i s
  unfolding free hinders
  free_eq P Q i s h =
      ap not (any_eq n (λ j. hinders o f j i && P j s) (λ j. hinders o f j i && Q j s)
      (λ j l. and_under (hinders o f j i) (P j s) (Q j s) (λ u. h j l (fst (before f j i) (o j i) u))))

-- which of the slots that are free a row with load k takes
pub chosen_eq : (p q : ℕ → Bool) (k l s : ℕ) → s < l → ((u : ℕ) → u < l → p u ≡ q u)
    → (p s && ltb (count s p) k) ≡ (q s && ltb (count s q) k)
chosen_eq p q k l s m h = ap₂ ◌&&◌ (h s m) (ap (λ (c : ℕ). ltb c k) (count_eq s p q (λ u b. h u (omega arith))))

module _ (n : ℕ) (o : ℕ → ℕ → Bool) (f x y : ℕ → ℕ) (l : ℕ) (agree : (i : ℕ) → i < n → x i ≡ y i) where
  -- by recursion on a bound of the row's place in the order
  one : (P Q : ℕ → ℕ → Bool) → Earliest n o f x l P → Earliest n o f y l Q → (r i s : ℕ) → f i * n + i < r → i < n → s < l → P i s ≡ Q i s
  one P Q G H zero i s b h m = absurd (not-suc-le-zero b)
  one P Q G H (suc r) i s b h m =
      G i s h m
      ∙ chosen_eq (free n o f P i) (free n o f Q i) (x i) l s m
      (λ u k. free_eq n o f P Q i u (λ j d w. one P Q G H r j u (omega (arith, before_rank f j i n d w)) d k))
      ∙ ap (λ (k : ℕ). free n o f Q i s && ltb (count s (free n o f Q i)) k) (agree i h)
      ∙ sym (H i s h m)

  pub earliest_only : (P Q : ℕ → ℕ → Bool) → Earliest n o f x l P → Earliest n o f y l Q → (i s : ℕ) → i < n → s < l → P i s ≡ Q i s
  earliest_only P Q G H i s h m = one P Q G H (suc (f i * n + i)) i s (le_refl (suc (f i * n + i))) h m

  -- loads that agree on the n rows have one list of words at most
  pub words_only : (ws vs : List ℕ) → SlotWords n o f x l ws → SlotWords n o f y l vs → ws ≡ vs
  words_only ws vs A B =
      ext_get_or 0 ws vs (A.size ∙ sym B.size) (λ s m. bit_ext (at ws s) (at vs s) (λ i.
      ⊎_elim
      (λ a. earliest_only (moves ws) (moves vs) A.earliest B.earliest i s (ltb→lt i n a) (omega (arith, A.size)))
      (λ a. is_false (moves ws i s) (λ w. a (lt→ltb i n (A.rows i s w)))
      ∙ sym (is_false (moves vs i s) (λ w. a (lt→ltb i n (B.rows i s w)))))
      (decide (ltb i n))))

-- ---- tests, ends and loads that agree on the rows give the same words

hinders_eq : (o p : ℕ → ℕ → Bool) (f g : ℕ → ℕ) (j i : ℕ) → o j i ≡ p j i → f j ≡ g j → f i ≡ g i → hinders o f j i ≡ hinders p g j i
unfolding hinders before
hinders_eq o p f g j i a b c = ap₂ (λ (m k : ℕ). (ltb m k || (eqb m k && ltb j i)) && o j i) b c ∙ ap (λ (d : Bool). before g j i && d) a

module _ (n : ℕ) (o p : ℕ → ℕ → Bool) (f g x y : ℕ → ℕ) (tests : (i j : ℕ) → i < n → j < n → o i j ≡ p i j)
    (ends : (i : ℕ) → i < n → f i ≡ g i) (loads : (i : ℕ) → i < n → x i ≡ y i) where
  free_as : (P : ℕ → ℕ → Bool) (i s : ℕ) → i < n → free n o f P i s ≡ free n p g P i s
  unfolding free
  free_as P i s h =
      ap not (any_eq n (λ j. hinders o f j i && P j s) (λ j. hinders p g j i && P j s)
      (λ j d. ap (λ (b : Bool). b && P j s) (hinders_eq o p f g j i (tests j i d h) (ends j d) (ends i h))))

  pub words_as : (l : ℕ) (ws : List ℕ) → SlotWords n o f x l ws → SlotWords n p g y l ws
  words_as l ws W = record {
    size = W.size;
    rows = W.rows;
    earliest = λ i s h m.
        W.earliest i s h m
        ∙ chosen_eq (free n o f (moves ws) i) (free n p g (moves ws) i) (x i) l s m (λ u k. free_as (moves ws) i u h)
        ∙ ap (λ (k : ℕ). free n p g (moves ws) i s && ltb (count s (free n p g (moves ws) i)) k) (loads i h);
  }
