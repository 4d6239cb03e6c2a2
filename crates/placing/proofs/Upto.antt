-- Rows that are given their slots one after another, for any test o whether two rows overlap. P i s says that row i has slot s.
--
--   has W j s               row j has slot s, where W gives each slot's word
--   chosen p k s            slot s is one of the first k that have p
--   Upto n o f x l D P      the rows of D have their slots, and no other row has any
--   upto_none, upto_step, upto_words    no row has its slots; one more row has; all have, and the words are those of the interval
use mathlib.Core.Path.{◌≡◌, sym, ap, ap₂, ◌∙◌, subst}
use mathlib.Core.Logic.{⊎_elim}
use mathlib.Core.List.{List}
use mathlib.Core.Bool.{Bool, false, ◌&&◌, ◌||◌, or-false}
use Prim.Native.Nat.{ℕ, ◌≤◌, ◌<◌}
use native.Mathlib.Omega.{arith}
use lib.Dec.{T, ltb, eqb, ltb→lt, eqb→eq, eqb_refl}
use lib.ListN.{length, take}
use lib.Seq.{length-take-le, get_or-take}
use borrow.Author.Tests.{lt-ltb}
use Rattle.numbers.specs.Finite.{count}
use Rattle.numbers.specs.Word.{bit}
use Rattle.numbers.proofs.Truth.{fst, orr, decide, is_true, is_false, along, and_under}
use Rattle.rules.specs.Interval.{before, free, moves, SlotWords}
use Rattle.rules.proofs.Interval.{before_asym, before_self, moves_lt, free_eq, chosen_eq}

abbrev pub has : (ℕ → ℕ) → ℕ → ℕ → Bool
has W j s = bit (W s) j

abbrev pub chosen : (ℕ → Bool) → ℕ → ℕ → Bool
chosen p k s = p s && ltb (count s p) k

pub record Upto (n : ℕ) (o : ℕ → ℕ → Bool) (f x : ℕ → ℕ) (l : ℕ) (D : ℕ → Bool) (P : ℕ → ℕ → Bool) : Type 0 where
  pub so : (i s : ℕ) → s < l → P i s ≡ (D i && chosen (free n o f P i) (x i) s)

module _ (n : ℕ) (o : ℕ → ℕ → Bool) (f x : ℕ → ℕ) (l : ℕ) where
  pub upto_none : (P : ℕ → ℕ → Bool) → ((i s : ℕ) → s < l → P i s ≡ false) → Upto n o f x l (λ j. false) P
  upto_none P h = record { so = h }

  pub upto_eq : (D E : ℕ → Bool) (P : ℕ → ℕ → Bool) → ((j : ℕ) → D j ≡ E j) → Upto n o f x l D P → Upto n o f x l E P
  upto_eq D E P h U = record { so = λ i s m. U.so i s m ∙ ap (λ (b : Bool). b && chosen (free n o f P i) (x i) s) (h i) }

  -- row i is given its slots after the rows of D, all of which come before it
  pub upto_step : (D : ℕ → Bool) (P Q : ℕ → ℕ → Bool) (i : ℕ) → Upto n o f x l D P → ((j : ℕ) → T (D j) → T (before f j i))
      → ((j s : ℕ) → s < l → Q j s ≡ (P j s || (eqb j i && chosen (free n o f P i) (x i) s)))
      → Upto n o f x l (λ j. D j || eqb j i) Q
  upto_step D P Q i U ahead step = record {
    so = λ j s m. ⊎_elim (λ a. here j s m (eqb→eq j i a)) (λ a. other j s m a) (decide (eqb j i));
  }
    where
      stays : (j s : ℕ) → s < l → (T (eqb j i) → ⊥) → Q j s ≡ P j s
      stays j s m h =
          step j s m ∙ ap (λ (b : Bool). P j s || (b && chosen (free n o f P i) (x i) s)) (is_false (eqb j i) h) ∙ or-false (P j s)

      -- what is free for row i, or for a row before it, is as it was
      frees : (j s : ℕ) → s < l → (T (before f i j) → ⊥) → free n o f P j s ≡ free n o f Q j s
      frees j s m h =
          free_eq n o f P Q j s (λ k d w. sym (stays k s m (λ e. h (subst (λ (y : ℕ). T (before f y j)) (eqb→eq k i e) w))))

      here : (j s : ℕ) → s < l → j ≡ i → Q j s ≡ ((D j || eqb j i) && chosen (free n o f Q j) (x j) s)
      here j s m e =
          subst (λ (k : ℕ). Q k s ≡ ((D k || eqb k i) && chosen (free n o f Q k) (x k) s)) (sym e)
          (step i s m
          ∙ ap₂ (λ (a b : Bool). a || (b && chosen (free n o f P i) (x i) s))
          (U.so i s m
          ∙ ap (λ (b : Bool). b && chosen (free n o f P i) (x i) s) (is_false (D i) (λ t. before_self f i (ahead i t))))
          (is_true (eqb i i) (eqb_refl i))
          ∙ chosen_eq (free n o f P i) (free n o f Q i) (x i) l s m (λ u k. frees i u k (before_self f i))
          ∙ ap (λ (b : Bool). b && chosen (free n o f Q i) (x i) s) (sym (is_true (D i || eqb i i) (orr (D i) (eqb i i) (eqb_refl i)))))

      other : (j s : ℕ) → s < l → (T (eqb j i) → ⊥) → Q j s ≡ ((D j || eqb j i) && chosen (free n o f Q j) (x j) s)
      other j s m h =
          stays j s m h ∙ U.so j s m
          ∙ and_under (D j) (chosen (free n o f P j) (x j) s) (chosen (free n o f Q j) (x j) s)
          (λ d. chosen_eq (free n o f P j) (free n o f Q j) (x j) l s m (λ u k. frees j u k (λ w. before_asym f i j w (ahead j d))))
          ∙ ap (λ (b : Bool). b && chosen (free n o f Q j) (x j) s)
          (sym (ap (λ (b : Bool). D j || b) (is_false (eqb j i) h) ∙ or-false (D j)))

  -- all rows have their slots: the first l words, which show who has which slot, are those of the interval
  pub upto_words : (P : ℕ → ℕ → Bool) (out : List ℕ) → l ≤ length out → ((i s : ℕ) → s < l → moves out i s ≡ P i s)
      → Upto n o f x l (λ j. ltb j n) P → SlotWords n o f x l (take l out)
  upto_words P out h shown U = record {
    size = length-take-le l out h;
    rows = λ i s w.
        let m : s < l = omega (arith, moves_lt (take l out) i s w, length-take-le l out h) in
        ltb→lt i n (fst (ltb i n) (chosen (free n o f P i) (x i) s) (along (front i s m ∙ U.so i s m) w));
    earliest = λ i s d m.
        front i s m ∙ U.so i s m ∙ ap (λ (b : Bool). b && chosen (free n o f P i) (x i) s) (lt-ltb i n d)
        ∙ chosen_eq (free n o f P i) (free n o f (moves (take l out)) i) (x i) l s m
        (λ u k. free_eq n o f P (moves (take l out)) i u (λ j b w. sym (front j u k)));
  }
    where
      front : (i s : ℕ) → s < l → moves (take l out) i s ≡ P i s
      front i s m = ap (λ (w : ℕ). bit w i) (get_or-take l out s 0 m) ∙ shown i s m
