-- The walk along the line that gives the rows of one interval their slots: element by element, and at each the rows that start there, by
-- row number. Rows are the numbers below n, with first ends f, second ends g and loads x. W gives each slot's word, Z its last second end.
--
--   Walked n f g x l D W Z
--                         the walk has taken the rows of D, and keeps the last second end of each slot
--   Turn n f g x l W₀ Z₀ i s left W Z
--                         row i's turn: its scan has come to slot s, with `left` of its load to place; it began with W₀ and Z₀
--   turn_start, turn_skip, turn_take, turn_end
--                         the turn begins, past slots that are not free; a stretch is not free; row i takes it; the turn is over, at the
--                         last slot or with no load left
--   walk_start, walk_end  no row is taken; all are
use mathlib.Core.Path.{◌≡◌, refl, sym, ap, ◌∙◌}
use mathlib.Core.Logic.{◌⊎◌, ⊎_elim}
use mathlib.Core.List.{List}
use mathlib.Core.Bool.{Bool, false, ◌&&◌, ◌||◌, or-false}
use Prim.Native.Nat.{ℕ, ◌+◌, ◌-◌, ◌≤◌, ◌<◌}
use native.Mathlib.Omega.{arith}
use lib.Dec.{T, ltb, leb, eqb}
use lib.ListN.{length}
use borrow.Author.Tests.{le-leb, lt-leb}
use Rattle.numbers.specs.Lists.{at}
use Rattle.numbers.specs.Word.{bit}
use Rattle.numbers.proofs.Truth.{fst, decide, is_true, is_false, along, le_or_lt}
use Rattle.numbers.proofs.Word.{bit_zero}
use Rattle.rules.specs.Line.{meet}
use Rattle.rules.specs.Interval.{before, free}
use Rattle.placing.specs.Filled.{Kept, FilledSlots}
use Rattle.placing.proofs.Upto.{has, chosen, Upto, upto_none, upto_eq, upto_step, upto_words}
use Rattle.placing.proofs.Order.{taken, taken_ahead, taken_more, taken_none, taken_all}
use Rattle.placing.proofs.Scan.{within, within_is, within_of, Scan, scan_start, scan_skip, scan_take, scan_end}
use Rattle.stretches.proofs.Ends.{Last, free_last, last_none, last_as, last_put}

pub record Walked (n : ℕ) (f g x : ℕ → ℕ) (l : ℕ) (D : ℕ → Bool) (W Z : ℕ → ℕ) : Type 0 where
  pub upto : Upto n (meet f g) f x l D (has W)
  pub ends : (s : ℕ) → s < l → Last n g (has W) s (Z s)

-- ---- a row's turn

pub record Turn (n : ℕ) (f g x : ℕ → ℕ) (l : ℕ) (W₀ Z₀ : ℕ → ℕ) (i s left : ℕ) (W Z : ℕ → ℕ) : Type 0 where
  pub scan : Scan l (has W₀) (free n (meet f g) f (has W₀) i) i (x i) s left (has W)
  pub ends : (u : ℕ) → u < l → Last n g (has W) u (Z u)
  pub later : (u : ℕ) → s ≤ u → u < l → Z u ≡ Z₀ u
  pub past : (u : ℕ) → u < s → u < l → f i < Z u

pub walked_eq : {n : ℕ} {f g x : ℕ → ℕ} {l : ℕ} {D : ℕ → Bool} {W Z : ℕ → ℕ} (E : ℕ → Bool) → ((j : ℕ) → D j ≡ E j)
    → Walked n f g x l D W Z → Walked n f g x l E W Z
walked_eq {n} {f} {g} {x} {l} {D} {W} E h B =
    record { upto = upto_eq n (meet f g) f x l D E (has W) h B.upto; ends = B.ends }

-- row i starts at the element, and the rows before it are taken
module _ {n : ℕ} {f g x : ℕ → ℕ} {l e i : ℕ} {W₀ Z₀ : ℕ → ℕ} (B : Walked n f g x l (taken n f e i) W₀ Z₀)
    (start : f i ≡ e) (line : f i < g i) where
  ahead : (j : ℕ) → T (taken n f e i j) → T (before f j i)
  ahead j = taken_ahead n f e i j start

  -- a slot is free just when its last end is at most row i's first end
  free_is : (u : ℕ) → u < l → free n (meet f g) f (has W₀) i u ≡ leb (Z₀ u) (f i)
  free_is u m =
      free_last n f g (has W₀) i u line
      (λ j h. ahead j (fst (taken n f e i j) (chosen (free n (meet f g) f (has W₀) j) (x j) u) (along (B.upto.so j u m) h)))
      (Z₀ u) (B.ends u m)

  pub turn_start : (s : ℕ) → s ≤ l → ((u : ℕ) → u < s → u < l → f i < Z₀ u) → Turn n f g x l W₀ Z₀ i s (x i) W₀ Z₀
  turn_start s h past = record {
    scan = scan_start s (λ u a. free_is u (omega arith) ∙ lt-leb (Z₀ u) (f i) (past u a (omega arith)));
    ends = B.ends;
    later = λ u a m. refl;
    past = past;
  }

  module _ {s left : ℕ} {W Z : ℕ → ℕ} (R : Turn n f g x l W₀ Z₀ i s left W Z) {to : ℕ} (on : s ≤ to) (fits : to ≤ l) where
    now_free : (u : ℕ) → s ≤ u → u < to → free n (meet f g) f (has W₀) i u ≡ leb (Z u) (f i)
    now_free u a b = free_is u (omega arith) ∙ ap (λ (k : ℕ). leb k (f i)) (sym (R.later u a (omega arith)))

    pub turn_skip : ((u : ℕ) → s ≤ u → u < to → f i < Z u) → Turn n f g x l W₀ Z₀ i to left W Z
    turn_skip h = record {
      scan = scan_skip R.scan on (λ u a b. now_free u a b ∙ lt-leb (Z u) (f i) (h u a b));
      ends = R.ends;
      later = λ u a b. R.later u (omega arith) b;
      past = λ u a b. ⊎_elim (λ c. h u c a) (λ c. R.past u c b) (le_or_lt s u);
    }

    pub turn_take : {W' Z' : ℕ → ℕ} → i < n → to - s ≤ left → ((u : ℕ) → s ≤ u → u < to → Z u ≤ f i)
        → ((j u : ℕ) → u < l → has W' j u ≡ (has W j u || (within s to u && eqb j i)))
        → ((u : ℕ) → u < l → T (within s to u) → Z' u ≡ g i)
        → ((u : ℕ) → u < l → (T (within s to u) → ⊥) → Z' u ≡ Z u)
        → Turn n f g x l W₀ Z₀ i to (left - (to - s)) W' Z'
    turn_take {W'} {Z'} d few h put mine theirs = record {
      scan = scan_take R.scan on few (λ u a b. now_free u a b ∙ le-leb (Z u) (f i) (h u a b)) put;
      ends = λ u m.
          ⊎_elim
          (λ a. let v = within_is s to u a in
          last_put (R.ends u m) d (omega (arith, h u v.0 v.1)) (mine u m a)
          (λ j. put j u m ∙ ap (λ (b : Bool). has W j u || (b && eqb j i)) (is_true (within s to u) a)))
          (λ a. last_as (R.ends u m) (theirs u m a)
          (λ j. put j u m ∙ ap (λ (b : Bool). has W j u || (b && eqb j i)) (is_false (within s to u) a) ∙ or-false (has W j u)))
          (decide (within s to u));
      later = λ u a b.
          theirs u b (λ w. let v = within_is s to u w in let z : ⊥ = omega arith in z) ∙ R.later u (omega arith) b;
      past = λ u a b.
          ⊎_elim
          (λ c. omega (arith, mine u b (within_of s to u c a)))
          (λ c. omega (arith, theirs u b (λ w. let v = within_is s to u w in let z : ⊥ = omega arith in z), R.past u c b))
          (le_or_lt s u);
    }

  pub turn_end : {s left : ℕ} {W Z : ℕ → ℕ} → Turn n f g x l W₀ Z₀ i s left W Z → i < n → (l ≤ s) ⊎ (left ≡ 0)
      → Walked n f g x l (taken n f e (i + 1)) W Z
  turn_end {W = W} R d over = walked_eq (taken n f e (i + 1)) (taken_more n f e i d start) record {
    upto = upto_step n (meet f g) f x l (taken n f e i) (has W₀) (has W) i B.upto ahead (scan_end R.scan over);
    ends = R.ends;
  }

-- ---- the walk

-- no word has a bit, and no slot a last end
pub walk_start : {n : ℕ} {f g x : ℕ → ℕ} {l e : ℕ} → ((j : ℕ) → j < n → e ≤ f j) → Walked n f g x l (taken n f e 0) (λ u. 0) (λ u. 0)
walk_start {n} {f} {g} {x} {l} {e} h = record {
  upto = upto_eq n (meet f g) f x l (λ j. false) (taken n f e 0) (has (λ u. 0)) (λ j. sym (taken_none n f e h j))
      (upto_none n (meet f g) f x l (has (λ u. 0)) (λ i s m. bit_zero i));
  ends = λ s m. last_none n g (has (λ u. 0)) s (λ j. bit_zero j);
}

pub walk_end : {n : ℕ} {f g x : ℕ → ℕ} {l e : ℕ} {W Z : ℕ → ℕ} {was out : List ℕ} → Walked n f g x l (taken n f e 0) W Z
    → ((j : ℕ) → j < n → f j < e) → l ≤ length out → ((s : ℕ) → s < l → at out s ≡ W s) → Kept l was out → FilledSlots n f g x l was out
walk_end {n} {f} {g} {x} {l} {e} {W} {out = out} B past room shown K = record {
  words = upto_words n (meet f g) f x l (has W) out room (λ i s m. ap (λ (w : ℕ). bit w i) (shown s m))
      (upto_eq n (meet f g) f x l (taken n f e 0) (λ j. ltb j n) (has W) (taken_all n f e past) B.upto);
  kept = K;
}
