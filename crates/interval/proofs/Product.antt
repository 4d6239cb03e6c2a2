-- The greatest of a product is the product of the greatest: loads that are the greatest on each ring are the greatest that qualify on both.
use mathlib.Core.Path.{◌≡◌, refl, sym, ap, ◌∙◌, fun_ext}
use mathlib.Core.Bool.{Bool, true, false, cond}
use mathlib.Core.Logic.{◌≢◌}
use Prim.Native.Nat.{ℕ, zero, suc, ◌+◌, ◌*◌, ◌/◌, ◌%◌, ◌^◌, ◌<◌}
use native.Mathlib.Decide.{ℕ_discrete}
use native.Mathlib.Omega.{arith}
use lib.Bits.{bit_or, or_zero_l}
use lib.Dec.{eqb}
use borrow.Author.Tests.{eq-eqb, ne_eqb}
use Rattle.numbers.specs.Finite.{only}
use Rattle.numbers.specs.Rounding.{Rounded}
use Rattle.numbers.specs.Word.{bit}
use Rattle.numbers.proofs.Finite.{only_true, only_false, sum_in_eq}
use Rattle.numbers.proofs.Rounding.{rounded_of, rounded_whole}
use Rattle.numbers.proofs.Word.{bit_shr, bit_zero, bit_or_lem}
use Rattle.loads.proofs.Words.{or_same}
use Rattle.rules.specs.Bounds.{max_rings}
use Rattle.rules.specs.Interval.{Greatest}
use Rattle.loads.specs.Loads.{in_set, digit, none, Qualified}
use Rattle.loads.proofs.Choice.{sum_none}
use Rattle.loads.proofs.Settling.{digit_on, digit_off, digit_le}
use Rattle.interval.specs.Rings.{on_ring, OnEach, ring_count, Chosen}

-- ---- digits

-- `(w >> i) % 2`
pub digit_is : (w i : ℕ) → digit w i ≡ w / 2 ^ i % 2
digit_is w i = go (w / 2 ^ i % 2) (omega arith) (sym (bit_shr w i))
  where
    go : (r : ℕ) → r < 2 → bit w i ≡ eqb r 1 → digit w i ≡ r
    go zero l e = only_false (bit w i) 1 e
    go (suc zero) l e = only_true (bit w i) 1 e
    go (suc (suc r)) l e = absurd (omega arith)

digit_none : (w i : ℕ) → digit w i ≡ 0 → bit w i ≡ false
digit_none w i e = go (bit w i) refl
  where
    go : (b : Bool) → bit w i ≡ b → bit w i ≡ false
    go true q = absurd (omega (arith, digit_on w i q))
    go false q = q

-- of two words one has no such digit
or_left : (v w i : ℕ) → digit w i ≡ 0 → digit (bit_or v w) i ≡ digit v i
or_left v w i e = ap (λ (b : Bool). only b 1) (bit_or_lem v w i ∙ or_same (bit v i) (bit w i) (digit_none w i e))

or_right : (v w i : ℕ) → digit v i ≡ 0 → digit (bit_or v w) i ≡ digit w i
or_right v w i e = ap (λ (b : Bool). only b 1) (bit_or_lem v w i ∙ rw (digit_none v i e))

-- ---- parts and loads, by rows

-- with one ring all rows are of ring 0
alone : (f : ℕ → ℕ) → on_ring 0 0 f ≡ f
alone f = fun_ext (λ i. only_true _ (f i) (eq-eqb (digit 0 i) 0 (digit_off 0 i (bit_zero i))))

nobody : (f : ℕ → ℕ) → on_ring 1 0 f ≡ none
nobody f = fun_ext (λ i. only_false _ (f i) (ne_eqb (digit 0 i) 1 (λ q. omega (arith, digit_off 0 i (bit_zero i)))))

pub rounded_none : (h : ℕ) → 0 < h → Rounded 0 0 h
rounded_none h pos = rounded_of 0 h pos 0 (omega arith) (omega arith)

module _ (n K : ℕ) (a b : ℕ → ℕ) (h : ℕ) where
  -- only the parts and loads of the n rows count
  qualified_eq : (f g x y : ℕ → ℕ) → ((i : ℕ) → i < n → f i ≡ g i) → ((i : ℕ) → i < n → x i ≡ y i) → Qualified n K a b h f none x
      → Qualified n K a b h g none y
  qualified_eq f g x y p q Q = record {
    rows = λ i l. rw (sym (p i l), sym (q i l)) (Q.rows i l);
    sets = λ k l.
        let D = in_set a b k in
        rw (sum_in_eq n D D g f (λ i m. refl) (λ i m t. sym (p i m)), sum_in_eq n D D y x (λ i m. refl) (λ i m t. sym (q i m))) (Q.sets k l);
  }

  pub greatest_parts : (f g x : ℕ → ℕ) → ((i : ℕ) → i < n → f i ≡ g i) → Greatest n (Qualified n K a b h f none) x
      → Greatest n (Qualified n K a b h g none) x
  greatest_parts f g x p G = record {
    qualify = qualified_eq f g x x p (λ i l. refl) G.qualify;
    most = λ z q. G.most z (qualified_eq g f z z (λ i l. sym (p i l)) (λ i l. refl) q);
  }

  -- no loads of no parts
  qualified_none : 0 < h → Qualified n K a b h none none none
  qualified_none pos = record {
    rows = λ i l. rounded_none h pos;
    sets = λ k l. rw (sum_none n (in_set a b k)) (rounded_none h pos);
  }

  -- ---- both rings

  module _ (upper : ℕ) (f : ℕ → ℕ) (pos : 0 < h) where
    -- a row of the other ring is not rounded up
    other : (d : ℕ) (x : ℕ → ℕ) → Qualified n K a b h (on_ring d upper f) none x → (i : ℕ) → i < n → digit upper i ≢ d → x i ≡ 0
    other d x Q i l ne =
        let e : on_ring d upper f i ≡ 0 * h = omega (arith, only_false (eqb (digit upper i) d) (f i) (ne_eqb (digit upper i) d ne)) in
        omega (arith, rounded_whole (0 + x i) 0 h pos (rw e at (Q.rows i l)))

    module _ (x : ℕ → ℕ → ℕ) (G : (d : ℕ) → d < max_rings → Greatest n (Qualified n K a b h (on_ring d upper f) none) (x d)) where
      module _ (y : ℕ → ℕ) (joined : (i : ℕ) → i < n → y i ≡ x (digit upper i) i) where
        -- the loads of each ring are those of its rows
        own : (d : ℕ) → d < max_rings → (i : ℕ) → i < n → on_ring d upper y i ≡ x d i
        own d g i l = go (ℕ_discrete (digit upper i) d)
          where
            go : Dec (digit upper i ≡ d) → on_ring d upper y i ≡ x d i
            go (yes e) = only_true _ (y i) (eq-eqb (digit upper i) d e) ∙ joined i l ∙ ap (λ (c : ℕ). x c i) e
            go (no e) = only_false _ (y i) (ne_eqb (digit upper i) d e) ∙ sym (other d (x d) (G d g).qualify i l e)

        product : Greatest n (OnEach n K a b h upper f) y
        product = record {
          qualify = λ d g. qualified_eq (on_ring d upper f) (on_ring d upper f) (x d) (on_ring d upper y) (λ i l. refl)
              (λ i l. sym (own d g i l)) (G d g).qualify;
          most = λ z q i l eq.
              let d = digit upper i in
              let g : d < max_rings = omega (arith, digit_le upper i) in
              let t = eq-eqb d d refl in
              omega (
                arith,
                (G d g).most (on_ring d upper z) (q d g) i l
                    (λ j m. ap (only (eqb (digit upper j) d)) (eq j m) ∙ own d g j (omega arith)),
                joined i l,
                only_true (eqb d d) (z i) t,
              );
        }

    -- the words of both, joined
    product_words : (v w : ℕ) → Greatest n (Qualified n K a b h (on_ring 0 upper f) none) (digit v)
        → Greatest n (Qualified n K a b h (on_ring 1 upper f) none) (digit w) → Greatest n (OnEach n K a b h upper f) (digit (bit_or v w))
    product_words v w G H = product (λ d. digit (word d)) each (digit (bit_or v w)) (λ i l. joined i l (digit upper i) refl)
      where
        word : ℕ → ℕ
        word zero = v
        word (suc d) = w

        each : (d : ℕ) → d < max_rings → Greatest n (Qualified n K a b h (on_ring d upper f) none) (digit (word d))
        each zero l = G
        each (suc zero) l = H
        each (suc (suc d)) l = absurd (omega arith)

        joined : (i : ℕ) → i < n → (d : ℕ) → digit upper i ≡ d → digit (bit_or v w) i ≡ digit (word d) i
        joined i l zero e = or_left v w i (other 1 (digit w) H.qualify i l (λ q. omega arith))
        joined i l (suc d) e = or_right v w i (other 0 (digit v) G.qualify i l (λ q. omega arith))

  -- ---- one ring

  product_one : (f x : ℕ → ℕ) → 0 < h → Greatest n (Qualified n K a b h f none) x → Greatest n (OnEach n K a b h 0 f) x
  product_one f x pos G = record {
    qualify = each;
    most = λ z q. G.most z (rw (alone f, alone z) at (q 0 (omega arith)));
  }
    where
      each : (d : ℕ) → d < max_rings → Qualified n K a b h (on_ring d 0 f) none (on_ring d 0 x)
      each zero l = rw (alone f, alone x) G.qualify
      each (suc zero) l = rw (nobody f, nobody x) (qualified_none pos)
      each (suc (suc d)) l = absurd (omega arith)

-- ---- ring after ring

pub rings_few : (upper d : ℕ) → d < ring_count upper → d < max_rings
rings_few upper d l = go (eqb upper 0) l
  where
    go : (b : Bool) → d < cond b 1 max_rings → d < max_rings
    go true l = omega arith
    go false l = l

module _ (n K : ℕ) (a b : ℕ → ℕ) (h upper : ℕ) (f : ℕ → ℕ) (pos : 0 < h) where
  pub chosen_next : (d rounded w : ℕ) → d < max_rings → Chosen n K a b h upper f d rounded
      → Greatest n (Qualified n K a b h (on_ring d upper f) none) (digit w) → Chosen n K a b h upper f (d + 1) (bit_or rounded w)
  chosen_next zero rounded w l C G = record {
    nothing = λ e. absurd (omega arith);
    one = λ e. let r : bit_or rounded w ≡ w = ap (λ (v : ℕ). bit_or v w) (C.nothing refl) ∙ or_zero_l w in rw r G;
    both = λ e. absurd (omega arith);
  }
  chosen_next (suc zero) rounded w l C G = record {
    nothing = λ e. absurd (omega arith);
    one = λ e. absurd (omega arith);
    both = λ e. product_words n K a b h upper f pos rounded w (C.one refl) G;
  }
  chosen_next (suc (suc d)) rounded w l C G = absurd (omega arith)

  pub chosen_end : (d rounded : ℕ) → d ≡ ring_count upper → Chosen n K a b h upper f d rounded
      → Greatest n (OnEach n K a b h upper f) (digit rounded)
  chosen_end d rounded e C = go (ℕ_discrete upper 0)
    where
      go : Dec (upper ≡ 0) → Greatest n (OnEach n K a b h upper f) (digit rounded)
      go (yes z) =
          let q : d ≡ 1 = e ∙ rw (eq-eqb upper 0 z) refl in
          rw z (product_one n K a b h f (digit rounded) pos (rw (z, alone f) at (C.one q)))
      go (no z) = C.both (e ∙ rw (ne_eqb upper 0 z) refl)
