-- Loads: a choice among parts of slots is one among whole loads. Arcs that are rows, and then sets.
use mathlib.Core.Path.{◌≡◌, refl, sym, ap, ◌∙◌}
use mathlib.Core.Bool.{Bool}
use Prim.Native.Nat.{ℕ, ◌+◌, ◌-◌, ◌*◌, ◌≤◌, ◌<◌}
use native.Mathlib.Decide.{dec_lt}
use native.Mathlib.Nat.{lt_of_mul-lt-mul_right}
use native.Mathlib.Omega.{arith}
use borrow.Author.Tests.{lt-ltb, le-ltb}
use Rattle.numbers.specs.Finite.{sum_in}
use Rattle.numbers.proofs.Finite.{sum_in_eq, sum_in_add, sum_in_scaled, sum_zero, only_zero}
use Rattle.numbers.proofs.Rounding.{rounded_is, rounded_shift}
use Rattle.rules.specs.Interval.{Greatest}
use Rattle.loads.specs.Loads.{in_set, none, Qualified}
use Rattle.loads.specs.Line.{join}

-- ---- arcs that are rows, and then sets

pub join_low : (n : ℕ) (f g : ℕ → ℕ) (e : ℕ) → e < n → join n f g e ≡ f e
unfolding join
join_low n f g e l = rw (lt-ltb e n l)

pub join_high : (n : ℕ) (f g : ℕ → ℕ) (k : ℕ) → join n f g (n + k) ≡ g k
unfolding join
join_high n f g k =
    let p : n + k - n ≡ k = omega arith in
    rw (le-ltb (n + k) n (omega arith), p)

-- a fact of each row and of each set is a fact of each arc
pub both : (P : ℕ → Type 0) (n K : ℕ) → ((j : ℕ) → j < n → P j) → ((k : ℕ) → k < K → P (n + k)) → (e : ℕ) → e < n + K → P e
both P n K f g e l = go (dec_lt e n)
  where
    go : Dec (e < n) → P e
    go (yes m) = f e m
    go (no m) =
        let p : n + (e - n) ≡ e = omega arith in
        rw p at (g (e - n) (omega arith))

-- a set's share is its lag and the slots that it has had
pub lag_sum : (n h : ℕ) (share had y : ℕ → ℕ) (D : ℕ → Bool) → ((i : ℕ) → i < n → share i ≡ y i + had i * h)
    → sum_in n D share ≡ sum_in n D y + sum_in n D had * h
lag_sum n h share had y D e =
    sum_in_eq n D D share (λ i. y i + had i * h) (λ i l. refl) (λ i l t. e i l) ∙ sum_in_add n D y (λ i. had i * h)
    ∙ ap (λ (u : ℕ). sum_in n D y + u) (sum_in_scaled n D had h)

-- ---- from parts of slots to loads

pub zero_plus : (v : ℕ) → 0 + v ≡ v
zero_plus v = omega arith

pub sum_none : (n : ℕ) (D : ℕ → Bool) → sum_in n D none ≡ 0
sum_none n D = sum_zero n _ (λ i l. only_zero (D i))

-- What is chosen of the parts f is chosen of the shares: w are their whole slots, and rows that have had `had` get x, in all as many.
module _ (n K : ℕ) (a b : ℕ → ℕ) (h : ℕ) (share had f w x z : ℕ → ℕ) (pos : 0 < h) (parts : (i : ℕ) → i < n → share i ≡ f i + w i * h)
    (all : (i : ℕ) → i < n → had i + x i ≡ w i + z i) where
  sum_as : (D : ℕ → Bool) (p q r s : ℕ → ℕ) → ((i : ℕ) → i < n → p i + q i ≡ r i + s i)
      → sum_in n D p + sum_in n D q ≡ sum_in n D r + sum_in n D s
  sum_as D p q r s e =
      sym (sum_in_add n D p q) ∙ sum_in_eq n D D (λ i. p i + q i) (λ i. r i + s i) (λ i l. refl) (λ i l t. e i l) ∙ sum_in_add n D r s

  -- loads v of the parts, and u of the shares, in all as many
  module _ (u v : ℕ → ℕ) (same : (i : ℕ) → i < n → had i + u i ≡ w i + v i) where
    qualified_up : Qualified n K a b h f none v → Qualified n K a b h share had u
    qualified_up q = record {
      rows = λ i l. rw (parts i l, same i l) ((rounded_shift (w i) (v i) (f i) h pos).1 (rw (zero_plus (v i)) at (q.rows i l)));
      sets = λ k l.
          let D = in_set a b k in
          rw (lag_sum n h share w f D parts, sum_as D had u w v same)
          ((rounded_shift (sum_in n D w) (sum_in n D v) (sum_in n D f) h pos).1 (rw (sum_none n D, zero_plus (sum_in n D v)) at (q.sets k l)));
    }

    qualified_down : Qualified n K a b h share had u → Qualified n K a b h f none v
    qualified_down q = record {
      rows = λ i l. rw (zero_plus (v i)) ((rounded_shift (w i) (v i) (f i) h pos).0 (rw (parts i l, same i l) at (q.rows i l)));
      sets = λ k l.
          let D = in_set a b k in
          rw (sum_none n D, zero_plus (sum_in n D v))
          ((rounded_shift (sum_in n D w) (sum_in n D v) (sum_in n D f) h pos).0
          (rw (lag_sum n h share w f D parts, sum_as D had u w v same) at (q.sets k l)));
    }

  pub greatest_shift : Greatest n (Qualified n K a b h f none) z → Greatest n (Qualified n K a b h share had) x
  greatest_shift g = record {
    qualify = qualified_up x z all g.qualify;
    most = λ u q i l eq.
        let v : ℕ → ℕ = λ j. had j + u j - w j in
        let in_all : (j : ℕ) → j < n → had j + u j ≡ w j + v j = λ j m. omega (arith, above u q j m) in
        omega (
          arith,
          g.most v (qualified_down u v in_all q) i l (λ j m. omega (arith, eq j m, all j (omega arith))),
          all i l,
          above u q i l,
        );
  }
    where
      above : (u : ℕ → ℕ) → Qualified n K a b h share had u → (j : ℕ) → j < n → w j ≤ had j + u j
      above u q j m =
          let r = rounded_is (share j) h pos (had j + u j) (q.rows j m) in
          let t : w j < had j + u j + 1 = lt_of_mul-lt-mul_right h (omega (arith, r.0, parts j m)) in
          omega arith
