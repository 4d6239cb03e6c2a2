-- Laws of the greatest common divisor and the least common multiple of g 0, .., g (n − 1), which are above 0.
-- Both are found by a search for a size; here they are shown to be what every common divisor divides, and what divides every common
-- multiple. From there on they go up the numbers one by one, as a loop does.
--
--   Positive n g      all are above 0
--   Divisor n g d     d divides all
--   Multiple n g m    all divide m
--   Greatest n g d    d divides all, and whatever divides all divides d
--   Least n g m       all divide m, and m divides whatever all divide
--
-- Then the leading ones, which have the same multiples; the first multiple past a number; and the least greatest common divisor of any two.
use mathlib.Core.Path.{◌≡◌, sym, ap, ◌∙◌, subst}
use mathlib.Core.Logic.{⊎_elim}
use mathlib.Core.Bool.{Bool, true, false, ◌&&◌, cond}
use mathlib.Core.List.{List, [], ◌∷◌, ◌++◌, append-nil}
use Prim.Native.Nat.{ℕ, zero, suc, ◌+◌, ◌-◌, ◌*◌, ◌/◌, ◌%◌, ◌≤◌, ◌<◌, ◌∣◌, min}
use native.Mathlib.Nat.{eq-or-lt_of_le, le_of_suc-le-suc, mul-pos, dvd_of_mod-eq-zero, mod-eq-zero_of_dvd}
use native.Mathlib.Nat.{le_refl, mod-add-div', mod-lt, dvd-add, dvd-add_iff_right}
use native.Mathlib.Nat.{dvd_refl, dvd_trans, one-dvd, le_of_dvd, pos_of_dvd_of_pos, dvd-mul_left, dvd-mul_right_of_dvd}
use native.Mathlib.Numerals.{add-one}
use native.Mathlib.Omega.{arith}
use borrow.Author.Tests.{eq-eqb}
use lib.Dec.{T, ltb, eqb→eq, ltb→lt, lt→ltb}
use lib.ListN.{length, length-append, get_or-append}
use Rattle.numbers.specs.Finite.{any, every}
use Rattle.numbers.specs.Lists.{at}
use Rattle.numbers.specs.Divisors.{divides, product, gcd, lcm, leading, Leads, Past}
use Rattle.numbers.specs.Pairs.{IsGcd, IsLcm, LeastGcd}
use Rattle.numbers.proofs.Truth.{both, fst, snd, decide, is_true, is_false, same, le_or_lt}
use Rattle.numbers.proofs.Finite.{any_of, least, every_at, every_of, lowest_is, highest_is}
use Rattle.numbers.proofs.Lists.{each_none, each_next, at_append_right}
use Rattle.numbers.proofs.Pairs.{pair_gcd, pair_lcm, pair_lcm_positive}

-- ---- the test

pub dvd_of : (d m : ℕ) → T (divides d m) → d ∣ m
dvd_of d m t = dvd_of_mod-eq-zero d (eqb→eq (m % d) 0 t)

pub of_dvd : (d m : ℕ) → d ∣ m → T (divides d m)
of_dvd d m h = rw (eq-eqb (m % d) 0 (mod-eq-zero_of_dvd d h)) tt

-- ---- notions

abbrev pub Positive : ℕ → (ℕ → ℕ) → Type 0
Positive n g = (i : ℕ) → i < n → 0 < g i

abbrev pub Divisor : ℕ → (ℕ → ℕ) → ℕ → Type 0
Divisor n g d = (i : ℕ) → i < n → d ∣ g i

abbrev pub Multiple : ℕ → (ℕ → ℕ) → ℕ → Type 0
Multiple n g m = (i : ℕ) → i < n → g i ∣ m

pub record Greatest (n : ℕ) (g : ℕ → ℕ) (d : ℕ) : Type 0 where
  pub divisor : Divisor n g d
  pub greatest : (e : ℕ) → Divisor n g e → e ∣ d

pub record Least (n : ℕ) (g : ℕ → ℕ) (m : ℕ) : Type 0 where
  pub multiple : Multiple n g m
  pub least : (k : ℕ) → Multiple n g k → m ∣ k

-- what holds below n, and of n, holds below n + 1
step : (n : ℕ) (P : ℕ → Type 0) → ((i : ℕ) → i < n → P i) → P n → (i : ℕ) → i < suc n → P i
step n P f q i l =
    ⊎_elim (λ (e : i ≡ n). subst P (sym e) q) (λ (k : i < n). f i k) (eq-or-lt_of_le (le_of_suc-le-suc l))

only_zero : (i : ℕ) → i < 1 → i ≡ 0
only_zero i l = omega arith

-- ---- the product

pub product_positive : (n : ℕ) (g : ℕ → ℕ) → Positive n g → 0 < product n g
unfolding product
product_positive zero g pos = omega arith
product_positive (suc n) g pos = mul-pos (product_positive n g (λ i l. pos i (omega arith))) (pos n (omega arith))

pub product_multiple : (n : ℕ) (g : ℕ → ℕ) → Multiple n g (product n g)
unfolding product
product_multiple zero g = λ i l. absurd (omega arith)
product_multiple (suc n) g =
    step n (λ i. g i ∣ product n g * g n)
    (λ i l. dvd-mul_right_of_dvd (g i) (product_multiple n g i l) (g n))
    (dvd-mul_left (g n) (product n g))

-- ---- the least common multiple

least_next : {n : ℕ} {g : ℕ → ℕ} {a m : ℕ} → Least n g a → IsLcm a (g n) m → Least (suc n) g m
least_next {n} {g} {a} {m} L P = record {
  multiple = step n (λ i. g i ∣ m) (λ i l. dvd_trans (g i) (L.multiple i l) P.left) P.right;
  least = λ k M. P.least k (L.least k (λ i l. M i (omega arith))) (M n (omega arith));
}

least_none : (g : ℕ → ℕ) → Least 0 g 1
least_none g = record { multiple = λ i l. absurd (omega arith); least = λ k M. one-dvd k }

least_of : (n : ℕ) (g : ℕ → ℕ) → Positive n g → (m : ℕ) × (0 < m) × Least n g m
least_of zero g pos = (1, omega arith, least_none g)
least_of (suc n) g pos =
    let r = least_of n g (λ i l. pos i (omega arith)) in
    let p = pair_lcm r.0 (g n) r.1 in
    (p.0, pair_lcm_positive r.1 (pos n (omega arith)) p.1, least_next r.2 p.1)

module _ (n : ℕ) (g : ℕ → ℕ) (pos : Positive n g) where
  -- it is the common multiple that is above 0 and no greater than any other
  pub lcm_is : (m : ℕ) → 0 < m → Multiple n g m → ((k : ℕ) → 0 < k → Multiple n g k → m ≤ k) → lcm n g ≡ m
  unfolding lcm
  lcm_is m mp M L =
      lowest_is (suc (product n g)) (λ k. ltb 0 k && every n (λ i. divides (g i) k)) m
      (omega (arith, L (product n g) (product_positive n g pos) (product_multiple n g)))
      (both (ltb 0 m) (every n (λ i. divides (g i) m)) (lt→ltb 0 m mp) (every_of n (λ i. divides (g i) m) (λ i l. of_dvd (g i) m (M i l))))
      (λ j l t.
      let z = L j (ltb→lt 0 j (fst (ltb 0 j) (every n (λ i. divides (g i) j)) t))
      (λ i k. dvd_of (g i) j (every_at n (λ i. divides (g i) j) (snd (ltb 0 j) (every n (λ i. divides (g i) j)) t) i k)) in
      omega arith)

  -- it is the common multiple that divides every other
  pub lcm_of_least : (m : ℕ) → Least n g m → lcm n g ≡ m
  lcm_of_least m L =
      lcm_is m
      (pos_of_dvd_of_pos (L.least (product n g) (product_multiple n g)) (product_positive n g pos))
      L.multiple
      (λ k kp K. le_of_dvd kp (L.least k K))

  pub lcm_as_least : Least n g (lcm n g)
  lcm_as_least = let r = least_of n g pos in subst (Least n g) (sym (lcm_of_least r.0 r.2)) r.2

  pub lcm_multiple : (i : ℕ) → i < n → g i ∣ lcm n g
  lcm_multiple = lcm_as_least.multiple

  pub lcm_divides : (m : ℕ) → Multiple n g m → lcm n g ∣ m
  lcm_divides = lcm_as_least.least

  pub lcm_positive : 0 < lcm n g
  lcm_positive = pos_of_dvd_of_pos (lcm_divides (product n g) (product_multiple n g)) (product_positive n g pos)

-- that of the first m numbers divides it, and so is no greater: a loop may stop once it is above a bound
pub lcm_prefix : (m n : ℕ) (g : ℕ → ℕ) → Positive n g → m ≤ n → lcm m g ∣ lcm n g
lcm_prefix m n g pos l = lcm_divides m g (λ i k. pos i (omega arith)) (lcm n g) (λ i k. lcm_multiple n g pos i (omega arith))

pub lcm_grows : (m n : ℕ) (g : ℕ → ℕ) → Positive n g → m ≤ n → lcm m g ≤ lcm n g
lcm_grows m n g pos l = le_of_dvd (lcm_positive n g pos) (lcm_prefix m n g pos l)

pub lcm_none : (g : ℕ → ℕ) → lcm 0 g ≡ 1
lcm_none g = lcm_of_least 0 g (λ i l. absurd (omega arith)) 1 (least_none g)

pub lcm_next : (n : ℕ) (g : ℕ → ℕ) → Positive (n + 1) g → (m : ℕ) → IsLcm (lcm n g) (g n) m → lcm (n + 1) g ≡ m
lcm_next n g pos m P =
    rw add-one (lcm_of_least (suc n) g (λ i l. pos i (omega arith)) m (least_next (lcm_as_least n g (λ i l. pos i (omega arith))) P))

-- numbers that are all equal
pub lcm_same : (n : ℕ) (g : ℕ → ℕ) (c : ℕ) → 0 < n → 0 < c → ((i : ℕ) → i < n → g i ≡ c) → lcm n g ≡ c
lcm_same n g c some pos e =
    lcm_of_least n g (λ i l. rw (e i l) pos) c (record {
      multiple = λ i l. rw (e i l) (dvd_refl c);
      least = λ k M. rw (e 0 some) at (M 0 some);
    })

-- ---- the greatest common divisor

greatest_next : {n : ℕ} {g : ℕ → ℕ} {a d : ℕ} → Greatest n g a → IsGcd a (g n) d → Greatest (suc n) g d
greatest_next {n} {g} {a} {d} G P = record {
  divisor = step n (λ i. d ∣ g i) (λ i l. dvd_trans d P.left (G.divisor i l)) P.right;
  greatest = λ e D. P.greatest e (G.greatest e (λ i l. D i (omega arith))) (D n (omega arith));
}

greatest_one : (g : ℕ → ℕ) → Greatest 1 g (g 0)
greatest_one g = record { divisor = λ i l. rw (only_zero i l) (dvd_refl (g 0)); greatest = λ e D. D 0 (omega arith) }

greatest_of : (n : ℕ) (g : ℕ → ℕ) → 0 < n → (d : ℕ) × Greatest n g d
greatest_of zero g some = absurd (omega arith)
greatest_of (suc zero) g some = (g 0, greatest_one g)
greatest_of (suc (suc n)) g some =
    let r = greatest_of (suc n) g (omega arith) in
    let p = pair_gcd r.0 (g (suc n)) in
    (p.0, greatest_next r.1 p.1)

module _ (n : ℕ) (g : ℕ → ℕ) (some : 0 < n) (pos : Positive n g) where
  -- it is the common divisor that is no less than any other
  pub gcd_is : (d : ℕ) → Divisor n g d → ((e : ℕ) → Divisor n g e → e ≤ d) → gcd n g ≡ d
  unfolding gcd
  gcd_is d D G =
      highest_is (suc (g 0)) (λ e. every n (λ i. divides e (g i))) d
      (omega (arith, le_of_dvd (pos 0 some) (D 0 some)))
      (every_of n (λ i. divides d (g i)) (λ i l. of_dvd d (g i) (D i l)))
      (λ j l k t. let z = G j (λ i m. dvd_of j (g i) (every_at n (λ i. divides j (g i)) t i m)) in omega arith)

  -- it is the common divisor that every other divides
  pub gcd_of_greatest : (d : ℕ) → Greatest n g d → gcd n g ≡ d
  gcd_of_greatest d G =
      gcd_is d G.divisor (λ e E. le_of_dvd (pos_of_dvd_of_pos (G.divisor 0 some) (pos 0 some)) (G.greatest e E))

  pub gcd_as_greatest : Greatest n g (gcd n g)
  gcd_as_greatest = let r = greatest_of n g some in subst (Greatest n g) (sym (gcd_of_greatest r.0 r.1)) r.1

  pub gcd_divides : (i : ℕ) → i < n → gcd n g ∣ g i
  gcd_divides = gcd_as_greatest.divisor

  pub gcd_positive : 0 < gcd n g
  gcd_positive = pos_of_dvd_of_pos (gcd_divides 0 some) (pos 0 some)

-- ---- the leading numbers

leads_none : (g f : ℕ → ℕ) → Leads 0 g 0 f
leads_none g f = record { among = λ k l. absurd (omega arith); under = λ i l. absurd (omega arith) }

leads_kept : {n m : ℕ} {g f : ℕ → ℕ} → Leads n g m f → (j : ℕ) → j < n → g j ∣ g n → Leads (suc n) g m f
leads_kept {n} {m} {g} {f} L j h d = record {
  among = λ k l. let r = L.among k l in (r.0, omega arith, r.2);
  under = step n (λ i. (k : ℕ) × (k < m) × (f k ∣ g i)) L.under
      (let r = L.under j h in (r.0, r.1, dvd_trans (f r.0) r.2 d));
}

leads_new : {n m : ℕ} {g e f : ℕ → ℕ} → Leads n g m e → ((k : ℕ) → k < m → f k ≡ e k) → f m ≡ g n → Leads (suc n) g (suc m) f
leads_new {n} {m} {g} {e} {f} L same new = record {
  among = step m (λ k. (i : ℕ) × (i < suc n) × (f k ≡ g i))
      (λ k l. let r = L.among k l in (r.0, omega arith, same k l ∙ r.2)) (n, omega arith, new);
  under = step n (λ i. (k : ℕ) × (k < suc m) × (f k ∣ g i))
      (λ i l. let r = L.under i l in (r.0, omega arith, rw (same r.0 r.1) r.2))
      (m, omega arith, rw new (dvd_refl (g n)));
}

-- they have the multiples that all have
pub leads_any : {n m : ℕ} {g f : ℕ → ℕ} → Leads n g m f → (s : ℕ) → any m (λ k. divides (f k) s) ≡ any n (λ i. divides (g i) s)
leads_any {n} {m} {g} {f} L s =
    same (any m (λ k. divides (f k) s)) (any n (λ i. divides (g i) s))
    (λ t. let r = least m (λ k. divides (f k) s) t in
    let a = L.among r.0 r.1 in
    any_of n (λ i. divides (g i) s) a.0 a.1 (rw a.2 at r.2))
    (λ t. let r = least n (λ i. divides (g i) s) t in
    let a = L.under r.0 r.1 in
    any_of m (λ k. divides (f k) s) a.0 a.1 (of_dvd (f a.0) s (dvd_trans (f a.0) a.2 (dvd_of (g r.0) s r.2))))

pub leading_none : (g : ℕ → ℕ) → leading 0 g ≡ []
unfolding leading
leading_none g = each_none (λ i. cond (any i (λ j. divides (g j) (g i))) [] (g i ∷ []))

module _ (n : ℕ) (g : ℕ → ℕ) where
  leading_next : leading (n + 1) g ≡ leading n g ++ cond (any n (λ j. divides (g j) (g n))) [] (g n ∷ [])
  unfolding leading
  leading_next = each_next n (λ i. cond (any i (λ j. divides (g j) (g i))) [] (g i ∷ []))

  pub leading_kept : any n (λ j. divides (g j) (g n)) ≡ true → leading (n + 1) g ≡ leading n g
  leading_kept e =
      leading_next ∙ ap (λ (b : Bool). leading n g ++ cond b [] (g n ∷ [])) e ∙ append-nil (leading n g)

  pub leading_new : any n (λ j. divides (g j) (g n)) ≡ false → leading (n + 1) g ≡ leading n g ++ (g n ∷ [])
  leading_new e = leading_next ∙ ap (λ (b : Bool). leading n g ++ cond b [] (g n ∷ [])) e

pub leading_leads : (n : ℕ) (g : ℕ → ℕ) → Leads n g (length (leading n g)) (at (leading n g))
leading_leads zero g = rw (leading_none g) (leads_none g (at []))
leading_leads (suc n) g =
    let L = leading_leads n g in
    let ws : List ℕ = leading n g in
    ⊎_elim
    (λ (t : T (any n (λ j. divides (g j) (g n)))).
    let r = least n (λ j. divides (g j) (g n)) t in
    let e : leading (suc n) g ≡ ws = rw add-one at (leading_kept n g (is_true _ t)) in
    rw e (leads_kept L r.0 r.1 (dvd_of (g r.0) (g n) r.2)))
    (λ (t : T (any n (λ j. divides (g j) (g n))) → ⊥).
    let e : leading (suc n) g ≡ ws ++ (g n ∷ []) = rw add-one at (leading_new n g (is_false _ t)) in
    let z : length ws - length ws ≡ 0 = omega arith in
    let size : length (leading (suc n) g) ≡ suc (length ws) = ap length e ∙ length-append ws (g n ∷ []) ∙ add-one (length ws) in
    rw size (leads_new L (λ k l. ap (λ (vs : List ℕ). at vs k) e ∙ get_or-append ws (g n ∷ []) 0 k l)
    (ap (λ (vs : List ℕ). at vs (length ws)) e ∙ at_append_right ws (g n ∷ []) (length ws) (le_refl (length ws)) ∙ ap (at (g n ∷ [])) z)))
    (decide (any n (λ j. divides (g j) (g n))))

-- what agrees with them leads too
pub leads_same : {n m : ℕ} {g e f : ℕ → ℕ} → Leads n g m e → ((k : ℕ) → k < m → f k ≡ e k) → Leads n g m f
leads_same L same = record {
  among = λ k l. let r = L.among k l in (r.0, r.1, same k l ∙ r.2);
  under = λ i l. let r = L.under i l in (r.0, r.1, rw (same r.0 r.1) r.2);
}

pub leading_few : (n : ℕ) (g : ℕ → ℕ) → length (leading n g) ≤ n
leading_few zero g = rw (leading_none g) (le_refl 0)
leading_few (suc n) g =
    let few = leading_few n g in
    ⊎_elim
    (λ (t : T (any n (λ j. divides (g j) (g n)))).
    let e : leading (suc n) g ≡ leading n g = rw add-one at (leading_kept n g (is_true _ t)) in
    omega (arith, ap length e))
    (λ (t : T (any n (λ j. divides (g j) (g n))) → ⊥).
    let e : leading (suc n) g ≡ leading n g ++ (g n ∷ []) = rw add-one at (leading_new n g (is_false _ t)) in
    omega (arith, ap length e ∙ length-append (leading n g) (g n ∷ [])))
    (decide (any n (λ j. divides (g j) (g n))))

-- ---- the first multiple past a number

pub past_only : {n : ℕ} {g : ℕ → ℕ} {s r u : ℕ} → Past n g s r → Past n g s u → r ≡ u
past_only {n} {g} {s} {r} {u} P Q =
    let a : ¬ (r < u) = λ l. Q.none P.some.0 r P.some.1 P.past l P.some.2 in
    let b : ¬ (u < r) = λ l. P.none Q.some.0 u Q.some.1 Q.past l Q.some.2 in
    omega arith

pub past_led : {n m : ℕ} {g f : ℕ → ℕ} {s r : ℕ} → Leads n g m f → Past m f s r → Past n g s r
past_led {n} {m} {g} {f} {s} {r} L P = record {
  past = P.past;
  some =
      let k = P.some in
      let i = L.among k.0 k.1 in
      (i.0, i.1, rw i.2 at k.2);
  none = λ i u l a b d.
      let k = L.under i l in
      P.none k.0 u k.1 a b (dvd_trans (f k.0) k.2 d);
}

-- the first multiple of one number
after : (p s : ℕ) → 0 < p → (s < s / p * p + p) × (p ∣ s / p * p + p) × ((u : ℕ) → s < u → u < s / p * p + p → p ∣ u → ⊥)
after p s pos =
    let e : s % p + s / p * p ≡ s = mod-add-div' s p in
    let l : s % p < p = mod-lt s pos in
    let d : p ∣ s / p * p = dvd-mul_left p (s / p) in (
      omega arith,
      dvd-add p d (dvd_refl p),
      λ u a b c.
          let v : ℕ = u - s / p * p in
          let w : s / p * p + v ≡ u = omega arith in
          let z : p ≤ v = le_of_dvd (omega arith) ((dvd-add_iff_right p d).1 (rw w c)) in
          omega arith,
    )

pub past_one : (g : ℕ → ℕ) (s : ℕ) → 0 < g 0 → Past 1 g s (s / g 0 * g 0 + g 0)
past_one g s pos =
    let a = after (g 0) s pos in
    record { past = a.0; some = (0, omega arith, a.1); none = λ i u l b c d. a.2 u b c (rw (only_zero i l) at d) }

pub past_next : {n : ℕ} {g : ℕ → ℕ} {s r : ℕ} → Past n g s r → 0 < g n → Past (n + 1) g s (min r (s / g n * g n + g n))
past_next {n} {g} {s} {r} P pos =
    let e : ℕ = s / g n * g n + g n in
    let a = after (g n) s pos in
    rw add-one (record {
      past = let z = P.past in let y : s < e = a.0 in omega arith;
      some = ⊎_elim
          (λ (l : r ≤ e). let m : min r e ≡ r = omega arith in rw m (let k = P.some in (k.0, omega arith, k.2)))
          (λ (l : e < r). let m : min r e ≡ e = omega arith in rw m (n, omega arith, a.1))
          (le_or_lt r e);
      none = λ i u l b c. step n (λ i. g i ∣ u → ⊥) (λ i k. P.none i u k b (omega arith)) (a.2 u b (omega arith)) i l;
    })

-- ---- the least greatest common divisor of any two

module _ {n : ℕ} {g : ℕ → ℕ} where
  pub least_gcd_only : {l k : ℕ} → LeastGcd n g l → LeastGcd n g k → l ≡ k
  least_gcd_only {l} {k} L K =
      let a = K.some in
      let b = L.some in
      omega (arith, L.least a.0 a.1 k a.2 a.3 a.4, K.least b.0 b.1 l b.2 b.3 b.4)

  -- it is that of the leading ones
  pub least_gcd_led : {m l : ℕ} {f : ℕ → ℕ} → Positive n g → Leads n g m f → LeastGcd m f l → LeastGcd n g l
  least_gcd_led {m} {l} {f} pos L G = record {
    some =
        let r = G.some in
        let i = L.among r.0 r.2 in
        let j = L.among r.1 r.3 in
        (i.0, j.0, i.1, j.1, rw (i.2, j.2) at r.4);
    least = λ i j d a b D.
        let x = L.under i a in
        let y = L.under j b in
        let e = pair_gcd (f x.0) (f y.0) in
        let z : e.0 ∣ d =
        D.greatest e.0 (dvd_trans e.0 e.1.left x.2) (dvd_trans e.0 e.1.right y.2) in
        omega (arith, G.least x.0 y.0 e.0 x.1 y.1 e.1, le_of_dvd (pos_of_dvd_of_pos D.left (pos i a)) z);
  }
