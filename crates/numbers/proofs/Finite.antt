-- Laws of the searches, sums and counts of specs/Finite. Arguments come in the order of the definitions: the bound n, the tests and terms,
-- single numbers, facts.
--
--   Additive R     R a b passes to sums; = and ≤ do, and so does Cong h
--   Cong h a b     a and b differ by a multiple of h
--   Sought n p i   none of the first i of n numbers has p
--
-- The laws that end in -next are in the form of a loop that counts up: n + 1 for the bound.
use mathlib.Core.Path.{◌≡◌, refl, sym, ap, ap₂, ◌∙◌}
use mathlib.Core.Logic.{◌⊎◌, inl, inr, ⊎_elim, ◌≢◌}
use mathlib.Core.Bool.{Bool, true, false, not, ◌&&◌, ◌||◌, cond}
use Prim.Native.Nat.{ℕ, zero, suc, ◌+◌, ◌-◌, ◌*◌, ◌/◌, ◌%◌, ◌≤◌, ◌<◌, zero-le, min, max}
use native.Mathlib.Nat.{eq-or-lt_of_le, le_of_suc-le-suc, not-suc-le-zero, le_refl, add-zero, add-suc}
use native.Mathlib.Nat.{mod-add-div', add-mul-mod_self_right, zero-mod}
use native.Mathlib.Numerals.{add-one}
use native.Mathlib.Omega.{arith}
use lib.Dec.{T, ltb, eqb, eqb→eq}
use borrow.Author.Count.{below_more}
use borrow.Author.Tests.{ltb-true, ltb-false}
use Rattle.numbers.specs.Finite.{any, every, lowest, highest, only, sum, sum_in, count, largest}
use Rattle.numbers.proofs.Truth.{both, fst, snd, orl, orr, or_cases, decide, is_true, is_false, of_true, of_false, le_or_lt}

-- below suc n: n itself, or below n
pub below : {i n : ℕ} → i < suc n → (i ≡ n) ⊎ (i < n)
below h = eq-or-lt_of_le (le_of_suc-le-suc h)

-- ---- any

pub any_next : (n : ℕ) (p : ℕ → Bool) → any (n + 1) p ≡ (any n p || p n)
unfolding any
any_next n p = rw add-one

pub any_of : (n : ℕ) (p : ℕ → Bool) (i : ℕ) → i < n → T (p i) → T (any n p)
unfolding any
any_of zero p i h t = absurd (not-suc-le-zero h)
any_of (suc n) p i h t =
    ⊎_elim (λ (e : i ≡ n). orr (any n p) (p n) (rw e at t)) (λ l. orl (any n p) (p n) (any_of n p i l t)) (below h)

-- the least number that a search finds
pub least : (n : ℕ) (p : ℕ → Bool) → T (any n p) → (i : ℕ) × (i < n) × T (p i) × ((j : ℕ) → j < i → T (p j) → ⊥)
unfolding any
least zero p h = absurd h
least (suc n) p h = go (least n p) (decide (any n p))
  where
    go : (T (any n p) → (i : ℕ) × (i < n) × T (p i) × ((j : ℕ) → j < i → T (p j) → ⊥)) → T (any n p) ⊎ (T (any n p) → ⊥)
        → (i : ℕ) × (i < suc n) × T (p i) × ((j : ℕ) → j < i → T (p j) → ⊥)
    go ih (inl a) = let r = ih a in (r.0, omega (arith, r.1), r.2, r.3)
    go ih (inr b) = (n, le_refl (suc n), ⊎_elim (λ a. absurd (b a)) (λ t. t) (or_cases (any n p) (p n) h), λ j l t. b (any_of n p j l t))

-- false where nothing below n has p
pub any_none : (n : ℕ) (p : ℕ → Bool) → ((i : ℕ) → i < n → T (p i) → ⊥) → any n p ≡ false
any_none n p h = is_false (any n p) (λ a. let r = least n p a in h r.0 r.1 r.2)

pub any_eq : (n : ℕ) (p q : ℕ → Bool) → ((i : ℕ) → i < n → p i ≡ q i) → any n p ≡ any n q
unfolding any
any_eq zero p q h = refl
any_eq (suc n) p q h = ap₂ ◌||◌ (any_eq n p q (λ i l. h i (omega arith))) (h n (le_refl (suc n)))

-- ---- every

pub every_of : (n : ℕ) (p : ℕ → Bool) → ((i : ℕ) → i < n → T (p i)) → T (every n p)
unfolding every
every_of zero p h = tt
every_of (suc n) p h = both (every n p) (p n) (every_of n p (λ i l. h i (omega arith))) (h n (le_refl (suc n)))

-- what every number has, each has
pub every_at : (n : ℕ) (p : ℕ → Bool) → T (every n p) → (i : ℕ) → i < n → T (p i)
unfolding every
every_at zero p h i l = absurd (not-suc-le-zero l)
every_at (suc n) p h i l =
    ⊎_elim (λ (e : i ≡ n). rw e (snd (every n p) (p n) h)) (λ k. every_at n p (fst (every n p) (p n) h) i k) (below l)

-- ---- lowest

cond_true : (b : Bool) (x y : ℕ) → T b → cond b x y ≡ x
cond_true true x y h = refl
cond_true false x y h = absurd h

cond_false : (b : Bool) (x y : ℕ) → (T b → ⊥) → cond b x y ≡ y
cond_false true x y h = absurd (h tt)
cond_false false x y h = refl

pub lowest_le : (n : ℕ) (p : ℕ → Bool) → lowest n p ≤ n
unfolding lowest
lowest_le zero p = zero-le
lowest_le (suc n) p = go (p 0) (lowest_le n (λ i. p (suc i)))
  where
    go : (b : Bool) → lowest n (λ i. p (suc i)) ≤ n → cond b 0 (suc (lowest n (λ i. p (suc i)))) ≤ suc n
    go true h = zero-le
    go false h = omega arith

-- a number that has p, with none below it that has
pub lowest_is : (n : ℕ) (p : ℕ → Bool) (i : ℕ) → i < n → T (p i) → ((j : ℕ) → j < i → T (p j) → ⊥) → lowest n p ≡ i
unfolding lowest
lowest_is zero p i l t u = absurd (not-suc-le-zero l)
lowest_is (suc n) p zero l t u = cond_true (p 0) 0 _ t
lowest_is (suc n) p (suc i) l t u =
    cond_false (p 0) 0 _ (u 0 (omega arith))
    ∙ ap suc (lowest_is n (λ j. p (suc j)) i (le_of_suc-le-suc l) t (λ j k. u (suc j) (omega arith)))

pub lowest_none : (n : ℕ) (p : ℕ → Bool) → ((i : ℕ) → i < n → T (p i) → ⊥) → lowest n p ≡ n
unfolding lowest
lowest_none zero p h = refl
lowest_none (suc n) p h =
    cond_false (p 0) 0 _ (h 0 (omega arith)) ∙ ap suc (lowest_none n (λ i. p (suc i)) (λ i l. h (suc i) (omega arith)))

-- where the search does not end at n, it ends at a number that has p
pub lowest_has : (n : ℕ) (p : ℕ → Bool) → lowest n p < n → T (p (lowest n p))
lowest_has n p l = go (decide (any n p))
  where
    go : T (any n p) ⊎ (T (any n p) → ⊥) → T (p (lowest n p))
    go (inl a) = let r = least n p a in rw (lowest_is n p r.0 r.1 r.2 r.3) r.2
    go (inr b) = absurd (omega (arith, lowest_none n p (λ i k t. b (any_of n p i k t))))

-- nothing below it has p
pub lowest_below : (n : ℕ) (p : ℕ → Bool) (j : ℕ) → j < lowest n p → T (p j) → ⊥
lowest_below n p j l t =
    let r = least n p (any_of n p j (omega (arith, lowest_le n p)) t) in
    r.3 j (omega (arith, lowest_is n p r.0 r.1 r.2 r.3)) t

-- at most any number that has p
pub lowest_under : (n : ℕ) (p : ℕ → Bool) (i : ℕ) → T (p i) → lowest n p ≤ i
lowest_under n p i t = ⊎_elim (λ h. h) (λ l. absurd (lowest_below n p i l t)) (le_or_lt (lowest n p) i)

pub lowest_eq : (n : ℕ) (p q : ℕ → Bool) → ((i : ℕ) → i < n → p i ≡ q i) → lowest n p ≡ lowest n q
unfolding lowest
lowest_eq zero p q h = refl
lowest_eq (suc n) p q h =
    ap₂ (λ (b : Bool) (k : ℕ). cond b 0 (suc k)) (h 0 (omega arith))
    (lowest_eq n (λ i. p (suc i)) (λ i. q (suc i)) (λ i l. h (suc i) (omega arith)))

-- what a loop that looks for the lowest keeps

pub record Sought (n : ℕ) (p : ℕ → Bool) (i : ℕ) : Type 0 where
  pub within : i ≤ n
  pub none : (j : ℕ) → j < i → T (p j) → ⊥

module _ {n : ℕ} {p : ℕ → Bool} where
  pub sought_start : Sought n p 0
  sought_start = record { within = omega arith; none = λ j l. absurd (omega arith) }

  pub sought_next : {i : ℕ} → Sought n p i → i < n → p i ≡ false → Sought n p (i + 1)
  sought_next h l e = record { within = omega arith; none = below_more _ _ h.none (of_false e) }

  pub sought_found : {i : ℕ} → Sought n p i → i < n → p i ≡ true → i ≡ lowest n p
  sought_found {i} h l e = sym (lowest_is n p i l (of_true e) h.none)

  pub sought_end : {i : ℕ} → Sought n p i → n ≤ i → i ≡ lowest n p
  sought_end {i} h l = omega (arith, lowest_none n p (λ j m. h.none j (omega arith)))

-- ---- highest

-- a number that has p, with none above it that has
pub highest_is : (n : ℕ) (p : ℕ → Bool) (i : ℕ) → i < n → T (p i) → ((j : ℕ) → i < j → j < n → T (p j) → ⊥) → highest n p ≡ i
unfolding highest
highest_is zero p i l t u = absurd (not-suc-le-zero l)
highest_is (suc n) p i l t u =
    ⊎_elim (λ (e : i ≡ n). cond_true (p n) n (highest n p) (rw e at t) ∙ sym e)
    (λ (k : i < n).
    cond_false (p n) n (highest n p) (u n k (le_refl (suc n))) ∙ highest_is n p i k t (λ j a b. u j a (omega arith)))
    (below l)

-- 0 where none has p
pub highest_none : (n : ℕ) (p : ℕ → Bool) → ((i : ℕ) → i < n → T (p i) → ⊥) → highest n p ≡ 0
unfolding highest
highest_none zero p h = refl
highest_none (suc n) p h =
    cond_false (p n) n (highest n p) (h n (le_refl (suc n))) ∙ highest_none n p (λ i l. h i (omega arith))

pub highest_lt : (n : ℕ) (p : ℕ → Bool) → 0 < n → highest n p < n
unfolding highest
highest_lt zero p l = absurd (not-suc-le-zero l)
highest_lt (suc n) p l =
    ⊎_elim (λ a. omega (arith, cond_true (p n) n (highest n p) a))
    (λ b. omega (arith, cond_false (p n) n (highest n p) b, at_most n p))
    (decide (p n))
  where
    at_most : (m : ℕ) (q : ℕ → Bool) → highest m q ≤ m
    at_most zero q = zero-le
    at_most (suc m) q =
        ⊎_elim (λ a. omega (arith, cond_true (q m) m (highest m q) a))
        (λ b. omega (arith, cond_false (q m) m (highest m q) b, at_most m q))
        (decide (q m))

-- where some number has p, the one found has
pub highest_has : (n : ℕ) (p : ℕ → Bool) (i : ℕ) → i < n → T (p i) → T (p (highest n p))
unfolding highest
highest_has zero p i l t = absurd (not-suc-le-zero l)
highest_has (suc n) p i l t =
    ⊎_elim (λ a. rw (cond_true (p n) n (highest n p) a) a)
    (λ b. rw (cond_false (p n) n (highest n p) b)
    (highest_has n p i (⊎_elim (λ (e : i ≡ n). absurd (b (rw e at t))) (λ k. k) (below l)) t))
    (decide (p n))

-- no number that has p is above it
pub highest_above : (n : ℕ) (p : ℕ → Bool) (i : ℕ) → i < n → T (p i) → i ≤ highest n p
unfolding highest
highest_above zero p i l t = absurd (not-suc-le-zero l)
highest_above (suc n) p i l t =
    ⊎_elim (λ a. omega (arith, cond_true (p n) n (highest n p) a))
    (λ b. omega (
      arith,
      cond_false (p n) n (highest n p) b,
      highest_above n p i (⊎_elim (λ (e : i ≡ n). absurd (b (rw e at t))) (λ k. k) (below l)) t,
    ))
    (decide (p n))

pub highest_eq : (n : ℕ) (p q : ℕ → Bool) → ((i : ℕ) → i < n → p i ≡ q i) → highest n p ≡ highest n q
unfolding highest
highest_eq zero p q h = refl
highest_eq (suc n) p q h =
    ap₂ (λ (b : Bool) (k : ℕ). cond b n k) (h n (le_refl (suc n))) (highest_eq n p q (λ i l. h i (omega arith)))

-- ---- only

pub only_true : (b : Bool) (x : ℕ) → b ≡ true → only b x ≡ x
unfolding only
only_true b x e = rw e

pub only_false : (b : Bool) (x : ℕ) → b ≡ false → only b x ≡ 0
unfolding only
only_false b x e = rw e

-- x and y need to agree only where b holds
pub only_eq : (b : Bool) (x y : ℕ) → (T b → x ≡ y) → only b x ≡ only b y
unfolding only
only_eq true x y h = h tt
only_eq false x y h = refl

-- where a holds, b holds and x is at most y
pub only_le : (a b : Bool) (x y : ℕ) → (T a → T b) → (T a → x ≤ y) → only a x ≤ only b y
unfolding only
only_le true true x y h k = k tt
only_le true false x y h k = absurd (h tt)
only_le false b x y h k = zero-le

pub only_zero : (b : Bool) → only b 0 ≡ 0
unfolding only
only_zero true = refl
only_zero false = refl

pub only_add : (b : Bool) (x y : ℕ) → only b (x + y) ≡ only b x + only b y
unfolding only
only_add true x y = refl
only_add false x y = refl

pub only_scaled : (b : Bool) (x c : ℕ) → only b (x * c) ≡ only b x * c
unfolding only
only_scaled true x c = refl
only_scaled false x c = omega arith

pub only_comm : (a b : Bool) (x : ℕ) → only a (only b x) ≡ only b (only a x)
unfolding only
only_comm true b x = refl
only_comm false true x = refl
only_comm false false x = refl

pub only_and : (a b : Bool) (x : ℕ) → only (a && b) x ≡ only a (only b x)
unfolding only
only_and true b x = refl
only_and false b x = refl

pub only_or : (a b : Bool) (x : ℕ) → only (a || b) x ≤ only a x + only b x
unfolding only
only_or true b x = omega arith
only_or false b x = omega arith

pub only_not : (b : Bool) (x : ℕ) → only (not b) x + only b x ≡ x
unfolding only
only_not true x = omega arith
only_not false x = omega arith

-- ---- relations that pass to sums

-- a and b differ by a multiple of h
abbrev pub Cong : ℕ → ℕ → ℕ → Type 0
Cong h a b = (p : ℕ) × (q : ℕ) × (a + p * h ≡ b + q * h)

-- Every number has R to itself, and R passes to sums. The sums are named by equations, so that `omega` regroups them.
pub record Additive (R : ℕ → ℕ → Type 0) : Type 0 where
  pub same : (a : ℕ) → R a a
  pub more : (a b c d s t : ℕ) → R a b → R c d → s ≡ a + c → t ≡ b + d → R s t

pub eq_additive : Additive (λ a b. a ≡ b)
eq_additive = record { same = λ a. refl; more = λ a b c d s t h k p q. omega arith }

pub le_additive : Additive ◌≤◌
le_additive = record { same = λ a. le_refl a; more = λ a b c d s t h k p q. omega arith }

pub cong_additive : (h : ℕ) → Additive (Cong h)
cong_additive h = record { same = λ a. (0, 0, refl); more = λ a b c d s t k m p q. (k.0 + m.0, k.1 + m.1, omega arith) }

pub cong_sym : (h a b : ℕ) → Cong h a b → Cong h b a
cong_sym h a b c = (c.1, c.0, sym c.2)

-- a multiple of h
pub cong_zero : (h x : ℕ) → x % h ≡ 0 → Cong h x 0
cong_zero h x m = (0, x / h, omega (arith, mod-add-div' x h))

pub zero_of_cong : (h x : ℕ) → Cong h x 0 → x % h ≡ 0
zero_of_cong h x c =
    sym (add-mul-mod_self_right x c.0 h) ∙ ap (λ (k : ℕ). k % h) c.2 ∙ add-mul-mod_self_right 0 c.1 h ∙ zero-mod h

module _ (R : ℕ → ℕ → Type 0) (A : Additive R) where
  pub sum_rel : (n : ℕ) (g h : ℕ → ℕ) → ((i : ℕ) → i < n → R (g i) (h i)) → R (sum n g) (sum n h)
  unfolding sum
  sum_rel zero g h r = A.same 0
  sum_rel (suc n) g h r = A.more _ _ _ _ _ _ (sum_rel n g h (λ i l. r i (omega arith))) (r n (le_refl (suc n))) refl refl

  -- the terms are related but for one, i: then so are the sums, with that one put on the other side
  pub sum_but : (n : ℕ) (g h : ℕ → ℕ) (i : ℕ) → i < n → ((j : ℕ) → j < n → j ≢ i → R (g j) (h j)) → R (sum n g + h i) (sum n h + g i)
  unfolding sum
  sum_but zero g h i l r = absurd (not-suc-le-zero l)
  sum_but (suc n) g h i l r =
      ⊎_elim
      (λ (q : i ≡ n).
      let gi : g i ≡ g n = ap g q in
      let hi : h i ≡ h n = ap h q in
      A.more _ _ _ _ _ _ (sum_rel n g h (λ j k. r j (omega arith) (omega arith))) (A.same (g n + h n)) (omega arith) (omega arith))
      (λ (k : i < n).
      A.more _ _ _ _ _ _ (sum_but n g h i k (λ j m. r j (omega arith))) (r n (le_refl (suc n)) (omega arith)) (omega arith) (omega arith))
      (below l)

pub sum_eq : (n : ℕ) (g h : ℕ → ℕ) → ((i : ℕ) → i < n → g i ≡ h i) → sum n g ≡ sum n h
sum_eq = sum_rel (λ a b. a ≡ b) eq_additive

pub sum_le : (n : ℕ) (g h : ℕ → ℕ) → ((i : ℕ) → i < n → g i ≤ h i) → sum n g ≤ sum n h
sum_le = sum_rel ◌≤◌ le_additive

-- one term is x more
pub sum_bump : (n : ℕ) (g h : ℕ → ℕ) (i x : ℕ) → i < n → ((j : ℕ) → j < n → j ≢ i → h j ≡ g j) → h i ≡ g i + x → sum n h ≡ sum n g + x
sum_bump n g h i x l o e = omega (arith, sum_but (λ a b. a ≡ b) eq_additive n h g i l o)

-- one term is at least x more
pub sum_one : (n : ℕ) (g h : ℕ → ℕ) (i x : ℕ) → i < n → ((j : ℕ) → j < n → j ≢ i → g j ≤ h j) → g i + x ≤ h i → sum n g + x ≤ sum n h
sum_one n g h i x l o e = omega (arith, sum_but ◌≤◌ le_additive n g h i l o)

-- ---- sums

pub sum_next : (n : ℕ) (g : ℕ → ℕ) → sum (n + 1) g ≡ sum n g + g n
unfolding sum
sum_next n g = rw add-one

pub sum_split : (n m : ℕ) (g : ℕ → ℕ) → sum (n + m) g ≡ sum n g + sum m (λ i. g (n + i))
unfolding sum
sum_split n zero g = rw (add-zero n) (omega arith)
sum_split n (suc m) g = rw add-suc (omega (arith, sum_split n m g))

pub sum_mono : (m n : ℕ) (g : ℕ → ℕ) → m ≤ n → sum m g ≤ sum n g
sum_mono m n g l =
    let e : m + (n - m) ≡ n = omega arith in
    omega (arith, sum_split m (n - m) g, ap (λ (k : ℕ). sum k g) e)

-- each term is at most the sum
pub sum_term : (n : ℕ) (g : ℕ → ℕ) (i : ℕ) → i < n → g i ≤ sum n g
unfolding sum
sum_term n g i l = omega (arith, sum_mono (suc i) n g l)

pub sum_add : (n : ℕ) (g h : ℕ → ℕ) → sum n (λ i. g i + h i) ≡ sum n g + sum n h
unfolding sum
sum_add zero g h = refl
sum_add (suc n) g h = omega (arith, sum_add n g h)

pub sum_scaled : (n : ℕ) (g : ℕ → ℕ) (c : ℕ) → sum n (λ i. g i * c) ≡ sum n g * c
unfolding sum
sum_scaled zero g c = omega arith
sum_scaled (suc n) g c = omega (arith, sum_scaled n g c)

pub sum_const : (n c : ℕ) → sum n (λ i. c) ≡ n * c
unfolding sum
sum_const zero c = omega arith
sum_const (suc n) c = omega (arith, sum_const n c)

pub sum_zero : (n : ℕ) (g : ℕ → ℕ) → ((i : ℕ) → i < n → g i ≡ 0) → sum n g ≡ 0
sum_zero n g h = omega (arith, sum_eq n g (λ i. 0) h, sum_const n 0)

-- a table's sum by rows and by columns
pub sum_swap : (m n : ℕ) (a : ℕ → ℕ → ℕ) → sum m (λ t. sum n (λ j. a j t)) ≡ sum n (λ j. sum m (λ t. a j t))
unfolding sum
sum_swap zero n a = sym (sum_zero n (λ j. 0) (λ j l. refl))
sum_swap (suc m) n a = omega (arith, sum_swap m n a, sum_add n (λ j. sum m (λ t. a j t)) (λ j. a j m))

-- ---- sums over a set

-- the same set, and terms that agree on it
pub sum_in_eq : (n : ℕ) (D E : ℕ → Bool) (g h : ℕ → ℕ) → ((i : ℕ) → i < n → D i ≡ E i) → ((i : ℕ) → i < n → T (D i) → g i ≡ h i)
    → sum_in n D g ≡ sum_in n E h
sum_in_eq n D E g h d e =
    sum_eq n (λ i. only (D i) (g i)) (λ i. only (E i) (h i))
    (λ i l. only_eq (D i) (g i) (h i) (e i l) ∙ ap (λ (b : Bool). only b (h i)) (d i l))

pub sum_in_add : (n : ℕ) (D : ℕ → Bool) (g h : ℕ → ℕ) → sum_in n D (λ i. g i + h i) ≡ sum_in n D g + sum_in n D h
sum_in_add n D g h =
    sum_eq n (λ i. only (D i) (g i + h i)) (λ i. only (D i) (g i) + only (D i) (h i)) (λ i l. only_add (D i) (g i) (h i))
    ∙ sum_add n (λ i. only (D i) (g i)) (λ i. only (D i) (h i))

pub sum_in_scaled : (n : ℕ) (D : ℕ → Bool) (g : ℕ → ℕ) (c : ℕ) → sum_in n D (λ i. g i * c) ≡ sum_in n D g * c
sum_in_scaled n D g c =
    sum_eq n (λ i. only (D i) (g i * c)) (λ i. only (D i) (g i) * c) (λ i l. only_scaled (D i) (g i) c)
    ∙ sum_scaled n (λ i. only (D i) (g i)) c

only_under : (b : Bool) (x c : ℕ) → x ≤ c → only b x ≤ c
only_under true x c l = omega (arith, only_true true x refl)
only_under false x c l = omega (arith, only_false false x refl)

pub sum_in_most : (n : ℕ) (D : ℕ → Bool) (g : ℕ → ℕ) (c : ℕ) → ((i : ℕ) → i < n → g i ≤ c) → sum_in n D g ≤ n * c
sum_in_most n D g c h =
    omega (arith, sum_le n (λ i. only (D i) (g i)) (λ i. c) (λ i l. only_under (D i) (g i) c (h i l)), sum_const n c)

-- ---- counts: count n p is sum_in n p (λ i. 1), so the laws of sums hold for it

pub count_eq : (n : ℕ) (p q : ℕ → Bool) → ((i : ℕ) → i < n → p i ≡ q i) → count n p ≡ count n q
count_eq n p q h = sum_in_eq n p q (λ i. 1) (λ i. 1) h (λ i l t. refl)

pub count_mono : (m n : ℕ) (p : ℕ → Bool) → m ≤ n → count m p ≤ count n p
count_mono m n p = sum_mono m n (λ i. only (p i) 1)

pub count_split : (n m : ℕ) (p : ℕ → Bool) → count (n + m) p ≡ count n p + count m (λ i. p (n + i))
count_split n m p = sum_split n m (λ i. only (p i) 1)

pub count_not : (n : ℕ) (p : ℕ → Bool) → count n (λ i. not (p i)) + count n p ≡ n
unfolding sum
count_not zero p = refl
count_not (suc n) p = omega (arith, count_not n p, only_not (p n) 1)

pub count_le : (n : ℕ) (p : ℕ → Bool) → count n p ≤ n
count_le n p = omega (arith, count_not n p)

pub count_all : (n : ℕ) (p : ℕ → Bool) → ((i : ℕ) → i < n → T (p i)) → count n p ≡ n
count_all n p h =
    sum_eq n (λ i. only (p i) 1) (λ i. 1) (λ i l. only_true (p i) 1 (is_true (p i) (h i l))) ∙ omega (arith, sum_const n 1)

pub count_none : (n : ℕ) (p : ℕ → Bool) → ((i : ℕ) → i < n → T (p i) → ⊥) → count n p ≡ 0
count_none n p h = sum_zero n (λ i. only (p i) 1) (λ i l. only_false (p i) 1 (is_false (p i) (h i l)))

-- a search finds no more than there are
pub any_le : (n : ℕ) (p : ℕ → Bool) → only (any n p) 1 ≤ count n p
unfolding any sum only
any_le zero p = zero-le
any_le (suc n) p = omega (arith, any_le n p, only_or (any n p) (p n) 1)

take_step : (a b : Bool) (c d x : ℕ) → c ≡ min x d → b ≡ ltb d x → c + only (a && b) 1 ≡ min x (d + only a 1)
unfolding only
take_step true true c d x h e = omega (arith, ltb-true d x (sym e))
take_step true false c d x h e = omega (arith, ltb-false d x (sym e))
take_step false b c d x h e = omega arith

-- the first x of the numbers that have p
pub count_take : (n : ℕ) (p : ℕ → Bool) (x : ℕ) → count n (λ t. p t && ltb (count t p) x) ≡ min x (count n p)
unfolding sum
count_take zero p x = omega arith
count_take (suc n) p x =
    take_step (p n) (ltb (count n p) x) (count n (λ t. p t && ltb (count t p) x)) (count n p) x (count_take n p x) refl

-- a number is met at most once
pub count_eqb : (n x : ℕ) → count n (eqb x) ≤ 1
unfolding sum
count_eqb zero x = omega arith
count_eqb (suc n) x =
    ⊎_elim
    (λ t. let q : x ≡ n = eqb→eq x n t in
    omega (arith, count_none n (eqb x) (λ y l u. omega (arith, eqb→eq x y u)), only_true (eqb x n) 1 (is_true (eqb x n) t)))
    (λ t. omega (arith, count_eqb n x, only_false (eqb x n) 1 (is_false (eqb x n) t)))
    (decide (eqb x n))

-- ---- largest

module _ (g : ℕ → ℕ) where
  pub largest_next : (n : ℕ) → largest (n + 1) g ≡ max (largest n g) (g n)
  unfolding largest
  largest_next n = rw add-one

  pub largest_above : (n i : ℕ) → i < n → g i ≤ largest n g
  unfolding largest
  largest_above zero i l = absurd (not-suc-le-zero l)
  largest_above (suc n) i l =
      ⊎_elim (λ (e : i ≡ n). omega (arith, ap g e)) (λ k. omega (arith, largest_above n i k)) (below l)

  pub largest_under : (n b : ℕ) → ((i : ℕ) → i < n → g i ≤ b) → largest n g ≤ b
  unfolding largest
  largest_under zero b h = omega arith
  largest_under (suc n) b h = omega (arith, largest_under n b (λ i l. h i (omega arith)), h n (omega arith))

pub largest_eq : (n : ℕ) (g h : ℕ → ℕ) → ((i : ℕ) → i < n → g i ≡ h i) → largest n g ≡ largest n h
unfolding largest
largest_eq zero g h e = refl
largest_eq (suc n) g h e = ap₂ max (largest_eq n g h (λ i l. e i (omega arith))) (e n (omega arith))

-- ---- finitely many decided facts

-- all hold, or one does not
pub all_or_one : (P : ℕ → Type 0) (n : ℕ) → ((i : ℕ) → i < n → Dec (P i)) → ((i : ℕ) → i < n → P i) ⊎ ((i : ℕ) × (i < n) × ¬ P i)
all_or_one P zero d = inl (λ i l. absurd (omega arith))
all_or_one P (suc n) d = go (all_or_one P n (λ i l. d i (omega arith))) (d n (omega arith))
  where
    go : ((i : ℕ) → i < n → P i) ⊎ ((i : ℕ) × (i < n) × ¬ P i) → Dec (P n)
        → ((i : ℕ) → i < suc n → P i) ⊎ ((i : ℕ) × (i < suc n) × ¬ P i)
    go (inl a) (yes p) = inl (λ i l. below_more P n a p i (rw add-one l))
    go (inl a) (no f) = inr (n, omega arith, f)
    go (inr w) d = inr (w.0, omega (arith, w.1), w.2)
