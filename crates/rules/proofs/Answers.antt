-- What numbers and places answer a list of checks: how the answer goes through lists that are joined, and that there is only one.
--
--   None cs            no check of cs applies
--   Numbered cs        every check of cs has a number above 0
use mathlib.Core.Path.{◌≡◌, refl, sym, ◌∙◌}
use mathlib.Core.Logic.{inl, inr, ⊎_elim, ◌≢◌, ◌⊎◌}
use mathlib.Core.List.{List, [], ◌∷◌, ◌++◌}
use Prim.Native.Nat.{ℕ, zero, suc, ◌+◌, ◌<◌, ◌≤◌}
use native.Mathlib.Nat.{not-suc-le-zero, le_refl, le_of_suc-le-suc}
use native.Mathlib.Numerals.{add-one}
use native.Mathlib.Omega.{arith}
use lib.ListN.{length, get_or}
use Rattle.numbers.specs.Lists.{each}
use Rattle.numbers.proofs.Finite.{below}
use Rattle.rules.specs.Refusals.{Check, Answers, refuse}

unfoldable pub None : List Check → Type 0
None [] = Unit {0}
None (c ∷ cs) = (c.applies → ⊥) × None cs

unfoldable pub Numbered : List Check → Type 0
Numbered [] = Unit {0}
Numbered (c ∷ cs) = (c.number ≢ 0) × Numbered cs

-- ---- one check

module _ (c : Check) (cs : List Check) (n p : ℕ) where
  pub applied : c.applies → n ≡ c.number → p ≡ c.place → Answers (c ∷ cs) n p
  unfolding Answers
  applied a e q = inl (a, e, q)

  pub passed : (c.applies → ⊥) → Answers cs n p → Answers (c ∷ cs) n p
  unfolding Answers
  passed a r = inr (a, r)

pub done : Answers [] 0 0
unfolding Answers
done = (refl, refl)

-- ---- lists of checks that are joined

-- a refusal by the first list stands
pub stopped : (cs ds : List Check) (n p : ℕ) → n ≢ 0 → Answers cs n p → Answers (cs ++ ds) n p
unfolding Answers
stopped [] ds n p h (e, q) = absurd (h e)
stopped (c ∷ cs) ds n p h r =
    ⊎_elim (λ w. inl w) (λ w. inr (w.0, stopped cs ds n p h w.1)) r

-- and where it gives none, the second list decides
pub joined : (cs ds : List Check) (n p : ℕ) → None cs → Answers ds n p → Answers (cs ++ ds) n p
unfolding Answers None
joined [] ds n p a r = r
joined (c ∷ cs) ds n p a r = inr (a.0, joined cs ds n p a.1 r)

pub unjoined : (cs ds : List Check) (n p : ℕ) → None cs → Answers (cs ++ ds) n p → Answers ds n p
unfolding Answers None
unjoined [] ds n p a r = r
unjoined (c ∷ cs) ds n p a r = ⊎_elim (λ w. absurd (a.0 w.0)) (λ w. unjoined cs ds n p a.1 w.1) r

-- ---- no check applies

pub answered : (cs : List Check) → None cs → Answers cs 0 0
unfolding Answers None
answered [] a = (refl, refl)
answered (c ∷ cs) a = inr (a.0, answered cs a.1)

pub none_of : (cs : List Check) (p : ℕ) → Numbered cs → Answers cs 0 p → None cs
unfolding Answers None Numbered
none_of [] p m r = tt
none_of (c ∷ cs) p m r = ⊎_elim (λ w. absurd (m.0 (sym w.1))) (λ w. (w.0, none_of cs p m.1 w.1)) r

pub none_join : (cs ds : List Check) → None cs → None ds → None (cs ++ ds)
unfolding None
none_join [] ds a b = b
none_join (c ∷ cs) ds a b = (a.0, none_join cs ds a.1 b)

pub none_left : (cs ds : List Check) → None (cs ++ ds) → None cs
unfolding None
none_left [] ds a = tt
none_left (c ∷ cs) ds a = (a.0, none_left cs ds a.1)

pub none_right : (cs ds : List Check) → None (cs ++ ds) → None ds
unfolding None
none_right [] ds a = a
none_right (c ∷ cs) ds a = none_right cs ds a.1

pub numbered_join : (cs ds : List Check) → Numbered cs → Numbered ds → Numbered (cs ++ ds)
unfolding Numbered
numbered_join [] ds a b = b
numbered_join (c ∷ cs) ds a b = (a.0, numbered_join cs ds a.1 b)

-- ---- checks for each of several

module _ (f : ℕ → List Check) where
  pub none_each : (n : ℕ) → ((i : ℕ) → i < n → None (f i)) → None (each n f)
  unfolding each None
  none_each zero h = tt
  none_each (suc n) h = none_join (each n f) (f n) (none_each n (λ i l. h i (omega arith))) (h n (le_refl (suc n)))

  pub none_at : (n i : ℕ) → i < n → None (each n f) → None (f i)
  unfolding each
  none_at zero i l a = absurd (not-suc-le-zero l)
  none_at (suc n) i l a =
      ⊎_elim (λ (e : i ≡ n). rw e (none_right (each n f) (f n) a)) (λ k. none_at n i k (none_left (each n f) (f n) a)) (below l)

  -- one more passes
  pub none_next : (n : ℕ) → None (each n f) → None (f n) → None (each (n + 1) f)
  unfolding each
  none_next n a b = rw add-one (none_join (each n f) (f n) a b)

  pub numbered_each : (n : ℕ) → ((i : ℕ) → Numbered (f i)) → Numbered (each n f)
  unfolding each Numbered
  numbered_each zero h = tt
  numbered_each (suc n) h = numbered_join (each n f) (f n) (numbered_each n h) (h n)

  -- the first of several that refuses
  pub stopped_at : (n i m p : ℕ) → i < n → m ≢ 0 → None (each i f) → Answers (f i) m p → Answers (each n f) m p
  unfolding each
  stopped_at zero i m p l h a r = absurd (not-suc-le-zero l)
  stopped_at (suc n) i m p l h a r =
      ⊎_elim (λ (e : i ≡ n). joined (each n f) (f n) m p (rw e at a) (rw e at r))
      (λ k. stopped (each n f) (f n) m p h (stopped_at n i m p k h a r)) (below l)

-- ---- only one answer fits

pub answers_only : (cs : List Check) (m n p q : ℕ) → Answers cs m p → Answers cs n q → (m ≡ n) × (p ≡ q)
unfolding Answers
answers_only [] m n p q (a, b) (c, d) = (a ∙ sym c, b ∙ sym d)
answers_only (c ∷ cs) m n p q r s =
    ⊎_elim
    (λ a. ⊎_elim (λ b. (a.1 ∙ sym b.1, a.2 ∙ sym b.2)) (λ b. absurd (b.0 a.0)) s)
    (λ a. ⊎_elim (λ b. absurd (a.0 b.0)) (λ b. answers_only cs m n p q a.1 b.1) s)
    r

-- ---- how large number and place can be

-- the first list refuses, or it gives none and the second decides
pub answers_split : (cs ds : List Check) (n p : ℕ) → Answers (cs ++ ds) n p → Answers cs n p ⊎ (None cs × Answers ds n p)
unfolding Answers None
answers_split [] ds n p r = inr (tt, r)
answers_split (c ∷ cs) ds n p r =
    ⊎_elim (λ w. inl (inl w))
    (λ w. ⊎_elim (λ a. inl (inr (w.0, a))) (λ a. inr ((w.0, a.0), a.1)) (answers_split cs ds n p w.1))
    r

-- every check of cs has a number up to b and a place up to d
unfoldable pub Fit : ℕ → ℕ → List Check → Type 0
Fit b d [] = Unit {0}
Fit b d (c ∷ cs) = (c.number ≤ b) × (c.place ≤ d) × Fit b d cs

pub answers_fit : (b d : ℕ) (cs : List Check) (n p : ℕ) → Fit b d cs → Answers cs n p → (n ≤ b) × (p ≤ d)
unfolding Answers Fit
answers_fit b d [] n p f r = (omega (arith, r.0), omega (arith, r.1))
answers_fit b d (c ∷ cs) n p f r =
    ⊎_elim (λ w. (omega (arith, w.1, f.0), omega (arith, w.2, f.1))) (λ w. answers_fit b d cs n p f.2 w.1) r

pub fit_join : (b d : ℕ) (cs ds : List Check) → Fit b d cs → Fit b d ds → Fit b d (cs ++ ds)
unfolding Fit
fit_join b d [] ds f g = g
fit_join b d (c ∷ cs) ds f g = (f.0, f.1, fit_join b d cs ds f.2 g)

pub fit_each : (b d : ℕ) (f : ℕ → List Check) (n : ℕ) → ((i : ℕ) → i < n → Fit b d (f i)) → Fit b d (each n f)
unfolding each Fit
fit_each b d f zero h = tt
fit_each b d f (suc n) h = fit_join b d (each n f) (f n) (fit_each b d f n (λ i l. h i (omega arith))) (h n (le_refl (suc n)))

-- ---- one check for each of several

module _ (c : ℕ → Check) where
  pub single_none : (n : ℕ) → ((i : ℕ) → i < n → (c i).applies → ⊥) → None (each n (λ i. c i ∷ []))
  unfolding None
  single_none n h = none_each (λ i. c i ∷ []) n (λ i l. (h i l, tt))

  pub none_single : (n : ℕ) → None (each n (λ i. c i ∷ [])) → (i : ℕ) → i < n → (c i).applies → ⊥
  unfolding None
  none_single n a i l = (none_at (λ i. c i ∷ []) n i l a).0

  pub single_numbered : (n : ℕ) → ((i : ℕ) → (c i).number ≢ 0) → Numbered (each n (λ i. c i ∷ []))
  unfolding Numbered
  single_numbered n h = numbered_each (λ i. c i ∷ []) n (λ i. (h i, tt))

  -- the lowest that applies
  pub single_stopped : (n i : ℕ) → i < n → (c i).number ≢ 0 → ((j : ℕ) → j < i → (c j).applies → ⊥) → (c i).applies
      → Answers (each n (λ i. c i ∷ [])) (c i).number (c i).place
  single_stopped n i l h u a =
      stopped_at (λ i. c i ∷ []) n i (c i).number (c i).place l h (single_none i u)
      (applied (c i) [] (c i).number (c i).place a refl refl)

-- ---- the checks of a list, by position

pub none_position : (cs : List Check) → None cs → (k : ℕ) → k < length cs → (get_or cs k (refuse 0 0 ⊥)).applies → ⊥
unfolding None
none_position [] a k l = absurd (not-suc-le-zero l)
none_position (c ∷ cs) a zero l = a.0
none_position (c ∷ cs) a (suc k) l = none_position cs a.1 k (le_of_suc-le-suc l)

pub position_none : (cs : List Check) → ((k : ℕ) → k < length cs → (get_or cs k (refuse 0 0 ⊥)).applies → ⊥) → None cs
unfolding None
position_none [] h = tt
position_none (c ∷ cs) h = (h 0 (omega arith), position_none cs (λ k l. h (suc k) (omega arith)))
