-- The numbers that pass a test, in ascending order.
--
--   one b x        the list of x alone where b holds, else the empty list
--   keep p e       the numbers below e that have p, in ascending order
use mathlib.Core.Path.{◌≡◌, refl, sym, ap, ◌∙◌, subst}
use mathlib.Core.Logic.{◌⊎◌, inl, inr, ⊎_elim}
use mathlib.Core.List.{List, [], ◌∷◌, ◌++◌, map, append-nil}
use mathlib.Core.Bool.{Bool, true, false}
use Prim.Native.Nat.{ℕ, zero, suc, ◌<◌}
use native.Mathlib.Nat.{not-suc-le-zero}
use native.Mathlib.Omega.{arith}
use lib.Dec.{T}
use lib.ListN.{length, length-append, get_or-append}
use lib.Seq.{get_or-append_seam}
use Rattle.numbers.specs.Finite.{only, sum, count}
use Rattle.numbers.specs.Lists.{at}
use Rattle.numbers.proofs.Finite.{below}

abbrev pub one : Bool → ℕ → List ℕ
one true x = x ∷ []
one false x = []

unfoldable pub keep : (ℕ → Bool) → ℕ → List ℕ
keep p zero = []
keep p (suc e) = keep p e ++ one (p e) e

-- an element of a list to which x is added at the end if b
one_cases : (b : Bool) (xs : List ℕ) (x k : ℕ) → k < length (xs ++ one b x)
    → ((k < length xs) × (at (xs ++ one b x) k ≡ at xs k)) ⊎ (T b × (k ≡ length xs) × (at (xs ++ one b x) k ≡ x))
one_cases true xs x k h =
    ⊎_elim
    (λ (e : k ≡ length xs). inr (tt, e, rw e (get_or-append_seam xs x [] 0)))
    (λ l. inl (l, get_or-append xs (x ∷ []) 0 k l))
    (below (let g : k < suc (length xs) = omega (arith, length-append xs (x ∷ [])) in g))
one_cases false xs x k h = inl (rw append-nil at h, ap (λ (l : List ℕ). at l k) (append-nil xs))

pub one_length : (b : Bool) (x : ℕ) → length (one b x) ≡ only b 1
unfolding only
one_length true x = refl
one_length false x = refl

module _ (p : ℕ → Bool) where
  pub keep_each : (e k : ℕ) → k < length (keep p e) → T (p (at (keep p e) k)) × (at (keep p e) k < e)
  unfolding keep
  keep_each zero k h = absurd (not-suc-le-zero h)
  keep_each (suc e) k h =
      ⊎_elim
      (λ a. let ih = keep_each e k a.0 in (subst (λ (x : ℕ). T (p x)) (sym a.1) ih.0, omega (arith, a.1, ih.1)))
      (λ a. (subst (λ (x : ℕ). T (p x)) (sym a.2) a.0, omega (arith, a.2)))
      (one_cases (p e) (keep p e) e k h)

  pub keep_order : (e k l : ℕ) → k < l → l < length (keep p e) → at (keep p e) k < at (keep p e) l
  unfolding keep
  keep_order zero k l h m = absurd (not-suc-le-zero m)
  keep_order (suc e) k l h m =
      ⊎_elim
      (λ a. omega (arith, keep_order e k l h a.0, get_or-append (keep p e) (one (p e) e) 0 k (omega (arith, a.0)), a.1))
      (λ a. let i : k < length (keep p e) = omega (arith, a.1) in
      omega (arith, (keep_each e k i).1, get_or-append (keep p e) (one (p e) e) 0 k i, a.2))
      (one_cases (p e) (keep p e) e l m)

  pub keep_all : (e x : ℕ) → x < e → T (p x) → (k : ℕ) × (k < length (keep p e)) × (at (keep p e) k ≡ x)
  unfolding keep
  keep_all zero x h t = absurd (not-suc-le-zero h)
  keep_all (suc e) x h t =
      ⊎_elim
      (λ (q : x ≡ e). last (p e) (rw q at t) q)
      (λ l. let r = keep_all e x l t in
      (r.0, omega (arith, length-append (keep p e) (one (p e) e), r.1), get_or-append (keep p e) (one (p e) e) 0 r.0 r.1 ∙ r.2))
      (below h)
    where
      last : (b : Bool) → T b → x ≡ e → (k : ℕ) × (k < length (keep p e ++ one b e)) × (at (keep p e ++ one b e) k ≡ x)
      last true u q = (length (keep p e), omega (arith, length-append (keep p e) (e ∷ [])), get_or-append_seam (keep p e) e [] 0 ∙ sym q)
      last false u q = absurd u

  pub keep_length : (e : ℕ) → length (keep p e) ≡ count e p
  unfolding keep sum
  keep_length zero = refl
  keep_length (suc e) = omega (arith, keep_length e, length-append (keep p e) (one (p e) e), one_length (p e) e)

pub map_one : (g : ℕ → ℕ) (xs : List ℕ) (b : Bool) (x : ℕ) → map g (xs ++ one b x) ≡ map g xs ++ one b (g x)
map_one g [] true x = refl
map_one g [] false x = refl
map_one g (y ∷ ys) b x = ap {B = List ℕ} (λ r. g y ∷ r) (map_one g ys b x)
