-- The scan of the slots for one row: while load is left it takes each slot that is free. P j u says that row j has slot u.
--
--   within s e u              slot u is one of those from s up to e
--   Scan l P₀ p i k s left P  row i, with load k, has taken its slots of those below s that have p, and `left` of its load is left;
--                             P₀ says who had which slot when the scan began
--   scan_start, scan_skip, scan_take, scan_end
--                             the scan begins, past slots that are not free; a stretch is passed, or taken whole; the scan is over, at
--                             the last slot or with no load left
use mathlib.Core.Path.{◌≡◌, refl, sym, ap, ◌∙◌}
use mathlib.Core.Logic.{◌⊎◌, inl, inr, ⊎_elim}
use mathlib.Core.Bool.{Bool, true, false, ◌&&◌, ◌||◌, or-false, and-false}
use Prim.Native.Nat.{ℕ, ◌+◌, ◌-◌, ◌≤◌, ◌<◌}
use native.Mathlib.Omega.{arith}
use lib.Dec.{T, ltb, leb, eqb, ltb→lt, lt→ltb, leb→le, le→leb}
use Rattle.numbers.specs.Finite.{count}
use Rattle.numbers.proofs.Truth.{both, fst, snd, orl, orr, or_cases, same, is_false, of_true, of_false, le_or_lt}
use Rattle.numbers.proofs.Finite.{count_take, count_mono, count_split, count_le, count_all, count_none}
use Rattle.placing.proofs.Upto.{chosen}

abbrev pub within : ℕ → ℕ → ℕ → Bool
within s e u = leb s u && ltb u e

pub within_is : (s e u : ℕ) → T (within s e u) → (s ≤ u) × (u < e)
within_is s e u h = (leb→le s u (fst (leb s u) (ltb u e) h), ltb→lt u e (snd (leb s u) (ltb u e) h))

pub within_of : (s e u : ℕ) → s ≤ u → u < e → T (within s e u)
within_of s e u a b = both (leb s u) (ltb u e) (le→leb s u a) (lt→ltb u e b)

abbrev up_to : (ℕ → Bool) → ℕ → ℕ → ℕ → Bool
up_to p k s u = ltb u s && chosen p k u

up_to_of : (p : ℕ → Bool) (k s u : ℕ) → u < s → T (chosen p k u) → T (up_to p k s u)
up_to_of p k s u h c = both (ltb u s) (chosen p k u) (lt→ltb u s h) c

up_to_lt : (p : ℕ → Bool) (k s u : ℕ) → T (up_to p k s u) → u < s
up_to_lt p k s u h = ltb→lt u s (fst (ltb u s) (chosen p k u) h)

up_to_chosen : (p : ℕ → Bool) (k s u : ℕ) → T (up_to p k s u) → T (chosen p k u)
up_to_chosen p k s u h = snd (ltb u s) (chosen p k u) h

-- those below e are those below s and those from s up to e
count_upto : (s e : ℕ) (q : ℕ → Bool) → s ≤ e → count e q ≡ count s q + count (e - s) (λ u. q (s + u))
count_upto s e q h = ap (λ (n : ℕ). count n q) (let z : e ≡ s + (e - s) = omega arith in z) ∙ count_split s (e - s) q

pub record Scan (l : ℕ) (P₀ : ℕ → ℕ → Bool) (p : ℕ → Bool) (i k s left : ℕ) (P : ℕ → ℕ → Bool) : Type 0 where
  pub had : (j u : ℕ) → u < l → P j u ≡ (P₀ j u || (eqb j i && up_to p k s u))
  pub rest : left + count s (chosen p k) ≡ k

module _ {l : ℕ} {P₀ : ℕ → ℕ → Bool} {p : ℕ → Bool} {i k : ℕ} where
  pub scan_start : (s : ℕ) → ((u : ℕ) → u < s → p u ≡ false) → Scan l P₀ p i k s k P₀
  scan_start s none = record {
    had = λ j u m.
        sym (ap (λ (b : Bool). P₀ j u || (eqb j i && b))
        (is_false (up_to p k s u) (λ t. barred u (up_to_lt p k s u t) (up_to_chosen p k s u t)))
        ∙ ap (λ (b : Bool). P₀ j u || b) (and-false (eqb j i)) ∙ or-false (P₀ j u));
    rest = omega (arith, count_none s (chosen p k) barred);
  }
    where
      barred : (u : ℕ) → u < s → T (chosen p k u) → ⊥
      barred u h t = of_false (none u h) (fst (p u) (ltb (count u p) k) t)

  module _ {s left : ℕ} {P : ℕ → ℕ → Bool} (S : Scan l P₀ p i k s left P) {e : ℕ} (on : s ≤ e) where
    pub scan_skip : ((u : ℕ) → s ≤ u → u < e → p u ≡ false) → Scan l P₀ p i k e left P
    scan_skip none = record {
      had = λ j u m.
          S.had j u m
          ∙ ap (λ (b : Bool). P₀ j u || (eqb j i && b))
          (same (up_to p k s u) (up_to p k e u)
          (λ t. up_to_of p k e u (omega (arith, up_to_lt p k s u t)) (up_to_chosen p k s u t))
          (λ t. up_to_of p k s u
          (⊎_elim (λ a. absurd (barred u a (up_to_lt p k e u t) (up_to_chosen p k e u t))) (λ a. a) (le_or_lt s u)) (up_to_chosen p k e u t)));
      rest =
          omega (
            arith,
            S.rest,
            count_upto s e (chosen p k) on,
            count_none (e - s) (λ u. chosen p k (s + u)) (λ u h. barred (s + u) (omega arith) (omega arith)),
          );
    }
      where
        barred : (u : ℕ) → s ≤ u → u < e → T (chosen p k u) → ⊥
        barred u a b t = of_false (none u a b) (fst (p u) (ltb (count u p) k) t)

    pub scan_take : {Q : ℕ → ℕ → Bool} → e - s ≤ left → ((u : ℕ) → s ≤ u → u < e → p u ≡ true)
        → ((j u : ℕ) → u < l → Q j u ≡ (P j u || (within s e u && eqb j i)))
        → Scan l P₀ p i k e (left - (e - s)) Q
    scan_take few all put = record {
      had = λ j u m.
          put j u m ∙ ap (λ (b : Bool). b || (within s e u && eqb j i)) (S.had j u m)
          ∙ merge (P₀ j u) (eqb j i) (up_to p k s u) (within s e u) (up_to p k e u)
          (λ t. up_to_of p k e u (omega (arith, up_to_lt p k s u t)) (up_to_chosen p k s u t))
          (λ t. let w = within_is s e u t in up_to_of p k e u w.1 (taken u w.0 w.1))
          (λ t. ⊎_elim (λ a. inr (within_of s e u a (up_to_lt p k e u t)))
          (λ a. inl (up_to_of p k s u a (up_to_chosen p k e u t))) (le_or_lt s u));
      rest =
          omega (
            arith,
            S.rest,
            count_upto s e (chosen p k) on,
            count_all (e - s) (λ u. chosen p k (s + u)) (λ u h. taken (s + u) (omega arith) (omega arith)),
          );
    }
      where
        taken : (u : ℕ) → s ≤ u → u < e → T (chosen p k u)
        taken u a b =
            both (p u) (ltb (count u p) k) (of_true (all u a b))
            (lt→ltb (count u p) k
            (omega (arith, S.rest, count_take s p k, count_upto s u p a, count_le (u - s) (λ v. p (s + v)))))

        merge : (m j a b c : Bool) → (T a → T c) → (T b → T c) → (T c → T a ⊎ T b) → ((m || (j && a)) || (b && j)) ≡ (m || (j && c))
        merge true j a b c f g h = refl
        merge false false a b c f g h = and-false b
        merge false true a b c f g h =
            same (a || (b && true)) c
            (λ w. ⊎_elim f (λ v. g (fst b true v)) (or_cases a (b && true) w))
            (λ w. ⊎_elim (orl a (b && true)) (λ v. orr a (b && true) (both b true v tt)) (h w))

  pub scan_end : {s left : ℕ} {P : ℕ → ℕ → Bool} → Scan l P₀ p i k s left P → (l ≤ s) ⊎ (left ≡ 0)
      → (j u : ℕ) → u < l → P j u ≡ (P₀ j u || (eqb j i && chosen p k u))
  scan_end {s} {left} S over j u m =
      S.had j u m
      ∙ ap (λ (b : Bool). P₀ j u || (eqb j i && b))
      (same (up_to p k s u) (chosen p k u) (up_to_chosen p k s u) (λ h. up_to_of p k s u (inside h over) h))
    where
      inside : T (chosen p k u) → (l ≤ s) ⊎ (left ≡ 0) → u < s
      inside h (inl e) = omega arith
      inside h (inr z) =
          let a : count u p < k = ltb→lt (count u p) k (snd (p u) (ltb (count u p) k) h) in
          ⊎_elim (λ b. absurd (omega (arith, S.rest, count_take s p k, count_mono s u p b))) (λ b. b) (le_or_lt s u)
