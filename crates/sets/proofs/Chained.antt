-- Chains of the rows that start at one element: how they are laid, from the last row down, and that only one answer fits.
--
--   link_only                 only one link fits
--   rest r                    how many rows may be left on the chain from r on
--   chain_start, chain_more   no row is chained; one more is, the one before those that are
--   head_only, next_only      only one head and one next fit
use mathlib.Core.Path.{◌≡◌, refl, sym, ap, ◌∙◌, subst, subst₂}
use mathlib.Core.Logic.{⊎_elim}
use mathlib.Core.List.{List}
use Prim.Native.Nat.{ℕ, ◌+◌, ◌-◌, ◌*◌, ◌≤◌, ◌<◌, min}
use native.Mathlib.Nat.{le_antisymm}
use native.Mathlib.Omega.{arith}
use lib.Dec.{T, eqb, eqb→eq}
use lib.ListN.{set, replicate, length-set}
use lib.Seq.{get_or-set_same, get_or-set_other, ext_get_or}
use Rattle.numbers.specs.Lists.{at}
use Rattle.numbers.proofs.Truth.{decide, eqb_of, le_or_lt}
use Rattle.numbers.proofs.Lists.{zeros_at}
use Rattle.rules.specs.Bounds.{max_rows}
use Rattle.sets.specs.Chained.{all_heads, Link, ChainedFrom, Chained}

-- ---- links

pub link_as : {n : ℕ} {f : ℕ → ℕ} {e i r r' : ℕ} → r' ≡ r → Link n f e i r → Link n f e i r'
link_as {n} {f} {e} {i} q L = subst (λ (k : ℕ). Link n f e i k) (sym q) L

link_le : {n : ℕ} {f : ℕ → ℕ} {e i r s : ℕ} → Link n f e i r → Link n f e i s → r ≤ s
link_le {n} {i = i} {r = r} {s = s} L M =
    ⊎_elim (λ a. a)
    (λ (a : s < r).
    let p = L.starts (omega arith) in
    let q = M.starts (M.lowest (r - 1) (omega arith) (omega arith) p.2).0 in
    omega (arith, L.lowest (s - 1) (omega arith) (omega arith) q.2))
    (le_or_lt r s)

pub link_only : {n : ℕ} {f : ℕ → ℕ} {e i r s : ℕ} → Link n f e i r → Link n f e i s → r ≡ s
link_only L M = le_antisymm (link_le L M) (link_le M L)

pub link_row : {n : ℕ} {f : ℕ → ℕ} {e i r : ℕ} → Link n f e i r → r ≤ n
link_row {n} {r = r} L = ⊎_elim (λ a. a) (λ (a : n < r). (L.starts (omega arith)).1) (le_or_lt r n)

-- at most so many rows are left on a chain: none where r is 0
abbrev pub rest : ℕ → ℕ
rest r = min (max_rows * r) (max_rows + 1 - r)

-- each link leads to a later row
pub rest_less : {n : ℕ} {f : ℕ → ℕ} {e i r s : ℕ} → Link n f e i s → n ≤ max_rows → 0 < r → r ≤ i → r ≤ n → rest s < rest r
rest_less {n} {i = i} {r = r} {s = s} L few some on le =
    ⊎_elim (λ (a : s ≤ 0). omega arith) (λ (a : 0 < s). let p = L.starts a in omega arith) (le_or_lt s 0)

-- ---- laying the chains

pub chain_start : (n : ℕ) (f : ℕ → ℕ) → ChainedFrom n f n (replicate all_heads 0) (replicate max_rows 0)
chain_start n f = record {
  head_size = refl;
  next_size = refl;
  heads = λ e h. link_as (zeros_at all_heads e) record { starts = λ h. omega arith; lowest = λ j a b q. omega arith };
  nexts = λ j a b. omega arith;
  spare = λ j h. zeros_at max_rows j;
}

-- row i − 1 starts at e, and becomes the head there
module _ {n : ℕ} {f : ℕ → ℕ} {i e : ℕ} {head next : List ℕ} (C : ChainedFrom n f i head next) (some : 0 < i) (few : i ≤ n)
    (fits : n ≤ max_rows) (start : e ≡ f (i - 1)) (byte : e < all_heads) where
  head_more : (d : ℕ) → d < all_heads → Link n f d (i - 1) (at (set head e i) d)
  head_more d h =
      ⊎_elim
      (λ a. let q : d ≡ e = eqb→eq d e a in
      link_as (ap (at (set head e i)) q ∙ get_or-set_same head e i 0 (omega (arith, C.head_size))) record {
        starts = λ p. (omega arith, few, sym (q ∙ start));
        lowest = λ j b m p. (some, omega arith);
      })
      (λ a. let L = C.heads d h in
      link_as (get_or-set_other head e d i 0 (λ q. a (eqb_of d e q))) record {
        starts = λ p. let l = L.starts p in (omega arith, l.1, l.2);
        lowest = λ j b m p. L.lowest j (after j b p a) m p;
      })
      (decide (eqb d e))
    where
      after : (j : ℕ) → i - 1 ≤ j → f j ≡ d → (T (eqb d e) → ⊥) → i ≤ j
      after j b p a =
          ⊎_elim (λ k. k) (λ k. let q : j ≡ i - 1 = omega arith in absurd (a (eqb_of d e (sym p ∙ ap f q ∙ sym start)))) (le_or_lt i j)

  next_more : (j : ℕ) → i - 1 ≤ j → j < n → Link n f (f j) (j + 1) (at (set next (i - 1) (at head e)) j)
  next_more j b m =
      ⊎_elim
      (λ k. link_as (get_or-set_other next (i - 1) j (at head e) 0 (λ q. let z : ⊥ = omega arith in z)) (C.nexts j k m))
      (λ k. let q : j ≡ i - 1 = omega arith in
      let p : i ≡ j + 1 = omega arith in
      link_as (ap (at (set next (i - 1) (at head e))) q ∙ get_or-set_same next (i - 1) (at head e) 0 (omega (arith, C.next_size)))
      (subst₂ (λ (d u : ℕ). Link n f d u (at head e)) (start ∙ ap f (sym q)) p (C.heads e byte)))
      (le_or_lt i j)

  pub chain_more : ChainedFrom n f (i - 1) (set head e i) (set next (i - 1) (at head e))
  chain_more = record {
    head_size = length-set head e i ∙ C.head_size;
    next_size = length-set next (i - 1) (at head e) ∙ C.next_size;
    heads = head_more;
    nexts = next_more;
    spare = λ j h. get_or-set_other next (i - 1) j (at head e) 0 (λ q. let z : ⊥ = omega arith in z) ∙ C.spare j h;
  }

-- ---- only one answer fits

module _ {n : ℕ} {f : ℕ → ℕ} {head head' next next' : List ℕ} (C : Chained n f head next) (D : Chained n f head' next') where
  pub head_only : head ≡ head'
  head_only =
      ext_get_or 0 head head' (C.head_size ∙ sym D.head_size)
      (λ e h. let m : e < all_heads = omega (arith, C.head_size) in link_only (C.heads e m) (D.heads e m))

  pub next_only : next ≡ next'
  next_only =
      ext_get_or 0 next next' (C.next_size ∙ sym D.next_size)
      (λ j h. ⊎_elim (λ m. C.spare j m ∙ sym (D.spare j m))
      (λ m. link_only (C.nexts j (omega arith) m) (D.nexts j (omega arith) m)) (le_or_lt n j))
