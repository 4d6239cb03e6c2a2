-- The rows at each node, as rows get their nodes.
--
--   Sorted n left xs out   each word of `out` has those of n rows, less those in the word `left`, whose node in the array xs is its number
use mathlib.Core.Path.{◌≡◌, refl, sym, ap, ap₂, ◌∙◌}
use mathlib.Core.Bool.{Bool, true, false, not, ◌&&◌, ◌||◌, cond, true≢false}
use mathlib.Core.List.{List}
use Prim.Native.Nat.{ℕ, ◌<◌}
use native.Mathlib.Decide.{ℕ_discrete}
use lib.Bits.{bit_and, bit_or, bit_xor}
use lib.Dec.{eqb, ltb}
use lib.ListN.{length, replicate, set}
use borrow.Author.Tests.{eq-eqb, ne_eqb, lt-ltb}
use Rattle.numbers.specs.Lists.{at}
use Rattle.numbers.specs.Word.{bit}
use Rattle.numbers.proofs.Lists.{zeros_at}
use Rattle.numbers.proofs.Word.{bit_or_lem, bit_and_lem, bit_xor_lem, bit_zero}
use Rattle.loads.specs.Network.{nodes_most, Put}
use Rattle.loads.specs.Ranges.{Marked}
use Rattle.loads.proofs.Leaving.{Leaving}
use Rattle.loads.proofs.Network.{put_set}

abbrev pub Sorted : (n left : ℕ) (xs : List ℕ) (out : ℕ → ℕ) → Type 0
Sorted n left xs out = (u i : ℕ) → bit (out u) i ≡ (ltb i n && (not (bit left i) && eqb (at xs i) u))

both_not : (a : Bool) → (a && not a) ≡ false
both_not true = refl
both_not false = refl

and_none : (a : Bool) → (a && false) ≡ false
and_none true = refl
and_none false = refl

and_all : (a : Bool) → (a && true) ≡ a
and_all true = refl
and_all false = refl

or_none : (a : Bool) → (a || false) ≡ a
or_none true = refl
or_none false = refl

or_all : (a : Bool) → (a || true) ≡ true
or_all true = refl
or_all false = refl

-- the rows in the word `here` get node v
sorted_next : (n left left' here v : ℕ) (xs ys : List ℕ) (out out' : ℕ → ℕ) → Sorted n left xs out
    → ((i : ℕ) → bit left' i ≡ (bit left i && not (bit here i))) → ((i : ℕ) → bit here i ≡ true → (bit left i ≡ true) × (i < n))
    → Marked here v xs ys → Put out v (bit_or (out v) here) out' → Sorted n left' ys out'
sorted_next n left left' here v xs ys out out' S less given M p u i = go (ℕ_discrete u v) (bit here i) refl
  where
    Goal : Type 0
    Goal = bit (out' u) i ≡ (ltb i n && (not (bit left' i) && eqb (at ys i) u))

    -- a row that has its node now is left no more
    gone : bit here i ≡ true → bit left' i ≡ false
    gone h = less i ∙ ap₂ (λ (a b : Bool). a && not b) (given i h).0 h

    stays : bit here i ≡ false → bit left' i ≡ bit left i
    stays h = less i ∙ ap (λ (b : Bool). bit left i && not b) h ∙ and_all (bit left i)

    more : u ≡ v → bit (out' u) i ≡ (bit (out u) i || bit here i)
    more e = ap (λ (z : ℕ). bit (out' z) i) e ∙ ap (λ (z : ℕ). bit z i) p.0 ∙ bit_or_lem (out v) here i
        ∙ ap (λ (z : ℕ). bit (out z) i || bit here i) (sym e)

    go : Dec (u ≡ v) → (b : Bool) → bit here i ≡ b → Goal
    go (yes e) true h =
        let r : (ltb i n && (not (bit left' i) && eqb (at ys i) u)) ≡ true =
        rw (lt-ltb i n (given i h).1, gone h, eq-eqb (at ys i) u (M.inside i h ∙ sym e)) refl in
        more e ∙ ap (λ (b : Bool). bit (out u) i || b) h ∙ or_all (bit (out u) i) ∙ sym r
    go (yes e) false h =
        more e ∙ ap (λ (b : Bool). bit (out u) i || b) h ∙ or_none (bit (out u) i) ∙ rw (stays h, M.outside i h) (S u i)
    go (no e) true h =
        let was : (ltb i n && (not (bit left i) && eqb (at xs i) u)) ≡ false =
        rw (given i h).0 (and_none (ltb i n)) in
        let r : (ltb i n && (not (bit left' i) && eqb (at ys i) u)) ≡ false =
        rw (lt-ltb i n (given i h).1, gone h, ne_eqb (at ys i) u (λ q. e (sym q ∙ M.inside i h))) refl in
        ap (λ (z : ℕ). bit z i) (p.1 u e) ∙ S u i ∙ was ∙ sym r
    go (no e) false h = ap (λ (z : ℕ). bit z i) (p.1 u e) ∙ rw (stays h, M.outside i h) (S u i)

-- ---- in arrays

pub sorted_start : (n left : ℕ) (xs : List ℕ) → ((i : ℕ) → bit left i ≡ ltb i n) → Sorted n left xs (at (replicate nodes_most 0))
sorted_start n left xs all u i =
    ap (λ (w : ℕ). bit w i) (zeros_at nodes_most u) ∙ bit_zero i
    ∙ sym (ap (λ (b : Bool). ltb i n && (not b && eqb (at xs i) u)) (all i) ∙ none (ltb i n))
  where
    none : (a : Bool) → (a && (not a && eqb (at xs i) u)) ≡ false
    none true = refl
    none false = refl

module _ {n : ℕ} {g : ℕ → ℕ} {far : ℕ → Type 0} {left : ℕ} {xs : List ℕ} (P : Leaving n g far left xs) (out : List ℕ) (v : ℕ)
    (S : Sorted n left xs (at out)) (room : v < length out) where
  -- the rows of one more set
  pub sorted_more : (w : ℕ) {ys : List ℕ} → Marked (bit_and left w) v xs ys
      → Sorted n (bit_xor left (bit_and left w)) ys (at (set out v (bit_or (at out v) (bit_and left w))))
  sorted_more w {ys} M =
      sorted_next n left _ (bit_and left w) v xs ys (at out) _ S (λ i. bit_xor_lem left (bit_and left w) i ∙ less i (bit left i) refl)
      (λ i h. taken i (bit left i) refl h)
      M
      (put_set out v (bit_or (at out v) (bit_and left w)) room)
    where
      less : (i : ℕ) (a : Bool) → bit left i ≡ a
          → cond (bit left i) (not (bit (bit_and left w) i)) (bit (bit_and left w) i) ≡ (bit left i && not (bit (bit_and left w) i))
      less i true e = rw e refl
      less i false e = rw (bit_and_lem left w i, e) refl

      taken : (i : ℕ) (a : Bool) → bit left i ≡ a → bit (bit_and left w) i ≡ true → (bit left i ≡ true) × (i < n)
      taken i true e h = (e, (P.coming i e).0)
      taken i false e h = absurd (true≢false (sym h ∙ bit_and_lem left w i ∙ ap (λ (b : Bool). b && bit w i) e))

  -- the rows that no set has: then all have their node
  pub sorted_end : {ys : List ℕ} → Marked left v xs ys
      → (u i : ℕ) → bit (at (set out v (bit_or (at out v) left)) u) i ≡ (ltb i n && eqb (at ys i) u)
  sorted_end {ys} M u i =
      sorted_next n left 0 left v xs ys (at out) _ S (λ j. bit_zero j ∙ sym (both_not (bit left j))) (λ j h. (h, (P.coming j h).0)) M
      (put_set out v (bit_or (at out v) left) room) u i
      ∙ ap (λ (b : Bool). ltb i n && (not b && eqb (at ys i) u)) (bit_zero i)
