-- Laws of the parts of a text: how far it is to a marked byte, and the first part and the rest.
--
--   after p k bs         the parts past the marked byte at the front of bs, which starts at place k; none past the end
use mathlib.Core.Path.{◌≡◌, refl, ap, ◌∙◌}
use mathlib.Core.Bool.{Bool, true, false, cond}
use mathlib.Core.List.{List, [], ◌∷◌}
use Prim.Native.Nat.{ℕ, suc, ◌+◌, ◌≤◌}
use native.Mathlib.Nat.{add-zero}
use native.Mathlib.Omega.{arith}
use lib.ListN.{length, take, drop, length-drop}
use lib.Dec.{ltb}
use borrow.Author.Tests.{ltb-false}
use Rattle.std.specs.List.{position_or_len}
use Rattle.std.proofs.Common.{Option, Some, None, unwrap_or}
use Rattle.std.proofs.lemmas.List.Recursion.{is_position_or_len}
use Rattle.numbers.specs.Finite.{lowest}
use Rattle.numbers.specs.Lists.{at}
use Rattle.numbers.proofs.Finite.{lowest_le}
use Rattle.grammar.specs.TableText.{Part, part, before, parts, until}

-- ---- how far it is to the first marked byte

module _ (p : ℕ → Bool) where
  pub until_here : (b : ℕ) (bs : List ℕ) → p b ≡ true → until p (b ∷ bs) ≡ 0
  unfolding lowest
  until_here b bs e = rw e

  pub until_past : (b : ℕ) (bs : List ℕ) → p b ≡ false → until p (b ∷ bs) ≡ suc (until p bs)
  unfolding lowest
  until_past b bs e = rw e

  pub until_end : until p [] ≡ 0
  unfolding lowest
  until_end = refl

  pub until_le : (bs : List ℕ) → until p bs ≤ length bs
  until_le bs = lowest_le (length bs) (λ i. p (at bs i))

  there_cons : (b : ℕ) (bs : List ℕ) (x : Bool) → p b ≡ x → until p (drop (until p bs) bs) ≡ 0
      → until p (drop (until p (b ∷ bs)) (b ∷ bs)) ≡ 0
  there_cons b bs true e h = rw (until_here b bs e) (until_here b bs e)
  there_cons b bs false e h = rw (until_past b bs e) h

  -- there, nothing is left to go
  pub until_there : (bs : List ℕ) → until p (drop (until p bs) bs) ≡ 0
  until_there [] = rw until_end until_end
  until_there (b ∷ bs) = there_cons b bs (p b) refl (until_there bs)

  module _ (bs : List ℕ) (i : ℕ) where
    pub within : i ≤ length bs → i + until p (drop i bs) ≤ length bs
    within l = omega (arith, until_le (drop i bs), length-drop i bs)

-- ---- the first marked byte, as the library's search finds it

module _ (p : ℕ → Bool) where
  first_cons : (b : ℕ) (bs : List ℕ) → until p (b ∷ bs) ≡ cond (p b) 0 (1 + until p bs)
  unfolding lowest
  first_cons b bs = let e : suc (until p bs) ≡ 1 + until p bs = omega arith in ap (cond (p b) 0) e

  first_found : (bs : List ℕ) → until p bs ≡ position_or_len p bs
  first_found = is_position_or_len (until p) p (until_end p) first_cons

  pub first_place : (bs : List ℕ) (r : Option ℕ) (i : ℕ)
      → r ≡ cond (ltb (position_or_len p bs) (length bs)) (Some (position_or_len p bs)) None → i ≡ unwrap_or r (length bs)
      → (i ≡ until p bs) × (i ≤ length bs)
  first_place bs r i e f = go (ltb (position_or_len p bs) (length bs)) refl
    where
      go : (x : Bool) → ltb (position_or_len p bs) (length bs) ≡ x → (i ≡ until p bs) × (i ≤ length bs)
      go true h =
          let n : ℕ = position_or_len p bs in
          let g : r ≡ Some n = e ∙ rw h in
          let k : i ≡ n = f ∙ ap (λ (o : Option ℕ). unwrap_or o (length bs)) g in
          (omega (arith, k, first_found bs), omega (arith, k, first_found bs, until_le p bs))
      go false h =
          let n : ℕ = position_or_len p bs in
          let g : r ≡ None = e ∙ rw h in
          let k : i ≡ length bs = f ∙ ap (λ (o : Option ℕ). unwrap_or o (length bs)) g in
          (omega (arith, k, first_found bs, until_le p bs, ltb-false n (length bs) h), omega (arith, k))

-- ---- the first part, and those after it

unfoldable pub after : (ℕ → Bool) → ℕ → List ℕ → List Part
after p k [] = []
after p k (b ∷ bs) = parts p (suc k) bs

-- the byte at the front is marked, or it stands before the first part of the rest
parts_cons : (p : ℕ → Bool) (k b : ℕ) (bs : List ℕ) (x : Bool) → p b ≡ x
    → parts p (suc k) bs ≡ part (suc k) (take (until p bs) bs) ∷ after p (suc k + until p bs) (drop (until p bs) bs)
    → parts p k (b ∷ bs) ≡ part k (take (until p (b ∷ bs)) (b ∷ bs)) ∷ after p (k + until p (b ∷ bs)) (drop (until p (b ∷ bs)) (b ∷ bs))
unfolding parts after lowest
parts_cons p k b bs true e h = rw (e, add-zero)
parts_cons p k b bs false e h =
    let n : ℕ = until p bs in
    let s : suc k + n ≡ k + suc n = omega arith in
    rw e (ap (before k b) h ∙ ap (λ (j : ℕ). part k (b ∷ take n bs) ∷ after p j (drop n bs)) s)

pub parts_first : (p : ℕ → Bool) (k : ℕ) (bs : List ℕ)
    → parts p k bs ≡ part k (take (until p bs) bs) ∷ after p (k + until p bs) (drop (until p bs) bs)
unfolding parts after lowest
parts_first p k [] = refl
parts_first p k (b ∷ bs) = parts_cons p k b bs (p b) refl (parts_first p (suc k) bs)
