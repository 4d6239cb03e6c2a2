-- Rows that get their nodes from one set after another: each the node of the first set that has it.
--
--   Leaving n g out left xs   of n rows, those in the word `left` have their node to come, and are `out` of all sets so far; the array xs
--                             holds the node g of the others
use mathlib.Core.Path.{◌≡◌, refl, sym, ap₂, ◌∙◌}
use mathlib.Core.Bool.{Bool, true, false, not, ◌&&◌, ◌||◌, cond, true≢false, false≢true}
use mathlib.Core.List.{List}
use Prim.Native.Nat.{ℕ, ◌≤◌, ◌<◌}
use native.Mathlib.Decide.{ℕ_discrete}
use native.Mathlib.Omega.{arith}
use lib.Bits.{bit_and, bit_xor}
use lib.Dec.{eqb, ltb}
use lib.ListN.{length, replicate, length-replicate}
use borrow.Author.Tests.{ltb-true, lt-ltb, eq-eqb}
use Rattle.numbers.specs.Lists.{at}
use Rattle.numbers.specs.Word.{bit}
use Rattle.numbers.proofs.Lists.{zeros_at}
use Rattle.numbers.proofs.Word.{bit_and_lem, bit_xor_lem}
use Rattle.rules.specs.Bounds.{max_rows}
use Rattle.table.specs.Columns.{ByRow}
use Rattle.loads.specs.Network.{Put}
use Rattle.loads.proofs.Words.{or_right, or_not, one_of}
use Rattle.loads.specs.Ranges.{Marked}

-- one more row is written
pub marked_next : (done done' c v : ℕ) (xs ys zs : List ℕ) → Marked done v xs ys → Put (at ys) c v (at zs) → length zs ≡ max_rows
    → ((i : ℕ) → bit done' i ≡ (bit done i || eqb i c)) → Marked done' v xs zs
marked_next done done' c v xs ys zs M p e one = record {
  size = e;
  inside = λ i q. go i (sym (one i) ∙ q) (ℕ_discrete i c);
  outside = λ i q.
      let z = sym (one i) ∙ q in
      p.1 i (λ k. false≢true (sym z ∙ or_right (bit done i) (eqb i c) (eq-eqb i c k))) ∙ M.outside i (or_not (bit done i) (eqb i c) z);
}
  where
    go : (i : ℕ) → (bit done i || eqb i c) ≡ true → Dec (i ≡ c) → at zs i ≡ v
    go i q (yes k) = rw k p.0
    go i q (no k) = p.1 i k ∙ M.inside i (one_of (bit done i) i c q (λ d. d) (λ j. absurd (k j)))

pub record Leaving (n : ℕ) (g : ℕ → ℕ) (out : ℕ → Type 0) (left : ℕ) (xs : List ℕ) : Type 0 where
  pub size : length xs ≡ max_rows
  pub coming : (i : ℕ) → bit left i ≡ true → (i < n) × out i
  pub done : (i : ℕ) → i < n → bit left i ≡ false → at xs i ≡ g i
  pub rest : (i : ℕ) → n ≤ i → at xs i ≡ 0

pub leaving_start : (n : ℕ) (g : ℕ → ℕ) (out : ℕ → Type 0) (left : ℕ) → ((i : ℕ) → bit left i ≡ ltb i n) → ((i : ℕ) → out i)
    → Leaving n g out left (replicate max_rows 0)
leaving_start n g out left all o = record {
  size = length-replicate {A = ℕ} max_rows 0;
  coming = λ i e. (ltb-true i n (sym (all i) ∙ e), o i);
  done = λ i l e. absurd (true≢false (sym (lt-ltb i n l) ∙ sym (all i) ∙ e));
  rest = λ i l. zeros_at max_rows i;
}

module _ {n : ℕ} {g : ℕ → ℕ} {out : ℕ → Type 0} {left : ℕ} {xs : List ℕ} (P : Leaving n g out left xs) where
  -- no row past the last has its node to come
  past : (i : ℕ) → n ≤ i → bit left i ≡ false
  past i l = go (bit left i) refl
    where
      go : (b : Bool) → bit left i ≡ b → bit left i ≡ false
      go true e = absurd (let z = (P.coming i e).0 in omega arith)
      go false e = e

  module _ (w v : ℕ) {ys : List ℕ} (M : Marked (bit_and left w) v xs ys) where
    here : (i : ℕ) {a b : Bool} → bit left i ≡ a → bit w i ≡ b → bit (bit_and left w) i ≡ (a && b)
    here i e f = bit_and_lem left w i ∙ ap₂ ◌&&◌ e f

    left_then : (i : ℕ) {a b : Bool} → bit left i ≡ a → bit w i ≡ b
        → bit (bit_xor left (bit_and left w)) i ≡ cond a (not (a && b)) (a && b)
    left_then i e f = bit_xor_lem left (bit_and left w) i ∙ ap₂ (λ (p q : Bool). cond p (not q) q) e (here i e f)

    kept : (i : ℕ) → bit left i ≡ false → at ys i ≡ at xs i
    kept i e = M.outside i (here i e refl)

    -- the rows of one more set get their node
    pub leaving_next : (out' : ℕ → Type 0) → ((i : ℕ) → i < n → out i → bit w i ≡ true → v ≡ g i)
        → ((i : ℕ) → out i → bit w i ≡ false → out' i) → Leaving n g out' (bit_xor left (bit_and left w)) ys
    leaving_next out' hit miss = record {
      size = M.size;
      coming = λ i e. coming i e (bit left i) (bit w i) refl refl;
      done = λ i l e. done i l e (bit left i) (bit w i) refl refl;
      rest = λ i l. kept i (past i l) ∙ P.rest i l;
    }
      where
        coming : (i : ℕ) → bit (bit_xor left (bit_and left w)) i ≡ true → (a b : Bool) → bit left i ≡ a → bit w i ≡ b → (i < n) × out' i
        coming i e true true p q = absurd (false≢true (sym (left_then i p q) ∙ e))
        coming i e true false p q = ((P.coming i p).0, miss i (P.coming i p).1 q)
        coming i e false b p q = absurd (false≢true (sym (left_then i p q) ∙ e))

        done : (i : ℕ) → i < n → bit (bit_xor left (bit_and left w)) i ≡ false → (a b : Bool) → bit left i ≡ a → bit w i ≡ b
            → at ys i ≡ g i
        done i l e true true p q = M.inside i (here i p q) ∙ hit i l (P.coming i p).1 q
        done i l e true false p q = absurd (true≢false (sym (left_then i p q) ∙ e))
        done i l e false b p q = kept i p ∙ P.done i l p

  -- rows that no set has get theirs at the end
  pub leaving_end : (v : ℕ) {ys : List ℕ} → Marked left v xs ys → ((i : ℕ) → i < n → out i → v ≡ g i) → ByRow n g ys
  leaving_end v {ys} M none = record {
    size = M.size;
    row = λ i l. go i l (bit left i) refl;
    rest = λ i l m. M.outside i (past i l) ∙ P.rest i l;
  }
    where
      go : (i : ℕ) → i < n → (a : Bool) → bit left i ≡ a → at ys i ≡ g i
      go i l true e = M.inside i e ∙ none i l (P.coming i e).1
      go i l false e = M.outside i e ∙ P.done i l e
