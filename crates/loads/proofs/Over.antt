-- The rows over a set, as an exclusive or of those that start and end at the nodes before it has them.
--
--   over_next    one node more
--   over_is      the rows that start before a node and don't end before it
--   over_set     past the node of a set they are the set's rows
use mathlib.Core.Path.{◌≡◌, refl, sym, ap, ap₂, ◌∙◌}
use mathlib.Core.Bool.{Bool, true, false, not, ◌&&◌, cond}
use mathlib.Core.List.{List}
use Prim.Native.Nat.{ℕ, zero, suc, ◌≤◌, ◌<◌}
use native.Mathlib.Decide.{dec_lt, ℕ_discrete}
use native.Mathlib.Omega.{arith}
use lib.Bits.{bit_xor}
use lib.Dec.{eqb, ltb, leb}
use borrow.Author.Tests.{eq-eqb, ne_eqb, lt-ltb, le-ltb, le-leb, lt-leb}
use Rattle.numbers.specs.Lists.{at}
use Rattle.numbers.specs.Word.{bit}
use Rattle.numbers.proofs.Word.{bit_zero}
use Rattle.loads.proofs.Words.{bit_xor_lem}
use Rattle.loads.specs.Loads.{in_set, last}
use Rattle.loads.specs.State.{over, Ends}

-- one node more
pub over_next : (out into : ℕ → ℕ) (k w : ℕ) → w ≡ over out into k → bit_xor (bit_xor w (out k)) (into k) ≡ over out into (suc k)
unfolding over
over_next out into k w e = ap (λ (v : ℕ). bit_xor (bit_xor v (out k)) (into k)) e

-- a row from node a to node h, seen from node k
abbrev lies : (a h k : ℕ) → Bool
lies a h k = ltb a k && leb k h

abbrev toggled : Bool → Bool → Bool
toggled on p = cond on (not p) p

module _ (a h k : ℕ) (l : a < h) where
  -- what the next node sees
  abbrev Next : Type 0
  Next = toggled (eqb h k) (toggled (eqb a k) (lies a h k)) ≡ lies a h (suc k)

  next : Next
  next = go (dec_lt a k) (dec_lt h k) (ℕ_discrete a k) (ℕ_discrete h k)
    where
      go : Dec (a < k) → Dec (h < k) → Dec (a ≡ k) → Dec (h ≡ k) → Next
      go (yes p) (yes q) r s =
          rw (
            lt-ltb a k p,
            lt-leb k h q,
            ne_eqb a k (omega arith),
            ne_eqb h k (omega arith),
            lt-leb (suc k) h (omega arith),
            lt-ltb a (suc k) (omega arith),
          ) refl
      go (yes p) (no q) r (yes s) =
          rw (
            lt-ltb a k p,
            le-leb k h (omega arith),
            ne_eqb a k (omega arith),
            eq-eqb h k s,
            lt-leb (suc k) h (omega arith),
            lt-ltb a (suc k) (omega arith),
          ) refl
      go (yes p) (no q) r (no s) =
          rw (
            lt-ltb a k p,
            le-leb k h (omega arith),
            ne_eqb a k (omega arith),
            ne_eqb h k s,
            le-leb (suc k) h (omega arith),
            lt-ltb a (suc k) (omega arith),
          ) refl
      go (no p) q (yes r) s =
          rw (
            le-ltb a k (omega arith),
            eq-eqb a k r,
            ne_eqb h k (omega arith),
            le-leb (suc k) h (omega arith),
            lt-ltb a (suc k) (omega arith),
          ) refl
      go (no p) q (no r) s =
          rw (le-ltb a k (omega arith), ne_eqb a k r, ne_eqb h k (omega arith), le-ltb a (suc k) (omega arith)) refl

module _ {n K : ℕ} {tail head out into : List ℕ} (E : Ends n K tail head out into) where
  spans : (i : ℕ) → i < n → at tail i < at head i
  spans i l = omega (arith, E.spans.row i l, E.heads i l)

  over_is : (k i : ℕ) → k ≤ suc K → bit (over (at out) (at into) k) i ≡ (ltb i n && lies (at tail i) (at head i) k)
  unfolding over
  over_is zero i m = bit_zero i ∙ sym (rw (le-ltb (at tail i) 0 (omega arith)) (none (ltb i n)))
    where
      none : (b : Bool) → (b && false) ≡ false
      none true = refl
      none false = refl
  over_is (suc k) i m =
      bit_xor_lem (bit_xor (over (at out) (at into) k) (at out k)) (at into k) i
      ∙ ap₂ toggled (E.wired.ending k i (omega arith))
      (bit_xor_lem (over (at out) (at into) k) (at out k) i
      ∙ ap₂ toggled (E.wired.starting k i (omega arith)) (over_is k i (omega arith)))
      ∙ go (dec_lt i n)
    where
      go : Dec (i < n)
          → toggled (ltb i n && eqb (at head i) k)
          (toggled (ltb i n && eqb (at tail i) k) (ltb i n && lies (at tail i) (at head i) k))
          ≡ (ltb i n && lies (at tail i) (at head i) (suc k))
      go (yes l) = rw (lt-ltb i n l) (next (at tail i) (at head i) k (spans i l))
      go (no l) = rw (le-ltb i n (omega arith)) refl

  pub over_set : (k i : ℕ) → k < K → bit (over (at out) (at into) (suc k)) i ≡ (ltb i n && in_set (at tail) (last head) k i)
  over_set k i m = over_is (suc k) i (omega arith) ∙ go (dec_lt i n)
    where
      starts : Dec (k < at tail i) → ltb (at tail i) (suc k) ≡ leb (at tail i) k
      starts (yes d) = le-ltb (at tail i) (suc k) (omega arith) ∙ sym (lt-leb (at tail i) k d)
      starts (no d) = lt-ltb (at tail i) (suc k) (omega arith) ∙ sym (le-leb (at tail i) k (omega arith))

      ends : 0 < at head i → Dec (k < at head i) → leb (suc k) (at head i) ≡ leb k (last head i)
      ends p (yes d) = le-leb (suc k) (at head i) d ∙ sym (le-leb k (last head i) (omega arith))
      ends p (no d) = lt-leb (suc k) (at head i) (omega arith) ∙ sym (lt-leb k (last head i) (omega arith))

      go : Dec (i < n) → (ltb i n && lies (at tail i) (at head i) (suc k)) ≡ (ltb i n && in_set (at tail) (last head) k i)
      go (yes l) =
          ap₂ (λ (b c : Bool). ltb i n && (b && c)) (starts (dec_lt k (at tail i))) (ends (E.heads i l) (dec_lt k (at head i)))
      go (no l) = rw (le-ltb i n (omega arith)) refl
