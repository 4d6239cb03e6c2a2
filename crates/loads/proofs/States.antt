-- States of loads that are being settled, as the code keeps them: arrays and words.
use mathlib.Core.Path.{◌≡◌, refl, sym, ap, ap₂, ◌∙◌}
use mathlib.Core.Bool.{Bool, true, false, ◌&&◌, not}
use mathlib.Core.List.{List}
use Prim.Native.Nat.{ℕ, suc, ◌+◌, ◌-◌, ◌/◌, ◌≤◌, ◌<◌}
use native.Mathlib.Decide.{dec_lt, ℕ_discrete}
use native.Mathlib.Omega.{arith}
use lib.Bits.{bit_and, bit_xor, xor_zero_r}
use lib.Count.{ones}
use lib.Dec.{eqb, ltb, leb}
use borrow.Author.Tests.{eq-eqb, ne_eqb, lt-ltb, le-ltb, le-leb, lt-leb}
use Rattle.numbers.specs.Finite.{sum, sum_in}
use Rattle.numbers.specs.Lists.{at}
use Rattle.numbers.specs.Word.{bit}
use Rattle.numbers.proofs.Finite.{sum_eq, sum_in_most}
use Rattle.numbers.proofs.Word.{bit_zero}
use Rattle.rules.specs.Bounds.{max_slots}
use Rattle.loads.specs.Raised.{Raised, Settled}
use Rattle.loads.proofs.Raising.{settle_next}
use Rattle.loads.specs.Loads.{in_set, last, digit, part_most}
use Rattle.loads.specs.Line.{carried, line}
use Rattle.loads.specs.State.{Compared, over, Ends, Asked, State, Mended}
use Rattle.loads.specs.declared.Sides.{Sides}
use Rattle.loads.proofs.Choice.{both}
use Rattle.loads.proofs.Settling.{carried_set, row_low, not_low}
use Rattle.loads.proofs.Comparing.{ones_sum, compared_eq}
use Rattle.loads.proofs.Over.{over_set}
use Rattle.loads.proofs.Turning.{low_no}

-- a row ends at the node after its last set
pub heads_are : {n K : ℕ} {tail head out into : List ℕ} → Ends n K tail head out into → (i : ℕ) → i < n → at head i ≡ suc (last head i)
heads_are E i l = let z = E.heads i l in omega arith

module _ {n K h : ℕ} {tail head out into sums : List ℕ} {f : ℕ → ℕ} (A : Asked n K h tail head out into sums f) where
  -- no set's sum is above this
  pub sums_most : (k : ℕ) → k < K → at sums k ≤ part_most
  sums_most k l =
      let E = A.ends.spans in
      omega (
        arith,
        A.summed k l,
        sum_in_most n (in_set (at tail) (last head) k) f max_slots (λ i m. omega (arith, A.parts.row i m, A.parts.fits)),
        E.few_rows,
      )

  counted : (top k : ℕ) → k < K → ones (bit_and top (over (at out) (at into) (suc k))) ≡ sum_in n (in_set (at tail) (last head) k) (digit top)
  counted top k l =
      ones_sum n top (over (at out) (at into) (suc k)) (in_set (at tail) (last head) k) (λ i. over_set A.ends k i l)

  pub state_of : (s : Sides) (parted top : ℕ) → ((i : ℕ) → i < n → bit parted i ≡ ltb 0 (f i))
      → ((e : ℕ) → e < n + K → carried n (at tail) (last head) (digit top) e ≤ (line n K (at tail) (last head) h f).high e)
      → s.parted ≡ parted → s.top ≡ top
      → Compared K h (λ k. ones (bit_and top (over (at out) (at into) (suc k)))) (at sums) s.more s.less s.low
      → State n K h tail head f s
  state_of s parted top p u e d c = record {
    parted_is = rw e p;
    upper = rw d u;
    compared = rw d (compared_eq K h _ _ _ _ s.more s.less s.low (counted top) A.summed c);
  }

  -- what is needed still, by the network and by the arrays
  pub need_is : (top : ℕ) → sum K (λ k. (line n K (at tail) (last head) h f).low (n + k) - carried n (at tail) (last head) (digit top)
      (n + k))
      ≡ sum K (λ k. at sums k / h - ones (bit_and top (over (at out) (at into) (suc k))))
  need_is top =
      let S = A.ends.spans in
      sum_eq K _ _ (λ k l.
      ap₂ (λ (x y : ℕ). x / h - y) (carried_set n K (at tail) (last head) h f S A.parts f k ∙ sym (A.summed k l))
      (carried_set n K (at tail) (last head) h f S A.parts (digit top) k ∙ sym (counted top k l)))

  -- nothing is too low any more
  pub mended_of : (s : Sides) → State n K h tail head f s → s.low ≡ 0 → Mended n K h tail head f s
  mended_of s St z = record {
    state = St;
    within =
        let S = A.ends.spans in
        both (λ e. ((line n K (at tail) (last head) h f).low e ≤ carried n (at tail) (last head) (digit s.top) e)
        × (carried n (at tail) (last head) (digit s.top) e ≤ (line n K (at tail) (last head) h f).high e)) n K
        (λ i l. (omega (arith, row_low n K (at tail) (last head) h f S A.parts i l), St.upper i (omega arith)))
        (λ k l. (
          rw (carried_set n K (at tail) (last head) h f S A.parts (digit s.top) k)
              (not_low n K (at tail) (last head) h f S A.parts k _
              (low_no St.compared k l (ap (λ (w : ℕ). bit w k) z ∙ bit_zero k))),
          St.upper (n + k) (omega arith),
        ));
  }

-- ---- the rows after one

pub after_next : (n i later later' : ℕ) (p : ℕ → Bool) → ((j : ℕ) → j < n → bit later j ≡ (leb i j && p j))
    → ((j : ℕ) → bit later' j ≡ (bit later j && not (eqb j i))) → (j : ℕ) → j < n → bit later' j ≡ (ltb i j && p j)
after_next n i later later' p a w j l = w j ∙ ap (λ (b : Bool). b && not (eqb j i)) (a j l) ∙ go (ℕ_discrete j i) (dec_lt i j)
  where
    flat : (b : Bool) → (b && true) ≡ b
    flat true = refl
    flat false = refl

    none : (b : Bool) → (b && false) ≡ false
    none true = refl
    none false = refl

    go : Dec (j ≡ i) → Dec (i < j) → ((leb i j && p j) && not (eqb j i)) ≡ (ltb i j && p j)
    go (yes e) (yes d) = absurd (omega arith)
    go (yes e) (no d) = rw (eq-eqb j i e, le-ltb i j (omega arith)) (none (leb i j && p j))
    go (no e) (yes d) = rw (ne_eqb j i e, lt-ltb i j d, le-leb i j (omega arith)) (flat (p j))
    go (no e) (no d) = rw (ne_eqb j i e, le-ltb i j (omega arith), lt-leb i j (omega arith))

pub after_step : (n i later : ℕ) (p : ℕ → Bool) → ((j : ℕ) → j < n → bit later j ≡ (ltb i j && p j))
    → (j : ℕ) → j < n → bit later j ≡ (leb (i + 1) j && p j)
after_step n i later p a j l = a j l ∙ ap (λ (b : Bool). b && p j) (go (dec_lt i j))
  where
    go : Dec (i < j) → ltb i j ≡ leb (i + 1) j
    go (yes d) = lt-ltb i j d ∙ sym (le-leb (i + 1) j (omega arith))
    go (no d) = le-ltb i j (omega arith) ∙ sym (lt-leb (i + 1) j (omega arith))

-- ---- one row raised

module _ {n K h : ℕ} {tail head out into sums : List ℕ} {f : ℕ → ℕ} (A : Asked n K h tail head out into sums f) (s : Sides)
    (w i : ℕ)
    (St : State n K h tail head f s)
    (Se : Settled i (line n K (at tail) (last head) h f) (carried n (at tail) (last head) (digit s.top)))
    (R : Raised (line n K (at tail) (last head) h f) i (carried n (at tail) (last head) (digit s.top))
    (carried n (at tail) (last head) (digit (bit_xor s.top w)))) where
  -- by a way
  pub raised_next : (s' : Sides) → s'.parted ≡ s.parted → s'.top ≡ bit_xor s.top w
      → Compared K h (λ k. ones (bit_and (bit_xor s.top w) (over (at out) (at into) (suc k)))) (at sums) s'.more s'.less s'.low
      → State n K h tail head f s' × Settled (i + 1) (line n K (at tail) (last head) h f)
      (carried n (at tail) (last head) (digit s'.top))
  raised_next s' e d c = (
    state_of A s' s.parted (bit_xor s.top w) St.parted_is (λ e l. (R.within e l).1) e d c,
    rw d (settle_next (line n K (at tail) (last head) h f) i _ _ Se R),
  )

  -- with no way
  pub raised_same : w ≡ 0
      → State n K h tail head f s × Settled (i + 1) (line n K (at tail) (last head) h f) (carried n (at tail) (last head) (digit s.top))
  raised_same e =
      let q : bit_xor s.top w ≡ s.top = ap (bit_xor s.top) e ∙ xor_zero_r s.top in
      (St, rw q at (settle_next (line n K (at tail) (last head) h f) i _ _ Se R))
