-- Laws of the loop that sums parts: each holds of the rows in a word, and one more row is added.
use mathlib.Core.Path.{◌≡◌, refl, sym, ap, ◌∙◌}
use mathlib.Core.Bool.{Bool, true, false, ◌&&◌, ◌||◌}
use mathlib.Core.List.{List}
use Prim.Native.Nat.{ℕ, suc, ◌+◌, ◌≤◌, ◌<◌}
use native.Mathlib.Decide.{dec_lt}
use native.Mathlib.Omega.{arith}
use lib.Dec.{eqb, ltb}
use borrow.Author.Tests.{eq-eqb, ne_eqb, lt-ltb}
use Rattle.numbers.specs.Finite.{sum_in, only}
use Rattle.numbers.specs.Lists.{at}
use Rattle.numbers.specs.Word.{bit}
use Rattle.numbers.proofs.Finite.{only_true, only_false, only_zero, sum_bump, sum_zero, sum_in_most}
use Rattle.numbers.proofs.Word.{bit_zero}
use Rattle.rules.specs.Bounds.{max_elements, max_rows, max_slots}
use Rattle.loads.proofs.Words.{or_same, or_right}
use Rattle.loads.specs.Loads.{in_set, last, among, part_most, Spans, Parts, Summed}
use Rattle.loads.proofs.Line.{covers_in, covers_before, covers_after}
use Rattle.interval.specs.Taken.{Lifted, Uneven}

-- a row's sets, from its tail up to its head
pub row_span : {n K : ℕ} (tail head : List ℕ) → Spans n K (at tail) (last head) → (i : ℕ) → i < n → 0 < at head i
    → (at tail i ≤ at head i) × (at head i ≤ max_elements) × (at head i ≤ K) × (at head i ≡ suc (last head i))
row_span tail head S i l p = let r = S.row i l in (omega (arith, r), omega (arith, r, S.few_sets), omega (arith, r), omega arith)

-- ---- the parts of the rows in a word

pub among_le : (w : ℕ) (f : ℕ → ℕ) (i : ℕ) → among w f i ≤ f i
among_le w f i = go (bit w i) refl
  where
    go : (b : Bool) → bit w i ≡ b → among w f i ≤ f i
    go true e = omega (arith, only_true (bit w i) (f i) e)
    go false e = omega (arith, only_false (bit w i) (f i) e)

pub among_parts : {n h : ℕ} {f : ℕ → ℕ} (w : ℕ) → Parts n h f → Parts n h (among w f)
among_parts {f = f} w P = record { some = P.some; fits = P.fits; row = λ i l. omega (arith, among_le w f i, P.row i l) }

pub among_uneven : (n w : ℕ) (f : ℕ → ℕ) → ((i : ℕ) → bit w i ≡ true → (i < n) × (0 < f i)) → Uneven n (among w f) w
among_uneven n w f h i = go (bit w i) refl
  where
    none : (b : Bool) → (b && false) ≡ false
    none true = refl
    none false = refl

    go : (b : Bool) → bit w i ≡ b → b ≡ (ltb i n && ltb 0 (only b (f i)))
    go true e = let r = h i e in rw (lt-ltb i n r.0, only_true true (f i) refl, lt-ltb 0 (f i) r.1) refl
    go false e = rw (only_false false (f i) refl) (sym (none (ltb i n)))

-- ---- the sums, of the rows in a word

pub summed_none : (n K : ℕ) (a b f s : ℕ → ℕ) → ((k : ℕ) → s k ≡ 0) → Summed n K a b (among 0 f) s
summed_none n K a b f s z k l =
    z k ∙ sym (sum_zero n _ (λ i m. ap (only (in_set a b k i)) (only_false _ (f i) (bit_zero i)) ∙ only_zero (in_set a b k i)))

module _ (n K : ℕ) (a b f s : ℕ → ℕ) (done done' m : ℕ) (l : m < n) (fresh : bit done m ≡ false)
    (one : (i : ℕ) → bit done' i ≡ (bit done i || eqb i m)) (t : Summed n K a b (among done f) s) where
  -- one more row in a set's sum
  more : (k : ℕ) → sum_in n (in_set a b k) (among done' f) ≡ sum_in n (in_set a b k) (among done f) + only (in_set a b k m) (f m)
  more k =
      let D = in_set a b k in
      sum_bump n (λ i. only (D i) (among done f i)) (λ i. only (D i) (among done' f i)) m (only (D m) (f m)) l
      (λ i u ne. ap (λ (c : Bool). only (D i) (only c (f i))) (one i ∙ or_same (bit done i) (eqb i m) (ne_eqb i m ne)))
      (omega (
        arith,
        ap (only (D m)) (only_true _ (f m) (one m ∙ or_right (bit done m) (eqb m m) (eq-eqb m m refl))),
        ap (only (D m)) (only_false _ (f m) fresh),
        only_zero (D m),
      ))

  pub summed_next : (s' : ℕ → ℕ) (to : ℕ) → to ≡ suc (b m) → Lifted s s' (a m) to (f m) → Summed n K a b (among done' f) s'
  summed_next s' to e L k g = go (t k g) (dec_lt k (a m)) (dec_lt (b m) k)
    where
      go : s k ≡ sum_in n (in_set a b k) (among done f) → Dec (k < a m) → Dec (b m < k)
          → s' k ≡ sum_in n (in_set a b k) (among done' f)
      go r (yes p) q = omega (arith, L.below k p, more k, only_false _ (f m) (covers_before (a m) (b m) k p))
      go r (no p) (yes q) = omega (arith, L.beyond k (omega arith), more k, only_false _ (f m) (covers_after (a m) (b m) k q))
      go r (no p) (no q) =
          omega (
            arith,
            L.inside k (omega arith) (omega arith),
            more k,
            only_true _ (f m) (covers_in (a m) (b m) k (omega arith) (omega arith)),
          )

  -- there is room for row m in its sets' sums
  pub summed_room : (h : ℕ) → Parts n h f → n ≤ max_rows → (k : ℕ) → k < K → a m ≤ k → k ≤ b m → s k + f m ≤ part_most
  summed_room h P few k g p q =
      omega (
        arith,
        t k g,
        more k,
        only_true _ (f m) (covers_in (a m) (b m) k p q),
        sum_in_most n (in_set a b k) (among done' f) max_slots (λ i u. omega (arith, among_le done' f i, P.row i u, P.fits)),
      )
