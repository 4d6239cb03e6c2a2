-- The list of sets at the front of an array, folded: word after word, and only one way.
--
--   Folding K low upper was m vs   the first m words are folded, and the others are as they were
use mathlib.Core.Path.{◌≡◌, refl, sym, ap, ap₂, ◌∙◌}
use mathlib.Core.Bool.{Bool, true, false, not, cond}
use mathlib.Core.Logic.{⊎_elim}
use mathlib.Core.List.{List}
use Prim.Native.Nat.{ℕ, ◌+◌, ◌*◌, ◌-◌, ◌≤◌, ◌<◌, max}
use native.Mathlib.Decide.{ℕ_discrete, dec_lt}
use native.Mathlib.Omega.{arith}
use lib.Bits.{bit_and, and_zero_r}
use lib.Dec.{eqb}
use lib.ListN.{length, take, length-take}
use lib.Seq.{get_or-take, ext_get_or}
use borrow.Author.Tests.{eq-eqb}
use Rattle.numbers.specs.Finite.{lowest}
use Rattle.numbers.specs.Lists.{at}
use Rattle.numbers.specs.Word.{bit}
use Rattle.numbers.proofs.Finite.{lowest_eq, lowest_le, lowest_none}
use Rattle.numbers.proofs.Truth.{of_false, le_or_lt}
use Rattle.numbers.proofs.Word.{bit_zero, bit_ext}
use Rattle.rules.specs.Bounds.{max_rows}
use Rattle.table.proofs.ByRow.{past_end}
use Rattle.loads.specs.Network.{Put}
use Rattle.loads.specs.Loads.{digit}
use Rattle.loads.proofs.Settling.{digit_on, digit_off}
use Rattle.interval.specs.declared.fold.Folded.{Folded}
use Rattle.interval.specs.Folded.{upper_rows, low_sets, FoldedSets}

-- ---- a list at the front of an array

pub front_length : (K : ℕ) (ws : List ℕ) → K ≤ length ws → length (take K ws) ≡ K
front_length K ws l = omega (arith, length-take K ws)

-- arrays that agree at a place have the same there in a list at their front
front_at : (K : ℕ) (ws vs : List ℕ) (k : ℕ) → K ≤ length ws → K ≤ length vs → at ws k ≡ at vs k → at (take K ws) k ≡ at (take K vs) k
front_at K ws vs k l m e = go (dec_lt k K)
  where
    go : Dec (k < K) → at (take K ws) k ≡ at (take K vs) k
    go (yes h) = get_or-take K ws k 0 h ∙ e ∙ sym (get_or-take K vs k 0 h)
    go (no h) =
        past_end (take K ws) k (omega (arith, front_length K ws l)) ∙ sym (past_end (take K vs) k (omega (arith, front_length K vs m)))

pub low_front : (K upper : ℕ) (ws : List ℕ) → K ≤ length ws
    → lowest K (λ k. not (eqb (bit_and (at ws k) upper) 0)) ≡ low_sets upper (take K ws)
low_front K upper ws l =
    rw (front_length K ws l)
    (lowest_eq K (λ k. not (eqb (bit_and (at ws k) upper) 0)) (λ k. not (eqb (bit_and (at (take K ws) k) upper) 0))
    (λ k m. rw (get_or-take K ws k 0 m)))

pub low_le : (K upper : ℕ) (ws : List ℕ) → K ≤ length ws → low_sets upper (take K ws) ≤ K
low_le K upper ws l =
    omega (arith, front_length K ws l, lowest_le (length (take K ws)) (λ k. not (eqb (bit_and (at (take K ws) k) upper) 0)))

-- ---- word after word

pub record Folding (K low upper : ℕ) (was : List ℕ) (m : ℕ) (vs : List ℕ) : Type 0 where
  pub size : length vs ≡ max_rows
  pub word : (k i : ℕ) → k < m → bit (at vs k) i ≡ bit (at (take K was) (digit upper i * low + k)) i
  pub rest : (k : ℕ) → m ≤ k → at vs k ≡ at was k

module _ (K low upper : ℕ) (was : List ℕ) (e : length was ≡ max_rows) (few : K ≤ max_rows) where
  pub folding_start : Folding K low upper was 0 was
  folding_start = record { size = e; word = λ k i l. absurd (omega arith); rest = λ k l. refl }

  pub folding_next : (m w : ℕ) (vs vs' : List ℕ) → Folding K low upper was m vs → m < K → Put (at vs) m w (at vs')
      → length vs' ≡ max_rows
      → ((i : ℕ) → bit w i ≡ cond (bit upper i) (bit (at (take K vs) (low + m)) i) (bit (at vs m) i)) → Folding K low upper was (m + 1) vs'
  folding_next m w vs vs' F l p s merged = record {
    size = s;
    word = λ k i h. go k i h (ℕ_discrete k m);
    rest = λ k h. p.1 k (omega arith) ∙ F.rest k (omega arith);
  }
    where
      here : (i : ℕ) (b : Bool) → bit upper i ≡ b → bit w i ≡ bit (at (take K was) (digit upper i * low + m)) i
      here i true q =
          let k : digit upper i * low + m ≡ low + m = omega (arith, ap (λ (d : ℕ). d * low) (digit_on upper i q)) in
          rw k
          (merged i ∙ rw q
          (ap (λ (v : ℕ). bit v i)
          (front_at K vs was (low + m) (omega (arith, F.size)) (omega (arith, e)) (F.rest (low + m) (omega arith)))))
      here i false q =
          let k : digit upper i * low + m ≡ m = omega (arith, ap (λ (d : ℕ). d * low) (digit_off upper i q)) in
          rw k (merged i ∙ rw q (ap (λ (v : ℕ). bit v i) (F.rest m (omega arith) ∙ sym (get_or-take K was m 0 l))))

      go : (k i : ℕ) → k < m + 1 → Dec (k ≡ m) → bit (at vs' k) i ≡ bit (at (take K was) (digit upper i * low + k)) i
      go k i h (yes q) = rw q (ap (λ (v : ℕ). bit v i) p.0 ∙ here i (bit upper i) refl)
      go k i h (no q) = ap (λ (v : ℕ). bit v i) (p.1 k q) ∙ F.word k i (omega arith)

-- ---- all of them

module _ (n bound K : ℕ) (first : ℕ → ℕ) (was : List ℕ) (e : length was ≡ max_rows) (few : K ≤ max_rows) (upper : ℕ)
    (is : upper ≡ upper_rows n bound first) where
  folded_all : (low count : ℕ) (vs : List ℕ) → low ≡ low_sets upper (take K was) → count ≡ max low (K - low)
      → Folding K low upper was count vs → FoldedSets n bound K first was (record { upper = upper; sets = count }) vs
  folded_all low count vs q c F = record {
    upper = is;
    sets = rw (sym q, front_length K was (omega (arith, e))) c;
    size = F.size;
    word = λ k i l. rw q at (F.word k i l);
    rest = F.rest;
  }

  -- with one ring nothing is folded
  pub folded_none : upper ≡ 0 → FoldedSets n bound K first was (record { upper = upper; sets = K }) was
  folded_none z =
      folded_all K K was (rw z (sym all)) (omega arith)
      (record {
        size = e;
        word = λ k i l.
            let o : digit upper i ≡ 0 = rw z (digit_off 0 i (bit_zero i)) in
            let d : digit upper i * K + k ≡ k = omega (arith, ap (λ (c : ℕ). c * K) o) in
            rw d (ap (λ (v : ℕ). bit v i) (sym (get_or-take K was k 0 l)));
        rest = λ k l. refl;
      })
    where
      all : low_sets 0 (take K was) ≡ K
      all =
          lowest_none (length (take K was)) (λ k. not (eqb (bit_and (at (take K was) k) 0) 0))
          (λ k l. of_false (ap not (eq-eqb _ 0 (and_zero_r (at (take K was) k)))))
          ∙ front_length K was (omega (arith, e))

pub folded_only : {n bound K : ℕ} {first : ℕ → ℕ} {was : List ℕ} {F G : Folded} {vs us : List ℕ}
    → FoldedSets n bound K first was F vs → FoldedSets n bound K first was G us → (F ≡ G) × (vs ≡ us)
folded_only {n} {bound} {K} {first} {was} {F} {G} {vs} {us} A B =
    let u : F.upper ≡ G.upper = A.upper ∙ sym B.upper in
    let s : F.sets ≡ G.sets = rw u at A.sets ∙ sym B.sets in (
      ap₂ (λ (x y : ℕ). record { upper = x; sets = y }) u s,
      ext_get_or 0 vs us (A.size ∙ sym B.size) (λ k l. ⊎_elim
          (λ (h : F.sets ≤ k). A.rest k h ∙ sym (B.rest k (omega (arith, s))))
          (λ (h : k < F.sets). bit_ext (at vs k) (at us k) (λ i. rw u at (A.word k i h) ∙ sym (B.word k i (omega (arith, s)))))
          (le_or_lt F.sets k)),
    )
