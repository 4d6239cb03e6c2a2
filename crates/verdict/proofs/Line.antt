-- The walk up the line that weighs: its loads, and the sets that it passes, whose words nobody keeps.
--
--   Passing n first second xs e t h l began k a b x
--                        the walk, when it has come to element e: k sets are passed and weighed, and rows of load x use the segment to e
use mathlib.Core.Path.{◌≡◌, refl, sym, ap, ◌∙◌}
use mathlib.Core.Logic.{⊎_elim, ◌≢◌}
use mathlib.Core.Bool.{Bool, true, false, not, ◌&&◌, ◌||◌, cond}
use mathlib.Core.List.{List}
use Prim.Native.Nat.{ℕ, ◌+◌, ◌*◌, ◌≤◌, ◌<◌, max}
use native.Mathlib.Omega.{arith}
use lib.Dec.{T, eqb, eqb→eq}
use lib.ListN.{length, set, replicate, length-replicate, length-set}
use lib.Seq.{get_or-set_same, get_or-set_other}
use Rattle.numbers.specs.Finite.{only, sum, sum_in}
use Rattle.numbers.specs.Word.{bit}
use Rattle.numbers.specs.Lists.{at}
use Rattle.numbers.proofs.Truth.{fst, snd, decide, is_true, is_false, of_true, eqb_of}
use Rattle.numbers.proofs.Finite.{any_of, any_none, only_true, only_false, only_le, sum_eq, sum_le, sum_add, sum_next, sum_term, sum_zero}
use Rattle.numbers.proofs.Finite.{sum_in_eq, sum_in_most}
use Rattle.numbers.proofs.Lists.{zeros_at}
use Rattle.rules.specs.Bounds.{max_rows, max_slots}
use Rattle.rules.specs.Loads.{past}
use Rattle.sets.specs.Walk.{line_size, across, ends_at}
use Rattle.sets.specs.Sets.{OnLine, SetWords}
use Rattle.sets.proofs.Overlap.{across_is, across_of}
use Rattle.sets.proofs.List.{across_word, bit_across}
use Rattle.sets.proofs.Loops.{Here, here, Walked, walked_start, walked_room, walked_starts, walked_on, walked_end}
use Rattle.sets.proofs.Loops.{ended_put, ended_none, ended_still}
use Rattle.verdict.specs.Weights.{Rates, weight, next_lowest, SumsAt, Weighed}
use Rattle.verdict.proofs.Weighing.{weight_small, weighed_start, weighed_next, weighed_more}

-- ---- rates by their rows' ends

pub sums_start : (ends xs : ℕ → ℕ) → SumsAt 0 ends xs (replicate line_size 0)
unfolding sum
sums_start ends xs = record { size = length-replicate {A = ℕ} line_size 0; held = λ e l. zeros_at line_size e }

pub sums_next : {i : ℕ} {ends xs : ℕ → ℕ} {sums : List ℕ} (d x : ℕ) → SumsAt i ends xs sums → d ≡ ends i → x ≡ xs i → d < line_size
    → SumsAt (i + 1) ends xs (set sums d (at sums d + x))
sums_next {i} {ends} {xs} {sums} d x F q r h = record {
  size = length-set sums d _ ∙ F.size;
  held = λ e m.
      let n = sum_next i (λ j. only (eqb (ends j) e) (xs j)) in
      ⊎_elim
      (λ (p : T (eqb e d)).
      let z : e ≡ d = eqb→eq e d p in
      let y = only_true (eqb (ends i) e) (xs i) (is_true (eqb (ends i) e) (eqb_of _ _ (sym q ∙ sym z))) in
      let w : at sums d ≡ sum_in i (λ j. eqb (ends j) e) xs = ap (at sums) (sym z) ∙ F.held e m in
      ap (at (set sums d _)) z ∙ get_or-set_same sums d _ 0 (omega (arith, F.size)) ∙ omega (arith, n, y, w, r))
      (λ (p : T (eqb e d) → ⊥).
      let y = only_false (eqb (ends i) e) (xs i) (is_false (eqb (ends i) e) (λ t. p (eqb_of e d (sym (eqb→eq (ends i) e t) ∙ sym q)))) in
      get_or-set_other sums d e _ 0 (λ z. p (eqb_of e d z)) ∙ omega (arith, n, y, F.held e m))
      (decide (eqb e d));
}

pub sums_small : {n : ℕ} {ends xs : ℕ → ℕ} {sums : List ℕ} → SumsAt n ends xs sums → ((i : ℕ) → i < n → xs i ≤ max_slots)
    → (e : ℕ) → e < line_size → at sums e ≤ n * max_slots
sums_small {n} {ends} {xs} S small e l = omega (arith, S.held e l, sum_in_most n (λ j. eqb (ends j) e) xs max_slots small)

-- one more rate fits beside a sum
pub sums_fit : {n i : ℕ} {ends xs : ℕ → ℕ} {sums : List ℕ} (d x : ℕ) → SumsAt i ends xs sums → ((j : ℕ) → j < n → xs j ≤ max_slots) → i < n
    → n ≤ max_rows → d < line_size → x ≡ xs i → at sums d + x ≤ max_rows * max_slots
sums_fit {n} {i} d x S small l few on e = omega (arith, sums_small S (λ j m. small j (omega arith)) d on, small i l, e)

module _ {n : ℕ} {ends xs : ℕ → ℕ} {sums : List ℕ} (S : SumsAt n ends xs sums) (some : (i : ℕ) → i < n → 1 ≤ xs i) where
  -- a sum is 0 just where no row has this end
  pub sums_there : (e : ℕ) → e < line_size → not (eqb (at sums e) 0) ≡ ends_at n ends e
  sums_there e l =
      ⊎_elim
      (λ (z : T (eqb (at sums e) 0)).
      ap not (is_true (eqb (at sums e) 0) z)
      ∙ sym (any_none n (λ j. eqb (ends j) e)
      (λ j m t.
      omega (
        arith,
        eqb→eq (at sums e) 0 z,
        S.held e l,
        sum_term n (λ j. only (eqb (ends j) e) (xs j)) j m,
        only_true (eqb (ends j) e) (xs j) (is_true (eqb (ends j) e) t),
        some j m,
      ))))
      (λ (z : T (eqb (at sums e) 0) → ⊥).
      ap not (is_false (eqb (at sums e) 0) z)
      ∙ sym (is_true (ends_at n ends e)
      (⊎_elim (λ t. t)
      (λ f. absurd (z (eqb_of (at sums e) 0
      (S.held e l
      ∙ sum_zero n (λ j. only (eqb (ends j) e) (xs j))
      (λ j m. only_false (eqb (ends j) e) (xs j) (is_false (eqb (ends j) e) (λ t. f (any_of n (λ j. eqb (ends j) e) j m t))))))))
      (decide (ends_at n ends e)))))
      (decide (eqb (at sums e) 0))

-- ---- the load, one element further

moved : (a b c d : Bool) (x : ℕ) → (T d → T a) → (T b → T c) → (T a → T b → ⊥) → (T c → T d → ⊥) → (T a → (T d → ⊥) → T c)
    → (T c → (T b → ⊥) → T a) → only a x + only b x ≡ only c x + only d x
unfolding only
moved true true c d x p q r s u v = absurd (r tt tt)
moved true false true true x p q r s u v = absurd (s tt tt)
moved true false true false x p q r s u v = refl
moved true false false true x p q r s u v = omega arith
moved true false false false x p q r s u v = absurd (u tt (λ z. z))
moved false true true true x p q r s u v = absurd (s tt tt)
moved false true true false x p q r s u v = omega arith
moved false true false d x p q r s u v = absurd (q tt)
moved false false true true x p q r s u v = absurd (s tt tt)
moved false false true false x p q r s u v = absurd (v tt (λ z. z))
moved false false false true x p q r s u v = absurd (p tt)
moved false false false false x p q r s u v = refl

module _ {n : ℕ} {first second : ℕ → ℕ} (line : (i : ℕ) → i < n → first i < second i) (xs : List ℕ) where
  weight_across : (e : ℕ) → weight n xs (across_word n first second e) ≡ sum_in n (across n first second e) (at xs)
  unfolding weight
  weight_across e = sum_in_eq n _ _ (at xs) (at xs) (λ i l. bit_across n first second e i) (λ i l t. refl)

  -- rows that start at e join, rows that end there leave
  weight_moved : (e : ℕ)
      → weight n xs (across_word n first second e) + sum_in n (λ j. eqb (first j) e) (at xs)
      ≡ weight n xs (across_word n first second (e + 1)) + sum_in n (λ j. eqb (second j) e) (at xs)
  weight_moved e =
      ap (λ (x : ℕ). x + sum_in n (λ j. eqb (first j) e) (at xs)) (weight_across e)
      ∙ sym (sum_add n (λ i. only (across n first second e i) (at xs i)) (λ i. only (eqb (first i) e) (at xs i)))
      ∙ sum_eq n (λ i. only (across n first second e i) (at xs i) + only (eqb (first i) e) (at xs i))
      (λ i. only (across n first second (e + 1) i) (at xs i) + only (eqb (second i) e) (at xs i)) each
      ∙ sum_add n (λ i. only (across n first second (e + 1) i) (at xs i)) (λ i. only (eqb (second i) e) (at xs i))
      ∙ ap (λ (x : ℕ). x + sum_in n (λ j. eqb (second j) e) (at xs)) (sym (weight_across (e + 1)))
    where
      each : (i : ℕ) → i < n
          → only (across n first second e i) (at xs i) + only (eqb (first i) e) (at xs i)
          ≡ only (across n first second (e + 1) i) (at xs i) + only (eqb (second i) e) (at xs i)
      each i l =
          moved (across n first second e i) (eqb (first i) e) (across n first second (e + 1) i) (eqb (second i) e) (at xs i)
          (λ t. across_of n first second e i l (omega (arith, line i l, eqb→eq (second i) e t)) (omega (arith, eqb→eq (second i) e t)))
          (λ t. across_of n first second (e + 1) i l (omega (arith, eqb→eq (first i) e t)) (omega (arith, line i l, eqb→eq (first i) e t)))
          (λ t u. let z : ⊥ = omega (arith, across_is n first second e i t, eqb→eq (first i) e u) in z)
          (λ t u. let z : ⊥ = omega (arith, across_is n first second (e + 1) i t, eqb→eq (second i) e u) in z)
          (λ t u.
          let a = across_is n first second e i t in
          let d : second i ≢ e = λ q. u (eqb_of (second i) e q) in
          across_of n first second (e + 1) i l (omega (arith, a)) (omega (arith, a, d)))
          (λ t u.
          let a = across_is n first second (e + 1) i t in
          let d : first i ≢ e = λ q. u (eqb_of (first i) e q) in
          across_of n first second e i l (omega (arith, a, d)) (omega (arith, a)))

  leaving_low : (e : ℕ) → sum_in n (λ j. eqb (second j) e) (at xs) ≤ weight n xs (across_word n first second e)
  leaving_low e =
      rw (weight_across e)
      (sum_le n (λ j. only (eqb (second j) e) (at xs j)) (λ i. only (across n first second e i) (at xs i))
      (λ i l. only_le (eqb (second i) e) (across n first second e i) (at xs i) (at xs i)
      (λ t. across_of n first second e i l (omega (arith, line i l, eqb→eq (second i) e t)) (omega (arith, eqb→eq (second i) e t)))
      (λ t. omega arith)))

-- ---- the walk

pub record Passing (n : ℕ) (first second : ℕ → ℕ) (xs : List ℕ) (e : ℕ) (t : Bool) (h l : ℕ) (began : Bool) (k a b x : ℕ) : Type 0 where
  pub words : List ℕ
  pub walked : Walked n first second e (replicate max_rows 0) began k words
  pub weighed : Weighed n xs k words t h l a b
  pub load : x ≡ weight n xs (across_word n first second e)

module _ {n : ℕ} {first second : ℕ → ℕ} {xs : List ℕ} {t : Bool} {h l : ℕ} where
  pub passing_start : Passing n first second xs 0 t h l false 0 0 0 0
  unfolding weight
  passing_start = record {
    words = replicate max_rows 0;
    walked = walked_start n first second (replicate max_rows 0);
    weighed = weighed_start;
    load = sym (sum_zero n _
        (λ i m. only_false (bit (across_word n first second 0) i) (at xs i)
        (bit_across n first second 0 i
        ∙ is_false (across n first second 0 i) (λ u. let z : ⊥ = omega (arith, (across_is n first second 0 i u).1) in z))));
  }

-- the walk one element on: `s` and `d` say whether rows start and end there
walk : {n : ℕ} {first second : ℕ → ℕ} {e w k : ℕ} {was words : List ℕ} (g s d : Bool) → Walked n first second e was g k words
    → Here n first second e s d w → n ≤ length was
    → Walked n first second (e + 1) was (s || (g && not d)) (cond (g && d) (k + 1) k) (cond (g && d) (set words k w) words)
walk true true true W P l = walked_starts (ended_put W P refl refl l) P refl refl
walk true false true W P l = walked_on (ended_put W P refl refl l) P refl refl
walk false true true W P l = walked_starts (ended_none W P refl refl) P refl refl
walk false false true W P l = walked_on (ended_none W P refl refl) P refl refl
walk true true false W P l = walked_starts (ended_still W P refl) P refl refl
walk true false false W P l = walked_on (ended_still W P refl) P refl refl
walk false true false W P l = walked_starts (ended_still W P refl) P refl refl
walk false false false W P l = walked_on (ended_still W P refl) P refl refl

-- the weights with one more set, of word w and load x, where one closes
weigh : {n : ℕ} {xs words : List ℕ} {t : Bool} {h l k a b x : ℕ} (w : ℕ) (c : Bool) → Weighed n xs k words t h l a b
    → (c ≡ true → k < length words) → x ≡ weight n xs w → x ≤ max_rows * max_slots
    → Weighed n xs (cond c (k + 1) k) (cond c (set words k w) words) t h l (cond c (next_lowest a k (past t h l x)) a) (cond c (max b x) b)
weigh {n} {xs} {words} {k = k} w true W room e s =
    weighed_next (weighed_more (λ j m. get_or-set_other words k j w 0 (λ z. omega arith)) W)
    (e ∙ ap (weight n xs) (sym (get_or-set_same words k w 0 (room refl)))) s
weigh w false W room e s = W

module _ {n : ℕ} {first second : ℕ → ℕ} {xs : List ℕ} {top e : ℕ} {t : Bool} {h l : ℕ} {began : Bool} {k a b x : ℕ}
    (O : OnLine n first second top) (R : Rates xs n) (P : Passing n first second xs e t h l began k a b x) where
  at_e : Here n first second e (ends_at n first e) (ends_at n second e) (across_word n first second e)
  at_e = here n first second e (across_word n first second e) refl

  -- a set that closes is one of no more than rows
  pub passing_room : (d : Bool) → d ≡ ends_at n second e → (began && d) ≡ true → k < n
  passing_room d q c =
      walked_room P.walked at_e (sym q ∙ is_true d (snd began d (of_true c))) (is_true began (fst began d (of_true c)))

  pub passing_small : x ≤ max_rows * max_slots
  passing_small = omega (arith, P.load, weight_small R (across_word n first second e), R.few)

  module _ {joining leaving : List ℕ} (J : SumsAt n first (at xs) joining) (L : SumsAt n second (at xs) leaving) (m : e < line_size) where
    -- the rows that leave are in the load, and with those that join it is that of the next element
    pub passing_load : (at leaving e ≤ x) × (x + at joining e ≡ weight n xs (across_word n first second (e + 1)) + at leaving e)
    passing_load =
        let p = P.load in
        let j = J.held e m in
        let v = L.held e m in
        (omega (arith, p, v, leaving_low O.line xs e), omega (arith, p, j, v, weight_moved O.line xs e))

    pub passing_fits : (x + at joining e) ≤ max_rows * max_slots + at leaving e
    passing_fits = omega (arith, passing_load.1, weight_small R (across_word n first second (e + 1)), R.few)

    pub passing_next : (s d : Bool) → s ≡ ends_at n first e → d ≡ ends_at n second e → (y : ℕ) → y + at leaving e ≡ x + at joining e
        → Passing n first second xs (e + 1) t h l (s || (began && not d)) (cond (began && d) (k + 1) k)
        (cond (began && d) (next_lowest a k (past t h l x)) a) (cond (began && d) (max b x) b) y
    passing_next s d p q y z = record {
      words = cond (began && d) (set P.words k (across_word n first second e)) P.words;
      walked = walk began s d P.walked (rw (p, q) at_e) (omega (arith, O.few, length-replicate {A = ℕ} max_rows 0));
      weighed = weigh (across_word n first second e) (began && d) P.weighed
          (λ c. omega (arith, passing_room d q c, P.walked.filled.same, length-replicate {A = ℕ} max_rows 0, O.few))
          P.load passing_small;
      load = omega (arith, z, passing_load.1);
    }

  pub passing_end : top < e
      → (ws : List ℕ) × SetWords n first second k ws × Weighed n xs k ws t h l a b
  passing_end m = (P.words, walked_end O m (length-replicate {A = ℕ} max_rows 0) (zeros_at max_rows) P.walked, P.weighed)
