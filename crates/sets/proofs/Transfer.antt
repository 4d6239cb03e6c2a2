-- Overlap sets and their list depend only on what the test and the ends are for rows below n. So what is shown on the line holds on the
-- ring, where the two tests agree.
use mathlib.Core.Path.{◌≡◌, sym, ◌∙◌}
use mathlib.Core.Logic.{◌≢◌}
use mathlib.Core.List.{List}
use mathlib.Core.Bool.{Bool}
use Prim.Native.Nat.{ℕ, ◌<◌}
use native.Mathlib.Omega.{arith}
use lib.Dec.{T}
use lib.ListN.{length}
use Rattle.numbers.specs.Word.{bit}
use Rattle.numbers.specs.Lists.{at}
use Rattle.numbers.proofs.Truth.{along}
use Rattle.numbers.proofs.Word.{bit_ext}
use Rattle.rules.specs.Line.{meet, OverlapSet, Least, SetList}
use Rattle.rules.proofs.Ties.{one_set_an_end}

-- two tests that agree on rows below n
abbrev pub Agree : ℕ → (o p : ℕ → ℕ → Bool) → Type 0
Agree n o p = (i j : ℕ) → i < n → j < n → o i j ≡ p i j

pub agree_sym : {n : ℕ} {o p : ℕ → ℕ → Bool} → Agree n o p → Agree n p o
agree_sym a i j h k = sym (a i j h k)

pub least_agree : {g h : ℕ → ℕ} {D : ℕ → Bool} {e : ℕ} → ((i : ℕ) → T (D i) → g i ≡ h i) → Least g D e → Least h D e
least_agree a m =
    let r = m.reached in
    record { reached = (r.0, r.1, sym (a r.0 r.1) ∙ r.2); under = λ i t. omega (arith, m.under i t, a i t) }

pub set_agree : {n : ℕ} {o p : ℕ → ℕ → Bool} {D : ℕ → Bool} → Agree n o p → OverlapSet n o D → OverlapSet n p D
set_agree a S = record {
  rows = S.rows;
  pairs = λ i j t u. along (a i j (S.rows i t) (S.rows j u)) (S.pairs i j t u);
  full = λ k l h. S.full k l (λ i t. along (sym (a k i l (S.rows i t))) (h i t));
}

pub list_agree : {n : ℕ} {o p : ℕ → ℕ → Bool} {g h : ℕ → ℕ} {ws : List ℕ} → Agree n o p → ((i : ℕ) → i < n → g i ≡ h i)
    → SetList n o g ws → SetList n p h ws
list_agree {g = g} {h = h} {ws = ws} a b S = record {
  each = λ k l. set_agree a (S.each k l);
  all = λ w t. S.all w (set_agree (agree_sym a) t);
  order = λ k l d e m q x y.
      let back : (j c : ℕ) → j < length ws → Least h (bit (at ws j)) c → Least g (bit (at ws j)) c =
      λ j c u z. least_agree (λ i t. sym (b i ((S.each j u).rows i t))) z in
      S.order k l d e m q (back k d (omega arith) x) (back l e q y);
}

-- No two overlap sets have the same least second end.
pub no_tie : (n : ℕ) (first second : ℕ → ℕ) {o : ℕ → ℕ → Bool} → Agree n o (meet first second) → (v w e : ℕ) → v ≢ w
    → OverlapSet n o (bit v) → OverlapSet n o (bit w) → Least second (bit v) e → Least second (bit w) e → ⊥
no_tie n first second a v w e differ x y c d =
    differ (bit_ext v w (one_set_an_end n first second (bit v) (bit w) e (set_agree a x) (set_agree a y) c d))
