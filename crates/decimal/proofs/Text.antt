-- Laws of the text of lines: lines joined, and one line more.
use mathlib.Core.Path.{◌≡◌, refl, sym, ap, ◌∙◌}
use mathlib.Core.List.{List, [], ◌∷◌, ◌++◌, append_assoc, append-nil}
use Prim.Native.Nat.{ℕ, ◌+◌}
use native.Mathlib.Omega.{arith}
use Rattle.numbers.specs.Lists.{each}
use Rattle.numbers.proofs.Lists.{each_none, each_next}
use Rattle.rules.specs.Text.{Line, text_of, text}
use Rattle.decimal.specs.Puts.{PutsLine, PutsLines}
use Rattle.decimal.proofs.Puts.{puts_none, puts_more}

pub text_none : text [] ≡ []
unfolding text
text_none = refl

pub text_first : (l : Line) (ls : List Line) → text (l ∷ ls) ≡ text_of l ++ text ls
unfolding text
text_first l ls = refl

pub text_join : (ks ls : List Line) → text (ks ++ ls) ≡ text ks ++ text ls
unfolding text
text_join [] ls = refl
text_join (k ∷ ks) ls = ap (λ (t : List ℕ). text_of k ++ t) (text_join ks ls) ∙ sym (append_assoc (text_of k) (text ks) (text ls))

pub text_one : (l : Line) → text (l ∷ []) ≡ text_of l
unfolding text
text_one l = append-nil (text_of l)

-- ---- lines of each of several, written one after the other: one line, or none

module _ (f : ℕ → List Line) where
  pub lines_none : (was : List ℕ) (at : ℕ) → PutsLines (each 0 f) 0 was at was at
  lines_none was at = (rw (each_none {A = Line}, text_none) (puts_none was at), omega arith)

  text_next : (n : ℕ) → text (each (n + 1) f) ≡ text (each n f) ++ text (f n)
  text_next n = ap text (each_next n f) ∙ text_join (each n f) (f n)

  module _ (n : ℕ) {at next : ℕ} {was mid : List ℕ} (P : PutsLines (each n f) n was at mid next) where
    pub lines_next : (l : Line) {last : ℕ} {now : List ℕ} → f n ≡ l ∷ [] → PutsLine l mid next now last
        → PutsLines (each (n + 1) f) (n + 1) was at now last
    lines_next l e Q = (rw (text_next n, e, text_one l) (puts_more P.0 Q.0), omega (arith, P.1, Q.1))

    pub lines_skip : f n ≡ [] → PutsLines (each (n + 1) f) (n + 1) was at mid next
    lines_skip e = (rw (text_next n, e, text_none) (puts_more P.0 (puts_none mid next)), omega (arith, P.1))
