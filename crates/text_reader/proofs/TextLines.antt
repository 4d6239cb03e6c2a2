-- Laws of a text's lines: the one that starts at a place and those after it, and the first that has a field.
use mathlib.Core.Path.{◌≡◌, refl, sym, ap, ap₂, ◌∙◌}
use mathlib.Core.Logic.{⊎_elim}
use mathlib.Core.Bool.{true, false}
use mathlib.Core.List.{List, [], ◌∷◌, map}
use Prim.Native.Nat.{ℕ, ◌+◌, ◌-◌, ◌≤◌, ◌<◌}
use native.Mathlib.Numerals.{add-one}
use native.Mathlib.Omega.{arith}
use lib.ListN.{length, take, drop, length-take, drop_of_length-le}
use lib.Seq.{drop-drop, take-take}
use borrow.Author.Tests.{lt-ltb, le-ltb}
use Rattle.numbers.proofs.Truth.{le_or_lt}
use Rattle.numbers.proofs.Lists.{drop_next}
use Rattle.grammar.specs.TableText.{Part, part, is_newline, is_hash, parts, until, some, kept, fields, uncommented}
use Rattle.text_reader.specs.declared.fields.Span.{Span}
use Rattle.text_reader.specs.declared.fields.Line.{Line}
use Rattle.text_reader.specs.Walk.{whole_lines, lines_at, line_of, IsNext, IsLine, IsNextLine}
use Rattle.text_reader.proofs.Parts.{until_le, within, after, parts_first}
use Rattle.text_reader.proofs.LineFields.{fields_all}

-- ---- one line

pub lines_inside : (t : List ℕ) (k : ℕ) → k ≤ length t → whole_lines t k ≡ map uncommented (parts is_newline k (drop k t))
lines_inside t k l = rw (le-ltb (length t) k l)

pub lines_outside : (t : List ℕ) (k : ℕ) → length t < k → whole_lines t k ≡ []
lines_outside t k l = rw (lt-ltb (length t) k l)

-- a newline at place e, or the text's end
lines_after : (t : List ℕ) (e : ℕ) → e ≤ length t → map uncommented (after is_newline e (drop e t)) ≡ whole_lines t (e + 1)
unfolding after
lines_after t e l =
    ⊎_elim
    (λ (g : length t ≤ e).
    ap (λ (xs : List ℕ). map uncommented (after is_newline e xs)) (drop_of_length-le t g) ∙ sym (lines_outside t (e + 1) (omega arith)))
    (λ (g : e < length t).
    ap (λ (xs : List ℕ). map uncommented (after is_newline e xs)) (drop_next t e g)
    ∙ ap (λ (j : ℕ). map uncommented (parts is_newline j (drop (e + 1) t))) (sym (add-one e)) ∙ sym (lines_inside t (e + 1) (omega arith)))
    (le_or_lt (length t) e)

module _ (t : List ℕ) (k n m : ℕ) (inside : k ≤ length t) (whole : n ≡ until is_newline (drop k t))
    (bare : m ≡ until is_hash (take n (drop k t))) where
  short : m ≤ n
  short = omega (arith, bare, until_le is_hash (take n (drop k t)), length-take n (drop k t))

  ends : k + n ≤ length t
  ends = omega (arith, whole, within is_newline t k inside)

  line : whole_lines t k ≡ part k (take m (drop k t)) ∷ whole_lines t (k + n + 1)
  line =
      lines_inside t k inside
      ∙ ap (map uncommented)
      (parts_first is_newline k (drop k t)
      ∙ ap (λ (j : ℕ). part k (take j (drop k t)) ∷ after is_newline (k + j) (drop j (drop k t))) (sym whole))
      ∙ ap₂ (λ (j : ℕ) (xs : List ℕ). part k (take j (take n (drop k t))) ∷ map uncommented (after is_newline (k + n) xs)) (sym bare)
      (drop-drop n k t)
      ∙ ap₂ (λ (xs : List ℕ) (ls : List Part). part k xs ∷ ls) (take-take m n (drop k t) short) (lines_after t (k + n) ends)

  pub is_line : IsLine t k (record { start = k; end = k + m; next = k + n + 1 })
  is_line = record {
    start = refl;
    ordered = omega arith;
    high = omega (arith, short);
    past = omega (arith, ends);
    is =
        let e : m ≡ k + m - k = omega arith in
        line ∙ ap (λ (j : ℕ). part k (take j (drop k t)) ∷ whole_lines t (k + n + 1)) e;
  }

-- ---- the first that has a field

module _ {t : List ℕ} {k : ℕ} {r : Line} {s : Span} (l : IsLine t k r) (n : IsNext (line_of t r) 0 s) where
  says : s.start < s.end → some (fields (line_of t r)) ≡ true
  says g = ap some (fields_all (line_of t r) ∙ n.one g)

  nothing : s.start ≡ s.end → some (fields (line_of t r)) ≡ false
  nothing e = ap some (fields_all (line_of t r) ∙ (n.none e).0)

  skip : s.start ≡ s.end → lines_at t k ≡ lines_at t r.next
  unfolding kept
  skip e = ap (kept (λ q. some (fields q))) l.is ∙ rw (nothing e)

  found : s.start < s.end → lines_at t k ≡ line_of t r ∷ lines_at t r.next
  unfolding kept
  found g = ap (kept (λ q. some (fields q))) l.is ∙ rw (says g)

  pub line_skipped : (from : ℕ) → s.end ≤ s.start → lines_at t from ≡ lines_at t k → lines_at t from ≡ lines_at t r.next
  line_skipped from g e = e ∙ skip (omega (arith, n.ordered))

  pub line_found : (from : ℕ) → s.start < s.end → lines_at t from ≡ lines_at t k → IsNextLine t from r
  line_found from g e = record {
    ordered = l.ordered;
    high = omega (arith, l.high, l.past);
    past = l.past;
    none = λ z. absurd (let w : ⊥ = omega (arith, g, z, n.high, length-take (r.end - r.start) (drop r.start t)) in w);
    one = λ h. e ∙ found g;
  }

-- no more lines
pub line_none : (t : List ℕ) (from k : ℕ) → lines_at t from ≡ lines_at t k → length t < k → k ≤ length t + 1
    → IsNextLine t from (record { start = length t; end = length t; next = k })
unfolding kept
line_none t from k e l m = record {
  ordered = omega arith;
  high = omega arith;
  past = m;
  none = λ z. (e ∙ ap (kept (λ q. some (fields q))) (lines_outside t k l), refl);
  one = λ h. absurd (let w : ⊥ = omega (arith, h) in w);
}
