-- The line of a row, from its five numbers.
use mathlib.Core.Path.{◌≡◌, sym, subst}
use mathlib.Core.Logic.{◌≢◌}
use mathlib.Core.List.{List, [], ◌∷◌}
use Prim.Native.Nat.{ℕ, ◌+◌, ◌*◌, ◌≤◌}
use native.Mathlib.Omega.{arith}
use borrow.Author.Tests.{eq-eqb, ne_eqb}
use Rattle.numbers.specs.Lists.{at}
use Rattle.rules.specs.TableFile.{row_numbers, last_size, label_in, memory_labelled_with}
use Rattle.rules.specs.Text.{Line, decimal, text_of, text}
use Rattle.table.specs.declared.Row.{Row}
use Rattle.table.specs.Rows.{IsRow}
use Rattle.round_trip.proofs.RoundTrip.{last_told}
use Rattle.decimal.specs.Puts.{line_of, Puts, PutsLine, PutsLines}
use Rattle.decimal.proofs.Puts.{puts_more}
use Rattle.decimal.proofs.Text.{text_first}
use Rattle.grammar.specs.TableText.{max_number, last_numbers, row_line}
use Rattle.text_writer.specs.Lines.{number_line}
use Rattle.text_writer.proofs.Short.{row_short}

-- ---- whether it has a last number

pub last_absent : (r v x : ℕ) → last_size r v ≡ 0 → last_numbers r v x ≡ []
unfolding last_numbers
last_absent r v x e = rw (eq-eqb (last_size r v) 0 e)

pub last_there : (r v x : ℕ) → last_size r v ≢ 0 → last_numbers r v x ≡ x ∷ []
unfolding last_numbers
last_there r v x h = rw (ne_eqb (last_size r v) 0 h)

-- ---- the line

-- of a table with one ring, a row's label is its last number
pub number_line_lem : (r v n : ℕ) (xs : List ℕ) (i : ℕ) (x : Row) → IsRow (memory_labelled_with 1 0 n xs) i x
    → row_line v (memory_labelled_with r 0 n xs) i ≡ number_line r v x
unfolding label_in
number_line_lem r v n xs i x q =
    rw (q.cost, q.period, q.first, q.second, q.label, last_told r (at xs (row_numbers * i + 4)))

pub record Numbers16 (x : Row) : Type 0 where
  pub cost : x.cost ≤ max_number
  pub period : x.period ≤ max_number
  pub first : x.first ≤ max_number
  pub second : x.second ≤ max_number
  pub label : x.label ≤ max_number

-- its first number, and then the others
pub puts_row : (r v : ℕ) (x : Row) {xs was mid now : List ℕ} {at next last : ℕ} → Numbers16 x → last_numbers r v x.label ≡ xs
    → Puts (decimal x.cost) was at mid next → Puts (text_of (line_of [] (x.period ∷ x.first ∷ x.second ∷ xs))) mid next now last
    → PutsLine (number_line r v x) was at now last
puts_row r v x {xs} {was} {mid} {now} {at} {next} {last} s e D L =
    let P : Puts (text_of (number_line r v x)) was at now last =
    subst (λ (ys : List ℕ). Puts (text_of (line_of (decimal x.cost) (x.period ∷ x.first ∷ x.second ∷ ys))) was at now last) (sym e)
    (puts_more D L) in (
      P,
      omega (
        arith,
        P.after,
        row_short r v x.cost x.period x.first x.second x.label s.cost s.period s.first s.second s.label,
      ),
    )

-- two lines, and then others
pub puts_three : (a b : Line) (cs : List Line) (n : ℕ) {at i j k : ℕ} {was one two now : List ℕ} → PutsLine a was at one i
    → PutsLine b one i two j → PutsLines cs n two j now k → Puts (text (a ∷ b ∷ cs)) was at now k
puts_three a b cs n A B C = rw (text_first a (b ∷ cs), text_first b cs) (puts_more A.0 (puts_more B.0 C.0))
