-- A text that passes says a table without a fault, in a version that holds its labels.
use mathlib.Core.Path.{◌≡◌, refl, sym, ap, subst}
use mathlib.Core.Logic.{⊎_elim, inl, inr, ◌≢◌}
use mathlib.Core.Bool.{Bool, true, false, cond}
use mathlib.Core.List.{List, [], ◌∷◌, ◌++◌}
use Prim.Native.Nat.{ℕ, ◌≤◌, ◌<◌}
use lib.ListN.{length}
use native.Mathlib.Decide.{ℕ_discrete}
use native.Mathlib.Omega.{arith}
use lib.Dec.{T, eqb}
use borrow.Author.Tests.{eq-eqb, ne_eqb}
use Rattle.numbers.specs.Finite.{any}
use Rattle.numbers.specs.Lists.{at, each}
use Rattle.numbers.proofs.Finite.{any_of}
use Rattle.numbers.proofs.Truth.{limits, le_or_lt}
use Rattle.rules.specs.Bounds.{max_elements, max_rows, max_rings}
use Rattle.rules.specs.TableFile.{version_1, version_2, way_in, label_in}
use Rattle.rules.specs.Refusals.{Check, refuse, wrong_elements}
use Rattle.rules.proofs.Answers.{None, none_left, none_right, none_at}
use Rattle.table.specs.Sound.{SoundRow, Sound}
use Rattle.table.proofs.Faults.{Known, row_sound}
use Rattle.round_trip.proofs.RoundTrip.{Told, OneOrTwo, last_told}
use Rattle.grammar.specs.TableText.{Part, some, field, last, heading, row, number, rings_in, text_rings, text_table, text_labelled, text_version}
use Rattle.grammar.specs.TableText.{number_checks, missing_field, spare_field, placed, row_table, heading_checks, form_checks}
use Rattle.grammar.specs.TableText.{value_checks, text_row_checks}
use Rattle.grammar.specs.TableText.{text_line_checks, text_checks}
use Rattle.text_trip.proofs.Passing.{empty_passes}

-- ---- the rings

pub text_rings_lem : (t : List ℕ) → OneOrTwo (text_rings t)
unfolding rings_in
text_rings_lem t = go (eqb (at (field (heading t) 0).bytes 0) 0x62)
  where
    go : (b : Bool) → OneOrTwo (cond b max_rings 1)
    go true = inr refl
    go false = inl refl

pub text_told : (t : List ℕ) → Told (text_labelled t)
text_told t i l =
    let r : ℕ = text_rings t in
    let x : ℕ = number (last (row t i)) in
    (ap (way_in r) (last_told r x), ap (label_in r) (last_told r x))

-- ---- the table

module _ (t : List ℕ) (a : None (text_checks t)) where
  abbrev rows : List Check
  rows = each (text_table t).rows (λ i. text_row_checks (text_rings t) (text_table t).elements (row t i) i)

  abbrev empty : List Check
  empty = refuse 5 (length t) ((text_table t).rows ≡ 0) ∷ []

  by_line : None (heading_checks (heading t) ++ (rows ++ empty))
  unfolding text_checks text_line_checks None
  by_line = a.1

  head : None (heading_checks (heading t))
  head = none_left (heading_checks (heading t)) (rows ++ empty) by_line

  rest : None (rows ++ empty)
  rest = none_right (heading_checks (heading t)) (rows ++ empty) by_line

  elements_right : (2 ≤ (text_table t).elements) × ((text_table t).elements ≤ max_elements)
  unfolding heading_checks None
  elements_right =
      let h : Part = heading t in
      let size : Check = placed (field h 1).start (wrong_elements (row_table 1 (number (field h 1)) h)) in
      limits (text_table t).elements 2 max_elements
      (none_right (number_checks (field h 1)) (missing_field (field h 1) ∷ spare_field (field h 2) ∷ size ∷ []) head.1).1.1.0

  row_right : (i : ℕ) → i < (text_table t).rows → None (text_row_checks (text_rings t) (text_table t).elements (row t i) i)
  row_right i l =
      none_at (λ j. text_row_checks (text_rings t) (text_table t).elements (row t j) j) (text_table t).rows i l (none_left rows empty rest)

  some_row : 1 ≤ (text_table t).rows
  unfolding None
  some_row = ⊎_elim (λ h. h) (λ h. absurd ((none_right rows empty rest).0 (omega (arith, h)))) (le_or_lt 1 (text_table t).rows)

  few_rows : (text_table t).rows ≤ max_rows
  unfolding text_row_checks None
  few_rows =
      ⊎_elim (λ h. h) (λ h. absurd ((row_right max_rows h).0 (omega arith))) (le_or_lt (text_table t).rows max_rows)

  row_passes : (i : ℕ) → i < (text_table t).rows → SoundRow (text_table t) i
  unfolding text_row_checks value_checks None
  row_passes i l =
      let v = none_right (form_checks (text_rings t) (row t i)) _ (row_right i l).1 in
      let s : SoundRow (row_table (text_rings t) (text_table t).elements (row t i)) 0 =
      row_sound (row_table (text_rings t) (text_table t).elements (row t i)) 0 (v.0, (v.1.0, (v.1.1.0, (v.1.1.1.0, tt)))) in
      record {
        first_low = s.first_low;
        first_high = s.first_high;
        second_low = s.second_low;
        second_high = s.second_high;
        ends_differ = s.ends_differ;
        period_low = s.period_low;
        period_high = s.period_high;
        cost_low = s.cost_low;
        cost_high = s.cost_high;
        way_known = s.way_known;
      }

  pub text_sound : Sound (text_table t)
  text_sound = record {
    elements_low = elements_right.0;
    elements_high = elements_right.1;
    rows_low = some_row;
    rows_high = few_rows;
    rings_few = ⊎_elim (λ e. omega (arith, e)) (λ e. omega (arith, e)) (text_rings_lem t);
    row = row_passes;
  }

-- ---- the version

pub version_known : (t : List ℕ) → Known (text_rings t) (text_version t)
unfolding text_version
version_known t = go (ℕ_discrete (text_rings t) max_rings) (any (text_table t).rows (λ i. some (last (row t i)).bytes))
  where
    one : (b : Bool) → text_rings t ≢ max_rings → Known (text_rings t) (cond b version_2 version_1)
    one true h = inr (refl, h)
    one false h = inl refl

    go : Dec (text_rings t ≡ max_rings) → (b : Bool)
        → Known (text_rings t) (cond (eqb (text_rings t) max_rings) version_1 (cond b version_2 version_1))
    go (yes e) b = inl (rw (eq-eqb (text_rings t) max_rings e))
    go (no h) b =
        subst (λ (x : Bool). Known (text_rings t) (cond x version_1 (cond b version_2 version_1))) (sym (ne_eqb (text_rings t) max_rings h))
        (one b h)

some_no : (xs : List ℕ) → (T (some xs) → ⊥) → xs ≡ []
some_no [] h = refl
some_no (x ∷ xs) h = absurd (h tt)

-- in version 1 no row has a label
pub version_bare : (t : List ℕ) (i : ℕ) → i < (text_table t).rows → text_version t ≡ version_1 → (text_labelled t).label i ≡ 0
unfolding text_version label_in
version_bare t i l e = go (ℕ_discrete (text_rings t) max_rings)
  where
    n : ℕ
    n = (text_table t).rows

    p : ℕ → Bool
    p j = some (last (row t j)).bytes

    none : (b : Bool) → any n p ≡ b → T b → cond b version_2 version_1 ≡ version_1 → ⊥
    none true z g q = let y : ⊥ = omega (arith, q) in y
    none false z g q = g

    go : Dec (text_rings t ≡ max_rings) → cond (eqb (text_rings t) max_rings) 0 (number (last (row t i))) ≡ 0
    go (yes w) = rw (eq-eqb (text_rings t) max_rings w)
    go (no w) =
        let q : cond (any n p) version_2 version_1 ≡ version_1 = rw (ne_eqb (text_rings t) max_rings w) at e in
        rw (ne_eqb (text_rings t) max_rings w)
        (empty_passes (last (row t i)) (some_no (last (row t i)).bytes (λ h. none (any n p) refl (any_of n p i l h) q))).1
