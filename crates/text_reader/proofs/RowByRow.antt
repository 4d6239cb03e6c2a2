-- Rows read one after the other.
--
--   checks_of_row t i        what is refused of row i of text t
--   has_last t i          row i has a last field
--   Reading t was now i b r    the lines before r are i rows of text t that pass; `now` has their numbers at its front, and b says whether
--                        one of them has a last field
use mathlib.Core.Path.{◌≡◌, refl, sym, ap, ap₂, subst, ◌∙◌}
use mathlib.Core.Logic.{◌≢◌}
use mathlib.Core.Bool.{Bool, true, false, ◌||◌}
use mathlib.Core.List.{List, [], ◌∷◌}
use Prim.Native.Nat.{ℕ, suc, ◌+◌, ◌*◌, ◌≤◌, ◌<◌}
use native.Mathlib.Nat.{add-zero}
use native.Mathlib.Omega.{arith}
use lib.ListN.{length, drop, get_or, length-drop}
use lib.Seq.{sets, get_or-drop, drop-drop}
use Rattle.numbers.specs.Decides.{Decides}
use Rattle.numbers.specs.Finite.{any}
use Rattle.numbers.specs.Lists.{each}
use Rattle.numbers.proofs.Finite.{any_next}
use Rattle.numbers.proofs.Lists.{Filled, filled_start}
use Rattle.numbers.proofs.Codec.{filled_row}
use Rattle.rules.specs.Bounds.{max_rows}
use Rattle.rules.specs.TableFile.{row_numbers, last_of, memory_row, numbers}
use Rattle.rules.specs.Refusals.{Check, Answers}
use Rattle.rules.proofs.Answers.{None, none_of, none_next, answered, stopped_at}
use Rattle.rules.proofs.Calls.{filled_lent}
use Rattle.table.specs.Rows.{in_memory}
use Rattle.round_trip.proofs.RoundTrip.{last_told}
use Rattle.grammar.specs.TableText.{Part, part, some, lines, last, row, number, text_rings, text_table, text_labelled, text_row_checks}
use Rattle.text_reader.specs.declared.fields.Line.{Line}
use Rattle.text_reader.specs.Walk.{lines_at, line_of, IsNextLine}
use Rattle.std.specs.Prelude.{Ok, Err}
use Rattle.table.specs.declared.Row.{Row}
use Rattle.text_reader.specs.Faults.{number_of}
use Rattle.text_reader.specs.declared.faults.Fault.{Fault}
use Rattle.text_reader.proofs.Wrongs.{not_done}
use Rattle.text_reader.specs.Reading.{IsRowOf, IsRowAt, Rest, AreRows}
use Rattle.text_reader.proofs.Lines.{row_numbered}

abbrev checks_of_row : List ℕ → ℕ → List Check
checks_of_row t i = text_row_checks (text_rings t) (text_table t).elements (row t i) i

abbrev has_last : List ℕ → ℕ → Bool
has_last t i = some (last (row t i)).bytes

pub record Reading (t was now : List ℕ) (i : ℕ) (labelled : Bool) (r : Line) : Type 0 where
  pub from : ℕ
  pub next : IsNextLine t from r
  pub left : drop (suc i) (lines t) ≡ lines_at t from
  pub there : i < length (lines t)
  pub few : i ≤ max_rows
  pub none : None (each i (checks_of_row t))
  pub filled : Filled was now (row_numbers * i) (each i (memory_row (text_labelled t)))
  pub labels : labelled ≡ any i (has_last t)

pub reading_start : {t : List ℕ} {k : ℕ} {r : Line} (was : List ℕ) → Rest t k → IsNextLine t k r → Reading t was was 0 false r
unfolding each None any
reading_start {k = k} was R n = record {
  from = k;
  next = n;
  left = R.left;
  there = omega (arith, R.there);
  few = omega arith;
  none = tt;
  filled = filled_start was;
  labels = refl;
}

-- the test whether a field is there, as the test whether it has bytes
tested : (b : Bool) (xs : List ℕ) → Decides (xs ≢ []) b → b ≡ some xs
tested true [] d = absurd (d.holds refl refl)
tested false [] d = refl
tested true (x ∷ xs) d = refl
tested false (x ∷ xs) d =
    absurd (d.fails refl (λ e. let z : suc (length xs) ≡ 0 = ap length e in let w : ⊥ = omega (arith, z) in w))

module _ {t was now : List ℕ} {i : ℕ} {labelled : Bool} {r : Line} (R : Reading t was now i labelled r) where
  abbrev end : Part
  end = part (length t) []

  -- ---- one line more

  module _ (g : r.start < r.end) where
    rest : drop (suc i) (lines t) ≡ line_of t r ∷ lines_at t r.next
    rest = R.left ∙ R.next.one g

    pub this_row : row t i ≡ line_of t r
    this_row =
        ap (λ (k : ℕ). get_or (lines t) k end) (sym (add-zero (suc i))) ∙ sym (get_or-drop (suc i) (lines t) 0 end)
        ∙ ap (λ (qs : List Part). get_or qs 0 end) rest

    more : suc i < length (lines t)
    more = omega (arith, ap length rest, length-drop (suc i) (lines t))

    pub is_one : i < (text_table t).rows
    is_one = omega (arith, more)

    here : (n p : ℕ) → Answers (text_row_checks (text_rings t) (text_table t).elements (line_of t r) i) n p
        → Answers (checks_of_row t i) n p
    here n p a =
        subst (λ (l : Part). Answers (text_row_checks (text_rings t) (text_table t).elements l i) n p) (sym this_row) a

    pub reading_stop : (f : Fault) → IsRowAt (text_rings t) (text_table t).elements (line_of t r) i (Err f)
        → Answers (each (text_table t).rows (checks_of_row t)) (number_of f.wrong) f.place
    reading_stop f h =
        stopped_at (checks_of_row t) (text_table t).rows i (number_of f.wrong) f.place is_one (not_done f.wrong) R.none (here _ _ h.answers)

    module _ {x : Row} (h : IsRowAt (text_rings t) (text_table t).elements (line_of t r) i (Ok x)) where
      -- its five numbers are those of the table's row
      in_memory_lem : in_memory 1 x ≡ memory_row (text_labelled t) i
      unfolding last_of
      in_memory_lem =
          let q : IsRowOf (row t i) x = subst (λ (l : Part). IsRowOf l x) (sym this_row) h.row in
          rw (q.cost, q.period, q.first, q.second, q.label, last_told (text_rings t) (number (last (row t i))))

      pub reading_next : (now' : List ℕ) (b labelled' : Bool) (s : Line) → row_numbers * max_rows ≤ length was
          → now' ≡ sets now (row_numbers * i) (in_memory 1 x) → Decides ((last (line_of t r)).bytes ≢ []) b
          → labelled' ≡ (labelled || b)
          → IsNextLine t r.next s → Reading t was now' (i + 1) labelled' s
      reading_next now' b labelled' s room o d q n =
          let few : i < max_rows = h.few in
          let l : suc i + 1 ≡ suc (i + 1) = omega arith in
          let one : b ≡ has_last t i = tested b _ d ∙ ap (λ (l : Part). some (last l).bytes) (sym this_row) in
          record {
            from = r.next;
            next = n;
            left =
                ap (λ (k : ℕ). drop k (lines t)) (sym l) ∙ sym (drop-drop 1 (suc i) (lines t)) ∙ ap (drop 1) rest;
            there = omega (arith, more);
            few = omega arith;
            none =
                none_next (checks_of_row t) i R.none
                (none_of (checks_of_row t i) 0 (row_numbered (text_rings t) (text_table t).elements (row t i) i) (here _ _ h.answers));
            filled = filled_row [] _ _ _ R.filled o in_memory_lem (omega arith) (omega (arith, room));
            labels = q ∙ ap₂ ◌||◌ R.labels one ∙ sym (any_next i (has_last t));
          }

  -- ---- no more lines

  module _ (g : r.end ≤ r.start) where
    all : i ≡ (text_table t).rows
    all =
        let nil : drop (suc i) (lines t) ≡ [] = R.left ∙ (R.next.none (omega (arith, R.next.ordered))).0 in
        omega (arith, ap length nil, length-drop (suc i) (lines t), R.there)

    pub reading_end : AreRows t was now (Ok (record { rows = i; labelled = labelled }))
    unfolding numbers
    reading_end = record {
      answers = answered (each (text_table t).rows (checks_of_row t)) (rw all at R.none);
      rows = all;
      few = R.few;
      labelled = R.labels ∙ ap (λ (n : ℕ). any n (has_last t)) all;
      holds = rw all at (filled_lent R.filled);
      same = R.filled.same;
    }

-- a refusal has nothing to say of rows
pub reading_refused : (t was now : List ℕ) (f : Fault) → Answers (each (text_table t).rows (checks_of_row t)) (number_of f.wrong) f.place
    → length now ≡ length was → AreRows t was now (Err f)
reading_refused t was now f a e = record {
  answers = a;
  rows = tt;
  few = tt;
  labelled = tt;
  holds = tt;
  same = e;
}
