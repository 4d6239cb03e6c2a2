-- A layout with the list of its sets is the table's outline, and only one layout fits.
--
--   with_sets t l k ws    the outline that the layout l of table t and the first k of the words ws make up
use mathlib.Core.Path.{◌≡◌, refl, sym, ap, ◌∙◌}
use mathlib.Core.List.{List}
use Prim.Native.Nat.{ℕ}
use lib.ListN.{take}
use Rattle.std.specs.Prelude.{Result, Ok, Err}
use Rattle.numbers.specs.Lists.{at}
use Rattle.rules.specs.Bus.{Table}
use Rattle.rules.specs.Refusals.{line_checks}
use Rattle.rules.proofs.Answers.{answered, answers_only}
use Rattle.table.specs.declared.refusals.Refusal.{Refusal}
use Rattle.table.proofs.Reasons.{refused_not, same_refusal}
use Rattle.table.proofs.ByRow.{by_row_only}
use Rattle.sets.specs.Sets.{OnLine, SetWords}
use Rattle.outline.specs.declared.Layout.{Layout}
use Rattle.outline.specs.declared.Outline.{Outline}
use Rattle.outline.specs.Layout.{Lies, LaidInto, LaidOut}
use Rattle.outline.specs.Outlined.{Found}
use Rattle.outline.proofs.Sets.{Ends, ends_on_line, ring_list}
use Rattle.time.proofs.Periods.{time_only}
use Rattle.outline.proofs.Outlined.{line_none}

-- ---- no check refuses

pub laid_found : (t : Table) {o l : Layout} → Lies t l → LaidInto t o (Ok tt) l
laid_found t L = record { answers = answered (line_checks t) (line_none t L.clear L.timed.short); found = L; kept = tt }

pub laid_in : {t : Table} {o l : Layout} → LaidInto t o (Ok tt) l → LaidOut t (Ok l)
laid_in I = record { answers = I.answers; found = I.found }

-- ---- the rows on the line, and their sets

abbrev pub with_sets : Table → Layout → ℕ → List ℕ → Outline
with_sets t l k ws = record {
  elements = t.elements;
  rows = t.rows;
  cut = l.cut;
  other = l.other;
  top = l.top;
  time = l.time;
  first = l.line.first;
  second = l.line.second;
  sets = k;
  words = ws;
}

module _ {t : Table} {l : Layout} (L : Lies t l) where
  lies_ends : Ends t (at l.line.first) (at l.line.second)
  lies_ends i m = (L.first.row i m, L.second.row i m)

  pub lies_on_line : OnLine t.rows (at l.line.first) (at l.line.second) l.top
  lies_on_line = rw L.top (ends_on_line t L.timed.sound L.clear _ _ lies_ends)

  pub found_laid : (k : ℕ) (ws : List ℕ) → SetWords t.rows (at l.line.first) (at l.line.second) k ws → Found t (with_sets t l k ws)
  found_laid k ws S = record {
    timed = L.timed;
    clear = L.clear;
    elements = refl;
    rows = refl;
    cut = L.cut;
    other = L.other;
    top = L.top;
    first = L.first;
    second = L.second;
    few = S.few;
    list = ring_list t L.timed.sound L.clear _ _ lies_ends (take k ws) S.sets;
    size = S.size;
    rest = S.rest;
  }

-- ---- only one layout fits

lies_only : {t : Table} {l m : Layout} → Lies t l → Lies t m → l ≡ m
lies_only L M = λ k. record {
  cut = (L.cut ∙ sym M.cut) k;
  other = (L.other ∙ sym M.other) k;
  top = (L.top ∙ sym M.top) k;
  time = time_only L.timed M.timed k;
  line = record { first = by_row_only L.first M.first k; second = by_row_only L.second M.second k };
}

pub laid_only : {t : Table} {l m : Result Layout Refusal} → LaidOut t l → LaidOut t m → l ≡ m
laid_only {l = Ok a} {m = Ok b} L M = ap Ok (lies_only L.found M.found)
laid_only {t} {l = Ok a} {m = Err r} L M = refused_not (line_checks t) r L.answers M.answers
laid_only {t} {l = Err r} {m = Ok a} L M = refused_not (line_checks t) r M.answers L.answers
laid_only {t} {l = Err r} {m = Err s} L M =
    same_refusal (line_checks t) r s L.answers M.answers

pub laid_into_only : {t : Table} {o l m : Layout} {r s : Result Unit Refusal} → LaidInto t o r l → LaidInto t o s m → (r ≡ s) × (l ≡ m)
laid_into_only {r = Ok a} {s = Ok b} L M = (refl, lies_only L.found M.found)
laid_into_only {t} {r = Ok a} {s = Err e} L M = refused_not (line_checks t) e L.answers M.answers
laid_into_only {t} {r = Err e} {s = Ok b} L M = refused_not (line_checks t) e M.answers L.answers
laid_into_only {t} {r = Err e} {s = Err f} L M = (same_refusal (line_checks t) e f L.answers M.answers, L.kept ∙ sym M.kept)
