-- The analysis of each outcome, and that only one fits a file.
use mathlib.Core.Path.{◌≡◌, refl, sym, ap, ◌∙◌}
use mathlib.Core.List.{List, ◌++◌}
use Prim.Native.Nat.{ℕ}
use lib.ListN.{take}
use Rattle.std.specs.Prelude.{Result, Ok, Err}
use Rattle.rules.specs.Bus.{Table}
use Rattle.rules.specs.TableFile.{file_table}
use Rattle.rules.specs.Loads.{reported}
use Rattle.rules.specs.Refusals.{Check, Answers, given_checks, line_checks, bound_checks, verdict_checks}
use Rattle.rules.proofs.Answers.{None, none_of, stopped, joined, answers_only}
use Rattle.rules.proofs.Sets.{sets_only}
use Rattle.table.specs.Refusal.{number_of, number, place}
use Rattle.table.specs.declared.refusals.Refusal.{Refusal}
use Rattle.table.proofs.Reasons.{not_done, refused_not, same_refusal}
use Rattle.table.proofs.ByRow.{by_row_only}
use Rattle.outline.specs.declared.Outline.{Outline}
use Rattle.outline.proofs.Outlined.{line_numbered, found_only}
use Rattle.verdict.specs.declared.Loaded.{Loaded}
use Rattle.verdict.specs.declared.Analysis.{Analysis}
use Rattle.verdict.specs.Weighing.{Weighable, Weighs}
use Rattle.verdict.specs.Analysed.{table_checks, Rated, Analysed}
use Rattle.verdict.proofs.Bound.{table_none, table_admissible, given_stops, given_passes}

-- ---- the analysis of each outcome

-- past checks of which none applies
pub analysed_after : (cs ds : List Check) → None cs → {t : Table} {a : Result Analysis Refusal} → Analysed ds t a
    → Analysed (cs ++ ds) t a
analysed_after cs ds none {t} {a} A = record { answers = joined cs ds (number a) (place a) none A.answers; found = A.found }

module _ (t : Table) where
  pub bound_refused : (r : Refusal) → Answers (bound_checks t) (number_of r.reason) r.place → Analysed (bound_checks t) t (Err r)
  bound_refused r a = record { answers = a; found = tt }

  -- 10 or 11
  pub analysed_first : (r : Refusal) → Answers (line_checks t) (number_of r.reason) r.place → Analysed (table_checks t) t (Err r)
  analysed_first r a = record {
    answers = stopped (line_checks t) (bound_checks t) (number_of r.reason) r.place (not_done r.reason) a;
    found = tt;
  }

  module _ {o : Outline} {i : ℕ} {xs : List ℕ} (R : Rated t o i xs) where
    pub line_none : None (line_checks t)
    line_none = none_of (line_checks t) 0 (line_numbered t) R.outlined.answers

    -- 13 and 14 alone
    pub bound_passed : {w : Loaded} → Weighs t (Ok w) → Analysed (bound_checks t) t (Ok (record { outline = o; load = w.load; rate = xs }))
    bound_passed W =
        let F = R.outlined.found in
        let s = F.timed.sound in
        let v = W.done in
        record {
          answers = W.answers;
          found = record {
            outline = F;
            admissible = table_admissible t s (table_none t line_none W.answers);
            rate = R.weighed.rate;
            load = v.3 ∙ ap (reported t) (sets_only s.rows_low v.1 F.list);
          };
        }

    pub rated_weighable : Weighable t t.rows i o.time o.top o.first o.second xs
    rated_weighable =
        let F = R.outlined.found in
        record {
          rows_is = refl;
          weighed = R.weighed;
          timed = F.timed;
          clear = F.clear;
          top_is = F.top;
          first = F.first;
          second = F.second;
        }

    -- 13 or 14
    pub analysed_next : (r : Refusal) → Answers (bound_checks t) (number_of r.reason) r.place → Analysed (table_checks t) t (Err r)
    analysed_next r a = analysed_after (line_checks t) (bound_checks t) line_none (bound_refused r a)

    -- none
    pub analysed_done : {w : Loaded} → Weighs t (Ok w) → Analysed (table_checks t) t (Ok (record { outline = o; load = w.load; rate = xs }))
    analysed_done W = analysed_after (line_checks t) (bound_checks t) line_none (bound_passed W)

-- ---- of a file

module _ (f : List ℕ) where
  pub analysed_given : (r : Refusal) → Answers (given_checks f) (number_of r.reason) r.place
      → Analysed (verdict_checks f) (file_table f) (Err r)
  analysed_given r a = record { answers = given_stops f r a; found = tt }

  -- past these checks its table's analysis is the file's
  pub analysed_past : Answers (given_checks f) 0 0 → {a : Result Analysis Refusal} → Analysed (table_checks (file_table f)) (file_table f) a
      → Analysed (verdict_checks f) (file_table f) a
  analysed_past c {a} A = record { answers = given_passes f c (number a) (place a) A.answers; found = A.found }

-- ---- only one analysis fits

pub analysed_only : {cs : List Check} {t : Table} {a b : Result Analysis Refusal} → Analysed cs t a → Analysed cs t b → a ≡ b
analysed_only {t = t} {a = Ok x} {b = Ok y} A B =
    let e : x.outline ≡ y.outline = found_only A.found.outline B.found.outline in
    let load : x.load ≡ y.load =
    A.found.load ∙ ap (λ (o : Outline). reported t (take o.sets o.words)) e ∙ sym B.found.load in
    λ k. Ok (record { outline = e k; load = load k; rate = by_row_only A.found.rate B.found.rate k })
analysed_only {cs} {a = Ok x} {b = Err r} A B = refused_not cs r A.answers B.answers
analysed_only {cs} {a = Err r} {b = Ok x} A B = refused_not cs r B.answers A.answers
analysed_only {cs} {a = Err r} {b = Err s} A B =
    same_refusal cs r s A.answers B.answers
