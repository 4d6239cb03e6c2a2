-- The verdict of each outcome, that only one fits a file, and demand 2.
use mathlib.Core.Path.{◌≡◌, refl, sym, ap, ◌∙◌}
use mathlib.Core.Logic.{◌↔◌}
use mathlib.Core.List.{List}
use Prim.Native.Nat.{ℕ, ◌≤◌}
use native.Mathlib.Omega.{arith}
use lib.ListN.{length, take}
use Rattle.std.specs.Prelude.{Result, Ok, Err}
use Rattle.rules.specs.Bounds.{max_rows}
use Rattle.rules.specs.Bus.{Table}
use Rattle.rules.specs.TableFile.{file_table}
use Rattle.rules.specs.Loads.{reported}
use Rattle.rules.specs.Refusals.{Check, Answers, given_checks, line_checks, bound_checks}
use Rattle.rules.specs.Calls as calls
use Rattle.rules.proofs.Answers.{None, Numbered, none_of, stopped, joined, answered, answers_only, none_position, position_none}
use Rattle.rules.proofs.Sets.{sets_only}
use Rattle.table.specs.Refusal.{number_of, number, place}
use Rattle.table.specs.declared.refusals.Refusal.{Refusal}
use Rattle.table.proofs.Reasons.{not_done, refused_not, same_refusal}
use Rattle.outline.specs.declared.Layout.{Layout}
use Rattle.outline.specs.declared.Outline.{Outline}
use Rattle.outline.specs.Layout.{LaidOut}
use Rattle.outline.proofs.Outlined.{line_numbered, found_count}
use Rattle.verdict.specs.declared.Loaded.{Loaded}
use Rattle.verdict.specs.declared.Admitted.{Admitted}
use Rattle.verdict.specs.Weighing.{RowsWeighed, Weighable, Weighs}
use Rattle.verdict.specs.declared.Analysis.{Analysis}
use Rattle.verdict.specs.Analysed.{table_checks, Accepted, Analysed}
use Rattle.verdict.specs.Verdict.{JudgedBy, IsVerdict, VerdictOn}
use Rattle.verdict.specs.Demand.{Unrefused, Demand2}
use Rattle.verdict.proofs.Bound.{verdict_numbered, sets_exist, table_none, table_admissible, given_passes, admissible_of}
use Rattle.verdict.proofs.Weighed.{reported_small}

-- ---- the verdict of each outcome

pub judged_refused : {cs : List Check} {t : Table} (r : Refusal) → Answers cs (number_of r.reason) r.place → JudgedBy cs t (Err r)
judged_refused r a = record { answers = a; done = λ e. absurd (not_done r.reason e); refused = λ e. (refl, refl, refl, refl, refl, refl) }

-- 10 or 11
pub judged_first : (t : Table) (r : Refusal) → Answers (line_checks t) (number_of r.reason) r.place → JudgedBy (table_checks t) t (Err r)
judged_first t r a =
    judged_refused r (stopped (line_checks t) (bound_checks t) (number_of r.reason) r.place (not_done r.reason) a)

module _ {t : Table} {l : Layout} (A : LaidOut t (Ok l)) where
  -- what is weighed
  pub laid_weighable : {i : ℕ} {xs : List ℕ} → RowsWeighed t i xs → Weighable t t.rows i l.time l.top l.line.first l.line.second xs
  laid_weighable w =
      let L = A.found in
      record {
        rows_is = refl;
        weighed = w;
        timed = L.timed;
        clear = L.clear;
        top_is = L.top;
        first = L.first;
        second = L.second;
      }

  none_line : None (line_checks t)
  none_line = none_of (line_checks t) 0 (line_numbered t) A.answers

  -- 13 or 14
  pub judged_next : (r : Refusal) → Answers (bound_checks t) (number_of r.reason) r.place → JudgedBy (table_checks t) t (Err r)
  judged_next r a = judged_refused r (joined (line_checks t) (bound_checks t) (number_of r.reason) r.place none_line a)

  module _ {w : Loaded} (W : Weighs t (Ok w)) where
    none : None (table_checks t)
    none = table_none t none_line W.answers

    -- none
    pub judged_admitted : JudgedBy (table_checks t) t (Ok (record {
      cut = l.cut;
      other = l.other;
      interval = l.time.interval;
      hyper = l.time.hyper;
      load = w.load;
      sets = w.sets;
    }))
    judged_admitted =
        let L = A.found in
        let v = W.done in
        record {
          answers = answered (table_checks t) none;
          done = λ e. record {
            list = v.0;
            listed = v.1;
            cut_is = L.cut;
            second_is = L.other;
            interval_is = L.timed.interval;
            hyper_is = L.timed.hyper;
            load_is = v.3;
            sets_is = v.2;
          };
          refused = λ h. absurd (h refl);
        }

    -- the values fit
    pub values_small : (w.load ≤ 1000) × (w.sets ≤ max_rows)
    values_small =
        let s = A.found.timed.sound in
        let v = W.done in
        let few = sets_exist t s A.found.clear in (
          omega (arith, v.3, reported_small (table_admissible t s none) v.0 v.1),
          omega (arith, v.2, ap length (sets_only s.rows_low v.1 few.1), few.2),
        )

-- what an analysis that admits a table says of it
module _ {t : Table} {a : Analysis} (F : Accepted t a) where
  abbrev found : Outline
  found = a.outline

  pub accepted_values : calls.Admitted t found.cut found.other found.time.interval found.time.hyper a.load found.sets
  accepted_values =
      let o = F.outline in
      record {
        list = take a.outline.sets a.outline.words;
        listed = o.list;
        cut_is = o.cut;
        second_is = o.other;
        interval_is = o.timed.interval;
        hyper_is = o.timed.hyper;
        load_is = F.load;
        sets_is = sym (found_count o);
      }

  pub accepted_small : a.load ≤ 1000
  accepted_small = omega (arith, F.load, reported_small F.admissible (take a.outline.sets a.outline.words) F.outline.list)

-- so it is the verdict by the checks that the analysis answers
pub judged_on : {cs : List Check} {t : Table} {a : Result Analysis Refusal} {r : Result Admitted Refusal} → Numbered cs
    → Analysed cs t a → VerdictOn a r → JudgedBy cs t r
judged_on {cs} {t} {a = Ok x} N A W =
    let v = W.done t A.found in
    let none = none_of cs 0 N A.answers in
    record { answers = rw (v.0, v.1) (answered cs none); done = λ e. v.2; refused = λ h. absurd (h v.0) }
judged_on {a = Err e} N A W = rw W.refused (judged_refused e A.answers)

-- past the checks of a table as it is given its verdict is the file's
pub judged_past : (f : List ℕ) → Answers (given_checks f) 0 0
    → (r : Result Admitted Refusal) → JudgedBy (table_checks (file_table f)) (file_table f) r → IsVerdict f r
judged_past f a r J = record { answers = given_passes f a (number r) (place r) J.answers; done = J.done; refused = J.refused }

-- ---- only one verdict fits

module _ {cs : List Check} {t : Table} (some : None cs → 1 ≤ t.rows) (numbered : Numbered cs) where
  admitted_only : (a b : Admitted) → JudgedBy cs t (Ok a) → JudgedBy cs t (Ok b) → a ≡ b
  admitted_only a b X Y =
      let A = X.done refl in
      let B = Y.done refl in
      let e : A.list ≡ B.list = sets_only (some (none_of cs 0 numbered X.answers)) A.listed B.listed in
      λ k. record {
        cut = (A.cut_is ∙ sym B.cut_is) k;
        other = (A.second_is ∙ sym B.second_is) k;
        interval = (A.interval_is ∙ sym B.interval_is) k;
        hyper = (A.hyper_is ∙ sym B.hyper_is) k;
        load = (A.load_is ∙ ap (reported t) e ∙ sym B.load_is) k;
        sets = (A.sets_is ∙ ap length e ∙ sym B.sets_is) k;
      }

  pub judged_by_only : (r s : Result Admitted Refusal) → JudgedBy cs t r → JudgedBy cs t s → r ≡ s
  judged_by_only (Ok a) (Ok b) X Y = ap Ok (admitted_only a b X Y)
  judged_by_only (Ok a) (Err r) X Y = refused_not cs r X.answers Y.answers
  judged_by_only (Err r) (Ok a) X Y = refused_not cs r Y.answers X.answers
  judged_by_only (Err r) (Err s) X Y =
      same_refusal cs r s X.answers Y.answers

module _ (f : List ℕ) where
  pub judged_only : (r s : Result Admitted Refusal) → IsVerdict f r → IsVerdict f s → r ≡ s
  judged_only = judged_by_only (λ n. (admissible_of f n).sound.rows_low) (verdict_numbered f)

-- ---- demand 2

pub admits_by : {cs : List Check} {t : Table} → Numbered cs → (r : Result Admitted Refusal) → JudgedBy cs t r
    → (number r ≡ 0) ↔ Unrefused cs
admits_by {cs} N r X = (
  λ z. none_position cs (none_of cs _ N (rw z at X.answers)),
  λ u. (answers_only cs _ 0 _ 0 X.answers (answered cs (position_none cs u))).0,
)

pub demand_2 : (f : List ℕ) (r : Result Admitted Refusal) → IsVerdict f r → Demand2 f r
demand_2 f = admits_by (verdict_numbered f)
