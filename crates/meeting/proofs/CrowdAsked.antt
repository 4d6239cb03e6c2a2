-- What is answered of a set: 1 to 9, 18, 10 and 11, then 32, then its rows and where they meet.
use mathlib.Core.Path.{◌≡◌, refl, sym, ap, subst, ◌∙◌}
use mathlib.Core.Bool.{not, ◌||◌}
use mathlib.Core.List.{List, [], ◌∷◌}
use Prim.Native.Nat.{ℕ, ◌≤◌, ◌<◌}
use native.Mathlib.Omega.{arith}
use lib.ListN.{length, take}
use lib.Seq.{get_or-take}
use Rattle.numbers.specs.Lists.{at}
use Rattle.numbers.specs.Word.{bit}
use Rattle.rules.specs.Bounds.{max_rows}
use Rattle.rules.specs.Bus.{Table, common}
use Rattle.rules.specs.TableFile.{file_table}
use Rattle.rules.specs.Refusals.{Check, Answers, no_set, given_checks, line_checks, set_checks}
use Rattle.rules.specs.Calls.{Crowded}
use Rattle.rules.proofs.Answers.{None, applied, passed, done, stopped, joined, none_of, none_join}
use Rattle.rules.proofs.Sets.{sets_only}
use Rattle.std.specs.Prelude.{Result, Ok, Err}
use Rattle.table.specs.Sound.{Sound}
use Rattle.table.specs.Columns.{table_of, Holds, ByRow}
use Rattle.table.specs.Refusal.{number_of}
use Rattle.table.specs.declared.columns.Columns.{Columns}
use Rattle.table.specs.declared.refusals.Refusal.{Refusal}
use Rattle.table.proofs.Reasons.{not_done}
use Rattle.ring.specs.Rows.{RoutesOf, segments_of}
use Rattle.ring.proofs.Rows.{sound_routes}
use Rattle.outline.specs.declared.Outline.{Outline}
use Rattle.outline.specs.Layout.{table_with}
use Rattle.outline.specs.Outlined.{outline_checks, Outlined, Found}
use Rattle.pasted.proofs.AsGiven.{given_numbered, given_passed}
use Rattle.outline.proofs.Outlined.{line_numbered, outlined_given, found_few, found_count}
use Rattle.meeting.proofs.Left.{left, common_is}

module _ (f : List ℕ) (k : ℕ) where
  abbrev t : Table
  t = file_table f

  abbrev past : List Check
  past = no_set t k ∷ []

  -- a check of the outline refuses
  unlined : (r : Refusal) → Answers (outline_checks f) (number_of r.reason) r.place → Crowded f k (number_of r.reason) r.place 0 0
  unfolding set_checks
  unlined r A = record {
    answers = stopped (outline_checks f) past _ _ (not_done r.reason) A;
    done = λ e. absurd (not_done r.reason e);
    refused = λ e. (refl, refl);
  }

  -- 1 to 9 or 18 refuse
  pub crowd_given : (r : Refusal) → Answers (given_checks f) (number_of r.reason) r.place → Crowded f k (number_of r.reason) r.place 0 0
  crowd_given r A = unlined r (outlined_given f r A)

  -- they do not, and the columns hold the table
  module _ {c : Columns} (A : Answers (given_checks f) 0 0) (H : Holds t c) where
    none : None (given_checks f)
    none = none_of (given_checks f) 0 (given_numbered f) A

    pub crowd_sound : Sound (table_of c)
    crowd_sound = rw H.table (given_passed f none).sound

    pub crowd_routes : RoutesOf c c.rows
    crowd_routes = sound_routes {t = table_of c} crowd_sound

    -- what is said of the outline, whatever the costs
    abbrev Lined : Result Outline Refusal → Type 0
    Lined r =
        (cost : ℕ → ℕ) → Sound (table_with cost c) → Outlined (line_checks (table_with cost c)) (table_with cost c) r

    of_file : {r : Result Outline Refusal} → Lined r → Outlined (line_checks t) t r
    of_file {r} L = subst (λ (u : Table). Outlined (line_checks u) u r) H.table (L (at c.cost) crowd_sound)

    -- 10 or 11 refuses
    pub crowd_line : (r : Refusal) → Lined (Err r) → Crowded f k (number_of r.reason) r.place 0 0
    crowd_line r L = unlined r (joined (given_checks f) (line_checks t) _ _ none (of_file L).answers)

    module _ {o : Outline} (L : Lined (Ok o)) where
      found : Found t o
      found = (of_file L).found

      pub crowd_few : o.sets ≤ max_rows
      crowd_few = found_few found

      abbrev sets : List ℕ
      sets = take o.sets o.words

      all_none : None (outline_checks f)
      all_none =
          none_join (given_checks f) (line_checks t) none
          (none_of (line_checks t) 0 (line_numbered t) (of_file L).answers)

      -- 32 refuses
      pub crowd_past : o.sets ≤ k → Crowded f k 32 0 0 0
      unfolding set_checks
      crowd_past l = record {
        answers =
            joined (outline_checks f) past 32 0 all_none
            (applied (no_set t k) [] 32 0 (sets, found.list, omega (arith, found_count found)) refl refl);
        done = λ q. absurd (omega (arith, q));
        refused = λ q. (refl, refl);
      }

      module _ (l : k < o.sets) where
        there : (no_set t k).applies → ⊥
        there w =
            let e = sets_only (given_passed f none).sound.rows_low w.1 found.list in
            omega (arith, w.2, ap length e, found_count found)

        at_is : at o.words k ≡ at sets k
        at_is = sym (get_or-take o.sets o.words k 0 l)

        -- nothing does
        pub crowd_done : {s : ℕ} (ws : List ℕ) → ByRow c.rows (segments_of c) ws
            → s ≡ left c.elements c.rows (λ i s. not (bit (at o.words k) i) || bit (at ws i) s) → Crowded f k 0 0 (at o.words k) s
        unfolding set_checks
        crowd_done ws B h = record {
          answers = joined (outline_checks f) past 0 0 all_none (passed (no_set t k) [] 0 0 there done);
          done = λ z. (
            sets,
            found.list,
            omega (arith, found_count found),
            at_is,
            h ∙ common_is (table_of c) (bit (at o.words k)) ws B ∙ ap (λ (u : Table). common u (bit (at o.words k))) H.table
                ∙ ap (λ (v : ℕ). common t (bit v)) at_is,
          );
          refused = λ z. absurd (z refl);
        }
