-- What is answered of two rows: 1 to 9, then 32, then the segments that they share.
use mathlib.Core.Path.{◌≡◌, refl, ap, ◌∙◌}
use mathlib.Core.List.{List, [], ◌∷◌}
use Prim.Native.Nat.{ℕ, ◌≤◌, ◌<◌}
use native.Mathlib.Omega.{arith}
use Rattle.rules.specs.Bus.{Table, uses, shared}
use Rattle.rules.specs.TableFile.{file_table}
use Rattle.rules.specs.Refusals.{Check, Answers, no_row, file_checks, shared_checks}
use Rattle.rules.specs.Calls.{Met}
use Rattle.rules.proofs.Answers.{None, applied, passed, done, stopped, joined, none_of}
use Rattle.table.specs.Columns.{table_of, Holds}
use Rattle.table.specs.Refusal.{number_of}
use Rattle.table.specs.declared.columns.Columns.{Columns}
use Rattle.table.specs.declared.refusals.Refusal.{Refusal}
use Rattle.table.proofs.Faults.{file_numbered, passed_none}
use Rattle.table.proofs.Reasons.{not_done}
use Rattle.ring.specs.Rows.{RoutesOf, rings_of}
use Rattle.ring.proofs.Rows.{sound_routes}

module _ (f : List ℕ) (i j : ℕ) where
  abbrev t : Table
  t = file_table f

  abbrev no_first : Check
  no_first = no_row t 0 i

  abbrev no_second : Check
  no_second = no_row t 1 j

  -- 1 to 9 refuse
  pub met_refused : (r : Refusal) → Answers (file_checks f) (number_of r.reason) r.place → Met f i j (number_of r.reason) r.place 0
  unfolding shared_checks
  met_refused r A = record {
    answers = stopped (file_checks f) (no_first ∷ no_second ∷ []) _ _ (not_done r.reason) A;
    done = λ e. absurd (not_done r.reason e);
    refused = λ e. refl;
  }

  -- they do not, and the columns hold the table
  module _ {c : Columns} (A : Answers (file_checks f) 0 0) (H : Holds t c) where
    none : None (file_checks f)
    none = none_of (file_checks f) 0 (file_numbered f) A

    rows_are : c.rows ≡ t.rows
    rows_are = ap (λ (u : Table). u.rows) H.table

    pub met_routes : RoutesOf c c.rows
    met_routes = sound_routes {t = table_of c} (rw H.table (passed_none f none).sound)

    -- 32 refuses
    pub no_first_row : c.rows ≤ i → Met f i j 32 0 0
    unfolding shared_checks
    no_first_row l = record {
      answers = joined (file_checks f) _ 32 0 none (applied no_first (no_second ∷ []) 32 0 (omega (arith, rows_are)) refl refl);
      done = λ q. absurd (omega (arith, q));
      refused = λ q. refl;
    }

    module _ (l : i < c.rows) where
      first_there : t.rows ≤ i → ⊥
      first_there m = omega (arith, rows_are)

      pub no_second_row : c.rows ≤ j → Met f i j 32 1 0
      unfolding shared_checks
      no_second_row k = record {
        answers =
            joined (file_checks f) _ 32 1 none
            (passed no_first (no_second ∷ []) 32 1 first_there (applied no_second [] 32 1 (omega (arith, rows_are)) refl refl));
        done = λ q. absurd (omega (arith, q));
        refused = λ q. refl;
      }

      -- nothing does
      pub met_done : {w : ℕ} → j < c.rows → w ≡ shared (rings_of c c.rows) i j → Met f i j 0 0 w
      unfolding shared_checks shared uses
      met_done k q = record {
        answers =
            joined (file_checks f) _ 0 0 none
            (passed no_first (no_second ∷ []) 0 0 first_there
            (passed no_second [] 0 0 (λ (m : t.rows ≤ j). omega (arith, rows_are)) done));
        done = λ z. q ∙ ap (λ (u : Table). shared u i j) H.table;
        refused = λ h. absurd (h refl);
      }
