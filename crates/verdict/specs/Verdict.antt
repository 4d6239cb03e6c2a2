-- The verdict as document 01's values of an admitted table, and what it is for each of its cases.
--
--   cut_of, other_of, interval_of, hyper_of, load_of, sets_of
--                          the cuts, clockwise first, L, h, reported load and number of sets; 0 on a refusal
--   JudgedBy cs t r        r is the verdict on table t by the checks cs
--   IsVerdict f r          r is the verdict on file f
--   VerdictOn a r          r is the verdict that the analysis a amounts to
use Rattle.std.specs.Prelude.{◌≡◌, List, ℕ, Result, Ok, Err, IfOk, IfErr}
use Rattle.rules.specs.Bus.{Table}
use Rattle.rules.specs.TableFile.{file_table}
use Rattle.rules.specs.Refusals.{Check, verdict_checks}
use Rattle.rules.specs.Calls as calls
use Rattle.rules.specs.Calls.{Call}
use Rattle.table.specs.Refusal.{number, place}
use Rattle.table.specs.declared.refusals.Refusal.{Refusal}
use Rattle.verdict.specs.declared.Analysis.{Analysis}
use Rattle.verdict.specs.Analysed.{Accepted}
use Rattle.verdict.specs.declared.Admitted.{Admitted}

abbrev pub cut_of : Result Admitted Refusal → ℕ
cut_of (Ok a) = a.cut
cut_of (Err _) = 0

abbrev pub other_of : Result Admitted Refusal → ℕ
other_of (Ok a) = a.other
other_of (Err _) = 0

abbrev pub interval_of : Result Admitted Refusal → ℕ
interval_of (Ok a) = a.interval
interval_of (Err _) = 0

abbrev pub hyper_of : Result Admitted Refusal → ℕ
hyper_of (Ok a) = a.hyper
hyper_of (Err _) = 0

abbrev pub load_of : Result Admitted Refusal → ℕ
load_of (Ok a) = a.load
load_of (Err _) = 0

abbrev pub sets_of : Result Admitted Refusal → ℕ
sets_of (Ok a) = a.sets
sets_of (Err _) = 0

abbrev pub JudgedBy : List Check → Table → Result Admitted Refusal → Type 0
JudgedBy cs t r =
    Call cs (number r) (place r) (calls.Admitted t (cut_of r) (other_of r) (interval_of r) (hyper_of r) (load_of r) (sets_of r))
    ((cut_of r ≡ 0) × (other_of r ≡ 0) × (interval_of r ≡ 0) × (hyper_of r ≡ 0) × (load_of r ≡ 0) × (sets_of r ≡ 0))

abbrev pub IsVerdict : List ℕ → Result Admitted Refusal → Type 0
IsVerdict f r = JudgedBy (verdict_checks f) (file_table f) r

pub record VerdictOn (a : Result Analysis Refusal) (r : Result Admitted Refusal) : Type 0 where
  pub done : IfOk a (λ x. (t : Table) → Accepted t x
      → (number r ≡ 0) × (place r ≡ 0) × calls.Admitted t (cut_of r) (other_of r) (interval_of r) (hyper_of r) (load_of r) (sets_of r))
  pub refused : IfErr a (λ e. r ≡ Err e)
