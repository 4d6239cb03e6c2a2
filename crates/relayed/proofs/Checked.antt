-- The analysis and the outline with a relay of each outcome, the checks of the verdict with a relay as a whole, and that only one answer
-- fits.
use mathlib.Core.Path.{◌≡◌, sym, subst}
use mathlib.Core.List.{List, [], ◌∷◌, ◌++◌, append_assoc}
use Prim.Native.Nat.{ℕ}
use native.Mathlib.Omega.{arith}
use Rattle.rules.specs.Bus.{Table}
use Rattle.rules.specs.TableFile.{file_table}
use Rattle.rules.specs.Relay.{split}
use Rattle.rules.specs.Refusals.{Check, Answers, long_hyperperiod, cut_checks, line_checks, bound_checks}
use Rattle.rules.specs.Refusals.{split_checks, relayed_line_checks, relayed_checks}
use Rattle.rules.specs.Calls.{relayed_line_ask, Listed}
use Rattle.rules.proofs.Answers.{None, Numbered, stopped, joined, unjoined, none_of, none_join, none_left, none_right, numbered_join}
use Rattle.table.specs.Sound.{Sound}
use Rattle.std.specs.Prelude.{Result, Err}
use Rattle.table.specs.Refusal.{number_of, number, place}
use Rattle.table.specs.declared.refusals.Refusal.{Refusal}
use Rattle.table.proofs.Reasons.{not_done}
use Rattle.relay.proofs.Clear.{no_uncut}
use Rattle.relay.proofs.Given.{split_numbered, split_element, split_sound}
use Rattle.lags.specs.Lags.{Admissible}
use Rattle.outline.specs.declared.Outline.{Outline}
use Rattle.outline.specs.Outlined.{Outlined}
use Rattle.outline.proofs.Listed.{listed_only}
use Rattle.verdict.specs.declared.Analysis.{Analysis}
use Rattle.verdict.specs.declared.Admitted.{Admitted}
use Rattle.verdict.specs.Verdict.{JudgedBy}
use Rattle.verdict.specs.Analysed.{table_checks, Analysed}
use Rattle.verdict.proofs.Bound.{bound_numbered, table_admissible}
use Rattle.verdict.proofs.Judging.{judged_by_only}
use Rattle.verdict.proofs.Analysing.{analysed_after}

module _ (f : List ℕ) (r : ℕ) where
  abbrev t : Table
  t = split (file_table f) r

  -- 11
  abbrev long : List Check
  long = long_hyperperiod t ∷ []

  -- 11, 13 and 14
  abbrev pub past : List Check
  past = long_hyperperiod t ∷ bound_checks t

  pub relayed_whole : relayed_checks f r ≡ split_checks f r ++ past
  unfolding relayed_checks relayed_line_checks
  relayed_whole = append_assoc (split_checks f r) long (bound_checks t)

  -- with 10 before them they are the checks of any table
  pub past_cut : table_checks t ≡ cut_checks t ++ past
  unfolding line_checks
  past_cut = append_assoc (cut_checks t) long (bound_checks t)

  pub split_zero : Answers (split_checks f r) 0 0 → None (split_checks f r)
  split_zero g = none_of (split_checks f r) 0 (split_numbered f r) g

  -- columns that hold the split table
  pub columns_sound : None (split_checks f r) → (u : Table) → u ≡ t → Sound u
  columns_sound n u e = subst Sound (sym e) (split_sound f r n)

  -- 10 does not occur
  no_cuts : None (split_checks f r) → None (cut_checks t)
  no_cuts n = no_uncut (file_table f) (split_element f r n)

  -- ---- the analysis of each outcome

  -- 1 to 9, 18, 27 or 28
  pub relayed_stopped : (e : Refusal) → Answers (split_checks f r) (number_of e.reason) e.place
      → Analysed (relayed_checks f r) t (Err e)
  relayed_stopped e g =
      rw relayed_whole (record {
        answers = stopped (split_checks f r) past (number_of e.reason) e.place (not_done e.reason) g;
        found = tt;
      })

  -- past these the analysis of columns that hold the split table is the file's
  pub relayed_past : None (split_checks f r) → (u : Table) → u ≡ t → {a : Result Analysis Refusal} → Analysed (table_checks u) u a
      → Analysed (relayed_checks f r) t a
  relayed_past n u e {a} A =
      let B : Analysed (table_checks t) t a = subst (λ (v : Table). Analysed (table_checks v) v a) e A in
      rw relayed_whole
      (analysed_after (split_checks f r) past n
      (record { answers = unjoined (cut_checks t) past (number a) (place a) (no_cuts n) (rw past_cut at B.answers); found = B.found }))

  -- ---- and the outline

  pub line_stopped : (e : Refusal) → Answers (split_checks f r) (number_of e.reason) e.place
      → Outlined (relayed_line_checks f r) t (Err e)
  unfolding relayed_line_checks
  line_stopped e g = record {
    answers = stopped (split_checks f r) long (number_of e.reason) e.place (not_done e.reason) g;
    found = tt;
  }

  pub line_past : None (split_checks f r) → (u : Table) → u ≡ t → {o : Result Outline Refusal} → Outlined (line_checks u) u o
      → Outlined (relayed_line_checks f r) t o
  unfolding relayed_line_checks line_checks
  line_past n u e {o} O =
      let B : Outlined (line_checks t) t o = subst (λ (v : Table). Outlined (line_checks v) v o) e O in
      record {
        answers = joined (split_checks f r) long (number o) (place o) n
            (unjoined (cut_checks t) long (number o) (place o) (no_cuts n) B.answers);
        found = B.found;
      }

  -- ---- the checks as a whole

  pub relayed_numbered : Numbered (relayed_checks f r)
  unfolding Numbered
  relayed_numbered =
      rw relayed_whole (numbered_join (split_checks f r) past (split_numbered f r) (omega arith, bound_numbered t))

  pub line_numbered : Numbered (relayed_line_checks f r)
  unfolding relayed_line_checks Numbered
  line_numbered = numbered_join (split_checks f r) long (split_numbered f r) (omega arith, tt)

  pub relayed_split : None (relayed_checks f r) → None (split_checks f r)
  relayed_split n = none_left (split_checks f r) past (rw relayed_whole at n)

  pub relayed_admissible : None (relayed_checks f r) → Admissible t
  relayed_admissible n =
      let s = relayed_split n in
      table_admissible t (split_sound f r s)
      (rw past_cut (none_join (cut_checks t) past (no_cuts s) (none_right (split_checks f r) past (rw relayed_whole at n))))

  -- ---- only one answer fits

  pub relayed_only : (v w : Result Admitted Refusal) → JudgedBy (relayed_checks f r) t v → JudgedBy (relayed_checks f r) t w → v ≡ w
  relayed_only = judged_by_only (λ n. (relayed_admissible n).sound.rows_low) relayed_numbered

  pub relayed_list_only : (was now then : List ℕ) (n m p q s k : ℕ) → Listed (relayed_line_ask f r) was now n p s
      → Listed (relayed_line_ask f r) was then m q k → (now ≡ then) × (n ≡ m) × (p ≡ q) × (s ≡ k)
  unfolding relayed_line_checks
  relayed_list_only =
      listed_only (relayed_line_ask f r) line_numbered (λ n. (split_sound f r (none_left (split_checks f r) long n)).rows_low)
