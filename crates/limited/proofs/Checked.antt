-- The analysis within limits of each outcome: checks that pass stand before those that are left; and that only one verdict fits.
use mathlib.Core.Path.{◌≡◌, refl, sym, subst, ◌∙◌}
use mathlib.Core.Logic.{⊎_elim, inl, inr}
use mathlib.Core.Bool.{Bool, true, false, ◌||◌}
use mathlib.Core.List.{List, ◌++◌}
use Prim.Native.Nat.{ℕ, ◌≤◌, ◌<◌}
use native.Mathlib.Omega.{arith}
use lib.Dec.{ltb, ltb→lt, lt→ltb}
use Rattle.numbers.specs.Lists.{at}
use Rattle.numbers.proofs.Truth.{or_cases, orl, orr, of_true, of_false}
use Rattle.rules.specs.Bus.{Table, Labelled}
use Rattle.rules.specs.TableFile.{file_table, file_labelled}
use Rattle.rules.specs.Parties.{max_limit}
use Rattle.rules.specs.Refusals.{Check, Answers, wrong_limit, given_checks, one_ring_checks, line_checks, limit_checks, bound_checks}
use Rattle.rules.specs.Refusals.{limited_checks, verdict_checks}
use Rattle.rules.proofs.Answers.{None, Numbered, applied, passed, stopped, none_of, none_join, none_left, none_right, numbered_join}
use Rattle.std.specs.Prelude.{Result, Err}
use Rattle.table.specs.Refusal.{number_of, number, place}
use Rattle.table.specs.declared.refusals.Refusal.{Refusal}
use Rattle.table.proofs.Reasons.{not_done}
use Rattle.outline.specs.declared.Outline.{Outline}
use Rattle.limited.specs.Limits.{labelled}
use Rattle.limited.proofs.Within.{limit_numbered}
use Rattle.outline.proofs.Outlined.{line_numbered}
use Rattle.lags.specs.Lags.{Admissible}
use Rattle.verdict.proofs.Bound.{bound_numbered, verdict_split, admissible_of}
use Rattle.pasted.proofs.OneRing.{one_ring_numbered}
use Rattle.verdict.specs.declared.Analysis.{Analysis}
use Rattle.verdict.specs.declared.Admitted.{Admitted}
use Rattle.verdict.specs.Verdict.{JudgedBy}
use Rattle.verdict.specs.Analysed.{table_checks, Rated, Analysed}
use Rattle.verdict.proofs.Judging.{judged_by_only}
use Rattle.verdict.proofs.Analysing.{analysed_after, line_none}
use Rattle.limited.specs.Limited.{within_checks}

-- ---- of a table

module _ (t : Table) (label : List ℕ) (our their : ℕ) where
  abbrev l : Labelled
  l = labelled t label

  abbrev past : List Check
  past = limit_checks l our their ++ bound_checks t

  -- 10 or 11
  pub within_line : (r : Refusal) → Answers (line_checks t) (number_of r.reason) r.place
      → Analysed (within_checks l our their) t (Err r)
  within_line r a = record { answers = stopped (line_checks t) past (number_of r.reason) r.place (not_done r.reason) a; found = tt }

  module _ {o : Outline} {i : ℕ} {xs : List ℕ} (R : Rated t o i xs) where
    -- 21 or 22
    pub within_limit : (r : Refusal) → Answers (limit_checks l our their) (number_of r.reason) r.place
        → Analysed (within_checks l our their) t (Err r)
    within_limit r k =
        analysed_after (line_checks t) past (line_none t R)
        (record {
          answers = stopped (limit_checks l our their) (bound_checks t) (number_of r.reason) r.place (not_done r.reason) k;
          found = tt;
        })

    -- then what is weighed
    pub within_bound : Answers (limit_checks l our their) 0 0 → {a : Result Analysis Refusal} → Analysed (bound_checks t) t a
        → Analysed (within_checks l our their) t a
    within_bound k A =
        analysed_after (line_checks t) past (line_none t R)
        (analysed_after (limit_checks l our their) (bound_checks t)
        (none_of (limit_checks l our their) 0 (limit_numbered l our their) k) A)

-- a table with labels that columns hold
pub within_held : (t : Table) (label : List ℕ) (u : Labelled) (our their : ℕ) → t ≡ u.table → at label ≡ u.label → {a : Result Analysis Refusal}
    → Analysed (within_checks (labelled t label) our their) t a → Analysed (within_checks u our their) u.table a
within_held t label u our their e g {a} A =
    let held : labelled t label ≡ u = λ k. record { table = e k; label = g k } in
    subst (λ (l : Labelled). Analysed (within_checks l our their) l.table a) held A

-- ---- of a file

module _ (f : List ℕ) (our their : ℕ) where
  abbrev wrong : Check
  wrong = wrong_limit our their

  -- 1 to 9 and 18 of a table with one ring
  abbrev first : List Check
  first = one_ring_checks f (given_checks f)

  abbrev rest : List Check
  rest = first ++ within_checks (file_labelled f) our their

  -- 23
  pub limits_wrong : {b : Bool} → b ≡ (ltb max_limit our || ltb max_limit their) → b ≡ true → Answers (limited_checks f our their) 23 0
  unfolding limited_checks
  limits_wrong e t =
      applied wrong rest 23 0
      (⊎_elim (λ x. inl (ltb→lt max_limit our x)) (λ x. inr (ltb→lt max_limit their x))
      (or_cases (ltb max_limit our) (ltb max_limit their) (of_true (sym e ∙ t)))) refl refl

  module _ {b : Bool} (e : b ≡ (ltb max_limit our || ltb max_limit their)) (w : b ≡ false) where
    pub limits_low : (our ≤ max_limit) × (their ≤ max_limit)
    limits_low =
        let no = of_false (sym e ∙ w) in
        let one : max_limit < our → ⊥ = λ x. no (orl (ltb max_limit our) (ltb max_limit their) (lt→ltb max_limit our x)) in
        let other : max_limit < their → ⊥ = λ x. no (orr (ltb max_limit our) (ltb max_limit their) (lt→ltb max_limit their x)) in
        (omega (arith, one), omega (arith, other))

    not_wrong : wrong.applies → ⊥
    not_wrong = ⊎_elim (λ x. omega (arith, x, limits_low.0)) (λ x. omega (arith, x, limits_low.1))

    abbrev after : List Check
    after = within_checks (file_labelled f) our their

    -- 1 to 9 or 18
    pub limits_given : (r : Refusal) → Answers first (number_of r.reason) r.place
        → Answers (limited_checks f our their) (number_of r.reason) r.place
    unfolding limited_checks
    limits_given r a =
        passed wrong rest (number_of r.reason) r.place not_wrong
        (stopped first after (number_of r.reason) r.place (not_done r.reason) a)

    -- past these its table's analysis within limits is the file's
    pub limits_past : Answers first 0 0 → {a : Result Analysis Refusal}
        → Analysed (within_checks (file_labelled f) our their) (file_table f) a → Analysed (limited_checks f our their) (file_table f) a
    unfolding limited_checks
    limits_past g {a} A =
        let B = analysed_after first after (none_of first 0 (one_ring_numbered f) g) A in
        record { answers = passed wrong rest (number a) (place a) not_wrong B.answers; found = B.found }

-- ---- the checks as a whole

module _ (f : List ℕ) (our their : ℕ) where
  abbrev t : Table
  t = file_table f

  abbrev limits : List Check
  limits = limit_checks (file_labelled f) our their

  pub limited_numbered : Numbered (limited_checks f our their)
  unfolding limited_checks Numbered
  limited_numbered = (
    omega arith,
    numbered_join (one_ring_checks f (given_checks f)) (line_checks t ++ (limits ++ bound_checks t)) (one_ring_numbered f)
        (numbered_join (line_checks t) (limits ++ bound_checks t) (line_numbered t)
        (numbered_join limits (bound_checks t) (limit_numbered (file_labelled f) our their) (bound_numbered t))),
  )

  -- a table that passes them passes the verdict's
  pub limited_none : None (limited_checks f our their) → None (verdict_checks f)
  unfolding limited_checks None
  limited_none n =
      let given : None (given_checks f ++ (line_checks t ++ (limits ++ bound_checks t))) = n.1.1.1 in
      let past = none_right (given_checks f) (line_checks t ++ (limits ++ bound_checks t)) given in
      rw (verdict_split f)
      (none_join (given_checks f) (table_checks t) (none_left (given_checks f) (line_checks t ++ (limits ++ bound_checks t)) given)
      (none_join (line_checks t) (bound_checks t) (none_left (line_checks t) (limits ++ bound_checks t) past)
      (none_right limits (bound_checks t) (none_right (line_checks t) (limits ++ bound_checks t) past))))

  pub limited_admissible : None (limited_checks f our their) → Admissible t
  limited_admissible n = admissible_of f (limited_none n)

  pub limited_only : (r s : Result Admitted Refusal) → JudgedBy (limited_checks f our their) t r → JudgedBy (limited_checks f our their) t s → r ≡ s
  limited_only = judged_by_only (λ n. (limited_admissible n).sound.rows_low) limited_numbered
