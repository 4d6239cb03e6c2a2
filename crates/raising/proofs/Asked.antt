-- What is found of a file's table whose light rows are raised, and that only one answer fits.
use mathlib.Core.Path.{◌≡◌, refl, sym, ap, subst, ◌∙◌}
use mathlib.Core.List.{List}
use Prim.Native.Nat.{ℕ, ◌≤◌, max}
use Rattle.std.specs.Prelude.{Result, Ok, Err}
use Rattle.numbers.specs.Lists.{at}
use Rattle.numbers.specs.Rounding.{up}
use Rattle.rules.specs.Bounds.{max_slots}
use Rattle.rules.specs.Bus.{Table}
use Rattle.rules.specs.TableFile.{file_table, file_labelled}
use Rattle.rules.specs.Loads.{shortest}
use Rattle.rules.specs.Refusals.{Check, Answers, given_checks, one_ring_checks, line_checks}
use Rattle.rules.specs.Raising.{raised_cost, before_13}
use Rattle.rules.proofs.Answers.{None, stopped, joined, answered, none_of, none_join, answers_only}
use Rattle.table.specs.Sound.{Sound}
use Rattle.table.specs.Columns.{table_of, ByRow}
use Rattle.table.specs.Refusal.{number_of}
use Rattle.table.specs.declared.refusals.Refusal.{Refusal}
use Rattle.table.proofs.Reasons.{not_done, refused_not, same_refusal}
use Rattle.table.proofs.ByRow.{by_row_only}
use Rattle.decoding.specs.Decoded.{Decodes}
use Rattle.decoding.specs.declared.Decoded.{Decoded}
use Rattle.decoding.proofs.Decoding.{holds_only, labels_only}
use Rattle.pasted.proofs.AsGiven.{given_passed}
use Rattle.pasted.proofs.OneRing.{one_ring_numbered, one_ring_none}
use Rattle.outline.specs.declared.Layout.{Layout}
use Rattle.outline.specs.Layout.{LaidOut}
use Rattle.outline.proofs.Outlined.{line_numbered}
use Rattle.lags.proofs.Intervals.{shortest_positive, shortest_le}
use Rattle.verdict.specs.Weights.{Times}
use Rattle.verdict.proofs.Weighing.{times_of}
use Rattle.raising.specs.declared.Raising.{Raising}
use Rattle.raising.specs.Raises.{RaisedBeside}
use Rattle.raising.proofs.Costs.{raised_is}

-- 1 to 9 and 18, where a table of one ring alone is taken
abbrev pub one_given : List ℕ → List Check
one_given f = one_ring_checks f (given_checks f)

refused_by : {f : List ℕ} (r : Refusal) → Answers (before_13 f) (number_of r.reason) r.place → RaisedBeside f (Err r)
refused_by r a = record { answers = a; held = tt; labelled = tt; costs = tt }

module _ (f : List ℕ) where
  abbrev t : Table
  t = file_table f

  -- 1 to 9 or 18 refuse
  pub raising_given : (r : Refusal) → Answers (one_given f) (number_of r.reason) r.place → RaisedBeside f (Err r)
  raising_given r a = refused_by r (stopped (one_given f) (line_checks t) _ _ (not_done r.reason) a)

  module _ (d : Decoded) (D : Decodes (one_given f) (file_labelled f) (Ok d)) where
    none : None (one_given f)
    none = none_of (one_given f) 0 (one_ring_numbered f) D.answers

    is_held : table_of d.columns ≡ t
    is_held = D.passed.table

    sound : Sound t
    sound = (given_passed f (one_ring_none f 0 D.answers)).sound

    pub raising_sound : Sound (table_of d.columns)
    raising_sound = rw is_held sound

    pub raising_times : Times d.columns.rows (at d.columns.cost) (at d.columns.period)
    raising_times = times_of {t = table_of d.columns} raising_sound

    -- 10 or 11 refuses
    pub raising_line : (r : Refusal) → Answers (line_checks (table_of d.columns)) (number_of r.reason) r.place → RaisedBeside f (Err r)
    raising_line r a =
        refused_by r
        (joined (one_given f) (line_checks t) _ _ none
        (subst (λ (u : Table). Answers (line_checks u) (number_of r.reason) r.place) is_held a))

    module _ (l : Layout) (O : LaidOut (table_of d.columns) (Ok l)) where
      of_file : LaidOut t (Ok l)
      of_file = subst (λ (u : Table). LaidOut u (Ok l)) is_held O

      interval_is : l.time.interval ≡ shortest t
      interval_is = of_file.found.timed.interval

      pub raising_interval : (1 ≤ l.time.interval) × (l.time.interval ≤ max_slots)
      raising_interval = (rw interval_is (shortest_positive sound), rw interval_is (shortest_le sound))

      all_none : None (before_13 f)
      all_none = none_join (one_given f) (line_checks t) none (none_of (line_checks t) 0 (line_numbered t) of_file.answers)

      costs_are : (cs : List ℕ) → ByRow t.rows (λ i. max (t.cost i) (up (t.period i) l.time.interval)) cs
          → ByRow t.rows (raised_cost t) cs
      costs_are cs B = record {
        size = B.size;
        row = λ i m. B.row i m ∙ ap (λ (x : ℕ). max (t.cost i) (up (t.period i) x)) interval_is ∙ sym (raised_is t sound i m);
        rest = B.rest;
      }

      -- nothing does
      pub raising_done : {cs : List ℕ}
          → ByRow d.columns.rows (λ i. max (at d.columns.cost i) (up (at d.columns.period i) l.time.interval)) cs
          → RaisedBeside f (Ok (record { given = d; cost = cs }))
      raising_done {cs} B = record {
        answers = answered (before_13 f) all_none;
        held = D.passed;
        labelled = D.labelled;
        costs = costs_are cs (subst (λ (u : Table). ByRow u.rows (λ i. max (u.cost i) (up (u.period i) l.time.interval)) cs) is_held B);
      }

pub raising_only : {f : List ℕ} {x y : Result Raising Refusal} → RaisedBeside f x → RaisedBeside f y → x ≡ y
raising_only {x = Ok a} {y = Ok b} A B =
    let columns = holds_only A.held B.held in
    let labels = labels_only A.labelled B.labelled in
    let cost = by_row_only A.costs B.costs in
    λ i. Ok (record { given = record { columns = columns i; labels = labels i }; cost = cost i })
raising_only {f} {x = Ok a} {y = Err r} A B = refused_not (before_13 f) r A.answers B.answers
raising_only {f} {x = Err r} {y = Ok a} A B = refused_not (before_13 f) r B.answers A.answers
raising_only {f} {x = Err r} {y = Err s} A B =
    same_refusal (before_13 f) r s A.answers B.answers
