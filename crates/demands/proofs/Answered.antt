-- Every input of every call has a number and a place: each check of its list is decided, the later ones for tables that pass those before.
use mathlib.Core.Path.{◌≡◌, refl, subst}
use mathlib.Core.Bool.{true, false}
use mathlib.Core.List.{List, [], ◌∷◌, ◌++◌, append_assoc}
use Prim.Native.Nat.{ℕ, ◌+◌, ◌*◌, ◌≤◌, ◌<◌}
use native.Mathlib.Decide.{ℕ_discrete}
use native.Mathlib.Omega.{arith}
use lib.ListN.{length}
use Rattle.numbers.proofs.Tests.{Test, lt_test, le_test, eq_test, list_test, as_test, not_test, and_test, or_test}
use Rattle.rules.specs.Bounds.{max_elements, max_rows, max_slots}
use Rattle.rules.specs.Bus.{Table}
use Rattle.rules.specs.TableFile.{table_mark, version_1, header_size, row_size, row_numbers, mark, version, file_table, file_labelled}
use Rattle.rules.specs.TableFile.{rings_of, memory_with, memory_labelled_with}
use Rattle.rules.specs.Line.{Sets}
use Rattle.rules.specs.Loads.{hyperperiod}
use Rattle.rules.specs.Parties.{max_limit}
use Rattle.rules.specs.Relay.{split}
use Rattle.rules.specs.Planner.{Stage, due, finished, Planner, Off}
use Rattle.rules.specs.Refusals.{
  Check,
  wrong_limit,
  short_file,
  wrong_mark,
  one_ring_checks,
  given_checks,
  line_checks,
  bound_checks,
  limit_checks,
  reader_checks,
  version_1_checks,
  memory_checks,
  label_checks,
  version_checks,
  writer_checks,
  shared_checks,
  set_checks,
  verdict_checks,
  limited_checks,
  long_hyperperiod,
  split_checks,
  relayed_line_checks,
  relayed_checks,
  sets_checks,
  plan_checks,
  step_room,
  step_checks,
  standings_checks,
}
use Rattle.rules.specs.Calls.{Ask, line_ask}
use Rattle.rules.specs.Raising.{raise_checks}
use Rattle.rules.proofs.Answers.{None, Numbered, stopped, joined, none_of}
use Rattle.rules.proofs.Sets.{sets_only}
use Rattle.rules.proofs.Verdict.{
  Tests,
  none,
  ◌then◌,
  answer,
  answer_is,
  tests_join,
  tests_each,
  in_test,
  mark_test,
  version_test,
  row_tests,
  file_tests,
  given_tests,
  line_tests,
  bound_tests,
  limit_tests,
  split_tests,
}
use Rattle.table.specs.Sound.{Sound}
use Rattle.pasted.proofs.AsGiven.{given_numbered, given_passed}
use Rattle.outline.proofs.Outlined.{line_numbered, none_line}
use Rattle.relay.proofs.Clear.{has_cuts}
use Rattle.relay.proofs.Given.{split_numbered, split_element, split_sound}
use Rattle.verdict.proofs.Bound.{verdict_split, sets_exist}
use Rattle.planner.specs.Proper.{Proper}
use Rattle.demands.specs.Demands.{Answered}
use Rattle.demands.proofs.States.{off_test}

pub by_tests : {cs : List Check} → Tests cs → Answered cs
by_tests ts = ((answer ts).0, (answer ts).1, answer_is ts)

-- the first list refuses, or the second decides where none of the first applies
pub by_lists : (cs ds : List Check) → Numbered cs → Answered cs → (None cs → Answered ds) → Answered (cs ++ ds)
by_lists cs ds m (n, p, a) more = go (ℕ_discrete n 0)
  where
    go : Dec (n ≡ 0) → Answered (cs ++ ds)
    go (yes e) =
        let N = none_of cs p m (rw e at a) in
        let r = more N in
        (r.0, r.1, joined cs ds r.0 r.1 N r.2)
    go (no h) = (n, p, stopped cs ds n p h a)

-- ---- the table file

reader_tests : (f : List ℕ) (room : ℕ) → Tests (reader_checks f room)
unfolding reader_checks
reader_tests f room = tests_join (file_tests f) (lt_test room (row_numbers * (file_table f).rows) then none)

pub read_answered : (f : List ℕ) (room : ℕ) → Answered (reader_checks f room)
read_answered f room = by_tests (reader_tests f room)

pub version_1_answered : (f : List ℕ) (room : ℕ) → Answered (version_1_checks f room)
unfolding version_1_checks
version_1_answered f room =
    by_tests (
    lt_test (length f) header_size
    then not_test (list_test (mark f) table_mark)
    then not_test (eq_test (version f) version_1)
    then reader_tests f room)

pub written_answered : (m : List ℕ) (v M n : ℕ) (xs : List ℕ) (room : ℕ) → Answered (writer_checks m v M n xs room)
unfolding writer_checks version_checks memory_checks label_checks
written_answered m v M n xs room =
    let r : ℕ = rings_of m in
    by_tests (mark_test m then tests_join (version_test r v then tests_join (tests_join (
    not_test (in_test M 2 max_elements)
    then not_test (in_test n 1 max_rows)
    then not_test (eq_test (length xs) (row_numbers * n))
    then none) (row_tests (memory_with r M n xs)))
    (tests_each n (λ i. and_test (eq_test v version_1) (not_test (eq_test ((memory_labelled_with r M n xs).label i) 0)) then none)))
    (lt_test room (header_size + row_size r v * n) then none))

pub met_answered : (f : List ℕ) (i j : ℕ) → Answered (shared_checks f i j)
unfolding shared_checks
met_answered f i j =
    let t = file_table f in
    by_tests (tests_join (file_tests f) (le_test t.rows i then le_test t.rows j then none))

-- ---- 10 and 11, and what is decided by the list of sets

line_answered : (t : Table) → Sound t → (ds : List Check) → ((ws : List ℕ) → Sets t ws → Tests ds) → Answered (line_checks t ++ ds)
line_answered t S ds more =
    by_lists (line_checks t) ds (line_numbered t) (by_tests (line_tests t))
    (λ N. let e = sets_exist t S (none_line t N).0 in by_tests (more e.0 e.1))

-- where one ring alone is taken
pub one_ring_answered : (f : List ℕ) (cs : List Check) → Answered cs → Answered (one_ring_checks f cs)
unfolding Numbered
one_ring_answered f cs A =
    by_lists (short_file f ∷ wrong_mark f ∷ []) cs (omega arith)
    (by_tests (lt_test (length f) header_size then not_test (list_test (mark f) table_mark) then none)) (λ N. A)

short_list : (t : Table) (room : ℕ) → 0 < t.rows → (ws : List ℕ) → Sets t ws
    → Test ((vs : List ℕ) × Sets t vs × (room < length vs))
short_list t room some ws A =
    as_test (lt_test room (length ws)) (λ h. (ws, A, h))
    (λ w. subst (λ (vs : List ℕ). room < length vs) (sets_only some w.1 A) w.2)

module _ (f : List ℕ) where
  past_given : (ds : List Check) → (Sound (file_table f) → Answered ds) → Answered (given_checks f ++ ds)
  past_given ds more = by_lists (given_checks f) ds (given_numbered f) (by_tests (given_tests f)) (λ N. more (given_passed f N).sound)

  pub judged_answered : Answered (verdict_checks f)
  judged_answered =
      rw (verdict_split f)
      (past_given (line_checks (file_table f) ++ bound_checks (file_table f))
      (λ S. line_answered (file_table f) S (bound_checks (file_table f)) (λ ws A. bound_tests (file_table f) S.rows_low ws A)))

  pub listed_answered : (room : ℕ) → Answered (sets_checks (line_ask f).checks (file_table f) room)
  unfolding sets_checks
  listed_answered room =
      rw append_assoc
      (past_given (line_checks (file_table f) ++ _)
      (λ S. line_answered (file_table f) S _ (λ ws A. short_list (file_table f) room S.rows_low ws A then none)))

  pub crowded_answered : (k : ℕ) → Answered (set_checks f k)
  unfolding set_checks
  crowded_answered k =
      rw append_assoc
      (past_given (line_checks (file_table f) ++ _)
      (λ S. line_answered (file_table f) S _ (λ ws A. past_list S.rows_low ws A then none)))
    where
      past_list : 0 < (file_table f).rows → (ws : List ℕ) → Sets (file_table f) ws
          → Test ((vs : List ℕ) × Sets (file_table f) vs × (length vs ≤ k))
      past_list some ws A =
          as_test (le_test (length ws) k) (λ h. (ws, A, h))
          (λ w. subst (λ (vs : List ℕ). length vs ≤ k) (sets_only some w.1 A) w.2)

  pub raised_answered : (room : ℕ) → Answered (raise_checks f room)
  unfolding raise_checks
  raised_answered room =
      one_ring_answered f _
      (rw append_assoc
      (past_given (line_checks (file_table f) ++ _)
      (λ S. line_answered (file_table f) S _ (λ ws A. lt_test room (length f) then none))))

  pub limited_answered : (our their : ℕ) → Answered (limited_checks f our their)
  unfolding limited_checks Numbered
  limited_answered our their =
      let t = file_table f in
      let ds = limit_checks (file_labelled f) our their ++ bound_checks t in
      by_lists (wrong_limit our their ∷ []) (one_ring_checks f (given_checks f ++ (line_checks t ++ ds))) (omega arith)
      (by_tests (or_test (lt_test max_limit our) (lt_test max_limit their) then none))
      (λ N.
      one_ring_answered f _
      (past_given (line_checks t ++ ds)
      (λ S.
      line_answered t S ds
      (λ ws A. tests_join (limit_tests (file_labelled f) our their) (bound_tests t S.rows_low ws A)))))

-- ---- with a relay

module _ (f : List ℕ) (r : ℕ) where
  abbrev t : Table
  t = split (file_table f) r

  -- past 28 the split table is sound and has a cut, so that its sets decide the rest
  past_split : (ds : List Check) → (Sound t → (ws : List ℕ) → Sets t ws → Tests ds) → Answered (relayed_line_checks f r ++ ds)
  unfolding relayed_line_checks
  past_split ds more =
      rw append_assoc
      (by_lists (split_checks f r) (long_hyperperiod t ∷ ds) (split_numbered f r) (by_tests (split_tests f r))
      (λ N.
      let S = split_sound f r N in
      let e = sets_exist t S (has_cuts (file_table f) (split_element f r N)) in
      by_tests (lt_test max_slots (hyperperiod t) then more S e.0 e.1)))

  pub relayed_answered : Answered (relayed_checks f r)
  unfolding relayed_checks
  relayed_answered = past_split (bound_checks t) (λ S ws A. bound_tests t S.rows_low ws A)

  pub relayed_listed_answered : (room : ℕ) → Answered (sets_checks (relayed_line_checks f r) t room)
  unfolding sets_checks
  relayed_listed_answered room = past_split _ (λ S ws A. short_list t room S.rows_low ws A then none)

-- ---- the planner's calls, at an ask whose own checks are answered

finished_test : (s : Stage) → Test (s ≡ finished)
finished_test (due k) = record { test = false; is = λ h. absurd h; of = λ e. let z : ◌≡◌ {A = ℕ} 0 1 = cc in omega arith }
finished_test finished = record { test = true; is = λ h. refl; of = λ e. tt }

module _ (a : Ask) (P : Proper a) (J : Answered a.checks) where
  pub planned_answered : (room : ℕ) → Answered (plan_checks a.checks a.table room)
  unfolding plan_checks
  planned_answered room = by_lists a.checks _ P.numbered J (λ N. by_tests (lt_test room (hyperperiod a.table) then none))

  module _ (p : Planner) where
    -- the table's state is decided where the ask admits the table
    state_test : None a.checks → Test (Off a.table p)
    state_test N =
        let A = P.admissible N in
        let e = sets_exist a.table A.sound A.clear in
        off_test a.table p e.0 e.1

    pub stepped_answered : (room : ℕ) → Answered (step_checks a.checks a.table p room)
    unfolding step_checks
    stepped_answered room =
        by_lists a.checks _ P.numbered J
        (λ N. by_tests (
        state_test N then finished_test p.stage then lt_test room (step_room a.table p.stage) then none))

    pub stood_answered : Answered (standings_checks a.checks a.table p)
    unfolding standings_checks
    stood_answered = by_lists a.checks _ P.numbered J (λ N. by_tests (state_test N then none))
