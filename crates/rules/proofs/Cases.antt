-- Document 01's cases P1 to P10, proved. The definitions compute on the tables' numerals: numbers go by `refl`, relations by the tests of
-- Sets, Verdict and Steps, which `tt` shows to hold.
use mathlib.Core.Path.{◌≡◌, refl, sym, ap, ap₂, ◌∙◌, subst}
use mathlib.Core.Logic.{◌↔◌}
use mathlib.Core.List.{List, [], ◌∷◌, ◌++◌}
use mathlib.Core.Bool.{Bool, true, false, not, ◌&&◌}
use Prim.Native.Nat.{ℕ, suc, ◌≤◌, ◌<◌}
use native.Mathlib.Omega.{arith}
use lib.Dec.{T, ltb, ltb→lt, lit<, lit≤}
use lib.ListN.{length, get_or-eq_default}
use Rattle.numbers.specs.Finite.{any, every, lowest, highest, only, sum, sum_in, largest}
use Rattle.numbers.specs.Word.{bit}
use Rattle.numbers.specs.Divisors.{divides, lcm, product}
use Rattle.numbers.specs.Pairs.{IsGcd}
use Rattle.numbers.specs.Rounding.{Rounded}
use Rattle.numbers.specs.Lists.{at, each}
use Rattle.numbers.specs.Codec.{read_low, write_low}
use Rattle.numbers.proofs.Truth.{fst, snd, refutes}
use Rattle.numbers.proofs.Finite.{every_at, lowest_is}
use Rattle.numbers.proofs.Pairs.{pair_gcd_step, pair_gcd_zero, pair_lcm_by}
use Rattle.numbers.proofs.Divisors.{dvd_of, lcm_of_least}
use Rattle.numbers.proofs.Tests.{Test, and_test, every_test}
use Rattle.rules.specs.Bus.{Table, unlabelled, mirror, mirror_segment, steps, uses, through, overlap, pasted}
use Rattle.rules.specs.TableFile.{version_1, version_2, rings_of, mark_of, label_size, last_size, way_in, label_in, last_of}
use Rattle.rules.specs.TableFile.{row_bytes, bytes}
use Rattle.rules.specs.Line.{clear, cut, board_cut, on_line, line_first, line_second, Sets}
use Rattle.rules.specs.Relay.{split_row, split_rows, split}
use Rattle.rules.specs.Loads.{hyperperiod, job_end, next_end, start, end, intervals, some_interval, shortest}
use Rattle.rules.specs.Loads.{rate, share, equal_periods, light, past, over, reported}
use Rattle.rules.specs.Interval.{lag, before, hinders, free}
use Rattle.rules.specs.Planner.{Stage, due, finished, none, more, reached, Off, standing, WholePlan}
use Rattle.rules.specs.Refusals.{header_checks, row_checks, file_checks, pasted_checks, given_checks}
use Rattle.rules.specs.Refusals.{cut_checks, line_checks, bound_checks, verdict_checks}
use Rattle.rules.specs.Refusals.{relay_checks, split_checks, relayed_line_checks, relayed_checks}
use Rattle.rules.specs.Cases.{case_A, case_A_labels, case_B, case_B_with, equal_with, pasted_with, round, thirds, halves}
use Rattle.rules.specs.Cases.{none_had, b_at, Cases}
use Rattle.rules.specs.Cases.{uneven, uneven_with}
use Rattle.rules.specs.Cases.{board, turned_with, round_turned, twice_with}
use Rattle.rules.specs.Cases.{through_1, halved_equal, light_behind, over_behind}
use Rattle.rules.proofs.Sets.{set_in, sets_only, sets_by}
use Rattle.rules.proofs.Verdict.{verdict_by, relayed_by, relayed_stops}
use Rattle.rules.proofs.Steps.{Outcome, Outcomes, Best, rounded_test, qualify_test, moved_on, outcomes_by, best_test}
use Rattle.rules.proofs.Steps.{step_is, step_of, run_first, standing_at}
use Rattle.rules.proofs.Plans.{run_more}

-- All that computes below: an `unfolding` line that names it opens all that its own line names.
computing : Unit {0}
unfolding any every lowest highest only sum bit lcm product Rounded each mirror mirror_segment steps uses through overlap pasted read_low
    write_low rings_of mark_of label_size last_size way_in label_in last_of row_bytes bytes clear cut board_cut on_line line_first line_second
    hyperperiod job_end next_end start end intervals some_interval shortest rate equal_periods light past over largest reported lag before
    hinders free standing header_checks row_checks file_checks pasted_checks given_checks cut_checks line_checks bound_checks verdict_checks
    split_row split_rows relay_checks split_checks relayed_line_checks relayed_checks
computing = tt

-- a table's file in version 1
abbrev file : Table → List ℕ
file t = bytes version_1 (unlabelled t)

-- ---- the lists of sets

sets_A : Sets case_A (3 ∷ 6 ∷ [])
unfolding computing
sets_A = sets_by case_A (3 ∷ 6 ∷ []) tt

-- whatever the second cost
sets_B : (cost : ℕ) → Sets (case_B_with cost) (3 ∷ [])
unfolding computing
sets_B cost = sets_by (case_B_with cost) (3 ∷ []) tt

sets_thirds : Sets thirds (1 ∷ [])
unfolding computing
sets_thirds = sets_by thirds (1 ∷ []) tt

sets_halves : Sets halves (3 ∷ 6 ∷ [])
unfolding computing
sets_halves = sets_by halves (3 ∷ 6 ∷ []) tt

sets_board : Sets board (3 ∷ 12 ∷ [])
unfolding computing
sets_board = sets_by board (3 ∷ 12 ∷ []) tt

sets_turned : Sets (turned_with 1 1) (3 ∷ [])
unfolding computing
sets_turned = sets_by (turned_with 1 1) (3 ∷ []) tt

sets_apart : Sets (turned_with 1 0) (2 ∷ 1 ∷ [])
unfolding computing
sets_apart = sets_by (turned_with 1 0) (2 ∷ 1 ∷ []) tt

sets_through : Sets (split through_1 1) (5 ∷ 2 ∷ [])
unfolding computing
sets_through = sets_by (split through_1 1) (5 ∷ 2 ∷ []) tt

-- a list of sets that is there is the only one
listed : (t : Table) (ws vs : List ℕ) → 0 < t.rows → Sets t vs → Sets t ws ↔ (ws ≡ vs)
listed t ws vs some S = ((λ A. sets_only some A S), (λ e. subst (Sets t) (sym e) S))

-- ---- the outcomes of each step: loads, and words

-- case A has one interval
abbrev whole : Outcome
whole = (2 ∷ 1 ∷ 2 ∷ [], 5 ∷ 5 ∷ 2 ∷ 0 ∷ [])

step_A : Outcomes case_A 0 none_had (whole ∷ [])
unfolding computing
step_A = outcomes_by case_A (3 ∷ 6 ∷ []) sets_A 0 none_had (whole ∷ []) tt

-- Case B has two. In the first, row 1 has one slot or two, and in the second the other number.
abbrev one : Outcome
one = (1 ∷ 1 ∷ [], 1 ∷ 2 ∷ 0 ∷ 0 ∷ [])

abbrev two : Outcome
two = (1 ∷ 2 ∷ [], 1 ∷ 2 ∷ 2 ∷ 0 ∷ [])

step_B : Outcomes case_B 0 none_had (one ∷ two ∷ [])
unfolding computing
step_B = outcomes_by case_B (3 ∷ []) (sets_B 3) 0 none_had (one ∷ two ∷ []) tt

after_two : Outcomes case_B 1 (moved_on none_had two.0) (one ∷ [])
unfolding computing
after_two = outcomes_by case_B (3 ∷ []) (sets_B 3) 1 (moved_on none_had two.0) (one ∷ []) tt

-- the split table has one
abbrev halves_moved : Outcome
halves_moved = (1 ∷ 1 ∷ 1 ∷ [], 3 ∷ 4 ∷ [])

step_through : Outcomes (split through_1 1) 0 none_had (halves_moved ∷ [])
unfolding computing
step_through = outcomes_by (split through_1 1) (5 ∷ 2 ∷ []) sets_through 0 none_had (halves_moved ∷ []) tt

best_through : Best (split through_1 1) 0 none_had (halves_moved ∷ []) halves_moved
unfolding computing
best_through = (best_test (split through_1 1) (5 ∷ 2 ∷ []) sets_through 0 none_had (halves_moved ∷ []) halves_moved).is tt

-- the greatest of them: row 0 has one slot in either, so row 1 decides

best_A : Best case_A 0 none_had (whole ∷ []) whole
unfolding computing
best_A = (best_test case_A (3 ∷ 6 ∷ []) sets_A 0 none_had (whole ∷ []) whole).is tt

best_B : Best case_B 0 none_had (one ∷ two ∷ []) two
unfolding computing
best_B = (best_test case_B (3 ∷ []) (sets_B 3) 0 none_had (one ∷ two ∷ []) two).is tt

best_after : Best case_B 1 (moved_on none_had two.0) (one ∷ []) one
unfolding computing
best_after = (best_test case_B (3 ∷ []) (sets_B 3) 1 (moved_on none_had two.0) (one ∷ []) one).is tt

-- ---- states of B

-- what rows and sets of B have had at slot s
abbrev kept_test : (s : ℕ) (totals : List ℕ) → Test (
    ((i : ℕ) → i < 2 → Rounded (at totals i) (share case_B i s) (hyperperiod case_B))
    × Rounded (sum_in 2 (bit 3) (at totals)) (sum_in 2 (bit 3) (λ i. share case_B i s)) (hyperperiod case_B)
    )
kept_test s totals =
    and_test (every_test 2 (λ i. rounded_test (at totals i) (share case_B i s) (hyperperiod case_B)))
    (rounded_test (sum_in 2 (bit 3) (at totals)) (sum_in 2 (bit 3) (λ i. share case_B i s)) (hyperperiod case_B))

b_not_off : (s : Stage) (totals : List ℕ) → ((k : ℕ) → s ≡ due k → k < 2) → length totals ≤ 2
    → T (kept_test (reached case_B s) totals).test → ¬ Off case_B (b_at s totals)
unfolding computing
b_not_off s totals number few h = go
  where
    go : Off case_B (b_at s totals) → ⊥
    go (Off.late k e l) = let z = number k e in omega arith
    go (Off.spare i l m ne) = ne (get_or-eq_default totals 0 (omega arith))
    go (Off.row i l ne) = ne (((kept_test (reached case_B s) totals).is h).0 i l)
    go (Off.set D o ne) =
        let r = set_in (sets_B 3) o in
        let first : r.0 ≡ 0 = omega (arith, r.1) in
        let e : bit 3 ≡ D = ap (λ (k : ℕ). bit (at (3 ∷ []) k)) (sym first) ∙ r.2 in
        ne (subst
        (λ (C : ℕ → Bool).
        Rounded (sum_in 2 C (at totals)) (sum_in 2 C (λ i. share case_B i (reached case_B s))) (hyperperiod case_B))
        e ((kept_test (reached case_B s) totals).is h).1)

-- ---- whole plans

plan_A : (ws : List ℕ) → WholePlan case_A ws ↔ (ws ≡ 5 ∷ 5 ∷ 2 ∷ 0 ∷ [])
unfolding computing
plan_A ws = (
  (λ w. (run_first step_A best_A w.1).0),
  (λ e. subst (WholePlan case_A) (sym e) (_, more none (step_of step_A best_A))),
)

plan_through : (ws : List ℕ) → WholePlan (split through_1 1) ws ↔ (ws ≡ 3 ∷ 4 ∷ [])
unfolding computing
plan_through ws = (
  (λ w. (run_first step_through best_through w.1).0),
  (λ e. subst (WholePlan (split through_1 1)) (sym e) (_, more none (step_of step_through best_through))),
)

plans_B : (ws : List ℕ) → WholePlan case_B ws ↔ (ws ≡ 1 ∷ 2 ∷ 2 ∷ 0 ∷ 1 ∷ 2 ∷ 0 ∷ 0 ∷ [])
unfolding computing
plans_B ws = (
  (λ w. let m = run_more w.1 in
      let a = run_first step_B best_B m.3 in
      let b = step_is after_two best_after a.1 m.4 in
      m.5 ∙ ap₂ ◌++◌ a.0 b.0),
  (λ e. subst (WholePlan case_B) (sym e) (_, more (more none (step_of step_B best_B)) (step_of after_two best_after))),
)

-- ---- #105's table: its hyperperiod by law, as the search for it is long, and the rest computes from there

-- 12 and 20 have 4
four : IsGcd 12 20 4
four = pair_gcd_step 12 20 4 (pair_gcd_step 20 12 4 (pair_gcd_step 12 8 4 (pair_gcd_step 8 4 4 (pair_gcd_zero 4))))

-- whatever the second cost
hyper_uneven : (cost : ℕ) → hyperperiod (uneven_with cost) ≡ 60
unfolding every hyperperiod
hyper_uneven cost =
    let p : ℕ → ℕ = (uneven_with cost).period in
    lcm_of_least 3 p (λ i l. ltb→lt 0 (p i) (every_at 3 (λ i. ltb 0 (p i)) tt i l)) 60
    (record {
      multiple = λ i l. dvd_of (p i) 60 (every_at 3 (λ i. divides (p i) 60) tt i l);
      least = λ k M. (pair_lcm_by 12 20 4 (lit< tt) four).least k (M 0 (lit< tt)) (M 1 (lit< tt));
    })

next_uneven : (next_end uneven 0 ≡ 12) × (next_end uneven 12 ≡ 20) × (next_end uneven 20 ≡ 24) × (next_end uneven 24 ≡ 30)
    × (next_end uneven 30 ≡ 36) × (next_end uneven 36 ≡ 40) × (next_end uneven 40 ≡ 48) × (next_end uneven 48 ≡ 60)
unfolding any lowest job_end next_end
next_uneven = rw (hyper_uneven 5) (refl, refl, refl, refl, refl, refl, refl, refl)

ends_uneven : each 8 (λ k. end uneven k ∷ []) ≡ 12 ∷ 20 ∷ 24 ∷ 30 ∷ 36 ∷ 40 ∷ 48 ∷ 60 ∷ []
unfolding each start end
ends_uneven =
    let n = next_uneven in
    rw (n.0, n.1, n.2, n.3, n.4, n.5, n.6, n.7) refl

intervals_uneven : intervals uneven ≡ 8
unfolding any only sum job_end intervals
intervals_uneven = rw (hyper_uneven 5) refl

lengths_uneven : (cost : ℕ) → T (every 4 (λ l. not (some_interval (uneven_with cost) l)) && some_interval (uneven_with cost) 4)
unfolding any every lowest job_end next_end some_interval
lengths_uneven cost = rw (hyper_uneven cost) tt

shortest_uneven : (cost : ℕ) → shortest (uneven_with cost) ≡ 4
unfolding shortest
shortest_uneven cost =
    let t : Table = uneven_with cost in
    let few : Bool = every 4 (λ l. not (some_interval t l)) in
    let h = lengths_uneven cost in
    lowest_is (suc (hyperperiod t)) (some_interval t) 4 (rw (hyper_uneven cost) (lit< tt)) (snd few (some_interval t 4) h)
    (λ l b. refutes (some_interval t l) (every_at 4 (λ l. not (some_interval t l)) (fst few (some_interval t 4) h) l b))

heavy_uneven : light uneven 0 ≡ false
unfolding every equal_periods light
heavy_uneven = rw (shortest_uneven 5) refl

at_uneven : over (uneven_with 10) (bit 3) ≡ false
unfolding every only sum bit rate equal_periods past over
at_uneven = rw (shortest_uneven 10, hyper_uneven 10) refl

over_uneven : over (uneven_with 11) (bit 3) ≡ true
unfolding every only sum bit rate equal_periods past over
over_uneven = rw (shortest_uneven 11, hyper_uneven 11) refl

pub cases : Cases
unfolding computing
cases = record {
  p1_bytes = refl;
  p1_cut = refl;
  p1_end = refl;
  p1_sets = λ ws. listed case_A ws (3 ∷ 6 ∷ []) (lit< tt) sets_A;
  p1_words = plan_A;
  p2_interval = refl;
  p2_hyper = refl;
  p2_sets = λ ws. listed case_B ws (3 ∷ []) (lit< tt) (sets_B 3);
  p2_load = refl;
  p2_plans = plans_B;
  p3 = λ ws q s.
      let a = step_is step_B best_B (refl, λ i l. refl) s in
      (a.0, standing_at case_B a.1 1 (lit< tt));
  p3_ahead = (_, step_of step_B best_B);
  p4_sets = λ ws. listed (case_B_with 4) ws (3 ∷ []) (lit< tt) (sets_B 4);
  p4_load = refl;
  p4 = verdict_by (file (case_B_with 4)) (3 ∷ []) 0 0 tt tt refl;
  p5 = verdict_by (file (case_B_with 5)) (3 ∷ []) 14 0 tt tt refl;
  p6 = verdict_by (file (case_B_with 1)) (3 ∷ []) 13 1 tt tt refl;
  p7 = verdict_by (file (case_B_with 2)) (3 ∷ []) 0 0 tt tt refl;
  p8 = verdict_by (file (equal_with 1)) (3 ∷ []) 0 0 tt tt refl;
  p9 = verdict_by (file (equal_with 2)) (3 ∷ []) 14 0 tt tt refl;
  p8_before = verdict_by (file (pasted_with 1)) (3 ∷ []) 18 1 tt tt refl;
  p9_before = verdict_by (file (pasted_with 2)) (3 ∷ []) 18 1 tt tt refl;
  p10 = verdict_by (file round) (7 ∷ []) 10 0 tt tt refl;
  two_thirds_sets = λ ws. listed thirds ws (1 ∷ []) (lit< tt) sets_thirds;
  two_thirds = refl;
  light_lag = (refl, refl, refl);
  sum_met = (qualify_test halves 0 (3 ∷ 6 ∷ []) sets_halves none_had (at (2 ∷ 1 ∷ 1 ∷ []))).is tt;
  sum_over = (qualify_test halves 0 (3 ∷ 6 ∷ []) sets_halves none_had (at (2 ∷ 2 ∷ 1 ∷ []))).of;
  late = Off.late 2 refl (lit≤ tt);
  all_done = b_not_off finished (2 ∷ 3 ∷ []) (λ k e. let z : ◌≡◌ {A = ℕ} 0 1 = cc in omega arith) (lit≤ tt) tt;
  on_time = b_not_off (due 1) (1 ∷ 2 ∷ []) (λ k e. let z : 1 ≡ k = cc in omega arith) (lit≤ tt) tt;
  ahead = Off.row 0 (lit< tt) (rounded_test 2 (share case_B 0 4) (hyperperiod case_B)).of;
  spare = Off.spare 2 (lit≤ tt) (lit< tt) (λ e. let z : ◌≡◌ {A = ℕ} 1 0 = e in omega arith);
  other_loads = step_B.each.0.qualify;
  other_state = b_not_off (due 1) (1 ∷ 1 ∷ []) (λ k e. let z : 1 ≡ k = cc in omega arith) (lit≤ tt) tt;
  uneven_hyper = hyper_uneven 5;
  uneven_ends = ends_uneven;
  uneven_intervals = intervals_uneven;
  uneven_interval = shortest_uneven 5;
  uneven_heavy = heavy_uneven;
  uneven_at = at_uneven;
  uneven_over = over_uneven;
  labels_bytes = refl;
  labels_verdict = verdict_by (bytes version_2 case_A_labels) (3 ∷ 6 ∷ []) 0 0 tt tt refl;
  board_bytes = refl;
  board_cuts = (refl, refl);
  board_sets = λ ws. listed board ws (3 ∷ 12 ∷ []) (lit< tt) sets_board;
  board_verdict = verdict_by (file board) (3 ∷ 12 ∷ []) 0 0 tt tt refl;
  clockwise_alone = (refl, refl);
  turned_alone = (refl, refl);
  turned_sets = λ ws. listed (turned_with 1 1) ws (3 ∷ []) (lit< tt) sets_turned;
  apart_sets = λ ws. listed (turned_with 1 0) ws (2 ∷ 1 ∷ []) (lit< tt) sets_apart;
  no_second = refl;
  round_turned_verdict = verdict_by (file round_turned) (7 ∷ []) 10 1 tt tt refl;
  both_ways = verdict_by (file (twice_with 0 1 1)) (1 ∷ 2 ∷ []) 0 0 tt tt refl;
  same_way = verdict_by (file (twice_with 1 1 1)) (3 ∷ []) 18 1 tt tt refl;
  third_way = verdict_by (file (twice_with 0 1 2)) (1 ∷ 2 ∷ []) 26 1 tt tt refl;
  cost_first = verdict_by (file (twice_with 0 0 2)) (1 ∷ 2 ∷ []) 9 1 tt tt refl;
  row_first = verdict_by (file (twice_with 2 0 0)) (2 ∷ 1 ∷ []) 26 0 tt tt refl;
  round_relays = (
    relayed_by (file round) 1 (9 ∷ 3 ∷ 6 ∷ []) 0 0 tt tt refl,
    relayed_by (file round) 2 (6 ∷ 12 ∷ 9 ∷ []) 0 0 tt tt refl,
    relayed_by (file round) 3 (12 ∷ 9 ∷ 3 ∷ []) 0 0 tt tt refl,
  );
  round_cuts = (refl, refl, refl);
  round_wrong = (relayed_stops (file round) 0 27 0 tt refl, relayed_stops (file round) 4 27 0 tt refl);
  round_halves = (refl, refl, refl, refl, refl, refl, refl);
  no_halves = (refl, relayed_by (file case_A) 1 (3 ∷ 6 ∷ []) 0 0 tt tt refl);
  equal_halves = relayed_by (file halved_equal) 2 (5 ∷ 2 ∷ []) 0 0 tt tt refl;
  given_first = relayed_stops (file (pasted_with 1)) 0 18 1 tt refl;
  lower_cut = refl;
  light_place = (
    relayed_by (file light_behind) 2 (1 ∷ 2 ∷ 4 ∷ []) 13 2 tt tt refl,
    verdict_by (file light_behind) (1 ∷ 2 ∷ []) 13 1 tt tt refl,
  );
  over_place = (
    relayed_by (file over_behind) 2 (1 ∷ 6 ∷ []) 14 1 tt tt refl,
    verdict_by (file over_behind) (3 ∷ []) 14 0 tt tt refl,
  );
  board_relay = relayed_stops (file board) 1 2 0 tt refl;
  through_1_words = plan_through;
}
