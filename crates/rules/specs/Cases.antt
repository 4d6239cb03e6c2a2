-- Document 01, "On either side of each limit": the cases marked P, collected under a single statement about the definitions.
-- It holds statements only; `proofs/Cases.antt` proves `Cases`.
use Rattle.std.specs.Prelude.{◌≡◌, ◌↔◌, List, [], ◌∷◌, true, false, ℕ, ◌*◌, pos, neg_ℤ}
use Rattle.numbers.specs.Lists.{at, each}
use Rattle.numbers.specs.Word.{bit}
use Rattle.rules.specs.Bounds.{max_rings}
use Rattle.rules.specs.Bus.{Table, Labelled, unlabelled, clockwise, counterclockwise}
use Rattle.rules.specs.TableFile.{version_1, version_2, memory_table, memory_with, memory_labelled, bytes}
use Rattle.rules.specs.Line.{board_cut, line_second, Sets}
use Rattle.rules.specs.Relay.{split, stands_at}
use Rattle.rules.specs.Loads.{hyperperiod, end, intervals, shortest, load, light, over, reported}
use Rattle.rules.specs.Interval.{lag, Qualify}
use Rattle.rules.specs.Planner.{Stage, due, finished, Planner, fresh, Off, standing, Step, WholePlan}
use Rattle.rules.specs.Refusals.{Answers, verdict_checks, relayed_checks}

-- M 4, rows (2,4,1,3), (1,4,2,4), (2,4,3,1)
abbrev pub case_A : Table
case_A = memory_table 4 3 (2 ∷ 4 ∷ 1 ∷ 3 ∷ 0 ∷ 1 ∷ 4 ∷ 2 ∷ 4 ∷ 0 ∷ 2 ∷ 4 ∷ 3 ∷ 1 ∷ 0 ∷ [])

-- case A with the labels 0, 1 and 65535 (#107)
abbrev pub case_A_labels : Labelled
case_A_labels = memory_labelled 4 3 (2 ∷ 4 ∷ 1 ∷ 3 ∷ 0 ∷ 1 ∷ 4 ∷ 2 ∷ 4 ∷ 1 ∷ 2 ∷ 4 ∷ 3 ∷ 1 ∷ 65535 ∷ [])

-- M 3, rows (1,4,1,2), (3,8,1,3); and with another second cost
abbrev pub case_B_with : ℕ → Table
case_B_with cost = memory_table 3 2 (1 ∷ 4 ∷ 1 ∷ 2 ∷ 0 ∷ cost ∷ 8 ∷ 1 ∷ 3 ∷ 0 ∷ [])

abbrev pub case_B : Table
case_B = case_B_with 3

-- M 3, rows (3,4,1,3) and (1,4,1,2), or (2,4,1,2)
abbrev pub equal_with : ℕ → Table
equal_with cost = memory_table 3 2 (3 ∷ 4 ∷ 1 ∷ 3 ∷ 0 ∷ cost ∷ 4 ∷ 1 ∷ 2 ∷ 0 ∷ [])

-- M 2, first row (3,4,1,2): what P8 and P9 were before #104
abbrev pub pasted_with : ℕ → Table
pasted_with cost = memory_table 2 2 (3 ∷ 4 ∷ 1 ∷ 2 ∷ 0 ∷ cost ∷ 4 ∷ 1 ∷ 2 ∷ 0 ∷ [])

-- M 3, rows (1,4,1,3), (1,4,2,1), (1,4,3,2)
abbrev pub round : Table
round = memory_table 3 3 (1 ∷ 4 ∷ 1 ∷ 3 ∷ 0 ∷ 1 ∷ 4 ∷ 2 ∷ 1 ∷ 0 ∷ 1 ∷ 4 ∷ 3 ∷ 2 ∷ 0 ∷ [])

-- M 2, row (2,3,1,2): its load is 2/3
abbrev pub thirds : Table
thirds = memory_table 2 1 (2 ∷ 3 ∷ 1 ∷ 2 ∷ 0 ∷ [])

-- M 3, rows (3,8,1,2), (3,8,1,3), (1,4,2,3): row 0 and row 1 each have a share of 1 1/2 at slot 4, and 3 together
abbrev pub halves : Table
halves = memory_table 3 3 (3 ∷ 8 ∷ 1 ∷ 2 ∷ 0 ∷ 3 ∷ 8 ∷ 1 ∷ 3 ∷ 0 ∷ 1 ∷ 4 ∷ 2 ∷ 3 ∷ 0 ∷ [])

-- M 3, rows (1,50,1,2), (1,10,2,3): row 0 is light
abbrev pub fifty : Table
fifty = memory_table 3 2 (1 ∷ 50 ∷ 1 ∷ 2 ∷ 0 ∷ 1 ∷ 10 ∷ 2 ∷ 3 ∷ 0 ∷ [])

-- M 4, rows (3,12,1,2), (5,20,1,3), (8,30,3,4): #105's table; and with another second cost
abbrev pub uneven_with : ℕ → Table
uneven_with cost = memory_table 4 3 (3 ∷ 12 ∷ 1 ∷ 2 ∷ 0 ∷ cost ∷ 20 ∷ 1 ∷ 3 ∷ 0 ∷ 8 ∷ 30 ∷ 3 ∷ 4 ∷ 0 ∷ [])

abbrev pub uneven : Table
uneven = uneven_with 5

-- M 4, rows (2,4,1,3), (1,4,2,4) clockwise and (2,4,3,1), (1,4,4,2) counterclockwise: a board with both rings busy (#112)
abbrev pub board : Table
board = memory_with max_rings 4 4 (2 ∷ 4 ∷ 1 ∷ 3 ∷ 0 ∷ 1 ∷ 4 ∷ 2 ∷ 4 ∷ 0 ∷ 2 ∷ 4 ∷ 3 ∷ 1 ∷ 1 ∷ 1 ∷ 4 ∷ 4 ∷ 2 ∷ 1 ∷ [])

-- M 3, rows (1,4,3,1), (1,4,2,3), with these directions
abbrev pub turned_with : ℕ → ℕ → Table
turned_with d e = memory_with max_rings 3 2 (1 ∷ 4 ∷ 3 ∷ 1 ∷ d ∷ 1 ∷ 4 ∷ 2 ∷ 3 ∷ e ∷ [])

-- M 3, P10's rows mirrored, all counterclockwise: (1,4,3,1), (1,4,2,3), (1,4,1,2)
abbrev pub round_turned : Table
round_turned = memory_with max_rings 3 3 (1 ∷ 4 ∷ 3 ∷ 1 ∷ 1 ∷ 1 ∷ 4 ∷ 2 ∷ 3 ∷ 1 ∷ 1 ∷ 4 ∷ 1 ∷ 2 ∷ 1 ∷ [])

-- M 3, a row (1,4,1,2) of direction d, then one of cost c and direction e with the same ends and period
abbrev pub twice_with : (d c e : ℕ) → Table
twice_with d c e = memory_with max_rings 3 2 (1 ∷ 4 ∷ 1 ∷ 2 ∷ d ∷ c ∷ 4 ∷ 1 ∷ 2 ∷ e ∷ [])

-- M 3, rows (1,2,1,2), (1,2,3,2): row 1 goes through element 1 (#113)
abbrev pub through_1 : Table
through_1 = memory_table 3 2 (1 ∷ 2 ∷ 1 ∷ 2 ∷ 0 ∷ 1 ∷ 2 ∷ 3 ∷ 2 ∷ 0 ∷ [])

-- M 3, rows (1,4,1,3), (1,4,1,2): split at 2, the first half of row 0 is row 1 but for where it stands
abbrev pub halved_equal : Table
halved_equal = memory_table 3 2 (1 ∷ 4 ∷ 1 ∷ 3 ∷ 0 ∷ 1 ∷ 4 ∷ 1 ∷ 2 ∷ 0 ∷ [])

-- M 5, rows (1,4,4,1), (1,4,2,4), (1,4,5,2)
abbrev pub cut_before : Table
cut_before = memory_table 5 3 (1 ∷ 4 ∷ 4 ∷ 1 ∷ 0 ∷ 1 ∷ 4 ∷ 2 ∷ 4 ∷ 0 ∷ 1 ∷ 4 ∷ 5 ∷ 2 ∷ 0 ∷ [])

-- M 4, rows (3,4,1,3), (1,8,3,4): row 1 is light
abbrev pub light_behind : Table
light_behind = memory_table 4 2 (3 ∷ 4 ∷ 1 ∷ 3 ∷ 0 ∷ 1 ∷ 8 ∷ 3 ∷ 4 ∷ 0 ∷ [])

-- M 4, rows (3,4,1,3), (2,4,2,4): over the bound past element 2
abbrev pub over_behind : Table
over_behind = memory_table 4 2 (3 ∷ 4 ∷ 1 ∷ 3 ∷ 0 ∷ 2 ∷ 4 ∷ 2 ∷ 4 ∷ 0 ∷ [])

-- at first the rows have had no slots
abbrev pub none_had : ℕ → ℕ
none_had i = 0

-- case B's planner at a stage, with these totals
abbrev pub b_at : Stage → List ℕ → Planner
b_at s totals = record { stage = s; totals = at totals }

-- the verdict on a table's file gives this number and place
abbrev Verdict : Table → ℕ → ℕ → Type 0
Verdict t number place = Answers (verdict_checks (bytes version_1 (unlabelled t))) number place

-- with a relay, likewise (#113)
abbrev Relayed : Table → (relay number place : ℕ) → Type 0
Relayed t relay number place = Answers (relayed_checks (bytes version_1 (unlabelled t)) relay) number place

pub record Cases : Type 0 where
  -- P1: case A's cut, sets and words
  pub p1_bytes : bytes version_1 (unlabelled case_A)
      ≡ 0x52 ∷ 0x42 ∷ 0x54 ∷ 0x01 ∷ 0x00 ∷ 0x04 ∷ 0x03 ∷ 0x02 ∷ 0x00 ∷ 0x04 ∷ 0x00 ∷ 0x01 ∷ 0x03 ∷ 0x01 ∷ 0x00 ∷ 0x04 ∷ 0x00 ∷ 0x02 ∷ 0x04
      ∷ 0x02 ∷ 0x00 ∷ 0x04 ∷ 0x00 ∷ 0x03 ∷ 0x01 ∷ []
  pub p1_cut : board_cut case_A clockwise ≡ 1
  -- row 2 ends at the cut: its second end on the line is M + 1
  pub p1_end : line_second case_A 2 ≡ 5
  pub p1_sets : (ws : List ℕ) → Sets case_A ws ↔ (ws ≡ 3 ∷ 6 ∷ [])
  pub p1_words : (ws : List ℕ) → WholePlan case_A ws ↔ (ws ≡ 5 ∷ 5 ∷ 2 ∷ 0 ∷ [])
  -- P2: case B: L 4, h 8, load 625, and of the two plans that qualify only the second is left (#110)
  pub p2_interval : shortest case_B ≡ 4
  pub p2_hyper : hyperperiod case_B ≡ 8
  pub p2_sets : (ws : List ℕ) → Sets case_B ws ↔ (ws ≡ 3 ∷ [])
  pub p2_load : reported case_B (3 ∷ []) ≡ 625
  pub p2_plans : (ws : List ℕ) → WholePlan case_B ws ↔ (ws ≡ 1 ∷ 2 ∷ 2 ∷ 0 ∷ 1 ∷ 2 ∷ 0 ∷ 0 ∷ [])
  -- P3: in B, after interval 0, row 1 stands at 4; and there is such a step
  pub p3 : (ws : List ℕ) (q : Planner) → Step case_B fresh q ws → (ws ≡ 1 ∷ 2 ∷ 2 ∷ 0 ∷ []) × (standing case_B q 1 ≡ pos 4)
  pub p3_ahead : (q : Planner) × Step case_B fresh q (1 ∷ 2 ∷ 2 ∷ 0 ∷ [])
  -- P4: B with the second cost 4: exactly at 3/4, admitted
  pub p4_sets : (ws : List ℕ) → Sets (case_B_with 4) ws ↔ (ws ≡ 3 ∷ [])
  pub p4_load : load (case_B_with 4) (bit 3) * 4 ≡ 3 * hyperperiod (case_B_with 4)
  pub p4 : Verdict (case_B_with 4) 0 0
  -- P5: with cost 5: 14, set 0
  pub p5 : Verdict (case_B_with 5) 14 0
  -- P6: with cost 1: 13, row 1
  pub p6 : Verdict (case_B_with 1) 13 1
  -- P7: cost 2: admitted
  pub p7 : Verdict (case_B_with 2) 0 0
  -- P8: (3,4,1,3), (1,4,1,2): admitted
  pub p8 : Verdict (equal_with 1) 0 0
  -- P9: (3,4,1,3), (2,4,1,2): 14, set 0
  pub p9 : Verdict (equal_with 2) 14 0
  -- with the first row (3,4,1,2) of before, both have a pasted row: 18, row 1
  pub p8_before : Verdict (pasted_with 1) 18 1
  pub p9_before : Verdict (pasted_with 2) 18 1
  -- P10: every element has some row through it: 10
  pub p10 : Verdict round 10 0
  -- Beside the marked cases, from the text: the reported load is rounded up, 2/3 is 667
  pub two_thirds_sets : (ws : List ℕ) → Sets thirds ws ↔ (ws ≡ 1 ∷ [])
  pub two_thirds : reported thirds (1 ∷ []) ≡ 667
  -- the lag of a light row can be below zero: with cost 1, period 50 and L 10 it is 20/50 − 1 in interval 1 after a slot in interval 0
  pub light_lag : (shortest fifty ≡ 10) × (hyperperiod fifty ≡ 50) × (lag fifty 1 (λ i. 1) 0 ≡ neg_ℤ (pos 30))
  -- the sums over sets: 2 and 2 are each a lag rounded up, but come to more than the summed lag; 2 and 1 qualify
  pub sum_met : Qualify halves 0 none_had (at (2 ∷ 1 ∷ 1 ∷ []))
  pub sum_over : ¬ Qualify halves 0 none_had (at (2 ∷ 2 ∷ 1 ∷ []))
  -- a state is off if its interval number is as many as there are, even where every total is its share: B has intervals 0 and 1;
  -- finished counts as slot h
  pub late : Off case_B (b_at (due 2) (2 ∷ 3 ∷ []))
  pub all_done : ¬ Off case_B (b_at finished (2 ∷ 3 ∷ []))
  -- or if a total is not the share rounded down or up, here 1 and 1 1/2, or one past the last row is not 0
  pub on_time : ¬ Off case_B (b_at (due 1) (1 ∷ 2 ∷ []))
  pub ahead : Off case_B (b_at (due 1) (2 ∷ 1 ∷ []))
  pub spare : Off case_B (b_at (due 1) (1 ∷ 2 ∷ 1 ∷ []))
  -- B's other loads, 1 and 1, qualify too; since #110 no step takes them, but a state that they left is not off
  pub other_loads : Qualify case_B 0 none_had (at (1 ∷ 1 ∷ []))
  pub other_state : ¬ Off case_B (b_at (due 1) (1 ∷ 1 ∷ []))
  -- #105: the intervals end where jobs end, and L is the shortest, 4. So row 0 is not light, and rows 0 and 1 are within the bound with
  -- exactly 3/4, where the second cost is 10, and over it with a slot more
  pub uneven_hyper : hyperperiod uneven ≡ 60
  pub uneven_ends : each 8 (λ k. end uneven k ∷ []) ≡ 12 ∷ 20 ∷ 24 ∷ 30 ∷ 36 ∷ 40 ∷ 48 ∷ 60 ∷ []
  pub uneven_intervals : intervals uneven ≡ 8
  pub uneven_interval : shortest uneven ≡ 4
  pub uneven_heavy : light uneven 0 ≡ false
  pub uneven_at : over (uneven_with 10) (bit 3) ≡ false
  pub uneven_over : over (uneven_with 11) (bit 3) ≡ true
  -- #107: with labels case A's file is version 2, with eight bytes a row, and holds the same table
  pub labels_bytes : bytes version_2 case_A_labels
      ≡ 0x52 ∷ 0x42 ∷ 0x54 ∷ 0x02 ∷ 0x00 ∷ 0x04 ∷ 0x03 ∷ 0x02 ∷ 0x00 ∷ 0x04 ∷ 0x00 ∷ 0x01 ∷ 0x03 ∷ 0x00 ∷ 0x00 ∷ 0x01 ∷ 0x00 ∷ 0x04 ∷ 0x00
      ∷ 0x02 ∷ 0x04 ∷ 0x01 ∷ 0x00 ∷ 0x02 ∷ 0x00 ∷ 0x04 ∷ 0x00 ∷ 0x03 ∷ 0x01 ∷ 0xff ∷ 0xff ∷ []
  pub labels_verdict : Answers (verdict_checks (bytes version_2 case_A_labels)) 0 0
  -- #112: a board's file has mark RB2 and seven bytes a row
  pub board_bytes : bytes version_1 (unlabelled board)
      ≡ 0x52 ∷ 0x42 ∷ 0x32 ∷ 0x01 ∷ 0x00 ∷ 0x04 ∷ 0x04 ∷ 0x02 ∷ 0x00 ∷ 0x04 ∷ 0x00 ∷ 0x01 ∷ 0x03 ∷ 0x00 ∷ 0x01 ∷ 0x00 ∷ 0x04 ∷ 0x00 ∷ 0x02
      ∷ 0x04 ∷ 0x00 ∷ 0x02 ∷ 0x00 ∷ 0x04 ∷ 0x00 ∷ 0x03 ∷ 0x01 ∷ 0x01 ∷ 0x01 ∷ 0x00 ∷ 0x04 ∷ 0x00 ∷ 0x04 ∷ 0x02 ∷ 0x01 ∷ []
  -- each ring has its own cut, the counterclockwise one is the highest element that no row goes through, and sets are numbered through
  pub board_cuts : (board_cut board clockwise ≡ 1) × (board_cut board counterclockwise ≡ 4)
  pub board_sets : (ws : List ℕ) → Sets board ws ↔ (ws ≡ 3 ∷ 12 ∷ [])
  pub board_verdict : Verdict board 0 0
  -- a ring with no rows has cut 1 and no sets, and a table with one ring has no second cut
  pub clockwise_alone : (board_cut (turned_with 0 0) clockwise ≡ 1) × (board_cut (turned_with 0 0) counterclockwise ≡ 1)
  pub turned_alone : (board_cut (turned_with 1 1) clockwise ≡ 1) × (board_cut (turned_with 1 1) counterclockwise ≡ 3)
  pub turned_sets : (ws : List ℕ) → Sets (turned_with 1 1) ws ↔ (ws ≡ 3 ∷ [])
  pub apart_sets : (ws : List ℕ) → Sets (turned_with 1 0) ws ↔ (ws ≡ 2 ∷ 1 ∷ [])
  pub no_second : board_cut case_A counterclockwise ≡ 0
  -- 10 says which ring, 18 needs equal directions, and 26 comes after 9 within the row
  pub round_turned_verdict : Verdict round_turned 10 1
  pub both_ways : Verdict (twice_with 0 1 1) 0 0
  pub same_way : Verdict (twice_with 1 1 1) 18 1
  pub third_way : Verdict (twice_with 0 1 2) 26 1
  pub cost_first : Verdict (twice_with 0 0 2) 9 1
  pub row_first : Verdict (twice_with 2 0 0) 26 0
  -- #113: P10's table with each relay: it has a cut there, and is admitted; 0 and M + 1 are no elements
  pub round_relays : Relayed round 1 0 0 × Relayed round 2 0 0 × Relayed round 3 0 0
  pub round_cuts : (board_cut (split round 1) clockwise ≡ 1) × (board_cut (split round 2) clockwise ≡ 2)
      × (board_cut (split round 3) clockwise ≡ 3)
  pub round_wrong : Relayed round 0 27 0 × Relayed round 4 27 0
  -- the halves stand where row 1 stood, and the second ends where row 1 ended
  pub round_halves : ((split round 3).rows ≡ 4) × (stands_at round 3 1 ≡ 1) × (stands_at round 3 2 ≡ 3)
      × ((split round 3).second 1 ≡ 3) × ((split round 3).first 2 ≡ 3) × ((split round 3).second 2 ≡ 1) × ((split round 3).first 3 ≡ 3)
  -- a relay that is only an end splits nothing
  pub no_halves : ((split case_A 1).rows ≡ 3) × Relayed case_A 1 0 0
  -- 18 reads the table as it is given, before 27: rows that are equal only when split are taken
  pub equal_halves : Relayed halved_equal 2 0 0
  pub given_first : Relayed (pasted_with 1) 0 18 1
  -- the cut is the lowest element that no split row goes through, here not the relay
  pub lower_cut : board_cut (split cut_before 3) clockwise ≡ 2
  -- places of 13 and 14 count split rows and their sets
  pub light_place : Relayed light_behind 2 13 2 × Verdict light_behind 13 1
  pub over_place : Relayed over_behind 2 14 1 × Verdict over_behind 14 0
  -- a board has no relay
  pub board_relay : Relayed board 1 2 0
  -- the plan of a split table counts split rows
  pub through_1_words : (ws : List ℕ) → WholePlan (split through_1 1) ws ↔ (ws ≡ 3 ∷ 4 ∷ [])
