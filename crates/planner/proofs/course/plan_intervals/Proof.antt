-- `course::plan_intervals` meets its contract: `Planning` says what its loop keeps, and the pieces of an interval make it
-- (`advanced_of`).
use mathlib.Core.Path.{◌≡◌, refl}
use mathlib.Core.List.{List, ◌++◌}
use Prim.Native.Nat.{ℕ, ◌+◌, ◌-◌, ◌≤◌, ◌<◌}
use native.Mathlib.Omega.{arith}
use lib.ListN.{length, take, drop, length-take, length-drop}
use Rattle.numbers.specs.Lists.{at}
use Rattle.rules.specs.Bounds.{max_rows, max_slots}
use Rattle.rules.specs.Bus.{Table}
use Rattle.rules.specs.Loads.{end}
use Rattle.placing.specs.Filled.{FilledSlots}
use Rattle.interval.specs.Ready.{Laid, Ready, Due}
use Rattle.interval.proofs.Course.{all_laid, rows_chained, interval_short, shares_fit, are_parts, whole_fit, advanced_of}
use Rattle.planner.specs.Plannable.{Plannable}
use Rattle.planner.proofs.CourseNumbers.{timed, few_rows, few_sets, few_periods, hyper_positive, hyper_short}
use Rattle.planner.proofs.Shared.{low_sets, firsts_low, ready_of}
use Rattle.planner.proofs.Walked.{Planning, planning_start, planning_begins, planning_due, planning_low, planning_room}
use Rattle.planner.proofs.Walked.{planning_next, planning_end}
use Rattle.planner.proofs.course.plan_intervals.Statement.{statement}
use Rattle.planner.proofs.course.plan_intervals.Tie as tie
use Rattle.planner.proofs.course.plan_intervals.Lts.{then-plain, else-plain}

abbrev invariant-loop : tie.invariant-loop-slot
invariant-loop plain from until plan₀ table rows top time folded tail head out into heads next size even inverse load₀ part₀ after₀ slot₀
    at₀ plan load part after slot at =
    (length load ≡ max_rows) × (length part ≡ max_rows)
    × ((t : Table) (k m : ℕ) → Plannable t table k m from until after₀ (length plan₀) → Planning t k m after₀ plan₀ slot at after plan)

abbrev decreases-loop : tie.decreases-loop-slot
decreases-loop plain from until plan₀ table rows top time folded tail head out into heads next size even inverse load₀ part₀ after₀ slot₀ at₀
    plan load part after slot at = until - slot

-- ---- what the intervals share

-- the function's entry, from where it is laid out
abbrev entry : tie.After-lay invariant-loop decreases-loop → tie.Start invariant-loop decreases-loop
entry c = c.before.before.before.before.before.before.before.before.before.before.before.before

-- where the sets are folded
abbrev folding : tie.After-lay invariant-loop decreases-loop → tie.After-fold_sets-folded invariant-loop decreases-loop
folding c = c.before.before.before.before.before.before

fold-sets-requires : tie.Need-fold_sets-folded-requires invariant-loop decreases-loop
fold-sets-requires c κs =
    let A = c.requires.3.accepted in
    (few_rows A, few_sets A, A.outline.size)

lay-requires : tie.Need-lay-requires invariant-loop decreases-loop
lay-requires c κs =
    let f = c in
    let A = f.requires.3.accepted in
    (few_rows A, low_sets A f.fold_sets-folded.ensures, refl, refl, refl, refl)

chain-requires : tie.Need-chain-requires invariant-loop decreases-loop
chain-requires c κs =
    let A = (entry c.before.before.before).requires.3.accepted in
    (few_rows A, firsts_low A, refl, refl)

-- where the nodes are laid out, from where the rows are chained
abbrev linking : tie.After-chain invariant-loop decreases-loop → tie.After-lay invariant-loop decreases-loop
linking c = c.before.before.before.before

has-shortest-requires : tie.Need-has_shortest-even-requires invariant-loop decreases-loop
has-shortest-requires c κs = few_periods (entry (linking c.before)).requires.3.accepted

-- both, from what comes after
abbrev chained : tie.After-has_shortest-even invariant-loop decreases-loop → tie.After-chain invariant-loop decreases-loop
chained c = c.before.before

abbrev laid : tie.After-has_shortest-even invariant-loop decreases-loop → tie.After-lay invariant-loop decreases-loop
laid c = linking (chained c)

-- the arrays that are laid out
abbrev arrays : tie.After-chain invariant-loop decreases-loop → Laid
arrays c =
    let l = (linking c).lay.new in
    let k = c.chain.new in
    record {
      tail = l.tail;
      head = l.head;
      out = l.out;
      into = l.into;
      heads = k.head;
      next = k.next;
    }

inverse-of-requires : tie.Need-inverse_of-inverse-requires invariant-loop decreases-loop
inverse-of-requires c κs = let A = (entry (laid c)).requires.3.accepted in (hyper_positive A, hyper_short A)

-- ---- where the loop begins

-- where all is set
abbrev Set : Type 0
Set = tie.After-inverse_of-inverse invariant-loop decreases-loop

abbrev entered : Set → tie.Start invariant-loop decreases-loop
entered c = entry (laid c.before)

loop-holds : tie.Need-loop-slot-init invariant-loop decreases-loop
loop-holds c = (refl, refl, λ t k m P. planning_start (entered c).args.plan.now P)

-- ---- a turn: an interval of the table begins, and there is room for it

abbrev chaining : tie.In-loop-slot invariant-loop decreases-loop → tie.After-chain invariant-loop decreases-loop
chaining c = chained c.before.before.before

abbrev laying : tie.In-loop-slot invariant-loop decreases-loop → tie.After-lay invariant-loop decreases-loop
laying c = linking (chaining c)

abbrev begun : tie.In-loop-slot invariant-loop decreases-loop → tie.Start invariant-loop decreases-loop
begun c = entry (laying c)

-- t is a table that is given to be planned
abbrev Given : tie.Start invariant-loop decreases-loop → Table → ℕ → ℕ → Type 0
Given S t k m = Plannable t S.args.table k m S.args.from S.args.until S.args.totals (length S.args.plan.now)

-- the one that the call was made with
abbrev given : (c : tie.In-loop-slot invariant-loop decreases-loop) → Given (begun c) (begun c).requires.0 (begun c).requires.1 (begun c).requires.2
given c = (begun c).requires.3

end-of-requires : tie.Need-end_of-end-requires invariant-loop decreases-loop
end-of-requires c κs =
    let d = c.before in
    let P = given d in
    let L = d.loop-slot.invariant.2 _ _ _ P in (
      (
        (begun d).requires.0,
        L.number,
        (begun d).args.table.outline.time.hyper,
        timed P.accepted,
        planning_begins (begun d).args.plan.now P L d.loop-slot-test.true,
      ),
      d.has_shortest-even.ensures,
    )

-- where the turn begins, from where its end is found
abbrev turned : tie.After-end_of-end invariant-loop decreases-loop → tie.In-loop-slot invariant-loop decreases-loop
turned c = c.before.before

module _ (c : tie.After-end_of-end invariant-loop decreases-loop) {t : Table} {k m : ℕ} (P : Given (begun (turned c)) t k m) where
  abbrev done : Planning t k m (begun (turned c)).args.totals (begun (turned c)).args.plan.now (turned c).before.loop-slot.slot
      (turned c).before.loop-slot.at (turned c).before.loop-slot.after (turned c).before.loop-slot.plan
  done = (turned c).before.loop-slot.invariant.2 t k m P

  ends : c.end_of-end.result ≡ end t done.number
  ends =
      c.end_of-end.ensures t done.number (begun (turned c)).args.table.outline.time.hyper (timed P.accepted)
      (planning_begins (begun (turned c)).args.plan.now P done (turned c).loop-slot-test.true)

  due : Due t done.number (turned c).before.loop-slot.slot c.end_of-end.result (turned c).before.loop-slot.after
  due = planning_due (begun (turned c)).args.plan.now P done (turned c).loop-slot-test.true _ ends

  ends_low : c.end_of-end.result ≤ max_slots
  ends_low = planning_low (begun (turned c)).args.plan.now P done (turned c).loop-slot-test.true _ ends

  roomy : ((turned c).before.loop-slot.slot < c.end_of-end.result)
      × ((turned c).before.loop-slot.at + (c.end_of-end.result - (turned c).before.loop-slot.slot) ≤ length (begun (turned c)).args.plan.now)
      × (length (turned c).before.loop-slot.plan ≡ length (begun (turned c)).args.plan.now)
  roomy = planning_room (begun (turned c)).args.plan.now P done (turned c).loop-slot-test.true _ ends

  -- what it stands on
  ready : let a = (begun (turned c)).args.table in let L = laying (turned c) in let F = (folding L).fold_sets-folded in
      Ready t (record { rows = a.outline.rows; sets = F.result.sets; hyper = a.outline.time.hyper }) a.outline.top
      a.outline.first a.outline.second a.rate F.result.upper F.new.words
      (arrays (chaining (turned c)))
  ready =
      let h = chaining (turned c) in
      ready_of P.accepted (folding (laying (turned c))).fold_sets-folded.ensures {L = arrays h} (linking h).lay.ensures
      h.chain.ensures

  place-low : (turned c).before.loop-slot.at ≤ max_slots
  place-low = omega (arith, done.place, ends_low, roomy.0)

sub-slots : tie.Need-overflow_sub-slots invariant-loop decreases-loop
sub-slots c = omega (arith, roomy c (given (turned c)))

-- ---- its pieces

part-shares-requires : tie.Need-part_shares-parted-requires invariant-loop decreases-loop
part-shares-requires c κs =
    let I = c.before.before.before in
    let A = (given (turned I)).accepted in
    let l = (turned I) in (
      few_rows A,
      hyper_positive A,
      hyper_short A,
      l.inverse_of-inverse.ensures,
      shares_fit (ready I (given (turned I))) (due I (given (turned I))),
      l.loop-slot.invariant.0,
      l.loop-slot.invariant.1,
    )

-- the turn, from where the shares are had and from where the loads are given
abbrev Parted : Type 0
Parted = tie.After-part_shares-parted invariant-loop decreases-loop

abbrev parting : Parted → tie.After-end_of-end invariant-loop decreases-loop
parting p = p.before.before.before.before

abbrev rounding : tie.After-round_rows-rounded invariant-loop decreases-loop → Parted
rounding r = r.before.before.before.before.before.before

abbrev giving : tie.After-give invariant-loop decreases-loop → tie.After-round_rows-rounded invariant-loop decreases-loop
giving g = g.before.before.before

abbrev turn : tie.After-give invariant-loop decreases-loop → tie.After-end_of-end invariant-loop decreases-loop
turn g = parting (rounding (giving g))

-- the whole slots of the shares, and the parts above them
abbrev whole : Parted → List ℕ
whole p = p.part_shares-parted.new.whole

abbrev part : Parted → List ℕ
part p = p.part_shares-parted.new.part

-- the loads, and the totals with them
abbrev load : tie.After-give invariant-loop decreases-loop → List ℕ
load g = g.give.new.load

abbrev totals : tie.After-give invariant-loop decreases-loop → List ℕ
totals g = g.give.new.totals

round-rows-requires : tie.Need-round_rows-rounded-requires invariant-loop decreases-loop
round-rows-requires c κs =
    let p = c.before.before.before.before.before in
    let I = parting p in
    let R = ready I (given (turned I)) in
    let S = p.part_shares-parted.ensures in
    (all_laid R, are_parts R (due I (given (turned I))) (whole p) (part p) S.2, S.3)

give-requires : tie.Need-give-requires invariant-loop decreases-loop
give-requires c κs =
    let p = rounding c.before.before in
    let I = parting p in
    let P = given (turned I) in (
      few_rows P.accepted,
      whole_fit (ready I P) (due I P) (whole p) (part p) p.part_shares-parted.ensures.2,
      p.part_shares-parted.ensures.0,
      (done I P).size,
    )

-- the slots can be filled
module _ (g : tie.After-give invariant-loop decreases-loop) where
  abbrev here : tie.In-loop-slot invariant-loop decreases-loop
  here = turned (turn g)

  at_low : here.before.loop-slot.at ≤ max_slots
  at_low = place-low (turn g) (given here)

  at_in : here.before.loop-slot.at ≤ length here.before.loop-slot.plan
  at_in = omega (arith, roomy (turn g) (given here))

  short : (turn g).end_of-end.result - here.before.loop-slot.slot ≤ max_slots
  short = interval_short (ready (turn g) (given here)) (due (turn g) (given here))

  -- the part of the plan that is lent, and the plan with it back
  abbrev lent : List ℕ
  lent = take (length here.before.loop-slot.plan - here.before.loop-slot.at) (drop here.before.loop-slot.at here.before.loop-slot.plan)

  room : (turn g).end_of-end.result - here.before.loop-slot.slot ≤ length lent
  room = simp (length-take, length-drop) (omega (arith, roomy (turn g) (given here)))

  abbrev joined : List ℕ → List ℕ
  joined ys =
      take here.before.loop-slot.at here.before.loop-slot.plan
      ++ (ys
      ++ drop (length here.before.loop-slot.plan - here.before.loop-slot.at) (drop here.before.loop-slot.at here.before.loop-slot.plan))

  -- however they are filled, the interval is done
  next : (ys : List ℕ) → FilledSlots (begun here).args.table.outline.rows (at (begun here).args.table.outline.first)
      (at (begun here).args.table.outline.second) (at (load g)) ((turn g).end_of-end.result - here.before.loop-slot.slot) lent ys
      → (t : Table) (k m : ℕ) → Given (begun here) t k m
      → Planning t k m (begun here).args.totals (begun here).args.plan.now (turn g).end_of-end.result
      (here.before.loop-slot.at + ((turn g).end_of-end.result - here.before.loop-slot.slot)) (totals g) (joined ys)
  next ys F t k m P =
      let p = rounding (giving g) in
      planning_next (begun here).args.plan.now P (done (turn g) P) here.loop-slot-test.true _ (ends (turn g) P) (totals g) ys
      (advanced_of (ready (turn g) P) (due (turn g) P) (whole p) (part p) p.part_shares-parted.ensures.2 (giving g).round_rows-rounded.result
      (at (load g)) (at (totals g)) (giving g).round_rows-rounded.ensures g.give.ensures.2 (λ i. refl) g.give.ensures.1 F)

mul-fill-plain : tie.Need-offset_bounds-plan-at invariant-loop decreases-loop
mul-fill-plain c = omega (arith, at_low c.before.before.before.before.before.before)

sub-fill-plain : tie.Need-slice_bounds-fill_plain-count invariant-loop decreases-loop
sub-fill-plain c = omega (arith, at_in c.before.before.before.before.before.before)

part-fill-plain-start : tie.Need-slice_bounds-fill_plain-start invariant-loop decreases-loop
part-fill-plain-start c = omega (arith, at_in c.before.before.before.before.before.before)

part-fill-plain-end : tie.Need-slice_bounds-fill_plain-end invariant-loop decreases-loop
part-fill-plain-end c = omega (arith, at_in c.before.before.before.before.before.before)

fill-plain-requires : tie.Need-fill_plain-requires invariant-loop decreases-loop
fill-plain-requires c κs =
    let g = c.before.before.before.before.before.before.before in
    ((_, rows_chained (ready (turn g) (given (here g)))), room g)

mul-fill : tie.Need-offset_bounds-plan-at-else-plain invariant-loop decreases-loop
mul-fill c = omega (arith, at_low c.before.before.before.before.before)

sub-fill : tie.Need-slice_bounds-fill-count invariant-loop decreases-loop
sub-fill c = omega (arith, at_in c.before.before.before.before.before)

part-fill-start : tie.Need-slice_bounds-fill-start invariant-loop decreases-loop
part-fill-start c = omega (arith, at_in c.before.before.before.before.before)

part-fill-end : tie.Need-slice_bounds-fill-end invariant-loop decreases-loop
part-fill-end c = omega (arith, at_in c.before.before.before.before.before)

fill-requires : tie.Need-fill-requires invariant-loop decreases-loop
fill-requires c κs =
    let g = c.before.before.before.before.before.before in
    ((_, _, rows_chained (ready (turn g) (given (here g)))), short g, room g)

-- ---- on to the next

add_at : tie.Need-overflow_add-at invariant-loop decreases-loop
add_at c = omega (arith, at_low c.before, short c.before)

loop-less : tie.Need-loop-slot-smaller invariant-loop decreases-loop
loop-less c = let I = turn c.before in omega (arith, (turned I).loop-slot-test.true, (roomy I (given (turned I))).0)

loop-again : tie.Need-loop-slot-preserved invariant-loop decreases-loop
loop-again c =
    let g = c.before in
    let O = rows_chained (ready (turn g) (given (here g))) in
    let l = g.give.ensures.0 in
    let S = (rounding (giving g)).part_shares-parted.ensures in
    elim c.if-plain.branch [
      | then-plain w ↦ rw w.plan-is (l, S.1, next g w.fill_plain.new.words (w.fill_plain.ensures _ O))
      | else-plain w ↦ rw w.plan-is (l, S.1, next g w.fill.new.words (w.fill.ensures _ _ O))
    ]

-- ---- the end

same_length : tie.Need-shape_of-plan invariant-loop decreases-loop
same_length c = let S = entered c.before.before in (c.loop-slot.invariant.2 _ _ _ S.requires.3).filled.same

returns : tie.Need-returns invariant-loop decreases-loop
returns c t k m P =
    let S = entered c.before.before in
    planning_end S.args.plan.now P (c.loop-slot.invariant.2 t k m P) c.loop-slot-test.false

pub plan_intervals_spec : {M : Type 1} → statement M
plan_intervals_spec =
    tie.close
    (tie.spec
    invariant-loop
    decreases-loop
    fold-sets-requires
    lay-requires
    chain-requires
    has-shortest-requires
    inverse-of-requires
    loop-holds
    end-of-requires
    sub-slots
    part-shares-requires
    round-rows-requires
    give-requires
    mul-fill-plain
    sub-fill-plain
    part-fill-plain-start
    part-fill-plain-end
    fill-plain-requires
    mul-fill
    sub-fill
    part-fill-start
    part-fill-end
    fill-requires
    add_at
    loop-less
    loop-again
    same_length
    returns)
