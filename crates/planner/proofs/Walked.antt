-- Intervals done one after the other: what the loop over them keeps, and the planner's steps that they are.
--
--   Planning t k m had was s n after out   the loop has done the intervals from k, on the way to m, up to slot s: n words are written
use mathlib.Core.Path.{◌≡◌, refl, sym, ap, ap₂, ◌∙◌, subst}
use mathlib.Core.Bool.{cond}
use mathlib.Core.List.{List, [], ◌++◌}
use Prim.Native.Nat.{ℕ, suc, ◌+◌, ◌-◌, ◌≤◌, ◌<◌}
use native.Mathlib.Numerals.{add-one}
use native.Mathlib.Omega.{arith}
use lib.Dec.{eqb, eqb→eq}
use lib.ListN.{length, take, drop, take-append-drop}
use Rattle.numbers.specs.Lists.{at}
use Rattle.numbers.proofs.Truth.{is_false}
use Rattle.numbers.proofs.Lists.{Filled, filled_start, filled_part}
use Rattle.rules.specs.Bounds.{max_rows, max_slots}
use Rattle.rules.specs.Bus.{Table}
use Rattle.rules.specs.Calls.{lent}
use Rattle.rules.specs.Loads.{start, end, intervals}
use Rattle.rules.specs.Planner.{Stage, due, finished, Run, none, more}
use Rattle.lags.specs.Lags.{Admissible, Steady}
use Rattle.lags.proofs.Intervals.{shortest_positive, end_next, end_far, end_le, start_mono, start_below, start_same, intervals_positive}
use Rattle.table.specs.Sound.{Sound}
use Rattle.time.specs.Time.{Begins}
use Rattle.verdict.specs.declared.Analysis.{Analysis}
use Rattle.interval.specs.Interval.{Moved}
use Rattle.interval.specs.Ready.{Due, Advanced}
use Rattle.interval.proofs.Moved.{step_of_moved, moved_steady}
use Rattle.planner.specs.Course.{Course, Coursed}
use Rattle.planner.specs.Plannable.{Plannable}

-- ---- the loop over the intervals

pub record Planning (t : Table) (k m : ℕ) (had was : List ℕ) (s n : ℕ) (after out : List ℕ) : Type 0 where
  pub number : ℕ
  pub from : k ≤ number
  pub to : number ≤ m
  pub slot : s ≡ start t number
  pub place : n + start t k ≡ s
  pub size : length after ≡ max_rows
  pub steady : Steady t s (at after)
  pub words : List ℕ
  pub course : Course t k (at had) number (at after) words
  pub filled : Filled was out n words

module _ {t : Table} {a : Analysis} {k m s u : ℕ} {had : List ℕ} (was : List ℕ) (P : Plannable t a k m s u had (length was)) where
  sound : Sound t
  sound = P.accepted.admissible.sound

  pub planning_start : Planning t k m had was s 0 had was
  planning_start = record {
    number = k;
    from = omega arith;
    to = P.order;
    slot = P.from;
    place = omega (arith, P.from);
    size = P.totals;
    steady = P.steady;
    words = [];
    course = Course.start;
    filled = filled_start was;
  }

  module _ {x n : ℕ} {after out : List ℕ} (L : Planning t k m had was x n after out) where
    pub planning_begins : x < u → Begins t L.number x
    planning_begins l =
        let h = start_below sound L.number m (omega (arith, L.to, P.in_range)) (omega (arith, L.slot, P.until)) in
        record { in_range = omega (arith, P.in_range, h); here = L.slot }

    module _ (l : x < u) (e : ℕ) (ends : e ≡ end t L.number) where
      before_last : L.number < m
      before_last = start_below sound L.number m (omega (arith, L.to, P.in_range)) (omega (arith, L.slot, P.until))

      pub planning_due : Due t L.number x e after
      planning_due = record { in_range = (planning_begins l).in_range; begins = L.slot; ends = ends; steady = L.steady }

      pub planning_low : e ≤ max_slots
      planning_low = omega (arith, ends, end_le sound L.number (planning_begins l).in_range, P.accepted.admissible.short)

      -- there is room for the interval, which ends at slot e
      pub planning_room : (x < e) × (n + (e - x) ≤ length was) × (length out ≡ length was)
      planning_room =
          let far = end_far sound L.number (planning_begins l).in_range in
          let last = start_mono sound (L.number + 1) m (omega (arith, before_last)) P.in_range in (
            omega (arith, L.slot, ends, far, shortest_positive sound),
            omega (arith, L.slot, L.place, ends, far, last, end_next sound L.number, P.from, P.until, P.roomy),
            L.filled.same,
          )

      -- one interval more, written through the part that starts at place n
      pub planning_next : (now ys : List ℕ) → Advanced t L.number after now (take (length out - n) (drop n out)) ys
          → Planning t k m had was e (n + (e - x)) now (take n out ++ (ys ++ drop (length out - n) (drop n out)))
      planning_next now ys D =
          let q : end t L.number - start t L.number ≡ e - x = ap₂ ◌-◌ (sym ends) (sym L.slot) in
          let w : List ℕ = take (end t L.number - start t L.number) ys in
          let r = planning_room in
          record {
            number = L.number + 1;
            from = omega (arith, L.from);
            to = omega (arith, before_last);
            slot = ends ∙ end_next sound L.number;
            place = omega (arith, L.place, r.0);
            size = D.size;
            steady = rw ends (moved_steady D.moved);
            words = L.words ++ w;
            course = rw add-one (Course.on L.course D.moved);
            filled =
                filled_part (e - x) (length out - n) w ys L.filled
                (D.moved.words.size ∙ q)
                (omega (arith, r.1, r.2))
                r.1
                (sym (take-append-drop (end t L.number - start t L.number) ys)
                ∙ ap (λ (d : List ℕ). w ++ d) D.kept.rest
                ∙ ap (λ (y : ℕ). w ++ drop y (take (length out - n) (drop n out))) q);
          }

    pub planning_end : u ≤ x → Coursed t k m had after was out
    unfolding lent
    planning_end l =
        let e : L.number ≡ m = start_same sound L.number m L.to P.in_range (omega (arith, L.slot, P.until)) in
        record {
          size = L.size;
          words = L.words;
          course = rw e at L.course;
          written = L.filled.holds ∙ ap (λ (y : ℕ). L.words ++ drop y was) (sym L.filled.count);
        }

-- ---- one interval is a step, and those from the first on are a run

module _ {t : Table} where
  course_start : {k : ℕ} {had : ℕ → ℕ} {m : ℕ} {now : ℕ → ℕ} {ws : List ℕ} → Course t k had m now ws → k ≤ m
  course_start Course.start = omega arith
  course_start (Course.on c d) = let z = course_start c in omega arith

  course_none : {k m : ℕ} {had now : ℕ → ℕ} {ws : List ℕ} → Course t k had m now ws → k ≡ m → (now ≡ had) × (ws ≡ [])
  course_none Course.start e = (refl, refl)
  course_none (Course.on c d) e = absurd (let z = course_start c in omega arith)

  pub course_one : {k m : ℕ} {had now : ℕ → ℕ} {ws : List ℕ} → Course t k had m now ws → m ≡ suc k → Moved t k had now ws
  course_one Course.start e = absurd (omega arith)
  course_one {k} {had = had} (Course.on {m} {mid} {now} {vs} {ws} c d) e =
      let q : k ≡ m = omega arith in
      let z = course_none c q in
      rw (z.1, q) (rw z.0 at d)

-- the stage when the intervals below m are done
abbrev pub stage_at : Table → ℕ → Stage
stage_at t m = cond (eqb m (intervals t)) finished (due m)

module _ {t : Table} (A : Admissible t) where
  at_due : (m : ℕ) → m < intervals t → stage_at t m ≡ due m
  at_due m l = rw (is_false (eqb m (intervals t)) (λ h. omega (arith, eqb→eq m (intervals t) h)))

  pub course_run : {m : ℕ} {now : ℕ → ℕ} {ws : List ℕ} → Course t 0 (λ i. 0) m now ws → m ≤ intervals t
      → Run t m (record { stage = stage_at t m; totals = now }) ws
  course_run Course.start l =
      subst (λ (s : Stage). Run t 0 (record { stage = s; totals = λ i. 0 }) [])
      (sym (at_due 0 (intervals_positive A.sound))) none
  course_run (Course.on {m} c d) l =
      more (course_run c (omega arith))
      (step_of_moved (at_due m (omega arith)) (ap (stage_at t) (sym (add-one m))) d)
