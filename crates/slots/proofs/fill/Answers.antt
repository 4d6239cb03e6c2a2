-- fill: a stretch that is not free, or is taken; a row's turn; an element more.
use Rattle.std.proofs.Common.{◌≡◌, List, ℕ, ◌+◌, ◌-◌, ◌^◌, ◌<◌, refl, sym, ap, ◌∙◌, arith, bit_or, length-set}
use mathlib.Core.Logic.{inl, inr}
use lib.ListN.{set}
use lib.Seq.{get_or-set_same, get_or-set_other}
use Rattle.numbers.specs.Lists.{at}
use Rattle.numbers.proofs.Word.{one_shl}
use Rattle.rules.specs.Bounds.{max_rows}
use Rattle.sets.specs.Chained.{Link, ChainedRows}
use Rattle.stretches.specs.Stretches.{most_stretches}
use Rattle.sets.proofs.Chained.{link_row, rest_less}
use Rattle.placing.proofs.Kept.{kept_set, kept_cleared}
use Rattle.stretches.proofs.Stretches.{Fitted, fitted_whole, fitted_parted, fitted_end}
use Rattle.stretches.proofs.Stretched.{stretched_low, stretched_end}
use Rattle.stretches.proofs.Course.{coming_start, coming_end, along_start, along_end}
use Rattle.stretches.proofs.Course.{turning_start, turning_skip, turning_take, turning_end}
use Rattle.slots.proofs.fill.Goals as goal
use Rattle.slots.proofs.fill.Goals.{else-slots-test, then-slots-test+then-left-eq0}

-- a link leads to one of the rows there can be
linked : {n : ℕ} {f g : ℕ → ℕ} {top e j r : ℕ} {head next : List ℕ} → ChainedRows n f g top head next → Link n f e j r → 0 < r
    → r - 1 < max_rows
linked O L some = omega (arith, link_row L, O.few)

-- ---- the elements and their rows

pub loop-element-init : goal.loop-element-init
loop-element-init c =
    let K = kept_cleared _ _ _ c.clear.ensures.0 c.clear.ensures.1 in (
      K,
      λ n f O.
          coming_start (λ j h. (O.line j h).0) refl refl
          (λ h. ap (λ (ws : List ℕ). at ws 0) (c.clear.ensures.0 h)
          ∙ get_or-set_same c.args.words.now 0 0 0 (omega (arith, c.requires.2)))
          refl refl refl (omega (arith, K.long, c.requires.2)),
    )

pub loop-r-init : goal.loop-r-init
loop-r-init c = (
  c.loop-element.invariant.0,
  λ n f O.
      along_start (c.loop-element.invariant.1 n f O) refl refl
      (O.chained.heads c.loop-element.element (omega (arith, O.low, c.loop-element-test.true))),
)

pub overflow_shl-row : goal.overflow_shl-row
overflow_shl-row c =
    let O = c.requires.0.2 in
    linked O (c.loop-r.invariant.1 _ _ O).link (omega (arith, c.loop-r-test.true))

pub slots_at-left-requires : goal.slots_at-left-requires
slots_at-left-requires c =
    let O = c.requires.0.2 in
    linked O (c.loop-r.invariant.1 _ _ O).link (omega (arith, c.loop-r-test.true))

pub slots-init : goal.slots-init
slots-init c = (
  c.loop-r.invariant.0,
  λ n f O.
      let A = c.loop-r.invariant.1 n f O in
      let some : 0 < c.loop-r.r = omega (arith, c.loop-r-test.true) in
      rw c.slots_at-left.ensures (turning_start A some refl (O.line (c.loop-r.r - 1) (omega (arith, link_row A.link))).1),
)

pub bounds-next-i : goal.bounds-next-i
bounds-next-i c =
    let O = c.requires.0.2 in
    linked O (c.loop-r.invariant.1 _ _ O).link (omega (arith, c.loop-r-test.true))

pub loop-r-smaller : goal.loop-r-smaller
loop-r-smaller c =
    let O = c.requires.0.2 in
    let m = link_row (c.loop-r.invariant.1 _ _ O).link in
    rest_less (O.chained.nexts (c.loop-r.r - 1) (omega arith) (omega (arith, c.loop-r-test.true))) O.few
    (omega (arith, c.loop-r-test.true)) (omega arith) m

pub loop-r-preserved : goal.loop-r-preserved
loop-r-preserved c = (
  c.slots.invariant.0,
  λ n f O.
      let T = c.slots.invariant.1 n f O in
      turning_end T (
      elim c.slots-test.branch [
        | else-slots-test z ↦ inl z.slots-test.false
        | then-slots-test+then-left-eq0 z ↦ inr (omega (arith, z.if-left-eq0.true))
      ]
      )
      (O.chained.nexts (c.loop-r.r - 1) (omega arith) T.row),
)

pub loop-element-preserved : goal.loop-element-preserved
loop-element-preserved c = (c.loop-r.invariant.0, λ n f O. along_end (c.loop-r.invariant.1 n f O) c.loop-r-test.false)

pub spread-requires : goal.spread-requires
spread-requires c =
    let S = (c.loop-element.invariant.1 _ _ c.requires.0.2).stretched in
    ((S.of, S.begin, S.tiles), S.room)

pub returns : goal.returns
returns c n f O =
    coming_end (c.loop-element.invariant.1 n f O) (λ j h. omega (arith, O.line j h, c.loop-element-test.false))
    c.loop-element.invariant.0 c.spread.ensures

-- ---- a stretch

pub offset_bounds-end-k : goal.offset_bounds-end-k
offset_bounds-end-k c =
    let low : c.slots.k < most_stretches = stretched_low (c.slots.invariant.1 _ _ c.requires.0.2).stretched c.slots-test.true in
    omega arith

pub bounds-end-k : goal.bounds-end-k
bounds-end-k c = stretched_low (c.slots.invariant.1 _ _ c.requires.0.2).stretched c.slots-test.true

pub bounds-last-k : goal.bounds-last-k
bounds-last-k c = stretched_low (c.slots.invariant.1 _ _ c.requires.0.2).stretched c.slots-test.true

-- ---- it is not free

pub bounds-after-k : goal.bounds-after-k
bounds-after-k c = stretched_low (c.slots.invariant.1 _ _ c.requires.0.2).stretched c.slots-test.true

pub slots-smaller-then-element-from : goal.slots-smaller-then-element-from
slots-smaller-then-element-from c =
    omega (arith, c.from-to.ensures, stretched_end (c.slots.invariant.1 _ _ c.requires.0.2).stretched c.slots-test.true)

pub slots-preserved-then-element-from : goal.slots-preserved-then-element-from
slots-preserved-then-element-from c = (
  c.slots.invariant.0,
  λ n f O.
      let T = c.slots.invariant.1 n f O in
      (turning_skip T c.slots-test.true (omega (arith, c.if-left-eq0.false))
      (omega (arith, c.if-element-from.true, c.from.ensures, T.start)) c.from-to.ensures c.from-k.ensures).0,
)

-- ---- it is free

pub overflow_sub-to : goal.overflow_sub-to
overflow_sub-to c =
    omega (arith, c.from-to.ensures, stretched_end (c.slots.invariant.1 _ _ c.requires.0.2).stretched c.slots-test.true)

-- ---- it has more slots than load is left

pub bounds-words-s-then-left-to : goal.bounds-words-s-then-left-to
bounds-words-s-then-left-to c =
    let S = (c.slots.invariant.1 _ _ c.requires.0.2).stretched in
    omega (arith, c.if-left-to.true, c.from-to.ensures, stretched_end S c.slots-test.true, S.room)

pub part-requires : goal.part-requires
part-requires c =
    let O = c.requires.0.2 in
    let T = c.slots.invariant.1 _ _ O in
    let S = T.stretched in
    let e = stretched_end S c.slots-test.true in (
      S.end_size,
      S.last_length,
      S.after_size,
      stretched_low S c.slots-test.true,
      omega (arith, T.row, O.few),
      omega (arith, c.if-left-to.true, c.from-to.ensures, e, c.requires.1),
    )

pub bounds-second-i : goal.bounds-second-i
bounds-second-i c =
    let O = c.requires.0.2 in
    omega (arith, (c.slots.invariant.1 _ _ O).row, O.few)

pub slots-preserved-then-left-to : goal.slots-preserved-then-left-to
slots-preserved-then-left-to c =
    let l = c.slots in
    let P = c.part.ensures in
    let i = c.loop-r.r - 1 in
    let here = c.slots-test.true in
    let some : 0 < l.left = omega (arith, c.if-left-eq0.false) in
    let ws = set l.words (l.s + l.left) (at l.words l.s) in
    let away : at ws l.s ≡ at l.words l.s = get_or-set_other l.words (l.s + l.left) l.s (at l.words l.s) 0 (λ q. omega arith) in
    let S = (l.invariant.1 _ _ c.requires.0.2).stretched in
    let low = stretched_low S here in
    let e = stretched_end S here in
    let longer : l.s + l.left < at l.end l.k = omega (arith, c.if-left-to.true, c.from-to.ensures) in
    let F : Fitted l.k l.s l.left (i + 1) l.left l.end l.last l.after l.words _ _ _ ws = fitted_parted longer P refl in
    let fits = fitted_end F e.0 some (omega (arith, low, S.end_size)) in
    let used : 0 ≡ l.left - l.left = omega arith in (
      kept_set l.s _ (kept_set (l.s + l.left) _ l.invariant.0 (omega (arith, longer, e))) here,
      λ n f O.
          let T = l.invariant.1 n f O in
          (turning_take T here some F O.few
          (omega (arith, c.if-element-from.false, c.from.ensures, T.start))
          (ap (bit_or (at l.words l.s)) (one_shl i (omega (arith, T.row, O.few))) ∙ ap (λ (v : ℕ). bit_or v (2 ^ i)) (sym away))
          (sym fits.2)
          (sym (ap (λ (fs : List ℕ). at fs l.k) P.afters
          ∙ get_or-set_same (set l.after (i + 1) (at l.after l.k)) l.k (i + 1) 0
          (simp length-set (omega (arith, low, S.after_size)))))
          used).0,
    )

-- ---- it has no more

pub bounds-second-i-else-left-to : goal.bounds-second-i-else-left-to
bounds-second-i-else-left-to c =
    let O = c.requires.0.2 in
    omega (arith, (c.slots.invariant.1 _ _ O).row, O.few)

pub bounds-last-k-else-left-to : goal.bounds-last-k-else-left-to
bounds-last-k-else-left-to c = stretched_low (c.slots.invariant.1 _ _ c.requires.0.2).stretched c.slots-test.true

pub overflow_sub-left : goal.overflow_sub-left
overflow_sub-left c =
    omega (arith, c.from-to.ensures, stretched_end (c.slots.invariant.1 _ _ c.requires.0.2).stretched c.slots-test.true)

pub bounds-after-k-else-left-to : goal.bounds-after-k-else-left-to
bounds-after-k-else-left-to c = stretched_low (c.slots.invariant.1 _ _ c.requires.0.2).stretched c.slots-test.true

pub slots-smaller : goal.slots-smaller
slots-smaller c =
    omega (arith, c.from-to.ensures, stretched_end (c.slots.invariant.1 _ _ c.requires.0.2).stretched c.slots-test.true)

pub slots-preserved : goal.slots-preserved
slots-preserved c =
    let l = c.slots in
    let i = c.loop-r.r - 1 in
    let here = c.slots-test.true in
    let to = c.from-to.ensures in (
      kept_set l.s _ l.invariant.0 here,
      λ n f O.
          let T = l.invariant.1 n f O in
          (turning_take T here (omega (arith, c.if-left-eq0.false))
          (fitted_whole (i + 1) (omega (arith, c.if-left-to.false, to)) (ap (λ (e : ℕ). e - l.s) to)) O.few
          (omega (arith, c.if-element-from.false, c.from.ensures, T.start))
          (ap (bit_or (at l.words l.s)) (one_shl i (omega (arith, T.row, O.few))))
          to c.from-k-else-left-to.ensures refl).0,
    )
