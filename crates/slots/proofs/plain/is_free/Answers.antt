-- is_free: a row that overlaps row i, or one more that has been asked.
use Rattle.std.proofs.Common.{◌≡◌, ℕ, Bool, not, ◌&&◌, sym, ap, ◌∙◌, arith}
use mathlib.Core.Bool.{false≢true, true≢false}
use Rattle.numbers.specs.Finite.{any}
use Rattle.numbers.specs.Lists.{at}
use Rattle.numbers.specs.Word.{bit}
use Rattle.numbers.proofs.Truth.{both, fst, snd, is_true, of_true}
use Rattle.numbers.proofs.Word.{bit_zero}
use Rattle.numbers.proofs.Finite.{any_of, any_none}
use Rattle.rules.specs.Bounds.{max_rows}
use Rattle.rules.specs.Line.{meet}
use Rattle.loads.proofs.Words.{bit_one_more, in_first, fewer, one_of}
use Rattle.slots.proofs.plain.is_free.Goals as goal

pub loop-asked-init : goal.loop-asked-init
loop-asked-init c j q = absurd (false≢true (sym (bit_zero j) ∙ q))

pub returns-then-do_overlap : goal.returns-then-do_overlap
returns-then-do_overlap c =
    let j = c.pick-j.result in
    let w = c.args.word in
    let m : ℕ → Bool = λ v. meet (at c.args.first.now) (at c.args.second.now) v c.args.i in
    let asked = in_first _ _ c.pick-j.ensures.1 (λ q. (c.loop-asked.invariant j q).0) in
    sym (ap not (is_true (any max_rows (λ v. bit w v && m v)) (any_of max_rows (λ v. bit w v && m v) j c.pick-j.ensures.0
    (both (bit w j) (m j) (of_true asked.0) (of_true {b = m j} (sym c.do_overlap.ensures ∙ c.if-do_overlap.true))))))

pub loop-asked-smaller : goal.loop-asked-smaller
loop-asked-smaller c =
    let d = c.loop-asked.asked in
    let j = c.pick-j.result in
    let l = c.pick-j.ensures.0 in
    let asked = in_first _ _ c.pick-j.ensures.1 (λ q. (c.loop-asked.invariant j q).0) in
    fewer d _ j l asked.1 (λ v. bit_one_more d j v l)

pub loop-asked-preserved : goal.loop-asked-preserved
loop-asked-preserved c v q =
    let d = c.loop-asked.asked in
    let j = c.pick-j.result in
    let asked = in_first _ _ c.pick-j.ensures.1 (λ h. (c.loop-asked.invariant j h).0) in
    one_of (bit d v) v j (sym (bit_one_more d j v c.pick-j.ensures.0) ∙ q) (c.loop-asked.invariant v)
    (λ k. rw k (asked.0, sym c.do_overlap.ensures ∙ c.if-do_overlap.false))

pub returns : goal.returns
returns c =
    let w = c.args.word in
    let m : ℕ → Bool = λ j. meet (at c.args.first.now) (at c.args.second.now) j c.args.i in
    let e : c.loop-asked.asked ≡ w = omega arith in
    sym (ap not (any_none max_rows (λ v. bit w v && m v) (λ j l t.
    let q = c.loop-asked.invariant j (ap (λ (v : ℕ). bit v j) e ∙ is_true (bit w j) (fst (bit w j) (m j) t)) in
    true≢false (sym (is_true (m j) (snd (bit w j) (m j) t)) ∙ q.1))))
