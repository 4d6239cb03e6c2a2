-- load_on: row after row that counts is added; no sum is above what all rows can have.
use Rattle.std.proofs.Common.{◌≡◌, sym, ap, ap₂, ◌∙◌, ℕ, ◌+◌, ◌&&◌, arith}
use Rattle.numbers.specs.Lists.{at}
use Rattle.numbers.specs.Word.{bit}
use Rattle.rules.specs.Parties.{owns}
use Rattle.limited.specs.Limits.{party}
use Rattle.limited.proofs.Weighing.{weight_none, weight_more, weight_same, weight_small}
use Rattle.limited.proofs.limits.load_on.Goals as goal
use Rattle.limited.proofs.limits.load_on.Goals.{then-counts, else-counts}

pub loop-i-init : goal.loop-i-init
loop-i-init c = sym (weight_none _ _ _ _ _)

pub overflow_add-sum : goal.overflow_add-sum
overflow_add-sum c =
    let a = c.args in
    let S = c.requires.0 in
    omega (
      arith,
      c.loop-i.invariant,
      weight_small a.rate.now a.segments.now a.label.now a.theirs a.s a.rows c.loop-i.i S (omega arith),
      c.slots_at-sum.ensures,
      S.small c.loop-i.i (omega arith),
      S.few,
    )

pub loop-i-preserved : goal.loop-i-preserved
loop-i-preserved c =
    let a = c.args in
    let i = c.loop-i.i in
    let w = bit (at a.segments.now i) a.s in
    let counted : c.counts.result ≡ (owns (party a.theirs) (at a.label.now i) && w) =
    c.counts.ensures ∙ ap (λ (l : ℕ). owns (party a.theirs) l && w) c.slots_at.ensures in
    elim c.if-counts.branch [
      | then-counts t ↦ t.sum-is ∙ ap₂ (λ (x y : ℕ). x + y) c.loop-i.invariant t.slots_at-sum.ensures
          ∙ sym (weight_more a.rate.now a.segments.now a.label.now a.theirs a.s i (sym counted ∙ t.if-counts.true))
      | else-counts t ↦ t.sum-is ∙ c.loop-i.invariant
          ∙ sym (weight_same a.rate.now a.segments.now a.label.now a.theirs a.s i (sym counted ∙ t.if-counts.false))
    ]

pub returns : goal.returns
returns c =
    let a = c.args in
    let S = c.requires.0 in
    let all : c.loop-i.i ≡ a.rows = omega arith in
    let sum = rw all at c.loop-i.invariant in
    let small = weight_small a.rate.now a.segments.now a.label.now a.theirs a.s a.rows a.rows S (omega arith) in
    (sum, omega (arith, sum, S.few, small))
