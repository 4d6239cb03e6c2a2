-- `Planner::is_off` meets its contract.
use mathlib.Core.Path.{◌≡◌, sym, ◌∙◌}
use mathlib.Core.Bool.{false}
use borrow.Author.Rules.{rules}
use Rattle.numbers.proofs.Truth.{decides_yes}
use Rattle.planner.specs.State.{late_at}
use Rattle.planner.proofs.CourseNumbers.{few_sets}
use Rattle.planner.proofs.Off.{off_late, off_spare_total, state_bounded, off_decided}
use Rattle.planner.proofs.Planner.is_off.Statement.{statement}
use Rattle.planner.proofs.Planner.is_off.Tie as tie

is-late-requires : tie.Need-is_late-requires
is-late-requires c κs = search rules

returns : tie.Need-returns-then-is_late
returns c t A e = decides_yes (off_late A c.args.self e (sym c.is_late.ensures ∙ c.if-is_late.true))

spare-clear-requires : tie.Need-spare_clear-requires
spare-clear-requires c κs = search rules

returns-2 : tie.Need-returns-then-not-spare_clear
returns-2 c t A e =
    let S = c in
    decides_yes (off_spare_total A S.args.self e (c.spare_clear.ensures.fails c.if-not-spare_clear.true))

-- the first test, from past the second
abbrev in-time : tie.Else-not-spare_clear → tie.Else-is_late
in-time c = c.before.before.before

late : (c : tie.Else-is_late)
    → (let a = c.args in late_at a.self.stage a.slot a.table.outline.time.hyper ≡ false)
late c = sym c.is_late.ensures ∙ c.if-is_late.false

keeps-step-requires : tie.Need-keeps_step-requires
keeps-step-requires c κs =
    let E = in-time c.before.before.before in
    let S = E in
    (state_bounded S.requires.1 S.args.self S.requires.2 (late E), few_sets S.requires.1)

returns-3 : tie.Need-returns
returns-3 c t A e =
    let C = c.before.before.before.before in
    let E = in-time C in
    off_decided A E.args.self e (late E) (C.spare_clear.ensures.holds C.if-not-spare_clear.false)
    c.keeps_step.result c.keeps_step.ensures

pub is_off_spec : {M : Type 1} → statement M
is_off_spec =
    tie.close
    (tie.spec
    is-late-requires
    returns
    spare-clear-requires
    returns-2
    keeps-step-requires
    returns-3)
