-- find_in: a table that the verdict admits is decoded.
use Rattle.table.proofs.Reasons.{handed}
use Rattle.maker.proofs.Finding.{mark_stops, admitted_decodes, admitted_columns, admitted_finds}
use Rattle.maker.proofs.Judged.{judged_refused, judged_none, judged_table}
use Rattle.maker.proofs.find_in.Goals as goal

pub returns-then-has_other_mark : goal.returns-then-has_other_mark
returns-then-has_other_mark c =
    let a = c.args in
    rw c.from.ensures (mark_stops a.file.now a.plan.now a.element (c.has_other_mark.ensures.holds c.if-has_other_mark.true))

pub returns-in_err-admitted : goal.returns-in_err-admitted
returns-in_err-admitted c =
    let a = c.args in
    rw (handed c.in_err-admitted.field-0.0 c.from_residual.ensures.1)
    (judged_refused a.file.now (c.has_other_mark.ensures.fails c.if-has_other_mark.false) a.plan.now a.element _ c.in_err-admitted.ensures)

pub unwrap-requires : goal.unwrap-requires
unwrap-requires c =
    let a = c.args in
    admitted_decodes a.file.now a.plan.now a.element
    (judged_none a.file.now (c.has_other_mark.ensures.fails c.if-has_other_mark.false) c.in_ok-admitted.admitted c.in_ok-admitted.ensures)
    c.decode_into.ensures

pub find_on-requires : goal.find_on-requires
find_on-requires c =
    judged_table c.args.file.now (c.has_other_mark.ensures.fails c.if-has_other_mark.false) _ c.in_ok-admitted.ensures
    c.decode_into.ensures

pub returns : goal.returns
returns c =
    let a = c.args in
    let own = c.has_other_mark.ensures.fails c.if-has_other_mark.false in
    let none = judged_none a.file.now own _ c.in_ok-admitted.ensures in
    admitted_finds a.file.now a.plan.now a.element none (admitted_columns a.file.now a.plan.now a.element none c.decode_into.ensures) _
    c.find_on.ensures
