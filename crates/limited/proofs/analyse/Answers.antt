-- analyse: 23 first; past the checks of a table as it is given, with one ring, the columns hold it and the labels are its labels.
use Rattle.std.proofs.Common.{ap, ◌∙◌}
use Rattle.rules.specs.Bus.{Table}
use Rattle.rules.specs.TableFile.{file_labelled}
use Rattle.table.specs.Columns.{table_of}
use Rattle.table.proofs.Reasons.{handed}
use Rattle.pasted.proofs.AsGiven.{given_passed}
use Rattle.pasted.proofs.OneRing.{one_ring_none, one_ring}
use Rattle.limited.proofs.Checked.{within_held, limits_wrong, limits_low, limits_given, limits_past}
use Rattle.limited.proofs.analyse.Goals as goal

pub returns-then-are_wrong : goal.returns-then-are_wrong
returns-then-are_wrong c =
    let a = c.args in
    rw c.from.ensures
    (record { answers = limits_wrong a.file.now a.limits.ours a.limits.theirs c.are_wrong.ensures c.if-are_wrong.true; found = tt })

pub returns-in_err-found : goal.returns-in_err-found
returns-in_err-found c =
    let a = c.args in
    rw (handed c.in_err-found.field-0.0 c.from_residual.ensures.1)
    (record {
      answers =
          limits_given a.file.now a.limits.ours a.limits.theirs c.are_wrong.ensures c.if-are_wrong.false _ c.in_err-found.ensures.answers;
      found = tt;
    })

pub analysis_within-requires : goal.analysis_within-requires
analysis_within-requires c =
    let a = c.args in
    let D = c.in_ok-found.ensures in
    let e = D.passed.table in
    let low = limits_low a.file.now a.limits.ours a.limits.theirs c.are_wrong.ensures c.if-are_wrong.false in (
      rw e (given_passed _ (one_ring_none _ _ D.answers)).sound,
      ap (λ (t : Table). t.rings) e ∙ one_ring _ _ D.answers,
      low.0,
      low.1,
    )

pub returns : goal.returns
returns c =
    let a = c.args in
    let D = c.in_ok-found.ensures in
    limits_past a.file.now a.limits.ours a.limits.theirs c.are_wrong.ensures c.if-are_wrong.false D.answers
    (within_held _ _ (file_labelled a.file.now) a.limits.ours a.limits.theirs D.passed.table D.labelled.labels c.analysis_within.ensures)
