-- fill_values: the verdict's refusal, or 17, or the verdict's values written.
use Rattle.std.proofs.Common.{refl}
use Rattle.table.proofs.Reasons.{handed}
use Rattle.supervisor.proofs.Values.{values_refused, values_short, values_done}
use Rattle.supervisor.proofs.fill_values.Goals as goal

pub returns-in_err-admitted : goal.returns-in_err-admitted
returns-in_err-admitted c =
    rw (handed c.in_err-admitted.field-0.0 c.from_residual.ensures.1)
    (values_refused _ _ c.in_err-admitted.ensures _ refl)

pub returns-then-out-lt-VALUES : goal.returns-then-out-lt-VALUES
returns-then-out-lt-VALUES c =
    rw c.from.ensures (values_short _ _ _ c.in_ok-admitted.ensures refl c.if-out-lt-VALUES.true)

pub returns : goal.returns
returns c = values_done _ _ _ c.in_ok-admitted.ensures refl _ c.if-out-lt-VALUES.false c.write_values.ensures
