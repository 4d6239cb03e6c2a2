-- given: 18 is looked for where 1 to 9 pass.
use Rattle.table.proofs.Reasons.{handed}
use Rattle.pasted.proofs.AsGiven.{given_stopped, given_rowed, given_rest}
use Rattle.pasted.proofs.given.Goals as goal

pub returns-in_err-found : goal.returns-in_err-found
returns-in_err-found c =
    rw (handed c.in_err-found.field-0.0 c.from_residual.ensures.1)
    (record { answers = given_stopped _ _ c.in_err-found.ensures.answers; passed = tt; labelled = tt })

pub check_pasted-requires : goal.check_pasted-requires
check_pasted-requires c = given_rowed _ _ c.in_ok-found.ensures.answers c.in_ok-found.ensures.passed

pub returns-in_err-check_pasted : goal.returns-in_err-check_pasted
returns-in_err-check_pasted c =
    let D = c.in_ok-found.ensures in
    rw (handed c.in_err-check_pasted.field-0.0 c.from_residual-in_err-check_pasted.ensures.1)
    (record { answers = given_rest _ _ D.answers D.passed _ _ c.in_err-check_pasted.ensures; passed = tt; labelled = tt })

pub returns : goal.returns
returns c =
    let D = c.in_ok-found.ensures in
    record { answers = given_rest _ _ D.answers D.passed _ _ c.in_ok-check_pasted.ensures; passed = D.passed; labelled = D.labelled }
