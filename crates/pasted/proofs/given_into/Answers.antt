-- given_into: 18 is looked for where 1 to 9 and 26 pass.
use Rattle.table.proofs.Reasons.{handed}
use Rattle.decoding.proofs.Decoding.{uncounted}
use Rattle.pasted.proofs.AsGiven.{given_stopped, given_rowed, given_rest}
use Rattle.pasted.proofs.given_into.Goals as goal

pub returns-in_err-decode_into : goal.returns-in_err-decode_into
returns-in_err-decode_into c =
    let D = c.in_err-decode_into.ensures in
    rw (handed c.in_err-decode_into.field-0.0 c.from_residual.ensures.1)
    (record { answers = given_stopped _ _ D.answers; passed = tt; refused = D.refused })

pub check_pasted-requires : goal.check_pasted-requires
check_pasted-requires c = given_rowed _ _ c.in_ok-decode_into.ensures.answers c.in_ok-decode_into.ensures.passed

pub returns-in-Err : goal.returns-in-Err
returns-in-Err c =
    let D = c.in_ok-decode_into.ensures in record {
      answers = given_rest _ _ D.answers D.passed _ _ c.in-Err.ensures;
      passed = tt;
      refused = uncounted c.no_columns.ensures;
    }

pub returns : goal.returns
returns c =
    let D = c.in_ok-decode_into.ensures in
    record { answers = given_rest _ _ D.answers D.passed _ _ c.in_default.ensures; passed = D.passed; refused = tt }
