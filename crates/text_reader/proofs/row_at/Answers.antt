-- row_at: the form of the row, and then its values.
use Rattle.std.proofs.Common.{refl, arith}
use Rattle.rules.proofs.Answers.{none_of}
use Rattle.text_reader.proofs.Wrongs.{not_done, handed}
use Rattle.text_reader.proofs.Lines.{form_numbered, row_many, row_form, row_values, row_done}
use Rattle.text_reader.proofs.row_at.Goals as goal

pub returns-then-i-ge-ROWS : goal.returns-then-i-ge-ROWS
returns-then-i-ge-ROWS c =
    record { answers = row_many _ _ _ _ _ _ c.if-i-ge-ROWS.true refl c.place_of.ensures; row = tt; few = tt }

pub returns-in_err-row : goal.returns-in_err-row
returns-in_err-row c =
    let f = c.in_err-row.field-0.0 in
    rw (handed f c.from_residual.ensures.1)
    record { answers = row_form _ _ _ _ (omega arith) _ _ (not_done f.wrong) c.in_err-row.ensures.answers; row = tt; few = tt }

pub returns-in_err-value_fault : goal.returns-in_err-value_fault
returns-in_err-value_fault c =
    rw (handed c.in_err-value_fault.field-0.0 c.from_residual-in_err-value_fault.ensures.1)
    record {
      answers =
          row_values _ _ _ _ (omega arith) _ _ (none_of _ 0 (form_numbered _ _) c.in_ok-row.ensures.answers) c.in_err-value_fault.ensures;
      row = tt;
      few = tt;
    }

pub returns : goal.returns
returns c = record {
  answers = row_done _ _ _ _ 0 0 0 0 (omega arith) refl c.in_ok-row.ensures.answers refl c.in_ok-value_fault.ensures;
  row = c.in_ok-row.ensures.row;
  few = omega arith;
}
