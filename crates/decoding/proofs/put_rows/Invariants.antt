-- put_rows: the rows before row `i` have no fault and are decoded.
use Rattle.rules.specs.TableFile.{file_table}
use Rattle.table.proofs.Faults.{Checked}
use Rattle.decoding.specs.Decoded.{DecodingTo, SameBeside}
use Rattle.decoding.proofs.put_rows.Given as goal

abbrev pub invariant-loop-i : goal.invariant-loop-i
invariant-loop-i l = record {
  clear : Checked (file_table l.file) l.i;
  decoded : DecodingTo (file_table l.file) l.i l.table;
  rest : SameBeside l.initial.table l.table;
}
