-- `listing::show` meets its contract: the answer's line, and those of the list where it is read.
use Rattle.std.proofs.Common.{arith, refl}
use Rattle.rules.specs.Text.{text}
use Rattle.decimal.proofs.Puts.{puts_none, puts_more}
use Rattle.decimal.proofs.Text.{text_first}
use Rattle.table.proofs.Reasons.{not_done}
use Rattle.file_report.proofs.Shown.{line_told, read_told, read_refused, read_fits, read_shown}
use Rattle.file_report.proofs.listing.show.Goals as goal

pub returns-in_default : goal.returns-in_default
unfolding text
returns-in_default c =
    let A = line_told c.in_default.is c.number.ensures c.place.ensures c.put_answer-first.ensures in
    record {
      lines = _;
      printed = read_refused _ _ _ _ _ _ _ _ (read_told c.in_default.is _ _ _ c.read-found.ensures) (omega arith) (not_done _);
      puts = puts_more A.0 (puts_none _ _);
      fits = omega (arith, A.1);
    }

pub put_entries-requires : goal.put_entries-requires
put_entries-requires c =
    let l = read_fits _ _ _ _ _ _ _ _ (read_told c.in-Ok.is _ _ _ c.read-found.ensures) (omega arith) refl in
    (omega (arith, l), omega (arith, l, c.put_answer-first.ensures.1, c.put_number-second.ensures.1, c.put_number-third.ensures.1))

pub returns : goal.returns
returns c =
    let r = read_told c.in-Ok.is _ _ _ c.read-found.ensures in
    let l = read_fits _ _ _ _ _ _ _ _ r (omega arith) refl in
    let A = line_told c.in-Ok.is c.number.ensures c.place.ensures c.put_answer-first.ensures in
    let E = c.put_number-second.ensures in
    let H = c.put_number-third.ensures in
    let P = c.put_entries.ensures in
    record {
      lines = _;
      printed = read_shown _ _ _ _ _ _ _ _ r (omega arith) refl;
      puts = rw (text_first, text_first, text_first) (puts_more A.0 (puts_more E.0 (puts_more H.0 P.0)));
      fits = omega (arith, l, A.1, E.1, H.1, P.1);
    }
