-- `meetings::set` meets its contract: the answer's line, then those of the rows and of the segments.
use Rattle.std.proofs.Common.{arith, ℕ, ◌∷◌, ◌++◌}
use mathlib.Core.Path.{ap₂}
use Rattle.decimal.proofs.Puts.{puts_more}
use Rattle.decimal.proofs.Text.{text_first, text_join}
use Rattle.rules.specs.Program.{shared, row_lines, segment_lines}
use Rattle.table.specs.Refusal.{number, place}
use Rattle.report.proofs.Members.{crowd_told}
use Rattle.report.proofs.meetings.set.Goals as goal

pub returns : goal.returns
returns c =
    let r = c.of_set-found.result in
    let w = c.unwrap_or-crowd.result in
    let e = crowd_told r c.unwrap_or-crowd.ensures in
    let S = c.put_segments.ensures in
    let R = c.put_rows-listed.ensures in
    let A = c.put_answer-next.ensures in
    record {
      lines = shared (number r) (place r) ∷ (row_lines w.rows ++ segment_lines w.segments);
      printed = record {
        number = _;
        place = _;
        rows = _;
        segments = _;
        crowded = c.of_set-found.ensures;
        lines = ap₂ (λ (v u : ℕ). shared (number r) (place r) ∷ (row_lines v ++ segment_lines u)) e.0 e.1;
      };
      puts = rw (text_first, text_join) (puts_more A.0 (puts_more R.0 S.0));
      fits = omega (arith, A.1, R.1, S.1);
    }
