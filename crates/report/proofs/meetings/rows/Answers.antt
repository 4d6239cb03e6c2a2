-- `meetings::rows` meets its contract: the answer's line, then those of the segments.
use Rattle.std.proofs.Common.{arith, ap, ◌∙◌, ◌∷◌, ℕ}
use Rattle.decimal.proofs.Puts.{puts_more}
use Rattle.decimal.proofs.Text.{text_first}
use Rattle.rules.specs.Program.{shared, segment_lines}
use Rattle.table.specs.Refusal.{number, place}
use Rattle.report.proofs.Members.{word_told}
use Rattle.report.proofs.meetings.rows.Goals as goal

pub returns : goal.returns
returns c =
    let r = c.meet-found.result in
    let S = c.put_segments.ensures in
    let A = c.put_answer-next.ensures in
    record {
      lines = shared (number r) (place r) ∷ segment_lines c.unwrap_or-word.result;
      printed = record {
        number = _;
        place = _;
        word = _;
        met = c.meet-found.ensures;
        lines = ap (λ (w : ℕ). shared (number r) (place r) ∷ segment_lines w) (c.unwrap_or-word.ensures ∙ word_told r);
      };
      puts = rw text_first (puts_more A.0 S.0);
      fits = omega (arith, A.1, S.1);
    }
