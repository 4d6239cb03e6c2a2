-- What is told of an answer, 0 where it is refused.
--
--   word_of r              the word of the segments that two rows share
--   rows_of r, segments_of r   the word of a set's rows, and of the segments that all of them use
use Rattle.std.specs.Prelude.{ℕ, Result, Ok, Err}
use Rattle.table.specs.declared.refusals.Refusal.{Refusal}
use Rattle.meeting.specs.declared.crowd.Crowd.{Crowd}

abbrev pub word_of : Result ℕ Refusal → ℕ
word_of (Ok w) = w
word_of (Err _) = 0

abbrev pub rows_of : Result Crowd Refusal → ℕ
rows_of (Ok c) = c.rows
rows_of (Err _) = 0

abbrev pub segments_of : Result Crowd Refusal → ℕ
segments_of (Ok c) = c.segments
segments_of (Err _) = 0
