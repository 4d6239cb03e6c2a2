-- The array that is written to is SIZE long, 524480 bytes; its zeros are not counted one by one.
use Rattle.std.proofs.Common.{sym, ℕ}
use Rattle.std.proofs.lemmas.List.{length-replicate}
use Rattle.ringplan.proofs.main.Goals as goal

pub slice_bounds-print_answer-end-2 : goal.slice_bounds-print_answer-end-2
slice_bounds-print_answer-end-2 c = sym (length-replicate {0} {A = ℕ} 524480 0)
