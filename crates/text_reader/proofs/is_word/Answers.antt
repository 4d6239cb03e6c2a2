use Rattle.std.proofs.Common.{arith}
use Rattle.text_reader.proofs.is_word.Goals as goal

pub slice_bounds-eq-count : goal.slice_bounds-eq-count
slice_bounds-eq-count c = omega (arith, (c.field-first.ensures 0).ordered)

pub slice_bounds-eq-start : goal.slice_bounds-eq-start
slice_bounds-eq-start c = omega (arith, (c.field-first.ensures 0).ordered)

pub slice_bounds-eq-end : goal.slice_bounds-eq-end
slice_bounds-eq-end c = omega (arith, (c.field-first.ensures 0).high)
