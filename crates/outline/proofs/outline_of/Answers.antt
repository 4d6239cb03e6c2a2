-- A layout, and the list of its sets.
use Rattle.outline.proofs.Laying.{lies_on_line, laid_in, found_laid}
use Rattle.outline.proofs.outline_of.Goals as goal

pub list_sets-list-requires : goal.list_sets-list-requires
list_sets-list-requires c = lies_on_line (c.in_ok-lay_into.ensures c.requires.0 c.requires.1).found

pub returns : goal.returns
returns c cost s =
    let A = laid_in (c.in_ok-lay_into.ensures cost s) in
    record { answers = A.answers; found = found_laid A.found _ _ c.list_sets-list.ensures }
