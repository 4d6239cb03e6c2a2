-- list_of_sets: the outline answers the file's checks up to 11.
use Rattle.rules.specs.Calls.{relayed_line_ask}
use Rattle.outline.proofs.Listed.{traced, list_asked}
use Rattle.relayed.proofs.Checked.{line_numbered}
use Rattle.relayed.proofs.list_of_sets.Goals as goal

pub list_on-requires : goal.list_on-requires
list_on-requires c = traced (relayed_line_ask _ _) c.outline_file.ensures

pub returns : goal.returns
returns c = list_asked (relayed_line_ask _ _) (line_numbered _ _) c.outline_file.ensures c.list_on.ensures
