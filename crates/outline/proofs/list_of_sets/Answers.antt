-- list_of_sets: the outline answers the file's checks up to 11.
use Rattle.rules.specs.Calls.{line_ask}
use Rattle.outline.proofs.Listed.{traced, list_asked}
use Rattle.outline.proofs.Outlined.{outline_numbered}
use Rattle.outline.proofs.list_of_sets.Goals as goal

pub list_on-requires : goal.list_on-requires
list_on-requires c = traced (line_ask _) c.outline_file.ensures

pub returns : goal.returns
returns c = list_asked (line_ask _) (outline_numbered _) c.outline_file.ensures c.list_on.ensures
