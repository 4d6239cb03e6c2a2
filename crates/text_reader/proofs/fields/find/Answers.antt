-- The first place is the one that the library's search finds.
use Rattle.std.proofs.Common.{rules, tests}
use Rattle.std.proofs.lemmas.Iterator.{YieldsList-from_slice}
use Rattle.std.proofs.lemmas.Iterator.Search.{position_from_yields_List}
use Rattle.text_reader.specs.Walk.{is_sign}
use Rattle.text_reader.proofs.Parts.{first_place}
use Rattle.text_reader.proofs.fields.find.Goals as goal

pub returns : goal.returns
returns c =
    first_place (is_sign c.args.sign) c.args.bytes.now c.position.result _
    (position_from_yields_List _ _ _ _ c.position.ensures.ran (YieldsList-from_slice c.args.bytes.now c.iter.ensures.rest) (λ x b q k. search (rules, tests)))
    c.unwrap_or.ensures
