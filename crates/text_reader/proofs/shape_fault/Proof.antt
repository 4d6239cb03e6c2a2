-- `text_reader::shape_fault` meets its contract.
use mathlib.Core.Path.{refl}
use borrow.Author.Rules.{rules}
use Rattle.numbers.proofs.Truth.{denied, granted}
use Rattle.text_reader.proofs.Lines.{shape_missing, shape_spare, shape_right}
use Rattle.text_reader.proofs.shape_fault.Statement.{statement}
use Rattle.text_reader.proofs.shape_fault.Tie as tie

has-field-requires : tie.Need-has_field-requires
has-field-requires c κs = search rules

place-of-requires : tie.Need-place_of-requires
place-of-requires c κs = search rules

returns : tie.Need-returns-then-not-has_field
returns c =
    let h = c in
    let from = h.args.from in
    shape_missing _ _ _ _ refl c.place_of.ensures (denied (h.has_field.ensures from) c.if-not-has_field.true)

has-field-requires-2 : tie.Need-has_field-requires-2
has-field-requires-2 c κs = search rules

place-of-requires-2 : tie.Need-place_of-requires-then-has_field
place-of-requires-2 c κs = search rules

returns-2 : tie.Need-returns-then-has_field
returns-2 c =
    let s = c in
    let h = s in
    let from = h.args.from in
    shape_spare _ _ _ _ refl c.place_of-then-has_field.ensures (granted (h.has_field.ensures from) s.if-not-has_field.false)
    ((s.has_field-2.ensures from).holds c.if-has_field.true)

returns-3 : tie.Need-returns
returns-3 c =
    let s = c in
    let h = s in
    let from = h.args.from in
    shape_right _ _ (granted (h.has_field.ensures from) s.if-not-has_field.false) ((s.has_field-2.ensures from).fails c.if-has_field.false)

pub shape_fault_spec : {M : Type 1} → statement M
shape_fault_spec =
    tie.close
    (tie.spec
    has-field-requires
    place-of-requires
    returns
    has-field-requires-2
    place-of-requires-2
    returns-2
    returns-3)
