-- heading_of: a word, a number, and nothing else.
use Rattle.std.proofs.Common.{[], ◌∷◌, refl}
use Rattle.rules.specs.Refusals.{Answers}
use Rattle.rules.proofs.Answers.{None, none_of}
use Rattle.grammar.specs.TableText.{Part, field, missing_field, spare_field, number_checks}
use Rattle.text_reader.proofs.Wrongs.{not_done, handed}
use Rattle.text_reader.proofs.Lines.{numbers_numbered, shape_numbered, heading_none, heading_cell, heading_shape, heading_wrong}
use Rattle.text_reader.proofs.Lines.{heading_right}
use Rattle.text_reader.proofs.heading_of.Goals as goal

module _ (l : Part) where
  -- after the word comes a number
  cell : Answers (number_checks (field l 1)) 0 0 → None (number_checks (field l 1))
  cell a = none_of _ 0 (numbers_numbered (field l 1)) a

  -- and nothing else
  shape : Answers (missing_field (field l 1) ∷ spare_field (field l 2) ∷ []) 0 0
      → None (missing_field (field l 1) ∷ spare_field (field l 2) ∷ [])
  shape a = none_of _ 0 (shape_numbered (field l 1) (field l 2)) a

pub returns-then-is_no_heading : goal.returns-then-is_no_heading
returns-then-is_no_heading c = record {
  answers = heading_none _ _ _ refl c.place_of.ensures ((c.is_no_heading.ensures c.args.from).holds c.if-is_no_heading.true);
  elements = tt;
  rings = tt;
}

pub returns-in_err-elements : goal.returns-in_err-elements
returns-in_err-elements c =
    let f = c.in_err-elements.field-0.0 in
    rw (handed f c.from_residual.ensures.1)
    record {
      answers =
          heading_cell _ ((c.is_no_heading.ensures c.args.from).fails c.if-is_no_heading.false) _ _ (not_done f.wrong)
          c.in_err-elements.ensures.answers;
      elements = tt;
      rings = tt;
    }

pub returns-in_err-shape_fault : goal.returns-in_err-shape_fault
returns-in_err-shape_fault c =
    let f = c.in_err-shape_fault.field-0.0 in
    rw (handed f c.from_residual-in_err-shape_fault.ensures.1)
    record {
      answers =
          heading_shape _ ((c.is_no_heading.ensures c.args.from).fails c.if-is_no_heading.false) (cell _ c.in_ok-elements.ensures.answers)
          _ _ (not_done f.wrong) c.in_err-shape_fault.ensures;
      elements = tt;
      rings = tt;
    }

pub returns-then-is_wrong_size : goal.returns-then-is_wrong_size
returns-then-is_wrong_size c = record {
  answers =
      heading_wrong _ ((c.is_no_heading.ensures c.args.from).fails c.if-is_no_heading.false) (cell _ c.in_ok-elements.ensures.answers)
      (shape _ c.in_ok-shape_fault.ensures) _ c.in_ok-elements.ensures.value _ _ refl c.place_of-then-is_wrong_size.ensures
      (c.is_wrong_size.ensures.holds c.if-is_wrong_size.true);
  elements = tt;
  rings = tt;
}

pub returns : goal.returns
returns c = record {
  answers =
      heading_right _ ((c.is_no_heading.ensures c.args.from).fails c.if-is_no_heading.false) (cell _ c.in_ok-elements.ensures.answers)
      (shape _ c.in_ok-shape_fault.ensures) _ c.in_ok-elements.ensures.value (c.is_wrong_size.ensures.fails c.if-is_wrong_size.false);
  elements = c.in_ok-elements.ensures.value;
  rings = c.rings_in.ensures _;
}
