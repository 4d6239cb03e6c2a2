-- form_of: the fields are numbers, and neither too few nor too many.
use Rattle.std.proofs.Common.{arith}
use Rattle.numbers.specs.Lists.{each}
use Rattle.rules.specs.Refusals.{Answers}
use Rattle.rules.proofs.Answers.{None, none_of}
use Rattle.grammar.specs.TableText.{Part, field, last, number_checks}
use Rattle.text_reader.proofs.Wrongs.{not_done, handed}
use Rattle.text_reader.proofs.Lines.{numbers_numbered, cells_numbered, form_cells, form_last, form_ends}
use Rattle.text_reader.proofs.form_of.Goals as goal

module _ (l : Part) where
  -- the first four fields are numbers
  cells : Answers (each 4 (λ k. number_checks (field l k))) 0 0 → None (each 4 (λ k. number_checks (field l k)))
  cells a = none_of _ 0 (cells_numbered l) a

  -- and so is the last
  lasts : Answers (number_checks (last l)) 0 0 → None (number_checks (last l))
  lasts a = none_of _ 0 (numbers_numbered (last l)) a

pub returns-in_err-value : goal.returns-in_err-value
returns-in_err-value c =
    let f = c.in_err-value.field-0.0 in
    rw (handed f c.from_residual.ensures.1)
    record { answers = form_cells _ _ _ _ (not_done f.wrong) c.in_err-value.ensures.answers; row = tt }

pub returns-in_err-last : goal.returns-in_err-last
returns-in_err-last c =
    let f = c.in_err-last.field-0.0 in
    rw (handed f c.from_residual-in_err-last.ensures.1)
    record {
      answers = form_last _ _ (cells _ c.in_ok-value.ensures.answers) _ _ (not_done f.wrong) c.in_err-last.ensures.answers;
      row = tt;
    }

pub returns-in_err-shape_fault : goal.returns-in_err-shape_fault
returns-in_err-shape_fault c =
    rw (handed c.in_err-shape_fault.field-0.0 c.from_residual-in_err-shape_fault.ensures.1)
    record {
      answers =
          form_ends _ _ (cells _ c.in_ok-value.ensures.answers) _ _ (lasts _ c.in_ok-last.ensures.answers)
          (rw c.needed.ensures at c.in_err-shape_fault.ensures);
      row = tt;
    }

pub returns : goal.returns
returns c =
    let v = c.in_ok-value.ensures.value in
    record {
      answers =
          form_ends _ _ (cells _ c.in_ok-value.ensures.answers) 0 0 (lasts _ c.in_ok-last.ensures.answers)
          (rw c.needed.ensures at c.in_ok-shape_fault.ensures);
      row = record {
        cost = v 0 (omega arith);
        period = v 1 (omega arith);
        first = v 2 (omega arith);
        second = v 3 (omega arith);
        label = c.in_ok-last.ensures.value;
      };
    }
