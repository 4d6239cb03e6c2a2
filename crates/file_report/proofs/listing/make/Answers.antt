-- `listing::make` meets its contract: the maker's list, or the line of its refusal in memory that it left alone.
use Rattle.std.proofs.Common.{ℕ, Err, ◌*◌, ◌≤◌, arith, refl}
use Rattle.rules.specs.ElementList.{list_bytes}
use Rattle.table.proofs.Reasons.{not_done}
use Rattle.maker.proofs.Promises.{made_entries}
use Rattle.file_report.proofs.Shown.{line_told}
use Rattle.file_report.proofs.listing.make.Goals as goal

pub returns-in-Err : goal.returns-in-Err
returns-in-Err c =
    let M = c.in-Err.ensures in
    let h = not_done c.in-Err.refusal.reason in
    let k = (M.refused h).2 in
    let p = line_told {A = ℕ} {a = Err c.in-Err.refusal} refl c.number.ensures refl c.put_answer.ensures in
    record {
      answer = _;
      plan = _;
      planned = c.whole_plan.ensures;
      number = _;
      place = _;
      hyper = _;
      entries = _;
      between = _;
      made = M;
      done = λ y. absurd (h y);
      refused = λ y. rw k at p;
    }

pub overflow_mul-result : goal.overflow_mul-result
overflow_mul-result c = omega (arith, made_entries c.args.file.now _ _ list_bytes _ _ _ _ _ _ refl c.in-Ok.ensures)

pub overflow_add-result : goal.overflow_add-result
overflow_add-result c = omega (arith, made_entries c.args.file.now _ _ list_bytes _ _ _ _ _ _ refl c.in-Ok.ensures)

pub returns : goal.returns
returns c = record {
  answer = _;
  plan = _;
  planned = c.whole_plan.ensures;
  number = _;
  place = _;
  hyper = _;
  entries = _;
  between = _;
  made = c.in-Ok.ensures;
  done = λ y. (refl, refl);
  refused = λ y. absurd (y refl);
}
