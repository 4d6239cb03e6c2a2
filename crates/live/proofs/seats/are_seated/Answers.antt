-- `seats::are_seated` meets its contract.
use Rattle.std.proofs.Common.{sym, ◌∙◌, rules, tests}
use Rattle.live.proofs.seats.are_seated.Goals as goal
use Rattle.live.proofs.seats.are_seated.Goals.{then-contains, else-contains}

pub returns-then-are_seats : goal.returns-then-are_seats
returns-then-are_seats c =
    let D = c.are_single.ensures c.args.elements in
    elim c.if-contains.branch [
      | then-contains w ↦
          record {
            holds = λ t. record {
              low = search (rules, tests);
              high = search (rules, tests);
              place = w.are_seats.ensures.holds (sym w.value-is ∙ c.if-are_seats.true);
              single = D.holds t;
            };
            fails = λ f S. D.fails f S.single;
          }
      | else-contains w ↦ absurd (cc)
    ]
