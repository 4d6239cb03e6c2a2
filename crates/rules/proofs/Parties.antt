-- #108: the other party's rows change nothing that is said of a party.
use mathlib.Core.Path.{◌≡◌, refl, sym, ap, ◌∙◌}
use mathlib.Core.List.{List}
use Prim.Native.Nat.{ℕ}
use lib.ListN.{length, length-map}
use Rattle.numbers.specs.Lists.{at}
use Rattle.rules.specs.Bus.{Table, Labelled, clockwise}
use Rattle.rules.specs.Parties.{Party, rows_of, of_rows, own, is_over_limit, OwnRowsOnly}

-- the table whose rows are these
table_from : (M : ℕ) (costs periods firsts seconds : List ℕ) → Table
table_from M costs periods firsts seconds = record {
  elements = M;
  rows = length costs;
  rings = 1;
  cost = at costs;
  period = at periods;
  first = at firsts;
  second = at seconds;
  way = λ k. clockwise;
}

own_from : (p : Party) (t : Labelled)
    → own p t
    ≡ table_from t.table.elements (of_rows p t (λ u. u.cost)) (of_rows p t (λ u. u.period)) (of_rows p t (λ u. u.first))
    (of_rows p t (λ u. u.second))
unfolding own table_from
own_from p t = rw (length-map (rows_of p t) t.table.cost) refl

pub own_rows_only : OwnRowsOnly
own_rows_only p t u A limit s =
    ap (λ (o : Table). is_over_limit o limit s)
    (own_from p t ∙ (λ k. table_from (A.elements k) (A.cost k) (A.period k) (A.first k) (A.second k)) ∙ sym (own_from p u))
