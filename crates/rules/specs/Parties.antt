-- #108: two parties on one ring.
--
--   max_limit          a party's limit in thousandths is at most this
--   theirs_from        labels from here on are the second maker's
--   Party              ours, or theirs: the second maker's
--   owns p l           a row with label l is party p's
--   rows_of p t         the numbers of party p's rows, ascending
--   own p t            party p's own table: its rows alone, in the table's order
--   of_rows p t column  the numbers of party p's rows in a column, one by one
--   segment_load t s    the load of ring segment s: of all rows whose routes use it, in units of 1 / h
--   is_over_limit t x s    that load is over x thousandths
--   Agree p ..         two tables agree on party p's rows
--   OwnRowsOnly      the other party's rows change nothing that is said of a party
--
-- A party is judged by its own table, in which the other party's rows can't be seen: h there is the least common multiple of its own
-- periods, and a fraction is the same over any h.
use Rattle.std.specs.Prelude.{◌≡◌, Bool, not, cond, List, [], ◌∷◌, map, ℕ, ◌*◌, ltb, length}
use Rattle.numbers.specs.Lists.{at, each}
use Rattle.rules.specs.Bus.{Table, Labelled, clockwise, uses}
use Rattle.rules.specs.Loads.{hyperperiod, load}

abbrev pub max_limit : ℕ
max_limit = 1000

abbrev pub theirs_from : ℕ
theirs_from = 32768

pub data Party : Type 0 where
  ours : Party
  theirs : Party

unfoldable pub owns : Party → ℕ → Bool
owns ours l = ltb l theirs_from
owns theirs l = not (ltb l theirs_from)

unfoldable pub rows_of : Party → Labelled → List ℕ
rows_of p t = each t.table.rows (λ i. cond (owns p (t.label i)) (i ∷ []) [])

-- the numbers of these rows, one by one
abbrev pub of_rows : Party → Labelled → (Table → ℕ → ℕ) → List ℕ
of_rows p t column = map (column t.table) (rows_of p t)

-- Row k is the party's k-th, and past its last all is 0. All run clockwise: limits are for one ring, and two are refused (#112).
unfoldable pub own : Party → Labelled → Table
own p t = record {
  elements = t.table.elements;
  rows = length (rows_of p t);
  rings = 1;
  cost = at (of_rows p t (λ u. u.cost));
  period = at (of_rows p t (λ u. u.period));
  first = at (of_rows p t (λ u. u.first));
  second = at (of_rows p t (λ u. u.second));
  way = λ k. clockwise;
}

abbrev pub segment_load : Table → ℕ → ℕ
segment_load t s = load t (λ i. uses t i s)

unfoldable pub is_over_limit : Table → ℕ → ℕ → Bool
is_over_limit t limit s = ltb (limit * hyperperiod t) (1000 * segment_load t s)

-- Two tables agree on a party: they have as many elements, and the party's rows are the same, one by one.
pub record Agree (p : Party) (t u : Labelled) : Type 0 where
  pub elements : t.table.elements ≡ u.table.elements
  pub cost : of_rows p t (λ v. v.cost) ≡ of_rows p u (λ v. v.cost)
  pub period : of_rows p t (λ v. v.period) ≡ of_rows p u (λ v. v.period)
  pub first : of_rows p t (λ v. v.first) ≡ of_rows p u (λ v. v.first)
  pub second : of_rows p t (λ v. v.second) ≡ of_rows p u (λ v. v.second)

-- What is said of a party depends on its own rows, the element count and its limit alone: its own table is the same, whatever the other
-- party's rows are (proofs/Parties).
abbrev pub OwnRowsOnly : Type 0
OwnRowsOnly = (p : Party) (t u : Labelled) → Agree p t u → (limit s : ℕ) → is_over_limit (own p t) limit s ≡ is_over_limit (own p u) limit s
