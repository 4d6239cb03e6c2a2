-- The code's live table, as #109's.
--
--   live_of l           the live table l
--   entry_of e          an entry that is to be put in a place
--   row_of e            its row on the one ring
--   blank M d          a live table with no rows
--   NewSeat M e        e passes 7 to 9 on a ring of M, or is zeros
--   PutIn l k e r      r is l with e in place k, and with the sums over r's denominator, which is 0 where it would be above 4096
use Rattle.std.specs.Prelude.{◌≡◌, ◌⊎◌, ℕ, length, set, replicate}
use Rattle.numbers.specs.Lists.{at}
use Rattle.rules.specs.Bounds.{max_elements, max_rows}
use Rattle.rules.specs.Bus.{clockwise}
use Rattle.rules.specs.Live as rules
use Rattle.table.specs.declared.Row.{Row}
use Rattle.table.specs.Rows.{single}
use Rattle.table.specs.Sound.{SoundRow}
use Rattle.time.specs.Time.{Capped}
use Rattle.live.specs.Seats.{Zeros}
use Rattle.live.specs.declared.Live.{Live}
use Rattle.live.specs.declared.Entry.{Entry}

abbrev pub live_of : Live → rules.Live
live_of l = record {
  elements = l.elements;
  cost = at l.cost;
  period = at l.period;
  first = at l.first;
  second = at l.second;
  label = at l.label;
  denominator = l.denominator;
  sum = at l.sums;
}

abbrev pub entry_of : Entry → rules.Entry
entry_of e = record { cost = e.cost; period = e.period; first = e.first; second = e.second; label = e.label }

abbrev pub row_of : Entry → Row
row_of e =
    record { cost = e.cost; period = e.period; first = e.first; second = e.second; way = clockwise; label = e.label }

abbrev pub blank : ℕ → ℕ → Live
blank M d = record {
  elements = M;
  cost = replicate max_rows 0;
  period = replicate max_rows 0;
  first = replicate max_rows 0;
  second = replicate max_rows 0;
  label = replicate max_rows 0;
  denominator = d;
  sums = replicate max_elements 0;
}

abbrev pub NewSeat : ℕ → Entry → Type 0
NewSeat M e = SoundRow (single M 1 (row_of e)) 0 ⊎ Zeros (row_of e)

pub record PutIn (l : Live) (k : ℕ) (e : Entry) (r : Live) : Type 0 where
  pub elements : r.elements ≡ l.elements
  pub cost : r.cost ≡ set l.cost k e.cost
  pub period : r.period ≡ set l.period k e.period
  pub first : r.first ≡ set l.first k e.first
  pub second : r.second ≡ set l.second k e.second
  pub label : r.label ≡ set l.label k e.label
  pub denominator : Capped (rules.common (live_of r)) r.denominator
  pub sums : at r.sums ≡ rules.sum_over r.denominator (live_of r)
  pub size : length r.sums ≡ max_elements
