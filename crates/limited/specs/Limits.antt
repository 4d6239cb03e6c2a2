-- Two parties' rows as the code weighs them: whole numbers of 1 / h, from the rows' rates, words of segments and labels in arrays.
--
--   party b            the second maker's where b holds, else ours
--   RatesFit n xs      no rate of n rows is above 4096
--   weight_on n ..      what a party's rows among n weigh on the segment whose bit is s
--   labelled t xs      the table t with the labels xs
--   Limited t ..       the table t is sound, has one ring and a short h, and its rates and words of segments are these
--   OverAt w M s r     r refuses for reason w and segment s, counted from 0, or not at all where s is none of M
use Rattle.std.specs.Prelude.{◌≡◌, Bool, ◌&&◌, cond, List, ℕ, ◌+◌, ◌≤◌, ◌<◌, Result, Ok, Err}
use Rattle.numbers.specs.Finite.{sum_in}
use Rattle.numbers.specs.Lists.{at}
use Rattle.numbers.specs.Word.{bit}
use Rattle.rules.specs.Bounds.{max_rows, max_slots}
use Rattle.rules.specs.Bus.{Table, Labelled}
use Rattle.rules.specs.Loads.{hyperperiod}
use Rattle.rules.specs.Loads as loads
use Rattle.rules.specs.Parties.{Party, ours, theirs, owns}
use Rattle.table.specs.Sound.{Sound}
use Rattle.table.specs.Columns.{ByRow}
use Rattle.table.specs.declared.refusals.Reason.{Reason}
use Rattle.table.specs.declared.refusals.Refusal.{Refusal}
use Rattle.ring.specs.Route as route

abbrev pub party : Bool → Party
party b = cond b theirs ours

pub record RatesFit (n : ℕ) (xs : List ℕ) : Type 0 where
  pub few : n ≤ max_rows
  pub small : (i : ℕ) → i < n → at xs i ≤ max_slots

unfoldable pub weight_on : (n : ℕ) (rate segments label : List ℕ) → Bool → ℕ → ℕ
weight_on n rate segments label b s = sum_in n (λ i. owns (party b) (at label i) && bit (at segments i) s) (at rate)

-- a table with the labels of an array
abbrev pub labelled : Table → List ℕ → Labelled
labelled t label = record { table = t; label = at label }

pub record Limited (t : Table) (elements rows hyper : ℕ) (rate segments : List ℕ) : Type 0 where
  pub sound : Sound t
  pub one_ring : t.rings ≡ 1
  pub elements_is : elements ≡ t.elements
  pub rows_is : rows ≡ t.rows
  pub hyper_is : hyper ≡ hyperperiod t
  pub short : hyperperiod t ≤ max_slots
  pub rate_is : ByRow t.rows (loads.rate t) rate
  pub segments_is : ByRow t.rows (λ i. route.row_segments t.elements (t.way i) (t.first i) (t.second i)) segments

pub record OverAt (reason : Reason) (elements s : ℕ) (r : Result Unit Refusal) : Type 0 where
  pub over : s < elements → r ≡ Err (record { reason = reason; place = s + 1 })
  pub within : elements ≤ s → r ≡ Ok tt
