-- What the live table's calls answer.
--
--   Sized l                    the arrays of l have 64 places, its sums are 32
--   made_in r                  the live table that r has, nothing but zeros where it is refused
--   taken_in r                 the place taken that r tells, 0 where it is refused
--   NewAnswer M r              new, from M, answers r
--   AddAnswer l e m r          an addition to l leaves m and answers r
--   RemoveAnswer l k m r       a removal from l leaves m and answers r
--
-- Each holds what #109 says of the call. Only one answer fits (proofs/Only).
use Rattle.std.specs.Prelude.{◌≡◌, ℕ, length, Result, Ok, Err, IfErr}
use Rattle.rules.specs.Bounds.{max_elements, max_rows}
use Rattle.rules.specs.Live.{Made, Added, Removed}
use Rattle.table.specs.Refusal.{number, place}
use Rattle.table.specs.declared.refusals.Refusal.{Refusal}
use Rattle.live.specs.declared.Live.{Live}
use Rattle.live.specs.declared.Entry.{Entry}
use Rattle.live.specs.State.{live_of, entry_of, blank}

pub record Sized (l : Live) : Type 0 where
  pub cost : length l.cost ≡ max_rows
  pub period : length l.period ≡ max_rows
  pub first : length l.first ≡ max_rows
  pub second : length l.second ≡ max_rows
  pub label : length l.label ≡ max_rows
  pub sums : length l.sums ≡ max_elements

abbrev pub made_in : Result Live Refusal → Live
made_in (Ok l) = l
made_in (Err _) = blank 0 0

abbrev pub taken_in : Result ℕ Refusal → ℕ
taken_in (Ok k) = k
taken_in (Err _) = 0

pub record NewAnswer (M : ℕ) (r : Result Live Refusal) : Type 0 where
  pub made : Made M (live_of (made_in r)) (number r) (place r)
  pub size : Sized (made_in r)

-- A refusal leaves the very live table that was lent.
pub record AddAnswer (l : Live) (e : Entry) (m : Live) (r : Result ℕ Refusal) : Type 0 where
  pub added : Added (live_of l) (entry_of e) (live_of m) (number r) (place r) (taken_in r)
  pub same : IfErr r (λ _. m ≡ l)
  pub size : Sized m

pub record RemoveAnswer (l : Live) (k : ℕ) (m : Live) (r : Result Unit Refusal) : Type 0 where
  pub removed : Removed (live_of l) k (live_of m) (number r) (place r)
  pub same : IfErr r (λ _. m ≡ l)
  pub size : Sized m
