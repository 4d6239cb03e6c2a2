-- A table's time, as the code finds and holds it.
--
--   Periods n p        the periods p of n rows are as a bus allows them
--   Capped h r         r is h, or 0 where h is above the 4096 slots that a plan may have
--   Leading n p m ks   ks are the m leading ones of n periods, and 0 past them
--   Nearing n p i j l  l is a greatest common divisor of two of n periods, and the least of any two before period i, and of that with
--                      any before period j
--   Clocked h n p c    c holds h, and of n periods the least greatest common divisor of any two and the leading ones
--   Clocks n p c       c holds so of n periods their own h, or is no_time where that is above 4096
--   no_time             the time of no table: 0 throughout
--   time_of h l n ps    the time that is h, l and the first n of ps
--   Timed t c          c are h, L and the leading periods of the sound table t, which has a short hyperperiod
--   Begins t k s       interval k of table t begins at slot s
use Rattle.std.specs.Prelude.{◌≡◌, List, ℕ, ◌≤◌, ◌<◌, length, replicate}
use Rattle.numbers.specs.Divisors.{lcm, leading}
use Rattle.numbers.specs.Pairs.{IsGcd, LeastGcd}
use Rattle.rules.specs.Bounds.{max_rows, max_slots}
use Rattle.rules.specs.Bus.{Table}
use Rattle.rules.specs.Loads.{hyperperiod, shortest, start, intervals}
use Rattle.rules.specs.Calls.{lent}
use Rattle.table.specs.Sound.{Sound}
use Rattle.time.specs.declared.Time.{Time}

pub record Periods (n : ℕ) (p : ℕ → ℕ) : Type 0 where
  pub some : 1 ≤ n
  pub few : n ≤ max_rows
  pub low : (i : ℕ) → i < n → 1 ≤ p i
  pub high : (i : ℕ) → i < n → p i ≤ max_slots

pub record Capped (h r : ℕ) : Type 0 where
  pub short : h ≤ max_slots → r ≡ h
  pub long : max_slots < h → r ≡ 0

pub record Leading (n : ℕ) (p : ℕ → ℕ) (m : ℕ) (ks : List ℕ) : Type 0 where
  pub count : length (leading n p) ≡ m
  pub holds : ks ≡ lent (leading n p) (replicate max_rows 0)

pub record Nearing (n : ℕ) (p : ℕ → ℕ) (i j l : ℕ) : Type 0 where
  pub first : 1 ≤ i
  pub some : (a : ℕ) × (b : ℕ) × (a < n) × (b < n) × IsGcd (p a) (p b) l
  pub before : (a b d : ℕ) → a < i → b ≤ a → IsGcd (p a) (p b) d → l ≤ d
  pub here : (b d : ℕ) → b < j → IsGcd (p i) (p b) d → l ≤ d

pub record Clocked (h n : ℕ) (p : ℕ → ℕ) (c : Time) : Type 0 where
  pub hyper : c.hyper ≡ h
  pub interval : LeastGcd n p c.interval
  pub leads : Leading n p c.count c.period

abbrev pub no_time : Time
no_time = record { hyper = 0; interval = 0; count = 0; period = replicate max_rows 0 }

abbrev pub time_of : (h l n : ℕ) → List ℕ → Time
time_of h l n ps = record { hyper = h; interval = l; count = n; period = ps }

pub record Clocks (n : ℕ) (p : ℕ → ℕ) (c : Time) : Type 0 where
  pub short : lcm n p ≤ max_slots → Clocked (lcm n p) n p c
  pub long : max_slots < lcm n p → c ≡ no_time

pub record Timed (t : Table) (c : Time) : Type 0 where
  pub sound : Sound t
  pub short : hyperperiod t ≤ max_slots
  pub hyper : c.hyper ≡ hyperperiod t
  pub interval : c.interval ≡ shortest t
  pub leads : Leading t.rows t.period c.count c.period

pub record Begins (t : Table) (k s : ℕ) : Type 0 where
  pub in_range : k < intervals t
  pub here : s ≡ start t k
