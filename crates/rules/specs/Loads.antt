-- Document 01, "Loads and bound", and the intervals of #105.
--
--   hyperperiod t      h, the least common multiple of the periods
--   job_end t s         slot s is a multiple of some row's period: a job of that row ends there, or at slot 0 the first arrives
--   next_end t s        the next such slot past slot s
--   start t k, end t k planning interval k runs from slot start t k up to slot end t k
--   intervals t        how many planning intervals the hyperperiod has
--   some_interval t l   some interval of the hyperperiod has l slots
--   shortest t         L, the shortest interval in the hyperperiod
--   rate t i           row i's load cost / period, in units of 1 / h
--   share t i s        row i's share at slot s, cost × s / period, in units of 1 / h
--   load t D           the load of a set, in units of 1 / h
--   equal_periods t     all periods are equal
--   light t i          periods differ, and row i's cost × L is below its period
--   past e h l x       load x / h is past the bound: 1 where e says that all periods are equal, (l − 1) / l where they differ
--   over t D           the set's load is over its bound
--   reported t ws      the largest set's load in thousandths, rounded up
--
-- h is a multiple of every period, so a fraction of a period is a whole number of 1 / h and nothing is rounded.
use Rattle.std.specs.Prelude.{Bool, not, ◌&&◌, cond, List, ℕ, zero, suc, ◌+◌, ◌-◌, ◌*◌, ◌/◌, ltb, eqb, length}
use Rattle.numbers.specs.Finite.{any, every, lowest, sum_in, count, largest}
use Rattle.numbers.specs.Divisors.{divides, lcm}
use Rattle.numbers.specs.Rounding.{up}
use Rattle.rules.specs.Bus.{Table}
use Rattle.rules.specs.Line.{set_at}

unfoldable pub hyperperiod : Table → ℕ
hyperperiod t = lcm t.rows t.period

unfoldable pub job_end : Table → ℕ → Bool
job_end t s = any t.rows (λ i. divides (t.period i) s)

-- h is a multiple of every period, so none is further away.
unfoldable pub next_end : Table → ℕ → ℕ
next_end t s = let between : ℕ = lowest (hyperperiod t) (λ d. job_end t (suc (s + d))) in suc (s + between)

-- An interval runs from one multiple of any row's period to the next multiple of any.
unfoldable pub start : Table → ℕ → ℕ
start t zero = 0
start t (suc k) = next_end t (start t k)

unfoldable pub end : Table → ℕ → ℕ
end t k = next_end t (start t k)

-- One starts at each such slot before h.
unfoldable pub intervals : Table → ℕ
intervals t = count (hyperperiod t) (job_end t)

-- That none is shorter than L, that one is as short, and that L is the least greatest common divisor of any two periods, are theorems
-- (`lags`, proofs/Intervals: `end_far`, `shortest_some`, `shortest_gcd`).
unfoldable pub some_interval : Table → ℕ → Bool
some_interval t l = any (hyperperiod t) (λ s. job_end t s && eqb (next_end t s) (s + l))

unfoldable pub shortest : Table → ℕ
shortest t = lowest (suc (hyperperiod t)) (some_interval t)

unfoldable pub rate : Table → ℕ → ℕ
rate t i = hyperperiod t / t.period i * t.cost i

abbrev pub share : Table → ℕ → ℕ → ℕ
share t i s = rate t i * s

abbrev pub load : Table → (ℕ → Bool) → ℕ
load t D = sum_in t.rows D (rate t)

unfoldable pub equal_periods : Table → Bool
equal_periods t = every t.rows (λ i. eqb (t.period i) (t.period 0))

unfoldable pub light : Table → ℕ → Bool
light t i = not (equal_periods t) && ltb (t.cost i * shortest t) (t.period i)

-- All periods equal: the bound is 1. Periods differ: the bound is (L − 1) / L.
unfoldable pub past : Bool → (h l x : ℕ) → Bool
past equal h l x = cond equal (ltb h x) (ltb ((l - 1) * h) (x * l))

unfoldable pub over : Table → (ℕ → Bool) → Bool
over t D = past (equal_periods t) (hyperperiod t) (shortest t) (load t D)

-- The verdict never uses it.
unfoldable pub reported : Table → List ℕ → ℕ
reported t ws = up (1000 * largest (length ws) (λ k. load t (set_at ws k))) (hyperperiod t)
