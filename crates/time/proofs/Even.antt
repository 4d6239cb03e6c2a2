-- Where intervals end. All are as long as L where that is one of the leading periods, as it then divides every period; in any case one ends
-- at the first multiple of a leading period past its begin.
use mathlib.Core.Path.{◌≡◌, sym, ◌∙◌, subst}
use Prim.Native.Nat.{ℕ, ◌+◌, ◌<◌, ◌≤◌, ◌∣◌}
use native.Mathlib.Nat.{le_of_dvd}
use native.Mathlib.Omega.{arith}
use lib.Dec.{T, eqb, eqb→eq}
use Rattle.numbers.specs.Finite.{any}
use Rattle.numbers.specs.Lists.{at}
use Rattle.numbers.specs.Divisors.{Leads, Past}
use Rattle.numbers.proofs.Finite.{least}
use Rattle.numbers.proofs.Pairs.{pair_gcd}
use Rattle.rules.specs.Bus.{Table}
use Rattle.rules.specs.Loads.{end, shortest}
use Rattle.rules.specs.Bounds.{max_slots}
use Rattle.lags.proofs.Intervals.{shortest_gcd, shortest_positive, even_end, end_is, end_le, end_far}
use Rattle.time.specs.declared.Time.{Time}
use Rattle.time.specs.Time.{Periods, Timed, Begins}
use Rattle.time.proofs.Periods.{periods_of, leading_is, leading_periods}

module _ {t : Table} {c : Time} (M : Timed t c) (h : T (any c.count (λ k. eqb (at c.period k) c.interval))) where
  leads : Leads t.rows t.period c.count (at c.period)
  leads = leading_is M.leads

  -- a row has L for its period
  row : (i : ℕ) × (i < t.rows) × (t.period i ≡ shortest t)
  row =
      let r = least c.count (λ k. eqb (at c.period k) c.interval) h in
      let a = leads.among r.0 r.1 in
      (a.0, a.1, sym a.2 ∙ eqb→eq (at c.period r.0) c.interval r.2 ∙ M.interval)

  -- which divides every other, as no two have a smaller greatest common divisor
  divides_all : (j : ℕ) → j < t.rows → shortest t ∣ t.period j
  divides_all j l =
      let g = pair_gcd (t.period row.0) (t.period j) in
      let low : shortest t ≤ g.0 = (shortest_gcd M.sound).least row.0 j g.0 row.1 l g.1 in
      let over : g.0 ∣ shortest t = subst (λ (p : ℕ). g.0 ∣ p) row.2 g.1.left in
      let e : g.0 ≡ shortest t = omega (arith, le_of_dvd (shortest_positive M.sound) over) in
      subst (λ (p : ℕ). p ∣ t.period j) e g.1.right

  alone : Leads t.rows t.period 1 (λ k. shortest t)
  alone = record { among = λ k l. (row.0, row.1, sym row.2); under = λ i l. (0, omega arith, divides_all i l) }

  pub even_is : {k s : ℕ} → Begins t k s → s + c.interval ≡ end t k
  even_is {k} B = omega (arith, B.here, M.interval, even_end M.sound (λ k. shortest t) alone k)

-- ---- whether or not L leads

module _ {t : Table} {c : Time} {k s : ℕ} (M : Timed t c) (B : Begins t k s) where
  pub past_fits : Periods c.count (at c.period) × (s ≤ max_slots)
  past_fits =
      let S = M.sound in
      (leading_periods M.leads (periods_of S), omega (arith, M.short, B.here, end_far S k B.in_range, end_le S k B.in_range))

  pub past_is : {r : ℕ} → Past c.count (at c.period) s r → r ≡ end t k
  past_is P = end_is M.sound (leading_is M.leads) k _ (rw B.here at P)
