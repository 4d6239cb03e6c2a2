-- Loads that qualify are lags rounded down or up (document 01, "Loads of one interval, and its slots"): as the slots already had are whole,
-- the lag rounds just as the share does.
use mathlib.Core.Path.{◌≡◌, ap, ◌∙◌}
use mathlib.Core.Logic.{◌↔◌}
use mathlib.Core.Bool.{Bool}
use Prim.Native.Nat.{ℕ, ◌+◌, ◌*◌, ◌<◌}
use lib.IntN.{pos, ◌-ℤ◌}
use Rattle.numbers.specs.Finite.{sum_in}
use Rattle.numbers.specs.Rounding.{Rounded}
use Rattle.numbers.specs.Signed.{sum_inℤ, Roundedℤ}
use Rattle.numbers.proofs.Finite.{sum_in_scaled}
use Rattle.numbers.proofs.Signed.{rounded_diff, sum_diff}
use Rattle.rules.specs.Bus.{Table}
use Rattle.rules.specs.Loads.{hyperperiod, end, share}
use Rattle.rules.specs.Interval.{lag, QualifyByLags}

module _ (t : Table) (k : ℕ) (had : ℕ → ℕ) (pos-h : 0 < hyperperiod t) where
  row_lag : (i x : ℕ) → Roundedℤ x (lag t k had i) (hyperperiod t) ↔ Rounded (had i + x) (share t i (end t k)) (hyperperiod t)
  unfolding lag
  row_lag i x = rounded_diff x (had i) (share t i (end t k)) (hyperperiod t) pos-h

  summed_lag : (D : ℕ → Bool)
      → sum_inℤ t.rows D (lag t k had)
      ≡ pos (sum_in t.rows D (λ i. share t i (end t k))) -ℤ pos (sum_in t.rows D had * hyperperiod t)
  unfolding lag
  summed_lag D =
      sum_diff t.rows D (λ i. share t i (end t k)) (λ i. had i * hyperperiod t)
      ∙ ap (λ (s : ℕ). pos (sum_in t.rows D (λ i. share t i (end t k))) -ℤ pos s) (sum_in_scaled t.rows D had (hyperperiod t))

  set_lag : (D : ℕ → Bool) (x : ℕ) → Roundedℤ x (sum_inℤ t.rows D (lag t k had)) (hyperperiod t)
      ↔ Rounded (sum_in t.rows D had + x) (sum_in t.rows D (λ i. share t i (end t k))) (hyperperiod t)
  set_lag D x =
      rw (summed_lag D)
      (rounded_diff x (sum_in t.rows D had) (sum_in t.rows D (λ i. share t i (end t k))) (hyperperiod t) pos-h)

pub qualify_by_lags : QualifyByLags
qualify_by_lags t k had x pos-h = (
  λ Q. record {
    rows = λ i l. (row_lag t k had pos-h i (x i)).1 (Q.rows i l);
    sets = λ D S. (set_lag t k had pos-h D (sum_in t.rows D x)).1 (Q.sets D S);
    fits = Q.fits;
  },
  λ L. record {
    rows = λ i l. (row_lag t k had pos-h i (x i)).0 (L.rows i l);
    sets = λ D S. (set_lag t k had pos-h D (sum_in t.rows D x)).0 (L.sets D S);
    fits = L.fits;
  },
)
