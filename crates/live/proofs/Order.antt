-- Whether a live table keeps the rules, from what is worked out of its places.
use mathlib.Core.Path.{◌≡◌, sym, ap, ◌∙◌}
use mathlib.Core.Logic.{inl, inr, ⊎_elim, ◌≢◌}
use mathlib.Core.Bool.{Bool}
use mathlib.Core.List.{List}
use Prim.Native.Nat.{ℕ, ◌<◌}
use native.Mathlib.Omega.{arith}
use Rattle.numbers.specs.Decides.{Decides}
use Rattle.numbers.specs.Lists.{at}
use Rattle.numbers.proofs.Divisors.{lcm_positive}
use Rattle.rules.specs.Bounds.{max_elements, max_rows}
use Rattle.rules.specs.Live as rules
use Rattle.rules.specs.Live.{Blank, Seated, InOrder, common, common_of, sum_over}
use Rattle.time.specs.Time.{Capped}
use Rattle.time.proofs.Periods.{capped_some, capped_none}
use Rattle.live.specs.Tally.{column_live}
use Rattle.live.proofs.Sums.{one_positive}
use Rattle.live.specs.declared.Live.{Live}
use Rattle.live.specs.State.{live_of}

-- the denominator and the sums say nothing of the places
pub seated_with : (l : rules.Live) (d : ℕ) (g : ℕ → ℕ) → Seated l
    → Seated (record {
      elements = l.elements;
      cost = l.cost;
      period = l.period;
      first = l.first;
      second = l.second;
      label = l.label;
      denominator = d;
      sum = g;
    })
seated_with l d g S = record {
  low = S.low;
  high = S.high;
  place = λ i h.
      ⊎_elim
      (λ (B : Blank l i). inl (record { cost = B.cost; period = B.period; first = B.first; second = B.second; label = B.label }))
      (λ a. inr a) (S.place i h);
  single = S.single;
}

pub common_positive : (p : ℕ → ℕ) → 0 < common_of p
unfolding common_of
common_positive p = lcm_positive max_rows _ (one_positive p)

module _ (l : Live) {d : ℕ} (C : Capped (common (live_of l)) d) where
  -- the periods present have no common multiple up to 4096
  pub none_short : d ≡ 0 → InOrder (live_of l) → ⊥
  none_short z O =
      let h = capped_none C z (common_positive (at l.period)) in
      omega (arith, h, O.denominator, O.short)

  pub another : d ≢ 0 → d ≢ l.denominator → InOrder (live_of l) → ⊥
  another z n O = n ((capped_some C z).0 ∙ sym O.denominator)

  -- the sums decide
  pub sums_decide : d ≢ 0 → d ≡ l.denominator → Seated (live_of l) → (xs : List ℕ) {b : Bool}
      → at xs ≡ sum_over d (column_live l.elements l.cost l.period l.first l.second l.label)
      → Decides ((s : ℕ) → s < max_elements → at l.sums s ≡ at xs s) b → Decides (InOrder (live_of l)) b
  unfolding sum_over
  sums_decide z e S xs {b} X D =
      let c : d ≡ common (live_of l) = (capped_some C z).0 in
      let worked : (s : ℕ) → at xs s ≡ sum_over (common (live_of l)) (live_of l) s =
      λ s. ap (λ (g : ℕ → ℕ). g s) X
      ∙ ap (λ (n : ℕ). sum_over n (column_live l.elements l.cost l.period l.first l.second l.label) s) c in
      record {
        holds = λ t. record {
          rows = S;
          denominator = sym e ∙ c;
          short = omega (arith, e, (capped_some C z).1);
          sums = λ s h. D.holds t s h ∙ worked s;
        };
        fails = λ f O. D.fails f (λ s h. O.sums s h ∙ sym (worked s));
      }
