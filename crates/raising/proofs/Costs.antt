-- Raised costs: a light row's is its period / L rounded up.
use mathlib.Core.Path.{◌≡◌, refl, sym, ap, ◌∙◌}
use mathlib.Core.Logic.{⊎_elim}
use mathlib.Core.Bool.{Bool, not, ◌&&◌, cond}
use Prim.Native.Nat.{ℕ, ◌*◌, ◌≤◌, ◌<◌, max}
use native.Mathlib.Nat.{mul-le-mul_left, mul-le-mul_right}
use native.Mathlib.Omega.{arith}
use lib.Dec.{T, ltb, eqb, ltb→lt, lt→ltb}
use Rattle.numbers.specs.Finite.{lowest}
use Rattle.numbers.specs.Rounding.{up}
use Rattle.numbers.proofs.Truth.{both, fst, snd, decide, refuted, refutes, is_true, is_false, along, eqb_of, le_or_lt}
use Rattle.numbers.proofs.Finite.{lowest_has, lowest_under}
use Rattle.numbers.proofs.Rounding.{up_over, up_least}
use Rattle.rules.specs.Bus.{Table}
use Rattle.rules.specs.Loads.{hyperperiod, shortest, equal_periods, light}
use Rattle.rules.specs.Raising.{priced, least_cost, raised_cost, raised}
use Rattle.table.specs.Sound.{Sound}
use Rattle.lags.proofs.Intervals.{cost_unseen, shortest_positive, equal_period, equal_shortest}
use Rattle.raising.specs.Raises.{RaiseRaises}

pub up_within : (a b : ℕ) → 0 < b → up a b ≤ a
up_within a b h = let m : a * 1 ≤ a * b = mul-le-mul_left a h in up_least a b h a (omega (arith, m))

-- a row with cost c is light
abbrev light_at : Table → ℕ → ℕ → Bool
light_at t i c = not (equal_periods t) && ltb (c * shortest t) (t.period i)

-- costs say nothing of h, L and the periods
pub hyper_stays : (t : Table) → hyperperiod (raised t) ≡ hyperperiod t
unfolding hyperperiod
hyper_stays t = refl

pub interval_stays : (t : Table) → shortest (raised t) ≡ shortest t
interval_stays t = cost_unseen t (raised_cost t)

pub equal_stays : (t : Table) → equal_periods (raised t) ≡ equal_periods t
unfolding equal_periods
equal_stays t = refl

light_is : (t : Table) (i : ℕ) → light t i ≡ light_at t i (t.cost i)
unfolding light
light_is t i = refl

light_raised : (t : Table) (i : ℕ) → light (raised t) i ≡ light_at t i (raised_cost t i)
unfolding light equal_periods
light_raised t i = ap (λ (l : ℕ). not (equal_periods t) && ltb (raised_cost t i * l) (t.period i)) (interval_stays t)

light_priced : (t : Table) (i c : ℕ) → light (priced t i c) i ≡ light_at t i c
unfolding light equal_periods
light_priced t i c =
    ap (λ (l : ℕ). not (equal_periods t) && ltb (cond (eqb i i) c (t.cost i) * l) (t.period i))
    (cost_unseen t (λ j. cond (eqb j i) c (t.cost j)))
    ∙ ap (λ (b : Bool). not (equal_periods t) && ltb (cond b c (t.cost i) * shortest t) (t.period i)) (is_true (eqb i i) (eqb_of i i refl))

pub heavy_stays : (t : Table) (i : ℕ) → (T (light t i) → ⊥) → raised_cost t i ≡ t.cost i
unfolding raised_cost
heavy_stays t i h = ap (λ (b : Bool). cond b (least_cost t i) (t.cost i)) (is_false (light t i) h)

module _ (t : Table) (s : Sound t) (i : ℕ) (l : i < t.rows) where
  abbrev P : ℕ
  P = t.period i

  abbrev L : ℕ
  L = shortest t

  positive : 0 < L
  positive = shortest_positive s

  light_under : (c : ℕ) → T (light_at t i c) → c * L < P
  light_under c h = ltb→lt _ _ (snd (not (equal_periods t)) (ltb (c * L) P) h)

  abbrev passing : ℕ → Bool
  passing c = not (light (priced t i c) i)

  passing_over : (c : ℕ) → T (not (equal_periods t)) → T (passing c) → P ≤ c * L
  passing_over c d h =
      ⊎_elim (λ q. q)
      (λ q. absurd (refutes (light (priced t i c) i) h
      (along (sym (light_priced t i c)) (both (not (equal_periods t)) (ltb (c * L) P) d (lt→ltb (c * L) P q)))))
      (le_or_lt P (c * L))

  over_passing : (c : ℕ) → P ≤ c * L → T (passing c)
  over_passing c q =
      refuted (light (priced t i c) i) (λ h. let z : c * L < P = light_under c (along (light_priced t i c) h) in omega (arith, z, q))

  up_low : up P L ≤ P
  up_low = up_within P L positive

  least_is : T (not (equal_periods t)) → least_cost t i ≡ up P L
  unfolding least_cost
  least_is d =
      let n : ℕ = lowest P passing in
      let low : n ≤ up P L = lowest_under P passing (up P L) (over_passing (up P L) (up_over P L positive)) in
      let high : up P L ≤ n =
      ⊎_elim (λ q. omega (arith, up_low, q))
      (λ q. up_least P L positive n (passing_over n d (lowest_has P passing q))) (le_or_lt P n) in
      omega (arith, low, high)

  abbrev old : ℕ
  old = t.cost i

  -- where the row is light, a raised cost is the least, and where it isn't the row has that already
  raised_light : T (light t i) → (raised_cost t i ≡ up P L) × (old < up P L)
  unfolding raised_cost
  raised_light h =
      let k : T (light_at t i old) = along (light_is t i) h in
      let d : T (not (equal_periods t)) = fst (not (equal_periods t)) (ltb (old * L) P) k in (
        ap (λ (b : Bool). cond b (least_cost t i) old) (is_true (light t i) h) ∙ least_is d,
        ⊎_elim
            (λ q.
            let m : up P L * L ≤ old * L = mul-le-mul_right L q in
            absurd (omega (arith, m, up_over P L positive, light_under old k)))
            (λ q. q) (le_or_lt (up P L) old),
      )

  -- with equal periods L is the period
  heavy_over : (T (light t i) → ⊥) → P ≤ old * L
  heavy_over h =
      ⊎_elim
      (λ e.
      let q : L ≡ P = equal_shortest s e ∙ sym (equal_period s e i l) in
      let m : 1 * L ≤ old * L = mul-le-mul_right L (s.row i l).cost_low in
      omega (arith, q, m))
      (λ d.
      ⊎_elim (λ q. q)
      (λ q.
      absurd
      (h
      (along (sym (light_is t i)) (both (not (equal_periods t)) (ltb (old * L) P) (refuted (equal_periods t) d) (lt→ltb (old * L) P q)))))
      (le_or_lt P (old * L)))
      (decide (equal_periods t))

  -- every row passes
  pub raised_over : P ≤ raised_cost t i * L
  raised_over =
      ⊎_elim (λ h. rw (raised_light h).0 (up_over P L positive)) (λ h. rw (heavy_stays t i h) (heavy_over h)) (decide (light t i))

  pub raised_is : raised_cost t i ≡ max old (up P L)
  raised_is =
      ⊎_elim (λ h. (raised_light h).0 ∙ (let z = (raised_light h).1 in omega (arith, z)))
      (λ h. heavy_stays t i h ∙ (let z : up P L ≤ old = up_least P L positive old (heavy_over h) in omega (arith, z))) (decide (light t i))

  pub raised_low : raised_cost t i ≤ P
  raised_low = omega (arith, raised_is, up_low, (s.row i l).cost_high)

  pub raised_least : old ≤ raised_cost t i
  raised_least = omega (arith, raised_is)

  -- any lower cost is light
  under_light : (c : ℕ) → T (light t i) → c < raised_cost t i → T (light (priced t i c) i)
  under_light c h m =
      let d : T (not (equal_periods t)) = fst (not (equal_periods t)) (ltb (old * L) P) (along (light_is t i) h) in
      ⊎_elim
      (λ q. let z : up P L ≤ c = up_least P L positive c q in absurd (omega (arith, z, m, (raised_light h).0)))
      (λ q. along (sym (light_priced t i c)) (both (not (equal_periods t)) (ltb (c * L) P) d (lt→ltb (c * L) P q)))
      (le_or_lt P (c * L))

pub raise_raises : RaiseRaises
raise_raises t s = record {
  passes = λ i l h.
      let z : raised_cost t i * shortest t < t.period i = light_under t s i l (raised_cost t i) (along (light_raised t i) h) in
      omega (arith, z, raised_over t s i l);
  least = λ i c l h m. under_light t s i l c h m;
  more = λ i l h. let r = raised_light t s i l h in omega (arith, r.0, r.1);
  within = λ i l. raised_low t s i l;
  stays = λ i h. heavy_stays t i h;
  hyper = hyper_stays t;
  interval = interval_stays t;
  equal = equal_stays t;
}
