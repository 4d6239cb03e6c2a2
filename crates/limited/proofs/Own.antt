-- A party's own table: what is found of its rows where they stand among all rows, over the h of all rows, is what the definition says of
-- them alone. h of all rows is a multiple of the party's own, and so both sides of the comparison grow by the same factor.
use mathlib.Core.Path.{◌≡◌, refl, sym, ap, ap₂, ◌∙◌}
use mathlib.Core.Logic.{⊎_elim}
use mathlib.Core.Bool.{Bool, true, false, ◌&&◌, cond}
use mathlib.Core.List.{List, [], ◌∷◌, ◌++◌}
use Prim.Native.Nat.{ℕ, zero, suc, ◌+◌, ◌-◌, ◌*◌, ◌/◌, ◌≤◌, ◌<◌, ◌∣◌}
use native.Mathlib.Nat.{not-suc-le-zero, div-mul_cancel, mul-div_cancel, mul_assoc, mul_comm}
use native.Mathlib.Nat.{lt_of_mul-lt-mul_right, mul-lt-mul_of_pos_right}
use native.Mathlib.Omega.{arith}
use lib.Dec.{ltb, ltb→lt, lt→ltb}
use lib.ListN.{length, length-append, get_or-append}
use lib.Seq.{get_or-append-add}
use Rattle.numbers.specs.Finite.{only, sum, sum_in}
use Rattle.numbers.specs.Lists.{at, each}
use Rattle.numbers.proofs.Truth.{same, le_or_lt}
use Rattle.numbers.proofs.Finite.{sum_split, sum_eq, sum_in_eq, sum_in_scaled, only_and}
use Rattle.numbers.proofs.Lists.{at_append_right, at_map}
use Rattle.numbers.proofs.Divisors.{Positive, lcm_multiple, lcm_divides}
use Rattle.rules.specs.Bus.{Table, Labelled, clockwise, uses}
use Rattle.rules.specs.Loads.{hyperperiod, rate}
use Rattle.table.specs.Sound.{Sound}
use Rattle.lags.proofs.Intervals.{period_positive, period_divides, hyperperiod_positive}
use Rattle.rules.specs.Parties.{Party, owns, rows_of, own, segment_load, is_over_limit}

-- ---- numbers that are picked

abbrev picked : ℕ → (ℕ → Bool) → List ℕ
picked n p = each n (λ i. cond (p i) (i ∷ []) [])

abbrev total : (ℕ → ℕ) → List ℕ → ℕ
total g xs = sum (length xs) (λ k. g (at xs k))

total_append : (g : ℕ → ℕ) (xs ys : List ℕ) → total g (xs ++ ys) ≡ total g xs + total g ys
total_append g xs ys =
    ap (λ (n : ℕ). sum n (λ k. g (at (xs ++ ys) k))) (length-append xs ys)
    ∙ sum_split (length xs) (length ys) (λ k. g (at (xs ++ ys) k))
    ∙ ap₂ ◌+◌
    (sum_eq (length xs) (λ k. g (at (xs ++ ys) k)) (λ k. g (at xs k)) (λ k l. ap g (get_or-append xs ys 0 k l)))
    (sum_eq (length ys) (λ k. g (at (xs ++ ys) (length xs + k))) (λ k. g (at ys k)) (λ k l. ap g (get_or-append-add xs ys k 0)))

total_one : (g : ℕ → ℕ) (b : Bool) (i : ℕ) → total g (cond b (i ∷ []) []) ≡ only b (g i)
unfolding sum only
total_one g true i = omega arith
total_one g false i = refl

picked_sum : (n : ℕ) (p : ℕ → Bool) (g : ℕ → ℕ) → total g (picked n p) ≡ sum_in n p g
unfolding each sum
picked_sum zero p g = refl
picked_sum (suc n) p g =
    total_append g (picked n p) (cond (p n) (n ∷ []) []) ∙ ap₂ ◌+◌ (picked_sum n p g) (total_one g (p n) n)

one_below : (b : Bool) (i k n : ℕ) → i < n → k < length (cond b (i ∷ []) []) → at (cond b (i ∷ []) []) k < n
one_below true i zero n l m = l
one_below true i (suc k) n l m = absurd (omega arith)
one_below false i k n l m = absurd (omega arith)

picked_below : (n : ℕ) (p : ℕ → Bool) (k : ℕ) → k < length (picked n p) → at (picked n p) k < n
unfolding each
picked_below zero p k l = absurd (not-suc-le-zero l)
picked_below (suc n) p k l =
    let xs = picked n p in
    let ys = cond (p n) (n ∷ []) [] in
    ⊎_elim
    (λ (m : length xs ≤ k).
    let q = one_below (p n) n (k - length xs) (suc n) (omega arith) (omega (arith, length-append xs ys)) in
    rw (at_append_right xs ys k m) q)
    (λ (m : k < length xs). rw (get_or-append xs ys 0 k m) (omega (arith, picked_below n p k m)))
    (le_or_lt (length xs) k)

-- ---- the party's rows in its own table and in the table of all rows

module _ (p : Party) (u : Labelled) (S : Sound u.table) (one : u.table.rings ≡ 1) where
  abbrev t : Table
  t = u.table

  abbrev rows : List ℕ
  rows = rows_of p u

  abbrev alone : Table
  alone = own p u

  abbrev owned : ℕ → Bool
  owned i = owns p (u.label i)

  abbrev h : ℕ
  h = hyperperiod t

  abbrev H : ℕ
  H = hyperperiod alone

  row_below : (k : ℕ) → k < length rows → at rows k < t.rows
  unfolding rows_of
  row_below k l = picked_below t.rows owned k l

  alone_rows : alone.rows ≡ length rows
  unfolding own
  alone_rows = refl

  alone_period : (k : ℕ) → k < length rows → alone.period k ≡ t.period (at rows k)
  unfolding own
  alone_period k l = at_map t.period rows k l

  alone_cost : (k : ℕ) → k < length rows → alone.cost k ≡ t.cost (at rows k)
  unfolding own
  alone_cost k l = at_map t.cost rows k l

  alone_uses : (k s : ℕ) → k < length rows → uses alone k s ≡ uses t (at rows k) s
  unfolding own uses
  alone_uses k s l =
      let clock : t.way (at rows k) ≡ clockwise = omega (arith, one, (S.row (at rows k) (row_below k l)).way_known) in
      rw (at_map t.first rows k l, at_map t.second rows k l, clock) refl

  alone_positive : Positive alone.rows alone.period
  alone_positive k l =
      let m : k < length rows = omega (arith, alone_rows, l) in
      rw (alone_period k m) (period_positive S (at rows k) (row_below k m))

  own_divides : (k : ℕ) → k < length rows → t.period (at rows k) ∣ H
  unfolding hyperperiod
  own_divides k l = rw (sym (alone_period k l)) (lcm_multiple alone.rows alone.period alone_positive k (omega (arith, alone_rows, l)))

  grows : H ∣ h
  unfolding hyperperiod
  grows =
      lcm_divides alone.rows alone.period alone_positive h
      (λ k l.
      let m : k < length rows = omega (arith, alone_rows, l) in
      rw (alone_period k m) (period_divides S (at rows k) (row_below k m)))

  -- how many of the party's own hyperperiods make one of all rows
  abbrev times : ℕ
  times = h / H

  times_whole : times * H ≡ h
  times_whole = div-mul_cancel H grows

  times_positive : (n : ℕ) → n * H ≡ h → 0 < n
  times_positive zero e = omega (arith, hyperperiod_positive S, e)
  times_positive (suc n) e = omega arith

  jobs_grow : (k : ℕ) → k < length rows → h / t.period (at rows k) ≡ times * (H / t.period (at rows k))
  jobs_grow k l =
      let q = t.period (at rows k) in
      let each-whole : H / q * q ≡ H = div-mul_cancel q (own_divides k l) in
      let whole : times * (H / q) * q ≡ h = mul_assoc times (H / q) q ∙ ap (λ (x : ℕ). times * x) each-whole ∙ times_whole in
      ap (λ (x : ℕ). x / q) (sym whole) ∙ mul-div_cancel (times * (H / q)) (period_positive S (at rows k) (row_below k l))

  rate_grows : (k : ℕ) → k < length rows → rate t (at rows k) ≡ rate alone k * times
  unfolding rate
  rate_grows k l =
      let q = t.period (at rows k) in
      let c = t.cost (at rows k) in
      let alone-rate : H / alone.period k * alone.cost k ≡ H / q * c =
      ap₂ (λ (x y : ℕ). H / x * y) (alone_period k l) (alone_cost k l) in
      ap (λ (x : ℕ). x * c) (jobs_grow k l) ∙ mul_assoc times (H / q) c ∙ mul_comm times (H / q * c)
      ∙ ap (λ (x : ℕ). x * times) (sym alone-rate)

  -- what the party's rows weigh on a segment, over the h of all rows
  abbrev among : ℕ → ℕ
  among s = sum_in t.rows (λ i. owned i && uses t i s) (rate t)

  pub load_grows : (s : ℕ) → among s ≡ segment_load alone s * times
  unfolding rows_of
  load_grows s =
      sum_eq t.rows (λ i. only (owned i && uses t i s) (rate t i)) (λ i. only (owned i) (only (uses t i s) (rate t i)))
      (λ i l. only_and (owned i) (uses t i s) (rate t i))
      ∙ sym (picked_sum t.rows owned (λ i. only (uses t i s) (rate t i)))
      ∙ sum_in_eq (length rows) (λ k. uses t (at rows k) s) (λ k. uses alone k s) (λ k. rate t (at rows k)) (λ k. rate alone k * times)
      (λ k l. sym (alone_uses k s l)) (λ k l u. rate_grows k l)
      ∙ sum_in_scaled (length rows) (λ k. uses alone k s) (rate alone) times
      ∙ ap (λ (n : ℕ). sum_in n (λ k. uses alone k s) (rate alone) * times) (sym alone_rows)

  pub over_among : (limit s : ℕ) → is_over_limit alone limit s ≡ ltb (limit * h) (1000 * among s)
  unfolding is_over_limit
  over_among limit s =
      let left : limit * H * times ≡ limit * h = mul_assoc limit H times ∙ ap (λ (x : ℕ). limit * x) (mul_comm H times ∙ times_whole) in
      let right : 1000 * segment_load alone s * times ≡ 1000 * among s =
      mul_assoc 1000 (segment_load alone s) times ∙ ap (λ (x : ℕ). 1000 * x) (sym (load_grows s)) in
      same (ltb (limit * H) (1000 * segment_load alone s)) (ltb (limit * h) (1000 * among s))
      (λ u. lt→ltb (limit * h) (1000 * among s)
      (rw (sym left, sym right)
      (mul-lt-mul_of_pos_right (ltb→lt (limit * H) (1000 * segment_load alone s) u) (times_positive times times_whole))))
      (λ u. lt→ltb (limit * H) (1000 * segment_load alone s)
      (lt_of_mul-lt-mul_right times (rw (left, right) (ltb→lt (limit * h) (1000 * among s) u))))
