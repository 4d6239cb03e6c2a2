-- What a plan of the split table does for the rows as they were given, proved from demand 3 for the split rows.
use mathlib.Core.Path.{◌≡◌, refl, sym, ap, subst, ◌∙◌}
use mathlib.Core.Logic.{⊎_elim}
use mathlib.Core.Bool.{Bool, true, false, ◌&&◌, ◌||◌}
use mathlib.Core.List.{List}
use Prim.Native.Nat.{ℕ, zero, suc, ◌+◌, ◌-◌, ◌*◌, ◌/◌, ◌≤◌, ◌<◌}
use native.Mathlib.Nat.{zero-mul, lt_of_mul-lt-mul_right, mod-add-div', mod-lt}
use native.Mathlib.Omega.{arith}
use lib.Dec.{T, leb, ltb, eqb, leb→le, le→leb, ltb→lt}
use lib.ListN.{length}
use Rattle.numbers.specs.Finite.{only, sum, count}
use Rattle.numbers.specs.Lists.{each}
use Rattle.numbers.specs.Word.{bit}
use Rattle.numbers.proofs.Truth.{fst, snd, orl, orr, is_true, is_false, eqb_of, le_or_lt}
use Rattle.numbers.proofs.Finite.{count_eq, count_mono, count_none, count_split, count_eqb, only_le, only_or, sum_le, sum_add}
use Rattle.rules.specs.Bus.{Table, mirror, steps, through}
use Rattle.rules.specs.TableFile.{way_in}
use Rattle.rules.specs.Relay.{Row, row_of, split_row, split_rows, split, stands_at}
use Rattle.rules.proofs.Cases.{cases}
use Rattle.table.specs.Sound.{Sound}
use Rattle.promises.specs.Demands.{endless, moved, Carries}
use Rattle.relay.proofs.Rows.{row_kept, row_split, kept_stands, first_stands, second_stands, stands_next, stands_most}
use Rattle.relay_jobs.specs.Jobs.{come, gone, holds, SplitRelays, TwoHeld}

-- ---- counting by periods

-- c of each period's p slots
module _ (p c : ℕ) (e : ℕ → Bool) (each : (j : ℕ) → count p (λ s. e (j * p + s)) ≡ c) where
  pub whole : (j : ℕ) → count (j * p) e ≡ j * c
  unfolding sum
  whole zero = rw (zero-mul p, zero-mul c)
  whole (suc j) =
      let next : suc j * p ≡ j * p + p = omega arith in
      ap (λ (m : ℕ). count m e) next ∙ omega (arith, count_split (j * p) p e, whole j, each j)

  pub within : (j s : ℕ) → j * p ≤ s → s ≤ (j + 1) * p → (j * c ≤ count s e) × (count s e ≤ (j + 1) * c)
  within j s l m = (
    omega (arith, count_mono (j * p) s e l, whole j),
    omega (arith, count_mono s ((j + 1) * p) e m, whole (j + 1)),
  )

-- x is the period of slot s
period_of : (p s : ℕ) → 0 < p → (s / p * p ≤ s) × (s < (s / p + 1) * p)
period_of p s some = (omega (arith, mod-add-div' s p), omega (arith, mod-add-div' s p, mod-lt s some))

-- ---- a test that holds of two numbers at most

two_most : (n j : ℕ) (h : ℕ → Bool) → ((k : ℕ) → T (h k) → (k ≤ j) × (j ≤ k + 1)) → count n h ≤ 2
two_most n j h near =
    let a : ℕ → ℕ = λ k. only (eqb j k) 1 in
    let b : ℕ → ℕ = λ k. only (eqb (j - 1) k) 1 in
    let one : (k : ℕ) → T (h k) → T (eqb j k || eqb (j - 1) k) =
    λ k t.
    let w = near k t in
    ⊎_elim (λ (l : j ≤ k). orl (eqb j k) (eqb (j - 1) k) (eqb_of j k (omega (arith, w.0, l))))
    (λ (l : k < j). orr (eqb j k) (eqb (j - 1) k) (eqb_of (j - 1) k (omega (arith, w.1, l)))) (le_or_lt j k) in
    let each : (k : ℕ) → k < n → only (h k) 1 ≤ a k + b k =
    λ k l. omega (arith, only_le (h k) (eqb j k || eqb (j - 1) k) 1 1 (one k) (λ t. omega arith), only_or (eqb j k) (eqb (j - 1) k) 1) in
    omega (arith, sum_le n (λ k. only (h k) 1) (λ k. a k + b k) each, sum_add n a b, count_eqb n j, count_eqb n (j - 1))

-- ---- one row

module _ (t : Table) (r : ℕ) {ws : List ℕ} (S : Sound t) (C : Carries (split t r) ws) {i : ℕ} (l : i < t.rows) where
  abbrev p : ℕ
  p = t.period i

  abbrev c : ℕ
  c = t.cost i

  -- a split row with the cost and the period of row i moves in cost slots of each period
  jobs : (k : ℕ) (y : Row) → k < (split t r).rows → row_of (split t r) k ≡ y → (j : ℕ)
      → moved ws k (j * y.period) ((j + 1) * y.period) ≡ y.cost
  jobs k y m e j = subst (λ (x : Row). moved ws k (j * x.period) ((j + 1) * x.period) ≡ x.cost) e (C.jobs k j m)

  room : (n : ℕ) → length (split_row t r i) ≡ n → stands_at t r i + n ≤ (split t r).rows
  room n e = omega (arith, e, stands_next t r i, stands_most t r (i + 1) t.rows (omega arith))

  pub one_period : through t i r ≡ false → (j : ℕ) → moved ws (stands_at t r i) (j * p) ((j + 1) * p) ≡ c
  one_period e = jobs (stands_at t r i) (row_of t i) (omega (arith, room 1 (ap length (row_kept t r i e)))) (kept_stands t r l e)

  module _ (e : through t i r ≡ true) where
    two : stands_at t r i + 2 ≤ (split t r).rows
    two = room 2 (ap length (row_split t r i e))

    pub first_jobs : (j : ℕ) → moved ws (stands_at t r i) (j * p) ((j + 1) * p) ≡ c
    first_jobs = jobs (stands_at t r i) _ (omega (arith, two)) (first_stands t r l e)

    pub second_jobs : (j : ℕ) → moved ws (stands_at t r i + 1) (j * p) ((j + 1) * p) ≡ c
    second_jobs = jobs (stands_at t r i + 1) _ (omega (arith, two)) (second_stands t r l e)

    -- ---- what has come, and what has left

    abbrev first : ℕ → Bool
    first = endless ws (stands_at t r i)

    abbrev second : ℕ → Bool
    second = endless ws (stands_at t r i + 1)

    -- the second half's slots from the second period on
    abbrev later : ℕ → Bool
    later u = second (p + u)

    in_first : (j : ℕ) → count p (λ s. first (j * p + s)) ≡ c
    in_first j =
        ap (λ (n : ℕ). count n (λ s. first (j * p + s))) (let z : p ≡ (j + 1) * p - j * p = omega arith in z) ∙ first_jobs j

    in_later : (j : ℕ) → count p (λ s. later (j * p + s)) ≡ c
    in_later j =
        count_eq p (λ s. later (j * p + s)) (λ s. second ((j + 1) * p + s))
        (λ s m. ap second (let z : p + (j * p + s) ≡ (j + 1) * p + s = omega arith in z))
        ∙ ap (λ (n : ℕ). count n (λ s. second ((j + 1) * p + s))) (let z : p ≡ (j + 1 + 1) * p - (j + 1) * p = omega arith in z)
        ∙ second_jobs (j + 1)

    carries : ℕ → Bool
    carries u = leb p u && second u

    -- in the first period nothing leaves
    first_period : (s : ℕ) → s ≤ p → gone t r ws i s ≡ 0
    first_period s m =
        count_none s (λ u. leb p u && second u)
        (λ u n h. let z : p ≤ u = leb→le p u (fst (leb p u) (second u) h) in let q : ⊥ = omega (arith, z, n, m) in q)

    gone_later : (s : ℕ) → gone t r ws i (p + s) ≡ count s later
    gone_later s =
        omega (
          arith,
          count_split p s (λ u. leb p u && second u),
          first_period p (omega arith),
          count_eq s (λ u. leb p (p + u) && second (p + u)) later
              (λ u m. ap (λ (b : Bool). b && second (p + u)) (is_true (leb p (p + u)) (le→leb p (p + u) (omega arith)))),
        )

    pub left : (j : ℕ) → gone t r ws i ((j + 1) * p) ≡ j * c
    left j =
        ap (gone t r ws i) (let z : (j + 1) * p ≡ p + j * p = omega arith in z) ∙ gone_later (j * p) ∙ whole p c later in_later j

    -- in period j the data of job j comes, and that of the one before leaves
    pub comes : (j s : ℕ) → j * p ≤ s → s ≤ (j + 1) * p → (j * c ≤ come t r ws i s) × (come t r ws i s ≤ (j + 1) * c)
    comes = within p c first in_first

    pub leaves : (j s : ℕ) → (j + 1) * p ≤ s → s ≤ (j + 2) * p → (j * c ≤ gone t r ws i s) × (gone t r ws i s ≤ (j + 1) * c)
    leaves j s a b =
        let z : p + (s - p) ≡ s = omega arith in
        let e : gone t r ws i s ≡ count (s - p) later = ap (gone t r ws i) (sym z) ∙ gone_later (s - p) in
        let w = within p c later in_later j (s - p) (omega arith) (omega arith) in
        (omega (arith, e, w.0), omega (arith, e, w.1))

    -- all but one job's data has left that came before this period
    behind : (j s : ℕ) → j * p ≤ s → s ≤ (j + 1) * p → j * c ≤ gone t r ws i s + c
    behind zero s a b = omega arith
    behind (suc j) s a b = omega (arith, (leaves j s (omega arith) (omega arith)).0)

    pub two_jobs : (s n : ℕ) → count n (holds t r ws i s) ≤ 2
    two_jobs s n =
        let q = period_of p s (S.row i l).period_low in
        let j = s / p in
        let in-time = (comes j (s + 1) (omega (arith, q.0)) (omega (arith, q.1))).1 in
        let out-time = behind j s q.0 (omega (arith, q.1)) in
        two_most n j (holds t r ws i s)
        (λ k h.
        let a : k * c < come t r ws i (s + 1) = ltb→lt _ _ (fst (ltb (k * c) (come t r ws i (s + 1))) _ h) in
        let b : gone t r ws i s < (k + 1) * c =
        ltb→lt _ _ (snd (ltb (k * c) (come t r ws i (s + 1))) (ltb (gone t r ws i s) ((k + 1) * c)) h) in
        let low : k < j + 1 = lt_of_mul-lt-mul_right c (let z : k * c < (j + 1) * c = omega (arith, a, in-time) in z) in
        let high : j < k + 2 = lt_of_mul-lt-mul_right c (let z : j * c < (k + 2) * c = omega (arith, b, out-time) in z) in
        (omega (arith, low), omega (arith, high)))

pub split_relays : SplitRelays
split_relays t r ws S C = record {
  carries = C;
  kept = λ i j l h. one_period t r S C l (is_false (through t i r) h) j;
  to_relay_jobs = λ i j l h. first_jobs t r S C l (is_true (through t i r) h) j;
  from_relay_jobs = λ i j l h.
      ap (λ (n : ℕ). moved ws (stands_at t r i + 1) ((j + 1) * t.period i) (n * t.period i)) (let z : j + 2 ≡ j + 1 + 1 = omega arith in z)
      ∙ second_jobs t r S C l (is_true (through t i r) h) (j + 1);
  before = λ i j s l h a b.
      let e = is_true (through t i r) h in
      let q = leaves t r S C l e j in (
        (q s a (omega arith)).0,
        (q (s + 1) (omega arith) (omega arith)).1,
        omega (arith, (comes t r S C l e (j + 1) s a (omega arith)).0),
      );
  arrives = λ i j l h.
      ap (λ (n : ℕ). gone t r ws i (n * t.period i)) (let z : j + 2 ≡ j + 1 + 1 = omega arith in z)
      ∙ left t r S C l (is_true (through t i r) h) (j + 1);
  held = λ i s n l h. two_jobs t r S C l (is_true (through t i r) h) s n;
}

-- the plan's words are 3 and 4: the first half moves in the first slot of each period, the second half in the second
pub two_held : TwoHeld
unfolding each bit sum only mirror steps through way_in split_row split_rows
two_held ws W = rw ((cases.through_1_words ws).0 W) refl
