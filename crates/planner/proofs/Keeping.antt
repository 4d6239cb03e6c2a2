-- How far totals and shares can go, and what one turn of each loop does.
--
--   Standing n h s r t xs i     xs has the standings of the first i rows, and 0 from there on
use mathlib.Core.Path.{◌≡◌, refl, ◌∙◌}
use mathlib.Core.Logic.{◌↔◌}
use mathlib.Core.List.{List}
use Prim.Native.Nat.{ℕ, zero, suc, ◌+◌, ◌*◌, ◌≤◌, ◌<◌}
use native.Mathlib.Decide.{ℕ_discrete}
use native.Mathlib.Nat.{mul-le-mul, mul-le-mul_right, lt_of_mul-lt-mul_right}
use native.Mathlib.Omega.{arith}
use lib.IntN.{ℤ, pos, ◌-ℤ◌}
use lib.ListN.{length, get_or, set, replicate, length-set, length-replicate}
use lib.Seq.{get_or-set_same, get_or-set_other}
use Rattle.numbers.specs.Finite.{sum_in}
use Rattle.numbers.specs.Word.{bit}
use Rattle.numbers.specs.Rounding.{Rounded}
use Rattle.numbers.proofs.Finite.{sum_in_scaled}
use Rattle.numbers.proofs.Rounding.{rounded_is}
use Rattle.rules.specs.Bounds.{max_rows, max_slots}
use Rattle.planner.specs.Step.{Bounded, RowsKeep}

-- ---- a row

-- no row has had more slots than have passed
pub rounded_le : {n r s h : ℕ} → 0 < h → r ≤ h → Rounded n (r * s) h → n ≤ s
rounded_le {n} {r} {s} {h} some le k =
    let l : n < s + 1 = lt_of_mul-lt-mul_right h (omega (arith, (rounded_is (r * s) h some n k).1, mul-le-mul_right s le)) in
    omega arith

module _ {n h s : ℕ} {rate : ℕ → ℕ} (b : Bounded n h s rate) where
  pub rate_le : (i : ℕ) → i < n → rate i ≤ max_slots
  rate_le i l = omega (arith, b.light i l, b.short)

  pub slot_le : s ≤ max_slots
  slot_le = omega (arith, b.inside, b.short)

  pub total_le : (totals : ℕ → ℕ) → RowsKeep n h s rate totals → (i : ℕ) → i < n → totals i ≤ max_slots
  total_le totals k i l = omega (arith, rounded_le b.some (b.light i l) (k i l), b.inside, b.short)

  -- the products of a standing
  pub products_le : (totals : ℕ → ℕ) → RowsKeep n h s rate totals → (i : ℕ) → i < n
      → (totals i * h ≤ max_slots * max_slots) × (rate i * s ≤ max_slots * max_slots)
  products_le totals k i l = (mul-le-mul (total_le totals k i l) b.short, mul-le-mul (rate_le i l) slot_le)

-- ---- a set

-- a set's summed total beside its summed rate times the slot
pub set_rounded : (n h s w : ℕ) (rate totals : ℕ → ℕ) {x y : ℕ} → x ≡ sum_in n (bit w) rate → y ≡ sum_in n (bit w) totals
    → Rounded y (x * s) h ↔ Rounded (sum_in n (bit w) totals) (sum_in n (bit w) (λ i. rate i * s)) h
set_rounded n h s w rate totals p q = rw (p, q, sum_in_scaled n (bit w) rate s) (λ r. r, λ r. r)

-- ---- standings

module _ (n h s : ℕ) (rate totals : ℕ → ℕ) where
  pub record Standing (xs : List ℤ) (i : ℕ) : Type 0 where
    pub size : length xs ≡ max_rows
    pub inside : i ≤ n
    pub row : (k : ℕ) → k < i → get_or xs k (pos 0) ≡ pos (totals k * h) -ℤ pos (rate k * s)
    pub rest : (k : ℕ) → i ≤ k → get_or xs k (pos 0) ≡ pos 0

  pub standing_start : Standing (replicate max_rows (pos 0)) 0
  standing_start = record {
    size = length-replicate max_rows (pos 0);
    inside = omega arith;
    row = λ k l. absurd (omega arith);
    rest = λ k l. zeros max_rows k;
  }
    where
      zeros : (m k : ℕ) → get_or (replicate m (pos 0)) k (pos 0) ≡ pos 0
      zeros zero k = refl
      zeros (suc m) zero = refl
      zeros (suc m) (suc k) = zeros m k

  pub standing_next : {xs : List ℤ} {i : ℕ} (v : ℤ) → Standing xs i → i < n → n ≤ max_rows → v ≡ pos (totals i * h) -ℤ pos (rate i * s)
      → Standing (set xs i v) (i + 1)
  standing_next {xs} {i} v S l f e = record {
    size = length-set xs i v ∙ S.size;
    inside = omega arith;
    row = λ k m. go k m (ℕ_discrete k i);
    rest = λ k m. get_or-set_other xs i k v (pos 0) (λ q. omega arith) ∙ S.rest k (omega arith);
  }
    where
      go : (k : ℕ) → k < i + 1 → Dec (k ≡ i) → get_or (set xs i v) k (pos 0) ≡ pos (totals k * h) -ℤ pos (rate k * s)
      go k m (yes p) = rw p (get_or-set_same xs i v (pos 0) (omega (arith, S.size)) ∙ e)
      go k m (no p) = get_or-set_other xs i k v (pos 0) p ∙ S.row k (omega arith)
