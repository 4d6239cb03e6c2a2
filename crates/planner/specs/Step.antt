-- Totals beside shares, on plain numbers: n rows, hyperperiod h, slot s, the rows' rates, m sets' words and the rows' totals.
--
--   Bounded n h s rate                          the numbers are within the bounds of an admitted table
--   RowsKeep n h s rate totals                  each row's total is its share rate × s / h, rounded down or up
--   SetsKeep n h s rate m words totals          each listed set's summed total is its summed share, rounded down or up
--   KeepsStep n h s rate m words totals         both: the totals keep step with the shares
--   SpareClear n totals                         no total past the last row is above 0
--   Stands n h s rate totals xs                 xs are the rows' standings, and 0 past the last row
--
-- In units of 1 / h a share is rate × s (document 01, "Loads and bound").
use Rattle.std.specs.Prelude.{◌≡◌, List, ℕ, ◌*◌, ◌≤◌, ◌<◌, ℤ, pos, ◌-ℤ◌, length, get_or}
use Rattle.numbers.specs.Finite.{sum_in}
use Rattle.numbers.specs.Word.{bit}
use Rattle.numbers.specs.Rounding.{Rounded}
use Rattle.rules.specs.Bounds.{max_rows, max_slots}

pub record Bounded (n h s : ℕ) (rate : ℕ → ℕ) : Type 0 where
  pub few : n ≤ max_rows
  pub some : 0 < h
  pub short : h ≤ max_slots
  pub inside : s ≤ h
  pub light : (i : ℕ) → i < n → rate i ≤ h

abbrev pub RowsKeep : (n h s : ℕ) (rate totals : ℕ → ℕ) → Type 0
RowsKeep n h s rate totals = (i : ℕ) → i < n → Rounded (totals i) (rate i * s) h

abbrev pub SetsKeep : (n h s : ℕ) (rate : ℕ → ℕ) (m : ℕ) (words totals : ℕ → ℕ) → Type 0
SetsKeep n h s rate m words totals =
    (k : ℕ) → k < m → Rounded (sum_in n (bit (words k)) totals) (sum_in n (bit (words k)) (λ i. rate i * s)) h

pub record KeepsStep (n h s : ℕ) (rate : ℕ → ℕ) (m : ℕ) (words totals : ℕ → ℕ) : Type 0 where
  pub rows : RowsKeep n h s rate totals
  pub sets : SetsKeep n h s rate m words totals

abbrev pub SpareClear : ℕ → (ℕ → ℕ) → Type 0
SpareClear n totals = (i : ℕ) → n ≤ i → i < max_rows → totals i ≡ 0

pub record Stands (n h s : ℕ) (rate totals : ℕ → ℕ) (xs : List ℤ) : Type 0 where
  pub size : length xs ≡ max_rows
  pub row : (i : ℕ) → i < n → get_or xs i (pos 0) ≡ pos (totals i * h) -ℤ pos (rate i * s)
  pub rest : (i : ℕ) → n ≤ i → i < max_rows → get_or xs i (pos 0) ≡ pos 0
