-- The words of one interval, on the ring: what the slots promise on the line holds of the rows' routes.
use mathlib.Core.Path.{◌≡◌, refl}
use mathlib.Core.List.{List}
use Prim.Native.Nat.{ℕ, ◌-◌, ◌<◌}
use lib.Dec.{T}
use Rattle.numbers.specs.Finite.{count}
use Rattle.numbers.proofs.Truth.{along}
use Rattle.rules.specs.Bus.{Table, overlap}
use Rattle.rules.specs.Line.{line_first, line_second, meet}
use Rattle.rules.specs.Loads.{start, end}
use Rattle.rules.specs.Interval.{Qualify, moves, SlotWords}
use Rattle.rules.proofs.Interval.{words_as}
use Rattle.ring.proofs.OnLine.{line_ordered, overlap_meet}
use Rattle.sets.proofs.Transfer.{Agree, agree_sym, set_agree}
use Rattle.placing.proofs.Placed.{placed, never_together}
use Rattle.lags.specs.Lags.{Admissible}

module _ {t : Table} (A : Admissible t) where
  pub overlap_agrees : Agree t.rows (overlap t) (meet (line_first t) (line_second t))
  overlap_agrees = overlap_meet t A.sound A.clear

  module _ {x : ℕ → ℕ} {l : ℕ} {ws : List ℕ} (W : SlotWords t.rows (overlap t) (line_first t) x l ws) where
    on_line : SlotWords t.rows (meet (line_first t) (line_second t)) (line_first t) x l ws
    on_line =
        words_as t.rows (overlap t) (meet (line_first t) (line_second t)) (line_first t) (line_first t) x x overlap_agrees
        (λ i h. refl) (λ i h. refl) l ws W

    pub words_apart : (i j s : ℕ) → T (overlap t i j) → T (moves ws i s) → T (moves ws j s) → i ≡ j
    words_apart i j s o a b =
        never_together t.rows (line_first t) (line_second t) x l ws on_line i j s a b
        (along (overlap_agrees i j (W.rows i s a) (W.rows j s b)) o)

  -- each row moves in as many of the interval's slots as its load
  pub words_placed : {k : ℕ} {had x : ℕ → ℕ} {ws : List ℕ} → Qualify t k had x
      → SlotWords t.rows (overlap t) (line_first t) x (end t k - start t k) ws
      → (i : ℕ) → i < t.rows → count (end t k - start t k) (moves ws i) ≡ x i
  words_placed {k} {had} {x} {ws} Q W =
      placed t.rows (line_first t) (line_second t) x (end t k - start t k) ws (on_line W) (line_ordered t A.sound A.clear)
      (λ D o. Q.fits D (set_agree (agree_sym overlap_agrees) o))
