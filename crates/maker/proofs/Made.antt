-- The moves of an element as the list of them: the code's words give exactly the definition's moves, and these stand in order.
--
--   Between a b xs     the entries xs have ascending ranks from a on, all below b
use mathlib.Core.Path.{◌≡◌, sym, ap₂, ◌∙◌}
use mathlib.Core.Logic.{⊎_elim, inr}
use mathlib.Core.Bool.{◌&&◌}
use mathlib.Core.List.{List, ◌++◌}
use Prim.Native.Nat.{ℕ, ◌≤◌, ◌<◌}
use native.Mathlib.Omega.{arith}
use lib.Bits.{bit_and}
use lib.Dec.{T, eqb, eqb→eq, ltb, ltb→lt}
use Rattle.numbers.specs.Word.{bit}
use Rattle.numbers.specs.Lists.{at, each}
use Rattle.numbers.proofs.Truth.{fst, snd, along, le_or_lt}
use Rattle.numbers.proofs.Lists.{each_eq}
use Rattle.rules.specs.Bus.{Table, overlap}
use Rattle.rules.specs.ElementList.{Entry, slot_moves, BadWord}
use Rattle.table.specs.Sound.{Sound}
use Rattle.maker.specs.Words.{ending_at, word_moves, plan_moves, AtMostOne, OneEach}
use Rattle.maker.proofs.Words.{bit_ending, picked_ending}
use Rattle.maker.proofs.Bad.{first_overlap, second_overlap}

module _ {t : Table} (S : Sound t) (e : ℕ) where
  abbrev into : ℕ
  into = ending_at t.rows t.second e

  abbrev from : ℕ
  from = ending_at t.rows t.first e

  -- the code's moves are the definition's
  pub word_slot : (s w : ℕ) → word_moves into from s w ≡ slot_moves t e s w
  unfolding slot_moves
  word_slot s w =
      ap₂ (λ (x y : List Entry). x ++ y) (picked_ending t.rows t.second e s w 0 S.rows_high)
      (picked_ending t.rows t.first e s w 1 S.rows_high)

  pub plan_moves_lem : (n : ℕ) (ws : List ℕ) → plan_moves into from n ws ≡ each n (λ s. slot_moves t e s (at ws s))
  plan_moves_lem n ws = each_eq n (λ s. word_moves into from s (at ws s)) (λ s. slot_moves t e s (at ws s)) (λ s l. word_slot s (at ws s))

  -- a word that isn't bad has at most one row that ends at the element
  module _ (ends : ℕ → ℕ) (meet : (i j : ℕ) → i < t.rows → j < t.rows → ends i ≡ ends j → T (overlap t i j))
      (w : ℕ) (b : BadWord t w → ⊥) where
    ending : (i : ℕ) → T (bit (bit_and w (ending_at t.rows ends e)) i) → T (bit w i) × (i < t.rows) × (ends i ≡ e)
    ending i h =
        let v = along (bit_ending t.rows ends e w i) h in
        let q = snd (bit w i) (ltb i t.rows && eqb (ends i) e) v in (
          fst (bit w i) (ltb i t.rows && eqb (ends i) e) v,
          ltb→lt i t.rows (fst (ltb i t.rows) (eqb (ends i) e) q),
          eqb→eq (ends i) e (snd (ltb i t.rows) (eqb (ends i) e) q),
        )

    apart : (i j : ℕ) → i < j → T (bit (bit_and w (ending_at t.rows ends e)) i) → T (bit (bit_and w (ending_at t.rows ends e)) j) → ⊥
    apart i j l x y =
        let p = ending i x in
        let q = ending j y in
        b (inr (i, j, l, q.1, p.0, q.0, meet i j p.1 q.1 (p.2 ∙ sym q.2)))

    pub at_most_one : AtMostOne (bit_and w (ending_at t.rows ends e))
    at_most_one i j x y =
        ⊎_elim (λ (l : i ≤ j). ⊎_elim (λ (m : j ≤ i). omega arith) (λ m. absurd (apart i j m x y)) (le_or_lt j i))
        (λ l. absurd (apart j i l y x)) (le_or_lt i j)

  pub clean_clear : t.rings ≡ 1 → (n : ℕ) (ws : List ℕ) → ((s : ℕ) → s < n → BadWord t (at ws s) → ⊥) → OneEach into from n ws
  clean_clear one n ws h = record {
    into = λ s l. at_most_one t.second (second_overlap S one) (at ws s) (h s l);
    from = λ s l. at_most_one t.first (first_overlap S one) (at ws s) (h s l);
  }
