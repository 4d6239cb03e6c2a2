-- A relay that no row goes through splits nothing, and every answer is as without it.
use mathlib.Core.Path.{◌≡◌, refl, sym, ap, subst}
use mathlib.Core.Logic.{⊎_elim}
use mathlib.Core.List.{List, ◌++◌, append_assoc}
use Prim.Native.Nat.{ℕ, ◌≤◌}
use native.Mathlib.Decide.{ℕ_discrete}
use native.Mathlib.Omega.{arith}
use Rattle.numbers.proofs.Truth.{is_false}
use Rattle.rules.specs.Bounds.{max_rows}
use Rattle.rules.specs.Bus.{Table, through}
use Rattle.rules.specs.TableFile.{file_table}
use Rattle.rules.specs.Refusals.{Check, Answers, cut_checks, one_ring_checks, given_checks}
use Rattle.rules.specs.Refusals.{relay_checks, split_checks, relayed_checks}
use Rattle.rules.proofs.Answers.{None, stopped, joined, unjoined, none_of, none_left, answers_split}
use Rattle.table.specs.Sound.{Passed}
use Rattle.table.specs.Columns.{Whole}
use Rattle.decoding.proofs.Decoding.{Blank, blank_past}
use Rattle.pasted.proofs.AsGiven.{given_passed}
use Rattle.ring.specs.Route.{Element}
use Rattle.rules.specs.Relay.{row_of, no_row, split}
use Rattle.relay.proofs.Rows.{split_none}
use Rattle.relay.proofs.Clear.{no_uncut}
use Rattle.relay.proofs.Given.{right_relay, relay_zero}
use Rattle.verdict.specs.Analysed.{table_checks}
use Rattle.verdict.proofs.Bound.{verdict_split}
use Rattle.relayed.specs.Without.{Unused, AsWithout, SameTable}
use Rattle.relayed.proofs.Checked.{past, past_cut, relayed_whole, relayed_numbered}

blank_row : (t : Table) (k : ℕ) → Blank t k → row_of t k ≡ no_row
blank_row t k B = λ j. record { cost = B.cost j; period = B.period j; first = B.first j; second = B.second j; way = B.way j }

-- a file has nothing past its last row
pub same_table : SameTable
same_table f r U n =
    let P : Passed f = given_passed f n in
    let w : Whole f = record { size = P.size; few = P.sound.rows_high } in
    split_none (file_table f) r (λ i l. is_false (through (file_table f) i r) (U.clear i l))
    (λ k l. blank_row (file_table f) k (blank_past w l))

module _ (f : List ℕ) (r : ℕ) (U : Unused f r) where
  abbrev t : Table
  t = file_table f

  abbrev given : List Check
  given = one_ring_checks f (given_checks f)

  -- past the checks of a table as it is given
  module _ (n : None given) where
    same : split t r ≡ t
    unfolding None
    same = same_table f r U n.1.1

    few : (split t r).rows ≤ max_rows
    unfolding None
    few = omega (arith, ap (λ (u : Table). u.rows) same, (given_passed f n.1.1).sound.rows_high)

    none_relay : None (relay_checks t r)
    none_relay = relay_zero t r 0 refl (right_relay t r (U.low, U.high) few)

    after : (k p : ℕ) → Answers (relay_checks t r ++ past f r) k p → Answers (given ++ table_checks t) k p
    after k p A =
        let x : Element t.elements r = record { low = U.low; high = U.high } in
        let B = joined (cut_checks (split t r)) (past f r) k p (no_uncut t x) (unjoined (relay_checks t r) (past f r) k p none_relay A) in
        joined given (table_checks t) k p n
        (subst (λ (u : Table). Answers (table_checks u) k p) same (subst (λ (cs : List Check). Answers cs k p) (sym (past_cut f r)) B))

  without : (k p : ℕ) → Answers (relayed_checks f r) k p → Answers (given ++ table_checks t) k p
  unfolding split_checks
  without k p R = go (ℕ_discrete k 0)
    where
      rest : List Check
      rest = relay_checks t r ++ past f r

      whole : Answers (given ++ rest) k p
      whole = rw (relayed_whole f r, append_assoc) at R

      go : Dec (k ≡ 0) → Answers (given ++ table_checks t) k p
      go (no h) = ⊎_elim (λ a. stopped given (table_checks t) k p h a) (λ w. after w.0 k p w.1) (answers_split given rest k p whole)
      go (yes z) =
          let n =
          none_left given rest
          (rw (relayed_whole f r, append_assoc) at (none_of (relayed_checks f r) p (relayed_numbered f r) (rw z at R))) in
          after n k p (unjoined given rest k p n whole)

pub as_without : AsWithout
as_without f r U n p R = rw (verdict_split f) (without f r U n p R)
