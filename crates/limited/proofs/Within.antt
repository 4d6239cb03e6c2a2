-- 21 and 22 of a table whose h and rates are found: what is answered of a party, from the lowest segment that the code finds.
use mathlib.Core.Path.{◌≡◌, refl, sym, ap, ap₂, ◌∙◌}
use mathlib.Core.Logic.{◌≢◌, ⊎_elim}
use mathlib.Core.Bool.{Bool, ◌&&◌}
use mathlib.Core.List.{List, ◌++◌}
use Prim.Native.Nat.{ℕ, suc, ◌+◌, ◌*◌, ◌≤◌, ◌<◌}
use native.Mathlib.Numerals.{add-one}
use native.Mathlib.Omega.{arith}
use lib.Dec.{ltb, lt→ltb}
use Rattle.numbers.specs.Finite.{lowest, sum_in}
use Rattle.numbers.specs.Lists.{at}
use Rattle.numbers.specs.Word.{bit}
use Rattle.numbers.proofs.Truth.{along, is_true, le_or_lt}
use Rattle.numbers.proofs.Finite.{sum_in_eq, lowest_has, lowest_below}
use Rattle.numbers.proofs.Word.{bit_word}
use Rattle.rules.specs.Bus.{Table, Labelled, uses}
use Rattle.rules.specs.Loads as loads
use Rattle.rules.specs.Parties.{ours, theirs, owns, own, is_over_limit}
use Rattle.rules.specs.Refusals.{Check, Answers, over_limit, segment_checks, limit_checks}
use Rattle.rules.proofs.Answers.{None, Numbered, stopped, joined, answered, none_of, numbered_join}
use Rattle.rules.proofs.Answers.{single_none, single_numbered, single_stopped}
use Rattle.std.specs.Prelude.{Result}
use Rattle.table.specs.Refusal as told
use Rattle.table.specs.Refusal.{number_of}
use Rattle.table.specs.declared.refusals.Reason.{Reason}
use Rattle.table.specs.declared.refusals.Refusal.{Refusal}
use Rattle.table.proofs.Reasons.{not_done}
use Rattle.ring.specs.Route.{row_segments}
use Rattle.lags.proofs.Intervals.{rate_le}
use Rattle.limited.specs.Limits.{party, RatesFit, weight_on, Limited, OverAt}
use Rattle.limited.proofs.Own.{over_among}

module _ {t : Table} {M n h : ℕ} {rate words : List ℕ} (L : Limited t M n h rate words) where
  pub limited_small : RatesFit n rate
  limited_small = record {
    few = omega (arith, L.rows_is, L.sound.rows_high);
    small = λ i l.
        let m : i < t.rows = omega (arith, L.rows_is) in
        omega (arith, L.rate_is.row i m, rate_le L.sound i m, L.short);
  }

  uses_is : (i s : ℕ) → i < t.rows → s < t.elements → bit (at words i) s ≡ uses t i (suc s)
  unfolding row_segments uses
  uses_is i s l k =
      ap (λ (w : ℕ). bit w s) (L.segments_is.row i l) ∙ bit_word t.elements _ s
      ∙ ap (λ (c : Bool). c && uses t i (suc s)) (is_true (ltb s t.elements) (lt→ltb s t.elements k))

  module _ (label : List ℕ) (b : Bool) (limit : ℕ) where
    abbrev alone : Table
    alone = own (party b) (record { table = t; label = at label })

    abbrev test : ℕ → Bool
    test s = ltb (limit * h) (1000 * weight_on n rate words label b s)

    weight_is : (s : ℕ) → s < t.elements
        → weight_on n rate words label b s ≡ sum_in t.rows (λ i. owns (party b) (at label i) && uses t i (suc s)) (loads.rate t)
    unfolding weight_on
    weight_is s k =
        ap (λ (m : ℕ). sum_in m (λ i. owns (party b) (at label i) && bit (at words i) s) (at rate)) L.rows_is
        ∙ sum_in_eq t.rows (λ i. owns (party b) (at label i) && bit (at words i) s)
        (λ i. owns (party b) (at label i) && uses t i (suc s)) (at rate) (loads.rate t)
        (λ i l. ap (λ (c : Bool). owns (party b) (at label i) && c) (uses_is i s l k))
        (λ i l u. L.rate_is.row i l)

    over_is : (s : ℕ) → s < t.elements → is_over_limit alone limit (suc s) ≡ test s
    over_is s k =
        over_among (party b) (record { table = t; label = at label }) L.sound L.one_ring limit (suc s)
        ∙ ap₂ (λ (x y : ℕ). ltb (limit * x) (1000 * y)) (sym L.hyper_is) (sym (weight_is s k))

    alone_elements : alone.elements ≡ t.elements
    unfolding own
    alone_elements = refl

    module _ (number r : ℕ) (e : r ≡ lowest M test) where
      limit_refused : number ≢ 0 → r < M → Answers (segment_checks number alone limit) number (r + 1)
      unfolding segment_checks
      limit_refused z l =
          rw add-one
          (single_stopped (λ s. over_limit number alone limit (suc s)) alone.elements r
          (omega (arith, alone_elements, L.elements_is)) z
          (λ j k u. lowest_below M test j (omega (arith, e)) (along (over_is j (omega (arith, L.elements_is))) u))
          (along (sym (over_is r (omega (arith, L.elements_is)))) (rw e (lowest_has M test (omega (arith, e))))))

      limit_none : M ≤ r → None (segment_checks number alone limit)
      unfolding segment_checks
      limit_none l =
          single_none (λ s. over_limit number alone limit (suc s)) alone.elements
          (λ s k u.
          let m : s < t.elements = omega (arith, alone_elements, k) in
          lowest_below M test s (omega (arith, e, L.elements_is)) (along (over_is s m) u))

      -- what is answered of a party
      pub limit_answers : (w : Reason) → number_of w ≡ number → (a : Result Unit Refusal) → OverAt w M r a
          → Answers (segment_checks number alone limit) (told.number a) (told.place a)
      limit_answers w q a O =
          ⊎_elim
          (λ l. rw (O.within l) (answered (segment_checks number alone limit) (limit_none l)))
          (λ l. rw (O.over l, q) (limit_refused (λ z. not_done w (q ∙ z)) l))
          (le_or_lt M r)

pub segment_numbered : (number : ℕ) (t : Table) (limit : ℕ) → number ≢ 0 → Numbered (segment_checks number t limit)
unfolding segment_checks
segment_numbered number t limit z = single_numbered (λ s. over_limit number t limit (suc s)) t.elements (λ s. z)

-- 21 for all segments, then 22
module _ (t : Labelled) (our their : ℕ) where
  abbrev of_ours : List Check
  of_ours = segment_checks 21 (own ours t) our

  abbrev of_theirs : List Check
  of_theirs = segment_checks 22 (own theirs t) their

  -- ours are over
  pub ours_over : (r : Refusal) → Answers of_ours (number_of r.reason) r.place → Answers (limit_checks t our their) (number_of r.reason) r.place
  unfolding limit_checks
  ours_over r A = stopped of_ours of_theirs (number_of r.reason) r.place (not_done r.reason) A

  -- they are not
  pub ours_within : (n p : ℕ) → Answers of_ours 0 0 → Answers of_theirs n p → Answers (limit_checks t our their) n p
  unfolding limit_checks
  ours_within n p A B =
      joined of_ours of_theirs n p (none_of of_ours 0 (segment_numbered 21 (own ours t) our (omega arith)) A) B

  pub limit_numbered : Numbered (limit_checks t our their)
  unfolding limit_checks
  limit_numbered =
      numbered_join of_ours of_theirs (segment_numbered 21 (own ours t) our (omega arith))
      (segment_numbered 22 (own theirs t) their (omega arith))
