-- `choose` is done where no row has a part or the rows in turn leave no set too low, or settles them.
use Rattle.std.proofs.Common.{◌≡◌, Bool, true, ◌&&◌, List, ℕ, suc, ◌<◌, ltb, refl, sym, ap, ◌∙◌, bit_and}
use borrow.Author.Tests.{lt-ltb}
use lib.Count.{ones}
use Rattle.numbers.specs.Lists.{at}
use Rattle.numbers.specs.Word.{bit}
use Rattle.numbers.proofs.Lists.{zeros_at}
use Rattle.rules.specs.Bounds.{max_elements}
use Rattle.rules.specs.Interval.{Greatest}
use Rattle.loads.specs.declared.Sides.{Sides}
use Rattle.loads.specs.Loads.{last, digit, among, none, Parts, Summed, Qualified}
use Rattle.loads.specs.State.{Compared, over, Ends, Asked, State}
use Rattle.loads.proofs.States.{sums_most, state_of}
use Rattle.interval.specs.Taken.{Uneven, Taken}
use Rattle.interval.proofs.Filling.{among_parts, among_uneven, summed_none}
use Rattle.interval.proofs.Taking.{tried_start, tried_end, taken_greatest, taken_upper}
use Rattle.interval.proofs.choice.choose.Goals as goal

-- the parts of the rows
module _ {n K : ℕ} {tail head out into : List ℕ} (E : Ends n K tail head out into) (h : ℕ) (part : ℕ → ℕ) (P : Parts n h part) (rows : ℕ)
    (R : (i : ℕ) → bit rows i ≡ true → (i < n) × (0 < part i)) where
  are_parts : Parts n h (among rows part)
  are_parts = among_parts rows P

  uneven : Uneven n (among rows part) rows
  uneven = among_uneven n rows part R

  no_rows : rows ≡ 0 → Greatest n (Qualified n K (at tail) (last head) h (among rows part) none) (digit 0)
  no_rows e =
      let s : Summed n K (at tail) (last head) (among rows part) none = rw e (summed_none _ _ _ _ _ none (λ k. refl)) in
      taken_greatest _ _ _ _ _ _ E.spans are_parts 0 none
      (tried_end _ _ _ _ _ _ E.spans are_parts _ uneven (tried_start _ _ _ _ _ _ E.spans are_parts _ uneven none s) (sym e))
      (λ k l. P.some)

  -- the sums that are handed over, and where the settling starts
  module _ (sum : List ℕ) (S : Summed n K (at tail) (last head) (among rows part) (at sum)) where
    asked : Asked n K h tail head out into sum (among rows part)
    asked = record { ends = E; parts = are_parts; summed = S }

    started : (top : ℕ) (left : ℕ → ℕ) → Taken n K n (at tail) (last head) h (among rows part) top left → (s : Sides) → s.parted ≡ rows
        → s.top ≡ top → Compared K h (λ k. ones (bit_and top (over (at out) (at into) (suc k)))) (at sum) s.more s.less s.low
        → State n K h tail head (among rows part) s
    started top left T s p t d =
        state_of asked s rows top (λ i l. uneven i ∙ ap (λ (b : Bool). b && ltb 0 (among rows part i)) (lt-ltb i n l))
        (taken_upper _ _ _ _ _ _ E.spans are_parts _ _ T) p t d

pub returns-then-rows-eq0 : goal.returns-then-rows-eq0
returns-then-rows-eq0 c = no_rows c.requires.0 _ _ c.requires.1 c.args.rows c.requires.2 c.if-rows-eq0.true

pub add_parts-requires : goal.add_parts-requires
add_parts-requires c =
    let p = c.requires in
    ((_, _, _, p.0.spans, p.0.heads, p.1, λ i q. (p.2 i q).0), zeros_at max_elements, refl)

pub take_rows-top-requires : goal.take_rows-top-requires
take_rows-top-requires c =
    let p = c.requires in
    let s = c.add_parts.ensures.1 _ _ p.0.spans p.0.heads (λ i q. (p.2 i q).0) in
    let P = are_parts p.0 _ _ p.1 c.args.rows p.2 in
    let U = uneven p.0 _ _ p.1 c.args.rows p.2 in
    ((_, _, _, p.0.spans, p.0.heads, P, U, s), c.add_parts.ensures.0)

pub returns-then-all_less : goal.returns-then-all_less
returns-then-all_less c =
    let p = c.requires in
    let s = c.add_parts.ensures.1 _ _ p.0.spans p.0.heads (λ i q. (p.2 i q).0) in
    let P = are_parts p.0 _ _ p.1 c.args.rows p.2 in
    let T = c.take_rows-top.ensures.1 _ _ _ p.0.spans p.0.heads P (uneven p.0 _ _ p.1 c.args.rows p.2) s in
    taken_greatest _ _ _ _ _ _ p.0.spans P _ _ T (c.all_less.ensures c.if-all_less.true)

-- ---- where the rows in turn have left a set too low

pub add_parts-requires-2 : goal.add_parts-requires-2
add_parts-requires-2 c =
    let p = c.requires in
    ((_, _, _, p.0.spans, p.0.heads, p.1, λ i q. (p.2 i q).0), zeros_at max_elements, refl)

pub compare-start-requires : goal.compare-start-requires
compare-start-requires c =
    let p = c.requires in
    let s = c.add_parts-2.ensures.1 _ _ p.0.spans p.0.heads (λ i q. (p.2 i q).0) in
    (p.0.spans.few_sets, p.1.fits, sums_most (asked p.0 _ _ p.1 c.args.rows p.2 _ s))

pub mend-mended-requires : goal.mend-mended-requires
mend-mended-requires c =
    let p = c.requires in
    let e = c.compare-start.ensures in
    let w = c.add_parts.ensures.1 _ _ p.0.spans p.0.heads (λ i q. (p.2 i q).0) in
    let s = c.add_parts-2.ensures.1 _ _ p.0.spans p.0.heads (λ i q. (p.2 i q).0) in
    let P = are_parts p.0 _ _ p.1 c.args.rows p.2 in
    let T = c.take_rows-top.ensures.1 _ _ _ p.0.spans p.0.heads P (uneven p.0 _ _ p.1 c.args.rows p.2) w in (
      _,
      asked p.0 _ _ p.1 c.args.rows p.2 _ s,
      started p.0 _ _ p.1 c.args.rows p.2 _ s _ _ T c.compare-start.result e.0 e.1 e.2,
    )

pub raise_rows-requires : goal.raise_rows-requires
raise_rows-requires c =
    let p = c.requires in
    let e = c.compare-start.ensures in
    let w = c.add_parts.ensures.1 _ _ p.0.spans p.0.heads (λ i q. (p.2 i q).0) in
    let s = c.add_parts-2.ensures.1 _ _ p.0.spans p.0.heads (λ i q. (p.2 i q).0) in
    let P = are_parts p.0 _ _ p.1 c.args.rows p.2 in
    let T = c.take_rows-top.ensures.1 _ _ _ p.0.spans p.0.heads P (uneven p.0 _ _ p.1 c.args.rows p.2) w in
    let A = asked p.0 _ _ p.1 c.args.rows p.2 _ s in
    (_, A, c.mend-mended.ensures _ A (started p.0 _ _ p.1 c.args.rows p.2 _ s _ _ T c.compare-start.result e.0 e.1 e.2))

pub returns : goal.returns
returns c =
    let p = c.requires in
    let e = c.compare-start.ensures in
    let w = c.add_parts.ensures.1 _ _ p.0.spans p.0.heads (λ i q. (p.2 i q).0) in
    let s = c.add_parts-2.ensures.1 _ _ p.0.spans p.0.heads (λ i q. (p.2 i q).0) in
    let P = are_parts p.0 _ _ p.1 c.args.rows p.2 in
    let T = c.take_rows-top.ensures.1 _ _ _ p.0.spans p.0.heads P (uneven p.0 _ _ p.1 c.args.rows p.2) w in
    let A = asked p.0 _ _ p.1 c.args.rows p.2 _ s in
    c.raise_rows.ensures _ A (c.mend-mended.ensures _ A (started p.0 _ _ p.1 c.args.rows p.2 _ s _ _ T c.compare-start.result e.0 e.1 e.2))
