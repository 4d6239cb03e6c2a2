-- `mend` brings one more to a set that is too low, at each turn: what is needed still falls.
use Rattle.std.proofs.Common.{◌≡◌, Bool, true, List, ℕ, suc, ◌+◌, ◌-◌, ◌*◌, ◌/◌, ◌%◌, ◌^◌, ◌≤◌, ◌<◌, bit_and, bit_xor, refl, sym, ap, ◌∙◌, arith}
use mathlib.Core.Bool.{false≢true}
use lib.Count.{ones}
use Rattle.numbers.specs.Finite.{sum}
use Rattle.numbers.specs.Lists.{at}
use Rattle.numbers.specs.Word.{bit}
use Rattle.numbers.proofs.Word.{bit_zero}
use Rattle.loads.specs.declared.Sides.{Sides}
use Rattle.loads.specs.Way.{Narrow, Shown, Sought}
use Rattle.loads.specs.Loads.{last, digit}
use Rattle.loads.specs.Line.{carried, line}
use Rattle.loads.specs.State.{over, Asked, State}
use Rattle.loads.specs.declared.flow.Arcs.{Arcs}
use Rattle.loads.proofs.Words.{in_first}
use Rattle.loads.proofs.Settling.{carried_circ}
use Rattle.loads.proofs.States.{heads_are, sums_most, state_of, need_is, mended_of}
use Rattle.loads.proofs.Turning.{low_yes, others, mend_narrow, mend_shown, mend_found, mend_upper, mend_less}
use Rattle.loads.proofs.mend.Goals as goal

-- set q is too low
module _ {n K h : ℕ} {tail head out into sums : List ℕ} {f : ℕ → ℕ} (A : Asked n K h tail head out into sums f) (s : Sides)
    (M : State n K h tail head f s) (low q : ℕ) (is : low ≡ s.low) (ne : bit low q ≡ bit 0 q → ⊥) where
  lacking : bit s.low q ≡ true
  lacking = ap (λ (w : ℕ). bit w q) (sym is) ∙ (in_first _ _ ne (λ e. absurd (false≢true (sym (bit_zero q) ∙ e)))).0

  set_in : q < K
  set_in = (low_yes M.compared q lacking).0

  small : q < 63
  small = omega (arith, set_in, A.ends.spans.few_sets)

  -- the arcs that are handed over
  abbrev arcs : Arcs
  arcs = record {
    up = bit_xor s.parted s.top;
    down = s.top;
    more = bit_xor s.more (1 * 2 ^ (q + 1) % 2 ^ 64);
    less = s.less;
  }

  narrow : Narrow K arcs
  narrow =
      mend_narrow _ _ _ _ _ (at head) f (heads_are A.ends) A.ends.spans A.parts s.parted s.top _ _ _ M.parted_is M.upper M.compared q
      small lacking

  abbrev free : ℕ → Bool
  free =
      others n K h (at tail) (last head) (at head) f (heads_are A.ends) A.ends.spans A.parts s.parted s.top s.more s.less s.low
      M.parted_is M.upper M.compared q small lacking

  shown : Shown n K (line n K (at tail) (last head) h f) free (carried n (at tail) (last head) (digit s.top)) (at tail) (at head) arcs
  shown =
      mend_shown _ _ _ _ _ (at head) f (heads_are A.ends) A.ends.spans A.parts s.parted s.top _ _ _ M.parted_is M.upper M.compared q
      small lacking

  -- the way that there must be, and what it leaves
  module _ (w : ℕ) (r : Bool) (S : Sought n (line n K (at tail) (last head) h f) free
      (carried n (at tail) (last head) (digit s.top)) q (q + 1) w r) where
    sought : Sought n (line n K (at tail) (last head) h f) free (carried n (at tail) (last head) (digit s.top)) q (q + 1) w true
    sought =
        mend_found _ _ _ _ _ (at head) f (heads_are A.ends) A.ends.spans A.parts s.parted s.top _ _ _ M.parted_is M.upper M.compared q
        small lacking w r S

    upper : (e : ℕ) → e < n + K
        → carried n (at tail) (last head) (digit (bit_xor s.top w)) e ≤ (line n K (at tail) (last head) h f).high e
    upper =
        mend_upper _ _ _ _ _ (at head) f (heads_are A.ends) A.ends.spans A.parts s.parted s.top _ _ _ M.parted_is M.upper M.compared q
        small lacking w sought

    less : sum K (λ k. at sums k / h - ones (bit_and (bit_xor s.top w) (over (at out) (at into) (suc k))))
        < sum K (λ k. at sums k / h - ones (bit_and s.top (over (at out) (at into) (suc k))))
    less =
        omega (
          arith,
          mend_less _ _ _ _ _ (at head) f (heads_are A.ends) A.ends.spans A.parts s.parted s.top _ _ _ M.parted_is M.upper M.compared q
              small lacking w sought,
          need_is A s.top,
          need_is A (bit_xor s.top w),
        )

pub overflow_shl-arcs : goal.overflow_shl-arcs
overflow_shl-arcs c =
    let p = c.requires in
    let u = c.loop-low in
    omega (arith, small p.1 u.s (u.invariant.state p.0 p.1 p.2) u.low _ u.invariant.low c.pick-q.ensures.1)

pub find_way-way-requires : goal.find_way-way-requires
find_way-way-requires c =
    let p = c.requires in
    let n = c.args.size in
    let u = c.loop-low in
    let M = u.invariant.state p.0 p.1 p.2 in
    let l = set_in p.1 u.s M u.low _ u.invariant.low c.pick-q.ensures.1 in (
      n.rows,
      n.sets,
      p.1.ends.wired,
      narrow p.1 u.s M u.low _ u.invariant.low c.pick-q.ensures.1,
      omega (arith, l),
      omega (arith, l),
    )

pub compare-s-requires : goal.compare-s-requires
compare-s-requires c = let A = c.requires.1 in (A.ends.spans.few_sets, A.parts.fits, sums_most A)

pub loop-low-smaller : goal.loop-low-smaller
loop-low-smaller c =
    let p = c.requires in
    let n = c.args.size in
    let u = c.loop-low in
    let M = u.invariant.state p.0 p.1 p.2 in
    let w = c.find_way-way in
    let d = c.pick-q.ensures.1 in
    let l = set_in p.1 u.s M u.low _ u.invariant.low d in
    rw c.compare-s.ensures.1
    (less p.1 u.s M u.low _ u.invariant.low d w.result.rows w.result.found
    (w.ensures n.rows n.sets _ _ _ p.1.ends.wired (narrow p.1 u.s M u.low _ u.invariant.low d) (omega (arith, l)) (omega (arith, l))
    (shown p.1 u.s M u.low _ u.invariant.low d) (carried_circ _ _ _ _ _ p.0 p.1.ends.spans p.1.parts (digit u.s.top))))

pub loop-low-preserved : goal.loop-low-preserved
loop-low-preserved c =
    let n = c.args.size in
    let u = c.loop-low in
    let w = c.find_way-way in
    let d = c.pick-q.ensures.1 in
    record {
      low = refl;
      state = λ f A B.
          let M = u.invariant.state f A B in
          let l = set_in A u.s M u.low _ u.invariant.low d in
          state_of A c.compare-s.result u.s.parted (bit_xor u.s.top w.result.rows) M.parted_is
          (upper A u.s M u.low _ u.invariant.low d w.result.rows w.result.found
          (w.ensures n.rows n.sets _ _ _ A.ends.wired (narrow A u.s M u.low _ u.invariant.low d) (omega (arith, l)) (omega (arith, l))
          (shown A u.s M u.low _ u.invariant.low d) (carried_circ _ _ _ _ _ f A.ends.spans A.parts (digit u.s.top))))
          c.compare-s.ensures.0 c.compare-s.ensures.1 c.compare-s.ensures.2;
    }

pub returns : goal.returns
returns c f A B =
    let u = c.loop-low in
    mended_of A u.s (u.invariant.state f A B) (sym u.invariant.low ∙ omega arith)
