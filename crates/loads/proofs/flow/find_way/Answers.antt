-- `find_way` goes on from nodes that are seen and not done, until t is seen or all are done.
use Rattle.std.proofs.Common.{◌≡◌, Bool, true, ℕ, ◌+◌, ◌-◌, ◌%◌, ◌≤◌, ◌<◌, refl, sym, ◌∙◌, arith}
use mathlib.Core.Bool.{true≢false, false≢true}
use borrow.Author.Tests.{eqb-true}
use Rattle.numbers.specs.Word.{bit}
use Rattle.numbers.proofs.Lists.{zeros_at}
use Rattle.numbers.proofs.Word.{bit_shr, bit_zero}
use Rattle.loads.specs.Network.{nodes_most}
use Rattle.loads.specs.Way.{Entered}
use Rattle.loads.proofs.Words.{bit_one_more, bit_first, bit_odd, in_first, fewer}
use Rattle.loads.proofs.Ways.{reached_start, done_start, done_shut, out_node, into_node}
use Rattle.loads.proofs.Ways.{leave_line, leave_reached, leave_done, leave_within}
use Rattle.loads.proofs.flow.find_way.Goals as goal

-- the node that is gone on from is seen, and lies on the line
node : (seen done u K : ℕ) → (bit seen u ≡ bit done u → ⊥) → ((v : ℕ) → bit done v ≡ true → bit seen v ≡ true)
    → ((v : ℕ) → bit seen v ≡ true → v ≤ K) → K < nodes_most → (u ≤ K) × (u < nodes_most)
node seen done u K ne some line few = let l = line u (in_first _ _ ne (some u)).0 in (l, omega arith)

-- where the set can carry one more, p is node q
entered_at : (on : Bool) (p q w seen seen' : ℕ) (by by' : ℕ → ℕ) → Entered on p w seen seen' by by' → (on ≡ true → p ≡ q)
    → Entered on q w seen seen' by by'
entered_at on p q w seen seen' by by' E e = record {
  kept = E.kept;
  came = λ v f t. let r = E.came v f t in (r.0, r.1 ∙ e r.0, r.2);
  swept = λ o. rw (e o) at (E.swept o);
}

-- the node before u, where a set starts at u
before : (u : ℕ) → 0 < u → u < nodes_most → (u + 18446744073709551615) % 18446744073709551616 ≡ u - 1
before u l m = omega arith

pub loop-seen-init : goal.loop-seen-init
loop-seen-init c =
    let s = c.args.s in
    let l : s < 64 = omega (arith, c.requires.2.few_nodes, c.requires.4) in
    record {
      size = refl;
      some = λ v q. absurd (false≢true (sym (bit_zero v) ∙ q));
      on_line = λ n K W N sK v q. let e : v ≡ s = eqb-true v s (sym (bit_first s v l) ∙ q) in omega arith;
      reached = λ n K G may x W N sK S circ. (
        reached_start n G may x s _ _ circ (λ v. bit_first s v l) (zeros_at nodes_most s),
        done_start G may x _,
      );
    }

pub returns-then-seen-t-eq1 : goal.returns-then-seen-t-eq1
returns-then-seen-t-eq1 c n K G may x W N sK tK S circ =
    let u = c.loop-seen in
    let t = c.args.t in
    let w = (u.invariant.reached n K G may x W N sK S circ).0.way t (bit_odd u.seen t c.if-seen-t-eq1.true) in
    record { found = λ q. (bit u.seen, w.0, w.1, w.2); none = λ q. absurd (true≢false q) }

pub bounds-by-u : goal.bounds-by-u
bounds-by-u c =
    let p = c.requires in
    let u = c.loop-seen.invariant in
    omega (arith, u.size, node _ _ c.pick-u.result p.1 c.pick-u.ensures.1 u.some (u.on_line p.0 p.1 p.2 p.3 p.4) p.2.few_nodes)

pub bounds-out-u : goal.bounds-out-u
bounds-out-u c =
    let p = c.requires in
    let u = c.loop-seen.invariant in
    omega (arith, node _ _ c.pick-u.result p.1 c.pick-u.ensures.1 u.some (u.on_line p.0 p.1 p.2 p.3 p.4) p.2.few_nodes)

pub visit-ahead-requires : goal.visit-ahead-requires
visit-ahead-requires c =
    let p = c.requires in
    let u = c.loop-seen.invariant in
    let l = node _ _ c.pick-u.result p.1 c.pick-u.ensures.1 u.some (u.on_line p.0 p.1 p.2 p.3 p.4) p.2.few_nodes in (
      λ i b. omega (
        arith,
        p.2.ends i (out_node _ _ _ _ _ _ p.2 c.pick-u.result i c.args.arcs.up l.0 b).0,
        p.2.few_nodes,
      ),
      u.size,
    )

pub bounds-into-u : goal.bounds-into-u
bounds-into-u c =
    let p = c.requires in
    let u = c.loop-seen.invariant in
    omega (arith, node _ _ c.pick-u.result p.1 c.pick-u.ensures.1 u.some (u.on_line p.0 p.1 p.2 p.3 p.4) p.2.few_nodes)

pub visit-back-requires : goal.visit-back-requires
visit-back-requires c =
    let p = c.requires in
    let u = c.loop-seen.invariant in
    let l = node _ _ c.pick-u.result p.1 c.pick-u.ensures.1 u.some (u.on_line p.0 p.1 p.2 p.3 p.4) p.2.few_nodes in (
      λ i b. omega (
        arith,
        p.2.ends i (into_node _ _ _ _ _ _ p.2 c.pick-u.result i c.args.arcs.down l.0 b).0,
        p.2.few_nodes,
      ),
      c.visit-ahead.ensures.0,
    )

pub step-lower-requires : goal.step-lower-requires
step-lower-requires c =
    let p = c.requires in
    let u = c.loop-seen.invariant in
    let l = node _ _ c.pick-u.result p.1 c.pick-u.ensures.1 u.some (u.on_line p.0 p.1 p.2 p.3 p.4) p.2.few_nodes in
    (l.1, λ q. omega (arith, l.1, before c.pick-u.result (p.3.more c.pick-u.result q).0 l.1), c.visit-back.ensures.0)

pub step-seen-requires : goal.step-seen-requires
step-seen-requires c =
    let p = c.requires in
    let u = c.loop-seen.invariant in
    let l = node _ _ c.pick-u.result p.1 c.pick-u.ensures.1 u.some (u.on_line p.0 p.1 p.2 p.3 p.4) p.2.few_nodes in
    (l.1, λ q. omega (arith, p.3.less c.pick-u.result q, p.2.few_nodes), c.step-lower.ensures.0)

pub loop-seen-smaller : goal.loop-seen-smaller
loop-seen-smaller c =
    let d = c.loop-seen.done in
    let u = c.pick-u.result in
    let l = c.pick-u.ensures.0 in
    fewer d _ u l (in_first _ _ c.pick-u.ensures.1 (c.loop-seen.invariant.some u)).1 (λ v. bit_one_more d u v l)

pub loop-seen-preserved : goal.loop-seen-preserved
loop-seen-preserved c =
    let A = c.args.arcs in
    let L = c.loop-seen in
    let u = c.pick-u.result in
    let l = c.pick-u.ensures.0 in
    let us = (in_first _ _ c.pick-u.ensures.1 (L.invariant.some u)).0 in
    let r = c.requires in
    let n = node _ _ u r.1 c.pick-u.ensures.1 L.invariant.some (L.invariant.on_line r.0 r.1 r.2 r.3 r.4) r.2.few_nodes in
    let d = entered_at _ _ (u - 1) _ _ _ _ _ c.step-lower.ensures.1 (λ q. before u (r.3.more u q).0 n.1) in
    let a = c.visit-ahead.ensures.1 in
    let b = c.visit-back.ensures.1 in
    let e = c.step-seen.ensures in
    let wider : (v : ℕ) → bit L.seen v ≡ true → bit c.step-seen.result v ≡ true =
    λ v q. (e.1.kept v (d.kept v (b.kept v (a.kept v q).0).0).0).0 in
    record {
      size = e.0;
      some = leave_within u L.seen c.step-seen.result L.done _ wider us (λ v. bit_one_more L.done u v l) L.invariant.some;
      on_line = λ n K W N sK.
          let line = L.invariant.on_line n K W N sK in
          leave_line n K _ _ _ _ W A N u _ L.seen _ _ _ c.step-seen.result _ _ _ _ _ (line u us) a b d e.1 line;
      reached = λ n K G may x W N sK S circ.
          let R = L.invariant.reached n K G may x W N sK S circ in
          let ul = L.invariant.on_line n K W N sK u us in (
            leave_reached n K _ _ _ _ W A N G may x S c.args.s u _ L.seen _ _ _ c.step-seen.result _ _ _ _ _ ul us refl a b d e.1 R.0,
            leave_done n K _ _ _ _ W A N G may x S c.args.s u _ L.seen _ _ _ c.step-seen.result _ _ _ _ _ ul us refl a b d e.1
                L.done _ (λ v. bit_one_more L.done u v l) R.1,
          );
    }

pub returns : goal.returns
returns c n K G may x W N sK tK S circ =
    let u = c.loop-seen in
    let t = c.args.t in
    let R = u.invariant.reached n K G may x W N sK S circ in
    let same : u.seen ≡ u.done = omega arith in
    record {
      found = λ q. let w = R.0.way t (sym (bit_shr u.seen t) ∙ q) in (bit u.seen, w.0, w.1, w.2);
      none = λ q. (bit u.seen, R.0.start, sym (bit_shr u.seen t) ∙ q, done_shut G may x u.seen u.done same R.1);
    }
