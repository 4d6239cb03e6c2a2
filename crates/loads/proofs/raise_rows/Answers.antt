-- `raise_rows` raises one row after the other: those passed are settled.
use Rattle.std.proofs.Common.{◌≡◌, Bool, not, ◌&&◌, List, ℕ, ◌+◌, ◌<◌, eqb, leb, sym, ap, ◌∙◌, arith}
use borrow.Author.Tests.{le-leb}
use Rattle.numbers.specs.Lists.{at}
use Rattle.numbers.specs.Word.{bit}
use Rattle.loads.specs.declared.Sides.{Sides}
use Rattle.loads.specs.Raised.{Settled}
use Rattle.loads.specs.Loads.{last, digit}
use Rattle.loads.specs.Line.{carried, line}
use Rattle.loads.specs.State.{Asked, State, Turn}
use Rattle.loads.proofs.Raising.{settle_start}
use Rattle.loads.proofs.Settling.{carried_circ, settled_greatest}
use Rattle.loads.proofs.States.{sums_most, after_next, after_step, raised_next, raised_same}
use Rattle.loads.proofs.raise_rows.Goals as goal
use Rattle.loads.proofs.raise_rows.Goals.{then-way-ne0, else-way-ne0}

-- the row's turn
turn : {n K h : ℕ} {tail head out into sums : List ℕ} {f : ℕ → ℕ} → Asked n K h tail head out into sums f → (s : Sides) (i later later' : ℕ)
    → State n K h tail head f s × Settled i (line n K (at tail) (last head) h f) (carried n (at tail) (last head) (digit s.top))
    → i < n → ((j : ℕ) → j < n → bit later j ≡ (leb i j && bit s.parted j))
    → ((j : ℕ) → bit later' j ≡ (bit later j && not (eqb j i))) → Turn n K h tail head out into f s later' i
turn A s i later later' r l a w = record {
  ends = A.ends;
  parts = A.parts;
  mended = record { state = r.0; within = r.1.within };
  row = l;
  after = after_next _ i later later' (bit s.parted) a w;
}

pub loop-i-init : goal.loop-i-init
loop-i-init c = record {
  later = λ j l. sym (ap (λ (b : Bool). b && bit c.args.start.parted j) (le-leb 0 j (omega arith)));
  settled = λ f A M. (
    M.state,
    settle_start _ _ (carried_circ _ _ _ _ _ f A.ends.spans A.parts (digit c.args.start.top)) M.within,
  );
}

pub seek-way-requires : goal.seek-way-requires
seek-way-requires c =
    let p = c.requires in
    let n = c.args.size in
    let u = c.loop-i in
    let r = u.invariant.settled p.0 p.1 p.2 in
    (n.rows, n.sets, n.hyper, p.0, turn p.1 u.s u.i u.later _ r c.loop-i-test.true u.invariant.later c.without-later.ensures)

pub compare-s-requires : goal.compare-s-requires
compare-s-requires c = let A = c.requires.1 in (A.ends.spans.few_sets, A.parts.fits, sums_most A)

pub loop-i-preserved : goal.loop-i-preserved
loop-i-preserved c =
    let u = c.loop-i in
    let w = c.seek-way in
    let rest : (j : ℕ) → j < c.args.size.rows → bit c.without-later.result j ≡ (leb (u.i + 1) j && bit u.s.parted j) =
    after_step _ u.i c.without-later.result (bit u.s.parted)
    (after_next _ u.i u.later c.without-later.result (bit u.s.parted) u.invariant.later c.without-later.ensures) in
    elim c.if-way-ne0.branch [
      | then-way-ne0 z ↦ rw z.s-is
          (record {
            later = λ j l. rest j l ∙ ap (λ (b : ℕ). leb (u.i + 1) j && bit b j) (sym z.compare-s.ensures.0);
            settled = λ f A M.
                let r = u.invariant.settled f A M in
                raised_next A u.s w.result u.i r.0 r.1
                (w.ensures _ _ _ f (turn A u.s u.i u.later _ r c.loop-i-test.true u.invariant.later c.without-later.ensures))
                z.compare-s.result z.compare-s.ensures.0 z.compare-s.ensures.1 z.compare-s.ensures.2;
          })
      | else-way-ne0 z ↦ rw z.s-is
          (record {
            later = rest;
            settled = λ f A M.
                let r = u.invariant.settled f A M in
                raised_same A u.s w.result u.i r.0 r.1
                (w.ensures _ _ _ f (turn A u.s u.i u.later _ r c.loop-i-test.true u.invariant.later c.without-later.ensures))
                (omega arith);
          })
    ]

pub returns : goal.returns
returns c f A M =
    let u = c.loop-i in
    let r = u.invariant.settled f A M in
    let e : u.i ≡ c.args.size.rows = omega (arith, c.loop-i-test.false) in
    settled_greatest _ _ _ _ _ f A.ends.spans A.parts (digit u.s.top) (rw e at r.1)
