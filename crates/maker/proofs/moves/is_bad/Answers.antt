-- is_bad: row `i` shares a segment with those before it, or none.
use Rattle.std.proofs.Common.{arith, ◌≡◌, ℕ, List, ◌<◌, sym, ap, ◌∙◌}
use mathlib.Core.Logic.{inl}
use lib.Bits.{bit_and, bit_or}
use Rattle.numbers.proofs.Truth.{decides_yes, decides_no}
use Rattle.rules.specs.Bus.{Table}
use Rattle.maker.specs.Words.{Segmented}
use Rattle.maker.proofs.Bad.{used_start, used_skip, used_add, used_stop, used_end}
use Rattle.maker.proofs.Words.{bit_is, bit_is_not}
use Rattle.maker.proofs.moves.is_bad.Goals as goal
use Rattle.maker.proofs.moves.is_bad.Goals.{then-word-i-eq1+else-used-segments-ne0, else-word-i-eq1}

-- its rows run one way
ways : {t : Table} {xs : List ℕ} → Segmented t xs → (i : ℕ) → i < t.rows → (j : ℕ) → j < i → t.way j ≡ t.way i
ways L i l j k = L.way j (omega (arith, l, k)) ∙ sym (L.way i l)

pub returns-then-past_last : goal.returns-then-past_last
returns-then-past_last c = λ t e l.
    let q = c.past_last.ensures.holds c.if-past_last.true in
    decides_yes (inl (q.0, omega (arith, e, q.1), q.2))

pub loop-i-init : goal.loop-i-init
loop-i-init c = λ t e l. used_start t _

pub returns-then-used-segments-ne0 : goal.returns-then-used-segments-ne0
returns-then-used-segments-ne0 c = λ t e l.
    let i = c.loop-i.i in
    let m : i < t.rows = omega (arith, e) in
    decides_yes (used_stop (c.loop-i.invariant t e l) (bit_is c.args.word i c.if-word-i-eq1.true) (ways l i m) m
    (λ z. c.if-used-segments-ne0.true (ap (bit_and c.loop-i.used) (l.row i m) ∙ z)))

pub loop-i-preserved : goal.loop-i-preserved
loop-i-preserved c = λ t e l.
    let i = c.loop-i.i in
    let m : i < t.rows = omega (arith, e) in
    let U = c.loop-i.invariant t e l in
    let g = l.row i m in
    elim c.if-word-i-eq1.branch [
      | then-word-i-eq1+else-used-segments-ne0 w ↦
          rw (w.used-is ∙ ap (bit_or c.loop-i.used) g)
          (used_add U (bit_is c.args.word i w.if-word-i-eq1.true) (ways l i m)
          (ap (bit_and c.loop-i.used) (sym g) ∙ w.if-used-segments-ne0.false))
      | else-word-i-eq1 w ↦ rw w.used-is (used_skip U (bit_is_not c.args.word i w.if-word-i-eq1.false))
    ]

pub returns : goal.returns
returns c = λ t e l.
    let p = c.past_last.ensures.fails c.if-past_last.false in
    decides_no (used_end (c.loop-i.invariant t e l) (omega (arith, e)) (λ q. p (q.0, omega (arith, e, q.1), q.2)))
