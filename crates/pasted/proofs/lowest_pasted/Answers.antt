-- lowest_pasted: row after row has no earlier one with its ends and period.
use Rattle.std.proofs.Common.{◌≡◌, ℕ, ◌+◌, ◌<◌, Bool, ◌&&◌, eqb, List, arith, sym, ap, ◌∙◌}
use Rattle.numbers.specs.Lists.{at}
use Rattle.numbers.specs.Word.{bit, word}
use Rattle.numbers.specs.Finite.{any}
use Rattle.numbers.proofs.Finite.{sought_start, sought_next, sought_found, sought_end}
use Rattle.rules.specs.Bounds.{max_elements, max_rows}
use Rattle.rules.specs.Bus.{pasted}
use Rattle.table.specs.Columns.{table_of}
use Rattle.table.specs.declared.columns.Columns.{Columns}
use Rattle.sets.proofs.Loops.{Filling, filling_start, filling_next}
use Rattle.pasted.specs.Alike.{alike, Rowed}
use Rattle.pasted.proofs.AsGiven.{earlier_pasted}
use Rattle.pasted.proofs.lowest_pasted.Goals as goal

-- what is found of row i, whose first end is d
found : {t : Columns} {words : List ℕ} {b : Bool} (i d : ℕ) → Rowed t → i < t.rows → Filling (max_elements + 1) i (at t.first) words
    → d ≡ at t.first i → b ≡ any max_rows (λ j. bit (at words d) j && alike (at t.period) (at t.second) (at t.way) i j)
    → pasted (table_of t) i ≡ b
found {t} i d R l F e r =
    sym (r
    ∙ earlier_pasted (table_of t) _ i (omega (arith, R.few))
    (F.held d (omega (arith, e, R.start i l)) ∙ ap (λ (e : ℕ). word i (λ j. eqb (at t.first j) e)) e))

pub loop-i-init : goal.loop-i-init
loop-i-init c = record { sought = sought_start; filled = filling_start (max_elements + 1) _ }

pub returns-then-is_repeated : goal.returns-then-is_repeated
returns-then-is_repeated c =
    let v = c.loop-i.invariant in
    sought_found v.sought (omega arith)
    (found c.loop-i.i _ c.requires (omega arith) v.filled c.end_at-from.ensures c.is_repeated.ensures ∙ c.if-is_repeated.true)

pub loop-i-preserved : goal.loop-i-preserved
loop-i-preserved c =
    let v = c.loop-i.invariant in
    let start = c.requires.start c.loop-i.i (omega arith) in record {
      sought = sought_next v.sought (omega arith)
          (found c.loop-i.i _ c.requires (omega arith) v.filled c.end_at-from.ensures c.is_repeated.ensures ∙ c.if-is_repeated.false);
      filled = filling_next _ v.filled (omega (arith, c.requires.few)) c.end_at-from.ensures (omega (arith, c.end_at-from.ensures, start));
    }

pub returns : goal.returns
returns c = let e : c.loop-i.i ≡ c.args.table.now.rows = omega arith in sym e ∙ sought_end c.loop-i.invariant.sought (omega arith)
