-- `table::marks::begins` meets its contract.
use native.Mathlib.Omega.{arith}
use borrow.Author.Rules.{rules}
use borrow.Author.Tests.{eqb-true, eqb-false}
use Rattle.numbers.specs.Lists.{at}
use Rattle.table.proofs.Faults.{mark_of_lem, mark_at}
use Rattle.numbers.proofs.Truth.{decides_no}
use Rattle.table.proofs.marks.begins.Statement.{statement}
use Rattle.table.proofs.marks.begins.Tie as tie

shared-slice-read-if1 : tie.Need-bounds-bytes-0
shared-slice-read-if1 c = search rules

array-read-if1 : tie.Need-bounds-0
array-read-if1 c = search rules

returns : tie.Need-returns-then-bytes
returns c =
    let f = c.before.before.args.bytes.now in
    decides_no (λ e. let z : ⊥ = omega (arith, c.if-bytes.true, mark_at f 0 (omega arith) e) in z)

shared-slice-read-if2 : tie.Need-bounds-bytes-1
shared-slice-read-if2 c = search rules

array-read-if2 : tie.Need-bounds-1
array-read-if2 c = search rules

returns-2 : tie.Need-returns-then-bytes-2
returns-2 c =
    let f = c.before.before.before.before.args.bytes.now in
    decides_no (λ e. let z : ⊥ = omega (arith, c.if-bytes-2.true, mark_at f 1 (omega arith) e) in z)

shared-slice-read-result : tie.Need-bounds-bytes-2
shared-slice-read-result c = search rules

returns-3 : tie.Need-returns
returns-3 c =
    let z = c.before.before.before.before.before in
    let f = z.args.bytes.now in
    let x = z.args.last in
    record {
      holds = λ e. mark_of_lem f z.requires c.before.before.before.if-bytes.false c.before.if-bytes-2.false (eqb-true (at f 2) x e);
      fails = λ e m. eqb-false (at f 2) x e (mark_at f 2 (omega arith) m);
    }

pub begins_spec : {M : Type 1} → statement M
begins_spec =
    tie.close
    (tie.spec
    shared-slice-read-if1
    array-read-if1
    returns
    shared-slice-read-if2
    array-read-if2
    returns-2
    shared-slice-read-result
    returns-3)
