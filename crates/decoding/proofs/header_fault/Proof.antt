-- `decoding::header_fault` meets its contract.
use mathlib.Core.Path.{refl}
use native.Mathlib.Omega.{arith}
use Rattle.rules.specs.TableFile.{mark}
use Rattle.rules.specs.Refusals.{unknown_mark, header_checks}
use Rattle.rules.proofs.Answers.{applied, passed}
use Rattle.table.proofs.Faults.{header_rest}
use borrow.Author.Rules.{rules}
use Rattle.decoding.proofs.header_fault.Statement.{statement}
use Rattle.decoding.proofs.header_fault.Tie as tie

returns : tie.Need-returns-then-file-lt-HEADER
unfolding header_checks
returns c = applied _ _ 1 0 c.if-file-lt-HEADER.true refl refl

is-strange-requires : tie.Need-is_strange-requires
is-strange-requires c κs = search rules

returns-2 : tie.Need-returns-then-is_strange
unfolding header_checks
returns-2 c =
    passed _ _ 2 0 (λ l. let z : ⊥ = omega arith in z)
    (applied _ _ 2 0 (c.is_strange.ensures.holds c.if-is_strange.true) refl refl)

rings-of-requires : tie.Need-rings_of-rings-requires
rings-of-requires c κs = search rules

version-of-requires : tie.Need-version_of-version-requires
version-of-requires c κs = search rules

is-unknown-requires : tie.Need-is_unknown-requires
is-unknown-requires c κs = search rules

-- the mark is one of the two
known_mark : (z : tie.Else-is_strange) → (unknown_mark (mark z.args.file.now)).applies → ⊥
known_mark z = z.is_strange.ensures.fails z.if-is_strange.false

returns-3 : tie.Need-returns-then-is_unknown
unfolding header_checks
returns-3 c =
    let v = c in
    passed _ _ 3 0 (λ l. let z : ⊥ = omega arith in z)
    (passed _ _ 3 0 (known_mark v.before.before.before.before)
    (applied _ _ 3 0 (rw (v.rings_of-rings.ensures, v.version_of-version.ensures) at (c.is_unknown.ensures.holds c.if-is_unknown.true))
    refl refl))

of-requires : tie.Need-of-table-requires
of-requires c κs = search rules

row-bytes-requires : tie.Need-row_bytes-requires
row-bytes-requires c κs = search rules

size-fault-requires : tie.Need-size_fault-requires
size-fault-requires c κs = (omega arith, c.row_bytes.ensures.1)

returns-4 : tie.Need-returns
returns-4 c =
    let o = c.of-table.ensures in
    let y = c in
    let u = y in
    let v = u.version_of-version.ensures in
    let r = u.rings_of-rings.ensures in
    let z = u.before.before.before.before.before.before.before in
    header_rest _ _ z.if-file-lt-HEADER.false (known_mark z) (rw (r, v) at (u.is_unknown.ensures.fails y.if-is_unknown.false))
    (rw (c.row_bytes.ensures.0, r, v, o.elements, o.rows) at c.size_fault.ensures)

pub header_fault_spec : {M : Type 1} → statement M
header_fault_spec =
    tie.close
    (tie.spec
    returns
    is-strange-requires
    returns-2
    rings-of-requires
    version-of-requires
    is-unknown-requires
    returns-3
    of-requires
    row-bytes-requires
    size-fault-requires
    returns-4)
