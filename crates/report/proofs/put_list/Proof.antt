-- put_list: an analysed table's list of sets is written line by line.
use borrow.Author.Rules.{rules}
use native.Mathlib.Omega.{arith}
use mathlib.Core.Path.{◌≡◌, sym}
use mathlib.Core.List.{List}
use Prim.Native.Nat.{ℕ, ◌≤◌}
use lib.ListN.{length, take, length-take}
use Rattle.rules.specs.Bounds.{max_rows}
use Rattle.report.proofs.Printed.{list_count}
use Rattle.report.proofs.put_list.Statement.{statement}
use Rattle.report.proofs.put_list.Tie as tie

abbrev count : tie.Start → ℕ
count z = z.args.table.outline.sets

abbrev list : tie.Start → List ℕ
list z = take (count z) z.args.table.outline.words

found : (z : tie.Start) → (length (list z) ≡ count z) × (count z ≤ max_rows)
found z = list_count z.requires.0.1

array-share-prefix-words : tie.Need-slice_bounds-words-end
array-share-prefix-words c =
    let z = c.before.before in
    omega (arith, length-take (count z) z.args.table.outline.words, (found z).0)

slice-aggregate-put-words : tie.Need-slice_bounds-put_words-end
slice-aggregate-put-words c = sym (found c.before.before.before).0

put-words-requires : tie.Need-put_words-requires
put-words-requires c κs = let z = c.before.before.before.before in omega (arith, (found z).0, (found z).1, z.requires.1)

same_length : tie.Need-shape_of-out
same_length c = search rules

returns : tie.Need-returns
returns c t A =
    let z = c.before.before.before.before.before.before.before in
    let P = c.put_words.ensures in
    (list z, A.outline.list, (P.0, omega (arith, P.1, (found z).0, (found z).1)))

pub put_list_spec : {M : Type 1} → statement M
put_list_spec =
    tie.close (tie.spec array-share-prefix-words slice-aggregate-put-words put-words-requires same_length returns)
