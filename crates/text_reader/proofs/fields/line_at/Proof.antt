-- `fields::line_at` meets its contract: up to the newline, and of that up to the comment.
use mathlib.Core.Path.{◌≡◌, ap, ◌∙◌}
use Prim.Native.Nat.{ℕ, ◌+◌, ◌-◌}
use native.Mathlib.Omega.{arith}
use lib.ListN.{length, take, drop, length-drop}
use lib.Seq.{take_all}
use borrow.Author.Rules.{rules}
use Rattle.grammar.specs.TableText.{is_newline, is_hash, until}
use Rattle.text_reader.proofs.TextLines.{is_line}
use Rattle.text_reader.proofs.fields.line_at.Statement.{statement}
use Rattle.text_reader.proofs.fields.line_at.Tie as tie

sub-find : tie.Need-slice_bounds-find-count
sub-find c = search rules

part-find-start : tie.Need-slice_bounds-find-start
part-find-start c = search rules

part-find-end : tie.Need-slice_bounds-find-end
part-find-end c = search rules

find-requires : tie.Need-find-requires
find-requires c κs = search rules

add-end : tie.Need-overflow_add-end
add-end c = search rules

sub-find-2 : tie.Need-slice_bounds-find-count-2
sub-find-2 c = search rules

part-find-start-2 : tie.Need-slice_bounds-find-start-2
part-find-start-2 c = search rules

part-find-end-2 : tie.Need-slice_bounds-find-end-2
part-find-end-2 c = search rules

find-requires-2 : tie.Need-find-requires-2
find-requires-2 c κs = search rules

add-t12 : tie.Need-overflow_add-result
add-t12 c = search rules

add-t13 : tie.Need-overflow_add-result-2
add-t13 c = search rules

returns : tie.Need-returns
returns c =
    let f = c in
    let z = f in
    let t = z.args.text.now in
    let k = z.args.at in
    let rest : take (length t - k) (drop k t) ≡ drop k t = take_all (length t - k) (drop k t) (omega (arith, length-drop k t)) in
    let n = f.find.result in
    let e : k + n - k ≡ n = omega arith in
    is_line t k n c.find-2.result z.requires (f.find.ensures.0 ∙ ap (until is_newline) rest)
    (c.find-2.ensures.0 ∙ ap (λ (j : ℕ). until is_hash (take j (drop k t))) e)

pub line_at_spec : {M : Type 1} → statement M
line_at_spec =
    tie.close
    (tie.spec
    sub-find
    part-find-start
    part-find-end
    find-requires
    add-end
    sub-find-2
    part-find-start-2
    part-find-end-2
    find-requires-2
    add-t12
    add-t13
    returns)
