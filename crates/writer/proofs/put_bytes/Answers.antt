-- put_bytes: six bytes, put in four steps.
use Rattle.std.proofs.Common.{◌≡◌, List, [], ◌∷◌, ◌++◌, ℕ, ◌+◌, set, ap, ◌∙◌}
use native.Mathlib.Numerals.{towards_suc}
use lib.Seq.{sets}
use Rattle.numbers.specs.Codec.{write_low}
use Rattle.rules.specs.TableFile.{write16}
use Rattle.writer.proofs.put_bytes.Goals as goal

six : (l : List ℕ) (k cost period x y : ℕ)
    → set (set (sets (sets l k (write16 cost)) (k + 2) (write16 period)) (k + 4) x) (k + 5) y
    ≡ sets l k (write16 cost ++ write16 period ++ (x ∷ y ∷ []))
six l k cost period x y = simp towards_suc

pub returns : goal.returns
unfolding write_low
returns c =
    let a = c.args in
    let e : c.put16.new.out ≡ sets a.out.now a.at (write16 a.row.cost) = c.put16.ensures in
    let f : c.put16-2.new.out ≡ sets c.put16.new.out (a.at + 2) (write16 a.row.period) = c.put16-2.ensures in
    ap (λ (l : List ℕ). set (set l (a.at + 4) a.row.first) (a.at + 5) a.row.second)
    (f ∙ ap (λ (l : List ℕ). sets l (a.at + 2) (write16 a.row.period)) e)
    ∙ six a.out.now a.at a.row.cost a.row.period a.row.first a.row.second
