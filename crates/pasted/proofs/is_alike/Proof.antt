-- is_alike: the second ends differ, the periods differ, or the directions decide.
use mathlib.Core.Path.{◌≡◌, sym, ap₂, ◌∙◌}
use mathlib.Core.Logic.{◌≢◌}
use mathlib.Core.Bool.{Bool, true, false, ◌&&◌}
use Prim.Native.Nat.{ℕ}
use borrow.Author.Rules.{rules}
use lib.Dec.{eqb, eqb→eq}
use Rattle.numbers.proofs.Truth.{is_true, is_false, eqb_of}
use Rattle.pasted.proofs.is_alike.Statement.{statement}
use Rattle.pasted.proofs.is_alike.Tie as tie

-- the numbers x and y of two rows, read as a and b
module _ {a b x y : ℕ} (e : a ≡ x) (f : b ≡ y) where
  unlike : a ≢ b → eqb x y ≡ false
  unlike n = is_false (eqb x y) (λ t. n (e ∙ eqb→eq x y t ∙ sym f))

  like : a ≡ b → eqb x y ≡ true
  like z = is_true (eqb x y) (eqb_of x y (sym e ∙ z ∙ f))

-- of three tests the first fails, the second fails, or the third decides
first_fails : {p : Bool} (q r : Bool) → p ≡ false → false ≡ (p && q && r)
first_fails q r e = rw e

second_fails : {p q : Bool} (r : Bool) → p ≡ true → q ≡ false → false ≡ (p && q && r)
second_fails r d e = rw (d, e)

third_decides : {p q r s : Bool} → p ≡ true → q ≡ true → s ≡ r → s ≡ (p && q && r)
third_decides d e f = rw (d, e, f)

end-at-requires : tie.Need-end_at-requires
end-at-requires c κs = search rules

end-at-requires-2 : tie.Need-end_at-requires-2
end-at-requires-2 c κs = search rules

returns : tie.Need-returns-then-end_at
returns c =
    let d = c in
    first_fails _ _ (unlike d.end_at.ensures d.end_at-2.ensures c.if-end_at.true)

slots-at-requires : tie.Need-slots_at-requires
slots-at-requires c κs = search rules

slots-at-requires-2 : tie.Need-slots_at-requires-2
slots-at-requires-2 c κs = search rules

returns-2 : tie.Need-returns-then-slots_at
returns-2 c =
    let p = c in
    let e = p in
    let d = e in
    second_fails _ (like d.end_at.ensures d.end_at-2.ensures e.if-end_at.false)
    (unlike p.slots_at.ensures p.slots_at-2.ensures c.if-slots_at.true)

end-at-requires-3 : tie.Need-end_at-requires-3
end-at-requires-3 c κs = search rules

end-at-requires-4 : tie.Need-end_at-requires-4
end-at-requires-4 c κs = search rules

returns-3 : tie.Need-returns
returns-3 c =
    let f = c in
    let p = f in
    let e = p in
    let d = e in
    third_decides (like d.end_at.ensures d.end_at-2.ensures e.if-end_at.false)
    (like p.slots_at.ensures p.slots_at-2.ensures f.if-slots_at.false)
    (ap₂ eqb c.end_at-3.ensures c.end_at-4.ensures)

pub is_alike_spec : {M : Type 1} → statement M
is_alike_spec =
    tie.close
    (tie.spec
    end-at-requires
    end-at-requires-2
    returns
    slots-at-requires
    slots-at-requires-2
    returns-2
    end-at-requires-3
    end-at-requires-4
    returns-3)
