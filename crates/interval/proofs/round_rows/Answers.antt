-- `round_rows` has chosen on the rings that it has passed.
use Rattle.std.proofs.Common.{◌≡◌, Bool, ◌&&◌, ℕ, ◌<◌, eqb, ltb, refl, sym, ap, ◌∙◌, arith}
use native.Mathlib.Decide.{dec_lt}
use borrow.Author.Tests.{lt-ltb}
use Rattle.numbers.specs.Finite.{only}
use Rattle.numbers.specs.Word.{bit}
use Rattle.numbers.proofs.Finite.{only_zero}
use Rattle.loads.specs.Loads.{digit, among}
use Rattle.interval.specs.Taken.{Uneven}
use Rattle.interval.specs.Rings.{on_ring, ring_count}
use Rattle.interval.proofs.Product.{greatest_parts, rings_few, chosen_next, chosen_end}
use Rattle.interval.proofs.round_rows.Goals as goal

-- of the rows on ring d that have a part the parts are all of the ring's
own : (n upper parted d rows : ℕ) (part : ℕ → ℕ) → Uneven n part parted
    → ((i : ℕ) → bit rows i ≡ (bit parted i && eqb (digit upper i) d)) → (i : ℕ) → i < n → among rows part i ≡ on_ring d upper part i
own n upper parted d rows part U here i l =
    ap (λ (b : Bool). only b (part i)) (here i ∙ ap (λ (b : Bool). b && on) (U i)
    ∙ ap (λ (b : Bool). (b && ltb 0 (part i)) && on) (lt-ltb i n l))
    ∙ go (part i) (dec_lt 0 (part i))
  where
    on : Bool
    on = eqb (digit upper i) d

    go : (x : ℕ) → Dec (0 < x) → only (ltb 0 x && on) x ≡ only on x
    go x (yes p) = rw (lt-ltb 0 x p) refl
    go x (no p) = let z : x ≡ 0 = omega arith in rw z (only_zero (ltb 0 0 && on) ∙ sym (only_zero on))

pub loop-d-preserved : goal.loop-d-preserved
loop-d-preserved c =
    let u = c.loop-d in
    chosen_next _ _ _ _ _ _ _ c.requires.1.some u.d u.rounded c.choose-rounded.result
    (rings_few c.args.upper u.d (rw c.ring_count-rings.ensures at c.loop-d-test.true)) u.invariant
    (greatest_parts _ _ _ _ _ _ _ (digit c.choose-rounded.result) (own _ _ _ _ _ _ c.requires.2 c.on_ring-rows.ensures)
    c.choose-rounded.ensures)

pub returns : goal.returns
returns c =
    let u = c.loop-d in
    let e : u.d ≡ ring_count c.args.upper = omega (arith, c.ring_count-rings.ensures) in
    chosen_end _ _ _ _ _ _ _ c.requires.1.some u.d _ e u.invariant
