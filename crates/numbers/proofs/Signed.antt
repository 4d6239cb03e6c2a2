-- The difference a − b of two natural numbers, as an integer: its sign, how differences compare and add up, and how they are rounded.
use mathlib.Core.Path.{◌≡◌, refl, sym, ap, ap₂, ◌∙◌, subst}
use mathlib.Core.Logic.{◌↔◌}
use mathlib.Core.Bool.{Bool, true, false, cond}
use Prim.Native.Nat.{ℕ, zero, suc, ◌+◌, ◌-◌, ◌*◌, ◌≤◌, ◌<◌}
use native.Mathlib.Nat.{add-zero}
use native.Mathlib.Decide.{dec_le}
use native.Mathlib.Omega.{arith}
use borrow.Author.Tests.{ltb-true, ltb-false, le-ltb}
use lib.Dec.{ltb, lt→ltb, ltb→lt, le→leb, leb→le}
use lib.IntN.{ℤ, pos, negsuc, neg_ℤ, sub_ℕ, ◌+ℤ◌, ◌-ℤ◌, +ℤ_assoc, +ℤ_comm, +ℤ_idr, neg_ℤ-+ℤ, pos-+ℤ-pos}
use lib.Signed.{mag, ◌≤ℤ◌, ◌<ℤ◌}
use Rattle.numbers.specs.Finite.{only, sum, sum_in}
use Rattle.numbers.specs.Rounding.{Rounded}
use Rattle.numbers.specs.Signed.{sum_inℤ, Roundedℤ}
use Rattle.numbers.proofs.Rounding.{rounded_is, rounded_of}

diff : (a b : ℕ) → pos a -ℤ pos b ≡ sub_ℕ a b
diff a zero = ap₂ (λ (t : Bool) (x : ℕ). cond t (negsuc (0 - suc a)) (pos x)) (sym (le-ltb a 0 (omega arith))) (omega arith)
diff a (suc b) = refl

-- what holds of a − b where that is negative, and where it is not, holds of it
pub by_sign : (P : ℤ → Type 0) (a b : ℕ) → (a < b → P (negsuc (b - suc a))) → (b ≤ a → P (pos (a - b))) → P (pos a -ℤ pos b)
by_sign P a b f g = subst P (sym (diff a b)) (go (ltb a b) refl)
  where
    go : (t : Bool) → ltb a b ≡ t → P (cond t (negsuc (b - suc a)) (pos (a - b)))
    go true e = f (ltb-true a b e)
    go false e = g (ltb-false a b e)

pub diff_mag : (a b h : ℕ) → a < h → b < h → mag (pos a -ℤ pos b) < h
diff_mag a b h ha hb = by_sign (λ (z : ℤ). mag z < h) a b (λ l. omega arith) (λ l. omega arith)

-- a − b < h
pub diff_below : (a b h : ℕ) → a < b + h → (pos a -ℤ pos b) <ℤ pos h
diff_below a b h lt =
    by_sign (λ (z : ℤ). z <ℤ pos h) a b (λ l. record { lt = tt }) (λ l. record { lt = lt→ltb (a - b) h (omega arith) })

-- −h < a − b
pub diff_above : (a b h : ℕ) → b < a + h → neg_ℤ (pos h) <ℤ (pos a -ℤ pos b)
diff_above a b zero lt =
    by_sign (λ (z : ℤ). pos 0 <ℤ z) a b (λ l. absurd (omega arith)) (λ l. record { lt = lt→ltb 0 (a - b) (omega arith) })
diff_above a b (suc h) lt =
    by_sign (λ (z : ℤ). negsuc h <ℤ z) a b (λ l. record { lt = lt→ltb (b - suc a) h (omega arith) }) (λ l. record { lt = tt })

-- ---- how differences compare

pub diff_lt : (a b c d : ℕ) → ((pos a -ℤ pos b) <ℤ (pos c -ℤ pos d)) ↔ (a + d < c + b)
diff_lt a b c d =
    by_sign (λ (z : ℤ). (z <ℤ (pos c -ℤ pos d)) ↔ (a + d < c + b)) a b
    (λ l. by_sign (λ (w : ℤ). (negsuc (b - suc a) <ℤ w) ↔ (a + d < c + b)) c d
    (λ m. (λ h. omega (arith, ltb→lt (d - suc c) (b - suc a) h.lt), λ h. record { lt = lt→ltb (d - suc c) (b - suc a) (omega arith) }))
    (λ m. (λ h. omega arith, λ h. record { lt = tt })))
    (λ l. by_sign (λ (w : ℤ). (pos (a - b) <ℤ w) ↔ (a + d < c + b)) c d
    (λ m. (λ h. absurd h.lt, λ h. absurd (omega arith)))
    (λ m. (λ h. omega (arith, ltb→lt (a - b) (c - d) h.lt), λ h. record { lt = lt→ltb (a - b) (c - d) (omega arith) })))

pub diff_le : (a b c d : ℕ) → ((pos a -ℤ pos b) ≤ℤ (pos c -ℤ pos d)) ↔ (a + d ≤ c + b)
diff_le a b c d =
    by_sign (λ (z : ℤ). (z ≤ℤ (pos c -ℤ pos d)) ↔ (a + d ≤ c + b)) a b
    (λ l. by_sign (λ (w : ℤ). (negsuc (b - suc a) ≤ℤ w) ↔ (a + d ≤ c + b)) c d
    (λ m. (λ h. omega (arith, leb→le (d - suc c) (b - suc a) h.le), λ h. record { le = le→leb (d - suc c) (b - suc a) (omega arith) }))
    (λ m. (λ h. omega arith, λ h. record { le = tt })))
    (λ l. by_sign (λ (w : ℤ). (pos (a - b) ≤ℤ w) ↔ (a + d ≤ c + b)) c d
    (λ m. (λ h. absurd h.le, λ h. absurd (omega arith)))
    (λ m. (λ h. omega (arith, leb→le (a - b) (c - d) h.le), λ h. record { le = le→leb (a - b) (c - d) (omega arith) })))

-- a − 0
less_none : (a : ℕ) → pos a -ℤ pos 0 ≡ pos a
less_none a = ap pos (add-zero a)

-- ---- how they are rounded: a − m × b over b, and a over b

pub rounded_diff : (n m a b : ℕ) → 0 < b → Roundedℤ n (pos a -ℤ pos (m * b)) b ↔ Rounded (m + n) a b
rounded_diff n m a b pos-b = (λ r. is r, λ r. of (rounded_is a b pos-b (m + n) r) (dec_le ((m + n) * b) a))
  where
    z : ℤ
    z = pos a -ℤ pos (m * b)

    is : Roundedℤ n z b → Rounded (m + n) a b
    is (Roundedℤ.down h k) =
        let u = (diff_le (n * b) 0 a (m * b)).0 (rw (less_none (n * b)) h) in
        let v = (diff_lt a (m * b) (n * b + b) 0).0 (rw (less_none (n * b + b)) k) in
        rounded_of a b pos-b (m + n) (omega arith) (omega arith)
    is (Roundedℤ.up h k) =
        let u = (diff_lt (n * b) b a (m * b)).0 h in
        let v = (diff_le a (m * b) (n * b) 0).0 (rw (less_none (n * b)) k) in
        rounded_of a b pos-b (m + n) (omega arith) (omega arith)

    of : (a < (m + n + 1) * b) × ((m + n) * b < a + b) → Dec ((m + n) * b ≤ a) → Roundedℤ n z b
    of r (yes l) =
        Roundedℤ.down
        (rw (less_none (n * b)) at ((diff_le (n * b) 0 a (m * b)).1 (omega arith)))
        (rw (less_none (n * b + b)) at ((diff_lt a (m * b) (n * b + b) 0).1 (omega (arith, r.0))))
    of r (no f) =
        let l : ¬ ((m + n) * b ≤ a) = f in
        Roundedℤ.up
        ((diff_lt (n * b) b a (m * b)).1 (omega (arith, r.1)))
        (rw (less_none (n * b)) at ((diff_le a (m * b) (n * b) 0).1 (omega arith)))

-- ---- how they add up

pub diff_add : (a b c d : ℕ) → (pos a -ℤ pos b) +ℤ (pos c -ℤ pos d) ≡ pos (a + c) -ℤ pos (b + d)
diff_add a b c d =
    +ℤ_assoc (pos a) (neg_ℤ (pos b)) (pos c -ℤ pos d)
    ∙ ap (λ (z : ℤ). pos a +ℤ z)
    (sym (+ℤ_assoc (neg_ℤ (pos b)) (pos c) (neg_ℤ (pos d)))
    ∙ ap (λ (z : ℤ). z +ℤ neg_ℤ (pos d)) (+ℤ_comm (neg_ℤ (pos b)) (pos c))
    ∙ +ℤ_assoc (pos c) (neg_ℤ (pos b)) (neg_ℤ (pos d)))
    ∙ sym (+ℤ_assoc (pos a) (pos c) (neg_ℤ (pos b) +ℤ neg_ℤ (pos d)))
    ∙ ap₂ ◌+ℤ◌ (pos-+ℤ-pos a c) (sym (neg_ℤ-+ℤ (pos b) (pos d)) ∙ ap neg_ℤ (pos-+ℤ-pos b d))

pub sum_diff : (n : ℕ) (D : ℕ → Bool) (f g : ℕ → ℕ) → sum_inℤ n D (λ i. pos (f i) -ℤ pos (g i)) ≡ pos (sum_in n D f) -ℤ pos (sum_in n D g)
unfolding sum_inℤ sum only
sum_diff zero D f g = refl
sum_diff (suc n) D f g =
    ap (λ (z : ℤ). z +ℤ cond (D n) (pos (f n) -ℤ pos (g n)) (pos 0)) (sum_diff n D f g) ∙ go (sum_in n D f) (sum_in n D g) (D n)
  where
    go : (p q : ℕ) (b : Bool)
        → (pos p -ℤ pos q) +ℤ cond b (pos (f n) -ℤ pos (g n)) (pos 0) ≡ pos (p + only b (f n)) -ℤ pos (q + only b (g n))
    go p q true = diff_add p q (f n) (g n)
    go p q false = +ℤ_idr (pos p -ℤ pos q) ∙ ap₂ (λ (a b : ℕ). pos a -ℤ pos b) (sym (add-zero p)) (sym (add-zero q))
