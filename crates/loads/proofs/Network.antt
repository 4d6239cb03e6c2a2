-- Laws of networks: one amount changed.
--
--   put f k v    f with v at k
use mathlib.Core.Path.{◌≡◌, refl, ap, ◌∙◌}
use mathlib.Core.Bool.{Bool, cond}
use mathlib.Core.List.{List}
use Prim.Native.Nat.{ℕ, ◌+◌, ◌<◌}
use lib.Dec.{eqb}
use lib.ListN.{length, set}
use lib.Seq.{get_or-set_same, get_or-set_other}
use borrow.Author.Tests.{eq-eqb, ne_eqb}
use Rattle.numbers.specs.Finite.{sum_in, only}
use Rattle.numbers.specs.Lists.{at}
use Rattle.numbers.proofs.Finite.{sum_but, eq_additive}
use Rattle.loads.specs.Network.{Put}

abbrev pub put : (ℕ → ℕ) → ℕ → ℕ → ℕ → ℕ
put f k v w = cond (eqb w k) v (f w)

pub put_is : (f : ℕ → ℕ) (k v : ℕ) → Put f k v (put f k v)
put_is f k v = (rw (eq-eqb k k refl), λ w ne. rw (ne_eqb w k ne))

pub put_set : (l : List ℕ) (k v : ℕ) → k < length l → Put (at l) k v (at (set l k v))
put_set l k v h = (get_or-set_same l k v 0 h, λ w ne. get_or-set_other l k w v 0 ne)

-- the same where the value is known by an equation
pub put_set_is : (l : List ℕ) (k v u : ℕ) → k < length l → v ≡ u → Put (at l) k u (at (set l k v))
put_set_is l k v u h e = (get_or-set_same l k v 0 h ∙ e, λ w ne. get_or-set_other l k w v 0 ne)

pub sum_put : (n : ℕ) (D : ℕ → Bool) (x x' : ℕ → ℕ) (c v : ℕ) → c < n → Put x c v x'
    → sum_in n D x' + only (D c) (x c) ≡ sum_in n D x + only (D c) v
sum_put n D x x' c v l p =
    sum_but (λ a b. a ≡ b) eq_additive n (λ e. only (D e) (x' e)) (λ e. only (D e) (x e)) c l (λ e m ne. ap (only (D e)) (p.1 e ne))
    ∙ ap (λ (u : ℕ). sum_in n D x + only (D c) u) p.0
