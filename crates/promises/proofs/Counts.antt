-- In how many slots a row moves, where words are joined and where they are repeated.
use mathlib.Core.Path.{◌≡◌, sym, ap, ◌∙◌}
use mathlib.Core.List.{List, ◌++◌}
use Prim.Native.Nat.{ℕ, ◌+◌, ◌-◌, ◌*◌, ◌/◌, ◌%◌, ◌≤◌, ◌<◌}
use native.Mathlib.Nat.{mod-eq_of_lt, add-mul-mod_self_right, mod-add-div', mod-lt, mul-le-mul_right}
use native.Mathlib.Omega.{arith}
use lib.ListN.{length, get_or-append}
use lib.Seq.{get_or-append-add}
use Rattle.numbers.specs.Finite.{count}
use Rattle.numbers.specs.Word.{bit}
use Rattle.numbers.proofs.Finite.{count_eq, count_split}
use Rattle.numbers.proofs.Lists.{at_append_right}
use Rattle.rules.specs.Interval.{moves}

-- ---- joined words

module _ (vs ws : List ℕ) (i : ℕ) where
  pub moves_left : (s : ℕ) → s < length vs → moves (vs ++ ws) i s ≡ moves vs i s
  moves_left s l = ap (λ (w : ℕ). bit w i) (get_or-append vs ws 0 s l)

  pub moves_right : (s : ℕ) → length vs ≤ s → moves (vs ++ ws) i s ≡ moves ws i (s - length vs)
  moves_right s l = ap (λ (w : ℕ). bit w i) (at_append_right vs ws s l)

  pub count_left : (m : ℕ) → m ≤ length vs → count m (moves (vs ++ ws) i) ≡ count m (moves vs i)
  count_left m l = count_eq m (moves (vs ++ ws) i) (moves vs i) (λ s k. moves_left s (omega arith))

  pub count_joined : (l : ℕ) → count (length vs + l) (moves (vs ++ ws) i) ≡ count (length vs) (moves vs i) + count l (moves ws i)
  count_joined l =
      omega (
        arith,
        count_split (length vs) l (moves (vs ++ ws) i),
        count_left (length vs) (omega arith),
        count_eq l (λ s. moves (vs ++ ws) i (length vs + s)) (moves ws i) (λ s k. ap (λ (w : ℕ). bit w i) (get_or-append-add vs ws s 0)),
      )

-- ---- repeated words

-- In words of q × p slots, repeated for ever, stretch j of p slots is one of the first q.
pub stretch_of : (p q j s : ℕ) → 0 < q → s < p → (j * p + s) % (q * p) ≡ j % q * p + s
stretch_of p q j s pos l =
    let e : j * p ≡ (j % q + j / q * q) * p = ap (λ (k : ℕ). k * p) (sym (mod-add-div' j q)) in
    let first : (j % q + 1) * p ≤ q * p = mul-le-mul_right p (omega (arith, mod-lt j pos)) in
    let whole : j * p + s ≡ j % q * p + s + j / q * (q * p) = omega arith in
    ap (λ (k : ℕ). k % (q * p)) whole ∙ add-mul-mod_self_right (j % q * p + s) (j / q) (q * p) ∙ mod-eq_of_lt (omega arith)
