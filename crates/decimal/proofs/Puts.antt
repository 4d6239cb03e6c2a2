-- Texts written one after the other.
use mathlib.Core.Path.{◌≡◌, refl, sym, ap, ◌∙◌}
use mathlib.Core.List.{List, [], ◌∷◌, ◌++◌}
use Prim.Native.Nat.{ℕ, suc, ◌+◌, ◌/◌, ◌%◌, ◌^◌, ◌≤◌, ◌<◌}
use native.Mathlib.Nat.{add-zero, pow-suc}
use native.Mathlib.Omega.{arith}
use lib.ListN.{length, set, length-append}
use lib.Seq.{sets, length-sets}
use Rattle.rules.specs.Text.{digit, decimal}
use Rattle.decimal.specs.Puts.{Puts}
use Rattle.decimal.proofs.Decimal.{decimal_one, decimal_more, decimal_short}

sets_append : (l a b : List ℕ) (i : ℕ) → sets (sets l i a) (i + length a) b ≡ sets l i (a ++ b)
sets_append l [] b i = ap (λ (k : ℕ). sets l k b) (add-zero i)
sets_append l (x ∷ a) b i =
    let e : i + suc (length a) ≡ suc i + length a = omega arith in
    ap (λ (k : ℕ). sets (sets (set l i x) (suc i) a) k b) e ∙ sets_append (set l i x) a b (suc i)

pub puts_of : (text was now : List ℕ) (at next : ℕ) → now ≡ sets was at text → next ≡ at + length text → Puts text was at now next
puts_of text was now at next e n = record { holds = e; after = n; same = ap length e ∙ length-sets was at text }

pub puts_none : (was : List ℕ) (at : ℕ) → Puts [] was at was at
puts_none was at = puts_of [] was was at at refl (omega arith)

pub puts_more : {a b was mid now : List ℕ} {at next last : ℕ} → Puts a was at mid next → Puts b mid next now last
    → Puts (a ++ b) was at now last
puts_more {a} {b} {was} {mid} {now} {at} {next} {last} P Q =
    puts_of (a ++ b) was now at last
    (rw (sym (sets_append was a b at), sym P.holds, sym P.after) Q.holds)
    (omega (arith, P.after, Q.after, length-append a b))

-- what is written at one place
pub puts_byte : {was now : List ℕ} {at b next : ℕ} → (now ≡ set was at b) × (next ≡ at + 1) → Puts (b ∷ []) was at now next
puts_byte {was} {now} {at} {b} {next} p = puts_of (b ∷ []) was now at next p.0 p.1

-- ---- a number, digit by digit

module _ {was now : List ℕ} {n at next : ℕ} where
  pub puts_one : n < 10 → Puts (digit n ∷ []) was at now next → Puts (decimal n) was at now next × (next ≤ at + 20)
  puts_one l P = (rw (decimal_one n l) P, omega (arith, P.after))

  pub puts_digit : {mid : List ℕ} {last : ℕ} → 10 ≤ n → n < 10 ^ 20 → Puts (decimal (n / 10)) was at mid next
      → Puts (digit (n % 10) ∷ []) mid next now last → Puts (decimal n) was at now last × (last ≤ at + 20)
  puts_digit {mid} {last} h l P Q =
      let R : Puts (decimal n) was at now last = rw (decimal_more n h) (puts_more P Q) in
      (R, omega (arith, R.after, decimal_short 19 n l))

-- a digit more fits
pub digits_room : (n : ℕ) → 10 ≤ n → n < 10 ^ 20 → length (decimal (n / 10)) < 20
digits_room n h l =
    omega (arith, decimal_short 18 (n / 10) (omega (arith, pow-suc 10 19)))
