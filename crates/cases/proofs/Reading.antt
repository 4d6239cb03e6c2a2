-- Laws of what the reader finds: a digit more, a number ended, and the numbers in the rest of a text.
--
--   Front text was i o x out k    the first i bytes are read: their numbers stand in out, k of them, and x is open if o says so
use mathlib.Core.Path.{◌≡◌, refl, sym, ap, ◌∙◌}
use mathlib.Core.Logic.{⊎_elim}
use mathlib.Core.List.{List, [], ◌++◌, append_assoc}
use mathlib.Core.Bool.{Bool, true, false, not, ◌&&◌}
use Prim.Native.Nat.{ℕ, ◌+◌, ◌≤◌, ◌<◌}
use native.Mathlib.Omega.{arith}
use lib.ListN.{length, drop, drop_of_length-le}
use Rattle.numbers.specs.Lists.{at}
use Rattle.numbers.proofs.Lists.{drop_next}
use Rattle.numbers.proofs.Truth.{le_or_lt}
use Rattle.decimal.specs.Puts.{Puts}
use Rattle.decimal.proofs.Puts.{puts_none, puts_more}
use Rattle.cases.specs.Reading.{FoundAt, is_digit, grown, ended, numbers_from, numbers_in}

-- ---- one number

pub ended_few : (e : Bool) (x : ℕ) → length (ended e x) ≤ 1
unfolding ended
ended_few true x = omega arith
ended_few false x = omega arith

-- no number ends where a digit follows, and an open one does where none does
not_ended : (o : Bool) (x : ℕ) → ended (o && false) x ≡ []
unfolding ended
not_ended true x = refl
not_ended false x = refl

now_ended : (o : Bool) → (o && true) ≡ o
now_ended true = refl
now_ended false = refl

not_grown : (b x : ℕ) → is_digit b ≡ false → grown x b ≡ 0
unfolding grown
not_grown b x e = rw e

-- ---- the numbers in the rest of a text

pub record Front (text was : List ℕ) (i : ℕ) (o : Bool) (x : ℕ) (out : List ℕ) (k : ℕ) : Type 0 where
  pub low : i ≤ length text
  pub few : k ≤ i
  pub read : List ℕ
  pub puts : Puts read was 0 out k
  pub rest : read ++ numbers_from o x (drop i text) ≡ numbers_in text

module _ {text was out : List ℕ} {i x k : ℕ} {o : Bool} (F : Front text was i o x out k) where
  front_next : {now : List ℕ} {next : ℕ} → i < length text → Puts (ended (o && not (is_digit (at text i))) x) out k now next
      → Front text was (i + 1) (is_digit (at text i)) (grown x (at text i)) now next
  unfolding numbers_from
  front_next l P = record {
    low = omega arith;
    few = omega (arith, P.after, F.few, ended_few (o && not (is_digit (at text i))) x);
    read = F.read ++ ended (o && not (is_digit (at text i))) x;
    puts = puts_more F.puts P;
    rest = append_assoc F.read (ended (o && not (is_digit (at text i))) x) _ ∙ ap (λ (ys : List ℕ). F.read ++ ys) (sym step) ∙ F.rest;
  }
    where
      step : numbers_from o x (drop i text)
          ≡ ended (o && not (is_digit (at text i))) x ++ numbers_from (is_digit (at text i)) (grown x (at text i)) (drop (i + 1) text)
      step = rw (drop_next text i l)

  pub front_digit : i < length text → true ≡ is_digit (at text i) → Front text was (i + 1) true (grown x (at text i)) out k
  front_digit l d =
      let e = sym d in
      rw e at (front_next {now = out} {next = k} l (rw (e, not_ended o x) (puts_none out k)))

  pub front_other : {now : List ℕ} {next : ℕ} → i < length text → false ≡ is_digit (at text i) → Puts (ended o x) out k now next
      → Front text was (i + 1) false 0 now next
  front_other {now} {next} l d P =
      let e = sym d in
      rw (e, not_grown (at text i) x e) at (front_next {now = now} {next = next} l (rw (e, now_ended o) P))

  pub front_end : {now : List ℕ} {next : ℕ} → length text ≤ i → Puts (ended o x) out k now next → Puts (numbers_in text) was 0 now next
  unfolding numbers_from
  front_end l P =
      let e : F.read ++ ended o x ≡ numbers_in text = rw (drop_of_length-le text l) at F.rest in
      rw e at (puts_more F.puts P)

-- ---- only one place fits

-- a place where the byte stands is not before another first place
not_before : {text : List ℕ} {from byte m n : ℕ} → FoundAt text from byte m → FoundAt text from byte n → n ≤ m
not_before {text} {from} {byte} {m} {n} A B =
    ⊎_elim (λ (l : n ≤ m). l)
    (λ (l : m < n). absurd (B.none m (omega (arith, A.low, B.high)) l (A.there (omega (arith, B.high)))))
    (le_or_lt n m)

pub found_only : {text : List ℕ} {from byte m n : ℕ} → FoundAt text from byte m → FoundAt text from byte n → m ≡ n
found_only A B = omega (arith, not_before A B, not_before B A)
