-- Digits read one after the other, and what is refused of a field.
--
--   Summed ds i x        the first i of the bytes ds are digits, and show x, or more where x is 65,536
use mathlib.Core.Path.{◌≡◌, refl, ap, ◌∙◌}
use mathlib.Core.List.{List, [], ◌∷◌, ◌++◌}
use Prim.Native.Nat.{ℕ, zero, suc, ◌+◌, ◌-◌, ◌*◌, ◌≤◌, ◌<◌, min}
use native.Mathlib.Omega.{arith}
use lib.ListN.{length, take}
use lib.Seq.{take_all}
use Rattle.numbers.specs.Lists.{at}
use Rattle.numbers.proofs.Lists.{take_next}
use Rattle.rules.specs.Text.{zero_byte}
use Rattle.rules.proofs.Answers.{applied, passed, done}
use Rattle.decimal.specs.Plain.{value_from, value, IsDigit, Digits}
use Rattle.decimal.proofs.Decimal.{value_join}
use Rattle.grammar.specs.TableText.{Part, part, max_number, no_number, large_number}
use Rattle.std.specs.Prelude.{Ok, Err}
use Rattle.text_reader.specs.declared.faults.Wrong.TheVariants.{NoNumber, LargeNumber}
use Rattle.text_reader.specs.Walk.{IsCell}

pub digits_at : (ds : List ℕ) (i : ℕ) → Digits ds → i < length ds → IsDigit (at ds i)
unfolding Digits
digits_at [] i h l = absurd (let z : ⊥ = omega arith in z)
digits_at (d ∷ ds) zero h l = h.0
digits_at (d ∷ ds) (suc i) h l = digits_at ds i h.1 (omega arith)

digits_more : (ds : List ℕ) (d : ℕ) → Digits ds → IsDigit d → Digits (ds ++ (d ∷ []))
unfolding Digits
digits_more [] d h g = (g, tt)
digits_more (e ∷ ds) d h g = (h.0, digits_more ds d h.1 g)

value_more : (ds : List ℕ) (d : ℕ) → value (ds ++ (d ∷ [])) ≡ value ds * 10 + (d - zero_byte)
unfolding value_from
value_more ds d = value_join 0 ds (d ∷ [])

pub record Summed (ds : List ℕ) (i x : ℕ) : Type 0 where
  pub inside : i ≤ length ds
  pub digits : Digits (take i ds)
  pub sum : x ≡ min (value (take i ds)) (max_number + 1)

pub summed_start : (ds : List ℕ) → Summed ds 0 0
unfolding Digits value_from
summed_start ds = record { inside = omega arith; digits = tt; sum = refl }

pub summed_next : {ds : List ℕ} {i x : ℕ} → Summed ds i x → (y : ℕ) → i < length ds → IsDigit (at ds i)
    → y ≡ min (x * 10 + (at ds i - zero_byte)) (max_number + 1) → Summed ds (i + 1) y
summed_next {ds} {i} {x} s y l h e =
    let more : take (i + 1) ds ≡ take i ds ++ (at ds i ∷ []) = take_next ds i l in
    let v : value (take (i + 1) ds) ≡ value (take i ds) * 10 + (at ds i - zero_byte) = ap value more ∙ value_more (take i ds) (at ds i) in
    record { inside = omega arith; digits = rw more (digits_more (take i ds) (at ds i) s.digits h); sum = omega (arith, e, v, s.sum) }

-- ---- what is refused of a field that starts at place k

module _ (k : ℕ) {ds : List ℕ} {i x : ℕ} (s : Summed ds i x) where
  abbrev q : Part
  q = part k ds

  pub cell_word : i < length ds → (IsDigit (at ds i) → ⊥) → IsCell q (Err (record { wrong = NoNumber; place = k }))
  cell_word l h = record {
    answers = applied (no_number q) (large_number q ∷ []) 34 k (λ d. h (digits_at ds i d l)) refl refl;
    value = tt;
  }

  module _ (all : length ds ≤ i) where
    whole : take i ds ≡ ds
    whole = take_all i ds all

    passes : ((no_number q).applies → ⊥)
    passes h = h (rw whole at s.digits)

    sum : x ≡ min (value ds) (max_number + 1)
    sum = s.sum ∙ ap (λ (es : List ℕ). min (value es) (max_number + 1)) whole

    pub cell_large : max_number < x → IsCell q (Err (record { wrong = LargeNumber; place = k }))
    cell_large l = record {
      answers =
          passed (no_number q) (large_number q ∷ []) 35 k passes
          (applied (large_number q) [] 35 k (omega (arith, sum, l)) refl refl);
      value = tt;
    }

    pub cell_value : x ≤ max_number → IsCell q (Ok x)
    cell_value l = record {
      answers =
          passed (no_number q) (large_number q ∷ []) 0 0 passes
          (passed (large_number q) [] 0 0 (λ (g : max_number < value ds). let w : ⊥ = omega (arith, sum, l) in w) done);
      value = omega (arith, sum, l);
    }
