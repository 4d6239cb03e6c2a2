-- Laws of decimal text: its digits one by one, that it reads back as its number, and that no other plain text does.
use mathlib.Core.Path.{◌≡◌, refl, sym, ap, ◌∙◌}
use mathlib.Core.Logic.{⊎_elim}
use mathlib.Core.List.{List, [], ◌∷◌, ◌++◌, append_assoc, append-nil}
use mathlib.Core.Bool.{true, false}
use Prim.Native.Nat.{ℕ, zero, suc, ◌+◌, ◌-◌, ◌*◌, ◌/◌, ◌%◌, ◌^◌, ◌≤◌, ◌<◌}
use native.Mathlib.Nat.{pow-suc}
use native.Mathlib.Omega.{arith}
use lib.Dec.{ltb, lt→ltb, ltb→lt}
use lib.ListN.{length, length-append}
use Rattle.numbers.proofs.Truth.{is_true, is_false, le_or_lt}
use Rattle.rules.specs.Text.{zero_byte, digit, spell, decimal}
use Rattle.decimal.specs.Plain.{value_from, value, IsDigit, Digits, Plain, none, some}

-- ---- its digits one by one

low : (n : ℕ) → n < 10 → ltb n 10 ≡ true
low n l = is_true (ltb n 10) (lt→ltb n 10 l)

high : (n : ℕ) → 10 ≤ n → ltb n 10 ≡ false
high n l = is_false (ltb n 10) (λ h. let g = ltb→lt n 10 h in let z : ⊥ = omega arith in z)

spell_one : (k n : ℕ) → n < 10 → spell (suc k) n ≡ digit n ∷ []
unfolding spell
spell_one k n l = rw (low n l)

spell_more : (k n : ℕ) → 10 ≤ n → spell (suc k) n ≡ spell k (n / 10) ++ (digit (n % 10) ∷ [])
unfolding spell
spell_more k n l = rw (high n l)

-- more than enough digits are enough
spell_enough : (j k n : ℕ) → n < j → n < k → spell j n ≡ spell k n
spell_enough zero k n l m = absurd (omega arith)
spell_enough (suc j) zero n l m = absurd (omega arith)
spell_enough (suc j) (suc k) n l m =
    ⊎_elim
    (λ (h : 10 ≤ n).
    spell_more j n h ∙ ap (λ (ds : List ℕ). ds ++ (digit (n % 10) ∷ [])) (spell_enough j k (n / 10) (omega arith) (omega arith))
    ∙ sym (spell_more k n h))
    (λ (h : n < 10). spell_one j n h ∙ sym (spell_one k n h))
    (le_or_lt 10 n)

pub decimal_one : (n : ℕ) → n < 10 → decimal n ≡ digit n ∷ []
unfolding decimal
decimal_one n l = spell_one n n l

pub decimal_more : (n : ℕ) → 10 ≤ n → decimal n ≡ decimal (n / 10) ++ (digit (n % 10) ∷ [])
unfolding decimal
decimal_more n l =
    spell_more n n l
    ∙ ap (λ (ds : List ℕ). ds ++ (digit (n % 10) ∷ [])) (spell_enough n (suc (n / 10)) (n / 10) (omega arith) (omega arith))

-- digit e after the text of v
pub decimal_next : (v e : ℕ) → 1 ≤ v → e < 10 → decimal (v * 10 + e) ≡ decimal v ++ (digit e ∷ [])
decimal_next v e l m =
    let q : (v * 10 + e) / 10 ≡ v = omega arith in
    let r : (v * 10 + e) % 10 ≡ e = omega arith in
    rw (decimal_more (v * 10 + e) (omega arith), q, r)

-- a number below 10 to the k has at most k digits
pub decimal_short : (k n : ℕ) → n < 10 ^ suc k → length (decimal n) ≤ suc k
decimal_short zero n l = rw (decimal_one n l) (omega arith)
decimal_short (suc k) n l =
    ⊎_elim
    (λ (h : 10 ≤ n).
    let g : n / 10 < 10 ^ suc k = omega (arith, pow-suc 10 (suc k)) in
    rw (decimal_more n h, length-append (decimal (n / 10)) (digit (n % 10) ∷ [])) (omega (arith, decimal_short k (n / 10) g)))
    (λ (h : n < 10). rw (decimal_one n h) (omega arith))
    (le_or_lt 10 n)

-- ---- read back

pub value_join : (v : ℕ) (xs ys : List ℕ) → value_from v (xs ++ ys) ≡ value_from (value_from v xs) ys
unfolding value_from
value_join v [] ys = refl
value_join v (x ∷ xs) ys = value_join (v * 10 + (x - zero_byte)) xs ys

value_below : (k n : ℕ) → n < k → value (decimal n) ≡ n
unfolding value_from
value_below zero n l = absurd (omega arith)
value_below (suc k) n l =
    ⊎_elim
    (λ (h : 10 ≤ n).
    ap value (decimal_more n h) ∙ value_join 0 (decimal (n / 10)) (digit (n % 10) ∷ [])
    ∙ rw (value_below k (n / 10) (omega arith)) (omega arith))
    (λ (h : n < 10). ap value (decimal_one n h) ∙ omega arith)
    (le_or_lt 10 n)

pub decimal_value : (n : ℕ) → value (decimal n) ≡ n
decimal_value n = value_below (suc n) n (omega arith)

-- ---- plain

digits_last : (ds : List ℕ) (e : ℕ) → e < 10 → Digits ds → Digits (ds ++ (digit e ∷ []))
unfolding Digits
digits_last [] e l h = ((omega arith, omega arith), tt)
digits_last (d ∷ ds) e l h = (h.0, digits_last ds e l h.1)

-- a number above 0 begins with a digit above '0'
first_digit : (k n : ℕ) → n < k → 1 ≤ n
    → (d : ℕ) × (ds : List ℕ) × (decimal n ≡ d ∷ ds) × IsDigit d × (zero_byte < d) × Digits ds
unfolding Digits
first_digit zero n l h = absurd (omega arith)
first_digit (suc k) n l h =
    ⊎_elim
    (λ (m : 10 ≤ n).
    let F = first_digit k (n / 10) (omega arith) (omega arith) in (
      F.0,
      F.1 ++ (digit (n % 10) ∷ []),
      decimal_more n m ∙ ap (λ (ds : List ℕ). ds ++ (digit (n % 10) ∷ [])) F.2,
      F.3,
      F.4,
      digits_last F.1 (n % 10) (omega arith) F.5,
    ))
    (λ (m : n < 10). (digit n, [], decimal_one n m, (omega arith, omega arith), omega arith, tt))
    (le_or_lt 10 n)

pub decimal_plain : (n : ℕ) → Plain (decimal n)
decimal_plain zero = rw (decimal_one 0 (omega arith)) none
decimal_plain (suc n) =
    let F = first_digit (suc (suc n)) (suc n) (omega arith) (omega arith) in
    rw F.2 (some F.0 F.1 F.3 F.4 F.5)

-- ---- no other plain text

digits_from : (v : ℕ) (ds : List ℕ) → 1 ≤ v → Digits ds → decimal (value_from v ds) ≡ decimal v ++ ds
unfolding value_from Digits
digits_from v [] l h = sym (append-nil (decimal v))
digits_from v (d ∷ ds) l h =
    let e : digit (d - zero_byte) ≡ d = omega (arith, h.0) in
    digits_from (v * 10 + (d - zero_byte)) ds (omega arith) h.1
    ∙ ap (λ (xs : List ℕ). xs ++ ds) (decimal_next v (d - zero_byte) l (omega (arith, h.0)))
    ∙ append_assoc (decimal v) (digit (d - zero_byte) ∷ []) ds
    ∙ ap (λ (x : ℕ). decimal v ++ (x ∷ ds)) e

pub plain_only : (ds : List ℕ) → Plain ds → ds ≡ decimal (value ds)
unfolding value_from
plain_only ds none = sym (decimal_one 0 (omega arith))
plain_only ds (some d es h l m) =
    let v : 0 * 10 + (d - zero_byte) ≡ d - zero_byte = omega arith in
    let e : digit (d - zero_byte) ≡ d = omega (arith, h.0) in
    sym (ap (λ (x : ℕ). decimal (value_from x es)) v ∙ digits_from (d - zero_byte) es (omega arith) m
    ∙ ap (λ (xs : List ℕ). xs ++ es) (decimal_one (d - zero_byte) (omega arith)) ∙ ap (λ (x : ℕ). x ∷ es) e)
