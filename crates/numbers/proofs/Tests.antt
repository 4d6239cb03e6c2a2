-- Facts that a computed test decides. On numerals the test evaluates, so that a fact about a table of numerals is shown by `tt`.
--
--   Test A             a test that holds exactly if A does
--   OneOf xs P         some element of the list xs has P
--   EachOf xs P        every element of the list xs has P
use mathlib.Core.Path.{◌≡◌, refl, sym, ap₂, subst}
use mathlib.Core.Logic.{◌⊎◌, inl, inr, ⊎_elim}
use mathlib.Core.List.{List, [], ◌∷◌}
use mathlib.Core.Bool.{Bool, true, false, not, ◌&&◌, ◌||◌, beq}
use Prim.Native.Nat.{ℕ, ◌≤◌, ◌<◌}
use native.Mathlib.Omega.{arith}
use lib.Dec.{T, ltb, leb, eqb, ltb→lt, lt→ltb, leb→le, le→leb, eqb→eq}
use Rattle.numbers.specs.Finite.{any, every}
use Rattle.numbers.proofs.Truth.{both, fst, snd, orl, orr, or_cases, decide, refuted, refutes, eqb_of}
use Rattle.numbers.proofs.Finite.{any_of, least, every_of, every_at}

pub record Test (A : Type 0) : Type 0 where
  pub test : Bool
  pub is : T test → A
  pub of : A → T test

-- ---- numbers and Bools

abbrev pub holds_test : (b : Bool) → Test (T b)
holds_test b = record { test = b; is = λ h. h; of = λ h. h }

abbrev pub lt_test : (a b : ℕ) → Test (a < b)
lt_test a b = record { test = ltb a b; is = λ h. ltb→lt a b h; of = λ h. lt→ltb a b h }

abbrev pub le_test : (a b : ℕ) → Test (a ≤ b)
le_test a b = record { test = leb a b; is = λ h. leb→le a b h; of = λ h. le→leb a b h }

abbrev pub eq_test : (a b : ℕ) → Test (a ≡ b)
eq_test a b = record { test = eqb a b; is = λ h. eqb→eq a b h; of = λ h. eqb_of a b h }

pub beq_is : (a b : Bool) → T (beq a b) → a ≡ b
beq_is true true h = refl
beq_is true false h = absurd h
beq_is false true h = absurd h
beq_is false false h = refl

pub beq_same : (a : Bool) → T (beq a a)
beq_same true = tt
beq_same false = tt

abbrev pub same_test : (a b : Bool) → Test (a ≡ b)
same_test a b = record { test = beq a b; is = λ h. beq_is a b h; of = λ e. subst (λ (c : Bool). T (beq a c)) e (beq_same a) }

-- ---- facts joined

module _ {A : Type 0} (p : Test A) where
  -- the same fact in other words
  abbrev pub as_test : {B : Type 0} → (A → B) → (B → A) → Test B
  as_test f g = record { test = p.test; is = λ h. f (p.is h); of = λ b. p.of (g b) }

  abbrev pub not_test : Test (A → ⊥)
  not_test = record { test = not p.test; is = λ h a. refutes p.test h (p.of a); of = λ f. refuted p.test (λ h. f (p.is h)) }

  module _ {B : Type 0} (q : Test B) where
    abbrev pub and_test : Test (A × B)
    and_test = record {
      test = p.test && q.test;
      is = λ h. (p.is (fst p.test q.test h), q.is (snd p.test q.test h));
      of = λ w. both p.test q.test (p.of w.0) (q.of w.1);
    }

    abbrev pub or_test : Test (A ⊎ B)
    or_test = record {
      test = p.test || q.test;
      is = λ h. ⊎_elim (λ a. inl (p.is a)) (λ b. inr (q.is b)) (or_cases p.test q.test h);
      of = λ w. ⊎_elim (λ a. orl p.test q.test (p.of a)) (λ b. orr p.test q.test (q.of b)) w;
    }

    abbrev pub if_test : Test (A → B)
    if_test = record {
      test = not p.test || q.test;
      is = λ h a. ⊎_elim (λ n. absurd (refutes p.test n (p.of a))) (λ b. q.is b) (or_cases (not p.test) q.test h);
      of = λ f. ⊎_elim
          (λ a. orr (not p.test) q.test (q.of (f (p.is a))))
          (λ n. orl (not p.test) q.test (refuted p.test n)) (decide p.test);
    }

abbrev pub three_test : {A B C : Type 0} → Test A → Test B → Test C → Test (A × B × C)
three_test p q r = as_test (and_test (and_test p q) r) (λ h. (h.0.0, h.0.1, h.1)) (λ w. ((w.0, w.1), w.2))

-- ---- the numbers below n

module _ {A : ℕ → Type 0} (n : ℕ) (p : (i : ℕ) → Test (A i)) where
  abbrev pub every_test : Test ((i : ℕ) → i < n → A i)
  every_test = record {
    test = every n (λ i. (p i).test);
    is = λ h i l. (p i).is (every_at n (λ i. (p i).test) h i l);
    of = λ f. every_of n (λ i. (p i).test) (λ i l. (p i).of (f i l));
  }

  abbrev pub any_test : Test ((i : ℕ) × (i < n) × A i)
  any_test = record {
    test = any n (λ i. (p i).test);
    is = λ h. let r = least n (λ i. (p i).test) h in (r.0, r.1, (p r.0).is r.2);
    of = λ w. any_of n (λ i. (p i).test) w.0 w.1 ((p w.0).of w.2);
  }

-- ---- lists

pub cons_same : (x y : ℕ) (xs ys : List ℕ) → x ∷ xs ≡ y ∷ ys → (x ≡ y) × (xs ≡ ys)
cons_same x y xs ys e = (cc, cc)

pub cons_nil : (x : ℕ) (xs : List ℕ) → x ∷ xs ≡ [] → ⊥
cons_nil x xs e = let z : ◌≡◌ {A = ℕ} 0 1 = cc in omega arith

abbrev pub list_test : (xs ys : List ℕ) → Test (xs ≡ ys)
list_test [] [] = record { test = true; is = λ h. refl; of = λ e. tt }
list_test [] (y ∷ ys) = record { test = false; is = λ h. absurd h; of = λ e. cons_nil y ys (sym e) }
list_test (x ∷ xs) [] = record { test = false; is = λ h. absurd h; of = λ e. cons_nil x xs e }
list_test (x ∷ xs) (y ∷ ys) =
    as_test (and_test (eq_test x y) (list_test xs ys)) (λ h. ap₂ ◌∷◌ h.0 h.1) (λ e. cons_same x y xs ys e)

module _ {X : Type 0} where
  abbrev pub OneOf : List X → (X → Type 0) → Type 0
  OneOf [] P = ⊥
  OneOf (x ∷ xs) P = P x ⊎ OneOf xs P

  abbrev pub EachOf : List X → (X → Type 0) → Type 0
  EachOf [] P = Unit {0}
  EachOf (x ∷ xs) P = P x × EachOf xs P

  abbrev pub one_test : (xs : List X) (P : X → Type 0) → ((x : X) → Test (P x)) → Test (OneOf xs P)
  one_test [] P p = record { test = false; is = λ h. h; of = λ h. h }
  one_test (x ∷ xs) P p = or_test (p x) (one_test xs P p)

  abbrev pub each_test : (xs : List X) (P : X → Type 0) → ((x : X) → Test (P x)) → Test (EachOf xs P)
  each_test [] P p = record { test = true; is = λ h. h; of = λ h. h }
  each_test (x ∷ xs) P p = and_test (p x) (each_test xs P p)

  -- what follows from what one element has, with what every element has
  pub one_out : (xs : List X) {P Q : X → Type 0} {C : Type 0} → ((x : X) → P x → Q x → C) → EachOf xs P → OneOf xs Q → C
  one_out [] f e o = absurd o
  one_out (x ∷ xs) f e o = ⊎_elim (λ q. f x e.0 q) (λ r. one_out xs f e.1 r) o

  pub one_map : (xs : List X) {P Q : X → Type 0} → ((x : X) → P x → Q x) → OneOf xs P → OneOf xs Q
  one_map [] f o = o
  one_map (x ∷ xs) f o = ⊎_elim (λ p. inl (f x p)) (λ r. inr (one_map xs f r)) o
