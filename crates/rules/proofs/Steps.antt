-- The planner's steps by tests that compute: a step's outcomes are the loads that qualify, with their words. A row's load is one of two
-- numbers, so that there are finitely many to try.
--
--   Same n x y             x and y are the same on the rows below n
--   Summed t k had x D    the sum of the loads x over a set D is as it has to be
--   chosen t k had c i     row i's load for interval k: up to its share rounded up where c has bit i, else rounded down
--   Outcome                loads, and words
--   Outcomes t k had outs  outs are the loads that qualify in interval k, with their words, for rows that have had `had` slots already
--   Best t k had outs o    o is one of these outcomes, and no other is greater
--   At n q s had           the planner q is at stage s and its n rows have had `had` slots
use mathlib.Core.Path.{◌≡◌, refl, sym, ap, ap₂, ◌∙◌, subst}
use mathlib.Core.Logic.{◌⊎◌, inl, inr}
use mathlib.Core.List.{List, ◌++◌}
use mathlib.Core.Bool.{Bool, true, false, cond, ◌&&◌}
use Prim.Native.Nat.{ℕ, ◌+◌, ◌-◌, ◌*◌, ◌^◌, ◌≤◌, ◌<◌}
use native.Mathlib.Omega.{arith}
use lib.Dec.{T, ltb, eqb, eqb→eq, lt→ltb}
use lib.IntN.{pos, ◌-ℤ◌}
use lib.ListN.{length, get_or-eq_default}
use Rattle.numbers.specs.Finite.{sum_in, count}
use Rattle.numbers.specs.Word.{bit, word}
use Rattle.numbers.specs.Lists.{at}
use Rattle.numbers.specs.Rounding.{down, up, Rounded}
use Rattle.numbers.proofs.Truth.{both, snd, along, eqb_of}
use Rattle.numbers.proofs.Finite.{sum_in_eq}
use Rattle.numbers.proofs.Word.{bit_word, word_lt, bit_lt, lt_of_bits}
use Rattle.rules.specs.Bus.{Table, overlap}
use Rattle.rules.specs.Line.{OverlapSet, Sets, line_first}
use Rattle.rules.specs.Loads.{hyperperiod, start, end, share}
use Rattle.rules.specs.Interval.{Qualify, Greatest, free, moves, SlotWords}
use Rattle.rules.specs.Planner.{Stage, due, Planner, reached, standing, next, Step, Run}
use Rattle.numbers.proofs.Tests.{
  Test,
  lt_test,
  le_test,
  eq_test,
  same_test,
  as_test,
  and_test,
  three_test,
  or_test,
  if_test,
  every_test,
  one_test,
  each_test,
  OneOf,
  EachOf,
  one_out,
  one_map,
}
use Rattle.rules.proofs.Sets.{set_in}
use Rattle.rules.proofs.Interval.{moves_lt, words_only}
use Rattle.rules.proofs.Plans.{greatest_only, run_none, run_more}

abbrev pub Same : ℕ → (ℕ → ℕ) → (ℕ → ℕ) → Type 0
Same n x y = (i : ℕ) → i < n → x i ≡ y i

-- ---- the words of an interval

module _ (n : ℕ) (o : ℕ → ℕ → Bool) (f x : ℕ → ℕ) (l : ℕ) (ws : List ℕ) where
  pub words_below : SlotWords n o f x l ws → (s : ℕ) → at ws s < 2 ^ n
  words_below W s = lt_of_bits n (at ws s) (λ i a m. omega (arith, W.rows i s m))

  abbrev pub words_test : Test (SlotWords n o f x l ws)
  words_test =
      as_test (three_test
      (eq_test (length ws) l)
      (every_test (length ws) (λ s. lt_test (at ws s) (2 ^ n)))
      (every_test n (λ i. every_test l (λ s.
      same_test (moves ws i s) (free n o f (moves ws) i s && ltb (count s (free n o f (moves ws) i)) (x i))))))
      (λ h. record {
        size = h.0;
        rows = λ i s m. bit_lt n (at ws s) i (h.1 s (moves_lt ws i s m)) m;
        earliest = λ i s a b. h.2 i a s b;
      })
      (λ W. (W.size, (λ s a. words_below W s), (λ i a s b. W.earliest i s a b)))

-- ---- the loads that qualify

abbrev pub rounded_test : (n a b : ℕ) → Test (Rounded n a b)
unfolding Rounded
rounded_test n a b = or_test (eq_test n (down a b)) (eq_test n (up a b))

module _ (t : Table) (k : ℕ) where
  -- only what the rows of the table have had and take counts
  pub qualify_same : (had had' x y : ℕ → ℕ) → Same t.rows had had' → Same t.rows x y → Qualify t k had x → Qualify t k had' y
  qualify_same had had' x y d e Q = record {
    rows = λ i l. subst (λ (z : ℕ). Rounded z (share t i (end t k)) (hyperperiod t)) (ap₂ ◌+◌ (d i l) (e i l)) (Q.rows i l);
    sets = λ D S. subst (λ (z : ℕ). Rounded z (sum_in t.rows D (λ i. share t i (end t k))) (hyperperiod t))
        (ap₂ ◌+◌ (sum_same D had had' d) (sum_same D x y e)) (Q.sets D S);
    fits = λ D S. subst (λ (z : ℕ). z ≤ end t k - start t k) (sum_same D x y e) (Q.fits D S);
  }
    where
      sum_same : (D : ℕ → Bool) (g h : ℕ → ℕ) → Same t.rows g h → sum_in t.rows D g ≡ sum_in t.rows D h
      sum_same D g h s = sum_in_eq t.rows D D g h (λ i l. refl) (λ i l m. s i l)

  -- what loads have to be over a set of rows
  abbrev pub Summed : (had x : ℕ → ℕ) (D : ℕ → Bool) → Type 0
  Summed had x D =
      Rounded (sum_in t.rows D had + sum_in t.rows D x) (sum_in t.rows D (λ i. share t i (end t k))) (hyperperiod t)
      × (sum_in t.rows D x ≤ end t k - start t k)

  abbrev pub summed_test : (had x : ℕ → ℕ) (D : ℕ → Bool) → Test (Summed had x D)
  summed_test had x D =
      and_test
      (rounded_test (sum_in t.rows D had + sum_in t.rows D x) (sum_in t.rows D (λ i. share t i (end t k))) (hyperperiod t))
      (le_test (sum_in t.rows D x) (end t k - start t k))

  module _ (ws : List ℕ) (A : Sets t ws) (had x : ℕ → ℕ) where
    -- what each set of the list has, every overlap set has
    pub all_summed : ((m : ℕ) → m < length ws → Summed had x (bit (at ws m))) → (D : ℕ → Bool) → OverlapSet t.rows (overlap t) D
        → Summed had x D
    all_summed h D S = let r = set_in A S in subst (Summed had x) r.2 (h r.0 r.1)

    abbrev pub qualify_test : Test (Qualify t k had x)
    qualify_test =
        as_test (and_test
        (every_test t.rows (λ i. rounded_test (had i + x i) (share t i (end t k)) (hyperperiod t)))
        (every_test (length ws) (λ m. summed_test had x (bit (at ws m)))))
        (λ h. record { rows = h.0; sets = λ D S. (all_summed h.1 D S).0; fits = λ D S. (all_summed h.1 D S).1 })
        (λ Q. (Q.rows, λ m l. (Q.sets (bit (at ws m)) (A.each m l), Q.fits (bit (at ws m)) (A.each m l))))

-- ---- there are finitely many loads to try

-- row i's share at the end of interval k, rounded
abbrev pub least_had : Table → ℕ → ℕ → ℕ
least_had t k i = down (share t i (end t k)) (hyperperiod t)

abbrev pub most_had : Table → ℕ → ℕ → ℕ
most_had t k i = up (share t i (end t k)) (hyperperiod t)

abbrev pub chosen : Table → ℕ → (ℕ → ℕ) → ℕ → ℕ → ℕ
chosen t k had c i = cond (bit c i) (most_had t k i) (least_had t k i) - had i

module _ (t : Table) (k : ℕ) (had x : ℕ → ℕ) where
  -- the rows that come to the most
  abbrev ups : ℕ → Bool
  ups i = eqb (had i + x i) (most_had t k i)

  pub loads_chosen : Qualify t k had x → (c : ℕ) × (c < 2 ^ t.rows) × Same t.rows x (chosen t k had c)
  unfolding Rounded
  loads_chosen Q =
      (word t.rows ups, word_lt t.rows ups, λ i l. go i l (bit (word t.rows ups) i) (bit_word t.rows ups i) (Q.rows i l))
    where
      go : (i : ℕ) → i < t.rows → (b : Bool) → b ≡ (ltb i t.rows && ups i)
          → (had i + x i ≡ least_had t k i) ⊎ (had i + x i ≡ most_had t k i) → x i ≡ cond b (most_had t k i) (least_had t k i) - had i
      go i l true e r = omega (arith, eqb→eq (had i + x i) (most_had t k i) (snd (ltb i t.rows) (ups i) (along e tt)))
      go i l false e (inl r) = omega arith
      go i l false e (inr r) =
          absurd (along (sym e) (both (ltb i t.rows) (ups i) (lt→ltb i t.rows l) (eqb_of (had i + x i) (most_had t k i) r)))

-- ---- what a step can choose and write

abbrev pub Outcome : Type 0
Outcome = List ℕ × List ℕ

-- o is an outcome: loads that qualify, none past the last row, with their words
pub record Fits (t : Table) (k : ℕ) (had : ℕ → ℕ) (o : Outcome) : Type 0 where
  pub rows : length o.0 ≤ t.rows
  pub qualify : Qualify t k had (at o.0)
  pub words : SlotWords t.rows (overlap t) (line_first t) (at o.0) (end t k - start t k) o.1
  pub placed : (i : ℕ) → i < t.rows → count (end t k - start t k) (moves o.1 i) ≡ at o.0 i

pub record Outcomes (t : Table) (k : ℕ) (had : ℕ → ℕ) (outs : List Outcome) : Type 0 where
  pub only : (x : ℕ → ℕ) → Qualify t k had x → OneOf outs (λ o. Same t.rows x (at o.0))
  pub each : EachOf outs (Fits t k had)

module _ (t : Table) (ws : List ℕ) (A : Sets t ws) (k : ℕ) (had : ℕ → ℕ) (outs : List Outcome) where
  abbrev pub fits_test : (o : Outcome) → Test (Fits t k had o)
  fits_test o =
      as_test (three_test
      (le_test (length o.0) t.rows)
      (qualify_test t k ws A had (at o.0))
      (and_test
      (words_test t.rows (overlap t) (line_first t) (at o.0) (end t k - start t k) o.1)
      (every_test t.rows (λ i. eq_test (count (end t k - start t k) (moves o.1 i)) (at o.0 i)))))
      (λ h. record { rows = h.0; qualify = h.1; words = h.2.0; placed = h.2.1 })
      (λ F. (F.rows, F.qualify, (F.words, F.placed)))

  -- the loads to try are among the outcomes if they qualify, and each outcome is one
  abbrev pub outcomes_test : Test (
      ((c : ℕ) → c < 2 ^ t.rows → Qualify t k had (chosen t k had c) → OneOf outs (λ o. Same t.rows (chosen t k had c) (at o.0)))
      × EachOf outs (Fits t k had)
      )
  outcomes_test =
      and_test
      (every_test (2 ^ t.rows) (λ c. if_test (qualify_test t k ws A had (chosen t k had c))
      (one_test outs _ (λ o. every_test t.rows (λ i. eq_test (chosen t k had c i) (at o.0 i))))))
      (each_test outs _ fits_test)

  pub outcomes_by : T outcomes_test.test → Outcomes t k had outs
  outcomes_by h =
      let r = outcomes_test.is h in
      record {
        only = λ x Q. let c = loads_chosen t k had x Q in
            one_map outs (λ o s i l. c.2 i l ∙ s i l)
            (r.0 c.0 c.1 (qualify_same t k had had x (chosen t k had c.0) (λ i l. refl) c.2 Q));
        each = r.1;
      }

-- ---- the greatest of them

-- at the first row where another outcome differs it has less
pub record Best (t : Table) (k : ℕ) (had : ℕ → ℕ) (outs : List Outcome) (b : Outcome) : Type 0 where
  pub fits : Fits t k had b
  pub beats : EachOf outs (λ o. (i : ℕ) → i < t.rows → ((j : ℕ) → j < i → at o.0 j ≡ at b.0 j) → at o.0 i ≤ at b.0 i)

abbrev pub best_test : (t : Table) (ws : List ℕ) → Sets t ws → (k : ℕ) (had : ℕ → ℕ) (outs : List Outcome) (b : Outcome)
    → Test (Best t k had outs b)
best_test t ws A k had outs b =
    as_test (and_test (fits_test t ws A k had outs b)
    (each_test outs _ (λ o. every_test t.rows (λ i.
    if_test (every_test i (λ j. eq_test (at o.0 j) (at b.0 j))) (le_test (at o.0 i) (at b.0 i))))))
    (λ h. record { fits = h.0; beats = h.1 })
    (λ B. (B.fits, B.beats))

module _ {t : Table} {k : ℕ} {had : ℕ → ℕ} {outs : List Outcome} {b : Outcome} (O : Outcomes t k had outs) (B : Best t k had outs b) where
  pub best_greatest : Greatest t.rows (Qualify t k had) (at b.0)
  best_greatest = record {
    qualify = B.fits.qualify;
    most = λ z Q i l same.
        one_out outs (λ o f e. omega (arith, e i l, f i l (λ j m. sym (e j (omega arith)) ∙ same j m))) B.beats (O.only z Q);
  }

-- ---- steps and runs

abbrev pub At : ℕ → Planner → Stage → (ℕ → ℕ) → Type 0
At n q s had = (q.stage ≡ s) × Same n q.totals had

-- what the rows have had after loads x
abbrev pub moved_on : (ℕ → ℕ) → List ℕ → ℕ → ℕ
moved_on had x i = had i + at x i

-- q is the planner after outcome o in interval k, which wrote ws
abbrev pub After : Table → ℕ → (ℕ → ℕ) → Planner → List ℕ → Outcome → Type 0
After t k had q ws o = (ws ≡ o.1) × At t.rows q (next t k) (moved_on had o.0)

due_same : (j k : ℕ) → due j ≡ due k → j ≡ k
due_same j k e = cc

-- only what the rows have had counts
greatest_as : {t : Table} {k : ℕ} {had had' x : ℕ → ℕ} → Same t.rows had had' → Greatest t.rows (Qualify t k had) x
    → Greatest t.rows (Qualify t k had') x
greatest_as {t} {k} {had} {had'} {x} d G = record {
  qualify = qualify_same t k had had' x x d (λ i l. refl) G.qualify;
  most = λ z Q. G.most z (qualify_same t k had' had z z (λ i l. sym (d i l)) (λ i l. refl) Q);
}

module _ {t : Table} {k : ℕ} {had : ℕ → ℕ} {outs : List Outcome} {o : Outcome} (O : Outcomes t k had outs) (B : Best t k had outs o) where
  pub step_is : {p q : Planner} {ws : List ℕ} → At t.rows p (due k) had → Step t p q ws → After t k had q ws o
  step_is {p} {q} {ws} a s =
      let e : s.interval ≡ k = due_same s.interval k (sym s.is_due ∙ a.0) in
      let G : Greatest t.rows (Qualify t k p.totals) s.loads =
      subst (λ (j : ℕ). Greatest t.rows (Qualify t j p.totals) s.loads) e s.greatest in
      let x = greatest_only (greatest_as a.1 G) (best_greatest O B) in (
        words_only t.rows (overlap t) (line_first t) s.loads (at o.0) (end t k - start t k) x ws o.1
            (subst (λ (j : ℕ). SlotWords t.rows (overlap t) (line_first t) s.loads (end t j - start t j) ws) e s.words)
            B.fits.words,
        (s.after ∙ ap (next t) e, λ i l. s.moved i l ∙ ap₂ ◌+◌ (a.1 i l) (x i l)),
      )

  pub step_of : Step t (record { stage = due k; totals = had }) (record { stage = next t k; totals = moved_on had o.0 }) o.1
  step_of = record {
    interval = k;
    is_due = refl;
    loads = at o.0;
    greatest = best_greatest O B;
    words = B.fits.words;
    placed = B.fits.placed;
    moved = λ i l. refl;
    spare = λ i l. let h : length o.0 ≤ i = omega (arith, B.fits.rows) in omega (arith, get_or-eq_default o.0 0 h);
    after = refl;
  }

-- the first step of a fresh planner
pub run_first : {t : Table} {outs : List Outcome} {o : Outcome} {q : Planner} {ws : List ℕ} → Outcomes t 0 (λ i. 0) outs
    → Best t 0 (λ i. 0) outs o → Run t 1 q ws → After t 0 (λ i. 0) q ws o
run_first {t} {q = q} O B r =
    let m = run_more r in
    let z = run_none m.3 in
    let a = step_is O B (refl, λ i l. refl) (subst (λ (p : Planner). Step t p q m.2) z.0 m.4) in
    (m.5 ∙ ap₂ ◌++◌ z.1 a.0, a.1)

-- a planner's standings are known by its stage and totals
pub standing_at : (t : Table) {q : Planner} {s : Stage} {had : ℕ → ℕ} → At t.rows q s had → (i : ℕ) → i < t.rows
    → standing t q i ≡ standing t (record { stage = s; totals = had }) i
unfolding standing
standing_at t a i l = ap₂ (λ (m : ℕ) (s : Stage). pos (m * hyperperiod t) -ℤ pos (share t i (reached t s))) (a.1 i l) a.0
