-- A live table that keeps the rules keeps them through every call.
use mathlib.Core.Path.{◌≡◌, refl, sym, ap, ◌∙◌}
use mathlib.Core.Logic.{◌⊎◌, inl, inr, ⊎_elim, ◌≢◌}
use mathlib.Core.Bool.{Bool, true, ◌&&◌, cond}
use Prim.Native.Nat.{ℕ, ◌≤◌, ◌<◌, ◌∣◌, max}
use native.Mathlib.Nat.{le_of_dvd, one-dvd}
use native.Mathlib.Decide.{ℕ_discrete}
use native.Mathlib.Omega.{arith}
use lib.Dec.{T, eqb, ltb, eqb→eq, ltb→lt, lt→ltb}
use Rattle.numbers.specs.Finite.{every, only}
use Rattle.numbers.specs.Divisors.{lcm}
use Rattle.numbers.proofs.Truth.{fst, snd, both, is_true, is_false, eqb_of, limits}
use Rattle.numbers.proofs.Finite.{least, any_of, only_false, only_zero, sum_zero}
use Rattle.numbers.proofs.Divisors.{lcm_same, lcm_divides, lcm_multiple, lcm_positive}
use Rattle.rules.specs.Bounds.{max_elements, max_rows, max_slots}
use Rattle.rules.specs.Bus.{Table, pasted}
use Rattle.rules.specs.Refusals.{Answers, faults}
use Rattle.rules.specs.Live.{Live, Entry, Blank, Seated, InOrder, Made, Added, Removed, Reached, made, added, removed}
use Rattle.rules.specs.Live.{vacant, places, held, free, common, common_of, sum_over, empty, but, placed, put, alone}
use Rattle.rules.specs.Live.{repeated, add_checks, remove_checks}
use Rattle.rules.proofs.Answers.{None, Numbered, none_of, answered}
use Rattle.rules.proofs.Calls.{call_none}
use Rattle.table.specs.Sound.{SoundRow}
use Rattle.table.proofs.Faults.{faults_numbered, row_sound, row_none}
use Rattle.live.proofs.Sums.{one_positive}
use Rattle.live.specs.Promises.{StaysInOrder, SumsAfresh}

-- ---- one number of a column changed

pub but_same : (g : ℕ → ℕ) (k x : ℕ) → but g k x k ≡ x
but_same g k x = ap (λ (b : Bool). cond b x (g k)) (is_true (eqb k k) (eqb_of k k refl))

pub but_other : (g : ℕ → ℕ) (k x i : ℕ) → i ≢ k → but g k x i ≡ g i
but_other g k x i n = ap (λ (b : Bool). cond b x (g i)) (is_false (eqb i k) (λ t. n (eqb→eq i k t)))

-- ---- rows with the same ends and period

pub three_of : {a b c x y z : ℕ} → a ≡ x → b ≡ y → c ≡ z → T (eqb a x && eqb b y && eqb c z)
three_of {a} {b} {c} {x} {y} {z} e f g =
    both (eqb a x && eqb b y) (eqb c z) (both (eqb a x) (eqb b y) (eqb_of a x e) (eqb_of b y f)) (eqb_of c z g)

pub of_three : {a b c x y z : ℕ} → T (eqb a x && eqb b y && eqb c z) → (a ≡ x) × (b ≡ y) × (c ≡ z)
of_three {a} {b} {c} {x} {y} {z} t =
    let q = fst (eqb a x && eqb b y) (eqb c z) t in
    (eqb→eq a x (fst (eqb a x) (eqb b y) q), eqb→eq b y (snd (eqb a x) (eqb b y) q), eqb→eq c z (snd (eqb a x && eqb b y) (eqb c z) t))

-- all rows run on the one ring
module _ (l : Live) where
  pub pasted_by : {i j : ℕ} → j < i → l.first j ≡ l.first i → l.second j ≡ l.second i → l.period j ≡ l.period i
      → T (pasted (places l) i)
  unfolding pasted
  pasted_by {i} {j} h f s p =
      any_of i _ j h
      (both (eqb (l.first j) (l.first i) && eqb (l.second j) (l.second i) && eqb (l.period j) (l.period i)) true (three_of f s p) tt)

  by_pasted : (i : ℕ) → T (pasted (places l) i)
      → (j : ℕ) × (j < i) × ((l.first j ≡ l.first i) × (l.second j ≡ l.second i) × (l.period j ≡ l.period i))
  unfolding pasted
  by_pasted i t =
      let w = least i _ t in
      let j = w.0 in
      let same = eqb (l.first j) (l.first i) && eqb (l.second j) (l.second i) && eqb (l.period j) (l.period i) in
      (j, w.1, of_three (fst same true w.2))

-- ---- rows that pass 7 to 9

-- the same row in another table
sound_as : {t u : Table} {i j : ℕ} → u.elements ≡ t.elements → u.rings ≡ t.rings → u.way j ≡ t.way i → u.cost j ≡ t.cost i
    → u.period j ≡ t.period i → u.first j ≡ t.first i → u.second j ≡ t.second i → SoundRow t i → SoundRow u j
sound_as {t} {u} {i} {j} e r w c p f s S = record {
  first_low = rw f S.first_low;
  first_high = rw (f, e) S.first_high;
  second_low = rw s S.second_low;
  second_high = rw (s, e) S.second_high;
  ends_differ = λ q. S.ends_differ (sym f ∙ q ∙ s);
  period_low = rw p S.period_low;
  period_high = rw p S.period_high;
  cost_low = rw c S.cost_low;
  cost_high = rw (c, p) S.cost_high;
  way_known = rw (r, w) S.way_known;
}

pub passes : (t : Table) (i : ℕ) → SoundRow t i → Answers (faults t i) 0 0
passes t i S = answered (faults t i) (row_none t i S)

pub passed : (t : Table) (i : ℕ) → Answers (faults t i) 0 0 → SoundRow t i
passed t i A = row_sound t i (none_of (faults t i) 0 (faults_numbered t i) A)

-- ---- a row put in a place

-- zeros, or a row that the bus allows
abbrev pub Allowed : Live → Entry → Type 0
Allowed l e = (e ≡ vacant) ⊎ SoundRow (alone l e) 0

-- and that is not there yet
pub record Welcome (l : Live) (e : Entry) : Type 0 where
  pub allowed : Allowed l e
  pub new : (i : ℕ) → i < max_rows → l.first i ≡ e.first → l.second i ≡ e.second → l.period i ≡ e.period → 0 < e.period → ⊥

module _ {l : Live} (S : Seated l) (k : ℕ) {e : Entry} (A : Allowed l e) where
  abbrev after : Live
  after = put l k e

  put_here : Blank after k ⊎ Answers (faults (places after) k) 0 0
  put_here =
      ⊎_elim
      (λ (v : e ≡ vacant). inl (record {
        cost = but_same l.cost k _ ∙ ap (λ (x : Entry). x.cost) v;
        period = but_same l.period k _ ∙ ap (λ (x : Entry). x.period) v;
        first = but_same l.first k _ ∙ ap (λ (x : Entry). x.first) v;
        second = but_same l.second k _ ∙ ap (λ (x : Entry). x.second) v;
        label = but_same l.label k _ ∙ ap (λ (x : Entry). x.label) v;
      }))
      (λ (R : SoundRow (alone l e) 0). inr (passes (places after) k
      (sound_as {t = alone l e} {u = places after} {i = 0} {j = k} refl refl refl (but_same l.cost k _) (but_same l.period k _)
      (but_same l.first k _) (but_same l.second k _) R)))
      A

  pub put_place : (i : ℕ) → i < max_rows → Blank after i ⊎ Answers (faults (places after) i) 0 0
  put_place i h = go (ℕ_discrete i k)
    where
      go : Dec (i ≡ k) → Blank after i ⊎ Answers (faults (places after) i) 0 0
      go (yes q) = rw q put_here
      go (no n) =
          ⊎_elim
          (λ (B : Blank l i). inl (record {
            cost = but_other l.cost k _ i n ∙ B.cost;
            period = but_other l.period k _ i n ∙ B.period;
            first = but_other l.first k _ i n ∙ B.first;
            second = but_other l.second k _ i n ∙ B.second;
            label = but_other l.label k _ i n ∙ B.label;
          }))
          (λ (B : Answers (faults (places l) i) 0 0). inr (passes (places after) i
          (sound_as {t = places l} {u = places after} {i = i} {j = i} refl refl refl (but_other l.cost k _ i n)
          (but_other l.period k _ i n) (but_other l.first k _ i n) (but_other l.second k _ i n) (passed (places l) i B))))
          (S.place i h)

module _ {l : Live} (S : Seated l) (k : ℕ) {e : Entry} (W : Welcome l e) where
  abbrev m : Live
  m = put l k e

  -- two rows of m with the same ends and period
  put_twice : (i j : ℕ) → i < max_rows → j < i → m.first j ≡ m.first i → m.second j ≡ m.second i → m.period j ≡ m.period i
      → 0 < m.period i → ⊥
  put_twice i j h lt f s p held' = go (ℕ_discrete i k) (ℕ_discrete j k)
    where
      go : Dec (i ≡ k) → Dec (j ≡ k) → ⊥
      go (yes q) d =
          let n : j ≢ k = λ z. omega (arith, q, z, lt) in
          W.new j (omega arith)
          (sym (but_other l.first k _ j n) ∙ f ∙ ap m.first q ∙ but_same l.first k _)
          (sym (but_other l.second k _ j n) ∙ s ∙ ap m.second q ∙ but_same l.second k _)
          (sym (but_other l.period k _ j n) ∙ p ∙ ap m.period q ∙ but_same l.period k _)
          (omega (arith, held', ap m.period q ∙ but_same l.period k _))
      go (no n) (yes q) =
          let z : l.period i ≡ e.period =
          sym (but_other l.period k _ i n) ∙ sym p ∙ ap m.period q ∙ but_same l.period k _ in
          W.new i h
          (sym (but_other l.first k _ i n) ∙ sym f ∙ ap m.first q ∙ but_same l.first k _)
          (sym (but_other l.second k _ i n) ∙ sym s ∙ ap m.second q ∙ but_same l.second k _)
          z
          (omega (arith, held', but_other l.period k e.period i n, z))
      go (no n) (no o) =
          S.single i h (lt→ltb 0 (l.period i) (omega (arith, held', but_other l.period k e.period i n)))
          (pasted_by l lt (sym (but_other l.first k _ j o) ∙ f ∙ but_other l.first k _ i n)
          (sym (but_other l.second k _ j o) ∙ s ∙ but_other l.second k _ i n)
          (sym (but_other l.period k _ j o) ∙ p ∙ but_other l.period k _ i n))

  put_single : (i : ℕ) → i < max_rows → T (held m i) → T (pasted (places m) i) → ⊥
  put_single i h t p =
      let q = by_pasted m i p in
      put_twice i q.0 h q.1 q.2.0 q.2.1 q.2.2 (ltb→lt 0 _ t)

  pub put_in_order : common (placed l k e) ≤ max_slots → InOrder m
  unfolding sum_over
  put_in_order c = record {
    rows = record { low = S.low; high = S.high; place = put_place S k W.allowed; single = put_single };
    denominator = refl;
    short = c;
    sums = λ s h. refl;
  }

-- ---- a row removed

pub vacant_welcome : (l : Live) → Welcome l vacant
vacant_welcome l = record { allowed = inl refl; new = λ i h f s p z. omega (arith, z) }

-- the denominator of fewer rows divides it
fewer_divides : (p : ℕ → ℕ) (k i : ℕ) → i < max_rows → max 1 (but p k 0 i) ∣ common_of p
unfolding common_of
fewer_divides p k i h = go (ℕ_discrete i k)
  where
    go : Dec (i ≡ k) → max 1 (but p k 0 i) ∣ lcm max_rows (λ i. max 1 (p i))
    go (yes q) = rw (ap (but p k 0) q ∙ but_same p k 0) (one-dvd _)
    go (no n) = rw (but_other p k 0 i n) (lcm_multiple max_rows _ (one_positive p) i h)

pub fewer_common : (p : ℕ → ℕ) (k : ℕ) → common_of (but p k 0) ≤ common_of p
unfolding common_of
fewer_common p k =
    le_of_dvd (lcm_positive max_rows _ (one_positive p))
    (lcm_divides max_rows (λ i. max 1 (but p k 0 i)) (one_positive (but p k 0)) _ (fewer_divides p k))

pub removed_in_order : {l : Live} → InOrder l → (k : ℕ) → InOrder (put l k vacant)
removed_in_order {l} O k =
    put_in_order O.rows k (vacant_welcome l) (omega (arith, fewer_common l.period k, O.denominator, O.short))

-- ---- a row added

-- a row that 18 doesn't refuse
pub not_repeated : (l : Live) (e : Entry) → (T (repeated l e) → ⊥) → (i : ℕ) → i < max_rows → l.first i ≡ e.first
    → l.second i ≡ e.second → l.period i ≡ e.period → 0 < e.period → ⊥
unfolding repeated
not_repeated l e n i h f s p z =
    n (any_of max_rows _ i h (three_of f s p))

-- ---- a new one

blank_common : common_of (λ i. 0) ≡ 1
unfolding common_of
blank_common = lcm_same max_rows (λ i. max 1 0) 1 (omega arith) (omega arith) (λ i l. refl)

blank_sum : (M d s : ℕ) → sum_over d (empty M) s ≡ 0
unfolding sum_over
blank_sum M d s =
    ap (λ (x : ℕ). only (ltb s M) x) (sum_zero max_rows _ (λ i h. only_false _ _ refl)) ∙ only_zero (ltb s M)

pub new_in_order : (M : ℕ) → 2 ≤ M → M ≤ max_elements → InOrder (empty M)
new_in_order M a b = record {
  rows = record {
    low = a;
    high = b;
    place = λ i h. inl (record { cost = refl; period = refl; first = refl; second = refl; label = refl });
    single = λ i h t p. omega (arith, ltb→lt 0 0 t);
  };
  denominator = sym blank_common;
  short = omega arith;
  sums = λ s h. sym (blank_sum M _ s);
}

-- ---- the promises

pub add_numbered : (l : Live) (e : Entry) → Numbered (add_checks l e)
unfolding Numbered
add_numbered l e = omega arith

pub remove_numbered : (l : Live) (k : ℕ) → Numbered (remove_checks l k)
unfolding Numbered
remove_numbered l k = omega arith

made_in_order : (M : ℕ) (m : Live) → Made M m 0 0 → InOrder m
unfolding Answers
made_in_order M m c =
    let r : (2 ≤ M) × (M ≤ max_elements) =
    ⊎_elim (λ w. absurd (let z : 0 ≡ 4 = w.1 in omega (arith, z))) (λ w. limits M 2 max_elements w.0) c.answers in
    rw (c.done refl) (new_in_order M r.0 r.1)

-- what an addition that no check refuses may count on
pub record Addable (l : Live) (e : Entry) : Type 0 where
  pub order : InOrder l
  pub welcome : Welcome l e
  pub room : T (every max_rows (held l)) → ⊥
  pub short : common (placed l (free l) e) ≤ max_slots

pub addable : (l : Live) (e : Entry) → InOrder l → None (add_checks l e) → Addable l e
unfolding None
addable l e O n = record {
  order = O;
  welcome = record {
    allowed = inr (row_sound (alone l e) 0 (n.1.0, (n.1.1.0, (n.1.1.1.0, (n.1.1.1.1.0, tt)))));
    new = not_repeated l e n.1.1.1.1.1.0;
  };
  room = n.1.1.1.1.1.1.0;
  short = omega (arith, n.1.1.1.1.1.1.1.0);
}

added_in_order : (l m : Live) (e : Entry) (number place taken : ℕ) → InOrder l → Added l e m number place taken → InOrder m
added_in_order l m e number place taken O c = go (ℕ_discrete number 0)
  where
    go : Dec (number ≡ 0) → InOrder m
    go (yes z) =
        let A = addable l e O (call_none {p = place} (add_numbered l e) (rw z at c)) in
        rw (c.done z).1 (put_in_order O.rows (free l) A.welcome A.short)
    go (no z) = rw (c.refused z).1 O

taken_out_in_order : (l m : Live) (k number place : ℕ) → InOrder l → Removed l k m number place → InOrder m
taken_out_in_order l m k number place O c = go (ℕ_discrete number 0)
  where
    go : Dec (number ≡ 0) → InOrder m
    go (yes z) = rw (c.done z) (removed_in_order O k)
    go (no z) = rw (c.refused z) O

pub stays_in_order : StaysInOrder
stays_in_order = record { made = made_in_order; added = added_in_order; removed = taken_out_in_order }

reached_in_order : (l : Live) → Reached l → InOrder l
reached_in_order m (made {M} c) = stays_in_order.made M m c
reached_in_order m (added {l} e number place taken r c) = stays_in_order.added l m e number place taken (reached_in_order l r) c
reached_in_order m (removed {l} k number place r c) = stays_in_order.removed l m k number place (reached_in_order l r) c

pub sums_afresh : SumsAfresh
sums_afresh l r = let O = reached_in_order l r in (O.denominator, O.sums)
