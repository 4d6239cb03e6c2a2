-- The cut of a ring: in its own numbers the lowest element with none of its rows through it, or M + 1 where every element has some row
-- through it (refusal 10). All is said of either ring d.
use mathlib.Core.Path.{◌≡◌, refl, sym, ap, ap₂, ◌∙◌}
use mathlib.Core.Logic.{⊎_elim, ◌↔◌, ◌≢◌}
use mathlib.Core.Bool.{Bool, true, false, not, ◌&&◌, ◌||◌}
use Prim.Native.Nat.{ℕ, suc, ◌+◌, ◌-◌, ◌/◌, ◌%◌, ◌^◌, ◌≤◌, ◌<◌}
use native.Mathlib.Omega.{arith}
use lib.Bits.{bit_or}
use lib.Dec.{T, eqb, eqb→eq, leb, ltb, leb→le, le→leb, ltb→lt, lt→ltb}
use lib.Pow.{shr-shr}
use Rattle.std.specs.Int.{w64, bit_at, trailing_ones}
use Rattle.std.proofs.lemmas.Nat.Bits.{bit_at-trailing_ones}
use borrow.Author.Tests.{eq-eqb, ne_eqb}
use Rattle.numbers.specs.Finite.{any}
use Rattle.numbers.specs.Word.{bit, Stretch}
use Rattle.numbers.proofs.Truth.{both, fst, snd, orl, orr, or_cases, same, refuted, refutes, decide, is_true, of_false, le_or_lt}
use Rattle.numbers.proofs.Truth.{eqb_of, and_under}
use Rattle.numbers.proofs.Word.{bit_zero, bit_suc, bit_or_lem, inside}
use Rattle.numbers.proofs.Finite.{any_next, any_of, any_eq, least, lowest_le, lowest_has, lowest_below}
use Rattle.numbers.proofs.Finite.{Sought, sought_start, sought_next, sought_found, sought_end}
use Rattle.rules.specs.Bus.{Table, mirror, steps, through, route_uses, route_through}
use Rattle.rules.specs.Line.{clear, cut}
use Rattle.rules.specs.Refusals.{no_cut}
use Rattle.ring.specs.Route.{Element, Shows}
use Rattle.ring.proofs.Clockwise.{steps_cases, steps_less}
use Rattle.ring.proofs.Mirror.{mirror_element, mirror_back}

-- ---- clear elements

module _ (t : Table) (d : ℕ) where
  abbrev M : ℕ
  M = t.elements

  -- row i runs on ring d, and goes through element e of that ring's numbers
  abbrev pub ring_through : ℕ → ℕ → Bool
  ring_through i e = eqb (t.way i) d && route_through M (mirror M d (t.first i)) (mirror M d (t.second i)) e

  ring_through_lem : {e : ℕ} (i : ℕ) → Element M e → (eqb (t.way i) d && through t i (mirror M d e)) ≡ ring_through i e
  unfolding through
  ring_through_lem i x = and_under (eqb (t.way i) d) _ _ (λ h. rw (eqb→eq (t.way i) d h, mirror_back d x))

  pub clear_ring : {e : ℕ} → Element M e → clear t d (mirror M d e) ≡ not (any t.rows (λ i. ring_through i e))
  unfolding clear
  clear_ring x = ap not (any_eq t.rows _ _ (λ i l. ring_through_lem i x))

  -- no row of the ring goes through a clear element
  clear_none : (e i : ℕ) → T (clear t d e) → i < t.rows → t.way i ≡ d → T (through t i e) → ⊥
  unfolding clear
  clear_none e i h l w p =
      refutes (any t.rows (λ j. eqb (t.way j) d && through t j e)) h
      (any_of t.rows (λ j. eqb (t.way j) d && through t j e) i l (both (eqb (t.way i) d) (through t i e) (eqb_of _ _ w) p))

  -- some row of the ring goes through an element that is not clear
  not_clear : (e : ℕ) → (T (clear t d e) → ⊥) → (i : ℕ) × (i < t.rows) × ((t.way i ≡ d) × T (through t i e))
  unfolding clear
  not_clear e h =
      let test : ℕ → Bool = λ j. eqb (t.way j) d && through t j e in
      let some = any t.rows test in
      let w = least t.rows test (⊎_elim (λ a. a) (λ b. absurd (h (refuted some b))) (decide some)) in (
        w.0,
        w.1,
        (
          eqb→eq (t.way w.0) d (fst (eqb (t.way w.0) d) (through t w.0 e) w.2),
          snd (eqb (t.way w.0) d) (through t w.0 e) w.2,
        ),
      )

  -- ---- the cut

  pub cut_low : 1 ≤ cut t d
  unfolding cut
  cut_low = omega arith

  pub cut_high : cut t d ≤ M + 1
  unfolding cut
  cut_high = omega (arith, lowest_le M (λ e. clear t d (mirror M d (suc e))))

  -- no row of the ring goes through it
  pub cut_clear : cut t d ≤ M → (i : ℕ) → i < t.rows → t.way i ≡ d → T (through t i (mirror M d (cut t d))) → ⊥
  unfolding cut
  cut_clear h i = clear_none (mirror M d (cut t d)) i (lowest_has M (λ e. clear t d (mirror M d (suc e))) h)

  -- every element before the cut has some row of the ring through it
  pub cut_lowest : (e : ℕ) → 1 ≤ e → e < cut t d → (i : ℕ) × (i < t.rows) × ((t.way i ≡ d) × T (through t i (mirror M d e)))
  unfolding cut
  cut_lowest e l h =
      let z : suc (e - 1) ≡ e = omega arith in
      rw z at (not_clear (mirror M d (suc (e - 1))) (lowest_below M (λ k. clear t d (mirror M d (suc k))) (e - 1) (omega arith)))

  -- refusal 10 is given exactly if the cut is M + 1
  pub cut_none : (no_cut t d).applies ↔ (cut t d ≡ M + 1)
  cut_none = (
    λ h.
        ⊎_elim
        (λ (l : cut t d ≤ M).
        let x = mirror_element d (record { low = cut_low; high = l }) in
        let w = h (mirror M d (cut t d)) (x.low, x.high) in
        absurd (cut_clear l w.0 w.1 w.2.0 w.2.1))
        (λ (l : M < cut t d). omega (arith, cut_high))
        (le_or_lt (cut t d) M),
    λ z e w.
        let x : Element M e = record { low = w.0; high = w.1 } in
        let y = mirror_element d x in
        rw (mirror_back d x) at (cut_lowest (mirror M d e) y.low (omega (arith, z, y.high))),
  )

  -- a ring with no rows has cut 1
  pub cut_idle : 1 ≤ M → ((i : ℕ) → i < t.rows → t.way i ≢ d) → cut t d ≡ 1
  cut_idle m h =
      ⊎_elim (λ (l : cut t d ≤ 1). omega (arith, cut_low))
      (λ (l : 1 < cut t d). let w = cut_lowest 1 (omega arith) l in absurd (h w.0 w.1 w.2.0))
      (le_or_lt (cut t d) 1)

-- ---- the elements that rows go through, as a word

or_swap : (a b c d : Bool) → ((a || b) || (c || d)) ≡ ((a || c) || (b || d))
or_swap true b c d = refl
or_swap false true true d = refl
or_swap false true false d = refl
or_swap false false c d = refl

pub shows_none : (M : ℕ) (p : ℕ → ℕ → Bool) → Shows M 0 (λ e. any 0 (λ i. p i e))
unfolding any
shows_none M p = record { element = λ e h. ap₂ ◌||◌ (bit_zero e) (bit_zero (M + e)) }

-- a row of another ring goes through none
pub shows_off : (M : ℕ) {way d : ℕ} (p : ℕ → Bool) → way ≢ d → Shows M 0 (λ e. eqb way d && p e)
shows_off M {way} {d} p n = record { element = λ e h. ap₂ ◌||◌ (bit_zero e) (bit_zero (M + e)) ∙ sym (rw (ne_eqb way d n)) }

pub shows_on : {M w way d : ℕ} (p : ℕ → Bool) → way ≡ d → Shows M w p → Shows M w (λ e. eqb way d && p e)
shows_on {way = way} {d = d} p z S = record { element = λ e h. S.element e h ∙ sym (rw (eq-eqb way d z)) }

-- one row more
pub shows_next : {M v w : ℕ} (i : ℕ) (p : ℕ → ℕ → Bool) → Shows M v (λ e. any i (λ k. p k e)) → Shows M w (p i)
    → Shows M (bit_or v w) (λ e. any (i + 1) (λ k. p k e))
shows_next {M} {v} {w} i p before row = record {
  element = λ e h.
      ap₂ ◌||◌ (bit_or_lem v w e) (bit_or_lem v w (M + e)) ∙ or_swap (bit v e) (bit w e) (bit v (M + e)) (bit w (M + e))
      ∙ ap₂ ◌||◌ (before.element e h) (row.element e h) ∙ sym (any_next i (λ k. p k e));
}

-- bit M + e brought to bit e
pub shows_clear : {w : ℕ} (t : Table) (d : ℕ) → Shows t.elements w (λ e. any t.rows (λ i. ring_through t d i e)) → (e : ℕ)
    → Element t.elements e → not (bit (bit_or w (w / 2 ^ t.elements)) e) ≡ clear t d (mirror t.elements d e)
unfolding bit
shows_clear {w} t d S e h =
    let M = t.elements in
    ap not (bit_or_lem w (w / 2 ^ M) e ∙ ap (λ (b : Bool). bit w e || b) (ap (λ (k : ℕ). eqb (k % 2) 1) (shr-shr w M e)) ∙ S.element e h)
    ∙ sym (clear_ring t d h)

-- ---- a route's stretch, as a word

-- The elements that lie x steps on from a or more and before b stand in a stretch from a + x, as element e, or as M + e once round.
module _ (x : ℕ) {M a b e : ℕ} (ea : Element M a) (eb : Element M b) (ee : Element M e) where
  abbrev goes : Bool
  goes = leb x (steps M a e) && ltb (steps M a e) (steps M a b)

  abbrev here : ℕ → Bool
  here k = leb (a + x) k && ltb k (a + steps M a b)

  stands : (k : ℕ) → a + x ≤ k → k < a + steps M a b → T (here k)
  stands k l m = both (leb (a + x) k) (ltb k (a + steps M a b)) (le→leb (a + x) k l) (lt→ltb k (a + steps M a b) m)

  goes_here : T (here e || here (M + e)) → T goes
  goes_here h =
      let less : steps M a b < M = steps_less ea eb in
      let go : x ≤ steps M a e → steps M a e < steps M a b → T goes =
      λ l m. both (leb x (steps M a e)) _ (le→leb _ _ l) (lt→ltb _ _ m) in
      ⊎_elim
      (λ k.
      let w = inside (a + x) (a + steps M a b) e k in
      ⊎_elim (λ u. go (omega arith) (omega arith)) (λ u. absurd (let z : ⊥ = omega arith in z)) (steps_cases ea ee))
      (λ k.
      let w = inside (a + x) (a + steps M a b) (M + e) k in
      ⊎_elim (λ u. absurd (let z : ⊥ = omega arith in z)) (λ u. go (omega arith) (omega arith)) (steps_cases ea ee))
      (or_cases (here e) (here (M + e)) h)

  here_goes : T goes → T (here e || here (M + e))
  here_goes h =
      let l : x ≤ steps M a e = leb→le _ _ (fst (leb x (steps M a e)) _ h) in
      let m : steps M a e < steps M a b = ltb→lt _ _ (snd (leb x (steps M a e)) _ h) in
      ⊎_elim
      (λ u. orl (here e) (here (M + e)) (stands e (omega arith) (omega arith)))
      (λ u. orr (here e) (here (M + e)) (stands (M + e) (omega arith) (omega arith)))
      (steps_cases ea ee)

pub stretch_shows : (x : ℕ) {M a b w : ℕ} → Element M a → Element M b → Stretch (a + x) (a + steps M a b) w
    → Shows M w (λ e. leb x (steps M a e) && ltb (steps M a e) (steps M a b))
stretch_shows x {M} ea eb S = record {
  element = λ e ee. ap₂ ◌||◌ (S.bits e) (S.bits (M + e)) ∙ same _ _ (goes_here x ea eb ee) (here_goes x ea eb ee);
}

pub uses_shows : {M a b w : ℕ} → Element M a → Element M b → Stretch a (a + steps M a b) w → Shows M w (route_uses M a b)
uses_shows {M} {a} {b} {w} ea eb S = record {
  element = λ e ee.
      let z : a + 0 ≡ a = omega arith in
      (stretch_shows 0 ea eb (rw z S)).element e ee
      ∙ ap (λ (c : Bool). c && route_uses M a b e) (is_true (leb 0 (steps M a e)) (le→leb 0 (steps M a e) (omega arith)));
}

-- ---- the search for it, from element 1 up

-- no element before e is clear, in the ring's numbers
pub record Searched (t : Table) (d e : ℕ) : Type 0 where
  pub low : 1 ≤ e
  pub high : e ≤ t.elements + 1
  pub none : (k : ℕ) → 1 ≤ k → k < e → T (clear t d (mirror t.elements d k)) → ⊥

-- element k + 1 is clear
abbrev free : Table → (d k : ℕ) → Bool
free t d k = clear t d (mirror t.elements d (suc k))

-- the laws of a search count from 0, so element k + 1 is number k to them
sought : {t : Table} {d e : ℕ} → Searched t d e → Sought t.elements (free t d) (e - 1)
sought S = record { within = omega arith; none = λ k m. S.none (suc k) (omega arith) (omega arith) }

searched : {t : Table} {d i : ℕ} → Sought t.elements (free t d) i → Searched t d (i + 1)
searched H = record {
  low = omega arith;
  high = omega arith;
  none = λ k l m c. let z : suc (k - 1) ≡ k = omega arith in H.none (k - 1) (omega arith) (rw z c);
}

pub searched_start : (t : Table) (d : ℕ) → Searched t d 1
searched_start t d = searched sought_start

pub searched_next : {t : Table} {d e : ℕ} → Searched t d e → e ≤ t.elements → clear t d (mirror t.elements d e) ≡ false
    → Searched t d (e + 1)
searched_next {e = e} S l n =
    let z : suc (e - 1) ≡ e = omega arith in
    let y : (e - 1) + 1 ≡ e = omega arith in
    rw y at (searched (sought_next (sought S) (omega arith) (rw z n)))

pub searched_found : {t : Table} {d e : ℕ} → Searched t d e → e ≤ t.elements → clear t d (mirror t.elements d e) ≡ true → e ≡ cut t d
unfolding cut
searched_found {e = e} S l c =
    let z : suc (e - 1) ≡ e = omega arith in
    omega (arith, sought_found (sought S) (omega arith) (rw z c))

pub searched_all : {t : Table} {d e : ℕ} → Searched t d e → t.elements < e → cut t d ≡ t.elements + 1
unfolding cut
searched_all S l = omega (arith, sought_end (sought S) (omega arith))

-- ---- the search in a word that shows the elements with a row through them

-- how many bits of a word are set from bit 1 on, without a gap
abbrev pub ones : ℕ → ℕ
ones w = trailing_ones w64 (w / 2)

bit_next : (w i : ℕ) → bit w (suc i) ≡ eqb (bit_at (w / 2) i) 1
unfolding bit
bit_next w i = bit_suc w i

zero_next : {w : ℕ} → w < 2 ^ 64 → (ones w < 64) × (bit_at (w / 2) (ones w) ≡ 0) × ((i : ℕ) → i < ones w → bit_at (w / 2) i ≡ 1)
zero_next {w} l = bit_at-trailing_ones w64 (w / 2) (omega arith)

-- where the word shows the elements of ring d with a row through them
module _ (t : Table) (d : ℕ) {w : ℕ} (l : w < 2 ^ 64)
    (shown : (e : ℕ) → Element t.elements e → not (bit w e) ≡ clear t d (mirror t.elements d e)) where
  free_bit : (k : ℕ) → k < t.elements → free t d k ≡ not (eqb (bit_at (w / 2) k) 1)
  free_bit k m = sym (shown (suc k) (record { low = omega arith; high = omega arith })) ∙ ap not (bit_next w k)

  taken : (k : ℕ) → k < t.elements → k < ones w → T (free t d k) → ⊥
  taken k m h = of_false (free_bit k m ∙ ap (λ (x : ℕ). not (eqb x 1)) ((zero_next l).2 k h))

  -- no element before n + 1 is clear, as the word has ones there
  before : {n : ℕ} → n ≤ ones w → n ≤ t.elements → Searched t d (n + 1)
  before h m = searched (record { within = m; none = λ k l. taken k (omega arith) (omega arith) })

  pub found_cut : ones w < t.elements → ones w + 1 ≡ cut t d
  found_cut h =
      let e : free t d (ones w) ≡ true = free_bit (ones w) h ∙ ap (λ (x : ℕ). not (eqb x 1)) (zero_next l).1 in
      let z : suc (ones w) ≡ ones w + 1 = omega arith in
      searched_found (before (omega arith) (omega arith)) (omega arith) (rw z at e)

  pub found_none : t.elements ≤ ones w → cut t d ≡ t.elements + 1
  found_none h = searched_all (before h (omega arith)) (omega arith)
