-- The list of an element's moves: its entries are moves, in ascending order, and all of them.
--
--   Between P a b xs   the entries xs have P, and ascending ranks from a on, all below b
--   Has xs x           entry x stands in xs
use mathlib.Core.Path.{◌≡◌, refl, sym, subst, ◌∙◌}
use mathlib.Core.Logic.{⊎_elim, inl, inr, ◌⊎◌}
use mathlib.Core.Bool.{Bool, true, false, cond, ◌&&◌}
use mathlib.Core.List.{List, [], ◌∷◌, ◌++◌}
use Prim.Native.Nat.{ℕ, zero, suc, ◌+◌, ◌*◌, ◌≤◌, ◌<◌}
use native.Mathlib.Nat.{not-suc-le-zero, le_of_suc-le-suc}
use native.Mathlib.Omega.{arith}
use lib.Dec.{T, eqb, eqb→eq}
use lib.ListN.{length, get_or}
use Rattle.numbers.specs.Finite.{any}
use Rattle.numbers.specs.Word.{bit}
use Rattle.numbers.specs.Lists.{at, each}
use Rattle.numbers.proofs.Truth.{eqb_of, decide, is_true, both, fst, snd, le_or_lt}
use Rattle.numbers.proofs.Finite.{below, least, any_of}
use Rattle.rules.specs.Bus.{Table, overlap}
use Rattle.rules.specs.Loads.{hyperperiod}
use Rattle.rules.specs.ElementList.{Entry, move, way_moves, slot_moves, element_moves, IsMove, BadWord}
use Rattle.lists.specs.Entries.{rank}
use Rattle.table.specs.Sound.{Sound}
use Rattle.maker.proofs.Words.{picks_none, picks_one}
use Rattle.maker.proofs.Bad.{first_overlap, second_overlap}

abbrev none : Entry
none = move 0 0 0

-- ---- in order

module _ (P : Entry → Type 0) where
  unfoldable pub Between : (a b : ℕ) → List Entry → Type 0
  Between a b [] = a ≤ b
  Between a b (x ∷ xs) = (a ≤ rank x) × P x × Between (rank x + 1) b xs

  lower : (a a' b : ℕ) (xs : List Entry) → a' ≤ a → Between a b xs → Between a' b xs
  unfolding Between
  lower a a' b [] l B = omega arith
  lower a a' b (x ∷ xs) l B = (omega (arith, B.0), B.1, B.2)

  join : (a b c : ℕ) (xs ys : List Entry) → Between a b xs → Between b c ys → Between a c (xs ++ ys)
  unfolding Between
  join a b c [] ys B C = lower b a c ys B C
  join a b c (x ∷ xs) ys B C = (B.0, B.1, join (rank x + 1) b c xs ys B.2 C)

  -- stretch s from 2 s to 2 s + 2
  pub stretches : (n : ℕ) (f : ℕ → List Entry) → ((s : ℕ) → s < n → Between (2 * s) (2 * s + 2) (f s)) → Between 0 (2 * n) (each n f)
  unfolding Between each
  stretches zero f h = omega arith
  stretches (suc n) f h =
      let e : 2 * n + 2 ≡ 2 * suc n = omega arith in
      join 0 (2 * n) (2 * suc n) (each n f) (f n) (stretches n f (λ s l. h s (omega arith)))
      (rw e at (h n (omega arith)))

  pub has : (a b : ℕ) (xs : List Entry) → Between a b xs → (k : ℕ) → k < length xs → P (get_or xs k none)
  unfolding Between
  has a b [] B k l = absurd (not-suc-le-zero l)
  has a b (x ∷ xs) B zero l = B.1
  has a b (x ∷ xs) B (suc k) l = has (rank x + 1) b xs B.2 k (le_of_suc-le-suc l)

  from : (a b : ℕ) (xs : List Entry) → Between a b xs → (k : ℕ) → k < length xs → a ≤ rank (get_or xs k none)
  unfolding Between
  from a b [] B k l = absurd (not-suc-le-zero l)
  from a b (x ∷ xs) B zero l = B.0
  from a b (x ∷ xs) B (suc k) l = omega (arith, B.0, from (rank x + 1) b xs B.2 k (le_of_suc-le-suc l))

  pub ascends : (a b : ℕ) (xs : List Entry) → Between a b xs → (j k : ℕ) → j < k → k < length xs
      → rank (get_or xs j none) < rank (get_or xs k none)
  unfolding Between
  ascends a b [] B j k m l = absurd (not-suc-le-zero l)
  ascends a b (x ∷ xs) B j zero m l = absurd (not-suc-le-zero m)
  ascends a b (x ∷ xs) B zero (suc k) m l = omega (arith, from (rank x + 1) b xs B.2 k (le_of_suc-le-suc l))
  ascends a b (x ∷ xs) B (suc j) (suc k) m l =
      ascends (rank x + 1) b xs B.2 j k (le_of_suc-le-suc m) (le_of_suc-le-suc l)

  pub bounded : (a b : ℕ) (xs : List Entry) → Between a b xs → a + length xs ≤ b
  unfolding Between
  bounded a b [] B = omega (arith, B)
  bounded a b (x ∷ xs) B = omega (arith, B.0, bounded (rank x + 1) b xs B.2)

  -- ---- one of several at most

  module _ (p : ℕ → Bool) (g : ℕ → Entry) where
    pub at_most_one : (n a b : ℕ) → a ≤ b → ((i j : ℕ) → i < n → j < n → T (p i) → T (p j) → i ≡ j)
        → ((i : ℕ) → i < n → T (p i) → P (g i) × (a ≤ rank (g i)) × (rank (g i) < b)) → Between a b (each n (λ i. cond (p i) (g i ∷ []) []))
    unfolding Between
    at_most_one n a b l only h =
        ⊎_elim
        (λ t.
        let w = least n p t in
        let q = h w.0 w.1 w.2 in
        rw (picks_one p g n w.0 w.1 w.2 (λ j m u. only j w.0 m w.1 u w.2)) (q.1, q.0, omega (arith, q.2)))
        (λ u. rw (picks_none p g n (λ i m t. u (any_of n p i m t))) l)
        (decide (any n p))

-- ---- all of them

abbrev pub Has : List Entry → Entry → Type 0
Has xs x = (k : ℕ) × (k < length xs) × (get_or xs k none ≡ x)

has_head : (x : Entry) (xs : List Entry) → Has (x ∷ xs) x
has_head x xs = (0, omega arith, refl)

has_tail : (x y : Entry) (xs : List Entry) → Has xs x → Has (y ∷ xs) x
has_tail x y xs q = (suc q.0, omega (arith, q.1), q.2)

has_left : (x : Entry) (xs ys : List Entry) → Has xs x → Has (xs ++ ys) x
has_left x [] ys (k, l, e) = absurd (not-suc-le-zero l)
has_left x (y ∷ xs) ys (zero, l, e) = (0, omega arith, e)
has_left x (y ∷ xs) ys (suc k, l, e) = has_tail x y (xs ++ ys) (has_left x xs ys (k, le_of_suc-le-suc l, e))

has_right : (x : Entry) (xs ys : List Entry) → Has ys x → Has (xs ++ ys) x
has_right x [] ys q = q
has_right x (y ∷ xs) ys q = has_tail x y (xs ++ ys) (has_right x xs ys q)

has_each : (x : Entry) (f : ℕ → List Entry) (n i : ℕ) → i < n → Has (f i) x → Has (each n f) x
unfolding each
has_each x f zero i l q = absurd (not-suc-le-zero l)
has_each x f (suc n) i l q =
    ⊎_elim (λ (e : i ≡ n). has_right x (each n f) (f n) (rw e at q)) (λ m. has_left x (each n f) (f n) (has_each x f n i m q)) (below l)

has_one : (p : Bool) (x : Entry) → T p → Has (cond p (x ∷ []) []) x
has_one p x t = rw (is_true p t) (has_head x [])

-- and nothing else: what stands in a list that is made of others stands in one of these

split : (x : Entry) (xs ys : List Entry) → Has (xs ++ ys) x → Has xs x ⊎ Has ys x
split x [] ys q = inr q
split x (y ∷ xs) ys (zero, l, e) = inl (0, omega arith, e)
split x (y ∷ xs) ys (suc k, l, e) =
    ⊎_elim (λ w. inl (has_tail x y xs w)) inr (split x xs ys (k, le_of_suc-le-suc l, e))

some : (x : Entry) (f : ℕ → List Entry) (n : ℕ) → Has (each n f) x → (i : ℕ) × (i < n) × Has (f i) x
unfolding each
some x f zero (k, l, e) = absurd (not-suc-le-zero l)
some x f (suc n) q =
    ⊎_elim (λ w. let v = some x f n w in (v.0, omega (arith, v.1), v.2)) (λ w. (n, omega arith, w)) (split x (each n f) (f n) q)

one : (p : Bool) (x y : Entry) → Has (cond p (y ∷ []) []) x → T p × (y ≡ x)
one true x y (zero, l, e) = (tt, e)
one true x y (suc k, l, e) = absurd (not-suc-le-zero (le_of_suc-le-suc l))
one false x y (k, l, e) = absurd (not-suc-le-zero l)

-- ---- the moves of an element

module _ (t : Table) (e : ℕ) (ws : List ℕ) where
  way_has : (end : ℕ → ℕ) (s i d : ℕ) → i < t.rows → T (bit (at ws s) i) → end i ≡ e
      → Has (way_moves t.rows end e s (at ws s) d) (move s i d)
  unfolding way_moves
  way_has end s i d l b q =
      has_each (move s i d) (λ j. cond (bit (at ws s) j && eqb (end j) e) (move s j d ∷ []) []) t.rows i l
      (has_one (bit (at ws s) i && eqb (end i) e) (move s i d) (both (bit (at ws s) i) (eqb (end i) e) b (eqb_of (end i) e q)))

  -- every move stands in the list
  pub all : (x : Entry) → IsMove t e ws x → Has (element_moves t e ws) x
  unfolding element_moves slot_moves
  all x m =
      has_each x (λ s. slot_moves t e s (at ws s)) (hyperperiod t) x.slot m.slot
      (⊎_elim
      (λ q. has_left x (way_moves t.rows t.second e x.slot (at ws x.slot) 0)
      (way_moves t.rows t.first e x.slot (at ws x.slot) 1)
      (subst (λ (y : Entry). Has (way_moves t.rows t.second e x.slot (at ws x.slot) 0) y) (same 0 q.0)
      (way_has t.second x.slot x.row 0 m.row m.moves q.1)))
      (λ q. has_right x (way_moves t.rows t.second e x.slot (at ws x.slot) 0)
      (way_moves t.rows t.first e x.slot (at ws x.slot) 1)
      (subst (λ (y : Entry). Has (way_moves t.rows t.first e x.slot (at ws x.slot) 1) y) (same 1 q.0)
      (way_has t.first x.slot x.row 1 m.row m.moves q.1)))
      m.end)
    where
      same : (d : ℕ) → x.way ≡ d → move x.slot x.row d ≡ x
      same d q = λ k. record { slot = x.slot; row = x.row; way = sym q k }

  way_is : (end : ℕ → ℕ) (s d : ℕ) (x : Entry) → Has (way_moves t.rows end e s (at ws s) d) x
      → (i : ℕ) × (i < t.rows) × T (bit (at ws s) i) × (end i ≡ e) × (move s i d ≡ x)
  unfolding way_moves
  way_is end s d x q =
      let w = some x (λ j. cond (bit (at ws s) j && eqb (end j) e) (move s j d ∷ []) []) t.rows q in
      let i = w.0 in
      let v = one (bit (at ws s) i && eqb (end i) e) x (move s i d) w.2 in
      (i, w.1, fst (bit (at ws s) i) (eqb (end i) e) v.0, eqb→eq (end i) e (snd (bit (at ws s) i) (eqb (end i) e) v.0), v.1)

  -- and nothing else does
  pub only : (x : Entry) → Has (element_moves t e ws) x → IsMove t e ws x
  unfolding element_moves slot_moves
  only x q =
      let w = some x (λ s. slot_moves t e s (at ws s)) (hyperperiod t) q in
      let s = w.0 in
      ⊎_elim
      (λ h.
      let v = way_is t.second s 0 x h in
      subst (IsMove t e ws) v.4 (record { slot = w.1; row = v.1; moves = v.2; end = inl (refl, v.3) }))
      (λ h.
      let v = way_is t.first s 1 x h in
      subst (IsMove t e ws) v.4 (record { slot = w.1; row = v.1; moves = v.2; end = inr (refl, v.3) }))
      (split x (way_moves t.rows t.second e s (at ws s) 0) (way_moves t.rows t.first e s (at ws s) 1) w.2)

  -- in words that aren't bad there is at most one each way, so the moves stand in order
  module _ (S : Sound t) (one : t.rings ≡ 1) (clean : (s : ℕ) → s < hyperperiod t → BadWord t (at ws s) → ⊥) where
    way_order : (end : ℕ → ℕ) → ((i j : ℕ) → i < t.rows → j < t.rows → end i ≡ end j → T (overlap t i j)) → (s d : ℕ) → s < hyperperiod t
        → ((i : ℕ) → i < t.rows → T (bit (at ws s) i) → end i ≡ e → IsMove t e ws (move s i d))
        → Between (IsMove t e ws) (2 * s + d) (2 * s + d + 1) (way_moves t.rows end e s (at ws s) d)
    unfolding way_moves
    way_order end meet s d l is =
        at_most_one (IsMove t e ws) (λ i. bit (at ws s) i && eqb (end i) e) (λ i. move s i d) t.rows (2 * s + d) (2 * s + d + 1)
        (omega arith) single (λ i m h. (is i m (moves i h) (ends i h), omega arith, omega arith))
      where
        moves : (i : ℕ) → T (bit (at ws s) i && eqb (end i) e) → T (bit (at ws s) i)
        moves i h = fst (bit (at ws s) i) (eqb (end i) e) h

        ends : (i : ℕ) → T (bit (at ws s) i && eqb (end i) e) → end i ≡ e
        ends i h = eqb→eq (end i) e (snd (bit (at ws s) i) (eqb (end i) e) h)

        apart : (i j : ℕ) → i < j → i < t.rows → j < t.rows → T (bit (at ws s) i && eqb (end i) e) → T (bit (at ws s) j && eqb (end j) e)
            → ⊥
        apart i j k m n x y = clean s l (inr (i, j, k, n, moves i x, moves j y, meet i j m n (ends i x ∙ sym (ends j y))))

        single : (i j : ℕ) → i < t.rows → j < t.rows → T (bit (at ws s) i && eqb (end i) e) → T (bit (at ws s) j && eqb (end j) e) → i ≡ j
        single i j m n x y =
            ⊎_elim (λ (k : i ≤ j). ⊎_elim (λ (q : j ≤ i). omega arith) (λ q. absurd (apart i j q m n x y)) (le_or_lt j i))
            (λ k. absurd (apart j i k n m y x)) (le_or_lt i j)

    pub ordered : Between (IsMove t e ws) 0 (2 * hyperperiod t) (element_moves t e ws)
    unfolding element_moves slot_moves
    ordered =
        stretches (IsMove t e ws) (hyperperiod t) (λ s. slot_moves t e s (at ws s))
        (λ s l.
        let a : 2 * s + 0 ≡ 2 * s = omega arith in
        let b : 2 * s + 0 + 1 ≡ 2 * s + 1 = omega arith in
        let c : 2 * s + 1 + 1 ≡ 2 * s + 2 = omega arith in
        join (IsMove t e ws) (2 * s) (2 * s + 1) (2 * s + 2) (way_moves t.rows t.second e s (at ws s) 0)
        (way_moves t.rows t.first e s (at ws s) 1)
        (rw (b, a) at (way_order t.second (second_overlap S one) s 0 l
        (λ i m h q. record { slot = l; row = m; moves = h; end = inl (refl, q) })))
        (rw c at (way_order t.first (first_overlap S one) s 1 l
        (λ i m h q. record { slot = l; row = m; moves = h; end = inr (refl, q) }))))
