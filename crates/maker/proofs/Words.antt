-- Laws of the moves in the words of a plan.
use mathlib.Core.Path.{◌≡◌, refl, sym, ap, ◌∙◌}
use mathlib.Core.Logic.{⊎_elim, ◌≢◌}
use mathlib.Core.Bool.{Bool, false, cond, ◌&&◌}
use mathlib.Core.List.{List, [], ◌∷◌, ◌++◌, append_assoc, append-nil}
use Prim.Native.Nat.{ℕ, zero, suc, ◌+◌, ◌-◌, ◌*◌, ◌/◌, ◌%◌, ◌^◌, ◌≤◌, ◌<◌}
use native.Mathlib.Nat.{not-suc-le-zero}
use native.Mathlib.Omega.{arith}
use lib.Bits.{bit_and}
use lib.Dec.{T, eqb, eqb→eq, ltb, lt→ltb, ltb→lt}
use lib.ListN.{length, length-append}
use lib.Seq.{sets}
use Rattle.numbers.specs.Finite.{any}
use Rattle.numbers.specs.Word.{bit, word}
use Rattle.numbers.specs.Lists.{at, each}
use Rattle.numbers.proofs.Truth.{eqb_of, decide, is_true, is_false, along, fst, snd}
use Rattle.numbers.proofs.Finite.{below, any_of, least}
use Rattle.numbers.proofs.Word.{bit_zero, bit_ext, bit_lt, bit_and_lem, bit_word}
use Rattle.numbers.proofs.Lists.{Filled, filled_sets, each_none, each_next, each_eq}
use Rattle.rules.specs.Bounds.{max_rows}
use Rattle.rules.specs.ElementList.{Entry, move, way_moves}
use Rattle.lists.specs.declared.Entry.{Entry as Place}
use Rattle.lists.specs.Entries.{entry_of}
use Rattle.maker.specs.Words.{ending_at, picked, word_moves, plan_moves, AtMostOne, IsMove, flat, PutMoves}

-- ---- those of n that have p

module _ (p : ℕ → Bool) (g : ℕ → Entry) where
  abbrev one_if : ℕ → List Entry
  one_if i = cond (p i) (g i ∷ []) []

  pub picks_none : (n : ℕ) → ((i : ℕ) → i < n → T (p i) → ⊥) → each n one_if ≡ []
  unfolding each
  picks_none zero h = refl
  picks_none (suc n) h = rw (picks_none n (λ i l. h i (omega arith)), is_false (p n) (h n (omega arith)))

  pub picks_one : (n i : ℕ) → i < n → T (p i) → ((j : ℕ) → j < n → T (p j) → j ≡ i) → each n one_if ≡ g i ∷ []
  unfolding each
  picks_one zero i l t u = absurd (not-suc-le-zero l)
  picks_one (suc n) i l t u =
      ⊎_elim
      (λ (e : i ≡ n).
      let none : each n one_if ≡ [] = picks_none n (λ j m q. let z : ⊥ = omega (arith, u j (omega arith) q) in z) in
      rw (none, is_true (p n) (rw e at t), ← e))
      (λ m.
      let no : p n ≡ false = is_false (p n) (λ q. let z : ⊥ = omega (arith, u n (omega arith) q) in z) in
      let only : (j : ℕ) → j < n → T (p j) → j ≡ i = λ j k q. u j (omega arith) q in
      let rest : each n one_if ≡ g i ∷ [] = picks_one n i m t only in
      rw (rest, no))
      (below l)

  -- none past n
  pub picks_more : (n k : ℕ) → ((i : ℕ) → n ≤ i → T (p i) → ⊥) → each (n + k) one_if ≡ each n one_if
  unfolding each
  picks_more n zero h = let e : n + 0 ≡ n = omega arith in rw e
  picks_more n (suc k) h =
      let e : n + suc k ≡ suc (n + k) = omega arith in
      rw (e, picks_more n k h, is_false (p (n + k)) (h (n + k) (omega arith)), append-nil)

-- ---- a bit as the code tests it

pub bit_is : (w i : ℕ) → w / 2 ^ i % 2 ≡ 1 → T (bit w i)
unfolding bit
bit_is w i e = eqb_of (w / 2 ^ i % 2) 1 e

pub bit_is_not : (w i : ℕ) → w / 2 ^ i % 2 ≢ 1 → T (bit w i) → ⊥
unfolding bit
bit_is_not w i n t = n (eqb→eq (w / 2 ^ i % 2) 1 t)

-- ---- a word with at most one bit

pub some_bit : (x : ℕ) → x < 2 ^ 64 → x ≢ 0 → (i : ℕ) × (i < 64) × T (bit x i)
some_bit x l n =
    ⊎_elim (λ t. let w = least 64 (bit x) t in (w.0, w.1, w.2))
    (λ f.
    absurd (n (bit_ext x 0
    (λ i. is_false (bit x i) (λ t. f (any_of 64 (bit x) i (bit_lt 64 x i l t) t)) ∙ sym (bit_zero i)))))
    (decide (any 64 (bit x)))

pub picked_none : (s d : ℕ) → picked 0 s d ≡ []
unfolding picked
picked_none s d = picks_none (bit 0) (λ i. move s i d) max_rows (λ i l t. along (bit_zero i) t)

pub picked_one : (x s d i : ℕ) → AtMostOne x → i < 64 → T (bit x i) → picked x s d ≡ move s i d ∷ []
unfolding picked
picked_one x s d i o l t = picks_one (bit x) (λ i. move s i d) max_rows i l t (λ j m q. o j i q t)

-- ---- entries, joined

module _ (g : Entry → List ℕ) where
  pub flat_append : (xs ys : List Entry) → flat g (xs ++ ys) ≡ flat g xs ++ flat g ys
  unfolding flat
  flat_append [] ys = refl
  flat_append (x ∷ xs) ys = ap (λ (r : List ℕ). g x ++ r) (flat_append xs ys) ∙ sym (append_assoc (g x) (flat g xs) (flat g ys))

  pub flat_length : (k : ℕ) → ((x : Entry) → length (g x) ≡ k) → (xs : List Entry) → length (flat g xs) ≡ k * length xs
  unfolding flat
  flat_length k h [] = omega arith
  flat_length k h (x ∷ xs) = omega (arith, length-append (g x) (flat g xs), h x, flat_length k h xs)

  -- more entries, after p and those before them
  filled_flat : {was out : List ℕ} {n : ℕ} (k : ℕ) → ((x : Entry) → length (g x) ≡ k) → (p : List ℕ) (xs ys : List Entry)
      (out' : List ℕ) (m : ℕ) → Filled was out n (p ++ flat g xs) → out' ≡ sets out n (flat g ys) → m ≡ n + k * length ys → m ≤ length was
      → Filled was out' m (p ++ flat g (xs ++ ys))
  filled_flat k h p xs ys out' m F o e l =
      let same : (p ++ flat g xs) ++ flat g ys ≡ p ++ flat g (xs ++ ys) =
      append_assoc p (flat g xs) (flat g ys) ∙ ap (λ (r : List ℕ). p ++ r) (sym (flat_append xs ys)) in
      rw o (rw same at (filled_sets (flat g ys) m F (omega (arith, e, flat_length k h ys)) l))

  -- a word without a move, and one with one
  pub put_none : (x s d p n : ℕ) (was : List ℕ) → x ≡ 0 → PutMoves g (picked x s d) p was was n n
  unfolding flat
  put_none x s d p n was z =
      let none : picked x s d ≡ [] = rw z (picked_none s d) in
      record { holds = rw none; count = omega (arith, ap length none) }

  pub put_one : {x s d : ℕ} {r : Place} (p n : ℕ) (was now : List ℕ) → IsMove x s d r → now ≡ sets was p (g (entry_of r))
      → PutMoves g (picked x s d) p was now n (n + 1)
  unfolding flat
  put_one {r = r} p n was now M q =
      record { holds = rw (M.one, append-nil (g (entry_of r))) q; count = omega (arith, ap length M.one) }

-- ---- the plan's words, one after the other

module _ (a b : ℕ) (ws : List ℕ) where
  pub moves_empty : (g : Entry → List ℕ) → flat g (plan_moves a b 0 ws) ≡ []
  unfolding each flat
  moves_empty g = refl

  pub moves_none : length (plan_moves a b 0 ws) ≡ 0
  moves_none = ap length (each_none (λ s. word_moves a b s (at ws s)))

  pub moves_next : (s : ℕ)
      → plan_moves a b (s + 1) ws ≡ (plan_moves a b s ws ++ picked (bit_and (at ws s) a) s 0) ++ picked (bit_and (at ws s) b) s 1
  moves_next s =
      each_next s (λ s. word_moves a b s (at ws s))
      ∙ sym (append_assoc (plan_moves a b s ws) (picked (bit_and (at ws s) a) s 0) (picked (bit_and (at ws s) b) s 1))

  pub moves_length : (s : ℕ) → length (plan_moves a b (s + 1) ws)
      ≡ length (plan_moves a b s ws) + length (picked (bit_and (at ws s) a) s 0) + length (picked (bit_and (at ws s) b) s 1)
  moves_length s =
      ap length (moves_next s)
      ∙ length-append (plan_moves a b s ws ++ picked (bit_and (at ws s) a) s 0) (picked (bit_and (at ws s) b) s 1)
      ∙ ap (λ (k : ℕ). k + length (picked (bit_and (at ws s) b) s 1)) (length-append (plan_moves a b s ws) (picked (bit_and (at ws s) a) s 0))

  grows : (s k : ℕ) → length (plan_moves a b s ws) ≤ length (plan_moves a b (s + k) ws)
  grows s zero = let e : s + 0 ≡ s = omega arith in omega (arith, ap (λ (n : ℕ). length (plan_moves a b n ws)) e)
  grows s (suc k) =
      let e : s + suc k ≡ s + k + 1 = omega arith in
      omega (arith, grows s k, moves_length (s + k), ap (λ (n : ℕ). length (plan_moves a b n ws)) e)

  moves_grow : (s n : ℕ) → s ≤ n → length (plan_moves a b s ws) ≤ length (plan_moves a b n ws)
  moves_grow s n l =
      let e : s + (n - s) ≡ n = omega arith in
      omega (arith, grows s (n - s), ap (λ (n : ℕ). length (plan_moves a b n ws)) e)

-- ---- the moves of one word after another, put into a slice after `front`

-- n moves of the first s words stand in out, up to place p
pub record Written (g : Entry → List ℕ) (a b : ℕ) (ws front was out : List ℕ) (n p s : ℕ) : Type 0 where
  pub count : n ≡ length (plan_moves a b s ws)
  pub filled : Filled was out p (front ++ flat g (plan_moves a b s ws))

pub written_start : (g : Entry → List ℕ) (a b : ℕ) (ws : List ℕ) {front was : List ℕ} {p : ℕ} → Filled was was p front
    → Written g a b ws front was was 0 p 0
written_start g a b ws {front} F =
    record { count = sym (moves_none a b ws); filled = rw (moves_empty a b ws g, append-nil front) F }

module _ {g : Entry → List ℕ} {a b : ℕ} {ws front was out : List ℕ} {n p s : ℕ} (W : Written g a b ws front was out n p s) where
  abbrev xs : List Entry
  xs = picked (bit_and (at ws s) a) s 0

  abbrev ys : List Entry
  ys = picked (bit_and (at ws s) b) s 1

  -- up to word s and in it there are no more moves than in h words
  pub written_room : (h : ℕ) → s < h → n + length xs + length ys ≤ length (plan_moves a b h ws)
  written_room h l = omega (arith, W.count, moves_length a b ws s, moves_grow a b ws (s + 1) h (omega arith))

  -- both moves of word s, each of k places
  pub written_next : (k : ℕ) → ((x : Entry) → length (g x) ≡ k) → {out₁ out₂ : List ℕ} {n₁ n₂ p₁ : ℕ} (p₂ : ℕ)
      → PutMoves g xs p out out₁ n n₁ → p₁ ≡ p + k * length xs → PutMoves g ys p₁ out₁ out₂ n₁ n₂ → p₂ ≡ p₁ + k * length ys
      → p₂ ≤ length was → Written g a b ws front was out₂ n₂ p₂ (s + 1)
  written_next k wide {out₁} {out₂} {p₁ = p₁} p₂ P e Q f l =
      let ms = plan_moves a b s ws in
      let F = filled_flat g k wide front ms xs out₁ p₁ W.filled P.holds e (omega arith) in
      record {
        count = omega (arith, W.count, P.count, Q.count, moves_length a b ws s);
        filled = rw (moves_next a b ws s) (filled_flat g k wide front (ms ++ xs) ys out₂ p₂ F Q.holds f l);
      }

-- ---- a table's rows that end at an element

pub ending_none : (ends : ℕ → ℕ) (e : ℕ) → ending_at 0 ends e ≡ 0
unfolding word
ending_none ends e = refl

pub bit_ending : (n : ℕ) (ends : ℕ → ℕ) (e w i : ℕ)
    → bit (bit_and w (ending_at n ends e)) i ≡ (bit w i && (ltb i n && eqb (ends i) e))
bit_ending n ends e w i =
    bit_and_lem w (ending_at n ends e) i ∙ ap (λ (c : Bool). bit w i && c) (bit_word n (λ i. eqb (ends i) e) i)

pub picked_ending : (n : ℕ) (ends : ℕ → ℕ) (e s w d : ℕ) → n ≤ max_rows → picked (bit_and w (ending_at n ends e)) s d ≡ way_moves n ends e s w
    d
unfolding picked way_moves
picked_ending n ends e s w d l =
    let x : ℕ = bit_and w (ending_at n ends e) in
    let g : ℕ → Entry = λ i. move s i d in
    let all : n + (max_rows - n) ≡ max_rows = omega arith in
    let past : (i : ℕ) → n ≤ i → T (bit x i) → ⊥ =
    λ i h t.
    let q = snd (bit w i) (ltb i n && eqb (ends i) e) (along (bit_ending n ends e w i) t) in
    let z : ⊥ = omega (arith, ltb→lt i n (fst (ltb i n) (eqb (ends i) e) q)) in z in
    ap (λ (k : ℕ). each k (λ i. cond (bit x i) (g i ∷ []) [])) (sym all)
    ∙ picks_more (bit x) g n (max_rows - n) past
    ∙ each_eq n (λ i. cond (bit x i) (g i ∷ []) []) (λ i. cond (bit w i && eqb (ends i) e) (g i ∷ []) [])
    (λ i h.
    ap (λ (c : Bool). cond c (g i ∷ []) [])
    (bit_ending n ends e w i ∙ ap (λ (c : Bool). bit w i && (c && eqb (ends i) e)) (is_true (ltb i n) (lt→ltb i n h))))
