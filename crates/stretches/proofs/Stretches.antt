-- Stretches: how they are walked, spread and parted.
--
--   Cursor l of begin k s    the walk has come to stretch k, which begins at slot s, or past the last, where s is l
--   cursor_start, cursor_low, cursor_end, cursor_is, cursor_next
--                            it begins; the stretch is one of those there can be; it ends past s; which slots it has; on to the next
--   Spreading l of begin was k s now
--                            the stretches before the cursor are spread
--   spreading_more, spreading_end
--                            one more stretch is spread; all are
--   Fitted k s most new size .. ..
--                            stretch k, which begins at slot s, has `size` slots, at most `most`: where it had more, those past them are
--                            now stretch `new`
--   fitted_whole, fitted_parted
--                            it had no more; it had, and is parted
--   fitted_end               where the stretch then ends
use mathlib.Core.Path.{◌≡◌, refl, sym, ap, ◌∙◌, subst}
use mathlib.Core.Logic.{inl, inr, ⊎_elim}
use mathlib.Core.List.{List}
use Prim.Native.Nat.{ℕ, ◌+◌, ◌-◌, ◌≤◌, ◌<◌}
use native.Mathlib.Omega.{arith}
use lib.ListN.{length, set, length-set}
use lib.Seq.{get_or-set_same}
use Rattle.numbers.specs.Lists.{at}
use Rattle.numbers.proofs.Truth.{le_or_lt}
use Rattle.stretches.specs.Stretches.{most_stretches, Tiles, Parted, Repeated, Spread}
use Rattle.placing.proofs.Kept.{kept_of}

-- ---- a walk along the stretches

pub record Cursor (l : ℕ) (of begin : ℕ → ℕ) (k s : ℕ) : Type 0 where
  pub inside : s ≤ l
  pub here : s < l → (of s ≡ k) × (begin k ≡ s)

module _ {l : ℕ} {of begin : ℕ → ℕ} {end after : List ℕ} (t : Tiles l of begin end after) where
  pub cursor_start : Cursor l of begin 0 0
  cursor_start = record { inside = omega arith; here = λ h. (t.zero, omega (arith, t.begins 0 h, ap begin t.zero)) }

  module _ {k s : ℕ} (c : Cursor l of begin k s) (h : s < l) where
    pub cursor_low : k < most_stretches
    cursor_low = omega (arith, t.few s h, (c.here h).0)

    pub cursor_end : (s < at end k) × (at end k ≤ l)
    cursor_end = subst (λ (j : ℕ). (s < at end j) × (at end j ≤ l)) (c.here h).0 (t.ends s h)

    -- the slots of the stretch
    pub cursor_is : (u : ℕ) → u < l → of u ≡ k → (s ≤ u) × (u < at end k)
    cursor_is u m q =
        (omega (arith, t.begins u m, ap begin q, (c.here h).1), omega (arith, (t.ends u m).0, ap (at end) q))

    pub cursor_of : (u : ℕ) → s ≤ u → u < at end k → of u ≡ k
    cursor_of u a b =
        let q = (c.here h).0 in
        t.holds s u h (omega (arith, ap begin q, (c.here h).1)) (omega (arith, ap (at end) q)) ∙ q

    pub cursor_next : Cursor l of begin (at after k) (at end k)
    cursor_next = record {
      inside = cursor_end.1;
      here = λ m.
          let q = (c.here h).0 in
          let o = t.on s h (omega (arith, ap (at end) q)) in
          let z : of (at end k) ≡ at after k = ap (λ (j : ℕ). of (at end j)) (sym q) ∙ sym o.0 ∙ ap (at after) q in
          (z, ap begin (sym z) ∙ ap (λ (j : ℕ). begin (of (at end j))) (sym q) ∙ o.1 ∙ ap (at end) q);
    }

-- ---- all stretches

pub record Spreading (l : ℕ) (of begin : ℕ → ℕ) (was : List ℕ) (k s : ℕ) (now : List ℕ) : Type 0 where
  pub cursor : Cursor l of begin k s
  pub done : (u : ℕ) → u < s → at now u ≡ at was (begin (of u))
  pub left : (u : ℕ) → s ≤ u → at now u ≡ at was u

module _ {l : ℕ} {of begin : ℕ → ℕ} {end after : List ℕ} (t : Tiles l of begin end after) where
  pub spreading_more : {was now out : List ℕ} {k s next to : ℕ} → Spreading l of begin was k s now → s < l → next ≡ at after k
      → to ≡ at end k → Repeated s to now out → Spreading l of begin was next to out
  spreading_more {was} {k = k} {s = s} S h p q r = let R = rw q at r in rw (p, q) record {
    cursor = cursor_next t S.cursor h;
    done = λ u m.
        ⊎_elim
        (λ a. R.same u a m ∙ S.left s (omega arith)
        ∙ ap (at was) (sym (S.cursor.here h).1 ∙ ap begin (sym (cursor_of t S.cursor h u a m))))
        (λ a. R.other u (inl a) ∙ S.done u a)
        (le_or_lt s u);
    left = λ u m. R.other u (inr m) ∙ S.left u (omega (arith, cursor_end t S.cursor h));
  }

  pub spreading_end : {was now : List ℕ} {k s : ℕ} → Spreading l of begin was k s now → l ≤ s → length now ≡ length was
      → Spread l of begin was now
  spreading_end {was} {now} S h e = record {
    same = λ u m. S.done u (omega arith);
    kept = kept_of l was now e (λ u m. S.left u (omega (arith, S.cursor.inside)));
  }

-- ---- a stretch that a row takes

pub record Fitted (k s most new size : ℕ) (end last after words end' last' after' words' : List ℕ) : Type 0 where
  pub whole : at end k ≤ s + most → (end' ≡ end) × (last' ≡ last) × (after' ≡ after) × (words' ≡ words) × (size ≡ at end k - s)
  pub parted : s + most < at end k
      → (end' ≡ set (set end new (at end k)) k (s + most)) × (last' ≡ set last new (at last k))
      × (after' ≡ set (set after new (at after k)) k new) × (words' ≡ set words (s + most) (at words s)) × (size ≡ most)

-- it has no more slots than that
pub fitted_whole : {k s most size : ℕ} {end last after words : List ℕ} (new : ℕ) → at end k ≤ s + most → size ≡ at end k - s
    → Fitted k s most new size end last after words end last after words
fitted_whole new h q = record { whole = λ a. (refl, refl, refl, refl, q); parted = λ a. absurd (omega arith) }

-- it has more, and is parted
pub fitted_parted : {k s most new : ℕ} {end last after words end' last' after' words' : List ℕ} → s + most < at end k
    → Parted k (s + most) new end last after end' last' after' → words' ≡ set words (s + most) (at words s)
    → Fitted k s most new most end last after words end' last' after' words'
fitted_parted h P q = record { whole = λ a. absurd (omega arith); parted = λ a. (P.ends, P.lasts, P.afters, q, refl) }

module _ {k s most new size : ℕ} {end last after words end' last' after' words' : List ℕ}
    (P : Fitted k s most new size end last after words end' last' after' words') where
  -- the stretch then has slots, at most as many as are left
  pub fitted_end : s < at end k → 0 < most → k < length end → (0 < size) × (size ≤ most) × (at end' k ≡ s + size)
  fitted_end h some low =
      ⊎_elim
      (λ a. let q = ap (λ (es : List ℕ). at es k) (P.whole a).0 in let z = (P.whole a).4 in (omega arith, omega arith, omega arith))
      (λ a.
      let q =
      ap (λ (es : List ℕ). at es k) (P.parted a).0
      ∙ get_or-set_same (set end new (at end k)) k (s + most) 0 (omega (arith, length-set end new (at end k))) in
      let z = (P.parted a).4 in
      (omega arith, omega arith, omega arith))
      (le_or_lt (at end k) (s + most))
