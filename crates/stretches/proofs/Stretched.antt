-- Words and last ends by slot, kept by stretches.
--
--   Stretched l U W Z k s end last after words
--                         the stretches, whose numbers have U, stand for the words W and the last ends Z of the slots below l; a walk along
--                         them has come to stretch k, which begins at slot s
--   stretched_start, stretched_first, stretched_next
--                         all slots are one stretch; the walk begins anew; it goes on to the next stretch
--   stretched_parted      the stretch is parted
--   stretched_put         a row is put into all slots of the stretch
use mathlib.Core.Path.{◌≡◌, refl, sym, ap, ◌∙◌}
use mathlib.Core.Logic.{◌≢◌, ⊎_elim}
use mathlib.Core.List.{List}
use mathlib.Core.Bool.{Bool, ◌&&◌, ◌||◌, or-false}
use Prim.Native.Nat.{ℕ, ◌+◌, ◌^◌, ◌≤◌, ◌<◌}
use native.Mathlib.Omega.{arith}
use lib.Bits.{bit_or}
use lib.Dec.{T, eqb}
use lib.ListN.{length, set, length-set}
use lib.Seq.{get_or-set_same, get_or-set_other}
use Rattle.numbers.specs.Lists.{at}
use Rattle.numbers.specs.Word.{bit}
use Rattle.numbers.proofs.Truth.{decide, is_true, is_false, le_or_lt}
use Rattle.numbers.proofs.Word.{bit_or_lem, bit_pow}
use Rattle.stretches.specs.Stretches.{most_stretches, Tiles}
use Rattle.placing.proofs.Upto.{has}
use Rattle.placing.proofs.Scan.{within, within_is, within_of}
use Rattle.stretches.proofs.Stretches.{Cursor, cursor_start, cursor_low, cursor_end, cursor_is, cursor_of, cursor_next, Fitted}
use Rattle.stretches.proofs.Parted.{of_parted, begin_parted, number_parted, cursor_parted, tiles_parted}
use Rattle.stretches.proofs.Parted.{word_parted, last_parted}

pub record Stretched (l : ℕ) (U : ℕ → Type 0) (W Z : ℕ → ℕ) (k s : ℕ) (end last after words : List ℕ) : Type 0 where
  pub of : ℕ → ℕ
  pub begin : ℕ → ℕ
  pub tiles : Tiles l of begin end after
  pub cursor : Cursor l of begin k s
  pub used : (u : ℕ) → u < l → U (of u)
  pub shown : (u : ℕ) → u < l → W u ≡ at words (begin (of u))
  pub lasts : (u : ℕ) → u < l → Z u ≡ at last (of u)
  pub end_size : length end ≡ most_stretches
  pub last_length : length last ≡ most_stretches
  pub after_size : length after ≡ most_stretches
  pub room : l ≤ length words

-- all slots are stretch 0, which has no row
pub stretched_start : {l : ℕ} {U : ℕ → Type 0} {end last after words : List ℕ} → U 0 → at end 0 ≡ l → at last 0 ≡ 0
    → (0 < l → at words 0 ≡ 0) → length end ≡ most_stretches → length last ≡ most_stretches → length after ≡ most_stretches
    → l ≤ length words → Stretched l U (λ u. 0) (λ u. 0) 0 0 end last after words
stretched_start {l} {end = end} {after = after} used whole none clear es ls fs room = record {
  of = λ u. 0;
  begin = λ j. 0;
  tiles = tiles;
  cursor = cursor_start tiles;
  used = λ u h. used;
  shown = λ u h. sym (clear (omega arith));
  lasts = λ u h. sym none;
  end_size = es;
  last_length = ls;
  after_size = fs;
  room = room;
}
  where
    tiles : Tiles l (λ u. 0) (λ j. 0) end after
    tiles = record {
      zero = refl;
      few = λ u h. omega arith;
      begins = λ u h. omega arith;
      ends = λ u h. (omega arith, omega arith);
      holds = λ u v h a b. refl;
      on = λ u h a. omega arith;
    }

module _ {l : ℕ} {U : ℕ → Type 0} {W Z : ℕ → ℕ} {k s : ℕ} {end last after words : List ℕ}
    (S : Stretched l U W Z k s end last after words) where
  pub stretched_as : {N : ℕ → Type 0} → ((j : ℕ) → U j → N j) → Stretched l N W Z k s end last after words
  stretched_as f = record {
    of = S.of;
    begin = S.begin;
    tiles = S.tiles;
    cursor = S.cursor;
    used = λ u h. f (S.of u) (S.used u h);
    shown = S.shown;
    lasts = S.lasts;
    end_size = S.end_size;
    last_length = S.last_length;
    after_size = S.after_size;
    room = S.room;
  }

  at_cursor : {k' s' : ℕ} → Cursor l S.of S.begin k' s' → Stretched l U W Z k' s' end last after words
  at_cursor c = record {
    of = S.of;
    begin = S.begin;
    tiles = S.tiles;
    cursor = c;
    used = S.used;
    shown = S.shown;
    lasts = S.lasts;
    end_size = S.end_size;
    last_length = S.last_length;
    after_size = S.after_size;
    room = S.room;
  }

  pub stretched_first : Stretched l U W Z 0 0 end last after words
  stretched_first = at_cursor (cursor_start S.tiles)

  module _ (h : s < l) where
    pub stretched_next : Stretched l U W Z (at after k) (at end k) end last after words
    stretched_next = at_cursor (cursor_next S.tiles S.cursor h)

    pub stretched_low : k < most_stretches
    stretched_low = cursor_low S.tiles S.cursor h

    pub stretched_end : (s < at end k) × (at end k ≤ l)
    stretched_end = cursor_end S.tiles S.cursor h

    -- the slots of the stretch have its last end
    pub stretched_last : (u : ℕ) → s ≤ u → u < at end k → Z u ≡ at last k
    stretched_last u a b =
        S.lasts u (omega (arith, stretched_end)) ∙ ap (at last) (cursor_of S.tiles S.cursor h u a b)

    -- where it is parted, the second part has a new number
    pub stretched_parted : {N : ℕ → Type 0} {most new size : ℕ} {end' last' after' words' : List ℕ}
        → Fitted k s most new size end last after words end' last' after' words' → 0 < most → new < most_stretches
        → ((j : ℕ) → U j → N j) → (s + most < at end k → ((u : ℕ) → u < l → S.of u ≢ new) × N new)
        → Stretched l N W Z k s end' last' after' words'
    stretched_parted {N} {most} {new} {end' = end'} {last'} {after'} {words'} P some few f fresh =
        ⊎_elim whole parts (le_or_lt (at end k) (s + most))
      where
        whole : at end k ≤ s + most → Stretched l N W Z k s end' last' after' words'
        whole a = let p = P.whole a in rw (p.0, p.1, p.2, p.3) (stretched_as f)

        parts : s + most < at end k → Stretched l N W Z k s end' last' after' words'
        parts a =
            let p = P.parted a in
            let new-one = (fresh a).0 in
            let low : s < s + most = omega arith in
            rw (p.0, p.1, p.2, p.3) record {
              of = of_parted S.of (s + most) (at end k) new;
              begin = begin_parted S.begin (s + most) new;
              tiles = tiles_parted S.tiles S.cursor h (s + most) new low a few new-one S.end_size S.after_size;
              cursor = cursor_parted S.tiles S.cursor h (s + most) new low a few new-one S.end_size S.after_size;
              used = λ u d.
                  ⊎_elim (λ e. rw e (fresh a).1) (λ e. rw e (f (S.of u) (S.used u d)))
                  (number_parted S.tiles S.cursor h (s + most) new low a few new-one S.end_size S.after_size u);
              shown = λ u d.
                  S.shown u d
                  ∙ sym (word_parted S.tiles S.cursor h (s + most) new low a few new-one S.end_size S.after_size words
                  (omega (arith, S.room, stretched_end)) u d);
              lasts = λ u d.
                  S.lasts u d
                  ∙ sym (last_parted S.tiles S.cursor h (s + most) new low a few new-one S.end_size S.after_size last
                  S.last_length u d);
              end_size = length-set (set end new (at end k)) k (s + most) ∙ length-set end new (at end k) ∙ S.end_size;
              last_length = length-set last new (at last k) ∙ S.last_length;
              after_size = length-set (set after new (at after k)) k new ∙ length-set after new (at after k) ∙ S.after_size;
              room = omega (arith, length-set words (s + most) (at words s), S.room);
            }

    -- row i is put into its slots, and ends at z
    pub stretched_put : (i z w : ℕ) → w ≡ bit_or (at words s) (2 ^ i)
        → (W' Z' : ℕ → ℕ) × Stretched l U W' Z' k s end (set last k z) after (set words s w)
        × ((j u : ℕ) → u < l → has W' j u ≡ (has W j u || (within s (at end k) u && eqb j i)))
        × ((u : ℕ) → u < l → T (within s (at end k) u) → Z' u ≡ z)
        × ((u : ℕ) → u < l → (T (within s (at end k) u) → ⊥) → Z' u ≡ Z u)
    stretched_put i z w q = (
      (λ u. at (set words s w) (S.begin (S.of u))),
      (λ u. at (set last k z) (S.of u)),
      record {
        of = S.of;
        begin = S.begin;
        tiles = S.tiles;
        cursor = S.cursor;
        used = S.used;
        shown = λ u h. refl;
        lasts = λ u h. refl;
        end_size = S.end_size;
        last_length = length-set last k z ∙ S.last_length;
        after_size = S.after_size;
        room = omega (arith, length-set words s w, S.room);
      },
      (λ j u d. ⊎_elim (inside j u d) (outside j u d) (decide (within s (at end k) u))),
      (λ u d a.
          ap (at (set last k z)) (mine u a)
          ∙ get_or-set_same last k z 0 (omega (arith, stretched_low, S.last_length))),
      (λ u d a. get_or-set_other last k (S.of u) z 0 (λ e. a (theirs u d e)) ∙ sym (S.lasts u d)),
    )
      where
        mine : (u : ℕ) → T (within s (at end k) u) → S.of u ≡ k
        mine u a = let v = within_is s (at end k) u a in cursor_of S.tiles S.cursor h u v.0 v.1

        theirs : (u : ℕ) → u < l → S.of u ≡ k → T (within s (at end k) u)
        theirs u d e = let v = cursor_is S.tiles S.cursor h u d e in within_of s (at end k) u v.0 v.1

        -- a stretch that begins at slot s is this one
        begins_so : (u : ℕ) → u < l → S.begin (S.of u) ≡ s → S.of u ≡ k
        begins_so u d e =
            sym (S.tiles.holds u s d (omega arith) (omega (arith, S.tiles.begins u d, S.tiles.ends u d))) ∙ (S.cursor.here h).0

        inside : (j u : ℕ) → u < l → T (within s (at end k) u)
            → bit (at (set words s w) (S.begin (S.of u))) j ≡ (has W j u || (within s (at end k) u && eqb j i))
        inside j u d a =
            let b : S.begin (S.of u) ≡ s = ap S.begin (mine u a) ∙ (S.cursor.here h).1 in
            ap (λ (v : ℕ). bit v j)
            (ap (at (set words s w)) b ∙ get_or-set_same words s w 0 (omega (arith, S.room)) ∙ q)
            ∙ bit_or_lem (at words s) (2 ^ i) j
            ∙ ap (λ (v : ℕ). bit v j || bit (2 ^ i) j) (sym (S.shown u d ∙ ap (at words) b))
            ∙ ap (λ (v : Bool). has W j u || v)
            (bit_pow i j ∙ ap (λ (v : Bool). v && eqb j i) (sym (is_true (within s (at end k) u) a)))

        outside : (j u : ℕ) → u < l → (T (within s (at end k) u) → ⊥)
            → bit (at (set words s w) (S.begin (S.of u))) j ≡ (has W j u || (within s (at end k) u && eqb j i))
        outside j u d a =
            ap (λ (v : ℕ). bit v j)
            (get_or-set_other words s (S.begin (S.of u)) w 0 (λ e. a (theirs u d (begins_so u d e))) ∙ sym (S.shown u d))
            ∙ sym (ap (λ (v : Bool). has W j u || (v && eqb j i)) (is_false (within s (at end k) u) a) ∙ or-false (has W j u))
