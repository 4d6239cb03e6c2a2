-- What the loops keep: one pass over the rows by their ends, and the walk up the line.
--
--   Filling s i ends words                      the words of rows by their end, one for each of s elements, when i rows are in
--   Here n first second e starts ends w         what stands at element e: some row starts, some row ends, and the rows across it
--   Walked n first second e was begun k words   the walk, when it has come to element e: k words of `was` are filled with sets
--   Ended n first second e was begun k words    the walk at e, when the rows that end there are done and those that start there are not
--
-- `begun` is the walk's one bool: some row has started since the last second end.
use mathlib.Core.Path.{◌≡◌, refl, sym, ap, ap₂, ◌∙◌}
use mathlib.Core.Logic.{◌⊎◌, inl, inr, ⊎_elim, ◌≢◌}
use mathlib.Core.List.{List, [], ◌∷◌}
use mathlib.Core.Bool.{Bool, true, false, not, ◌&&◌, ◌||◌, cond, and-true}
use Prim.Native.Nat.{ℕ, ◌+◌, ◌*◌, ◌%◌, ◌^◌, ◌≤◌, ◌<◌}
use native.Mathlib.Numerals.{add-one}
use native.Mathlib.Omega.{arith}
use lib.Bits.{bit_or, bit_xor}
use lib.Dec.{T, eqb, ltb, eqb→eq, ltb→lt, lt→ltb}
use lib.ListN.{length, set, replicate, length-append, length-set, length-replicate}
use lib.Seq.{get_or-set_same, get_or-set_other}
use Rattle.numbers.specs.Word.{bit, word}
use Rattle.numbers.specs.Lists.{at}
use Rattle.numbers.proofs.Truth.{both, fst, snd, decide, is_true, is_false, of_false, same, eqb_of, le_or_lt}
use Rattle.numbers.proofs.Finite.{any_of, any_none}
use Rattle.numbers.proofs.Word.{word_in, word_out, bit_word, bit_zero, bit_or_lem, bit_xor_lem, bit_ext}
use Rattle.numbers.proofs.Lists.{Filled, filled_start, filled_put, filled_take, filled_rest, zeros_at}
use Rattle.rules.specs.Bounds.{max_rows}
use Rattle.sets.specs.Walk.{line_size, across, ends_at, RowsAt}
use Rattle.sets.specs.Sets.{OnLine, SetWords}
use Rattle.sets.proofs.Overlap.{started, closes, across_is, across_of}
use Rattle.sets.proofs.List.{across_word, sets_to, bit_across, sets_to_none, sets_to_put, sets_to_skip, sets_to_few, sets_are}

-- ---- rows by their ends

pub record Filling (s n : ℕ) (ends : ℕ → ℕ) (words : List ℕ) : Type 0 where
  pub size : length words ≡ s
  pub held : (e : ℕ) → e < s → at words e ≡ word n (λ j. eqb (ends j) e)

pub filling_start : (s : ℕ) (ends : ℕ → ℕ) → Filling s 0 ends (replicate s 0)
unfolding word
filling_start s ends = record { size = length-replicate {A = ℕ} s 0; held = λ e l. zeros_at s e }

pub filling_next : {s i : ℕ} {ends : ℕ → ℕ} {words : List ℕ} (d : ℕ) → Filling s i ends words → i < max_rows → d ≡ ends i → d < s
    → Filling s (i + 1) ends (set words d (bit_or (at words d) (1 * 2 ^ i % 2 ^ 64)))
filling_next {s} {i} {ends} {words} d F l q h = record {
  size = length-set words d _ ∙ F.size;
  held = λ e m.
      ⊎_elim
      (λ (p : T (eqb e d)).
      let z : e ≡ d = eqb→eq e d p in
      ap (at (set words d _)) z ∙ get_or-set_same words d _ 0 (omega (arith, F.size))
      ∙ word_in i (λ j. eqb (ends j) e) (at words d) (omega arith) (ap (at words) (sym z) ∙ F.held e m) (eqb_of _ _ (sym q ∙ sym z)))
      (λ (p : T (eqb e d) → ⊥).
      get_or-set_other words d e _ 0 (λ z. p (eqb_of e d z))
      ∙ word_out i (λ j. eqb (ends j) e) (at words e) (F.held e m) (λ t. p (eqb_of e d (sym (eqb→eq (ends i) e t) ∙ sym q))))
      (decide (eqb e d));
}

pub filling_end : {n i : ℕ} {ends : ℕ → ℕ} {words : List ℕ} → i ≡ n → Filling line_size i ends words → RowsAt n ends words
filling_end {n} {ends = ends} {words = words} q F = record {
  size = F.size;
  row = λ e k l.
      ap (λ (v : ℕ). bit v k) (F.held e l ∙ ap (λ (m : ℕ). word m (λ j. eqb (ends j) e)) q) ∙ bit_word n (λ j. eqb (ends j) e) k;
}

module _ {n : ℕ} {ends : ℕ → ℕ} {words : List ℕ} (R : RowsAt n ends words) (e : ℕ) (l : e < line_size) where
  -- a word that is 0 has no row
  pub none_there : at words e ≡ 0 → ends_at n ends e ≡ false
  none_there z =
      any_none n (λ j. eqb (ends j) e)
      (λ j h t.
      of_false (sym (R.row e j l) ∙ ap (λ (v : ℕ). bit v j) z ∙ bit_zero j) (both (ltb j n) (eqb (ends j) e) (lt→ltb j n h) t))

  pub some_there : at words e ≢ 0 → ends_at n ends e ≡ true
  some_there d =
      is_true (ends_at n ends e)
      (⊎_elim (λ t. t)
      (λ f. absurd (d (bit_ext (at words e) 0
      (λ j. R.row e j l
      ∙ is_false (ltb j n && eqb (ends j) e)
      (λ t. f (any_of n (λ j. eqb (ends j) e) j (ltb→lt j n (fst (ltb j n) (eqb (ends j) e) t)) (snd (ltb j n) (eqb (ends j) e) t)))
      ∙ sym (bit_zero j)))))
      (decide (ends_at n ends e)))

-- ---- the rows across an element, and across the next one

-- no row starts before element 0
pub across_start : (n : ℕ) (first second : ℕ → ℕ) → 0 ≡ across_word n first second 0
across_start n first second =
    bit_ext 0 (across_word n first second 0)
    (λ i. bit_zero i
    ∙ sym (bit_across n first second 0 i
    ∙ is_false (across n first second 0 i) (λ t. let z : ⊥ = omega (arith, (across_is n first second 0 i t).1) in z)))

grown : (A B C D : Bool) → (T D → (T A × (T B → ⊥)) ⊎ T C) → (T A → (T B → ⊥) → T D) → (T B → T A) → (T C → T D)
    → (cond A (not B) B || C) ≡ D
grown true true C D f g h k = same C D k (λ t. ⊎_elim (λ w. absurd (w.1 tt)) (λ c. c) (f t))
grown true false C D f g h k = sym (is_true D (g tt (λ b. b)))
grown false true C D f g h k = absurd (h tt)
grown false false C D f g h k = same C D k (λ t. ⊎_elim (λ w. absurd w.0) (λ c. c) (f t))

module _ {n : ℕ} {first second : ℕ → ℕ} (line : (i : ℕ) → i < n → first i < second i) {starts ends : List ℕ}
    (S : RowsAt n first starts) (E : RowsAt n second ends) where
  -- those that end at e leave, those that start there join
  pub across_next : (e w : ℕ) → e < line_size → w ≡ across_word n first second e
      → bit_or (bit_xor w (at ends e)) (at starts e) ≡ across_word n first second (e + 1)
  across_next e w l q =
      bit_ext (bit_or (bit_xor w (at ends e)) (at starts e)) (across_word n first second (e + 1))
      (λ i.
      bit_or_lem (bit_xor w (at ends e)) (at starts e) i
      ∙ ap₂ ◌||◌
      (bit_xor_lem w (at ends e) i
      ∙ ap₂ (λ (a b : Bool). cond a (not b) b) (ap (λ (v : ℕ). bit v i) q ∙ bit_across n first second e i) (E.row e i l))
      (S.row e i l)
      ∙ moved e i ∙ sym (bit_across n first second (e + 1) i))
    where
      there : (g : ℕ → ℕ) (e i : ℕ) → T (ltb i n && eqb (g i) e) → (i < n) × (g i ≡ e)
      there g e i t = (ltb→lt i n (fst (ltb i n) (eqb (g i) e) t), eqb→eq (g i) e (snd (ltb i n) (eqb (g i) e) t))

      moved : (e i : ℕ)
          → (cond (across n first second e i) (not (ltb i n && eqb (second i) e)) (ltb i n && eqb (second i) e)
          || (ltb i n && eqb (first i) e)) ≡ across n first second (e + 1) i
      moved e i =
          grown (across n first second e i) (ltb i n && eqb (second i) e) (ltb i n && eqb (first i) e) (across n first second (e + 1) i)
          (λ t.
          let a = across_is n first second (e + 1) i t in
          ⊎_elim
          (λ (m : e ≤ first i). inr (both (ltb i n) (eqb (first i) e) (lt→ltb i n a.0) (eqb_of (first i) e (omega arith))))
          (λ (m : first i < e).
          inl (across_of n first second e i a.0 m (omega arith), λ b. let q = there second e i b in omega arith))
          (le_or_lt e (first i)))
          (λ t b.
          let a = across_is n first second e i t in
          let d : second i ≢ e = λ q. b (both (ltb i n) (eqb (second i) e) (lt→ltb i n a.0) (eqb_of (second i) e q)) in
          across_of n first second (e + 1) i a.0 (omega arith) (omega arith))
          (λ t. let b = there second e i t in across_of n first second e i b.0 (omega (arith, line i b.0)) (omega arith))
          (λ t. let c = there first e i t in across_of n first second (e + 1) i c.0 (omega arith) (omega (arith, line i c.0)))

-- what stands at e, as the walk sees it

pub record Here (n : ℕ) (first second : ℕ → ℕ) (e : ℕ) (starts ends : Bool) (word : ℕ) : Type 0 where
  pub starts_is : starts ≡ ends_at n first e
  pub ends_is : ends ≡ ends_at n second e
  pub word_is : (i : ℕ) → bit word i ≡ across n first second e i

pub here : (n : ℕ) (first second : ℕ → ℕ) (e w : ℕ) → w ≡ across_word n first second e
    → Here n first second e (ends_at n first e) (ends_at n second e) w
here n first second e w q = record {
  starts_is = refl;
  ends_is = refl;
  word_is = λ i. ap (λ (v : ℕ). bit v i) q ∙ bit_across n first second e i;
}

-- ---- the walk

pub record Walked (n : ℕ) (first second : ℕ → ℕ) (e : ℕ) (was : List ℕ) (begun : Bool) (k : ℕ) (words : List ℕ) : Type 0 where
  pub begun_is : begun ≡ started n first second e
  pub filled : Filled was words k (sets_to n first second e)

pub record Ended (n : ℕ) (first second : ℕ → ℕ) (e : ℕ) (was : List ℕ) (begun : Bool) (k : ℕ) (words : List ℕ) : Type 0 where
  pub begun_is : begun ≡ (started n first second e && not (ends_at n second e))
  pub filled : Filled was words k (sets_to n first second (e + 1))

pub walked_start : (n : ℕ) (first second : ℕ → ℕ) (was : List ℕ) → Walked n first second 0 was false 0 was
unfolding started
walked_start n first second was = record { begun_is = refl; filled = rw (sets_to_none n first second) (filled_start was) }

started_next : (n : ℕ) (first second : ℕ → ℕ) (e : ℕ) (starts : Bool) → starts ≡ ends_at n first e
    → started n first second (e + 1) ≡ (starts || (started n first second e && not (ends_at n second e)))
unfolding started
started_next n first second e starts h =
    ap (started n first second) (add-one e) ∙ ap (λ (b : Bool). b || (started n first second e && not (ends_at n second e))) (sym h)

-- the same state under other names
pub ended_as : {n : ℕ} {first second : ℕ → ℕ} {e : ℕ} {was : List ℕ} {begun begun' : Bool} {k k' : ℕ} {words words' : List ℕ}
    → words' ≡ words → k' ≡ k → begun' ≡ begun → Ended n first second e was begun k words → Ended n first second e was begun' k' words'
ended_as p q r E = record { begun_is = r ∙ E.begun_is; filled = rw (p, q) E.filled }

module _ {n : ℕ} {first second : ℕ → ℕ} {e : ℕ} {was : List ℕ} {begun : Bool} {k : ℕ} {words : List ℕ} {starts ends : Bool} {w : ℕ} where
  -- whether a set closes at e
  closes_is : Walked n first second e was begun k words → Here n first second e starts ends w → closes n first second e ≡ (ends && begun)
  closes_is W P = sym (ap₂ ◌&&◌ P.ends_is W.begun_is)

  -- a set closes: there is room for it, and its word is put
  pub walked_room : Walked n first second e was begun k words → Here n first second e starts ends w → ends ≡ true → begun ≡ true → k < n
  walked_room W P h o =
      omega (
        arith,
        W.filled.count,
        ap length (sets_to_put n first second e (closes_is W P ∙ ap₂ ◌&&◌ h o)),
        length-append (sets_to n first second e) (across_word n first second e ∷ []),
        sets_to_few n first second (e + 1),
      )

  pub ended_put : Walked n first second e was begun k words → Here n first second e starts ends w → ends ≡ true → begun ≡ true
      → n ≤ length was → Ended n first second e was false (k + 1) (set words k w)
  ended_put W P h o l = record {
    begun_is = sym (ap₂ (λ (a b : Bool). a && not b) (sym W.begun_is ∙ o) (sym P.ends_is ∙ h));
    filled =
        let q : across_word n first second e ≡ w =
        bit_ext (across_word n first second e) w (λ i. bit_across n first second e i ∙ sym (P.word_is i)) in
        rw (sets_to_put n first second e (closes_is W P ∙ ap₂ ◌&&◌ h o), q) (filled_put w W.filled (omega (arith, walked_room W P h o)));
  }

  -- rows end at e, and no set does
  pub ended_none : Walked n first second e was begun k words → Here n first second e starts ends w → ends ≡ true → begun ≡ false
      → Ended n first second e was false k words
  ended_none W P h o = record {
    begun_is = sym (ap (λ (a : Bool). a && not (ends_at n second e)) (sym W.begun_is ∙ o));
    filled = rw (sets_to_skip n first second e (closes_is W P ∙ ap₂ ◌&&◌ h o)) W.filled;
  }

  -- no row ends at e
  pub ended_still : Walked n first second e was begun k words → Here n first second e starts ends w → ends ≡ false
      → Ended n first second e was begun k words
  ended_still W P h = record {
    begun_is =
        W.begun_is
        ∙ sym (ap (λ (b : Bool). started n first second e && not b) (sym P.ends_is ∙ h) ∙ and-true (started n first second e));
    filled = rw (sets_to_skip n first second e (closes_is W P ∙ ap (λ (a : Bool). a && begun) h)) W.filled;
  }

  -- rows start at e, or none does
  pub walked_starts : Ended n first second e was begun k words → Here n first second e starts ends w → starts ≡ true
      → {begun' : Bool} → begun' ≡ true → Walked n first second (e + 1) was begun' k words
  walked_starts E P h r = record {
    begun_is =
        r ∙ sym (started_next n first second e starts P.starts_is
        ∙ ap (λ (b : Bool). b || (started n first second e && not (ends_at n second e))) h);
    filled = E.filled;
  }

  pub walked_on : Ended n first second e was begun k words → Here n first second e starts ends w → starts ≡ false
      → {begun' : Bool} → begun' ≡ begun → Walked n first second (e + 1) was begun' k words
  walked_on E P h r = record {
    begun_is =
        r ∙ E.begun_is
        ∙ sym (started_next n first second e starts P.starts_is
        ∙ ap (λ (b : Bool). b || (started n first second e && not (ends_at n second e))) h);
    filled = E.filled;
  }

-- past the last element: the list is whole
pub walked_end : {n : ℕ} {first second : ℕ → ℕ} {top e : ℕ} {was : List ℕ} {begun : Bool} {k : ℕ} {words : List ℕ}
    → OnLine n first second top → top < e → length was ≡ max_rows → ((i : ℕ) → at was i ≡ 0) → Walked n first second e was begun k words
    → SetWords n first second k words
walked_end {n} {first} {second} {e = e} O l size none W = record {
  size = W.filled.same ∙ size;
  few = omega (arith, W.filled.count, sets_to_few n first second e);
  sets = rw (filled_take W.filled) (sets_are n first second O.line O.some e (λ i m. omega (arith, O.within i m)));
  rest = λ i m. filled_rest W.filled i m ∙ none i;
}
