-- The list of overlap sets of rows on a line: the walk up the line makes it, and what it is used for.
--
--   across_word n first second e   the word of the rows across e
--   sets_to n first second e       the words of the overlap sets whose least second end is below e
use mathlib.Core.Path.{◌≡◌, refl, sym, ap, ◌∙◌, subst, fun_ext}
use mathlib.Core.Logic.{⊎_elim}
use mathlib.Core.List.{List, [], ◌∷◌, ◌++◌, map, append-nil}
use mathlib.Core.Bool.{Bool, true, false, ◌&&◌}
use Prim.Native.Nat.{ℕ, suc, ◌+◌, ◌≤◌, ◌<◌}
use native.Mathlib.Nat.{eq-or-lt_of_le, le_refl}
use native.Mathlib.Numerals.{add-one}
use native.Mathlib.Omega.{arith}
use lib.Dec.{T, ltb, eqb, lt→ltb, eqb→eq, eqb_refl}
use lib.ListN.{length, length-map}
use Rattle.numbers.specs.Finite.{only, sum, sum_in, count}
use Rattle.numbers.specs.Word.{bit, word}
use Rattle.numbers.specs.Lists.{at}
use Rattle.numbers.proofs.Truth.{both, fst, snd, same, along}
use Rattle.numbers.proofs.Finite.{any_le, sum_le, sum_swap, sum_const, sum_term, sum_in_eq, only_le}
use Rattle.numbers.proofs.Word.{bit_word, bit_ext}
use Rattle.rules.specs.Line.{meet, OverlapSet, Least, SetList}
use Rattle.rules.proofs.Sets.{set_in, sets_only}
use Rattle.sets.specs.Walk.{across, ends_at}
use Rattle.numbers.proofs.Lists.{at_map}
use Rattle.numbers.proofs.Finite.{count_eqb}
use Rattle.sets.proofs.Overlap.{closes, meet_of, across_is, across_of, ends_is, least_same, closing, inside, closed}
use Rattle.sets.proofs.Ascending.{one, keep, keep_each, keep_order, keep_all, keep_length, map_one}

abbrev pub across_word : ℕ → (first second : ℕ → ℕ) → ℕ → ℕ
across_word n first second e = word n (across n first second e)

abbrev pub sets_to : ℕ → (first second : ℕ → ℕ) → ℕ → List ℕ
sets_to n first second e = map (across_word n first second) (keep (closes n first second) e)

module _ (n : ℕ) (first second : ℕ → ℕ) where
  pub bit_across : (e i : ℕ) → bit (across_word n first second e) i ≡ across n first second e i
  bit_across e i =
      bit_word n (across n first second e) i
      ∙ same (ltb i n && across n first second e i) (across n first second e i) (snd (ltb i n) (across n first second e i))
      (λ t. both (ltb i n) _ (lt→ltb i n (across_is n first second e i t).0) t)

  -- the set that a word of the walk shows
  shows : (e : ℕ) → bit (across_word n first second e) ≡ across n first second e
  shows e = fun_ext (bit_across e)

  -- ---- the walk, one element further

  pub sets_to_none : sets_to n first second 0 ≡ []
  unfolding keep
  sets_to_none = refl

  sets_to_next : (e : ℕ)
      → sets_to n first second (e + 1) ≡ sets_to n first second e ++ one (closes n first second e) (across_word n first second e)
  unfolding keep
  sets_to_next e =
      ap (sets_to n first second) (add-one e)
      ∙ map_one (across_word n first second) (keep (closes n first second) e) (closes n first second e) e

  pub sets_to_put : (e : ℕ) → closes n first second e ≡ true
      → sets_to n first second (e + 1) ≡ sets_to n first second e ++ (across_word n first second e ∷ [])
  sets_to_put e h = sets_to_next e ∙ ap (λ (b : Bool). sets_to n first second e ++ one b (across_word n first second e)) h

  pub sets_to_skip : (e : ℕ) → closes n first second e ≡ false → sets_to n first second (e + 1) ≡ sets_to n first second e
  sets_to_skip e h =
      sets_to_next e ∙ ap (λ (b : Bool). sets_to n first second e ++ one b (across_word n first second e)) h
      ∙ append-nil (sets_to n first second e)

  -- Each set ends where a row ends, and no two at the same element: there are no more sets than rows.
  pub sets_to_few : (e : ℕ) → length (sets_to n first second e) ≤ n
  sets_to_few e =
      omega (
        arith,
        length-map (keep (closes n first second) e) (across_word n first second),
        keep_length (closes n first second) e,
        sum_le e (λ x. only (closes n first second x) 1) (λ x. count n (λ j. eqb (second j) x))
            (λ x l. omega (arith, closing_ends x, any_le n (λ j. eqb (second j) x))),
        sum_swap e n (λ j x. only (eqb (second j) x) 1),
        sum_le n (λ j. count e (λ x. eqb (second j) x)) (λ j. 1) (λ j l. count_eqb e (second j)),
        sum_const n 1,
      )
    where
      closing_ends : (x : ℕ) → only (closes n first second x) 1 ≤ only (ends_at n second x) 1
      closing_ends x = only_le (closes n first second x) (ends_at n second x) 1 1 (fst (ends_at n second x) _) (λ t. le_refl 1)

  module _ (line : (i : ℕ) → i < n → first i < second i) (pos : 0 < n) where
    -- the walk makes it, once it is past every second end
    module _ (E : ℕ) (end : (i : ℕ) → i < n → second i < E) where
      -- a word of the list is the word across the end in the same place
      at_end : (k : ℕ) → k < length (sets_to n first second E)
          → (e : ℕ) × (e ≡ at (keep (closes n first second) E) k) × T (closes n first second e)
          × (at (sets_to n first second E) k ≡ across_word n first second e)
      at_end k h =
          let l : k < length (keep (closes n first second) E) =
          rw (length-map (keep (closes n first second) E) (across_word n first second)) at h in (
            at (keep (closes n first second) E) k,
            refl,
            (keep_each (closes n first second) E k l).0,
            at_map (across_word n first second) (keep (closes n first second) E) k l,
          )

      least_at : (k d : ℕ) → k < length (sets_to n first second E) → Least second (bit (at (sets_to n first second E) k)) d
          → d ≡ at (keep (closes n first second) E) k
      least_at k d h x =
          let r = at_end k h in
          least_same (subst (λ (D : ℕ → Bool). Least second D d) (ap bit r.3 ∙ shows r.0) x)
          (closing n first second line r.0 r.2).1 ∙ r.1

      pub sets_are : SetList n (meet first second) second (sets_to n first second E)
      sets_are = record {
        each = λ k h. let r = at_end k h in
            subst (λ (D : ℕ → Bool). OverlapSet n (meet first second) D) (sym (ap bit r.3 ∙ shows r.0))
            (closing n first second line r.0 r.2).0;
        all = λ w o.
            let c = closed n first second line pos o in
            let j = ends_is n second c.0 (fst (ends_at n second c.0) _ c.1) in
            let r = keep_all (closes n first second) E c.0 (omega (arith, end j.0 j.1, j.2)) c.1 in (
              r.0,
              rw (length-map (keep (closes n first second) E) (across_word n first second)) r.1,
              at_map (across_word n first second) (keep (closes n first second) E) r.0 r.1 ∙ ap (across_word n first second) r.2
                  ∙ bit_ext (across_word n first second c.0) w (λ i. bit_across c.0 i ∙ sym (c.3 i)),
            );
        order = λ k l d e h m x y.
            omega (
              arith,
              least_at k d (omega arith) x,
              least_at l e m y,
              keep_order (closes n first second) E k l h
                  (rw (length-map (keep (closes n first second) E) (across_word n first second)) at m),
            );
      }

    -- ---- what the list is used for

    module _ (ws : List ℕ) (S : SetList n (meet first second) second ws) where
      pub sets_few : length ws ≤ n
      sets_few =
          let E = suc (sum n second) in
          let e = sets_only pos S (sets_are E (λ i l. omega (arith, sum_term n second i l))) in
          omega (arith, ap length e, sets_to_few E)

      -- an overlap set is shown by a word of the list
      pub shown : (D : ℕ → Bool) → OverlapSet n (meet first second) D → (k : ℕ) × (k < length ws) × ((i : ℕ) → bit (at ws k) i ≡ D i)
      shown D o = let r = set_in S o in (r.0, r.1, λ i. ap (λ (C : ℕ → Bool). C i) r.2)

      -- rows that all overlap one another are together in a set of the list
      pub together : (C : ℕ → Bool) → ((i : ℕ) → T (C i) → i < n)
          → ((i j : ℕ) → T (C i) → T (C j) → T (meet first second i j)) → (j : ℕ) → T (C j)
          → (k : ℕ) × (k < length ws) × ((i : ℕ) → T (C i) → T (bit (at ws k) i))
      together C rows pairs j t =
          let d = inside n first second line C rows pairs j t in
          let r = shown d.0 d.1 in
          (r.0, r.1, λ i u. along (sym (r.2 i)) (d.2 i u))

      -- so each row is in one
      pub listed : (i : ℕ) → i < n → (k : ℕ) × (k < length ws) × T (bit (at ws k) i)
      listed i l =
          let r = together (eqb i) (λ j t. rw (sym (eqb→eq i j t)) l)
          (λ j k t u. let p : i ≡ j = eqb→eq i j t in let q : i ≡ k = eqb→eq i k u in
          meet_of first second j k (omega (arith, line i l, ap first p, ap second q)) (omega (arith, line i l, ap first q, ap second p)))
          i (eqb_refl i) in
          (r.0, r.1, r.2 i (eqb_refl i))

      -- what bounds the sum over each word of the list bounds the sum over each overlap set
      pub sums : (x : ℕ → ℕ) (L : ℕ) → ((k : ℕ) → k < length ws → sum_in n (bit (at ws k)) x ≤ L)
          → (D : ℕ → Bool) → OverlapSet n (meet first second) D → sum_in n D x ≤ L
      sums x L h D o =
          let r = shown D o in
          omega (arith, h r.0 r.1, sum_in_eq n (bit (at ws r.0)) D x x (λ i l. r.2 i) (λ i l t. refl))

      -- a row's sets are consecutive
      pub consecutive : (i k l m : ℕ) → k ≤ l → l ≤ m → m < length ws → T (bit (at ws k) i) → T (bit (at ws m) i) → T (bit (at ws l) i)
      consecutive i k l m h g b u v =
          let ck = closed n first second line pos (S.each k (omega arith)) in
          let cl = closed n first second line pos (S.each l (omega arith)) in
          let cm = closed n first second line pos (S.each m b) in
          let au = across_is n first second ck.0 i (along (ck.3 i) u) in
          let av = across_is n first second cm.0 i (along (cm.3 i) v) in
          along (sym (cl.3 i)) (across_of n first second cl.0 i au.0
          (omega (arith, ascend k l ck.0 cl.0 h (omega arith) ck.2 cl.2))
          (omega (arith, ascend l m cl.0 cm.0 g b cl.2 cm.2)))
        where
          ascend : (k l d e : ℕ) → k ≤ l → l < length ws → Least second (bit (at ws k)) d → Least second (bit (at ws l)) e → d ≤ e
          ascend k l d e h m x y =
              ⊎_elim (λ (q : k ≡ l). let z : Least second (bit (at ws k)) e = rw q y in omega (arith, least_same x z))
              (λ (q : k < l). omega (arith, S.order k l d e q m x y))
              (eq-or-lt_of_le h)
