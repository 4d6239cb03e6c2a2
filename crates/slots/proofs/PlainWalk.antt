-- The plain walk: rows are given their slots one after another, element by element.
--
--   Placing f g i x l was s left now
--                         row i goes through the slots: it has come to slot s, with `left` of its load to place
--   placing_start, placing_skip, placing_take, placing_end
--                         it begins; a slot is not open; it takes a slot; it is done, at the last slot or with no load left
--   Coming n f g x l e words
--                         the rows that start before element e have their slots
--   Along n f g x l e r words
--                         and of those that start at element e, the ones before the row that r links to
--   coming_start, coming_end, along_start, along_more, along_end
--                         no row has its slots; all have; the walk comes to an element; one more row there has; all there have
use mathlib.Core.Path.{◌≡◌, refl, sym, ap, ◌∙◌, subst}
use mathlib.Core.Logic.{◌⊎◌, ⊎_elim}
use mathlib.Core.List.{List}
use mathlib.Core.Bool.{Bool, true, false, not, ◌&&◌, ◌||◌, or-false}
use Prim.Native.Nat.{ℕ, ◌+◌, ◌-◌, ◌^◌, ◌≤◌, ◌<◌}
use native.Mathlib.Omega.{arith}
use lib.Bits.{bit_or}
use lib.Dec.{T, ltb, eqb, eqb→eq}
use lib.ListN.{length, set}
use lib.Seq.{get_or-set_same, get_or-set_other}
use Rattle.numbers.specs.Finite.{any}
use Rattle.numbers.specs.Lists.{at}
use Rattle.numbers.specs.Word.{bit}
use Rattle.numbers.proofs.Truth.{fst, decide, same, is_true, is_false, along, eqb_of}
use Rattle.numbers.proofs.Finite.{any_of, least}
use Rattle.numbers.proofs.Word.{bit_zero, bit_or_lem, bit_pow}
use Rattle.rules.specs.Bounds.{max_rows}
use Rattle.rules.specs.Line.{meet}
use Rattle.rules.specs.Interval.{before, free}
use Rattle.rules.proofs.Interval.{chosen_eq}
use Rattle.sets.specs.Chained.{Link}
use Rattle.placing.specs.Filled.{Kept, FilledSlots}
use Rattle.placing.proofs.Kept.{kept_none, kept_set}
use Rattle.placing.proofs.Upto.{has, chosen, Upto, upto_none, upto_eq, upto_step, upto_words}
use Rattle.placing.proofs.Scan.{within, within_is, within_of, Scan, scan_start, scan_skip, scan_take, scan_end}
use Rattle.placing.proofs.Order.{taken, taken_is, taken_ahead, taken_more, taken_skip, taken_next, taken_none, taken_all, free_among}
use Rattle.slots.specs.Plain.{is_open, open_at, RowPlaced, Cleared}

-- ---- one row

pub record Placing (f g : ℕ → ℕ) (i x l : ℕ) (was : List ℕ) (s left : ℕ) (now : List ℕ) : Type 0 where
  pub scan : Scan l (has (at was)) (open_at f g i was) i x s left (has (at now))
  pub later : (u : ℕ) → s ≤ u → u < l → at now u ≡ at was u
  pub kept : Kept l was now

module _ {f g : ℕ → ℕ} {i x l : ℕ} {was : List ℕ} where
  pub placing_start : Placing f g i x l was 0 x was
  placing_start = record { scan = scan_start 0 (λ u h. absurd (omega arith)); later = λ u a b. refl; kept = kept_none l was }

  module _ {s left : ℕ} {now : List ℕ} (P : Placing f g i x l was s left now) (h : s < l) where
    -- the slot that row i has come to has its old word
    here : {b : Bool} → open_at f g i now s ≡ b → (u : ℕ) → s ≤ u → u < s + 1 → open_at f g i was u ≡ b
    here {b} q u a c =
        let e : u ≡ s = omega arith in
        ap (open_at f g i was) e
        ∙ subst (λ (w : ℕ). is_open f g i w ≡ b) (P.later s (omega arith) h) q

    pub placing_skip : open_at f g i now s ≡ false → Placing f g i x l was (s + 1) left now
    placing_skip q = record {
      scan = scan_skip P.scan (omega arith) (here q);
      later = λ u a b. P.later u (omega arith) b;
      kept = P.kept;
    }

    pub placing_take : {w : ℕ} → l ≤ length now → open_at f g i now s ≡ true → 0 < left → w ≡ bit_or (at now s) (2 ^ i)
        → Placing f g i x l was (s + 1) (left - 1) (set now s w)
    placing_take {w} room q some e = record {
      scan = let z : left - (s + 1 - s) ≡ left - 1 = omega arith in
          subst (λ (k : ℕ). Scan l (has (at was)) (open_at f g i was) i x (s + 1) k (has (at (set now s w)))) z
          (scan_take P.scan (omega arith) (omega arith) (here q) put);
      later = λ u a b. get_or-set_other now s u w 0 (λ z. let v : ⊥ = omega arith in v) ∙ P.later u (omega arith) b;
      kept = kept_set s w P.kept h;
    }
      where
        put : (j u : ℕ) → u < l → has (at (set now s w)) j u ≡ (has (at now) j u || (within s (s + 1) u && eqb j i))
        put j u m =
            ⊎_elim
            (λ a. let z : u ≡ s = eqb→eq u s a in
            ap (λ (v : ℕ). bit v j) (ap (at (set now s w)) z ∙ get_or-set_same now s w 0 (omega arith) ∙ e)
            ∙ bit_or_lem (at now s) (2 ^ i) j
            ∙ ap (λ (b : Bool). bit (at now s) j || b) (bit_pow i j)
            ∙ ap (λ (v : ℕ). bit (at now v) j || eqb j i) (sym z)
            ∙ ap (λ (b : Bool). bit (at now u) j || (b && eqb j i))
            (sym (is_true (within s (s + 1) u) (within_of s (s + 1) u (omega arith) (omega arith)))))
            (λ a. ap (λ (v : ℕ). bit v j) (get_or-set_other now s u w 0 (λ z. a (eqb_of u s z)))
            ∙ sym (ap (λ (b : Bool). bit (at now u) j || (b && eqb j i))
            (is_false (within s (s + 1) u) (λ t. let v = within_is s (s + 1) u t in a (eqb_of u s (omega arith))))
            ∙ or-false (bit (at now u) j)))
            (decide (eqb u s))

  pub placing_end : {s left : ℕ} {now : List ℕ} → Placing f g i x l was s left now → (l ≤ s) ⊎ (left ≡ 0)
      → RowPlaced f g i x l was now
  placing_end P over = record { had = scan_end P.scan over; kept = P.kept }

-- ---- from element to element

-- no row from n on is there
any_more : (n m : ℕ) (p : ℕ → Bool) → n ≤ m → ((j : ℕ) → T (p j) → j < n) → any m p ≡ any n p
any_more n m p le below =
    same (any m p) (any n p)
    (λ t. let w = least m p t in any_of n p w.0 (below w.0 w.2) w.2)
    (λ t. let w = least n p t in any_of m p w.0 (omega (arith, w.1)) w.2)

pub record Coming (n : ℕ) (f g x : ℕ → ℕ) (l e : ℕ) (words : List ℕ) : Type 0 where
  pub upto : Upto n (meet f g) f x l (taken n f e 0) (has (at words))

pub record Along (n : ℕ) (f g x : ℕ → ℕ) (l e r : ℕ) (words : List ℕ) : Type 0 where
  pub j : ℕ
  pub link : Link n f e j r
  pub upto : Upto n (meet f g) f x l (taken n f e j) (has (at words))

module _ {n : ℕ} {f g x : ℕ → ℕ} {l e : ℕ} {words : List ℕ} where
  pub coming_start : {was : List ℕ} → ((j : ℕ) → j < n → e ≤ f j) → Cleared l was words → Coming n f g x l e words
  coming_start h C = record {
    upto =
        upto_eq n (meet f g) f x l (λ j. false) (taken n f e 0) (has (at words)) (λ j. sym (taken_none n f e h j))
        (upto_none n (meet f g) f x l (has (at words)) (λ i s m. ap (λ (w : ℕ). bit w i) (C.none s m) ∙ bit_zero i));
  }

  pub along_start : {r : ℕ} → Coming n f g x l e words → Link n f e 0 r → Along n f g x l e r words
  along_start U L = record { j = 0; link = L; upto = U.upto }

  pub along_end : {r : ℕ} → Along n f g x l e r words → r ≡ 0 → Coming n f g x l (e + 1) words
  along_end A q = record {
    upto =
        upto_eq n (meet f g) f x l (taken n f e A.j) (taken n f (e + 1) 0) (has (at words))
        (taken_next n f e (subst (λ (d : ℕ). Link n f e A.j d) q A.link)) A.upto;
  }

  -- the row that r links to is given its slots
  pub along_more : {r i r' : ℕ} {out : List ℕ} → n ≤ max_rows → Along n f g x l e r words → 0 < r → i ≡ r - 1
      → Link n f (f i) (i + 1) r' → RowPlaced f g i (x i) l words out → Along n f g x l e r' out
  along_more {r} {i} {r'} {out} few A some q L P = record {
    j = i + 1;
    link = subst (λ (d : ℕ). Link n f d (i + 1) r') start L;
    upto =
        upto_eq n (meet f g) f x l (λ j. taken n f e i j || eqb j i) (taken n f e (i + 1)) (has (at out)) (taken_more n f e i row start)
        (upto_step n (meet f g) f x l (taken n f e i) (has (at words)) (has (at out)) i U ahead step);
  }
    where
      start : f i ≡ e
      start = ap f q ∙ (A.link.starts some).2

      row : i < n
      row = let p = A.link.starts some in omega arith

      U : Upto n (meet f g) f x l (taken n f e i) (has (at words))
      U =
          subst (λ (j : ℕ). Upto n (meet f g) f x l (taken n f e j) (has (at words))) (sym q)
          (upto_eq n (meet f g) f x l (taken n f e A.j) (taken n f e (r - 1)) (has (at words))
          (taken_skip n f e A.link some) A.upto)

      ahead : (j : ℕ) → T (taken n f e i j) → T (before f j i)
      ahead j = taken_ahead n f e i j start

      -- the rows there are taken
      there : (u : ℕ) → u < l → (j : ℕ) → T (has (at words) j u) → T (taken n f e i j)
      there u m j t = fst (taken n f e i j) (chosen (free n (meet f g) f (has (at words)) j) (x j) u) (along (U.so j u m) t)

      -- so all come before row i, and a slot is free for it just when it is open
      is_open_now : (u : ℕ) → u < l → open_at f g i words u ≡ free n (meet f g) f (has (at words)) i u
      is_open_now u m =
          ap not (any_more n max_rows (λ j. has (at words) j u && meet f g j i) few
          (λ j t. (taken_is n f e i j (there u m j (fst (has (at words) j u) (meet f g j i) t))).0))
          ∙ sym (free_among n (meet f g) f (has (at words)) i u (λ j t. ahead j (there u m j t)))

      step : (j s : ℕ) → s < l
          → has (at out) j s ≡ (has (at words) j s || (eqb j i && chosen (free n (meet f g) f (has (at words)) i) (x i) s))
      step j s m =
          P.had j s m
          ∙ ap (λ (b : Bool). has (at words) j s || (eqb j i && b))
          (chosen_eq (open_at f g i words) (free n (meet f g) f (has (at words)) i) (x i) l s m is_open_now)

  pub coming_end : {was : List ℕ} → Coming n f g x l e words → ((j : ℕ) → j < n → f j < e) → Kept l was words → l ≤ length words
      → FilledSlots n f g x l was words
  coming_end {was} U past K room = record {
    words = upto_words n (meet f g) f x l (has (at words)) words room (λ i s m. refl)
        (upto_eq n (meet f g) f x l (taken n f e 0) (λ j. ltb j n) (has (at words)) (taken_all n f e past) U.upto);
    kept = K;
  }
