-- The walk along the line, kept by stretches: what holds at each of the loops of `fill`.
--
--   Named D k             k can be the number of a stretch: 0, or 1 + a row of D
--   Coming n f g x l e .. the rows that start before element e are taken; the stretches are walked from the first
--   Along n f g x l e r k s ..
--                         of the rows that start at element e, those before the one that r links to are taken, and the slots below s,
--                         where the walk along the stretches has come to, are not free for the others
--   Turning n f g x l e i left k s ..
--                         it is row i's turn, with `left` of its load to place, and its scan has come to slot s
--   coming_start, coming_end
--                         no row is taken; all are
--   along_start, along_end
--                         the walk comes to the element; no row is left there
--   turning_start, turning_skip, turning_take, turning_end
--                         it is the turn of the row that r links to; a stretch is not free; row i takes it, parted where it is too long;
--                         the turn is over
use mathlib.Core.Path.{◌≡◌, refl, sym, ap, ◌∙◌, subst}
use mathlib.Core.Logic.{◌⊎◌, ◌≢◌, inl, inr, ⊎_elim}
use mathlib.Core.List.{List}
use mathlib.Core.Bool.{Bool, ◌&&◌, ◌||◌}
use Prim.Native.Nat.{ℕ, ◌+◌, ◌-◌, ◌^◌, ◌≤◌, ◌<◌}
use native.Mathlib.Nat.{le_refl, not-suc-le-zero}
use native.Mathlib.Omega.{arith}
use lib.Bits.{bit_or}
use lib.Dec.{T, eqb}
use lib.ListN.{length, set}
use Rattle.numbers.specs.Lists.{at}
use Rattle.numbers.proofs.Truth.{along}
use Rattle.rules.specs.Bounds.{max_rows}
use Rattle.sets.specs.Chained.{Link}
use Rattle.placing.specs.Filled.{Kept, FilledSlots}
use Rattle.stretches.specs.Stretches.{most_stretches, Tiles, Spread}
use Rattle.placing.proofs.Kept.{kept_trans}
use Rattle.placing.proofs.Upto.{has}
use Rattle.placing.proofs.Scan.{within}
use Rattle.placing.proofs.Order.{taken, taken_is, taken_of, taken_skip, taken_next}
use Rattle.stretches.proofs.Stretches.{Fitted, fitted_end}
use Rattle.stretches.proofs.Stretched.{Stretched, stretched_start, stretched_first, stretched_as, stretched_next, stretched_end}
use Rattle.stretches.proofs.Stretched.{stretched_low, stretched_last, stretched_parted, stretched_put}
use Rattle.stretches.proofs.Walk.{Walked, walked_eq, walk_start, walk_end}
use Rattle.stretches.proofs.Walk.{Turn, turn_start, turn_skip, turn_take, turn_end}

abbrev pub Named : (ℕ → Bool) → ℕ → Type 0
Named D k = (k ≡ 0) ⊎ ((j : ℕ) × (k ≡ j + 1) × T (D j))

-- once row i's load is used up, a stretch may have its number
abbrev Busy : (ℕ → Bool) → ℕ → ℕ → ℕ → Type 0
Busy D i left k = Named D k ⊎ ((k ≡ i + 1) × (left ≡ 0))

named_eq : (D E : ℕ → Bool) → ((j : ℕ) → T (D j) → T (E j)) → (k : ℕ) → Named D k → Named E k
named_eq D E h k = ⊎_elim (λ q. inl q) (λ b. inr (b.0, b.1, h b.0 b.2))

pub record Coming (n : ℕ) (f g x : ℕ → ℕ) (l e : ℕ) (end last after words : List ℕ) : Type 0 where
  pub W : ℕ → ℕ
  pub Z : ℕ → ℕ
  pub walked : Walked n f g x l (taken n f e 0) W Z
  pub stretched : Stretched l (Named (taken n f e 0)) W Z 0 0 end last after words

pub record Along (n : ℕ) (f g x : ℕ → ℕ) (l e r k s : ℕ) (end last after words : List ℕ) : Type 0 where
  pub j : ℕ
  pub W : ℕ → ℕ
  pub Z : ℕ → ℕ
  pub link : Link n f e j r
  pub walked : Walked n f g x l (taken n f e j) W Z
  pub past : (u : ℕ) → u < s → u < l → e < Z u
  pub stretched : Stretched l (Named (taken n f e j)) W Z k s end last after words

pub record Turning (n : ℕ) (f g x : ℕ → ℕ) (l e i left k s : ℕ) (end last after words : List ℕ) : Type 0 where
  pub W₀ : ℕ → ℕ
  pub Z₀ : ℕ → ℕ
  pub W : ℕ → ℕ
  pub Z : ℕ → ℕ
  pub row : i < n
  pub start : f i ≡ e
  pub line : f i < g i
  pub before : Walked n f g x l (taken n f e i) W₀ Z₀
  pub turn : Turn n f g x l W₀ Z₀ i s left W Z
  pub stretched : Stretched l (Busy (taken n f e i) i left) W Z k s end last after words

-- ---- from element to element

pub coming_start : {n : ℕ} {f g x : ℕ → ℕ} {l e : ℕ} {end last after words : List ℕ} → ((j : ℕ) → j < n → e ≤ f j)
    → at end 0 ≡ l → at last 0 ≡ 0 → (0 < l → at words 0 ≡ 0)
    → length end ≡ most_stretches → length last ≡ most_stretches → length after ≡ most_stretches → l ≤ length words
    → Coming n f g x l e end last after words
coming_start h whole none clear es ls fs room =
    record { W = λ u. 0; Z = λ u. 0; walked = walk_start h; stretched = stretched_start (inl refl) whole none clear es ls fs room }

module _ {n : ℕ} {f g x : ℕ → ℕ} {l e : ℕ} {end last after words : List ℕ} where
  pub along_start : {r k s : ℕ} → Coming n f g x l e end last after words → k ≡ 0 → s ≡ 0 → Link n f e 0 r
      → Along n f g x l e r k s end last after words
  along_start C p q L = rw (p, q) record {
    j = 0;
    W = C.W;
    Z = C.Z;
    link = L;
    walked = C.walked;
    past = λ u h m. absurd (not-suc-le-zero h);
    stretched = C.stretched;
  }

  pub along_end : {r k s : ℕ} → Along n f g x l e r k s end last after words → r ≡ 0 → Coming n f g x l (e + 1) end last after words
  along_end A q =
      let next = taken_next n f e (subst (λ (d : ℕ). Link n f e A.j d) q A.link) in
      record {
        W = A.W;
        Z = A.Z;
        walked = walked_eq (taken n f (e + 1) 0) next A.walked;
        stretched = stretched_as (stretched_first A.stretched)
            (named_eq (taken n f e A.j) (taken n f (e + 1) 0) (λ j. along (next j)));
      }

  pub coming_end : {was out : List ℕ} → Coming n f g x l e end last after words → ((j : ℕ) → j < n → f j < e) → Kept l was words
      → ((of begin : ℕ → ℕ) → Tiles l of begin end after → Spread l of begin words out) → FilledSlots n f g x l was out
  coming_end C past K spread =
      let S = C.stretched in
      let P = spread S.of S.begin S.tiles in
      walk_end C.walked past (omega (arith, S.room, P.kept.long)) (λ s m. P.same s m ∙ sym (S.shown s m)) (kept_trans K P.kept)

-- ---- the turn of a row

module _ {n : ℕ} {f g x : ℕ → ℕ} {l e : ℕ} {end last after words : List ℕ} {k s : ℕ} where
  pub turning_start : {r i : ℕ} → Along n f g x l e r k s end last after words → 0 < r → i ≡ r - 1 → f i < g i
      → Turning n f g x l e i (x i) k s end last after words
  turning_start {r} {i} A some q line =
      let p = A.link.starts some in
      let row : i < n = omega arith in
      let start : f i ≡ e = ap f q ∙ p.2 in
      let skip = taken_skip n f e A.link some in
      let B =
      subst (λ (j : ℕ). Walked n f g x l (taken n f e j) A.W A.Z) (sym q)
      (walked_eq (taken n f e (r - 1)) skip A.walked) in
      record {
        W₀ = A.W;
        Z₀ = A.Z;
        W = A.W;
        Z = A.Z;
        row = row;
        start = start;
        line = line;
        before = B;
        turn = turn_start B start line s A.stretched.cursor.inside (λ u a b. omega (arith, A.past u a b));
        stretched = stretched_as A.stretched
            (λ j m. inl (named_eq (taken n f e A.j) (taken n f e i)
            (λ v t. subst (λ (y : ℕ). T (taken n f e y v)) (sym q) (along (skip v) t)) j m));
      }

  module _ {i left : ℕ} (R : Turning n f g x l e i left k s end last after words) where
    pub turning_end : {r : ℕ} → (l ≤ s) ⊎ (left ≡ 0) → Link n f (f i) (i + 1) r → Along n f g x l e r k s end last after words
    turning_end {r} over L = record {
      j = i + 1;
      W = R.W;
      Z = R.Z;
      link = subst (λ (d : ℕ). Link n f d (i + 1) r) R.start L;
      walked = turn_end R.before R.start R.line R.turn R.row over;
      past = λ u a b. omega (arith, R.turn.past u a b, R.start);
      stretched = stretched_as R.stretched
          (λ j. ⊎_elim (named_eq (taken n f e i) (taken n f e (i + 1)) more j) (λ b. inr (i, b.0, mine)));
    }
      where
        mine : T (taken n f e (i + 1) i)
        mine = taken_of n f e (i + 1) i R.row (inr (R.start, omega arith))

        more : (j : ℕ) → T (taken n f e i j) → T (taken n f e (i + 1) j)
        more j t =
            let w = taken_is n f e i j t in
            taken_of n f e (i + 1) j w.0 (⊎_elim (λ a. inl a) (λ a. inr (a.0, omega arith)) w.1)

    module _ (h : s < l) (some : 0 < left) where
      pub turning_skip : {k' s' : ℕ} → f i < at last k → s' ≡ at end k → k' ≡ at after k
          → Turning n f g x l e i left k' s' end last after words × (s < s')
      turning_skip late p q = rw (p, q) (
        record {
          W₀ = R.W₀;
          Z₀ = R.Z₀;
          W = R.W;
          Z = R.Z;
          row = R.row;
          start = R.start;
          line = R.line;
          before = R.before;
          turn = turn_skip R.before R.start R.line R.turn (omega (arith, span)) span.1
              (λ u a b. omega (arith, stretched_last R.stretched h u a b));
          stretched = stretched_next R.stretched h;
        },
        span.0,
      )
        where
          span : (s < at end k) × (at end k ≤ l)
          span = stretched_end R.stretched h

      pub turning_take : {end' last' after' words' : List ℕ} {size w left' k' s' : ℕ}
          → Fitted k s left (i + 1) size end last after words end' last' after' words' → n ≤ max_rows → at last k ≤ f i
          → w ≡ bit_or (at words' s) (2 ^ i) → s' ≡ at end' k → k' ≡ at after' k → left' ≡ left - size
          → Turning n f g x l e i left' k' s' end' (set last' k (g i)) after' (set words' s w) × (s < s')
      turning_take {end'} {last'} {after'} {words'} {size} {w} {left'} P fits early q p₁ p₂ p₃ =
          let p₄ : left' ≡ left - (at end' k - s) = omega (arith, takes) in
          rw (p₁, p₂, p₄) (
            record {
              W₀ = R.W₀;
              Z₀ = R.Z₀;
              W = put.0;
              Z = put.1;
              row = R.row;
              start = R.start;
              line = R.line;
              before = R.before;
              turn = turn_take R.before R.start R.line R.turn (omega (arith, span)) span.1 R.row
                  (omega (arith, takes)) (λ u a b. omega (arith, all u a b)) put.3 put.4 put.5;
              stretched = stretched_next put.2 h;
            },
            span.0,
          )
        where
          -- no stretch has row i's number yet
          fresh : (u : ℕ) → u < l → R.stretched.of u ≢ i + 1
          fresh u d z =
              ⊎_elim
              (⊎_elim (λ a. omega arith)
              (λ a. let m : a.0 ≡ i = omega (arith, a.1) in
              ⊎_elim (λ b. omega (arith, ap f m, R.start)) (λ b. omega (arith, b.1)) (taken_is n f e i a.0 a.2).1))
              (λ a. omega (arith, a.1))
              (R.stretched.used u d)

          takes : (0 < size) × (size ≤ left) × (at end' k ≡ s + size)
          takes =
              fitted_end P (stretched_end R.stretched h).0 some (omega (arith, stretched_low R.stretched h, R.stretched.end_size))

          parts : Stretched l (Busy (taken n f e i) i (left - (at end' k - s))) R.W R.Z k s end' last' after' words'
          parts =
              stretched_parted R.stretched h P some (omega (arith, R.row))
              (λ j. ⊎_elim (λ a. inl a) (λ a. absurd (omega (arith, a.1))))
              (λ a. (fresh, inr (refl, omega (arith, takes, (P.parted a).4))))

          span : (s < at end' k) × (at end' k ≤ l)
          span = stretched_end parts h

          put : (W' Z' : ℕ → ℕ) × Stretched l (Busy (taken n f e i) i (left - (at end' k - s))) W' Z' k s end' (set last' k (g i)) after'
              (set words' s w)
              × ((j u : ℕ) → u < l → has W' j u ≡ (has R.W j u || (within s (at end' k) u && eqb j i)))
              × ((u : ℕ) → u < l → T (within s (at end' k) u) → Z' u ≡ g i)
              × ((u : ℕ) → u < l → (T (within s (at end' k) u) → ⊥) → Z' u ≡ R.Z u)
          put = stretched_put parts h i (g i) w q

          -- the slots of the stretch have the last end that it had
          all : (u : ℕ) → s ≤ u → u < at end' k → R.Z u ≤ f i
          all u a b =
              omega (
                arith,
                stretched_last parts h u a b,
                stretched_last parts h s (le_refl s) span.0,
                stretched_last R.stretched h s (le_refl s) (stretched_end R.stretched h).0,
              )
