-- Laws of a line's fields: blanks are passed over, and the bytes up to the next blank are a field.
use mathlib.Core.Path.{◌≡◌, refl, sym, ap, ap₂, ◌∙◌}
use mathlib.Core.Logic.{◌⊎◌, inl, inr, ⊎_elim, ◌≢◌}
use mathlib.Core.Bool.{Bool, true, false, not}
use mathlib.Core.List.{List, [], ◌∷◌}
use Prim.Native.Nat.{ℕ, zero, suc, ◌+◌, ◌-◌, ◌≤◌, ◌<◌}
use native.Mathlib.Nat.{add-zero}
use native.Mathlib.Omega.{arith}
use lib.Dec.{ltb}
use lib.ListN.{length, take, drop, get_or, length-drop, drop_of_length-le}
use lib.Seq.{drop-drop, length-take-le}
use borrow.Author.Tests.{ltb-true, ltb-false}
use Rattle.numbers.specs.Decides.{Decides}
use Rattle.numbers.proofs.Truth.{le_or_lt}
use Rattle.grammar.specs.TableText.{Part, part, is_blank, parts, until, some, kept, fields, field}
use Rattle.text_reader.specs.declared.fields.Span.{Span}
use Rattle.text_reader.specs.Walk.{blank_is, fields_at, spanned, IsNext, IsField}
use Rattle.text_reader.proofs.Parts.{until_here, until_past, until_end, until_le, until_there, within, after, parts_first}

abbrev has : Part → Bool
has q = some q.bytes

pub fields_none : (k : ℕ) → fields (part k []) ≡ []
unfolding parts kept
fields_none k = refl

pub fields_blank : (k b : ℕ) (bs : List ℕ) → is_blank b ≡ true → fields (part k (b ∷ bs)) ≡ fields (part (suc k) bs)
unfolding parts kept
fields_blank k b bs e = rw e

skip_cons : (k b : ℕ) (bs : List ℕ) (x : Bool) → is_blank b ≡ x
    → fields (part (suc k) bs) ≡ fields (part (suc k + until (blank_is false) bs) (drop (until (blank_is false) bs) bs))
    → fields (part k (b ∷ bs)) ≡ fields (part (k + until (blank_is false) (b ∷ bs)) (drop (until (blank_is false) (b ∷ bs)) (b ∷ bs)))
skip_cons k b bs true e h =
    let n : ℕ = until (blank_is false) bs in
    let s : suc k + n ≡ k + suc n = omega arith in
    let u : until (blank_is false) (b ∷ bs) ≡ suc n = until_past (blank_is false) b bs (ap not e) in
    fields_blank k b bs e ∙ h ∙ ap (λ (j : ℕ). fields (part j (drop n bs))) s
    ∙ ap (λ (m : ℕ). fields (part (k + m) (drop m (b ∷ bs)))) (sym u)
skip_cons k b bs false e h =
    let u : until (blank_is false) (b ∷ bs) ≡ 0 = until_here (blank_is false) b bs (ap not e) in
    ap (λ (j : ℕ). fields (part j (b ∷ bs))) (sym (add-zero k))
    ∙ ap (λ (m : ℕ). fields (part (k + m) (drop m (b ∷ bs)))) (sym u)

-- past the blanks
pub fields_skip : (k : ℕ) (bs : List ℕ)
    → fields (part k bs) ≡ fields (part (k + until (blank_is false) bs) (drop (until (blank_is false) bs) bs))
fields_skip k [] = rw (until_end (blank_is false), add-zero)
fields_skip k (b ∷ bs) = skip_cons k b bs (is_blank b) refl (fields_skip (suc k) bs)

-- what is left begins with a blank, or is nothing
after_cons : (k b : ℕ) (bs : List ℕ) (x : Bool) → is_blank b ≡ x → until is_blank (b ∷ bs) ≡ 0
    → kept has (parts is_blank (suc k) bs) ≡ fields (part k (b ∷ bs))
after_cons k b bs true e z = sym (fields_blank k b bs e)
after_cons k b bs false e z = absurd (let w : ⊥ = omega (arith, z, until_past is_blank b bs e) in w)

kept_after : (k : ℕ) (bs : List ℕ) → until is_blank bs ≡ 0 → kept has (after is_blank k bs) ≡ fields (part k bs)
unfolding after parts kept
kept_after k [] z = refl
kept_after k (b ∷ bs) z = after_cons k b bs (is_blank b) refl z

kept_filled : (k n : ℕ) (bs : List ℕ) (qs : List Part) → 0 < n → n ≤ length bs
    → kept has (part k (take n bs) ∷ qs) ≡ part k (take n bs) ∷ kept has qs
unfolding kept
kept_filled k n [] qs l m = absurd (let w : ⊥ = omega arith in w)
kept_filled k zero (b ∷ bs) qs l m = elim l [ ]
kept_filled k (suc n) (b ∷ bs) qs l m = refl

-- up to the next blank
pub fields_word : (k : ℕ) (bs : List ℕ) → 0 < until is_blank bs
    → fields (part k bs) ≡ part k (take (until is_blank bs) bs) ∷ fields (part (k + until is_blank bs) (drop (until is_blank bs) bs))
fields_word k bs l =
    let n : ℕ = until is_blank bs in
    ap (kept has) (parts_first is_blank k bs) ∙ kept_filled k n bs (after is_blank (k + n) (drop n bs)) l (until_le is_blank bs)
    ∙ ap (λ (qs : List Part). part k (take n bs) ∷ qs) (kept_after (k + n) (drop n bs) (until_there is_blank bs))

-- ---- the next field

nothing_left : (bs : List ℕ) → until is_blank bs ≡ 0 → until (blank_is false) bs ≡ 0 → bs ≡ []
nothing_left [] y z = refl
nothing_left (b ∷ bs) y z = go (is_blank b) refl
  where
    go : (x : Bool) → is_blank b ≡ x → b ∷ bs ≡ []
    go true e = absurd (let w : ⊥ = omega (arith, z, until_past (blank_is false) b bs (ap not e)) in w)
    go false e = absurd (let w : ⊥ = omega (arith, y, until_past is_blank b bs e) in w)

module _ (from k : ℕ) (bs : List ℕ) (r : Span) (low : k ≤ length bs)
    (first : r.start ≡ k + until (blank_is false) (drop k bs)) (last : r.end ≡ r.start + until is_blank (drop r.start bs)) where
  abbrev l : Part
  l = part from bs

  there : r.start ≤ length bs
  there = omega (arith, within (blank_is false) bs k low)

  -- the fields from k on are those from the first byte on that is no blank
  same : fields_at l k ≡ fields_at l r.start
  same =
      let n : ℕ = until (blank_is false) (drop k bs) in
      let e : from + k + n ≡ from + r.start = omega arith in
      fields_skip (from + k) (drop k bs)
      ∙ ap₂ (λ (j : ℕ) (xs : List ℕ). fields (part j xs)) e (drop-drop n k bs ∙ ap (λ (j : ℕ). drop j bs) (sym first))

  no_blank : until (blank_is false) (drop r.start bs) ≡ 0
  no_blank =
      ap (λ (j : ℕ). until (blank_is false) (drop j bs)) first
      ∙ ap (until (blank_is false)) (sym (drop-drop (until (blank_is false) (drop k bs)) k bs)) ∙ until_there (blank_is false) (drop k bs)

  pub is_next : IsNext l k r
  is_next = record {
    low = omega (arith, first);
    ordered = omega (arith, last);
    high = omega (arith, last, within is_blank bs r.start there);
    none = λ e.
        let nil : drop r.start bs ≡ [] = nothing_left (drop r.start bs) (omega (arith, last, e)) no_blank in
        (same ∙ ap (λ (xs : List ℕ). fields (part (from + r.start) xs)) nil ∙ fields_none (from + r.start), ended nil);
    one = λ g.
        let n : ℕ = until is_blank (drop r.start bs) in
        let d : n ≡ r.end - r.start = omega (arith, last) in
        let e : from + r.start + n ≡ from + r.end = omega (arith, last) in
        same ∙ fields_word (from + r.start) (drop r.start bs) (omega (arith, last, g))
        ∙ ap₂ (λ (j : ℕ) (qs : List Part). part (from + r.start) (take j (drop r.start bs)) ∷ qs) d
        (ap₂ (λ (j : ℕ) (xs : List ℕ). fields (part j xs)) e (drop-drop n r.start bs ∙ ap (λ (j : ℕ). drop j bs) (sym last)));
  }
    where
      ended : drop r.start bs ≡ [] → r.start ≡ length bs
      ended e = omega (arith, there, ap length e, length-drop r.start bs)

-- ---- fields counted

-- the line's end, where a field would start that it has not
abbrev pub past : Part → Part
past l = part (l.start + length l.bytes) []

-- `r` is the first field from some byte on, and field k is the one that comes `left` fields after it
pub record Walked (l : Part) (k left : ℕ) (r : Span) : Type 0 where
  pub from : ℕ
  pub next : IsNext l from r
  pub is : field l k ≡ get_or (fields_at l from) left (past l)

pub fields_all : (l : Part) → fields l ≡ fields_at l 0
fields_all l = ap (λ (j : ℕ). fields (part j l.bytes)) (sym (add-zero l.start))

pub walked_start : {l : Part} {r : Span} (k : ℕ) → IsNext l 0 r → Walked l k k r
unfolding field
walked_start {l} k n = record { from = 0; next = n; is = ap (λ (qs : List Part). get_or qs k (past l)) (fields_all l) }

module _ {l : Part} {from : ℕ} {r : Span} (n : IsNext l from r) where
  -- a field, or the end of the line
  either : (r.start < r.end) ⊎ (r.start ≡ r.end)
  either = ⊎_elim (λ g. inr (omega (arith, n.ordered))) (λ g. inl g) (le_or_lt r.end r.start)

  pub at_end : r.start ≡ r.end → fields_at l r.end ≡ []
  at_end e =
      let z : drop r.end l.bytes ≡ [] = drop_of_length-le l.bytes {i = r.end} (omega (arith, (n.none e).1, e)) in
      ap (λ (xs : List ℕ). fields (part (l.start + r.end) xs)) z ∙ fields_none (l.start + r.end)

  pub empty_span : r.start ≡ r.end → spanned l r ≡ past l
  empty_span e =
      let z : r.end - r.start ≡ 0 = omega (arith, e) in
      ap₂ part (ap (λ (j : ℕ). l.start + j) (n.none e).1) (ap (λ (j : ℕ). take j (drop r.start l.bytes)) z)

  pub one_on : (m : ℕ) → get_or (fields_at l from) (suc m) (past l) ≡ get_or (fields_at l r.end) m (past l)
  one_on m =
      ⊎_elim
      (λ g. ap (λ (qs : List Part). get_or qs (suc m) (past l)) (n.one g))
      (λ e. ap (λ (qs : List Part). get_or qs (suc m) (past l)) (n.none e).0
      ∙ ap (λ (qs : List Part). get_or qs m (past l)) (sym (at_end e)))
      either

  pub this_one : get_or (fields_at l from) 0 (past l) ≡ spanned l r
  this_one =
      ⊎_elim
      (λ g. ap (λ (qs : List Part). get_or qs 0 (past l)) (n.one g))
      (λ e. ap (λ (qs : List Part). get_or qs 0 (past l)) (n.none e).0 ∙ sym (empty_span e))
      either

pub walked_on : {l : Part} {k left : ℕ} {r s : Span} (m : ℕ) → Walked l k left r → left ≡ suc m → IsNext l r.end s → Walked l k m s
walked_on {l} {k} {left} {r} m w e n =
    record { from = r.end; next = n; is = w.is ∙ ap (λ (j : ℕ). get_or (fields_at l w.from) j (past l)) e ∙ one_on w.next m }

pub walked_there : {l : Part} {k left : ℕ} {r : Span} → Walked l k left r → left ≡ 0 → IsField l k r
walked_there {l} {k} {left} {r} w e = record {
  ordered = w.next.ordered;
  high = w.next.high;
  is = w.is ∙ ap (λ (j : ℕ). get_or (fields_at l w.from) j (past l)) e ∙ this_one w.next;
}

-- whether it is there
pub field_decides : {l : Part} {k : ℕ} {r : Span} → IsField l k r → Decides ((field l k).bytes ≢ []) (ltb r.start r.end)
field_decides {l} {k} {r} f = record {
  holds = λ e z.
      let g : r.start < r.end = ltb-true r.start r.end e in
      let n : length (field l k).bytes ≡ r.end - r.start =
      ap (λ (q : Part). length q.bytes) f.is
      ∙ length-take-le (r.end - r.start) (drop r.start l.bytes) (simp length-drop (omega (arith, f.high))) in
      let y : ⊥ = omega (arith, n, ap length z, g) in
      y;
  fails = λ e h.
      let g : r.end ≤ r.start = ltb-false r.start r.end e in
      let z : r.end - r.start ≡ 0 = omega arith in
      h (ap (λ (q : Part). q.bytes) f.is ∙ ap (λ (j : ℕ). take j (drop r.start l.bytes)) z);
}
