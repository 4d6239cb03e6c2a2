-- What a written text says: its lines one by one, and the fields of each.
--
--   body l               the bytes of line l without its newline
--   lines_from k bs       the lines with a field of bs, which starts at place k
--   saysAll l ws         the fields of line l are the words ws
use mathlib.Core.Path.{◌≡◌, refl, sym, ap, ap₂, ◌∙◌}
use mathlib.Core.Bool.{Bool, true}
use mathlib.Core.List.{List, [], ◌∷◌, ◌++◌, map, append_assoc, append-nil}
use Prim.Native.Nat.{ℕ, zero, suc, ◌+◌, ◌<◌}
use native.Mathlib.Omega.{arith}
use lib.Dec.{T}
use lib.ListN.{length, take, drop, get_or, get_or-map}
use lib.Seq.{take_at, drop_at, take-length}
use Rattle.numbers.specs.Finite.{lowest}
use Rattle.numbers.specs.Lists.{each}
use Rattle.numbers.proofs.Lists.{each_eq, each_join}
use Rattle.rules.specs.Text.{Line, space, newline, decimal, text_of}
use Rattle.grammar.specs.TableText.{Part, part, is_newline, is_hash, is_blank, parts, until, some, kept, fields, uncommented, field}
use Rattle.text_reader.proofs.Parts.{until_here, until_end, after, parts_first}
use Rattle.text_reader.proofs.LineFields.{fields_none, fields_blank, fields_word}
use Rattle.text_trip.proofs.Clear.{clear, until_clear, spaced, spaced_none, spaced_next, decimal_some, decimal_clear, blank_skips}

-- ---- fields

abbrev pub words : Part → List (List ℕ)
words l = map (λ q. q.bytes) (fields l)

-- field k is word k
pub field_word : (l : Part) (k : ℕ) → (field l k).bytes ≡ get_or (words l) k []
unfolding field
field_word l k = sym (get_or-map (λ q. q.bytes) (fields l) k (part (l.start + length l.bytes) []))

-- a word, and what follows it begins with a blank or is nothing
first_word : (s : ℕ) (u r : List ℕ) → T (clear is_blank u) → 0 < length u → until is_blank r ≡ 0
    → fields (part s (u ++ r)) ≡ part s u ∷ fields (part (s + length u) r)
first_word s u r c l z =
    let n : until is_blank (u ++ r) ≡ length u = until_clear is_blank u r c ∙ omega (arith, z) in
    fields_word s (u ++ r) (omega (arith, n, l))
    ∙ ap (λ (m : ℕ). part s (take m (u ++ r)) ∷ fields (part (s + m) (drop m (u ++ r)))) n
    ∙ ap₂ (λ (x y : List ℕ). part s x ∷ fields (part (s + length u) y)) (take_at u r (length u) refl) (drop_at u r (length u) refl)

pub words_of : (s : ℕ) (u xs : List ℕ) → T (clear is_blank u) → 0 < length u → words (part s (u ++ spaced xs)) ≡ u ∷ map decimal xs
words_of s u [] c l =
    ap (λ (r : List ℕ). words (part s (u ++ r))) spaced_none
    ∙ ap (map (λ (q : Part). q.bytes))
    (first_word s u [] c l (until_end is_blank) ∙ ap (λ (qs : List Part). part s u ∷ qs) (fields_none (s + length u)))
words_of s u (x ∷ xs) c l =
    let r : List ℕ = decimal x ++ spaced xs in
    ap (λ (y : List ℕ). words (part s (u ++ y))) (spaced_next x xs)
    ∙ ap (map (λ (q : Part). q.bytes))
    (first_word s u (space ∷ r) c l (until_here is_blank space r refl)
    ∙ ap (λ (qs : List Part). part s u ∷ qs) (fields_blank (s + length u) space r refl))
    ∙ ap (λ (ws : List (List ℕ)). u ∷ ws)
    (words_of (suc (s + length u)) (decimal x) xs (decimal_clear is_blank blank_skips x) (decimal_some x))

-- ---- lines

abbrev pub body : Line → List ℕ
body l = l.word ++ spaced l.numbers

pub body_line : (l : Line) (rest : List ℕ) → text_of l ++ rest ≡ body l ++ (newline ∷ rest)
body_line l rest =
    append_assoc l.word (spaced l.numbers ++ (newline ∷ [])) rest
    ∙ ap (λ (r : List ℕ). l.word ++ r) (append_assoc (spaced l.numbers) (newline ∷ []) rest)
    ∙ sym (append_assoc l.word (spaced l.numbers) (newline ∷ rest))

abbrev says : Part → Bool
says l = some (fields l)

abbrev pub lines_from : ℕ → List ℕ → List Part
lines_from k bs = kept says (map uncommented (parts is_newline k bs))

-- a line up to its newline, and the rest
line_first : (k : ℕ) (w rest : List ℕ) → T (clear is_newline w)
    → parts is_newline k (w ++ (newline ∷ rest)) ≡ part k w ∷ parts is_newline (suc (k + length w)) rest
unfolding after
line_first k w rest c =
    let bs : List ℕ = w ++ (newline ∷ rest) in
    let n : until is_newline bs ≡ length w =
    until_clear is_newline w (newline ∷ rest) c ∙ omega (arith, until_here is_newline newline rest refl) in
    parts_first is_newline k bs ∙ ap (λ (m : ℕ). part k (take m bs) ∷ after is_newline (k + m) (drop m bs)) n
    ∙ ap₂ (λ (x y : List ℕ). part k x ∷ after is_newline (k + length w) y) (take_at w (newline ∷ rest) (length w) refl)
    (drop_at w (newline ∷ rest) (length w) refl)

whole : (k : ℕ) (w : List ℕ) → T (clear is_hash w) → uncommented (part k w) ≡ part k w
whole k w c =
    let e : until is_hash w ≡ length w =
    ap (until is_hash) (sym (append-nil w)) ∙ until_clear is_hash w [] c ∙ omega (arith, until_end is_hash) in
    ap (λ (m : ℕ). part k (take m w)) e ∙ ap (part k) (take-length w)

-- a line without a comment that has a field
pub lines_one : (k : ℕ) (w rest : List ℕ) → T (clear is_newline w) → T (clear is_hash w) → some (fields (part k w)) ≡ true
    → lines_from k (w ++ (newline ∷ rest)) ≡ part k w ∷ lines_from (suc (k + length w)) rest
unfolding kept
lines_one k w rest c d e =
    ap (λ (qs : List Part). kept says (map uncommented qs)) (line_first k w rest c)
    ∙ ap (λ (l : Part). kept says (l ∷ map uncommented (parts is_newline (suc (k + length w)) rest))) (whole k w d) ∙ rw e

-- a line of nothing but a comment
pub lines_note : (k : ℕ) (w rest : List ℕ) → T (clear is_newline w) → until is_hash w ≡ 0
    → lines_from k (w ++ (newline ∷ rest)) ≡ lines_from (suc (k + length w)) rest
unfolding kept
lines_note k w rest c z =
    ap (λ (qs : List Part). kept says (map uncommented qs)) (line_first k w rest c)
    ∙ ap (λ (m : ℕ). kept says (part k (take m w) ∷ map uncommented (parts is_newline (suc (k + length w)) rest))) z
    ∙ rw (fields_none k)

pub lines_end : (k : ℕ) → lines_from k [] ≡ []
unfolding parts kept lowest
lines_end k = refl

-- ---- lines one after the other

-- the lines qs are n lines with the bytes w
pub record Are (qs : List Part) (n : ℕ) (w : ℕ → List ℕ) : Type 0 where
  pub size : length qs ≡ n
  pub line : (d : Part) (i : ℕ) → i < n → (s : ℕ) × (get_or qs i d ≡ part s (w i))

pub record Lines (n : ℕ) (w : ℕ → List ℕ) : Type 0 where
  pub newlines : (i : ℕ) → i < n → T (clear is_newline (w i))
  pub hashes : (i : ℕ) → i < n → T (clear is_hash (w i))
  pub says : (i k : ℕ) → i < n → some (fields (part k (w i))) ≡ true

first_of : (n : ℕ) (f : ℕ → List ℕ) → each (suc n) f ≡ f 0 ++ each n (λ i. f (suc i))
unfolding each
first_of n f =
    let e : suc n ≡ 1 + n = omega arith in
    ap (λ (m : ℕ). each m f) e ∙ each_join 1 n f
    ∙ ap (λ (r : List ℕ). f 0 ++ r)
    (each_eq n (λ j. f (1 + j)) (λ j. f (suc j)) (λ j l. let g : 1 + j ≡ suc j = omega arith in ap f g))

are_more : {q : Part} {qs rs : List Part} {n k : ℕ} (w : ℕ → List ℕ) → rs ≡ q ∷ qs → q ≡ part k (w 0) → Are qs n (λ i. w (suc i))
    → Are rs (suc n) w
are_more {q} {qs} {rs} {n} {k} w e h A = record { size = ap length e ∙ ap suc A.size; line = line }
  where
    line : (d : Part) (i : ℕ) → i < suc n → (s : ℕ) × (get_or rs i d ≡ part s (w i))
    line d zero l = (k, ap (λ (x : List Part). get_or x 0 d) e ∙ h)
    line d (suc i) l = let z = A.line d i (omega arith) in (z.0, ap (λ (x : List Part). get_or x (suc i) d) e ∙ z.1)

pub lines_each : (n : ℕ) (w : ℕ → List ℕ) (k : ℕ) → Lines n w → Are (lines_from k (each n (λ i. w i ++ (newline ∷ [])))) n w
unfolding each
lines_each zero w k L = record {
  size = ap length (lines_end k);
  line = λ d i l. absurd (let z : ⊥ = omega arith in z);
}
lines_each (suc n) w k L =
    let f : ℕ → List ℕ = λ i. w i ++ (newline ∷ []) in
    let v : ℕ → List ℕ = λ i. w (suc i) in
    let k' : ℕ = suc (k + length (w 0)) in
    let rest : List ℕ = each n (λ i. v i ++ (newline ∷ [])) in
    let M : Lines n v = record {
      newlines = λ i l. L.newlines (suc i) (omega arith);
      hashes = λ i l. L.hashes (suc i) (omega arith);
      says = λ i j l. L.says (suc i) j (omega arith);
    } in
    let e : each (suc n) f ≡ w 0 ++ (newline ∷ rest) =
    first_of n f ∙ append_assoc (w 0) (newline ∷ []) rest in
    let one : lines_from k (each (suc n) f) ≡ part k (w 0) ∷ lines_from k' rest =
    ap (lines_from k) e ∙ lines_one k (w 0) rest (L.newlines 0 (omega arith)) (L.hashes 0 (omega arith)) (L.says 0 k (omega arith)) in
    are_more w one refl (lines_each n v k' M)
