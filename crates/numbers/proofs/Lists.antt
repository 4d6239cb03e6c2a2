-- Laws of lists by position: lists joined of n lists, and lists that a loop fills from the front.
-- Files and plans are joined of stretches of one length k, so those laws are stated over k; a split table (#113) of stretches of one row or
-- two.
--
--   Filled was out n xs    out is xs in its first n places, and from there on what was there
use mathlib.Core.Path.{◌≡◌, refl, sym, ap, ap₂, ◌∙◌}
use mathlib.Core.Logic.{⊎_elim}
use mathlib.Core.List.{List, [], ◌∷◌, ◌++◌, append_assoc, append-nil, map}
use Prim.Native.Nat.{ℕ, zero, suc, ◌+◌, ◌-◌, ◌*◌, ◌≤◌, ◌<◌}
use native.Mathlib.Nat.{add-zero, suc-mul, zero-mul, mul-one, le_of_eq, mul-le-mul_right, eq-or-lt_of_le, le_of_suc-le-suc, not-suc-le-zero}
use native.Mathlib.Numerals.{add-one}
use native.Mathlib.Omega.{arith}
use lib.ListN.{length, take, drop, set, get_or, length-append, length-drop, length-set, take-append-drop, replicate, get_or-append}
use lib.Seq.{drop-cons, take-suc, set_at, append_snoc, take_at, drop_at, take_all, take-add}
use lib.Seq.{drop-drop, take-append-le, drop-append-le, sets, length-take-le, sets-eq}
use lib.Seq.{get_or-take, get_or-drop, get_or-append-add, ext_get_or}
use Rattle.numbers.specs.Lists.{at, each}
use Rattle.numbers.proofs.Truth.{le_or_lt}
use Rattle.numbers.proofs.Finite.{below}

-- ---- one place

pub at_append_right : (xs ys : List ℕ) (i : ℕ) → length xs ≤ i → at (xs ++ ys) i ≡ at ys (i - length xs)
at_append_right xs ys i l =
    let e : length xs + (i - length xs) ≡ i = omega arith in
    ap (at (xs ++ ys)) (sym e) ∙ get_or-append-add xs ys (i - length xs) 0

pub take_next : (xs : List ℕ) (n : ℕ) → n < length xs → take (n + 1) xs ≡ take n xs ++ (at xs n ∷ [])
take_next xs n l = rw (add-one, take-suc xs n 0)

pub drop_next : (xs : List ℕ) (n : ℕ) → n < length xs → drop n xs ≡ at xs n ∷ drop (n + 1) xs
drop_next xs n l = rw (add-one, drop-cons xs n 0)

-- ---- joined lists

pub each_none {ℓ} : {A : Type ℓ} (f : ℕ → List A) → each 0 f ≡ []
unfolding each
each_none f = refl

pub each_next {ℓ} : {A : Type ℓ} (n : ℕ) (f : ℕ → List A) → each (n + 1) f ≡ each n f ++ f n
unfolding each
each_next n f = rw add-one

pub each_eq {ℓ} : {A : Type ℓ} (n : ℕ) (f g : ℕ → List A) → ((i : ℕ) → i < n → f i ≡ g i) → each n f ≡ each n g
unfolding each
each_eq zero f g e = refl
each_eq (suc n) f g e = ap₂ ◌++◌ (each_eq n f g (λ i l. e i (omega arith))) (e n (omega arith))

pub each_length {ℓ} : {A : Type ℓ} (n k : ℕ) (f : ℕ → List A) → ((i : ℕ) → i < n → length (f i) ≡ k) → length (each n f) ≡ n * k
unfolding each
each_length zero k f e = omega arith
each_length (suc n) k f e =
    length-append (each n f) (f n) ∙ ap₂ ◌+◌ (each_length n k f (λ i l. e i (omega arith))) (e n (omega arith)) ∙ sym (suc-mul n k)

-- the first a, and the b after them
pub each_join {ℓ} : {A : Type ℓ} (a b : ℕ) (f : ℕ → List A) → each (a + b) f ≡ each a f ++ each b (λ j. f (a + j))
unfolding each
each_join a zero f = rw (add-zero, append-nil)
each_join {A = A} a (suc b) f =
    let e : a + suc b ≡ suc (a + b) = omega arith in
    ap (λ (n : ℕ). each n f) e ∙ ap (λ (l : List A). l ++ f (a + b)) (each_join a b f)
    ∙ append_assoc (each a f) (each b (λ j. f (a + j))) (f (a + b))

-- stretch i of the whole is f i
pub each_window {ℓ} : {A : Type ℓ} (n k : ℕ) (f : ℕ → List A) → ((i : ℕ) → i < n → length (f i) ≡ k) → (i : ℕ) → i < n
    → take k (drop (i * k) (each n f)) ≡ f i
unfolding each
each_window zero k f e i l = absurd (omega arith)
each_window (suc n) k f e i l =
    let long : length (each n f) ≡ n * k = each_length n k f (λ j m. e j (omega arith)) in
    ⊎_elim
    (λ (q : i ≡ n).
    let here : length (each n f) ≡ i * k = rw q long in
    ap (take k) (drop_at (each n f) (f n) (i * k) here) ∙ take_all k (f n) (le_of_eq (e n (omega arith))) ∙ ap f (sym q))
    (λ (m : i < n).
    let fits : i * k + k ≤ length (each n f) = omega (arith, mul-le-mul_right k m) in
    let room : k ≤ length (drop (i * k) (each n f)) = simp length-drop (omega arith) in
    ap (take k) (drop-append-le (i * k) (each n f) (f n) (omega arith))
    ∙ take-append-le k (drop (i * k) (each n f)) (f n) room
    ∙ each_window n k f (λ j p. e j (omega arith)) i m)
    (eq-or-lt_of_le (le_of_suc-le-suc l))

pub each_at : (n k : ℕ) (f : ℕ → List ℕ) → ((i : ℕ) → i < n → length (f i) ≡ k) → (i j : ℕ) → i < n → j < k
    → at (each n f) (i * k + j) ≡ at (f i) j
each_at n k f e i j l m =
    sym (get_or-drop (i * k) (each n f) j 0) ∙ sym (get_or-take k (drop (i * k) (each n f)) j 0 m)
    ∙ ap (λ (xs : List ℕ). at xs j) (each_window n k f e i l)

-- any list is joined of its stretches
pub each_take {ℓ} : {A : Type ℓ} (n k : ℕ) (xs : List A) → each n (λ i. take k (drop (i * k) xs)) ≡ take (n * k) xs
unfolding each
each_take zero k xs = rw zero-mul
each_take {A = A} (suc n) k xs =
    ap (λ (l : List A). l ++ take k (drop (n * k) xs)) (each_take n k xs) ∙ sym (take-add (n * k) k xs) ∙ rw suc-mul

pub each_windows {ℓ} : {A : Type ℓ} (n k : ℕ) (xs : List A) → length xs ≡ n * k → each n (λ i. take k (drop (i * k) xs)) ≡ xs
each_windows n k xs e = each_take n k xs ∙ take_all (n * k) xs (le_of_eq e)

-- ---- lists joined of stretches of any lengths

module _ {A : Type 0} (f : ℕ → List A) where
  -- the first i stretches are no longer than all
  pub each_grows : (n i : ℕ) → i ≤ n → length (each i f) ≤ length (each n f)
  unfolding each
  each_grows zero i l = let e : i ≡ 0 = omega arith in rw e (omega arith)
  each_grows (suc n) i l =
      ⊎_elim (λ (e : i ≡ suc n). rw e (omega arith))
      (λ (m : i < suc n). omega (arith, length-append (each n f) (f n), each_grows n i (omega arith)))
      (below (let z : i < suc (suc n) = omega arith in z))

  -- place j of stretch i
  pub each_part : (d : A) (n i j : ℕ) → i < n → j < length (f i) → get_or (each n f) (length (each i f) + j) d ≡ get_or (f i) j d
  unfolding each
  each_part d zero i j l m = absurd (not-suc-le-zero l)
  each_part d (suc n) i j l m =
      ⊎_elim
      (λ (e : i ≡ n). rw e (get_or-append-add (each n f) (f n) j d))
      (λ (k : i < n).
      let room : length (each (suc i) f) ≤ length (each n f) = each_grows n (suc i) k in
      get_or-append (each n f) (f n) d (length (each i f) + j) (omega (arith, length-append (each i f) (f i)))
      ∙ each_part d n i j k m)
      (below l)

  -- every place is one of some stretch
  pub each_find : (n k : ℕ) → k < length (each n f) → (i : ℕ) × (j : ℕ) × (i < n) × (j < length (f i)) × (k ≡ length (each i f) + j)
  unfolding each
  each_find zero k l = absurd (not-suc-le-zero l)
  each_find (suc n) k l =
      ⊎_elim
      (λ (m : length (each n f) ≤ k).
      (n, k - length (each n f), omega arith, omega (arith, length-append (each n f) (f n)), omega arith))
      (λ (m : k < length (each n f)).
      let w = each_find n k m in
      (w.0, w.1, omega (arith, w.2), w.3, w.4))
      (le_or_lt (length (each n f)) k)

-- ---- lists of n single numbers

pub each_single_length : (n : ℕ) (f : ℕ → ℕ) → length (each n (λ i. f i ∷ [])) ≡ n
each_single_length n f = each_length n 1 (λ i. f i ∷ []) (λ i l. refl) ∙ mul-one n

pub each_single_at : (n : ℕ) (f : ℕ → ℕ) (i : ℕ) → i < n → at (each n (λ i. f i ∷ [])) i ≡ f i
each_single_at n f i l =
    let e : i * 1 + 0 ≡ i = omega arith in
    rw e at (each_at n 1 (λ i. f i ∷ []) (λ j m. refl) i 0 l (omega arith))

pub each_singles : (xs : List ℕ) → each (length xs) (λ i. at xs i ∷ []) ≡ xs
each_singles xs =
    ext_get_or 0 (each (length xs) (λ i. at xs i ∷ [])) xs
    (each_single_length (length xs) (at xs))
    (λ i l. each_single_at (length xs) (at xs) i (rw (each_single_length (length xs) (at xs)) at l))

-- ---- a part of a list

-- past its first l numbers: the rest of a part of s places, and what follows the part
part_rest : (l s : ℕ) (d : List ℕ) → l ≤ s → drop l (take s d) ++ drop s d ≡ drop l d
part_rest zero s d h = take-append-drop s d
part_rest (suc l) zero d h = absurd (omega arith)
part_rest (suc l) (suc s) [] h = refl
part_rest (suc l) (suc s) (x ∷ d) h = part_rest l s d (omega arith)

-- The list xs holds p and then what d has from n on. Its part of s places that starts at n gets w in its first l places, and is ys then:
-- the whole holds p and w, and then what d has from n + l on.
pub part_more : (p w d xs ys : List ℕ) (n l s : ℕ) → length p ≡ n → l ≤ s → xs ≡ p ++ drop n d → ys ≡ w ++ drop l (take s (drop n xs))
    → take n xs ++ (ys ++ drop s (drop n xs)) ≡ (p ++ w) ++ drop (n + l) d
part_more p w d xs ys n l s e h ex ey =
    let tk : take n xs ≡ p = ap (take n) ex ∙ take_at p (drop n d) n e in
    let dr : drop n xs ≡ drop n d = ap (drop n) ex ∙ drop_at p (drop n d) n e in
    rw (tk, ey, dr, append_assoc w, part_rest l s (drop n d) h, drop-drop l n d, append_assoc p)

-- ---- lists that a loop fills from the front

pub record Filled (was out : List ℕ) (n : ℕ) (xs : List ℕ) : Type 0 where
  pub holds : out ≡ xs ++ drop n was
  pub count : length xs ≡ n
  pub room : n ≤ length was
  pub same : length out ≡ length was

-- the last field follows from the others; it stands there so that arithmetic sees it
pub filled_of : (was out : List ℕ) (n : ℕ) (xs : List ℕ) → out ≡ xs ++ drop n was → length xs ≡ n → n ≤ length was → Filled was out n xs
filled_of was out n xs e c r = record {
  holds = e;
  count = c;
  room = r;
  same = ap length e ∙ length-append xs (drop n was) ∙ simp length-drop (omega arith);
}

pub filled_start : (was : List ℕ) → Filled was was 0 []
filled_start was = record { holds = refl; count = refl; room = omega arith; same = refl }

-- one more number, at place n
pub filled_put : {was out xs : List ℕ} {n : ℕ} (v : ℕ) → Filled was out n xs → n < length was
    → Filled was (set out n v) (n + 1) (xs ++ (v ∷ []))
filled_put {was} {out} {xs} {n} v F l = record {
  holds =
      ap (λ (d : List ℕ). set d n v) (F.holds ∙ ap (λ (d : List ℕ). xs ++ d) (drop_next was n l))
      ∙ set_at xs (at was n) (drop (n + 1) was) v n F.count ∙ sym (append_snoc xs v (drop (n + 1) was));
  count = length-append xs (v ∷ []) ∙ ap (λ (k : ℕ). k + 1) F.count;
  room = omega arith;
  same = length-set out n v ∙ F.same;
}

pub filled_take : {was out xs : List ℕ} {n : ℕ} → Filled was out n xs → take n out ≡ xs
filled_take {was} {xs = xs} {n = n} F = ap (take n) F.holds ∙ take_at xs (drop n was) n F.count

pub filled_drop : {was out xs : List ℕ} {n : ℕ} → Filled was out n xs → drop n out ≡ drop n was
filled_drop {was} {xs = xs} {n = n} F = ap (drop n) F.holds ∙ drop_at xs (drop n was) n F.count

-- a stretch of l numbers more, through the part of s places that starts at n: ys is what the part holds afterwards
pub filled_part : {was out xs : List ℕ} {n : ℕ} (l s : ℕ) (w ys : List ℕ) → Filled was out n xs
    → length w ≡ l → l ≤ s → n + l ≤ length was → ys ≡ w ++ drop l (take s (drop n out))
    → Filled was (take n out ++ (ys ++ drop s (drop n out))) (n + l) (xs ++ w)
filled_part {was} {out} {xs} {n} l s w ys F e h k q =
    filled_of was (take n out ++ (ys ++ drop s (drop n out))) (n + l) (xs ++ w)
    (part_more xs w was out ys n l s F.count h F.holds q)
    (length-append xs w ∙ ap₂ ◌+◌ F.count e)
    k

pub filled_rest : {was out xs : List ℕ} {n : ℕ} → Filled was out n xs → (i : ℕ) → n ≤ i → at out i ≡ at was i
filled_rest {was} {out} {n = n} F i l =
    let e : n + (i - n) ≡ i = omega arith in
    ap (at out) (sym e) ∙ sym (get_or-drop n out (i - n) 0) ∙ ap (λ (d : List ℕ). at d (i - n)) (filled_drop F)
    ∙ get_or-drop n was (i - n) 0 ∙ ap (at was) e

-- a run of numbers more, from place n on
pub filled_sets : {was out xs : List ℕ} {n : ℕ} (vs : List ℕ) (m : ℕ) → Filled was out n xs → m ≡ n + length vs → m ≤ length was
    → Filled was (sets out n vs) m (xs ++ vs)
filled_sets {was} {out} {xs} {n} vs m F e l =
    let rest : drop (n + length vs) out ≡ drop m was =
    sym (drop-drop (length vs) n out) ∙ ap (drop (length vs)) (filled_drop F) ∙ drop-drop (length vs) n was
    ∙ ap (λ (k : ℕ). drop k was) (sym e) in
    filled_of was (sets out n vs) m (xs ++ vs)
    (sets-eq vs out n (omega (arith, F.same)) ∙ ap₂ (λ (a b : List ℕ). a ++ vs ++ b) (filled_take F) rest)
    (length-append xs vs ∙ ap (λ (k : ℕ). k + length vs) F.count ∙ sym e)
    l

-- the first k numbers are kept
pub filled_front : (was : List ℕ) (k : ℕ) → k ≤ length was → Filled was was k (take k was)
filled_front was k l = filled_of was was k (take k was) (sym (take-append-drop k was)) (length-take-le k was l) l

-- ---- map, replicate

pub at_map : (g : ℕ → ℕ) (l : List ℕ) (k : ℕ) → k < length l → at (map g l) k ≡ g (at l k)
at_map g [] k h = absurd (not-suc-le-zero h)
at_map g (x ∷ xs) zero h = refl
at_map g (x ∷ xs) (suc k) h = at_map g xs k (le_of_suc-le-suc h)

pub zeros_at : (n i : ℕ) → at (replicate n 0) i ≡ 0
zeros_at zero i = refl
zeros_at (suc n) zero = refl
zeros_at (suc n) (suc i) = zeros_at n i
