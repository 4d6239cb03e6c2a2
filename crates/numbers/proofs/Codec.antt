-- Files and slices of rows of one size: b places before the first row, k places a row. Nothing here knows what stands in a row, but that a
-- number of 16 bits is two bytes, low byte first, and a number of k bytes k of them.
use mathlib.Core.Path.{◌≡◌, refl, sym, ap, ap₂, ◌∙◌}
use mathlib.Core.List.{List, [], ◌∷◌, ◌++◌, append_assoc, append-nil}
use Prim.Native.Nat.{ℕ, zero, suc, ◌+◌, ◌*◌, ◌/◌, ◌%◌, ◌≤◌, ◌<◌}
use native.Mathlib.Nat.{mul-le-mul_left, add-zero, zero-add, add_assoc}
use native.Mathlib.Nat.{mod-add-div, mod-eq_of_lt, div-eq_of_lt, add-mul-mod_self_left, add-mul-div_left}
use native.Mathlib.Omega.{arith}
use lib.ListN.{length, take, drop, length-drop, take-append-drop}
use lib.Seq.{sets, length-take-le, get_or-take, get_or-drop, get_or-append-add, drop-drop}
use Rattle.numbers.specs.Lists.{at, each}
use Rattle.numbers.specs.Codec.{read_low, write_low}
use Rattle.numbers.proofs.Lists.{Filled, filled_sets, each_none, each_next, each_eq, each_join, each_at, each_windows, each_singles}

-- the k places from p on, one by one
pub places : (k p : ℕ) (xs : List ℕ) → p + k ≤ length xs → take k (drop p xs) ≡ each k (λ j. at xs (p + j) ∷ [])
places k p xs l =
    let w : List ℕ = take k (drop p xs) in
    let long : length w ≡ k = length-take-le k (drop p xs) (simp length-drop (omega arith)) in
    let single : each k (λ j. at w j ∷ []) ≡ w = rw long at (each_singles w) in
    sym single ∙ each_eq k (λ j. at w j ∷ []) (λ j. at xs (p + j) ∷ [])
    (λ j h. ap (λ (x : ℕ). x ∷ []) (get_or-take k (drop p xs) j 0 h ∙ get_or-drop p xs j 0))

-- place j of row i, where the rows f stand after h
pub row_place : (b k n : ℕ) (h : List ℕ) (f : ℕ → List ℕ) → length h ≡ b → ((i : ℕ) → i < n → length (f i) ≡ k)
    → (i j : ℕ) → i < n → j < k → at (h ++ each n f) (b + k * i + j) ≡ at (f i) j
row_place b k n h f e s i j l m =
    let p : b + k * i + j ≡ length h + (i * k + j) = omega arith in
    ap (at (h ++ each n f)) p ∙ get_or-append-add h (each n f) (i * k + j) 0 ∙ each_at n k f s i j l m

-- a list is what stands before its rows, and its rows
pub rows_whole : (b k n : ℕ) (f : ℕ → List ℕ) (xs : List ℕ) → length xs ≡ b + k * n
    → ((i : ℕ) → i < n → f i ≡ each k (λ j. at xs (b + k * i + j) ∷ [])) → take b xs ++ each n f ≡ xs
rows_whole b k n f xs e h =
    let row : (i : ℕ) → i < n → f i ≡ take k (drop (i * k) (drop b xs)) =
    λ i l.
    let room : b + k * i + k ≤ length xs = omega (arith, mul-le-mul_left k l) in
    let same : b + i * k ≡ b + k * i = omega arith in
    h i l ∙ sym (places k (b + k * i) xs room) ∙ ap (λ (p : ℕ). take k (drop p xs)) (sym same)
    ∙ ap (take k) (sym (drop-drop (i * k) b xs)) in
    let rows : each n f ≡ drop b xs =
    each_eq n f (λ i. take k (drop (i * k) (drop b xs))) row ∙ each_windows n k (drop b xs) (simp length-drop (omega arith)) in
    ap (λ (r : List ℕ). take b xs ++ r) rows ∙ take-append-drop b xs

-- ---- rows written one after the other to the front of a lent list

-- no row, after p
pub filled_rows : {was out : List ℕ} {n : ℕ} (p : List ℕ) (f : ℕ → List ℕ) → Filled was out n p → Filled was out n (p ++ each 0 f)
filled_rows p f F = rw (each_none f, append-nil) F

-- row i more, after p and the rows before it
pub filled_row : {was out out' : List ℕ} {n i : ℕ} (p : List ℕ) (f : ℕ → List ℕ) (vs : List ℕ) (m : ℕ) → Filled was out n (p ++ each i f)
    → out' ≡ sets out n vs → vs ≡ f i → m ≡ n + length vs → m ≤ length was → Filled was out' m (p ++ each (i + 1) f)
filled_row {i = i} p f vs m F o e q l =
    let same : (p ++ each i f) ++ vs ≡ p ++ each (i + 1) f =
    append_assoc p (each i f) vs ∙ ap (λ (r : List ℕ). p ++ r) (ap (λ (r : List ℕ). each i f ++ r) e ∙ sym (each_next i f)) in
    rw o (rw same at (filled_sets vs m F q l))

-- ---- 16 bits as two bytes

pub low_high : (x : ℕ) → x % 256 + 256 * (x / 256) ≡ x
low_high x = mod-add-div x 256

pub low_of : (a b : ℕ) → a < 256 → (a + 256 * b) % 256 ≡ a
low_of a b l = add-mul-mod_self_left a 256 b ∙ mod-eq_of_lt l

pub high_of : (a b : ℕ) → a < 256 → (a + 256 * b) / 256 ≡ b
high_of a b l = add-mul-div_left a b {y = 256} (omega arith) ∙ ap (λ (k : ℕ). k + b) (div-eq_of_lt l) ∙ zero-add b

-- ---- numbers of k bytes

pub low_length : (k x : ℕ) → length (write_low k x) ≡ k
unfolding write_low
low_length zero x = refl
low_length (suc zero) x = refl
low_length (suc (suc k)) x = ap suc (low_length (suc k) (x / 256))

-- the same bytes are the same number
pub low_eq : (k : ℕ) (f g : List ℕ) (p q : ℕ) → ((j : ℕ) → j < k → at f (p + j) ≡ at g (q + j)) → read_low k f p ≡ read_low k g q
unfolding read_low
low_eq zero f g p q e = refl
low_eq (suc k) f g p q e =
    ap₂ (λ (a b : ℕ). a + 256 * b) (rw (add-zero p, add-zero q) at (e 0 (omega arith)))
    (low_eq k f g (p + 1) (q + 1) (λ j l. rw (add_assoc p 1 j, add_assoc q 1 j) (e (1 + j) (omega arith))))

-- written and read: a number of no bytes is 0
pub low_back : (k x : ℕ) → (k ≡ 0 → x ≡ 0) → read_low k (write_low k x) 0 ≡ x
unfolding read_low write_low
low_back zero x h = sym (h refl)
low_back (suc zero) x h = omega arith
low_back (suc (suc k)) x h =
    let w : List ℕ = write_low (suc k) (x / 256) in
    let same : read_low (suc k) (x % 256 ∷ w) (0 + 1) ≡ x / 256 =
    low_eq (suc k) (x % 256 ∷ w) w (0 + 1) 0 (λ j l. get_or-append-add (x % 256 ∷ []) w j 0 ∙ rw (zero-add j))
    ∙ low_back (suc k) (x / 256) (λ e. absurd (let z : ⊥ = omega arith in z)) in
    ap (λ (b : ℕ). x % 256 + 256 * b) same ∙ low_high x

-- read and written
pub low_again : (k p : ℕ) (f : List ℕ) → ((i : ℕ) → at f i < 256) → write_low k (read_low k f p) ≡ each k (λ j. at f (p + j) ∷ [])
unfolding read_low write_low each
low_again zero p f b = refl
low_again (suc zero) p f b = let e : at f p + 256 * 0 ≡ at f p = omega arith in rw (e, add-zero p)
low_again (suc (suc k)) p f b =
    let y : ℕ = at f p in
    let r : ℕ = read_low (suc k) f (p + 1) in
    let g : ℕ → List ℕ = λ j. at f (p + j) ∷ [] in
    let two : 1 + suc k ≡ suc (suc k) = omega arith in
    let rest : write_low (suc k) r ≡ each (suc k) (λ j. g (1 + j)) =
    low_again (suc k) (p + 1) f b
    ∙ each_eq (suc k) (λ j. at f (p + 1 + j) ∷ []) (λ j. g (1 + j)) (λ j l. rw (add_assoc p 1 j)) in
    ap₂ (λ (a q : ℕ). a ∷ write_low (suc k) q) (low_of y r (b p)) (high_of y r (b p))
    ∙ ap (λ (l : List ℕ). y ∷ l) rest ∙ sym (rw (two, add-zero p) at (each_join 1 (suc k) g))

-- past the end of a list stands 0
pub low_past : (k : ℕ) (f : List ℕ) (p : ℕ) → ((j : ℕ) → at f (p + j) ≡ 0) → read_low k f p ≡ 0
unfolding read_low
low_past zero f p z = refl
low_past (suc k) f p z =
    let here : at f p ≡ 0 = rw add-zero at (z 0) in
    let rest : read_low k f (p + 1) ≡ 0 = low_past k f (p + 1) (λ j. rw (add_assoc p 1 j) (z (1 + j))) in
    omega (arith, here, rest)

-- a number of 16 bits
pub low_two : (f : List ℕ) (p : ℕ) → read_low 2 f p ≡ at f p + 256 * at f (p + 1)
unfolding read_low
low_two f p = omega arith
