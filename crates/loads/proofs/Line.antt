-- Loads as circulations: what rows and sets carry is a circulation exactly if every set carries the sum of its rows.
use mathlib.Core.Path.{◌≡◌, refl, sym, ap, ◌∙◌}
use mathlib.Core.Bool.{Bool, true, false, ◌&&◌}
use mathlib.Core.Logic.{◌≢◌}
use Prim.Native.Nat.{ℕ, zero, suc, ◌+◌, min, ◌≤◌, ◌<◌}
use native.Mathlib.Decide.{dec_lt}
use native.Mathlib.Omega.{arith}
use lib.Dec.{leb}
use borrow.Author.Tests.{le-leb, lt-leb}
use Rattle.numbers.specs.Finite.{sum, sum_in, only}
use Rattle.numbers.proofs.Finite.{only_true, only_false, only_zero, only_comm, sum_eq, sum_add, sum_split, sum_but, eq_additive, sum_in_add}
use Rattle.loads.specs.Network.{Net, Circulation}
use Rattle.loads.specs.Loads.{covers, in_set}
use Rattle.loads.specs.Line.{Lines}

-- ---- where a row is

pub covers_in : (a b k : ℕ) → a ≤ k → k ≤ b → covers a b k ≡ true
covers_in a b k l m = rw (le-leb a k l, le-leb k b m)

pub covers_before : (a b k : ℕ) → k < a → covers a b k ≡ false
covers_before a b k l = rw (lt-leb a k l)

pub covers_after : (a b k : ℕ) → b < k → covers a b k ≡ false
covers_after a b k l = go (leb a k)
  where
    go : (p : Bool) → p && leb k b ≡ false
    go true = lt-leb k b l
    go false = refl

-- a row that has begun by set k has ended before it or belongs to it
begun : (a b k v : ℕ) → a ≤ b → Dec (k < a) → Dec (b < k) → only (leb a k) v ≡ only (leb (suc b) k) v + only (covers a b k) v
begun a b k v ab (yes l) d =
    omega (
      arith,
      only_false _ v (lt-leb a k l),
      only_false _ v (lt-leb (suc b) k (omega arith)),
      only_false _ v (covers_before a b k l),
    )
begun a b k v ab (no l) (yes m) =
    omega (
      arith,
      only_true _ v (le-leb a k (omega arith)),
      only_true _ v (le-leb (suc b) k m),
      only_false _ v (covers_after a b k m),
    )
begun a b k v ab (no l) (no m) =
    omega (
      arith,
      only_true _ v (le-leb a k (omega arith)),
      only_false _ v (lt-leb (suc b) k (omega arith)),
      only_true _ v (covers_in a b k (omega arith) (omega arith)),
    )

-- below k and at most k differ at k alone
apart : (e k : ℕ) → e ≢ k → Dec (e < k) → leb (suc e) k ≡ leb e k
apart e k ne (yes l) = le-leb (suc e) k l ∙ sym (le-leb e k (omega arith))
apart e k ne (no l) = lt-leb (suc e) k (omega arith) ∙ sym (lt-leb e k (omega arith))

-- ---- one row

-- over a row's sets the sums telescope
tele_step : (w : ℕ → ℕ) (a b K A B : ℕ) → a ≤ suc b → Dec (K < a) → Dec (b < K) → w (min a K) + A ≡ w (min (suc b) K) + B
    → w (min a (suc K)) + (A + only (covers a b K) (w (suc K))) ≡ w (min (suc b) (suc K)) + (B + only (covers a b K) (w K))
tele_step w a b K A B ab (yes l) d h =
    let c : covers a b K ≡ false = covers_before a b K l in
    let p : min a K ≡ min (suc b) K = omega arith in
    let q : min a (suc K) ≡ min (suc b) (suc K) = omega arith in
    omega (arith, ap w p, ap w q, only_false _ (w K) c, only_false _ (w (suc K)) c)
tele_step w a b K A B ab (no l) (yes m) h =
    let c : covers a b K ≡ false = covers_after a b K m in
    let p : min a (suc K) ≡ min a K = omega arith in
    let q : min (suc b) (suc K) ≡ min (suc b) K = omega arith in
    omega (arith, ap w p, ap w q, only_false _ (w K) c, only_false _ (w (suc K)) c)
tele_step w a b K A B ab (no l) (no m) h =
    let c : covers a b K ≡ true = covers_in a b K (omega arith) (omega arith) in
    let p : min a (suc K) ≡ min a K = omega arith in
    let q : min (suc b) K ≡ K = omega arith in
    let q' : min (suc b) (suc K) ≡ suc K = omega arith in
    omega (arith, ap w p, ap w q, ap w q', only_true _ (w K) c, only_true _ (w (suc K)) c)

tele : (w : ℕ → ℕ) (a b : ℕ) → a ≤ suc b → (K : ℕ)
    → w (min a K) + sum K (λ k. only (covers a b k) (w (suc k))) ≡ w (min (suc b) K) + sum K (λ k. only (covers a b k) (w k))
unfolding sum
tele w a b ab zero =
    let p : min a 0 ≡ min (suc b) 0 = omega arith in
    omega (arith, ap w p)
tele w a b ab (suc K) = tele_step w a b K _ _ ab (dec_lt K a) (dec_lt b K) (tele w a b ab K)

row : (r : ℕ → Bool) (a b v K : ℕ) → a ≤ b → b < K
    → only (r a) v + sum K (λ k. only (r (suc k)) (only (covers a b k) v))
    ≡ only (r (suc b)) v + sum K (λ k. only (r k) (only (covers a b k) v))
row r a b v K ab bK =
    let p : min a K ≡ a = omega arith in
    let q : min (suc b) K ≡ suc b = omega arith in
    omega (
      arith,
      tele (λ k. only (r k) v) a b (omega arith) K,
      ap (λ (k : ℕ). only (r k) v) p,
      ap (λ (k : ℕ). only (r k) v) q,
      sum_eq K (λ k. only (r (suc k)) (only (covers a b k) v)) (λ k. only (covers a b k) (only (r (suc k)) v)) (λ k l. only_comm _ _ _),
      sum_eq K (λ k. only (r k) (only (covers a b k) v)) (λ k. only (covers a b k) (only (r k) v)) (λ k l. only_comm _ _ _),
    )

-- ---- all rows

rows : (r : ℕ → Bool) (a b y : ℕ → ℕ) (K n : ℕ) → ((j : ℕ) → j < n → (a j ≤ b j) × (b j < K))
    → sum n (λ j. only (r (a j)) (y j)) + sum K (λ k. only (r (suc k)) (sum_in n (in_set a b k) y))
    ≡ sum n (λ j. only (r (suc (b j))) (y j)) + sum K (λ k. only (r k) (sum_in n (in_set a b k) y))
unfolding sum
rows r a b y K zero h = omega (arith, sum_eq K _ _ (λ k l. only_zero (r (suc k)) ∙ sym (only_zero (r k))))
rows r a b y K (suc n) h =
    let v : ℕ → ℕ = λ k. only (covers (a n) (b n) k) (y n) in
    omega (
      arith,
      rows r a b y K n (λ j l. h j (omega arith)),
      row r (a n) (b n) (y n) K (h n (omega arith)).0 (h n (omega arith)).1,
      sum_in_add K (λ k. r (suc k)) (λ k. sum_in n (in_set a b k) y) v,
      sum_in_add K r (λ k. sum_in n (in_set a b k) y) v,
    )

-- the sum over the arcs that begin, or end, in r
arcs : (r : ℕ → Bool) (n K : ℕ) (end x at at' : ℕ → ℕ) → ((j : ℕ) → j < n → end j ≡ at j) → ((k : ℕ) → k < K → end (n + k) ≡ at' k)
    → sum_in (n + K) (λ e. r (end e)) x ≡ sum n (λ j. only (r (at j)) (x j)) + sum K (λ k. only (r (at' k)) (x (n + k)))
arcs r n K end x at at' p q =
    omega (
      arith,
      sum_split n K (λ e. only (r (end e)) (x e)),
      sum_eq n (λ e. only (r (end e)) (x e)) (λ j. only (r (at j)) (x j)) (λ j l. rw (p j l)),
      sum_eq K (λ k. only (r (end (n + k))) (x (n + k))) (λ k. only (r (at' k)) (x (n + k))) (λ k l. rw (q k l)),
    )

module _ (n K : ℕ) (a b : ℕ → ℕ) (G : Net) (x : ℕ → ℕ) (e : G.arcs ≡ n + K) (L : Lines n K a b G.tail G.head)
    (ok : (j : ℕ) → j < n → (a j ≤ b j) × (b j < K)) where
  -- what the arcs that begin in r carry, and those that end there
  leaving : (r : ℕ → Bool) → sum_in G.arcs (λ c. r (G.tail c)) x
      ≡ sum n (λ j. only (r (a j)) (x j)) + sum K (λ k. only (r (suc k)) (x (n + k)))
  leaving r = rw e (arcs r n K G.tail x a suc L.row_tail L.set_tail)

  entering : (r : ℕ → Bool) → sum_in G.arcs (λ c. r (G.head c)) x
      ≡ sum n (λ j. only (r (suc (b j))) (x j)) + sum K (λ k. only (r k) (x (n + k)))
  entering r = rw e (arcs r n K G.head x (λ j. suc (b j)) (λ k. k) L.row_head L.set_head)

  pub circ_of_sums : ((k : ℕ) → k < K → x (n + k) ≡ sum_in n (in_set a b k) x) → Circulation G x
  circ_of_sums h r =
      let S : ℕ → ℕ = λ k. sum_in n (in_set a b k) x in
      omega (
        arith,
        leaving r,
        entering r,
        rows r a b x K n ok,
        sum_eq K (λ k. only (r (suc k)) (x (n + k))) (λ k. only (r (suc k)) (S k)) (λ k l. ap (only (r (suc k))) (h k l)),
        sum_eq K (λ k. only (r k) (x (n + k))) (λ k. only (r k) (S k)) (λ k l. ap (only (r k)) (h k l)),
      )

  -- by the nodes up to k
  pub sums_of_circ : Circulation G x → (k : ℕ) → k < K → x (n + k) ≡ sum_in n (in_set a b k) x
  sums_of_circ c k l =
      let r : ℕ → Bool = λ v. leb v k in
      let X : ℕ → ℕ = λ m. x (n + m) in
      omega (
        arith,
        c r,
        leaving r,
        entering r,
        sum_but (λ u v. u ≡ v) eq_additive K (λ m. only (leb (suc m) k) (X m)) (λ m. only (leb m k) (X m)) k l
            (λ m g ne. ap (λ (t : Bool). only t (X m)) (apart m k ne (dec_lt m k))),
        sum_eq n (λ j. only (leb (a j) k) (x j)) (λ j. only (leb (suc (b j)) k) (x j) + only (covers (a j) (b j) k) (x j))
            (λ j m. begun (a j) (b j) k (x j) (ok j m).0 (dec_lt k (a j)) (dec_lt (b j) k)),
        sum_add n (λ j. only (leb (suc (b j)) k) (x j)) (λ j. only (covers (a j) (b j) k) (x j)),
        only_false _ (X k) (lt-leb (suc k) k (omega arith)),
        only_true _ (X k) (le-leb k k (omega arith)),
      )
