-- The entries of a list checked one after the other.
--
--   Checked l k least  the first k entries of list l pass check 31, and leave ranks from `least` on to those after them
use mathlib.Core.Path.{◌≡◌, refl}
use mathlib.Core.Logic.{inl, inr, ⊎_elim, ◌⊎◌}
use mathlib.Core.List.{[], ◌∷◌}
use Prim.Native.Nat.{ℕ, zero, suc, ◌+◌, ◌-◌, ◌*◌, ◌≤◌, ◌<◌}
use native.Mathlib.Omega.{arith}
use Rattle.numbers.specs.Lists.{each}
use Rattle.numbers.proofs.Truth.{le_or_lt}
use Rattle.rules.specs.ElementList.{Entry, ElementList, Rises}
use Rattle.rules.specs.Refusals.{Answers, wrong_entry}
use Rattle.rules.proofs.Answers.{single_none, single_stopped, answered}
use Rattle.lists.specs.Entries.{rank, Wrong, IsEntry, entry_of}
use Rattle.lists.specs.declared.Entry.{Entry as Place}

pub record Checked (l : ElementList) (k least : ℕ) : Type 0 where
  pub clean : (j : ℕ) → j < k → (wrong_entry l j).applies → ⊥
  pub few : k ≤ least
  pub within : least ≤ 2 * l.hyper
  pub after : ((k ≡ 0) × (least ≡ 0)) ⊎ ((0 < k) × (least ≡ rank (l.entry (k - 1)) + 1) × ((l.entry (k - 1)).way ≤ 1))

pub checked_start : (l : ElementList) → Checked l 0 0
checked_start l =
    record { clean = λ j h. absurd (let z : ⊥ = omega arith in z); few = omega arith; within = omega arith; after = inl (refl, refl) }

-- ---- the next entry

module _ {l : ElementList} {k least : ℕ} (C : Checked l k least) where
  abbrev x : Entry
  x = l.entry k

  -- its rank is too low for what comes before it
  out_of_order : rank x < least → Rises l k → ⊥
  out_of_order h r =
      ⊎_elim (λ z. omega (arith, z.1))
      (λ z.
      ⊎_elim (λ (q : k ≡ 0). omega (arith, z.0))
      (λ b. ⊎_elim (λ (q : (l.entry (k - 1)).slot < x.slot). omega (arith, z.1, z.2)) (λ q. omega (arith, z.1, q.0, q.1)) b) r)
      C.after

  -- it is wrong, exactly if its place or its rank says so
  is_wrong : Wrong l.hyper least x → (wrong_entry l k).applies
  is_wrong w = ⊎_elim inl (λ v. ⊎_elim (λ h. inr (inl h)) (λ u. inr (inr (⊎_elim inl (λ h. inr (out_of_order h)) u))) v) w

  module _ (f : Wrong l.hyper least x → ⊥) where
    low_slot : x.slot < l.hyper
    low_slot = ⊎_elim (λ h. absurd (f (inl h))) (λ h. h) (le_or_lt l.hyper x.slot)

    low_way : x.way ≤ 1
    low_way = ⊎_elim (λ h. h) (λ h. absurd (f (inr (inr (inl h))))) (le_or_lt x.way 1)

    high_rank : least ≤ rank x
    high_rank = ⊎_elim (λ h. h) (λ h. absurd (f (inr (inr (inr h))))) (le_or_lt least (rank x))

    rises : Rises l k
    rises =
        ⊎_elim (λ z. inl z.0)
        (λ z.
        inr (⊎_elim
        (λ (h : x.slot ≤ (l.entry (k - 1)).slot).
        let e : (l.entry (k - 1)).slot ≡ x.slot = omega (arith, z.1, z.2, high_rank, low_way) in
        inr (e, omega (arith, z.1, high_rank)))
        inl
        (le_or_lt x.slot (l.entry (k - 1)).slot)))
        C.after

    right : (wrong_entry l k).applies → ⊥
    right w = ⊎_elim (λ h. f (inl h)) (λ v. ⊎_elim (λ h. f (inr (inl h))) (λ u. ⊎_elim (λ h. f (inr (inr (inl h)))) (λ n. n rises) u) v) w

    nearly : (j : ℕ) → j < k + 1 → (j ≡ k) ⊎ (j < k)
    nearly j h = ⊎_elim (λ (q : k ≤ j). inl (omega arith)) inr (le_or_lt k j)

    checked_next : Checked l (k + 1) (rank x + 1)
    checked_next = record {
      clean = λ j h. ⊎_elim (λ (e : j ≡ k). rw e right) (λ q. C.clean j q) (nearly j h);
      few = omega (arith, C.few, high_rank);
      within = omega (arith, low_slot, low_way);
      after = let e : k + 1 - 1 ≡ k = omega arith in rw e (inr (omega arith, refl, low_way));
    }

-- where none of n is wrong, the first k are checked
checked_all : (l : ElementList) (n : ℕ) → ((k : ℕ) → k < n → (wrong_entry l k).applies → ⊥) → (k : ℕ) → k ≤ n
    → (least : ℕ) × Checked l k least
checked_all l n h zero m = (0, checked_start l)
checked_all l n h (suc k) m =
    let q = checked_all l n h k (omega arith) in
    let C = checked_next q.1 (λ w. h k (omega arith) (is_wrong q.1 w)) in
    let e : k + 1 ≡ suc k = omega arith in
    (rank (l.entry k) + 1, rw e at C)

-- so a list has at most two entries a slot
pub entries_few : (l : ElementList) (n : ℕ) → ((k : ℕ) → k < n → (wrong_entry l k).applies → ⊥) → n ≤ 2 * l.hyper
entries_few l n h = let C = (checked_all l n h n (omega arith)).1 in omega (arith, C.few, C.within)

-- ---- an entry as the code reads it

-- the bounds of Checked hold of any entries that pass
pub few_next : {h k least m : ℕ} {x : Entry} → k ≤ least → (Wrong h least x → ⊥) × (m ≡ rank x + 1) → (k + 1 ≤ m) × (m ≤ 2 * h)
few_next {h} {k} {least} {m} {x} l w =
    let slot : x.slot < h = ⊎_elim (λ h. absurd (w.0 (inl h))) (λ h. h) (le_or_lt h x.slot) in
    let way : x.way ≤ 1 = ⊎_elim (λ h. h) (λ h. absurd (w.0 (inr (inr (inl h))))) (le_or_lt x.way 1) in
    let rank : least ≤ rank x = ⊎_elim (λ h. h) (λ h. absurd (w.0 (inr (inr (inr h))))) (le_or_lt least (rank x)) in
    (omega (arith, w.1), omega (arith, w.1))

module _ {l : ElementList} {k least : ℕ} {x : Place} (q : IsEntry (l.entry k) x) (C : Checked l k least) where
  pub read_next : {m : ℕ} → (Wrong l.hyper least (entry_of x) → ⊥) × (m ≡ rank (entry_of x) + 1) → Checked l (k + 1) m
  read_next w = rw (w.1, q.slot, q.way) (checked_next C (rw (q.slot, q.row, q.way) at w.0))

  -- check 31 applies to it, and to none before it
  pub read_stop : (n : ℕ) → k < n → Wrong l.hyper least (entry_of x) → Answers (each n (λ k. wrong_entry l k ∷ [])) 31 k
  read_stop n h w =
      single_stopped (wrong_entry l) n k h (λ z. let y : ⊥ = omega arith in y) C.clean (is_wrong C (rw (q.slot, q.row, q.way) at w))

pub checked_end : {l : ElementList} {k least : ℕ} (n : ℕ) → Checked l k least → n ≤ k → Answers (each n (λ k. wrong_entry l k ∷ [])) 0 0
checked_end {l} n C h =
    let none : (j : ℕ) → j < n → (wrong_entry l j).applies → ⊥ = λ j i. C.clean j (omega arith) in
    answered (each n (λ k. wrong_entry l k ∷ [])) (single_none (wrong_entry l) n none)
