-- What the checks of a list say: of a list file, and of a list in memory.
use mathlib.Core.Path.{◌≡◌}
use mathlib.Core.Logic.{inl, inr, ⊎_elim, ◌≢◌}
use mathlib.Core.List.{List, [], ◌∷◌}
use Prim.Native.Nat.{ℕ, ◌+◌, ◌-◌, ◌*◌, ◌%◌, ◌≤◌, ◌<◌}
use native.Mathlib.Omega.{arith}
use lib.ListN.{length}
use Rattle.numbers.specs.Lists.{each}
use Rattle.numbers.proofs.Truth.{le_or_lt, limits, equals}
use Rattle.rules.specs.Bounds.{max_elements, max_slots, max_rows}
use Rattle.rules.specs.TableFile.{mark, version}
use Rattle.rules.specs.ElementList.{
  ElementList,
  list_mark,
  list_version,
  list_header,
  entry_size,
  entry_numbers,
  file_list,
  memory_list,
}
use Rattle.rules.specs.Refusals.{Check, Answers, wrong_list, wrong_entry, entry_checks, list_file_checks, list_memory_checks}
use Rattle.rules.proofs.Answers.{
  None,
  Numbered,
  none_left,
  none_single,
  single_none,
  single_numbered,
  numbered_join,
  applied,
  passed,
  stopped,
  joined,
}
use Rattle.table.proofs.Faults.{mark_right}
use Rattle.lists.specs.Entries.{Fit, head_checks}

-- ---- the bounds and the entries

-- A list that passes 30 and 31.
pub record Right (l : ElementList) : Type 0 where
  pub element_low : 1 ≤ l.element
  pub element_high : l.element ≤ max_elements
  pub hyper_low : 1 ≤ l.hyper
  pub hyper_high : l.hyper ≤ max_slots
  pub entry : (k : ℕ) → k < l.entries → (wrong_entry l k).applies → ⊥

abbrev entries : ElementList → List Check
entries l = each l.entries (λ k. wrong_entry l k ∷ [])

pub none_right_list : (l : ElementList) → None (entry_checks l) → Right l
unfolding entry_checks None
none_right_list l a =
    let e = limits l.element 1 max_elements (λ h. a.0 (inl h)) in
    let h = limits l.hyper 1 max_slots (λ h. a.0 (inr h)) in
    record {
      element_low = e.0;
      element_high = e.1;
      hyper_low = h.0;
      hyper_high = h.1;
      entry = none_single (wrong_entry l) l.entries a.1;
    }

pub right_list_none : (l : ElementList) → Right l → None (entry_checks l)
unfolding entry_checks None
right_list_none l r = (
  ⊎_elim (λ h. h (r.element_low, r.element_high)) (λ h. h (r.hyper_low, r.hyper_high)),
  single_none (wrong_entry l) l.entries r.entry,
)

-- what fits a list fits its file
pub right_fits : {l : ElementList} → Right l → Fit l.entries l.entry
right_fits {l} r = record {
  row = λ k h. ⊎_elim (λ z. absurd (r.entry k h (inr (inl z)))) (λ z. omega arith) (le_or_lt max_rows (l.entry k).row);
  way = λ k h. ⊎_elim (λ z. omega arith) (λ z. absurd (r.entry k h (inr (inr (inl z))))) (le_or_lt (l.entry k).way 1);
}

entries_numbered : (l : ElementList) → Numbered (entries l)
entries_numbered l = single_numbered (wrong_entry l) l.entries (λ k z. let y : ⊥ = omega arith in y)

-- ---- a list file

pub head_numbered : (f : List ℕ) → Numbered (head_checks f)
unfolding Numbered
head_numbered f = omega arith

pub file_numbered : (f : List ℕ) → Numbered (list_file_checks f)
unfolding list_file_checks entry_checks
file_numbered f = numbered_join (head_checks f) (entries (file_list f)) (head_numbered f) (entries_numbered (file_list f))

pub file_stopped : (f : List ℕ) (n p : ℕ) → n ≢ 0 → Answers (head_checks f) n p → Answers (list_file_checks f) n p
unfolding list_file_checks entry_checks
file_stopped f n p h a = stopped (head_checks f) (entries (file_list f)) n p h a

pub file_joined : (f : List ℕ) (n p : ℕ) → None (head_checks f) → Answers (entries (file_list f)) n p → Answers (list_file_checks f) n p
unfolding list_file_checks entry_checks
file_joined f n p a h = joined (head_checks f) (entries (file_list f)) n p a h

-- A file that passes 1, 2, 3, 6, 30 and 31.
pub record ListPassed (f : List ℕ) : Type 0 where
  pub long : list_header ≤ length f
  pub marked : mark f ≡ list_mark
  pub versioned : version f ≡ list_version
  pub size : length f ≡ list_header + entry_size * (file_list f).entries

-- of its head
pub head_passed : (f : List ℕ) → None (head_checks f) → ListPassed f
unfolding None
head_passed f a =
    let l : list_header ≤ length f = ⊎_elim (λ h. h) (λ h. absurd (a.0 h)) (le_or_lt list_header (length f)) in
    let r : (length f - list_header) % entry_size ≡ 0 = equals _ 0 a.1.1.1.0 in
    record {
      long = l;
      marked = mark_right f (omega arith) a.1.0;
      versioned = equals (version f) list_version a.1.1.0;
      size = omega (arith, r);
    }

pub head_hyper : (f : List ℕ) → None (head_checks f) → (file_list f).hyper ≤ max_slots
unfolding None
head_hyper f a = (limits (file_list f).hyper 1 max_slots (λ h. a.1.1.1.1.0 (inr h))).1

pub file_head_lem : (f : List ℕ) → None (list_file_checks f) → None (head_checks f)
unfolding list_file_checks entry_checks
file_head_lem f a = none_left (head_checks f) (entries (file_list f)) a

file_rest : (f : List ℕ) → None (list_file_checks f) → None (entry_checks (file_list f))
unfolding list_file_checks None
file_rest f a = a.1.1.1.1

pub file_right : (f : List ℕ) → None (list_file_checks f) → Right (file_list f)
file_right f a = none_right_list (file_list f) (file_rest f a)

pub passed_none : (f : List ℕ) → ListPassed f → Right (file_list f) → None (list_file_checks f)
unfolding list_file_checks None
passed_none f p r = (
  λ h. let z : ⊥ = omega (arith, p.long) in z,
  (λ h. h p.marked, (λ h. h p.versioned, (λ h. h (omega (arith, p.size)), right_list_none (file_list f) r))),
)

-- ---- a list in memory

pub memory_numbered : (e h : ℕ) (xs : List ℕ) → Numbered (list_memory_checks e h xs)
unfolding list_memory_checks entry_checks Numbered
memory_numbered e h xs = (omega arith, (omega arith, entries_numbered (memory_list e h xs)))

module _ (e h : ℕ) (xs : List ℕ) where
  pub memory_right : None (list_memory_checks e h xs) → Right (memory_list e h xs)
  unfolding list_memory_checks None
  memory_right a = none_right_list (memory_list e h xs) a.1

  pub memory_whole : None (list_memory_checks e h xs) → length xs ≡ entry_numbers * (memory_list e h xs).entries
  unfolding list_memory_checks None
  memory_whole a = let r : length xs % entry_numbers ≡ 0 = equals _ 0 a.0 in omega (arith, r)

  pub right_memory : length xs ≡ entry_numbers * (memory_list e h xs).entries → Right (memory_list e h xs) → None (list_memory_checks e h xs)
  unfolding list_memory_checks None
  right_memory s r = (λ h. h (omega (arith, s)), right_list_none (memory_list e h xs) r)

  -- 6 refuses; 30 does; the entries decide
  pub memory_part : (n p : ℕ) → length xs % entry_numbers ≢ 0 → (n ≡ 6) × (p ≡ 0) → Answers (list_memory_checks e h xs) n p
  unfolding list_memory_checks
  memory_part n p l q = applied _ _ n p l q.0 q.1

  module _ (w : length xs % entry_numbers ≡ 0) where
    pub memory_bounds : (n p : ℕ) → n ≢ 0 → Answers (wrong_list (memory_list e h xs) ∷ []) n p → Answers (list_memory_checks e h xs) n p
    unfolding list_memory_checks entry_checks
    memory_bounds n p z a = passed _ _ n p (λ q. q w) (stopped (wrong_list (memory_list e h xs) ∷ []) (entries (memory_list e h xs)) n p z a)

    pub memory_entries : (n p : ℕ) → None (wrong_list (memory_list e h xs) ∷ []) → Answers (entries (memory_list e h xs)) n p
        → Answers (list_memory_checks e h xs) n p
    unfolding list_memory_checks entry_checks
    memory_entries n p z a = passed _ _ n p (λ q. q w) (joined (wrong_list (memory_list e h xs) ∷ []) (entries (memory_list e h xs)) n p z a)

-- 30 alone
pub bounds_numbered : (l : ElementList) → Numbered (wrong_list l ∷ [])
unfolding Numbered
bounds_numbered l = omega arith

pub bounds_hyper : (l : ElementList) → None (wrong_list l ∷ []) → l.hyper ≤ max_slots
unfolding None
bounds_hyper l a = (limits l.hyper 1 max_slots (λ h. a.0 (inr h))).1
