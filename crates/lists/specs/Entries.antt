-- The code's lists, as #101's.
--
--   IsHead l r         r is what list l says of itself before its entries
--   IsEntry x r        r is the entry x
--   entry_of r          the entry that r is
--   rank x             twice the slot and the way: entries in order have ascending ranks
--   Wrong h least x    entry x can't stand in a list of h slots where the entries before it leave ranks from `least` on
--   Leaves h least x r r is nothing where x is wrong so; else the ranks from r on are left to the entries after x
--   Gives P n g        what P says of the numbers below n are the entries that g has there
--   Fit n g            rows and ways of n entries fit a byte
--   head_checks f      1, 2, 3, 6 and 30 of a list file: all before its entries
--   told e h g         a list of which the element, the hyperperiod and the entries are told
--   element_of, hyper_of, entries_of
--                      what was read of a list file before its entries; 0 on a refusal
use Rattle.std.specs.Prelude.{◌≡◌, ◌⊎◌, ◌≢◌, List, [], ◌∷◌, ℕ, ◌+◌, ◌-◌, ◌*◌, ◌%◌, ◌≤◌, ◌<◌, length, Option, MatchOption, Result, Ok, Err}
use Rattle.rules.specs.Bounds.{max_rows}
use Rattle.rules.specs.TableFile.{mark, version}
use Rattle.rules.specs.ElementList.{Entry, ElementList, move, list_mark, list_version, list_header, entry_size, file_list}
use Rattle.rules.specs.Refusals.{Check, refuse, wrong_list}
use Rattle.table.specs.declared.refusals.Refusal.{Refusal}
use Rattle.lists.specs.declared.Head.{Head}
use Rattle.lists.specs.declared.Entry.{Entry as Place}

pub record IsHead (l : ElementList) (r : Head) : Type 0 where
  pub element : r.element ≡ l.element
  pub hyper : r.hyper ≡ l.hyper
  pub entries : r.entries ≡ l.entries

abbrev pub entry_of : Place → Entry
entry_of r = move r.slot r.row r.way

pub record IsEntry (x : Entry) (r : Place) : Type 0 where
  pub slot : r.slot ≡ x.slot
  pub row : r.row ≡ x.row
  pub way : r.way ≡ x.way

abbrev pub rank : Entry → ℕ
rank x = 2 * x.slot + x.way

abbrev pub Wrong : (h least : ℕ) → Entry → Type 0
Wrong h least x = (h ≤ x.slot) ⊎ (max_rows ≤ x.row) ⊎ (1 < x.way) ⊎ (rank x < least)

abbrev pub told : (element hyper : ℕ) → (ℕ → Entry) → ElementList
told element hyper g = record { element = element; hyper = hyper; entries = 0; entry = g }

abbrev pub Leaves : (h least : ℕ) → Entry → Option ℕ → Type 0
Leaves h least x r = MatchOption r (Wrong h least x) (λ n. (Wrong h least x → ⊥) × (n ≡ rank x + 1))

pub record Gives (P : ℕ → Place → Type 0) (n : ℕ) (g : ℕ → Entry) : Type 0 where
  pub each : (k : ℕ) (r : Place) → k < n → P k r → IsEntry (g k) r

pub record Fit (n : ℕ) (g : ℕ → Entry) : Type 0 where
  pub row : (k : ℕ) → k < n → (g k).row < 256
  pub way : (k : ℕ) → k < n → (g k).way < 256

abbrev pub head_checks : List ℕ → List Check
head_checks f =
    refuse 1 0 (length f < list_header) ∷ refuse 2 0 (mark f ≢ list_mark) ∷ refuse 3 0 (version f ≢ list_version)
    ∷ refuse 6 0 ((length f - list_header) % entry_size ≢ 0) ∷ wrong_list (file_list f) ∷ []

abbrev pub element_of : Result Head Refusal → ℕ
element_of (Ok h) = h.element
element_of (Err r) = 0

abbrev pub hyper_of : Result Head Refusal → ℕ
hyper_of (Ok h) = h.hyper
hyper_of (Err r) = 0

abbrev pub entries_of : Result Head Refusal → ℕ
entries_of (Ok h) = h.entries
entries_of (Err r) = 0
