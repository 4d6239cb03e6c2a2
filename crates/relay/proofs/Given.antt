-- A file's table split at a relay: 1 to 9 and 18 of the table as it is given, then 27 and 28.
use mathlib.Core.Path.{◌≡◌, refl, sym, subst}
use Rattle.std.specs.Prelude.{Ok, Err}
use mathlib.Core.List.{List, []}
use Prim.Native.Nat.{ℕ, ◌≤◌, ◌<◌}
use native.Mathlib.Omega.{arith}
use Rattle.numbers.proofs.Truth.{limits}
use Rattle.rules.specs.Bounds.{max_rows}
use Rattle.rules.specs.Bus.{Table}
use Rattle.rules.specs.TableFile.{file_table}
use Rattle.rules.specs.Refusals.{Check, Answers, one_ring_checks, given_checks, wrong_relay, many_rows, relay_checks, split_checks}
use Rattle.rules.proofs.Answers.{None, Numbered, applied, passed, done, stopped, joined, answered, none_of, none_join, none_left}
use Rattle.rules.proofs.Answers.{none_right, numbered_join}
use Rattle.table.specs.Sound.{Sound}
use Rattle.table.specs.Columns.{Holds}
use Rattle.table.specs.Refusal.{number_of}
use Rattle.table.specs.declared.columns.Columns.{Columns}
use Rattle.table.specs.declared.refusals.Reason.{Reason}
use Rattle.table.specs.declared.refusals.Refusal.{Refusal}
use Rattle.table.proofs.Reasons.{not_done}
use Rattle.ring.specs.Route.{Element}
use Rattle.pasted.proofs.AsGiven.{given_passed}
use Rattle.pasted.proofs.OneRing.{one_ring_numbered}
use Rattle.rules.specs.Relay.{split}
use Rattle.relay.specs.Splits.{Splits}
use Rattle.relay.proofs.Clear.{sound_split}

-- ---- 27 and 28

module _ (t : Table) (r : ℕ) where
  abbrev within : Type 0
  within = (1 ≤ r) × (r ≤ t.elements)

  pub no_relay : ¬ within → Answers (relay_checks t r) 27 0
  unfolding relay_checks
  no_relay h = applied (wrong_relay t r) _ 27 0 h refl refl

  pub too_many : within → max_rows < (split t r).rows → Answers (relay_checks t r) 28 0
  unfolding relay_checks
  too_many w l = passed (wrong_relay t r) _ 28 0 (λ h. h w) (applied (many_rows t r) [] 28 0 l refl refl)

  pub right_relay : within → (split t r).rows ≤ max_rows → Answers (relay_checks t r) 0 0
  unfolding relay_checks
  right_relay w l =
      passed (wrong_relay t r) _ 0 0 (λ h. h w) (passed (many_rows t r) [] 0 0 (λ m. let z : ⊥ = omega (arith, l, m) in z) done)

  pub relay_numbered : Numbered (relay_checks t r)
  unfolding relay_checks Numbered
  relay_numbered = (omega arith, (omega arith, tt))

  pub relay_zero : (n : ℕ) → n ≡ 0 → Answers (relay_checks t r) n 0 → None (relay_checks t r)
  relay_zero n z a = none_of (relay_checks t r) 0 relay_numbered (rw z at a)

  -- what passes them
  module _ (n : None (relay_checks t r)) where
    pub relay_element : Element t.elements r
    unfolding relay_checks None
    relay_element = let w = limits r 1 t.elements n.0 in record { low = w.0; high = w.1 }

    pub few_rows : (split t r).rows ≤ max_rows
    unfolding relay_checks None
    few_rows = let m = n.1.0 in omega (arith, m)

-- ---- of a file

module _ (f : List ℕ) (r : ℕ) where
  abbrev t : Table
  t = file_table f

  abbrev given : List Check
  given = one_ring_checks f (given_checks f)

  pub given_zero : Answers given 0 0 → None given
  given_zero g = none_of given 0 (one_ring_numbered f) g

  pub sound_given : None given → Sound t
  unfolding None
  sound_given n = (given_passed f n.1.1).sound

  -- columns that hold the table
  module _ (u : Table) where
    pub columns_sound : None given → u ≡ t → Sound u
    columns_sound n e = subst Sound (sym e) (sound_given n)

    pub relay_held : u ≡ t → (n : ℕ) → Answers (relay_checks u r) n 0 → Answers (relay_checks t r) n 0
    relay_held e n a = subst (λ (v : Table). Answers (relay_checks v r) n 0) e a

    pub none_held : u ≡ t → None (relay_checks u r) → None (relay_checks t r)
    none_held e n = subst (λ (v : Table). None (relay_checks v r)) e n

    pub split_held : u ≡ t → {c : Columns} → Holds (split u r) c → Holds (split t r) c
    split_held e {c} H = subst (λ (v : Table). Holds (split v r) c) e H

  pub split_numbered : Numbered (split_checks f r)
  unfolding split_checks
  split_numbered = numbered_join given (relay_checks t r) (one_ring_numbered f) (relay_numbered t r)

  -- what passes all of them is a sound table, split at an element
  module _ (n : None (split_checks f r)) where
    given_none : None given
    unfolding split_checks
    given_none = none_left given (relay_checks t r) n

    relay_none : None (relay_checks t r)
    unfolding split_checks
    relay_none = none_right given (relay_checks t r) n

    pub split_element : Element t.elements r
    split_element = relay_element t r relay_none

    pub given_sound : Sound t
    given_sound = sound_given given_none

    pub split_sound : Sound (split t r)
    split_sound = sound_split t split_element given_sound (few_rows t r relay_none)

  -- ---- each outcome

  pub splits_given : (e : Refusal) → Answers given (number_of e.reason) e.place → Splits f r (Err e)
  unfolding split_checks
  splits_given e g = record { answers = stopped given (relay_checks t r) _ _ (not_done e.reason) g; passed = tt }

  pub splits_relay : (e : Reason) → None given → Answers (relay_checks t r) (number_of e) 0 → Splits f r (Err (record { reason = e; place = 0 }))
  unfolding split_checks
  splits_relay e p q = record { answers = joined given (relay_checks t r) _ 0 p q; passed = tt }

  pub splits_done : {c : Columns} → None given → None (relay_checks t r) → Holds (split t r) c → Splits f r (Ok c)
  unfolding split_checks
  splits_done p q H = record { answers = answered (split_checks f r) (none_join given (relay_checks t r) p q); passed = H }
