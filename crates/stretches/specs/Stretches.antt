-- The slots of one interval as stretches: neighbouring slots that hold the same rows. Stretches are numbered, and number 0 comes first.
-- For each, `end` has the slot after its last and `after` the number of the stretch that follows; its word stands at its first slot.
--
--   most_stretches       how many stretches there can be: each row parts one at most
--   Tiles l of begin end after
--                        the stretches tile the slots below l in order: slot s lies in stretch `of s`, stretch k begins at slot `begin k`
--   Parted k middle new .. ..
--                        stretch k ends at slot `middle`, and what it had from there on is stretch `new`
--   Repeated from to was now
--                        the slots from `from` up to `to` have the word of the first of them
--   Spread l of begin was now
--                        each slot below l has the word of its stretch
use Rattle.std.specs.Prelude.{◌≡◌, ◌⊎◌, List, ℕ, ◌+◌, ◌≤◌, ◌<◌, length, set}
use Rattle.numbers.specs.Lists.{at}
use Rattle.rules.specs.Bounds.{max_rows}
use Rattle.placing.specs.Filled.{Kept}

abbrev pub most_stretches : ℕ
most_stretches = max_rows + 1

pub record Tiles (l : ℕ) (of begin : ℕ → ℕ) (end after : List ℕ) : Type 0 where
  pub zero : of 0 ≡ 0
  pub few : (s : ℕ) → s < l → of s < most_stretches
  pub begins : (s : ℕ) → s < l → begin (of s) ≤ s
  pub ends : (s : ℕ) → s < l → (s < at end (of s)) × (at end (of s) ≤ l)
  pub holds : (s u : ℕ) → s < l → begin (of s) ≤ u → u < at end (of s) → of u ≡ of s
  pub on : (s : ℕ) → s < l → at end (of s) < l
      → (at after (of s) ≡ of (at end (of s))) × (begin (of (at end (of s))) ≡ at end (of s))

pub record Parted (k middle new : ℕ) (end last after end' last' after' : List ℕ) : Type 0 where
  pub ends : end' ≡ set (set end new (at end k)) k middle
  pub lasts : last' ≡ set last new (at last k)
  pub afters : after' ≡ set (set after new (at after k)) k new

pub record Repeated (from to : ℕ) (was now : List ℕ) : Type 0 where
  pub same : (s : ℕ) → from ≤ s → s < to → at now s ≡ at was from
  pub other : (s : ℕ) → (s < from) ⊎ (to ≤ s) → at now s ≡ at was s
  pub long : length now ≡ length was

pub record Spread (l : ℕ) (of begin : ℕ → ℕ) (was now : List ℕ) : Type 0 where
  pub same : (s : ℕ) → s < l → at now s ≡ at was (begin (of s))
  pub kept : Kept l was now
