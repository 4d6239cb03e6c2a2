-- #113: a relay that no row goes through. The file holds statements only; proofs/Without proves them.
--
--   Unused f r         the relay r is an element of file f's table, and none of its rows goes through it
--   AsWithout         then the answer is that of the verdict without a relay, where one ring alone is taken
--   SameTable         and a table that is to be split stays as it is
use Rattle.std.specs.Prelude.{◌≡◌, List, ℕ, ◌≤◌, ◌<◌, T}
use Rattle.rules.specs.Bus.{through}
use Rattle.rules.specs.TableFile.{file_table}
use Rattle.rules.specs.Refusals.{Answers, one_ring_checks, given_checks, verdict_checks, relayed_checks}
use Rattle.rules.proofs.Answers.{None}
use Rattle.rules.specs.Relay.{split}

pub record Unused (f : List ℕ) (r : ℕ) : Type 0 where
  pub low : 1 ≤ r
  pub high : r ≤ (file_table f).elements
  pub clear : (i : ℕ) → i < (file_table f).rows → ¬ T (through (file_table f) i r)

abbrev pub AsWithout : Type 0
AsWithout = (f : List ℕ) (r : ℕ) → Unused f r → (n p : ℕ) → Answers (relayed_checks f r) n p
    → Answers (one_ring_checks f (verdict_checks f)) n p

abbrev pub SameTable : Type 0
SameTable = (f : List ℕ) (r : ℕ) → Unused f r → None (given_checks f) → split (file_table f) r ≡ file_table f
