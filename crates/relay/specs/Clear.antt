-- #113: 10 doesn't occur with a relay. The file holds statements only; proofs/Clear proves them.
--
--   Clear t r          the relay r is clear in the split table, which so has a cut on each ring
--   RelayClear        so it is with every relay that is an element
use Rattle.std.specs.Prelude.{ℕ, ◌≤◌, ◌<◌, T}
use Rattle.rules.specs.Bus.{Table, mirror, through}
use Rattle.rules.specs.Line.{cut}
use Rattle.rules.specs.Relay.{split}
use Rattle.rules.specs.Refusals.{no_cut}
use Rattle.ring.specs.Route.{Element}

pub record Clear (t : Table) (r : ℕ) : Type 0 where
  -- No row of the split table goes through the relay,
  pub none_through : (k : ℕ) → k < (split t r).rows → ¬ T (through (split t r) k r)
  -- so the cut of each ring is the relay or, in that ring's numbers, comes before it,
  pub cut_most : (d : ℕ) → cut (split t r) d ≤ mirror t.elements d r
  -- and 10 applies to no ring.
  pub never_uncut : (d : ℕ) → ¬ (no_cut (split t r) d).applies

abbrev pub RelayClear : Type 0
RelayClear = (t : Table) (r : ℕ) → Element t.elements r → Clear t r
