-- What the intervals of an admitted table share.
use mathlib.Core.List.{List}
use Prim.Native.Nat.{ℕ, ◌≤◌, ◌<◌}
use native.Mathlib.Omega.{arith}
use Rattle.numbers.specs.Lists.{at}
use Rattle.rules.specs.Bounds.{max_elements}
use Rattle.rules.specs.Bus.{Table}
use Rattle.verdict.specs.declared.Analysis.{Analysis}
use Rattle.verdict.specs.Analysed.{Accepted}
use Rattle.sets.specs.Chained.{all_heads, Chained}
use Rattle.interval.specs.declared.fold.Folded.{Folded}
use Rattle.interval.specs.Folded.{FoldedSets}
use Rattle.interval.specs.Ready.{Laid, Ready}
use Rattle.interval.proofs.RowSets.{folded_few}
use Rattle.interval.proofs.Ready.{line_narrow, ends_on_line}
use Rattle.loads.specs.NodesOf.{NodesOf}
use Rattle.planner.proofs.CourseNumbers.{hyper_is}

module _ {t : Table} {a : Analysis} (A : Accepted t a) where
  pub firsts_low : (i : ℕ) → i < a.outline.rows → at a.outline.first i < all_heads
  firsts_low i h =
      let e = ends_on_line A.admissible A.outline.first A.outline.second i (omega (arith, A.outline.rows)) in
      omega (arith, e, line_narrow A.admissible.sound)

  -- the sets folded
  module _ {F : Folded} {words : List ℕ}
      (G : let o = a.outline in FoldedSets o.rows o.elements o.sets (at o.first) o.words F words) where
    folds : FoldedSets t.rows t.elements a.outline.sets (at a.outline.first) a.outline.words F words
    folds = rw (A.outline.rows, A.outline.elements) at G

    -- no more sets than elements
    pub low_sets : F.sets ≤ max_elements
    low_sets =
        omega (
          arith,
          folded_few A.admissible A.outline.list A.outline.first folds,
          A.admissible.sound.elements_high,
        )

    pub ready_of : {L : Laid} → NodesOf a.outline.rows F.sets words L.tail L.head L.out L.into
        → Chained a.outline.rows (at a.outline.first) L.heads L.next
        → Ready t (record { rows = a.outline.rows; sets = F.sets; hyper = a.outline.time.hyper }) a.outline.top
        a.outline.first a.outline.second a.rate F.upper words L
    ready_of N C = record {
      admissible = A.admissible;
      row_count = A.outline.rows;
      top_end = A.outline.top;
      hyper_is = hyper_is A;
      firsts = A.outline.first;
      seconds = A.outline.second;
      rates = A.rate;
      count = a.outline.sets;
      listed = a.outline.words;
      list = A.outline.list;
      folded = folds;
      laid = rw A.outline.rows at N;
      chained = rw A.outline.rows at C;
    }
