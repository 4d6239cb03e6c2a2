-- One interval as the code does it: shares, loads, slots and totals, each from what the one before it gives.
use mathlib.Core.Path.{◌≡◌, sym, ap, ap₂, ◌∙◌, subst}
use mathlib.Core.List.{List}
use Prim.Native.Nat.{ℕ, ◌+◌, ◌-◌, ◌*◌, ◌/◌, ◌%◌, ◌≤◌, ◌<◌}
use native.Mathlib.Nat.{mod-lt, mod-add-div'}
use native.Mathlib.Omega.{arith}
use lib.ListN.{length, take}
use Rattle.numbers.specs.Lists.{at}
use Rattle.rules.specs.Bounds.{max_rows, max_slots}
use Rattle.rules.specs.Bus.{Table}
use Rattle.rules.specs.Line.{meet}
use Rattle.rules.specs.Loads.{hyperperiod, start, end, share}
use Rattle.rules.specs.Interval.{Greatest, SlotWords}
use Rattle.lags.specs.Lags.{Steady}
use Rattle.lags.proofs.Intervals.{hyperperiod_positive, end_le}
use Rattle.loads.specs.Loads.{last, digit, none, share_most, Spans, Parts, Qualified}
use Rattle.loads.specs.State.{Ends}
use Rattle.loads.specs.declared.Size.{Size}
use Rattle.loads.proofs.Choice.{greatest_shift}
use Rattle.interval.specs.Folded.{low_sets}
use Rattle.interval.specs.Rings.{OnEach}
use Rattle.interval.proofs.Unfolding.{unfolded_greatest}
use Rattle.sets.specs.Chained.{ChainedRows}
use Rattle.placing.specs.Filled.{FilledSlots}
use Rattle.interval.specs.Interval.{Given}
use Rattle.interval.specs.Ready.{Laid, Ready, Due, Advanced}
use Rattle.interval.proofs.Chosen.{share_small, had_le, whole_small, moved_of}
use Rattle.interval.proofs.RowSets.{low_some, ring_few, ranged_low, ranged_high, ranged_ends, ranged_spans}
use Rattle.interval.proofs.Ready.{line_narrow, ready_ends, ready_words, ready_share}

module _ {t : Table} {size : Size} {top upper : ℕ} {first second rate words : List ℕ} {L : Laid}
    (R : Ready t size top first second rate upper words L) where
  -- ---- what is laid, for the code's counts

  -- the table's sets, and each row's first and last of them
  abbrev sets : List ℕ
  sets = take R.count R.listed

  abbrev from : ℕ → ℕ
  from i = digit upper i * low_sets upper sets + at L.tail i

  abbrev to : ℕ → ℕ
  to i = digit upper i * low_sets upper sets + last L.head i

  pub few_rows : size.rows ≤ max_rows
  few_rows = omega (arith, R.row_count, R.admissible.sound.rows_high)

  pub hyper_some : 0 < size.hyper
  hyper_some = omega (arith, hyperperiod_positive R.admissible.sound, R.hyper_is)

  pub hyper_short : size.hyper ≤ max_slots
  hyper_short = omega (arith, R.hyper_is, R.admissible.short)

  spans_laid : Spans t.rows size.sets (at L.tail) (last L.head)
  spans_laid = ranged_spans R.admissible R.list R.firsts R.folded R.laid.ranged

  heads_laid : (i : ℕ) → i < t.rows → 0 < at L.head i
  heads_laid i l = omega (arith, R.laid.ranged.highest.row i l)

  network_laid : Ends t.rows size.sets L.tail L.head L.out L.into
  network_laid = record {
    spans = spans_laid;
    heads = heads_laid;
    wired = record {
      few_rows = spans_laid.few_rows;
      few_nodes = omega (arith, spans_laid.few_sets);
      ends = λ i l. let r = spans_laid.row i l in (omega (arith, r), omega (arith, r, heads_laid i l));
      starting = λ v i l. R.laid.starting v i (omega (arith, spans_laid.few_sets));
      ending = λ v i l. R.laid.ending v i (omega (arith, spans_laid.few_sets));
    };
  }

  pub all_laid : Ends size.rows size.sets L.tail L.head L.out L.into
  all_laid = rw R.row_count network_laid

  pub rows_chained : ChainedRows size.rows (at first) (at second) top L.heads L.next
  rows_chained = record {
    few = few_rows;
    low = omega (arith, R.top_end, line_narrow R.admissible.sound);
    line = ready_ends R;
    chained = rw R.row_count R.chained;
  }

  module _ {k b e : ℕ} {totals : List ℕ} (D : Due t k b e totals) where
    pub interval_short : e - b ≤ max_slots
    interval_short = omega (arith, D.ends, end_le R.admissible.sound k D.in_range, R.admissible.short)

    -- ---- the shares

    row_share : (i : ℕ) → i < t.rows → at rate i * e ≡ share t i (end t k)
    row_share i l = ap (λ (s : ℕ). at rate i * s) D.ends ∙ ready_share R i (end t k) l

    steady : Steady t (start t k) (at totals)
    steady = rw D.begins at D.steady

    pub shares_fit : (i : ℕ) → i < size.rows → (at rate i * e ≤ share_most) × (at rate i * e / size.hyper ≤ max_slots)
    shares_fit i l =
        let m : i < t.rows = omega (arith, R.row_count) in
        let q : at rate i * e / size.hyper ≡ at rate i * e / hyperperiod t = ap (λ (h : ℕ). at rate i * e / h) R.hyper_is in (
          omega (arith, row_share i m, share_small R.admissible D.in_range i m),
          omega (arith, q, whole_small R.admissible D.in_range steady (λ i. at rate i * e) row_share i m),
        )

    -- ---- the loads, from the shares' whole slots and the parts above them

    module _ (whole part : List ℕ) (shares : (i : ℕ) → i < size.rows → (at whole i ≡ at rate i * e / size.hyper)
        × (at part i ≡ at rate i * e % size.hyper)) where
      pub are_parts : Parts size.rows size.hyper (at part)
      are_parts = record {
        some = hyper_some;
        fits = hyper_short;
        row = λ i l. omega (arith, (shares i l).1, mod-lt (at rate i * e) hyper_some);
      }

      pub whole_fit : (i : ℕ) → i < size.rows → (at totals i ≤ at whole i) × (at whole i ≤ max_slots)
      whole_fit i l =
          let m : i < t.rows = omega (arith, R.row_count) in
          let w : at whole i ≡ at rate i * e / hyperperiod t = rw R.hyper_is at (shares i l).0 in (
            omega (arith, w, had_le R.admissible D.in_range steady (λ i. at rate i * e) row_share i m),
            omega (arith, w, whole_small R.admissible D.in_range steady (λ i. at rate i * e) row_share i m),
          )

      module _ (rounded : ℕ) (x now : ℕ → ℕ)
          (C : Greatest size.rows
          (OnEach size.rows size.sets (at L.tail) (last L.head) size.hyper upper (at part))
          (digit rounded))
          (B : Given size.rows rounded (at whole) (at totals) x now) where
        -- on the line that is not folded
        unfolded : Greatest t.rows (Qualified t.rows (length sets) from to size.hyper (at part) none) (digit rounded)
        unfolded =
            unfolded_greatest t.rows (length sets) size.sets (low_sets upper sets) (at L.tail) (last L.head) size.hyper upper
            hyper_some (low_some R.admissible R.list R.firsts R.folded)
            (ring_few R.admissible R.list R.firsts R.folded)
            (ranged_ends R.admissible R.list R.firsts R.folded R.laid.ranged)
            (at part) (digit rounded) (rw R.row_count at C)

        chosen : Greatest t.rows (Qualified t.rows (length sets) from to (hyperperiod t) (λ i. at rate i * e) (at totals)) x
        chosen =
            subst (λ (h : ℕ). Greatest t.rows (Qualified t.rows (length sets) from to h (λ i. at rate i * e) (at totals)) x)
            R.hyper_is
            (greatest_shift t.rows (length sets) from to size.hyper (λ i. at rate i * e) (at totals) (at part) (at whole) x
            (digit rounded) hyper_some
            (λ i l.
            let r = shares i (omega (arith, R.row_count)) in
            omega (arith, mod-add-div' (at rate i * e) size.hyper, ap (λ (w : ℕ). w * size.hyper) r.0, r.1))
            (λ i l. B.loads i (omega (arith, R.row_count))) unfolded)

        -- ---- the slots and the totals

        pub advanced_of : {after was out : List ℕ} → ((i : ℕ) → now i ≡ at after i) → length after ≡ max_rows
            → FilledSlots size.rows (at first) (at second) x (e - b) was out → Advanced t k totals after was out
        advanced_of {after} {was} {out} q n F =
            let long : e - b ≡ end t k - start t k = ap₂ ◌-◌ D.ends D.begins in
            let W : SlotWords t.rows (meet (at first) (at second)) (at first) x (end t k - start t k)
            (take (end t k - start t k) out) =
            rw (R.row_count, long) at F.words in
            record {
              size = n;
              moved =
                  moved_of R.admissible D.in_range steady (λ i. at rate i * e) row_share R.list from to
                  (ranged_low R.admissible R.list R.firsts R.folded R.laid.ranged)
                  (ranged_high R.admissible R.list R.firsts R.folded R.laid.ranged) chosen
                  (at after) (take (end t k - start t k) out) (ready_words R W)
                  (λ i l.
                  let m : i < size.rows = omega (arith, R.row_count) in
                  sym (q i) ∙ B.rows i m ∙ sym (B.loads i m))
                  (λ i l. sym (q i) ∙ B.spare i (omega (arith, R.row_count)));
              kept = rw long at F.kept;
            }
