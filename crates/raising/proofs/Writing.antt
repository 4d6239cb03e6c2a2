-- The raised table, written: its numbers pass the writer's checks, and its file is as long as the file that was given.
use mathlib.Core.Path.{◌≡◌, refl, sym, ap, subst, ◌∙◌}
use mathlib.Core.Logic.{◌≢◌, ⊎_elim, inl}
use mathlib.Core.List.{List, [], ◌∷◌}
use Prim.Native.Nat.{ℕ, ◌+◌, ◌*◌, ◌≤◌, ◌<◌}
use native.Mathlib.Omega.{arith}
use lib.ListN.{length, take}
use Rattle.numbers.proofs.Lists.{zeros_at}
use Rattle.rules.specs.Bounds.{max_rows}
use Rattle.rules.specs.Bus.{Table, Labelled, clockwise}
use Rattle.rules.specs.TableFile.{table_mark, rings_of, header_size, row_size, row_numbers, version, file_rings, file_labelled}
use Rattle.rules.specs.TableFile.{memory_labelled_with, numbers}
use Rattle.rules.specs.Refusals.{Check, Answers, unknown_mark, short_output, file_checks, header_checks, given_checks, line_checks}
use Rattle.rules.specs.Refusals.{pasted_checks, version_checks, writer_checks}
use Rattle.rules.specs.Calls.{lent, Written}
use Rattle.rules.specs.Raising.{raised, raised_labelled, raised_file, before_13, raise_checks, Raised}
use Rattle.rules.proofs.Answers.{None, Numbered, joined, unjoined, none_of, none_left}
use Rattle.rules.proofs.Calls.{lent_take, call_refused, call_only}
use Rattle.table.specs.Sound.{Sound}
use Rattle.table.specs.Columns.{column_labelled, table_of, no_labels}
use Rattle.table.proofs.Faults.{known_right, header_split, passed_none}
use Rattle.decoding.proofs.OneRing.{one_numbered, one_rest, one_rings}
use Rattle.round_trip.proofs.RoundTrip.{Alike, Told, file_told, numbers_alike, bytes_alike, memory_back, numbers_length, bytes_length}
use Rattle.round_trip.proofs.RoundTrip.{table_passes, bare}
use Rattle.outline.specs.Outlined.{outline_checks}
use Rattle.std.specs.Prelude.{Ok}
use Rattle.outline.proofs.Outlined.{outline_numbered}
use Rattle.decoding.specs.declared.Decoded.{Decoded}
use Rattle.raising.specs.declared.Raising.{Raising}
use Rattle.raising.specs.Raises.{RaisedBeside}
use Rattle.raising.proofs.Costs.{raised_low, raised_least}

-- a table without a fault has none when its rows are raised
pub raised_sound : {t : Table} → Sound t → Sound (raised t)
raised_sound {t} s = record {
  elements_low = s.elements_low;
  elements_high = s.elements_high;
  rows_low = s.rows_low;
  rows_high = s.rows_high;
  rings_few = s.rings_few;
  row = λ i l.
      let r = s.row i l in
      record {
        first_low = r.first_low;
        first_high = r.first_high;
        second_low = r.second_low;
        second_high = r.second_high;
        ends_differ = r.ends_differ;
        period_low = r.period_low;
        period_high = r.period_high;
        cost_low = omega (arith, raised_least t s i l, r.cost_low);
        cost_high = raised_low t s i l;
        way_known = r.way_known;
      };
}

pub before_numbered : (f : List ℕ) → Numbered (before_13 f)
before_numbered f = one_numbered f (outline_checks f) (outline_numbered f)

pub raising_none : (f : List ℕ) (x : Raising) → RaisedBeside f (Ok x) → None (before_13 f)
raising_none f x R = none_of (before_13 f) 0 (before_numbered f) R.answers

module _ (f : List ℕ) where
  abbrev given : Labelled
  given = file_labelled f

  abbrev g : Labelled
  g = raised_labelled given

  abbrev v : ℕ
  v = version f

  abbrev M : ℕ
  M = given.table.elements

  abbrev n : ℕ
  n = given.table.rows

  -- 1 to 9, 18, 10 or 11 refuse
  pub raise_refused : (was : List ℕ) {m p : ℕ} → Answers (before_13 f) m p → m ≢ 0 → Raised f was was m p
  unfolding raise_checks
  raise_refused was a h = call_refused (before_13 f) (length was < length f) a h refl

  module _ (none : None (before_13 f)) where
    pub outline_none : None (outline_checks f)
    outline_none = one_rest f (outline_checks f) none

    pub one : file_rings f ≡ 1
    one = one_rings f (outline_checks f) none

    pub file_none : None (file_checks f)
    unfolding given_checks
    file_none =
        none_left (file_checks f) (pasted_checks given.table) (none_left (given_checks f) (line_checks given.table) outline_none)

    sound : Sound given.table
    sound = (passed_none f file_none).sound

    long : length f ≡ header_size + row_size 1 v * n
    long = (passed_none f file_none).size ∙ ap (λ (r : ℕ). header_size + row_size r v * n) one

    pub few : n ≤ max_rows
    few = sound.rows_high

    pub long_enough : header_size ≤ length f
    long_enough = omega (arith, long)

    pub raised_told : Told g
    raised_told = file_told f

    pub raised_passes : None (version_checks 1 v M n (numbers g))
    unfolding file_checks
    raised_passes =
        subst (λ (r : ℕ). None (version_checks r v M n (numbers g))) one
        (table_passes v g (known_right (header_split f (none_left (header_checks f) _ file_none)).2) raised_told (raised_sound sound)
        (λ i l e. bare f file_none i e))

    pub raised_back : Alike (memory_labelled_with 1 M n (numbers g)) g
    raised_back = subst (λ (r : ℕ). Alike (memory_labelled_with r M n (numbers g)) g) one (memory_back g raised_told)

    pub raised_length : length (raised_file f) ≡ length f
    raised_length =
        bytes_length v g (inl one) ∙ ap (λ (r : ℕ). header_size + row_size r v * n) one ∙ sym long

    -- the writer refuses nothing but too short an output
    abbrev written : List Check
    written = unknown_mark table_mark ∷ version_checks 1 v M n (numbers g)

    written_none : None written
    unfolding None
    written_none = (λ w. w.0 refl, raised_passes)

    written_raises : {was now : List ℕ} {m p : ℕ} → Written table_mark v M n (numbers g) was now m p → Raised f was now m p
    unfolding raise_checks writer_checks rings_of
    written_raises {was} {now} {m} {p} w = record {
      answers =
          joined (before_13 f) (short_output (length was < length f) ∷ []) m p none
          (rw long (unjoined written (short_output (length was < header_size + row_size 1 v * n) ∷ []) m p written_none w.answers));
      done = λ e. w.done e ∙ ap (λ (xs : List ℕ). lent xs was) (bytes_alike v raised_back);
      refused = w.refused;
    }

    -- what the writer answers to them
    pub raise_written : {v' M' n' : ℕ} {xs was now : List ℕ} {m p : ℕ} → v' ≡ v → M' ≡ M → n' ≡ n → xs ≡ numbers g
        → Written table_mark v' M' n' xs was now m p → Raised f was now m p
    raise_written a b c d w = written_raises (rw (a, b, c, d) at w)

    -- the columns' numbers are those of the raised table
    module _ (x : Raising) (R : RaisedBeside f (Ok x)) where
      abbrev d : Decoded
      d = x.given

      held : table_of d.columns ≡ given.table
      held = R.held.table

      pub rows_are : d.columns.rows ≡ n
      rows_are = ap (λ (t : Table). t.rows) held

      pub elements_are : d.columns.elements ≡ M
      elements_are = ap (λ (t : Table). t.elements) held

      abbrev own : Labelled
      own =
          column_labelled M d.columns.rows 1 x.cost d.columns.period d.columns.first d.columns.second no_labels d.labels

      like : Alike own g
      like = record {
        elements = refl;
        rows = rows_are;
        cost = λ i l. R.costs.row i l;
        period = λ i l. ap (λ (t : Table). t.period i) held;
        first = λ i l. ap (λ (t : Table). t.first i) held;
        second = λ i l. ap (λ (t : Table). t.second i) held;
        rings = sym one;
        way = λ i l.
            let w : given.table.way i ≡ clockwise = omega (arith, one, (sound.row i l).way_known) in
            zeros_at max_rows i ∙ sym w;
        label = λ i l. ap (λ (h : ℕ → ℕ). h i) R.labelled.labels;
      }

      pub numbers_are : (was : List ℕ)
          → take (row_numbers * d.columns.rows)
          (lent
          (numbers
          (column_labelled 0 d.columns.rows 1 x.cost d.columns.period d.columns.first d.columns.second no_labels
          d.labels))
          was)
          ≡ numbers g
      unfolding numbers
      numbers_are was = lent_take (numbers own) was (row_numbers * d.columns.rows) (numbers_length own) ∙ numbers_alike like

pub raised_only : (f was now then : List ℕ) (m n p q : ℕ) → Raised f was now m p → Raised f was then n q → (m ≡ n) × (p ≡ q) × (now ≡ then)
raised_only f was now then m n p q A B =
    let e = call_only A B in
    (e.0, e.1, ⊎_elim (λ w. w.0 ∙ sym w.1) (λ w. w.0 ∙ sym w.1) e.2)
