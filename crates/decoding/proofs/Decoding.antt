-- A file's table, decoded row by row, and that only one answer fits.
--
--   Blank t i      all that t has of row i is 0
use mathlib.Core.Path.{◌≡◌, refl, sym, ap, ap₂, ◌∙◌, fun_ext}
use mathlib.Core.Logic.{◌≢◌}
use mathlib.Core.List.{List}
use mathlib.Core.Bool.{Bool, true, false, cond}
use Prim.Native.Nat.{ℕ, ◌+◌, ◌*◌, ◌≤◌, ◌<◌}
use native.Mathlib.Nat.{mul-le-mul_left}
use native.Mathlib.Omega.{arith}
use lib.Dec.{eqb}
use lib.ListN.{set, length-replicate}
use lib.Seq.{ext_get_or}
use borrow.Author.Tests.{eq-eqb, ne_eqb}
use Rattle.numbers.specs.Lists.{at}
use Rattle.numbers.specs.Codec.{read_low}
use Rattle.numbers.proofs.Lists.{zeros_at}
use Rattle.numbers.proofs.Codec.{low_past, low_two}
use Rattle.rules.specs.Bounds.{max_rows, max_rings}
use Rattle.rules.specs.Bus.{Table, Labelled}
use Rattle.rules.specs.TableFile.{version_2, header_size, last_size, row_size, way_in, label_in, read16, version}
use Rattle.rules.specs.TableFile.{file_rings, file_table, file_labelled}
use Rattle.rules.specs.Refusals.{Check, Answers, header_checks, row_checks, file_checks}
use Rattle.rules.proofs.Answers.{None, stopped, joined}
use Rattle.table.specs.Columns.{ByRow, Whole, table_of, Holds, HoldsLabels, OneWay, no_columns, no_labels}
use Rattle.table.specs.Refusal.{number_of}
use Rattle.std.specs.Prelude.{Result, Ok, Err}
use Rattle.decoding.specs.Decoded.{StandsAt, DecodingTo, Empty, DecodesInto, Decodes}
use Rattle.table.specs.Rows.{IsRow}
use Rattle.table.specs.declared.refusals.Reason.{Reason}
use Rattle.table.specs.declared.refusals.Refusal.{Refusal}
use Rattle.table.proofs.Reasons.{not_done, refused_not, same_refusal}
use Rattle.table.specs.declared.Row.{Row}
use Rattle.table.specs.declared.columns.Columns.{Columns}
use Rattle.decoding.specs.declared.Decoded.{Decoded}
use Rattle.table.proofs.ByRow.{by_row_start, by_row_put, by_row_all, past_end}
use Rattle.table.proofs.Faults.{passed_of}
use Rattle.table.proofs.RowSizes.{label_two, label_none, last_way, last_label}

-- columns of nothing but 0 are no rows of any table
pub decoding_start : (t : Table) {c : Columns} → Empty c → DecodingTo t 0 c
decoding_start t Z = record {
  costs = rw Z.costs (by_row_start t.cost);
  periods = rw Z.periods (by_row_start t.period);
  firsts = rw Z.firsts (by_row_start t.first);
  seconds = rw Z.seconds (by_row_start t.second);
}

pub decoding_next : {t : Table} {i : ℕ} {k : Columns} {c p f s : ℕ} → DecodingTo t i k
    → i < max_rows → c ≡ t.cost i → p ≡ t.period i → f ≡ t.first i → s ≡ t.second i
    → DecodingTo t (i + 1) (record {
      elements = k.elements;
      rows = k.rows;
      rings = k.rings;
      cost = set k.cost i c;
      period = set k.period i p;
      first = set k.first i f;
      second = set k.second i s;
      way = k.way;
    })
decoding_next {c = c} {p = p} {f = f} {s = s} D l x y z w = record {
  costs = by_row_put c D.costs l x;
  periods = by_row_put p D.periods l y;
  firsts = by_row_put f D.firsts l z;
  seconds = by_row_put s D.seconds l w;
}

-- a row of the file is the table's; of labels nothing is said
abbrev pub unlabelled : Table → Labelled
unlabelled t = record { table = t; label = λ i. 0 }

pub stands_row : {f : List ℕ} {i p d : ℕ} {r : Row} → StandsAt f p d r → p ≡ header_size + row_size (file_rings f) (version f) * i
    → d ≡ (file_table f).way i → IsRow (unlabelled (file_table f)) i r
stands_row {f} S e w = record {
  cost = S.cost ∙ ap (read16 f) e;
  period = S.period ∙ ap (λ (k : ℕ). read16 f (k + 2)) e;
  first = S.first ∙ ap (λ (k : ℕ). at f (k + 4)) e;
  second = S.second ∙ ap (λ (k : ℕ). at f (k + 5)) e;
  way = S.way ∙ w;
  label = S.label;
}

-- so is the row that is read of it, with the direction that stands in a column
pub row_read : {f : List ℕ} {i p r v d : ℕ} {way was : List ℕ} {row : Row} → StandsAt f p d row → p ≡ header_size + row_size r v * i
    → r ≡ file_rings f → v ≡ version f → d ≡ at way i → way ≡ was → HoldsLabels (file_table f).way was
    → IsRow (unlabelled (file_table f)) i row
row_read {i = i} S e r v d w H =
    stands_row S (e ∙ ap₂ (λ (x y : ℕ). header_size + row_size x y * i) r v)
    (d ∙ ap (λ (xs : List ℕ). at xs i) w ∙ ap (λ (g : ℕ → ℕ). g i) H.labels)

-- with one ring no direction is read
pub file_one_way : (f : List ℕ) → OneWay (file_rings f) (file_table f).rows (file_table f).way
unfolding way_in
file_one_way f r i l = rw (ne_eqb (file_rings f) max_rings (λ q. omega arith)) refl

-- a file ends with its last row, so its table has 0 past it too
past_row : {f : List ℕ} {i k : ℕ} → Whole f → (file_table f).rows ≤ i → header_size + row_size (file_rings f) (version f) * i ≤ k
    → at f k ≡ 0
past_row {f} {i} {k} w l h = past_end f k (omega (arith, w.size, mul-le-mul_left (row_size (file_rings f) (version f)) l))

-- ---- what stands after a row's six bytes: its direction, or its label

low_one : (f : List ℕ) (p : ℕ) → read_low 1 f p ≡ at f p
unfolding read_low
low_one f p = omega arith

-- 0 is no direction and no label
none_if : (b : Bool) → ◌≡◌ {A = ℕ} (cond b 0 0) 0
none_if true = refl
none_if false = refl

pub wayless : (r : ℕ) → way_in r 0 ≡ 0
unfolding way_in
wayless r = none_if (eqb r max_rings)

pub labelless : (r : ℕ) → label_in r 0 ≡ 0
unfolding label_in
labelless r = none_if (eqb r max_rings)

module _ (f : List ℕ) where
  abbrev last : ℕ → ℕ
  last i = read_low (last_size (file_rings f) (version f)) f (header_size + row_size (file_rings f) (version f) * i + 6)

  module _ (w : Whole f) where
    -- past the last row it is 0, as there is none
    last_past : (i : ℕ) → (file_table f).rows ≤ i → last i ≡ 0
    last_past i l = low_past (last_size (file_rings f) (version f)) f _ (λ j. past_row w l (omega arith))

    -- so are the numbers that are made of it
    pub last_end : (g : ℕ → ℕ) → g 0 ≡ 0 → {xs : List ℕ} {n : ℕ} → n ≡ (file_table f).rows → ByRow n (λ i. g (last i)) xs
        → HoldsLabels (λ i. g (last i)) xs
    last_end g z e B = record { labels = by_row_all B (λ i l. ap g (last_past i (rw e at l)) ∙ z); size = B.size }

-- so is all that the table has of such a row
pub record Blank (t : Table) (i : ℕ) : Type 0 where
  pub cost : t.cost i ≡ 0
  pub period : t.period i ≡ 0
  pub first : t.first i ≡ 0
  pub second : t.second i ≡ 0
  pub way : t.way i ≡ 0

pub blank_past : {f : List ℕ} {i : ℕ} → Whole f → (file_table f).rows ≤ i → Blank (file_table f) i
blank_past {f} {i} w l =
    let start : ℕ = header_size + row_size (file_rings f) (version f) * i in
    let byte : (k : ℕ) → start ≤ k → at f k ≡ 0 = λ k h. past_row w l h in
    let pair : (k : ℕ) → start ≤ k → read16 f k ≡ 0 = λ k h. omega (arith, byte k h, byte (k + 1) (omega arith)) in
    record {
      cost = pair _ (omega arith);
      period = pair _ (omega arith);
      first = byte _ (omega arith);
      second = byte _ (omega arith);
      way = ap (way_in (file_rings f)) (last_past f w i l) ∙ wayless (file_rings f);
    }

pub label_past : {f : List ℕ} {i : ℕ} → Whole f → (file_table f).rows ≤ i → (file_labelled f).label i ≡ 0
label_past {f} {i} w l = ap (label_in (file_rings f)) (last_past f w i l) ∙ labelless (file_rings f)

-- ---- a whole file's columns

pub decoding_end : {f : List ℕ} (c : Columns) → Whole f → c.elements ≡ (file_table f).elements → c.rows ≡ (file_table f).rows
    → c.rings ≡ file_rings f → DecodingTo (file_table f) (file_table f).rows c → HoldsLabels (file_table f).way c.way
    → Holds (file_table f) c
decoding_end {f} c w m n r D W =
    let past : (i : ℕ) → (file_table f).rows ≤ i → Blank (file_table f) i = λ i l. blank_past w l in
    let cost : at c.cost ≡ (file_table f).cost = by_row_all D.costs (λ i l. (past i l).cost) in
    let period : at c.period ≡ (file_table f).period = by_row_all D.periods (λ i l. (past i l).period) in
    let first : at c.first ≡ (file_table f).first = by_row_all D.firsts (λ i l. (past i l).first) in
    let second : at c.second ≡ (file_table f).second = by_row_all D.seconds (λ i l. (past i l).second) in
    record {
      table = λ k. record {
        elements = m k;
        rows = n k;
        rings = r k;
        cost = cost k;
        period = period k;
        first = first k;
        second = second k;
        way = W.labels k;
      };
      costs = D.costs.size;
      periods = D.periods.size;
      firsts = D.firsts.size;
      seconds = D.seconds.size;
      ways = W.size;
    }

-- ---- directions and labels

-- where all are 0
none_held : (g : ℕ → ℕ) → ((i : ℕ) → g i ≡ 0) → HoldsLabels g no_labels
none_held g z = record { labels = fun_ext (λ i. zeros_at max_rows i ∙ sym (z i)); size = length-replicate {A = ℕ} max_rows 0 }

module _ (f : List ℕ) where
  -- ---- directions: with two rings, one byte each

  pub way_at : (i : ℕ) → file_rings f ≡ max_rings → (file_table f).way i ≡ at f (header_size + row_size (file_rings f) (version f) * i + 6)
  unfolding way_in
  way_at i e =
      rw e (ap (λ (k : ℕ). read_low k f (header_size + row_size max_rings (version f) * i + 6)) (last_way (version f) refl) ∙ low_one f _)

  pub ways_none : file_rings f ≢ max_rings → HoldsLabels (file_table f).way no_labels
  unfolding way_in
  ways_none n = none_held (file_table f).way (λ i. rw (ne_eqb (file_rings f) max_rings n))

  -- ---- labels: with one ring, 16 bits each in version 2

  pub label_at : (i : ℕ) → file_rings f ≢ max_rings → version f ≡ version_2
      → (file_labelled f).label i ≡ read16 f (header_size + row_size (file_rings f) (version f) * i + 6)
  unfolding label_in
  label_at i n e =
      rw (ne_eqb (file_rings f) max_rings n)
      (ap (λ (k : ℕ). read_low k f (header_size + row_size (file_rings f) (version f) * i + 6)) (last_label (version f) n ∙ label_two e)
      ∙ low_two f _)

  -- with two rings there are none
  pub labels_none_way : file_rings f ≡ max_rings → HoldsLabels (file_labelled f).label no_labels
  unfolding label_in
  labels_none_way e = none_held (file_labelled f).label (λ i. rw (eq-eqb (file_rings f) max_rings e))

  -- in any other version they have no bytes
  pub labels_none : file_rings f ≢ max_rings → version f ≢ version_2 → HoldsLabels (file_labelled f).label no_labels
  unfolding label_in read_low
  labels_none n h =
      none_held (file_labelled f).label
      (λ i. rw (ne_eqb (file_rings f) max_rings n)
      (ap (λ (k : ℕ). read_low k f (header_size + row_size (file_rings f) (version f) * i + 6)) (last_label (version f) n ∙ label_none h)))

-- ---- the answer beside the columns

-- nothing is counted
abbrev pub Uncounted : Columns → Type 0
Uncounted c = (c.elements ≡ 0) × (c.rows ≡ 0) × (c.rings ≡ 0)

pub uncounted : {c : Columns} → c ≡ no_columns → Uncounted c
uncounted e = (ap (λ (c : Columns). c.elements) e, ap (λ (c : Columns). c.rows) e, ap (λ (c : Columns). c.rings) e)

module _ (f : List ℕ) where
  -- the header is refused
  pub into_header : (r : Reason) {c : Columns} → Answers (header_checks f) (number_of r) 0 → Uncounted c
      → DecodesInto (file_checks f) (file_table f) (Err (record { reason = r; place = 0 })) c
  unfolding file_checks
  into_header r h z = record {
    answers = stopped (header_checks f) (row_checks (file_table f)) (number_of r) 0 (not_done r) h;
    passed = tt;
    refused = z;
  }

  module _ (s : None (header_checks f)) where
    -- a row is refused
    pub into_row : (r : Refusal) {c : Columns} → Answers (row_checks (file_table f)) (number_of r.reason) r.place → Uncounted c
        → DecodesInto (file_checks f) (file_table f) (Err r) c
    unfolding file_checks
    into_row r h z = record {
      answers = joined (header_checks f) (row_checks (file_table f)) (number_of r.reason) r.place s h;
      passed = tt;
      refused = z;
    }

    pub into_all : {c : Columns} → Answers (row_checks (file_table f)) 0 0 → Holds (file_table f) c
        → DecodesInto (file_checks f) (file_table f) (Ok tt) c
    unfolding file_checks
    into_all h H = record {
      answers = joined (header_checks f) (row_checks (file_table f)) 0 0 s h;
      passed = H;
      refused = tt;
    }

-- where no check applies, the file is as long as it says
pub whole_of : (f : List ℕ) → Answers (file_checks f) 0 0 → Whole f
whole_of f A =
    let p = passed_of f 0 A in
    record { size = p.size; few = p.sound.rows_high }

-- ---- only one answer fits

pub holds_only : {t : Table} {c d : Columns} → Holds t c → Holds t d → c ≡ d
holds_only {t} {c} {d} H K =
    let e : table_of c ≡ table_of d = H.table ∙ sym K.table in
    let cost : c.cost ≡ d.cost =
    ext_get_or 0 c.cost d.cost (H.costs ∙ sym K.costs) (λ i l. ap (λ (t : Table). t.cost i) e) in
    let period : c.period ≡ d.period =
    ext_get_or 0 c.period d.period (H.periods ∙ sym K.periods) (λ i l. ap (λ (t : Table). t.period i) e) in
    let first : c.first ≡ d.first =
    ext_get_or 0 c.first d.first (H.firsts ∙ sym K.firsts) (λ i l. ap (λ (t : Table). t.first i) e) in
    let second : c.second ≡ d.second =
    ext_get_or 0 c.second d.second (H.seconds ∙ sym K.seconds) (λ i l. ap (λ (t : Table). t.second i) e) in
    let way : c.way ≡ d.way = ext_get_or 0 c.way d.way (H.ways ∙ sym K.ways) (λ i l. ap (λ (t : Table). t.way i) e) in
    λ k. record {
      elements = (e k).elements;
      rows = (e k).rows;
      rings = (e k).rings;
      cost = cost k;
      period = period k;
      first = first k;
      second = second k;
      way = way k;
    }

pub labels_only : {g : ℕ → ℕ} {xs ys : List ℕ} → HoldsLabels g xs → HoldsLabels g ys → xs ≡ ys
labels_only {g} {xs} {ys} X Y =
    ext_get_or 0 xs ys (X.size ∙ sym Y.size) (λ i l. ap (λ (h : ℕ → ℕ). h i) (X.labels ∙ sym Y.labels))

pub decodes_only : {cs : List Check} {t : Labelled} {r s : Result Decoded Refusal} → Decodes cs t r → Decodes cs t s → r ≡ s
decodes_only {r = Ok c} {s = Ok d} D E =
    let same = holds_only D.passed E.passed in
    let labels = labels_only D.labelled E.labelled in
    λ i. Ok (record { columns = same i; labels = labels i })
decodes_only {cs} {r = Ok c} {s = Err e} D E = refused_not cs e D.answers E.answers
decodes_only {cs} {r = Err e} {s = Ok d} D E = refused_not cs e E.answers D.answers
decodes_only {cs} {r = Err e} {s = Err g} D E =
    same_refusal cs e g D.answers E.answers

pub into_only : {cs : List Check} {t : Table} {a b : Result Unit Refusal} {c d : Columns} → DecodesInto cs t a c → DecodesInto cs t b d
    → (a ≡ b) × (c.elements ≡ d.elements) × (c.rows ≡ d.rows) × (c.rings ≡ d.rings)
into_only {a = Ok _} {b = Ok _} D E =
    let same = holds_only D.passed E.passed in
    (refl, ap (λ (c : Columns). c.elements) same, ap (λ (c : Columns). c.rows) same, ap (λ (c : Columns). c.rings) same)
into_only {cs} {a = Ok _} {b = Err e} D E = refused_not cs e D.answers E.answers
into_only {cs} {a = Err e} {b = Ok _} D E = refused_not cs e E.answers D.answers
into_only {cs} {a = Err e} {b = Err g} D E =
    let x = D.refused in
    let y = E.refused in
    (same_refusal cs e g D.answers E.answers, x.0 ∙ sym y.0, x.1 ∙ sym y.1, x.2 ∙ sym y.2)
