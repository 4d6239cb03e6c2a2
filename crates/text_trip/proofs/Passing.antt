-- The text of a table that has no fault: it says that table, and nothing of it is refused.
use mathlib.Core.Path.{◌≡◌, refl, sym, ap, ap₂, subst, ◌∙◌}
use mathlib.Core.Logic.{⊎_elim, ◌≢◌}
use mathlib.Core.Bool.{Bool, true, false, cond}
use mathlib.Core.List.{List, [], ◌∷◌, ◌++◌, map, append-nil}
use Prim.Native.Nat.{ℕ, zero, suc, ◌+◌, ◌≤◌, ◌<◌}
use native.Mathlib.Decide.{ℕ_discrete}
use native.Mathlib.Omega.{arith}
use lib.Dec.{T, eqb}
use lib.ListN.{length, get_or, length-append}
use Rattle.numbers.specs.Finite.{any, lowest}
use Rattle.numbers.specs.Lists.{at, each}
use Rattle.numbers.proofs.Finite.{any_of, any_none}
use Rattle.numbers.proofs.Truth.{is_true}
use Rattle.rules.specs.Bounds.{max_rows, max_rings}
use Rattle.rules.specs.Bus.{Labelled}
use Rattle.rules.specs.TableFile.{version_1, version_2, label_size, last_size, way_in, label_in, last_number_of}
use Rattle.rules.specs.Text.{Line, says, letters, newline, decimal, text_of, text}
use Rattle.rules.specs.Refusals.{Check, refuse, wrong_elements}
use Rattle.rules.proofs.Answers.{None, none_join, none_each}
use Rattle.table.specs.Sound.{SoundRow, Sound}
use Rattle.table.proofs.Faults.{Known, row_none}
use Rattle.decimal.specs.Plain.{value_from, value, Digits}
use Rattle.decimal.proofs.Decimal.{decimal_value}
use Rattle.decimal.proofs.Text.{text_first, text_join, text_one, text_none}
use Rattle.table.proofs.RowSizes.{last_way}
use Rattle.round_trip.proofs.RoundTrip.{Alike, Fits, Told, OneOrTwo}
use Rattle.grammar.specs.TableText.{Part, part, is_newline, is_hash, is_blank, until, some, fields, lines, field, last, heading, row, number}
use Rattle.grammar.specs.TableText.{rings_in, text_rings, text_table, text_labelled, text_version, max_text, max_number, number_checks, row_table}
use Rattle.grammar.specs.TableText.{missing_field, spare_field, placed, needed, heading_checks, form_checks, value_checks}
use Rattle.grammar.specs.TableText.{text_row_checks, text_line_checks, text_checks}
use Rattle.grammar.specs.TableText.{head_line, last_numbers, note, row_line, table_text}
use Rattle.grammar.specs.Reports.{longest_text}
use Rattle.text_writer.proofs.Short.{each_short, line_short, row_short}
use Rattle.text_writer.proofs.Rows.{last_absent, last_there}
use Rattle.text_trip.proofs.Clear.{clear, decimal_digits, decimal_some, decimal_clear, body_clear}
use Rattle.text_trip.proofs.Clear.{newline_skips, hash_skips, blank_skips}
use Rattle.text_trip.proofs.Said.{words, field_word, words_of, body, body_line, lines_from, lines_one, lines_note, Are, Lines}
use Rattle.text_trip.proofs.Said.{lines_each}

-- ---- the three kinds of table: one ring in version 1 or 2, or two rings

one_or_two : {r : ℕ} (P : ℕ → Type 0) → P 1 → P max_rings → OneOrTwo r → P r
one_or_two {r} P a b o = ⊎_elim (λ (e : r ≡ 1). rw e a) (λ (e : r ≡ max_rings). rw e b) o

pub of_kind : {r v : ℕ} (P : ℕ → ℕ → Type 0) → P 1 version_1 → P 1 version_2 → P max_rings version_1 → OneOrTwo r → Known r v → P r v
of_kind {r} {v} P a b c o k =
    ⊎_elim
    (λ (e : r ≡ 1). ⊎_elim (λ (w : v ≡ version_1). rw (e, w) a) (λ (w : (v ≡ version_2) × (r ≢ max_rings)). rw (e, w.0) b) k)
    (λ (e : r ≡ max_rings). ⊎_elim (λ (w : v ≡ version_1). rw (e, w) c) (λ w. absurd (w.1 e)) k)
    o

-- one ring has bytes for labels in version 2 alone
bare_1 : last_size 1 version_1 ≡ 0
unfolding last_size label_size
bare_1 = refl

bare_2 : last_size 1 version_2 ≢ 0
unfolding last_size label_size
bare_2 = omega arith

-- ---- fields that pass

pub number_right : (q : Part) (n : ℕ) → q.bytes ≡ decimal n → number q ≡ n
number_right q n e = ap value e ∙ decimal_value n

pub number_passes : (q : Part) (n : ℕ) → q.bytes ≡ decimal n → n ≤ max_number → None (number_checks q)
unfolding None
number_passes q n e l = (
  λ h. h (rw e (decimal_digits n)),
  (λ (g : max_number < number q). let z : ⊥ = omega (arith, number_right q n e) in z, tt),
)

pub empty_passes : (q : Part) → q.bytes ≡ [] → None (number_checks q) × (number q ≡ 0)
unfolding None Digits value_from
empty_passes q e = (
  (λ h. h (rw e tt), (λ (g : max_number < number q). let z : ⊥ = omega (arith, ap value e) in z, tt)),
  ap value e,
)

decimal_is : (q : Part) (n : ℕ) → q.bytes ≡ decimal n → q.bytes ≢ []
decimal_is q n e z = let w : ⊥ = omega (arith, decimal_some n, ap length (sym e ∙ z)) in w

some_of : (xs : List ℕ) → xs ≢ [] → T (some xs)
some_of [] h = absurd (h refl)
some_of (x ∷ xs) h = tt

filled : (l : Part) {w : List ℕ} {ws : List (List ℕ)} → words l ≡ w ∷ ws → some (fields l) ≡ true
filled l e = go (fields l) refl
  where
    go : (qs : List Part) → fields l ≡ qs → some (fields l) ≡ true
    go [] z = absurd (let y : ⊥ = omega (arith, ap length (sym e ∙ ap (map (λ (q : Part). q.bytes)) z)) in y)
    go (q ∷ qs) z = ap some z

-- ---- lines

-- the word that a heading begins with
abbrev name : ℕ → List ℕ
name r = cond (eqb r max_rings) (letters "board") (letters "elements")

note_line : {r v : ℕ} → OneOrTwo r → Known r v → T (clear is_newline (body (note r v))) × (until is_hash (body (note r v)) ≡ 0)
unfolding note clear each lowest
note_line o k =
    of_kind (λ r v. T (clear is_newline (body (note r v))) × (until is_hash (body (note r v)) ≡ 0)) (tt, refl) (tt, refl) (tt, refl) o k

note_short : {r v : ℕ} → OneOrTwo r → Known r v → length (body (note r v)) ≤ 40
unfolding note each
note_short o k = of_kind (λ r v. length (body (note r v)) ≤ 40) (omega arith) (omega arith) (omega arith) o k

lines_text : (n : ℕ) (g : ℕ → Line) → text (each n (λ i. g i ∷ [])) ≡ each n (λ i. body (g i) ++ (newline ∷ []))
unfolding each
lines_text zero g = text_none
lines_text (suc n) g =
    text_join (each n (λ i. g i ∷ [])) (g n ∷ [])
    ∙ ap₂ ◌++◌ (lines_text n g) (text_one (g n) ∙ sym (append-nil (text_of (g n))) ∙ body_line (g n) [])

-- a line's bytes but its newline
body_length : (l : Line) → length (text_of l) ≡ length (body l) + 1
body_length l =
    ap length (sym (append-nil (text_of l)) ∙ body_line l []) ∙ length-append (body l) (newline ∷ [])

one_small : (a : ℕ) → a ≤ max_number → (i : ℕ) → i < 1 → at (a ∷ []) i ≤ max_number
one_small a l zero m = l
one_small a l (suc i) m = absurd (let z : ⊥ = omega arith in z)

-- ---- the heading

module _ (M : ℕ) {r : ℕ} (o : OneOrTwo r) where
  top_words : (s : ℕ) → words (part s (body (head_line r M))) ≡ name r ∷ decimal M ∷ []
  unfolding head_line clear
  top_words s =
      one_or_two (λ r. words (part s (body (head_line r M))) ≡ name r ∷ decimal M ∷ [])
      (words_of s (letters "elements") (M ∷ []) tt (omega arith)) (words_of s (letters "board") (M ∷ []) tt (omega arith)) o

  top_plain : T (clear is_newline (body (head_line r M))) × T (clear is_hash (body (head_line r M)))
  unfolding head_line clear
  top_plain =
      one_or_two (λ r. T (clear is_newline (body (head_line r M))) × T (clear is_hash (body (head_line r M)))) (
        body_clear is_newline newline_skips refl (letters "elements") (M ∷ []) tt,
        body_clear is_hash hash_skips refl (letters "elements") (M ∷ []) tt,
      ) (
        body_clear is_newline newline_skips refl (letters "board") (M ∷ []) tt,
        body_clear is_hash hash_skips refl (letters "board") (M ∷ []) tt,
      )
      o

  top_short : M ≤ max_number → length (body (head_line r M)) ≤ 20
  unfolding head_line
  top_short l =
      one_or_two (λ r. length (body (head_line r M)) ≤ 20)
      (omega (arith, body_length (says "elements" (M ∷ [])), line_short (letters "elements") (M ∷ []) (one_small M l)))
      (omega (arith, body_length (says "board" (M ∷ [])), line_short (letters "board") (M ∷ []) (one_small M l))) o

-- a line with this word is a heading, and says so many rings
name_known : {r : ℕ} {xs : List ℕ} → OneOrTwo r → xs ≡ name r → (xs ≢ letters "elements") × (xs ≢ letters "board") → ⊥
name_known {xs = xs} o e w = one_or_two (λ r. xs ≡ name r → ⊥) w.0 w.1 o e

name_rings : {r : ℕ} (l : Part) → OneOrTwo r → (field l 0).bytes ≡ name r → rings_in l ≡ r
unfolding rings_in
name_rings l o e =
    ap (λ (xs : List ℕ). cond (eqb (at xs 0) 0x62) max_rings 1) e
    ∙ one_or_two (λ r. cond (eqb (at (name r) 0) 0x62) max_rings 1 ≡ r) refl refl o

-- ---- the table

module _ (v : ℕ) (t : Labelled) (o : OneOrTwo t.table.rings) (known : Known t.table.rings v) where
  abbrev n : ℕ
  n = t.table.rows

  abbrev r : ℕ
  r = t.table.rings

  abbrev M : ℕ
  M = t.table.elements

  abbrev top : Line
  top = head_line t.table.rings t.table.elements

  abbrev below : List ℕ
  below = each n (λ i. body (row_line v t i) ++ (newline ∷ []))

  text_is : table_text v t ≡ body top ++ (newline ∷ (body (note r v) ++ (newline ∷ below)))
  unfolding table_text
  text_is =
      text_first top _ ∙ body_line top _
      ∙ ap (λ (y : List ℕ). body top ++ (newline ∷ y))
      (text_first (note r v) _ ∙ body_line (note r v) _
      ∙ ap (λ (y : List ℕ). body (note r v) ++ (newline ∷ y)) (lines_text n (row_line v t)))

  row_words : (s i : ℕ) → words (part s (body (row_line v t i))) ≡ decimal (t.table.cost i) ∷ map decimal (row_line v t i).numbers
  row_words s i =
      words_of s (decimal (t.table.cost i)) (row_line v t i).numbers (decimal_clear is_blank blank_skips (t.table.cost i))
      (decimal_some (t.table.cost i))

  rows_plain : Lines n (λ i. body (row_line v t i))
  rows_plain = record {
    newlines = λ i l.
        body_clear is_newline newline_skips refl (decimal (t.table.cost i)) (row_line v t i).numbers
        (decimal_clear is_newline newline_skips (t.table.cost i));
    hashes = λ i l.
        body_clear is_hash hash_skips refl (decimal (t.table.cost i)) (row_line v t i).numbers
        (decimal_clear is_hash hash_skips (t.table.cost i));
    says = λ i k l. filled (part k (body (row_line v t i))) (row_words k i);
  }

  abbrev k₁ : ℕ
  k₁ = suc (0 + length (body top))

  abbrev k₂ : ℕ
  k₂ = suc (k₁ + length (body (note r v)))

  lines_are : lines (table_text v t) ≡ part 0 (body top) ∷ lines_from k₂ below
  unfolding lines
  lines_are =
      let p = top_plain M o in
      let c = note_line o known in
      ap (lines_from 0) text_is
      ∙ lines_one 0 (body top) _ p.0 p.1 (filled (part 0 (body top)) (top_words M o 0))
      ∙ ap (λ (qs : List Part). part 0 (body top) ∷ qs) (lines_note k₁ (body (note r v)) below c.0 c.1)

  rows_are : Are (lines_from k₂ below) n (λ i. body (row_line v t i))
  rows_are = lines_each n (λ i. body (row_line v t i)) k₂ rows_plain

  abbrev end : Part
  end = part (length (table_text v t)) []

  -- ---- what its lines say

  head_word : (k : ℕ) → (field (heading (table_text v t)) k).bytes ≡ get_or (name r ∷ decimal M ∷ []) k []
  head_word k =
      field_word (heading (table_text v t)) k
      ∙ ap (λ (ws : List (List ℕ)). get_or ws k [])
      (ap words (ap (λ (qs : List Part). get_or qs 0 end) lines_are) ∙ top_words M o 0)

  rings_is : text_rings (table_text v t) ≡ t.table.rings
  rings_is = name_rings (heading (table_text v t)) o (head_word 0)

  elements_is : (text_table (table_text v t)).elements ≡ t.table.elements
  elements_is = number_right (field (heading (table_text v t)) 1) M (head_word 1)

  rows_count : (text_table (table_text v t)).rows ≡ n
  rows_count = let e : length (lines (table_text v t)) ≡ suc n = ap length lines_are ∙ ap suc rows_are.size in omega (arith, e)

  module _ (i : ℕ) (l : i < n) where
    line_words : words (row (table_text v t) i) ≡ decimal (t.table.cost i) ∷ map decimal (row_line v t i).numbers
    line_words =
        let z = rows_are.line end i l in
        ap words (ap (λ (qs : List Part). get_or qs (suc i) end) lines_are ∙ z.1) ∙ row_words z.0 i

    word : (k : ℕ) → (field (row (table_text v t) i) k).bytes ≡ get_or (decimal (t.table.cost i) ∷ map decimal (row_line v t i).numbers) k []
    word k = field_word (row (table_text v t) i) k ∙ ap (λ (ws : List (List ℕ)). get_or ws k []) line_words

    absent : last_size r v ≡ 0 → (last (row (table_text v t) i)).bytes ≡ []
    absent e = word 4 ∙ ap (λ (xs : List ℕ). get_or (map decimal xs) 0 []) (last_absent r v (last_number_of t i) e)

    there : last_size r v ≢ 0 → (last (row (table_text v t) i)).bytes ≡ decimal (last_number_of t i)
    there h = word 4 ∙ ap (λ (xs : List ℕ). get_or (map decimal xs) 0 []) (last_there r v (last_number_of t i) h)

    no_more : (field (row (table_text v t) i) 5).bytes ≡ []
    no_more = word 5 ∙ go (ℕ_discrete (last_size r v) 0)
      where
        go : Dec (last_size r v ≡ 0) → get_or (map decimal (last_numbers r v (last_number_of t i))) 1 [] ≡ []
        go (yes e) = ap (λ (xs : List ℕ). get_or (map decimal xs) 1 []) (last_absent r v (last_number_of t i) e)
        go (no h) = ap (λ (xs : List ℕ). get_or (map decimal xs) 1 []) (last_there r v (last_number_of t i) h)

    -- with two rings the direction is there
    needed_there : (field (row (table_text v t) i) (needed r)).bytes ≢ []
    unfolding needed
    needed_there =
        ⊎_elim
        (λ e.
        subst (λ (k : ℕ). (field (row (table_text v t) i) (needed k)).bytes ≢ []) (sym e)
        (decimal_is (field (row (table_text v t) i) 3) (t.table.second i) (word 3)))
        (λ e.
        subst (λ (k : ℕ). (field (row (table_text v t) i) (needed k)).bytes ≢ []) (sym e)
        (decimal_is (field (row (table_text v t) i) 4) (last_number_of t i)
        (there (λ z. let y : ⊥ = omega (arith, z, last_way v e) in y))))
        o

  -- ---- it is short

  module _ (s : Sound t.table) (small : (i : ℕ) → i < n → last_number_of t i ≤ max_number) where
    line_fits : (i : ℕ) → i < n → length (body (row_line v t i) ++ (newline ∷ [])) ≤ 30
    line_fits i l =
        let w = s.row i l in
        omega (
          arith,
          length-append (body (row_line v t i)) (newline ∷ []),
          body_length (row_line v t i),
          row_short r v (t.table.cost i) (t.table.period i) (t.table.first i) (t.table.second i) (last_number_of t i)
              (omega (arith, w.cost_high, w.period_high)) (omega (arith, w.period_high))
              (omega (arith, w.first_high, s.elements_high)) (omega (arith, w.second_high, s.elements_high)) (small i l),
        )

    pub text_short : length (table_text v t) ≤ longest_text
    text_short =
        omega (
          arith,
          ap length text_is,
          length-append (body top) (newline ∷ (body (note r v) ++ (newline ∷ below))),
          length-append (body (note r v)) (newline ∷ below),
          each_short n 30 (λ i. body (row_line v t i) ++ (newline ∷ [])) line_fits,
          top_short M o (omega (arith, s.elements_high)),
          note_short o known,
          s.rows_high,
        )

  -- ---- it says the table

  module _ (fits : Fits (last_size t.table.rings v) t) (told : Told t) where
    last_is : (i : ℕ) (l : i < n) → number (last (row (table_text v t) i)) ≡ last_number_of t i
    last_is i l = go (ℕ_discrete (last_size r v) 0)
      where
        go : Dec (last_size r v ≡ 0) → number (last (row (table_text v t) i)) ≡ last_number_of t i
        go (yes e) = (empty_passes (last (row (table_text v t) i)) (absent i l e)).1 ∙ sym (fits e i l)
        go (no h) = number_right (last (row (table_text v t) i)) (last_number_of t i) (there i l h)

    pub text_back : Alike (text_labelled (table_text v t)) t
    text_back = record {
      elements = elements_is;
      rows = rows_count;
      cost = λ i l. number_right (field (row (table_text v t) i) 0) (t.table.cost i) (word i l 0);
      period = λ i l. number_right (field (row (table_text v t) i) 1) (t.table.period i) (word i l 1);
      first = λ i l. number_right (field (row (table_text v t) i) 2) (t.table.first i) (word i l 2);
      second = λ i l. number_right (field (row (table_text v t) i) 3) (t.table.second i) (word i l 3);
      rings = rings_is;
      way = λ i l. ap₂ way_in rings_is (last_is i l) ∙ (told i l).0;
      label = λ i l. ap₂ label_in rings_is (last_is i l) ∙ (told i l).1;
    }

    -- ---- nothing of it is refused

    module _ (s : Sound t.table) (small : (i : ℕ) → i < n → last_number_of t i ≤ max_number) where
      heading_passes : None (heading_checks (heading (table_text v t)))
      unfolding heading_checks None
      heading_passes =
          let h : Part = heading (table_text v t) in
          let rest : List Check =
          missing_field (field h 1) ∷ spare_field (field h 2)
          ∷ placed (field h 1).start (wrong_elements (row_table 1 (number (field h 1)) h)) ∷ [] in
          let passes : None rest = (
            decimal_is (field h 1) M (head_word 1),
            (
              λ g. g (head_word 2),
              (λ g. g (omega (arith, elements_is, s.elements_low), omega (arith, elements_is, s.elements_high)), tt),
            ),
          ) in (
            name_known o (head_word 0),
            none_join (number_checks (field h 1)) rest (number_passes (field h 1) M (head_word 1) (omega (arith, s.elements_high))) passes,
          )

      module _ (i : ℕ) (l : i < n) where
        abbrev q : ℕ → Part
        q k = field (row (table_text v t) i) k

        w : SoundRow t.table i
        w = s.row i l

        cells : (k : ℕ) → k < 4 → None (number_checks (field (row (table_text v t) i) k))
        cells zero m = number_passes (q 0) (t.table.cost i) (word i l 0) (omega (arith, w.cost_high, w.period_high))
        cells (suc zero) m = number_passes (q 1) (t.table.period i) (word i l 1) (omega (arith, w.period_high))
        cells (suc (suc zero)) m =
            number_passes (q 2) (t.table.first i) (word i l 2) (omega (arith, w.first_high, s.elements_high))
        cells (suc (suc (suc zero))) m =
            number_passes (q 3) (t.table.second i) (word i l 3) (omega (arith, w.second_high, s.elements_high))
        cells (suc (suc (suc (suc k)))) m = absurd (let z : ⊥ = omega arith in z)

        lasts : None (number_checks (last (row (table_text v t) i)))
        lasts = go (ℕ_discrete (last_size r v) 0)
          where
            go : Dec (last_size r v ≡ 0) → None (number_checks (last (row (table_text v t) i)))
            go (yes e) = (empty_passes (last (row (table_text v t) i)) (absent i l e)).0
            go (no h) = number_passes (last (row (table_text v t) i)) (last_number_of t i) (there i l h) (small i l)

        form_passes : None (form_checks r (row (table_text v t) i))
        unfolding form_checks None
        form_passes =
            let ends : List Check = missing_field (q (needed r)) ∷ spare_field (q 5) ∷ [] in
            none_join (each 4 (λ k. number_checks (q k))) (number_checks (last (row (table_text v t) i)) ++ ends)
            (none_each (λ k. number_checks (q k)) 4 cells)
            (none_join (number_checks (last (row (table_text v t) i))) ends lasts (needed_there i l, (λ g. g (no_more i l), tt)))

        row_sound : SoundRow (row_table (text_rings (table_text v t)) (text_table (table_text v t)).elements (row (table_text v t) i)) 0
        row_sound =
            let c = text_back.cost i l in
            let p = text_back.period i l in
            let a = text_back.first i l in
            let b = text_back.second i l in
            record {
              first_low = omega (arith, a, w.first_low);
              first_high = omega (arith, a, elements_is, w.first_high);
              second_low = omega (arith, b, w.second_low);
              second_high = omega (arith, b, elements_is, w.second_high);
              ends_differ = λ e. w.ends_differ (sym a ∙ e ∙ b);
              period_low = omega (arith, p, w.period_low);
              period_high = omega (arith, p, w.period_high);
              cost_low = omega (arith, c, w.cost_low);
              cost_high = omega (arith, c, p, w.cost_high);
              way_known = omega (arith, text_back.way i l, rings_is, w.way_known);
            }

        values_pass : None (value_checks (text_rings (table_text v t)) (text_table (table_text v t)).elements (row (table_text v t) i))
        unfolding value_checks None
        values_pass =
            let x : List ℕ = table_text v t in
            let f = row_none (row_table (text_rings x) (text_table x).elements (row x i)) 0 row_sound in
            (f.0, (f.1.0, (f.1.1.0, (f.1.1.1.0, tt))))

        row_passes : None (text_row_checks (text_rings (table_text v t)) (text_table (table_text v t)).elements (row (table_text v t) i) i)
        unfolding text_row_checks None
        row_passes = (
          λ (g : max_rows ≤ i). let z : ⊥ = omega (arith, s.rows_high) in z,
          none_join (form_checks (text_rings (table_text v t)) (row (table_text v t) i)) _
              (subst (λ (k : ℕ). None (form_checks k (row (table_text v t) i))) (sym rings_is) form_passes) values_pass,
        )

      pub text_passes : None (text_checks (table_text v t))
      unfolding text_checks text_line_checks None
      text_passes =
          let x : List ℕ = table_text v t in
          let one : ℕ → List Check = λ i. text_row_checks (text_rings x) (text_table x).elements (row x i) i in
          let empty : List Check = refuse 5 (length x) ((text_table x).rows ≡ 0) ∷ [] in
          let some_row : None empty = (λ z. let y : ⊥ = omega (arith, z, rows_count, s.rows_low) in y, tt) in (
            λ (g : max_text < length (table_text v t)). let z : ⊥ = omega (arith, text_short s small) in z,
            none_join (heading_checks (heading x)) (each (text_table x).rows one ++ empty) heading_passes
                (none_join (each (text_table x).rows one) empty
                (none_each one (text_table x).rows (λ i l. row_passes i (omega (arith, rows_count)))) some_row),
          )

  -- ---- its version

  any_last : 1 ≤ n → last_size r v ≢ 0 → any (text_table (table_text v t)).rows (λ i. some (last (row (table_text v t) i)).bytes) ≡ true
  any_last m h =
      let k : ℕ = (text_table (table_text v t)).rows in
      let p : ℕ → Bool = λ i. some (last (row (table_text v t) i)).bytes in
      is_true (any k p)
      (any_of k p 0 (omega (arith, rows_count)) (some_of _ (decimal_is (last (row (table_text v t) 0)) (last_number_of t 0) (there 0 m h))))

  none_last : last_size r v ≡ 0 → any (text_table (table_text v t)).rows (λ i. some (last (row (table_text v t) i)).bytes) ≡ false
  none_last e =
      any_none (text_table (table_text v t)).rows (λ i. some (last (row (table_text v t) i)).bytes)
      (λ i l g. subst (λ (xs : List ℕ). T (some xs)) (absent i (omega (arith, rows_count)) e) g)

  pub version_back : 1 ≤ n → text_version (table_text v t) ≡ v
  unfolding text_version
  version_back m =
      ap (λ (k : ℕ). cond (eqb k max_rings) version_1 (cond b version_2 version_1)) rings_is
      ∙ of_kind (λ r v. (last_size r v ≡ 0 → b ≡ false) → (last_size r v ≢ 0 → b ≡ true)
      → cond (eqb r max_rings) version_1 (cond b version_2 version_1) ≡ v)
      (λ f g. ap (λ (x : Bool). cond x version_2 version_1) (f bare_1)) (λ f g. ap (λ (x : Bool). cond x version_2 version_1) (g bare_2))
      (λ f g. refl) o known none_last (any_last m)
    where
      b : Bool
      b = any (text_table (table_text v t)).rows (λ i. some (last (row (table_text v t) i)).bytes)
