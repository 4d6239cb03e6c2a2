-- The heading and the rows of a text, and what the reader answers.
use mathlib.Core.Path.{◌≡◌, refl, sym, ap, ap₂, subst, ◌∙◌}
use mathlib.Core.Logic.{⊎_elim, ◌⊎◌, inl, inr, ◌≢◌}
use mathlib.Core.List.{List, [], ◌∷◌, ◌++◌}
use Prim.Native.Nat.{ℕ, ◌-◌, ◌*◌, ◌≤◌, ◌<◌}
use native.Mathlib.Omega.{arith}
use lib.ListN.{length, take, drop, get_or}
use borrow.Author.Tests.{le-ltb}
use Rattle.numbers.specs.Lists.{each}
use Rattle.numbers.proofs.Truth.{le_or_lt}
use Rattle.rules.specs.TableFile.{row_numbers, mark_of, numbers}
use Rattle.rules.specs.Text.{letters}
use Rattle.rules.specs.Refusals.{Check, Answers, refuse}
use Rattle.rules.specs.Calls.{lent, no_mark}
use Rattle.rules.proofs.Answers.{None, Numbered, applied, passed, done, stopped, joined, none_of}
use Rattle.rules.proofs.Answers.{numbered_join, numbered_each}
use Rattle.rules.proofs.Calls.{lent_take, call_refused, call_short, call_done}
use Rattle.round_trip.proofs.RoundTrip.{numbers_length}
use Rattle.grammar.specs.TableText.{Part, part, parts, kept, lines, field, heading, row}
use Rattle.grammar.specs.TableText.{number, rings_in, text_rings, text_table, text_labelled, text_version, max_text}
use Rattle.grammar.specs.TableText.{long_text, heading_checks}
use Rattle.grammar.specs.TableText.{text_row_checks, text_line_checks, text_checks, text_reader_checks, TextRead}
use Rattle.text_reader.specs.declared.fields.Line.{Line}
use Rattle.text_reader.specs.Walk.{lines_at, line_of, IsNextLine}
use Rattle.text_reader.specs.declared.Heading.{Heading}
use Rattle.text_reader.specs.declared.Rows.{Rows}
use Rattle.std.specs.Prelude.{Ok, Err}
use Rattle.table.specs.declared.refusals.Reason.TheVariants.{WrongRows}
use Rattle.reader.specs.declared.Reading.{Reading}
use Rattle.text_reader.specs.Faults.{number_of}
use Rattle.text_reader.specs.declared.faults.Wrong.TheVariants.{Table}
use Rattle.text_reader.specs.declared.faults.Fault.{Fault}
use Rattle.text_reader.proofs.Wrongs.{not_done}
use Rattle.text_reader.specs.Reading.{IsHeading, Rest, AreRows, AreLines, version_for}
use Rattle.text_reader.proofs.Lines.{row_numbered}

-- ---- no refusal has the number 0

pub heading_numbered : (l : Part) → Numbered (heading_checks l)
unfolding heading_checks Numbered
heading_numbered l = omega arith

rows_numbered : (t : List ℕ) → Numbered (each (text_table t).rows (λ i. text_row_checks (text_rings t) (text_table t).elements (row t i) i))
rows_numbered t =
    numbered_each (λ i. text_row_checks (text_rings t) (text_table t).elements (row t i) i) (text_table t).rows
    (λ i. row_numbered (text_rings t) (text_table t).elements (row t i) i)

abbrev empty : List ℕ → Check
empty t = refuse 5 (length t) ((text_table t).rows ≡ 0)

pub text_numbered : (t : List ℕ) → Numbered (text_checks t)
unfolding text_checks text_line_checks Numbered
text_numbered t =
    let rows : List Check = each (text_table t).rows (λ i. text_row_checks (text_rings t) (text_table t).elements (row t i) i) in (
      omega arith,
      numbered_join (heading_checks (heading t)) (rows ++ (empty t ∷ [])) (heading_numbered (heading t))
          (numbered_join rows (empty t ∷ []) (rows_numbered t) (omega arith)),
    )

-- ---- the heading

lines_all : (t : List ℕ) → lines_at t 0 ≡ lines t
unfolding lines
lines_all t = rw (le-ltb (length t) 0 (let z : 0 ≤ length t = omega arith in z))

nothing_there : (k : ℕ) → (field (part k []) 0).bytes ≡ []
unfolding field parts kept
nothing_there k = refl

module _ {t : List ℕ} {r : Line} (n : IsNextLine t 0 r) where
  either : (r.start < r.end) ⊎ (r.start ≡ r.end)
  either = ⊎_elim (λ g. inr (omega (arith, n.ordered))) (λ g. inl g) (le_or_lt r.end r.start)

  first_of : r.start < r.end → lines t ≡ line_of t r ∷ lines_at t r.next
  first_of g = sym (lines_all t) ∙ n.one g

  pub this_heading : heading t ≡ line_of t r
  this_heading =
      ⊎_elim
      (λ g. ap (λ (qs : List Part). get_or qs 0 (part (length t) [])) (first_of g))
      (λ e.
      let z : r.end - r.start ≡ 0 = omega (arith, e) in
      ap (λ (qs : List Part). get_or qs 0 (part (length t) [])) (sym (lines_all t) ∙ (n.none e).0)
      ∙ ap₂ part (sym (n.none e).1) (ap (λ (j : ℕ). take j (drop r.start t)) (sym z)))
      either

  here : (n p : ℕ) → Answers (heading_checks (line_of t r)) n p → Answers (heading_checks (heading t)) n p
  here n p a = subst (λ (l : Part). Answers (heading_checks l) n p) (sym this_heading) a

  pub heading_stops : (f : Fault) → IsHeading (line_of t r) (Err f) → Answers (heading_checks (heading t)) (number_of f.wrong) f.place
  heading_stops f H = here _ _ H.answers

  module _ {h : Heading} (H : IsHeading (line_of t r) (Ok h)) where
    pub heading_passes : None (heading_checks (heading t))
    heading_passes = none_of (heading_checks (heading t)) 0 (heading_numbered (heading t)) (here _ _ H.answers)

    pub elements_are : h.elements ≡ (text_table t).elements
    elements_are = H.elements ∙ ap (λ (l : Part). number (field l 1)) (sym this_heading)

    pub rings_are : h.rings ≡ text_rings t
    rings_are = H.rings ∙ ap rings_in (sym this_heading)

    -- an empty text has no heading
    filled : r.start ≡ r.end → ⊥
    unfolding heading_checks None
    filled z =
        let nil : heading t ≡ part (length t) [] =
        ap (λ (qs : List Part). get_or qs 0 (part (length t) [])) (sym (lines_all t) ∙ (n.none z).0) in
        let word : (field (heading t) 0).bytes ≡ [] = ap (λ (l : Part). (field l 0).bytes) nil ∙ nothing_there (length t) in
        heading_passes.0 (
          (λ w. let y : [] ≡ letters "elements" = sym word ∙ w in let x : ⊥ = omega (arith, ap length y) in x),
          (λ w. let y : [] ≡ letters "board" = sym word ∙ w in let x : ⊥ = omega (arith, ap length y) in x),
        )

    pub rest : Rest t r.next
    rest =
        ⊎_elim
        (λ g. record {
          inside = n.past;
          left = ap (drop 1) (first_of g);
          there = omega (arith, ap length (first_of g));
        })
        (λ z. absurd (filled z))
        either

-- ---- heading and rows

module _ (t was now : List ℕ) where
  abbrev rows : List Check
  rows = each (text_table t).rows (λ i. text_row_checks (text_rings t) (text_table t).elements (row t i) i)

  refused : (f : Fault) → Answers (text_line_checks t) (number_of f.wrong) f.place → length now ≡ length was → AreLines t was now (Err f)
  refused f a e = record {
    answers = a;
    mark = tt;
    version = tt;
    elements = tt;
    rows = tt;
    few = tt;
    holds = tt;
    same = e;
  }

  pub lines_heading : (f : Fault) → Answers (heading_checks (heading t)) (number_of f.wrong) f.place → length now ≡ length was
      → AreLines t was now (Err f)
  unfolding text_line_checks
  lines_heading f a e =
      refused f (stopped (heading_checks (heading t)) (rows ++ (empty t ∷ [])) (number_of f.wrong) f.place (not_done f.wrong) a) e

  module _ (passes : None (heading_checks (heading t))) where
    pub lines_rows : (f : Fault) → AreRows t was now (Err f) → AreLines t was now (Err f)
    unfolding text_line_checks
    lines_rows f F =
        refused f
        (joined (heading_checks (heading t)) (rows ++ (empty t ∷ [])) (number_of f.wrong) f.place passes
        (stopped rows (empty t ∷ []) (number_of f.wrong) f.place (not_done f.wrong) F.answers))
        F.same

    module _ {x : Rows} (F : AreRows t was now (Ok x)) where
      rows_pass : None rows
      rows_pass = none_of rows 0 (rows_numbered t) F.answers

      pub lines_empty : x.rows ≡ 0 → AreLines t was now (Err (record { wrong = Table WrongRows; place = length t }))
      unfolding text_line_checks
      lines_empty h =
          refused (record { wrong = Table WrongRows; place = length t })
          (joined (heading_checks (heading t)) (rows ++ (empty t ∷ [])) 5 (length t) passes
          (joined rows (empty t ∷ []) 5 (length t) rows_pass
          (applied (empty t) [] 5 (length t) (sym F.rows ∙ h) refl refl)))
          F.same

      pub lines_done : (k : List ℕ) (v M r : ℕ) → x.rows ≢ 0 → r ≡ text_rings t → M ≡ (text_table t).elements → k ≡ mark_of r
          → v ≡ version_for r x.labelled
          → AreLines t was now (Ok (record { mark = k; version = v; table = record { elements = M; rows = x.rows } }))
      unfolding text_line_checks text_version
      lines_done k v M r h g m y w = record {
        answers =
            joined (heading_checks (heading t)) (rows ++ (empty t ∷ [])) 0 0 passes
            (joined rows (empty t ∷ []) 0 0 rows_pass (passed (empty t) [] 0 0 (λ z. h (F.rows ∙ z)) done));
        mark = y ∙ ap mark_of g;
        version = w ∙ ap₂ version_for g F.labelled;
        elements = m;
        rows = F.rows;
        few = F.few;
        holds = F.holds;
        same = F.same;
      }

-- ---- the reader

module _ (t was : List ℕ) where
  abbrev short : Type 0
  short = length was < row_numbers * (text_table t).rows

  pub read_long : max_text < length t → TextRead t was was 33 max_text no_mark 0 0 0
  unfolding text_reader_checks text_checks
  read_long l =
      call_refused (text_checks t) short (applied (long_text t) (text_line_checks t) 33 max_text l refl refl)
      (λ g. let w : ⊥ = omega (arith, g) in w) (refl, refl, refl, refl, refl)

  module _ (l : length t ≤ max_text) where
    answers : (n p : ℕ) → Answers (text_line_checks t) n p → Answers (text_checks t) n p
    unfolding text_checks
    answers n p a =
        passed (long_text t) (text_line_checks t) n p (λ (g : max_text < length t). let w : ⊥ = omega arith in w) a

    pub read_refused : {from now : List ℕ} (f : Fault) → AreLines t from now (Err f)
        → TextRead t was was (number_of f.wrong) f.place no_mark 0 0 0
    unfolding text_reader_checks
    read_refused f L =
        call_refused (text_checks t) short (answers _ _ L.answers) (not_done f.wrong) (refl, refl, refl, refl, refl)

    module _ {from now : List ℕ} {r : Reading} (L : AreLines t from now (Ok r)) where
      pub read_short : length was < row_numbers * r.table.rows → TextRead t was was 17 0 no_mark 0 0 0
      unfolding text_reader_checks
      read_short h =
          call_short (text_checks t) short (none_of (text_checks t) 0 (text_numbered t) (answers _ _ L.answers))
          (omega (arith, h, L.rows)) (refl, refl, refl, refl, refl)

      pub read_done : (out : List ℕ) → row_numbers * r.table.rows ≤ length was → out ≡ lent (numbers (text_labelled t)) was
          → TextRead t was out 0 0 r.mark r.version r.table.elements r.table.rows
      unfolding text_reader_checks
      read_done out h o =
          call_done (text_checks t) short (text_numbered t) (answers _ _ L.answers) refl
          (λ (g : short). let w : ⊥ = omega (arith, h, L.rows, g) in w) (L.mark, L.version, L.elements, L.rows, o)

-- the numbers at the front of the memory that they were read into
pub front_of : {t from now : List ℕ} {r : Reading} → AreLines t from now (Ok r)
    → take (row_numbers * r.table.rows) now ≡ numbers (text_labelled t)
front_of {t} {from} L =
    ap₂ (λ (k : ℕ) (xs : List ℕ). take (row_numbers * k) xs) L.rows L.holds
    ∙ lent_take (numbers (text_labelled t)) from (row_numbers * (text_table t).rows) (numbers_length (text_labelled t))
