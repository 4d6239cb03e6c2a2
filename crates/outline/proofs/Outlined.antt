-- Refusals 1 to 9, 26, 18, 10 and 11, and that only one outline fits. Past the checks of a table as it is given each ring has a cut or 10
-- is given, and the hyperperiod is at most 4096 slots or 11 is given.
use mathlib.Core.Path.{◌≡◌, refl, sym, ap, ◌∙◌}
use mathlib.Core.Logic.{⊎_elim}
use mathlib.Core.List.{List, [], ◌∷◌}
use Prim.Native.Nat.{ℕ, ◌≤◌, ◌<◌}
use native.Mathlib.Omega.{arith}
use lib.ListN.{length, take, length-take}
use Rattle.numbers.specs.Lists.{at}
use Rattle.numbers.proofs.Truth.{le_or_lt}
use Rattle.rules.specs.Bounds.{max_rows, max_slots}
use Rattle.rules.specs.Bus.{Table}
use Rattle.rules.specs.TableFile.{file_table}
use Rattle.rules.specs.Line.{cut, HasCuts, line_top, line_first, line_second, Sets}
use Rattle.rules.specs.Loads.{hyperperiod}
use Rattle.rules.specs.Refusals.{Check, Answers, no_cut, long_hyperperiod, given_checks, cut_checks, line_checks}
use Rattle.rules.proofs.Answers.{
  None,
  Numbered,
  applied,
  stopped,
  joined,
  none_of,
  none_join,
  none_left,
  none_right,
  numbered_join,
  answers_only,
  single_none,
  none_single,
  single_numbered,
  single_stopped,
}
use Rattle.rules.proofs.Sets.{sets_only}
use Rattle.table.specs.Sound.{Passed}
use Rattle.ring.proofs.Cut.{cut_high, cut_none}
use Rattle.sets.specs.Sets.{OnLine, SetWords}
use Rattle.sets.proofs.SetWords.{set_words_only}
use Rattle.std.specs.Prelude.{Result, Ok, Err}
use Rattle.table.specs.Refusal.{number_of, number, place}
use Rattle.table.specs.declared.refusals.Refusal.{Refusal}
use Rattle.table.proofs.Reasons.{not_done, refused_not, same_refusal}
use Rattle.table.proofs.ByRow.{by_row_only}
use Rattle.outline.specs.declared.Outline.{Outline}
use Rattle.time.proofs.Periods.{time_only}
use Rattle.outline.specs.Outlined.{Found, outline_checks, Outlined}
use Rattle.pasted.proofs.AsGiven.{given_numbered, given_passed}
use Rattle.outline.proofs.Sets.{Ends, own_ends, ends_on_line, line_list}

-- ---- refusals 10 and 11

module _ (t : Table) where
  -- 11 alone
  abbrev long : List Check
  long = long_hyperperiod t ∷ []

  pub line_numbered : Numbered (line_checks t)
  unfolding line_checks cut_checks Numbered
  line_numbered =
      numbered_join (cut_checks t) long (single_numbered (no_cut t) t.rings (λ d. omega arith)) ((λ e. omega arith), tt)

  has_cut : (d : ℕ) → cut t d ≤ t.elements → (no_cut t d).applies → ⊥
  has_cut d l a = omega (arith, (cut_none t d).0 a)

  no_cut_applies : (d : ℕ) → t.elements < cut t d → (no_cut t d).applies
  no_cut_applies d l = (cut_none t d).1 (omega (arith, cut_high t d))

  -- ring d is the lowest without a cut
  pub cut_refused : (d : ℕ) → d < t.rings → ((e : ℕ) → e < d → cut t e ≤ t.elements) → t.elements < cut t d
      → Answers (line_checks t) (no_cut t d).number d
  unfolding line_checks cut_checks
  cut_refused d l has h =
      stopped (cut_checks t) long _ d (omega arith)
      (single_stopped (no_cut t) t.rings d l (omega arith) (λ e m. has_cut e (has e m)) (no_cut_applies d h))

  cuts_none : HasCuts t → None (cut_checks t)
  unfolding cut_checks
  cuts_none has = single_none (no_cut t) t.rings (λ d l. has_cut d (has d l))

  none_cuts : None (cut_checks t) → HasCuts t
  unfolding cut_checks
  none_cuts a d l =
      ⊎_elim (λ m. m) (λ m. absurd (none_single (no_cut t) t.rings a d l (no_cut_applies d m))) (le_or_lt (cut t d) t.elements)

  pub long_refused : HasCuts t → max_slots < hyperperiod t → Answers (line_checks t) (long_hyperperiod t).number 0
  unfolding line_checks
  long_refused has h = joined (cut_checks t) long _ _ (cuts_none has) (applied (long_hyperperiod t) [] _ _ h refl refl)

  pub line_none : HasCuts t → hyperperiod t ≤ max_slots → None (line_checks t)
  unfolding line_checks None
  line_none has h = none_join (cut_checks t) long (cuts_none has) ((λ a. omega arith), tt)

  pub none_line : None (line_checks t) → HasCuts t × (hyperperiod t ≤ max_slots)
  unfolding line_checks None
  none_line a = (
    none_cuts (none_left (cut_checks t) long a),
    ⊎_elim (λ l. l) (λ l. absurd ((none_right (cut_checks t) long a).0 l)) (le_or_lt (hyperperiod t) max_slots),
  )

-- ---- files that pass 1 to 9, 26, 18, 10 and 11

module _ (f : List ℕ) where
  pub outline_numbered : Numbered (outline_checks f)
  outline_numbered = numbered_join (given_checks f) (line_checks (file_table f)) (given_numbered f) (line_numbered (file_table f))

  module _ (a : None (outline_checks f)) where
    pub outline_passed : Passed f
    outline_passed = given_passed f (none_left (given_checks f) (line_checks (file_table f)) a)

    pub outline_short : HasCuts (file_table f) × (hyperperiod (file_table f) ≤ max_slots)
    outline_short = none_line (file_table f) (none_right (given_checks f) (line_checks (file_table f)) a)

    pub outline_list_only : (ws vs : List ℕ) → Sets (file_table f) ws → Sets (file_table f) vs → ws ≡ vs
    outline_list_only ws vs A B = sets_only outline_passed.sound.rows_low A B

-- ---- the outline of each outcome

module _ (f : List ℕ) where
  pub outlined_given : (r : Refusal) → Answers (given_checks f) (number_of r.reason) r.place
      → Answers (outline_checks f) (number_of r.reason) r.place
  outlined_given r a = stopped (given_checks f) (line_checks (file_table f)) (number_of r.reason) r.place (not_done r.reason) a

  -- past these checks its table's outline is the file's
  pub outlined_past : Answers (given_checks f) 0 0 → {r : Result Outline Refusal}
      → Outlined (line_checks (file_table f)) (file_table f) r → Outlined (outline_checks f) (file_table f) r
  outlined_past a {r} O = record {
    answers =
        joined (given_checks f) (line_checks (file_table f)) (number r) (place r)
        (none_of (given_checks f) 0 (given_numbered f) a) O.answers;
    found = O.found;
  }

-- ---- the rows and the list of an outline that is found

pub found_few : {t : Table} {o : Outline} → Found t o → o.sets ≤ max_rows
found_few F = let s = F.timed.sound in omega (arith, F.few)

pub found_count : {t : Table} {o : Outline} → Found t o → length (take o.sets o.words) ≡ o.sets
found_count {t} {o} F = omega (arith, length-take o.sets o.words, found_few F)

module _ {t : Table} {o : Outline} (F : Found t o) where
  pub found_ends : Ends t (at o.first) (at o.second)
  found_ends i l = (F.first.row i l, F.second.row i l)

  module _ (first second : ℕ → ℕ) (ends : Ends t first second) where
    pub found_on_line : OnLine t.rows first second (line_top t)
    found_on_line = ends_on_line t F.timed.sound F.clear first second ends

    pub found_words : SetWords t.rows first second o.sets o.words
    found_words = record {
      size = F.size;
      few = F.few;
      sets = line_list t F.timed.sound F.clear first second ends (take o.sets o.words) F.list;
      rest = F.rest;
    }

-- ---- only one outline fits

pub found_only : {t : Table} {o u : Outline} → Found t o → Found t u → o ≡ u
found_only {t} {o} {u} F G =
    let ends = own_ends t in
    let w =
    set_words_only (found_on_line F (line_first t) (line_second t) ends)
    (found_words F (line_first t) (line_second t) ends) (found_words G (line_first t) (line_second t) ends) in
    λ k. record {
      elements = (F.elements ∙ sym G.elements) k;
      rows = (F.rows ∙ sym G.rows) k;
      cut = (F.cut ∙ sym G.cut) k;
      other = (F.other ∙ sym G.other) k;
      top = (F.top ∙ sym G.top) k;
      time = time_only F.timed G.timed k;
      first = by_row_only F.first G.first k;
      second = by_row_only F.second G.second k;
      sets = w.0 k;
      words = w.1 k;
    }

pub outlined_only : {cs : List Check} {t : Table} {o u : Result Outline Refusal} → Outlined cs t o → Outlined cs t u → o ≡ u
outlined_only {o = Ok a} {u = Ok b} O U = ap Ok (found_only O.found U.found)
outlined_only {cs} {o = Ok a} {u = Err r} O U = refused_not cs r O.answers U.answers
outlined_only {cs} {o = Err r} {u = Ok a} O U = refused_not cs r U.answers O.answers
outlined_only {cs} {o = Err r} {u = Err s} O U =
    same_refusal cs r s O.answers U.answers
