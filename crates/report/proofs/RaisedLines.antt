-- The lines that `render` writes are those that the program prints, and only one answer fits.
use mathlib.Core.Path.{◌≡◌, sym, ap, ap₂, subst, ◌∙◌}
use mathlib.Core.Logic.{⊎_elim}
use mathlib.Core.Bool.{Bool, cond}
use mathlib.Core.List.{List, [], ◌∷◌, ◌++◌}
use Prim.Native.Nat.{ℕ, ◌+◌, ◌≤◌, ◌<◌}
use native.Mathlib.Nat.{mul-le-mul_left}
use native.Mathlib.Decide.{ℕ_discrete}
use native.Mathlib.Omega.{arith}
use lib.Dec.{T, ltb, ltb→lt, lt→ltb}
use lib.ListN.{length, take}
use lib.Seq.{sets}
use Rattle.numbers.specs.Lists.{at}
use Rattle.numbers.proofs.Truth.{is_true, is_false, decide}
use Rattle.numbers.proofs.Lists.{each_eq}
use Rattle.rules.specs.Bus.{Table}
use Rattle.rules.specs.TableFile.{version_2, label_size, row_size, version, file_rings, file_table}
use Rattle.rules.specs.Loads.{light}
use Rattle.rules.specs.Refusals.{Answers, short_output, verdict_checks}
use Rattle.rules.specs.Text.{Line, text}
use Rattle.rules.specs.Program.{verdict}
use Rattle.rules.specs.Raising.{
  least_cost,
  raised_cost,
  raised_file,
  before_13,
  raise_checks,
  Raised,
  raise,
  raise_lines,
  RaisePrinted,
  refused,
  raises,
}
use Rattle.rules.proofs.Answers.{None, answers_only, answered, none_join}
use Rattle.rules.proofs.Calls.{lent_take, call_must}
use Rattle.table.specs.Sound.{Sound, Passed}
use Rattle.table.specs.Columns.{table_of}
use Rattle.table.proofs.Faults.{passed_none}
use Rattle.table.proofs.RowSizes.{label_two, label_none, last_label}
use Rattle.std.specs.Prelude.{Result, Ok}
use Rattle.table.specs.Refusal.{number_of, number, place}
use Rattle.table.specs.declared.refusals.Refusal.{Refusal}
use Rattle.table.proofs.Reasons.{not_done}
use Rattle.verdict.specs.declared.Admitted.{Admitted}
use Rattle.verdict.specs.Verdict.{IsVerdict}
use Rattle.decimal.specs.Puts.{Puts, PutsLine, PutsLines}
use Rattle.decimal.proofs.Puts.{puts_more}
use Rattle.decimal.proofs.Text.{text_join, text_one, lines_next, lines_skip}
use Rattle.raising.specs.declared.Raising.{Raising}
use Rattle.raising.specs.Raises.{RaisedBeside, Raises}
use Rattle.raising.proofs.Costs.{raise_raises}
use Rattle.raising.proofs.Writing.{raising_none, one, file_none, raised_length}
use Rattle.report.specs.RaisedLines.{Costs, raised_lines, RaiseRendered}

-- ---- a line more, or none: `was < is`, as the loop tests it

module _ (old new : ℕ → ℕ) (i : ℕ) {was mid : List ℕ} {next : ℕ} (P : PutsLines (raised_lines i old new) i was 0 mid next)
    (a b : ℕ) (e : a ≡ old i) (g : b ≡ new i) where
  line_of : {c : Bool} → ltb a b ≡ c → cond (ltb (old i) (new i)) (raise i (old i) (new i) ∷ []) [] ≡ cond c (raise i a b ∷ []) []
  line_of h = rw (sym e, sym g, h)

  pub lines_grown : {now : List ℕ} {last : ℕ} → a < b → PutsLine (raise i a b) mid next now last
      → PutsLines (raised_lines (i + 1) old new) (i + 1) was 0 now last
  lines_grown h Q = lines_next _ i P (raise i a b) (line_of (is_true (ltb a b) (lt→ltb a b h))) Q

  pub lines_kept : b ≤ a → PutsLines (raised_lines (i + 1) old new) (i + 1) was 0 mid next
  lines_kept h = lines_skip _ i P (line_of (is_false (ltb a b) (λ t. let m = ltb→lt a b t in omega (arith, m, h))))

-- ---- a row's line: its cost grows exactly if it is light

-- the line of one row, from its costs
abbrev line_by : Bool → (i a b : ℕ) → List Line
line_by c i a b = cond c (raise i a b ∷ []) []

least_line : (t : Table) (i : ℕ) → T (light t i) → raised_cost t i ≡ least_cost t i
unfolding raised_cost
least_line t i h = ap (λ (c : Bool). cond c (least_cost t i) (t.cost i)) (is_true (light t i) h)

row_line : (t : Table) → Sound t → (i : ℕ) → i < t.rows
    → line_by (ltb (t.cost i) (raised_cost t i)) i (t.cost i) (raised_cost t i) ≡ line_by (light t i) i (t.cost i) (least_cost t i)
row_line t s i l =
    ⊎_elim
    (λ h.
    ap₂ (λ (c : Bool) (b : ℕ). line_by c i (t.cost i) b)
    (is_true (ltb (t.cost i) (raised_cost t i)) (lt→ltb (t.cost i) (raised_cost t i) (R.more i l h)) ∙ sym (is_true (light t i) h))
    (least_line t i h))
    (λ h.
    let e : raised_cost t i ≡ t.cost i = R.stays i h in
    ap (λ (c : Bool). line_by c i (t.cost i) (raised_cost t i))
    (is_false (ltb (t.cost i) (raised_cost t i)) (λ q. let m = ltb→lt (t.cost i) (raised_cost t i) q in omega (arith, m, e)))
    ∙ ap (λ (c : Bool). line_by c i (t.cost i) (least_cost t i)) (sym (is_false (light t i) h)))
    (decide (light t i))
  where
    R : Raises t
    R = raise_raises t s

-- ---- what is printed

label_low : (v : ℕ) → label_size v ≤ 2
label_low v = go (ℕ_discrete v version_2)
  where
    go : Dec (v ≡ version_2) → label_size v ≤ 2
    go (yes e) = omega (arith, label_two e)
    go (no h) = omega (arith, label_none h)

module _ (f : List ℕ) where
  abbrev t : Table
  t = file_table f

  pub rendered_refused : (r : Refusal) → Answers (before_13 f) (number_of r.reason) r.place → {was now : List ℕ} {size : ℕ}
      → PutsLine (verdict (number_of r.reason) r.place) was 0 now size → RaiseRendered f was now size
  rendered_refused r a F = record {
    lines = verdict (number_of r.reason) r.place ∷ [];
    printed = refused (number_of r.reason) r.place a (not_done r.reason);
    puts = rw (text_one (verdict (number_of r.reason) r.place)) F.0;
    fits = omega (arith, F.1);
  }

  module _ (x : Raising) (R : RaisedBeside f (Ok x)) where
    none : None (before_13 f)
    none = raising_none f x R

    passed : Passed f
    passed = passed_none f (file_none f none)

    held : table_of x.given.columns ≡ t
    held = R.held.table

    pub report_costs : Costs x.given.columns.rows (at x.given.columns.cost) (at x.cost)
    report_costs =
        let rows : x.given.columns.rows ≡ t.rows = ap (λ (u : Table). u.rows) held in
        let S : Sound t = passed.sound in
        record {
          few = omega (arith, rows, S.rows_high);
          was = λ i l.
              let m : i < t.rows = rw rows at l in
              let e : at x.given.columns.cost i ≡ t.cost i = ap (λ (u : Table). u.cost i) held in
              omega (arith, e, (S.row i m).cost_high, (S.row i m).period_high);
          is = λ i l.
              let m : i < t.rows = rw rows at l in
              omega (arith, R.costs.row i m, (raise_raises t S).within i m, (S.row i m).period_high);
        }

    pub report_long : length f ≤ 519
    report_long =
        omega (
          arith,
          passed.size,
          mul-le-mul_left (row_size (file_rings f) (version f)) passed.sound.rows_high,
          last_label {r = file_rings f} (version f) (λ e. omega (arith, e, one f none)),
          label_low (version f),
        )

    -- the raised file stands in the array
    pub report_file : {was now : List ℕ} {m p : ℕ} → length was ≡ 519 → Raised f was now m p → take (length f) now ≡ raised_file f
    unfolding raise_checks None
    report_file {was} e c =
        let room : (length was < length f → ⊥) = λ h. omega (arith, h, e, report_long) in
        let d = call_must (none_join (before_13 f) (short_output (length was < length f) ∷ []) none (room, tt)) c in
        ap (take (length f)) d.2 ∙ lent_take (raised_file f) was (length f) (raised_length f none)

    lines_are : raised_lines x.given.columns.rows (at x.given.columns.cost) (at x.cost) ≡ raise_lines t
    lines_are =
        ap (λ (u : Table). raised_lines u.rows u.cost (at x.cost)) held
        ∙ each_eq t.rows _ _
        (λ i l. ap (λ (b : ℕ). line_by (ltb (t.cost i) b) i (t.cost i) b) (R.costs.row i l) ∙ row_line t passed.sound i l)

    pub rendered_raised : (r : Result Admitted Refusal) → IsVerdict (raised_file f) r → {was mid now : List ℕ} {next size : ℕ}
        → PutsLines (raised_lines x.given.columns.rows (at x.given.columns.cost) (at x.cost))
        x.given.columns.rows was 0 mid next
        → PutsLine (verdict (number r) (place r)) mid next now size → RaiseRendered f was now size
    rendered_raised r J {was} {mid} {now} {next} {size} P Q = record {
      lines = raise_lines t ++ (verdict (number r) (place r) ∷ []);
      printed = raises (number r) (place r) (answered (before_13 f) none) J.answers;
      puts = subst (λ (ls : List ℕ). Puts ls was 0 now size) (sym (text_join (raise_lines t) (verdict (number r) (place r) ∷ [])))
          (puts_more (subst (λ (ls : List Line). Puts (text ls) was 0 mid next) lines_are P.0)
          (rw (text_one (verdict (number r) (place r))) Q.0));
      fits = omega (arith, P.1, Q.1, report_costs.few);
    }

-- ---- only one answer fits

module _ (f : List ℕ) where
  lines_only : (ks ls : List Line) → RaisePrinted f ks → RaisePrinted f ls → ks ≡ ls
  lines_only _ _ (refused m p a h) (refused n q b g) =
      let e = answers_only (before_13 f) m n p q a b in
      ap₂ (λ (x y : ℕ). verdict x y ∷ []) e.0 e.1
  lines_only _ _ (refused m p a h) (raises n q b c) = absurd (h (answers_only (before_13 f) m 0 p 0 a b).0)
  lines_only _ _ (raises n q b c) (refused m p a h) = absurd (h (answers_only (before_13 f) m 0 p 0 a b).0)
  lines_only _ _ (raises m p a c) (raises n q b d) =
      let e = answers_only (verdict_checks (raised_file f)) m n p q c d in
      ap₂ (λ (x y : ℕ). raise_lines (file_table f) ++ (verdict x y ∷ [])) e.0 e.1

  pub raise_rendered_only : (was now then : List ℕ) (m n : ℕ) → RaiseRendered f was now m → RaiseRendered f was then n
      → (now ≡ then) × (m ≡ n)
  raise_rendered_only was now then m n A B =
      let e = lines_only A.lines B.lines A.printed B.printed in (
        A.puts.holds ∙ ap (λ (ls : List Line). sets was 0 (text ls)) e ∙ sym B.puts.holds,
        A.puts.after ∙ ap (λ (ls : List Line). 0 + length (text ls)) e ∙ sym B.puts.after,
      )
