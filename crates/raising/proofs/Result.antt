-- The raised file: it holds the raised table, nothing before 13 is refused of it, and no row is light.
--
--   Of k cs            every check of cs has the number k
use mathlib.Core.Path.{◌≡◌, refl, sym, ap, subst, ◌∙◌, fun_ext}
use mathlib.Core.Logic.{◌⊎◌, inl, inr, ⊎_elim}
use mathlib.Core.Bool.{not}
use mathlib.Core.List.{List, [], ◌∷◌, ◌++◌}
use Prim.Native.Nat.{ℕ, zero, suc, ◌+◌, ◌*◌, ◌≤◌, ◌<◌}
use native.Mathlib.Omega.{arith}
use lib.Dec.{ltb, ltb→lt}
use Rattle.numbers.specs.Lists.{each}
use Rattle.numbers.specs.Codec.{read_low}
use Rattle.numbers.proofs.Truth.{snd, le_or_lt}
use Rattle.rules.specs.Bus.{Table, Labelled, through, pasted}
use Rattle.rules.specs.TableFile.{header_size, last_size, row_size, version, file_rings, file_table, file_labelled, numbers}
use Rattle.rules.specs.Loads.{hyperperiod, shortest, equal_periods, light}
use Rattle.rules.specs.Refusals.{
  Check,
  Answers,
  light_row,
  over_bound,
  file_checks,
  pasted_checks,
  given_checks,
  cut_checks,
  line_checks,
  bound_checks,
  verdict_checks,
}
use Rattle.rules.specs.Raising.{raised, raised_cost, raised_labelled, raised_file, before_13}
use Rattle.rules.proofs.Answers.{None, unjoined, none_of, none_join, none_left, none_right, single_none}
use Rattle.table.specs.Sound.{Sound}
use Rattle.table.specs.Columns.{Whole}
use Rattle.table.proofs.Faults.{passed_none}
use Rattle.decoding.proofs.Decoding.{Blank, blank_past, label_past}
use Rattle.outline.specs.Outlined.{outline_checks}
use Rattle.round_trip.proofs.RoundTrip.{Alike, Fits, last_told, bytes_alike, file_back, written_passes}
use Rattle.raising.specs.Raises.{RaisedVerdict}
use Rattle.raising.proofs.Costs.{heavy_stays, raise_raises}
use Rattle.raising.proofs.Writing.{before_numbered, one, outline_none, file_none, raised_told, raised_passes, raised_back}

-- ---- past the last row nothing is raised

blank_raised : {t : Table} {i : ℕ} → Blank t i → raised_cost t i ≡ 0
unfolding light
blank_raised {t} {i} B =
    heavy_stays t i
    (λ h.
    let z : t.cost i * shortest t < t.period i =
    ltb→lt (t.cost i * shortest t) (t.period i) (snd (not (equal_periods t)) (ltb (t.cost i * shortest t) (t.period i)) h) in
    let e : t.period i ≡ 0 = B.period in
    omega (arith, z, e))
    ∙ B.cost

-- ---- tables that have the same rows, and nothing past them

each_row : {n : ℕ} {a b : ℕ → ℕ} → ((i : ℕ) → i < n → a i ≡ b i) → ((i : ℕ) → n ≤ i → a i ≡ b i) → a ≡ b
each_row {n} h k = fun_ext (λ i. ⊎_elim (k i) (h i) (le_or_lt n i))

same_table : {s t : Labelled} → Alike s t → ((i : ℕ) → t.table.rows ≤ i → Blank s.table i)
    → ((i : ℕ) → t.table.rows ≤ i → Blank t.table i)
    → ((i : ℕ) → t.table.rows ≤ i → s.label i ≡ t.label i) → s ≡ t
same_table {s} {t} q p r l =
    let cost : s.table.cost ≡ t.table.cost = each_row q.cost (λ i m. (p i m).cost ∙ sym (r i m).cost) in
    let period : s.table.period ≡ t.table.period = each_row q.period (λ i m. (p i m).period ∙ sym (r i m).period) in
    let first : s.table.first ≡ t.table.first = each_row q.first (λ i m. (p i m).first ∙ sym (r i m).first) in
    let second : s.table.second ≡ t.table.second = each_row q.second (λ i m. (p i m).second ∙ sym (r i m).second) in
    let way : s.table.way ≡ t.table.way = each_row q.way (λ i m. (p i m).way ∙ sym (r i m).way) in
    let label : s.label ≡ t.label = each_row q.label l in
    λ k. record {
      table = record {
        elements = q.elements k;
        rows = q.rows k;
        rings = q.rings k;
        cost = cost k;
        period = period k;
        first = first k;
        second = second k;
        way = way k;
      };
      label = label k;
    }

-- ---- a list of checks that all have one number

unfoldable Of : ℕ → List Check → Type 0
Of k [] = Unit {0}
Of k (c ∷ cs) = (c.number ≡ k) × Of k cs

of_answers : (k : ℕ) (cs : List Check) (n p : ℕ) → Of k cs → Answers cs n p → (n ≡ 0) ⊎ (n ≡ k)
unfolding Of Answers
of_answers k [] n p o a = inl a.0
of_answers k (c ∷ cs) n p o a = ⊎_elim (λ w. inr (w.1 ∙ o.0)) (λ w. of_answers k cs n p o.1 w.1) a

of_join : (k : ℕ) (cs ds : List Check) → Of k cs → Of k ds → Of k (cs ++ ds)
unfolding Of
of_join k [] ds a b = b
of_join k (c ∷ cs) ds a b = (a.0, of_join k cs ds a.1 b)

of_each : (k n : ℕ) (c : ℕ → Check) → ((i : ℕ) → (c i).number ≡ k) → Of k (each n (λ i. c i ∷ []))
unfolding Of each
of_each k zero c h = tt
of_each k (suc n) c h = of_join k (each n (λ i. c i ∷ [])) (c n ∷ []) (of_each k n c h) (h n, tt)

-- ---- the file

-- costs say nothing of 18, 10 and 11
pasted_stays : (t : Table) → None (pasted_checks t) → None (pasted_checks (raised t))
unfolding pasted_checks pasted
pasted_stays t a = a

line_stays : (t : Table) → None (line_checks t) → None (line_checks (raised t))
unfolding line_checks cut_checks through hyperperiod
line_stays t a = a

-- of 13 and 14 only 14 is left
bounds_answer : (t : Table) → Sound t → (n p : ℕ) → Answers (bound_checks (raised t)) n p → (n ≡ 0) ⊎ (n ≡ 14)
unfolding bound_checks
bounds_answer t s n p a =
    let passes = (raise_raises t s).passes in
    of_answers 14 (each t.rows (λ k. over_bound (raised t) k ∷ [])) n p (of_each 14 t.rows (over_bound (raised t)) (λ k. refl))
    (unjoined (each t.rows (λ i. light_row (raised t) i ∷ [])) (each t.rows (λ k. over_bound (raised t) k ∷ [])) n p
    (single_none (light_row (raised t)) t.rows passes) a)

module _ (f : List ℕ) (none : None (before_13 f)) where
  abbrev given : Labelled
  given = file_labelled f

  abbrev g : Labelled
  g = raised_labelled given

  abbrev v : ℕ
  v = version f

  abbrev r : ℕ
  r = file_rings f

  fits : Fits (last_size r v) g
  unfolding read_low
  fits e i l =
      let p : ℕ = header_size + row_size r v * i + 6 in
      last_told r (read_low (last_size r v) f p) ∙ ap (λ (k : ℕ). read_low k f p) e

  result_none : None (file_checks (raised_file f))
  result_none =
      subst (λ (xs : List ℕ). None (file_checks xs)) (bytes_alike v (raised_back f none))
      (written_passes 1 v g.table.elements g.table.rows (numbers g) (inl refl) (raised_passes f none))

  whole : (xs : List ℕ) → None (file_checks xs) → Whole xs
  whole xs a = let p = passed_none xs a in record { size = p.size; few = p.sound.rows_high }

  result_table : file_labelled (raised_file f) ≡ g
  result_table =
      let back : Alike (file_labelled (raised_file f)) g = file_back v g (inl (one f none)) fits (raised_told f none) in
      let mine : Whole f = whole f (file_none f none) in
      let its : Whole (raised_file f) = whole (raised_file f) result_none in
      same_table back (λ i l. blank_past its (rw back.rows l)) (λ i l. blank_row (blank_past mine l))
      (λ i l. label_past its (rw back.rows l) ∙ sym (label_past mine l))
    where
      blank_row : {i : ℕ} → Blank given.table i → Blank g.table i
      blank_row B = record { cost = blank_raised B; period = B.period; first = B.first; second = B.second; way = B.way }

  result_before : None (outline_checks (raised_file f))
  unfolding given_checks
  result_before =
      let t : Table = given.table in
      let e : file_table (raised_file f) ≡ raised t = ap (λ (u : Labelled). u.table) result_table in
      none_join (given_checks (raised_file f)) (line_checks (file_table (raised_file f)))
      (none_join (file_checks (raised_file f)) (pasted_checks (file_table (raised_file f))) result_none
      (rw e (pasted_stays t (none_right (file_checks f) (pasted_checks t) (none_left (given_checks f) (line_checks t)
      (outline_none f none))))))
      (rw e (line_stays t (none_right (given_checks f) (line_checks t) (outline_none f none))))

  result_answers : (n p : ℕ) → Answers (verdict_checks (raised_file f)) n p → (n ≡ 0) ⊎ (n ≡ 14)
  unfolding verdict_checks
  result_answers n p a =
      let t : Table = given.table in
      let e : file_table (raised_file f) ≡ raised t = ap (λ (u : Labelled). u.table) result_table in
      bounds_answer t (passed_none f (file_none f none)).sound n p
      (rw e at (unjoined (outline_checks (raised_file f)) (bound_checks (file_table (raised_file f))) n p result_before a))

pub raised_verdict : RaisedVerdict
raised_verdict f a = let none = none_of (before_13 f) 0 (before_numbered f) a in (result_table f none, result_answers f none)
