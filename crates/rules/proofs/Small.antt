-- Every answer of the verdict and of the whole plan, also with limits or a relay, and of the writer has a small number and a small place,
-- so that both fit one number for C.
use mathlib.Core.Logic.{⊎_elim}
use mathlib.Core.List.{List, [], ◌∷◌, ◌++◌, append_assoc}
use Prim.Native.Nat.{ℕ, suc, ◌*◌, ◌-◌, ◌≤◌, ◌<◌}
use native.Mathlib.Omega.{arith}
use lib.ListN.{length}
use lib.Dec.{lit≤}
use Rattle.numbers.proofs.Truth.{le_or_lt}
use Rattle.numbers.specs.Lists.{each}
use Rattle.rules.specs.Bounds.{max_elements, max_rows, max_rings}
use Rattle.rules.specs.Bus.{Table, Labelled}
use Rattle.rules.specs.TableFile.{row_numbers, rings_of, file_table, file_labelled, memory_with, memory_labelled_with}
use Rattle.rules.specs.Loads.{hyperperiod}
use Rattle.rules.specs.Parties.{ours, theirs, own}
use Rattle.rules.specs.Relay.{split}
use Rattle.rules.specs.Refusals.{Check, Answers, last_number, faults, pasted_row, light_row, over_bound, short_output}
use Rattle.rules.specs.Refusals.{short_file, wrong_mark, no_cut, long_hyperperiod, cut_checks}
use Rattle.rules.specs.Refusals.{over_limit, wrong_limit, segment_checks, limit_checks, limited_checks}
use Rattle.rules.specs.Refusals.{header_checks, row_checks, file_checks, pasted_checks, given_checks, line_checks, bound_checks}
use Rattle.rules.specs.Refusals.{relay_checks, split_checks, relayed_line_checks, relayed_checks}
use Rattle.rules.specs.Refusals.{no_row, shared_checks, verdict_checks, plan_checks}
use Rattle.rules.specs.Refusals.{lost_label, size_checks, memory_checks, label_checks, version_checks, writer_checks}
use Rattle.rules.proofs.Rings.{rings_few}
use Rattle.rules.proofs.Answers.{None, Fit, none_right, answers_split, answers_fit, fit_join, fit_each}

-- places are rows, or sets, of which there are no more than rows, or segments, of which there are fewer
abbrev pub last_place : ℕ
last_place = max_rows - 1

-- A header that passes has no more elements and rows than a table may have, so a place past it is one of theirs.
small_by : (f : List ℕ) (cs : List Check) (n p : ℕ)
    → ((file_table f).elements ≤ max_elements → (file_table f).rows ≤ max_rows → Fit last_number last_place cs)
    → Answers (header_checks f ++ cs) n p → (n ≤ last_number) × (p ≤ last_place)
unfolding header_checks None Fit
small_by f cs n p fit r =
    ⊎_elim
    (λ a. answers_fit last_number last_place (header_checks f) n p header a)
    (λ a.
    answers_fit last_number last_place cs n p
    (fit (most 2 max_elements (file_table f).elements a.0.1.1.1.0) (most 1 max_rows (file_table f).rows a.0.1.1.1.1.0))
    a.1)
    (answers_split (header_checks f) cs n p r)
  where
    header : Fit last_number last_place (header_checks f)
    header =
        (lit≤ tt, lit≤ tt, (lit≤ tt, lit≤ tt, (lit≤ tt, lit≤ tt, (lit≤ tt, lit≤ tt, (lit≤ tt, lit≤ tt, (lit≤ tt, lit≤ tt, tt))))))

    most : (a b x : ℕ) → (¬ ((a ≤ x) × (x ≤ b)) → ⊥) → x ≤ b
    most a b x h = ⊎_elim (λ l. l) (λ l. absurd (h (λ w. let z : ⊥ = omega (arith, l, w.1) in z))) (le_or_lt x b)

-- the checks past the header, with ds past those of the line
abbrev past_header : Table → List Check → List Check
past_header t ds = row_checks t ++ (pasted_checks t ++ (line_checks t ++ ds))

rows_fit : (t : Table) → t.rows ≤ max_rows → Fit last_number last_place (row_checks t)
unfolding row_checks Fit
rows_fit t few =
    fit_each last_number last_place (faults t) t.rows
    (λ i l. (lit≤ tt, omega arith, (lit≤ tt, omega arith, (lit≤ tt, omega arith, (lit≤ tt, omega arith, tt)))))

-- the writer's, of no more rows than a table may have
pub writer_fit : (m : List ℕ) (v M n : ℕ) (xs : List ℕ) (room : ℕ) → n ≤ max_rows
    → Fit last_number last_place (writer_checks m v M n xs room)
unfolding writer_checks version_checks memory_checks label_checks Fit
writer_fit m v M n xs room few =
    let r = rings_of m in
    let t = memory_with r M n xs in
    let s = memory_labelled_with r M n xs in
    let sizes = size_checks t (length xs) (row_numbers * n) in
    let memory : Fit last_number last_place (memory_checks r M n xs) =
    fit_join last_number last_place sizes (row_checks t) (lit≤ tt, lit≤ tt, (lit≤ tt, lit≤ tt, (lit≤ tt, lit≤ tt, tt))) (rows_fit t few) in
    let labels = fit_each last_number last_place (λ i. lost_label v s i ∷ []) n (λ i l. (lit≤ tt, omega arith, tt)) in (
      lit≤ tt,
      lit≤ tt,
      fit_join last_number last_place (version_checks r v M n xs) _
          (lit≤ tt, lit≤ tt, fit_join last_number last_place (memory_checks r M n xs) (label_checks v s) memory labels)
          (lit≤ tt, lit≤ tt, tt),
    )

pasted_fit : (t : Table) → t.rows ≤ max_rows → Fit last_number last_place (pasted_checks t)
unfolding pasted_checks Fit
pasted_fit t few = fit_each last_number last_place (λ i. pasted_row t i ∷ []) t.rows (λ i l. (lit≤ tt, omega arith, tt))

table_fit : (t : Table) (ds : List Check) → t.rows ≤ max_rows → t.rings ≤ max_rings → Fit last_number last_place ds
    → Fit last_number last_place (past_header t ds)
unfolding cut_checks line_checks Fit
table_fit t ds few two fit =
    let cuts = fit_each last_number last_place (λ d. no_cut t d ∷ []) t.rings (λ d l. (lit≤ tt, omega arith, tt)) in
    let long = long_hyperperiod t ∷ [] in
    let line = fit_join last_number last_place (cut_checks t) long cuts (lit≤ tt, lit≤ tt, tt) in
    fit_join last_number last_place (row_checks t) (pasted_checks t ++ (line_checks t ++ ds)) (rows_fit t few)
    (fit_join last_number last_place (pasted_checks t) (line_checks t ++ ds) (pasted_fit t few)
    (fit_join last_number last_place (line_checks t) ds line fit))

bound_fit : (t : Table) → t.rows ≤ max_rows → Fit last_number last_place (bound_checks t)
unfolding bound_checks Fit
bound_fit t few =
    let light = fit_each last_number last_place (λ i. light_row t i ∷ []) t.rows (λ i l. (lit≤ tt, omega arith, tt)) in
    let over = fit_each last_number last_place (λ k. over_bound t k ∷ []) t.rows (λ k l. (lit≤ tt, omega arith, tt)) in
    fit_join last_number last_place (each t.rows (λ i. light_row t i ∷ [])) (each t.rows (λ k. over_bound t k ∷ [])) light over

pub verdict_small : (f : List ℕ) (n p : ℕ) → Answers (verdict_checks f) n p → (n ≤ last_number) × (p ≤ last_place)
unfolding verdict_checks given_checks file_checks
verdict_small f n p r =
    let t = file_table f in
    small_by f (past_header t (bound_checks t)) n p (λ low few. table_fit t (bound_checks t) few (rings_few f) (bound_fit t few))
    (rw (append_assoc, append_assoc, append_assoc) at r)

-- ---- with limits

-- a party's own table has as many elements as the table
segments_fit : (number : ℕ) (t : Table) (limit : ℕ) → number ≤ last_number → t.elements ≤ max_elements
    → Fit last_number last_place (segment_checks number t limit)
unfolding segment_checks Fit
segments_fit number t limit s low =
    fit_each last_number last_place (λ s. over_limit number t limit (suc s) ∷ []) t.elements (λ i l. (s, omega arith, tt))

limits_fit : (t : Labelled) (our their : ℕ) → t.table.elements ≤ max_elements → Fit last_number last_place (limit_checks t our their)
unfolding limit_checks own
limits_fit t our their low =
    fit_join last_number last_place (segment_checks 21 (own ours t) our) (segment_checks 22 (own theirs t) their)
    (segments_fit 21 (own ours t) our (lit≤ tt) low) (segments_fit 22 (own theirs t) their (lit≤ tt) low)

pub limited_small : (f : List ℕ) (our their n p : ℕ) → Answers (limited_checks f our their) n p → (n ≤ last_number) × (p ≤ last_place)
unfolding limited_checks given_checks file_checks Fit
limited_small f our their n p r =
    let t = file_table f in
    let limits = limit_checks (file_labelled f) our their in
    let ds = limits ++ bound_checks t in
    let front = wrong_limit our their ∷ short_file f ∷ wrong_mark f ∷ [] in
    ⊎_elim
    (λ a. answers_fit last_number last_place front n p (lit≤ tt, lit≤ tt, (lit≤ tt, lit≤ tt, (lit≤ tt, lit≤ tt, tt))) a)
    (λ a.
    small_by f (past_header t ds) n p
    (λ low few.
    table_fit t ds few (rings_few f)
    (fit_join last_number last_place limits (bound_checks t) (limits_fit (file_labelled f) our their low) (bound_fit t few)))
    (rw (append_assoc, append_assoc) at a.1))
    (answers_split front (given_checks f ++ (line_checks t ++ ds)) n p r)

-- ---- with a relay

module _ (f : List ℕ) (r : ℕ) where
  abbrev given : Table
  given = file_table f

  relay_fit : Fit last_number last_place (relay_checks given r)
  unfolding relay_checks Fit
  relay_fit = (lit≤ tt, lit≤ tt, (lit≤ tt, lit≤ tt, tt))

  split_small : (n p : ℕ) → Answers (split_checks f r) n p → (n ≤ last_number) × (p ≤ last_place)
  unfolding split_checks given_checks file_checks Fit
  split_small n p a =
      let front = short_file f ∷ wrong_mark f ∷ [] in
      let past = pasted_checks given ++ relay_checks given r in
      ⊎_elim
      (λ b. answers_fit last_number last_place front n p (lit≤ tt, lit≤ tt, (lit≤ tt, lit≤ tt, tt)) b)
      (λ b.
      small_by f (row_checks given ++ past) n p
      (λ low few.
      fit_join last_number last_place (row_checks given) past (rows_fit given few)
      (fit_join last_number last_place (pasted_checks given) (relay_checks given r) (pasted_fit given few) relay_fit))
      (rw (append_assoc, append_assoc) at b.1))
      (answers_split front (given_checks f ++ relay_checks given r) n p a)

  -- past 28 the split table has no more rows than a table may have
  few_split : None (split_checks f r) → (split given r).rows ≤ max_rows
  unfolding split_checks relay_checks None
  few_split none =
      let few = (none_right (short_file f ∷ wrong_mark f ∷ given_checks f) (relay_checks given r) none).1.0 in
      omega (arith, few)

  pub relayed_small : (n p : ℕ) → Answers (relayed_checks f r) n p → (n ≤ last_number) × (p ≤ last_place)
  unfolding relayed_checks relayed_line_checks Fit
  relayed_small n p a =
      let t = split given r in
      let past = long_hyperperiod t ∷ bound_checks t in
      ⊎_elim (split_small n p)
      (λ b. answers_fit last_number last_place past n p (lit≤ tt, lit≤ tt, bound_fit t (few_split b.0)) b.1)
      (answers_split (split_checks f r) past n p (rw append_assoc at a))

-- ---- of two rows, and of plans

-- so has what is answered of two rows
pub shared_small : (f : List ℕ) (i j n p : ℕ) → Answers (shared_checks f i j) n p → (n ≤ last_number) × (p ≤ last_place)
unfolding shared_checks file_checks row_checks Fit
shared_small f i j n p r = small_by f (row_checks t ++ rest) n p fit (rw append_assoc at r)
  where
    t : Table
    t = file_table f

    rest : List Check
    rest = no_row t 0 i ∷ no_row t 1 j ∷ []

    fit : t.elements ≤ max_elements → t.rows ≤ max_rows → Fit last_number last_place (row_checks t ++ rest)
    fit low few =
        fit_join last_number last_place (row_checks t) rest (rows_fit t few) (lit≤ tt, lit≤ tt, (lit≤ tt, lit≤ tt, tt))

abbrev room_check : Table → ℕ → List Check
room_check t room = short_output (room < hyperperiod t) ∷ []

-- a whole plan's answer is, where that of the verdict before it is
pub plan_small : (cs : List Check) (t : Table) (room n p : ℕ) → (Answers cs n p → (n ≤ last_number) × (p ≤ last_place))
    → Answers (plan_checks cs t room) n p → (n ≤ last_number) × (p ≤ last_place)
unfolding plan_checks Fit
plan_small cs t room n p small r =
    ⊎_elim small
    (λ a. answers_fit last_number last_place (room_check t room) n p (lit≤ tt, lit≤ tt, tt) a.1)
    (answers_split cs (room_check t room) n p r)
