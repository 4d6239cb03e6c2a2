-- The verdict's answer by tests that compute, from the file and the list of its table's overlap sets.
--
--   Tests cs           a test for each check of cs
--   answer ts          number and place of the first check whose test holds, or 0 and 0
--   verdict_tests      the tests of the verdict's checks
--   relayed_tests      those of the verdict with a relay (#113)
use mathlib.Core.Path.{◌≡◌, refl, subst}
use mathlib.Core.Logic.{inl, inr, ◌≢◌}
use mathlib.Core.List.{List, [], ◌∷◌, ◌++◌}
use mathlib.Core.Bool.{Bool, true, false, cond}
use Prim.Native.Nat.{ℕ, zero, suc, ◌+◌, ◌-◌, ◌*◌, ◌≤◌, ◌<◌}
use native.Mathlib.Omega.{arith}
use lib.Dec.{T, ltb, ltb→lt, lit<}
use lib.ListN.{length}
use Rattle.numbers.specs.Word.{bit}
use Rattle.numbers.specs.Lists.{at, each}
use Rattle.rules.specs.Bounds.{max_elements, max_rows, max_rings, max_slots}
use Rattle.rules.specs.Bus.{Table, Labelled, through, pasted}
use Rattle.rules.specs.TableFile.{table_mark, board_mark, version_1, version_2, header_size, row_size, mark, version}
use Rattle.rules.specs.TableFile.{file_rings, file_table}
use Rattle.rules.specs.Line.{Sets}
use Rattle.rules.specs.Loads.{hyperperiod, light, over}
use Rattle.rules.specs.Parties.{ours, theirs, own, is_over_limit}
use Rattle.rules.specs.Relay.{split}
use Rattle.rules.specs.Refusals.{
  Check,
  Answers,
  unknown_mark,
  wrong_version,
  no_cut,
  long_hyperperiod,
  over_bound,
  row_checks,
  header_checks,
  file_checks,
  pasted_checks,
  given_checks,
  cut_checks,
  line_checks,
  bound_checks,
  segment_checks,
  limit_checks,
  verdict_checks,
  relay_checks,
  split_checks,
  relayed_line_checks,
  relayed_checks,
}
use Rattle.numbers.proofs.Tests.{Test, holds_test, lt_test, le_test, eq_test, list_test}
use Rattle.numbers.proofs.Tests.{as_test, not_test, and_test, or_test, every_test, any_test}
use Rattle.rules.proofs.Answers.{stopped}
use Rattle.rules.proofs.Sets.{sets_only, sets_test, sets_by}

infixr 10 ◌then◌
pub data Tests : List Check → Type 1 where
  none : Tests []
  ◌then◌ : {c : Check} {cs : List Check} → Test c.applies → Tests cs → Tests (c ∷ cs)

abbrev pub answer : {cs : List Check} → Tests cs → ℕ × ℕ
answer none = (0, 0)
answer (◌then◌ {c} {cs} t ts) = let later = answer ts in cond t.test (c.number, c.place) later

pub answer_is : {cs : List Check} (ts : Tests cs) → Answers cs (answer ts).0 (answer ts).1
unfolding Answers
answer_is none = (refl, refl)
answer_is (◌then◌ {c} {cs} t ts) = go t.test t.is t.of (answer ts) (answer_is ts)
  where
    go : (b : Bool) → (T b → c.applies) → (c.applies → T b) → (r : ℕ × ℕ) → Answers cs r.0 r.1
        → Answers (c ∷ cs) (cond b (c.number, c.place) r).0 (cond b (c.number, c.place) r).1
    go true is of r a = inl (is tt, refl, refl)
    go false is of r a = inr (of, a)

-- ---- lists of checks that are joined

abbrev pub tests_join : {cs ds : List Check} → Tests cs → Tests ds → Tests (cs ++ ds)
tests_join none us = us
tests_join (t then ts) us = t then tests_join ts us

abbrev pub tests_each : (n : ℕ) {f : ℕ → List Check} → ((i : ℕ) → Tests (f i)) → Tests (each n f)
unfolding each
tests_each zero ts = none
tests_each (suc n) ts = tests_join (tests_each n ts) (ts n)

-- ---- the checks

-- x is one of a, a + 1, .., b
abbrev pub in_test : (x a b : ℕ) → Test ((a ≤ x) × (x ≤ b))
in_test x a b = and_test (le_test a x) (le_test x b)

abbrev pub mark_test : (m : List ℕ) → Test (unknown_mark m).applies
mark_test m = and_test (not_test (list_test m table_mark)) (not_test (list_test m board_mark))

abbrev pub version_test : (r v : ℕ) → Test (wrong_version r v).applies
version_test r v = and_test (not_test (eq_test v version_1)) (or_test (not_test (eq_test v version_2)) (eq_test r max_rings))

abbrev pub header_tests : (f : List ℕ) → Tests (header_checks f)
unfolding header_checks
header_tests f =
    lt_test (length f) header_size
    then mark_test (mark f)
    then version_test (file_rings f) (version f)
    then not_test (in_test (file_table f).elements 2 max_elements)
    then not_test (in_test (file_table f).rows 1 max_rows)
    then not_test (eq_test (length f) (header_size + row_size (file_rings f) (version f) * (file_table f).rows))
    then none

module _ (t : Table) where
  abbrev pub row_tests : Tests (row_checks t)
  unfolding row_checks
  row_tests =
      tests_each t.rows (λ i.
      or_test (not_test (in_test (t.first i) 1 t.elements))
      (or_test (not_test (in_test (t.second i) 1 t.elements)) (eq_test (t.first i) (t.second i)))
      then not_test (in_test (t.period i) 1 max_slots)
      then not_test (in_test (t.cost i) 1 (t.period i))
      then le_test t.rings (t.way i)
      then none)

  abbrev pub pasted_tests : Tests (pasted_checks t)
  unfolding pasted_checks
  pasted_tests = tests_each t.rows (λ i. holds_test (pasted t i) then none)

  -- elements are numbered from 1
  abbrev pub no_cut_test : (d : ℕ) → Test (no_cut t d).applies
  no_cut_test d =
      as_test
      (every_test t.elements (λ e. any_test t.rows (λ i. and_test (eq_test (t.way i) d) (holds_test (through t i (suc e))))))
      (λ h e b. let q : suc (e - 1) ≡ e = omega arith in
      subst (λ (e : ℕ). (i : ℕ) × (i < t.rows) × ((t.way i ≡ d) × T (through t i e))) q (h (e - 1) (omega arith)))
      (λ h e l. h (suc e) (omega arith, l))

  abbrev pub cut_tests : Tests (cut_checks t)
  unfolding cut_checks
  cut_tests = tests_each t.rings (λ d. no_cut_test d then none)

  abbrev pub line_tests : Tests (line_checks t)
  unfolding line_checks
  line_tests = tests_join cut_tests (lt_test max_slots (hyperperiod t) then none)

  module _ (pos : 0 < t.rows) (ws : List ℕ) (A : Sets t ws) where
    abbrev pub over_test : (k : ℕ) → Test (over_bound t k).applies
    over_test k =
        as_test (and_test (lt_test k (length ws)) (holds_test (over t (bit (at ws k)))))
        (λ h. (ws, A, h.0, h.1))
        (λ h. let e : h.0 ≡ ws = sets_only pos h.1 A in
        subst (λ (vs : List ℕ). (k < length vs) × T (over t (bit (at vs k)))) e (h.2, h.3))

    abbrev pub bound_tests : Tests (bound_checks t)
    unfolding bound_checks
    bound_tests =
        tests_join (tests_each t.rows (λ i. holds_test (light t i) then none)) (tests_each t.rows (λ k. over_test k then none))

-- 21 and 22
abbrev pub segment_tests : (number : ℕ) (t : Table) (limit : ℕ) → Tests (segment_checks number t limit)
unfolding segment_checks
segment_tests number t limit = tests_each t.elements (λ s. holds_test (is_over_limit t limit (suc s)) then none)

abbrev pub limit_tests : (t : Labelled) (our their : ℕ) → Tests (limit_checks t our their)
unfolding limit_checks
limit_tests t our their = tests_join (segment_tests 21 (own ours t) our) (segment_tests 22 (own theirs t) their)

abbrev pub file_tests : (f : List ℕ) → Tests (file_checks f)
unfolding file_checks
file_tests f = tests_join (header_tests f) (row_tests (file_table f))

abbrev pub given_tests : (f : List ℕ) → Tests (given_checks f)
unfolding given_checks
given_tests f = tests_join (file_tests f) (pasted_tests (file_table f))

abbrev pub verdict_tests : (f ws : List ℕ) → 0 < (file_table f).rows → Sets (file_table f) ws → Tests (verdict_checks f)
unfolding verdict_checks
verdict_tests f ws pos A = tests_join (tests_join (given_tests f) (line_tests (file_table f))) (bound_tests (file_table f) pos ws A)

-- The verdict by tests alone: ws is the list of the table's overlap sets, and the first check whose test holds gives number n and place p.
pub verdict_by : (f ws : List ℕ) (n p : ℕ) (some : T (ltb 0 (file_table f).rows)) (listed : T (sets_test (file_table f) ws).test)
    → answer (verdict_tests f ws (lit< some) (sets_by (file_table f) ws listed)) ≡ (n, p) → Answers (verdict_checks f) n p
verdict_by f ws n p some listed e =
    subst (λ (r : ℕ × ℕ). Answers (verdict_checks f) r.0 r.1) e
    (answer_is (verdict_tests f ws (lit< some) (sets_by (file_table f) ws listed)))

-- ---- with a relay

abbrev pub split_tests : (f : List ℕ) (r : ℕ) → Tests (split_checks f r)
unfolding split_checks relay_checks
split_tests f r =
    tests_join (lt_test (length f) header_size then not_test (list_test (mark f) table_mark) then given_tests f)
    (not_test (in_test r 1 (file_table f).elements) then lt_test max_rows (split (file_table f) r).rows then none)

module _ (f : List ℕ) (r : ℕ) where
  abbrev t : Table
  t = split (file_table f) r

  abbrev pub relayed_tests : (ws : List ℕ) → 0 < t.rows → Sets t ws → Tests (relayed_checks f r)
  unfolding relayed_checks relayed_line_checks
  relayed_tests ws pos A =
      tests_join (tests_join (split_tests f r) (lt_test max_slots (hyperperiod t) then none)) (bound_tests t pos ws A)

  pub relayed_by : (ws : List ℕ) (n p : ℕ) (some : T (ltb 0 t.rows)) (listed : T (sets_test t ws).test)
      → answer (relayed_tests ws (lit< some) (sets_by t ws listed)) ≡ (n, p) → Answers (relayed_checks f r) n p
  relayed_by ws n p some listed e =
      subst (λ (q : ℕ × ℕ). Answers (relayed_checks f r) q.0 q.1) e (answer_is (relayed_tests ws (lit< some) (sets_by t ws listed)))

  -- a refusal of the table as it is given, or of the relay
  pub relayed_stops : (n p : ℕ) → T (ltb 0 n) → answer (split_tests f r) ≡ (n, p) → Answers (relayed_checks f r) n p
  unfolding relayed_checks relayed_line_checks
  relayed_stops n p some e =
      let h : n ≢ 0 = λ z. let l = ltb→lt 0 n some in let q : ⊥ = omega (arith, z, l) in q in
      let a : Answers (split_checks f r) n p =
      subst (λ (q : ℕ × ℕ). Answers (split_checks f r) q.0 q.1) e (answer_is (split_tests f r)) in
      stopped (split_checks f r ++ (long_hyperperiod t ∷ [])) (bound_checks t) n p h
      (stopped (split_checks f r) (long_hyperperiod t ∷ []) n p h a)
