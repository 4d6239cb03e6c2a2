-- Lists for each element: their checks are decided, and what `maker` and `lists` prove of them put together.
use mathlib.Core.List.{List, append_assoc}
use Prim.Native.Nat.{ℕ, zero, suc, ◌+◌, ◌-◌, ◌*◌, ◌^◌, ◌≤◌, ◌<◌}
use native.Mathlib.Omega.{arith}
use lib.Dec.{T}
use lib.ListN.{length}
use native.Mathlib.Nat.{pow-suc}
use Rattle.numbers.specs.Word.{bit}
use Rattle.numbers.specs.Lists.{at}
use Rattle.numbers.proofs.Word.{bit_lt}
use Rattle.numbers.proofs.Tests.{Test, lt_test, le_test, eq_test, list_test, holds_test, as_test, not_test, and_test, or_test, any_test}
use Rattle.rules.specs.Bounds.{max_elements, max_rows, max_slots}
use Rattle.rules.specs.Bus.{Table, overlap}
use Rattle.rules.specs.TableFile.{mark, version, file_table}
use Rattle.rules.specs.Loads.{hyperperiod}
use Rattle.rules.specs.ElementList.{
  ElementList,
  list_mark,
  list_version,
  list_header,
  entry_size,
  entry_numbers,
  file_list,
  memory_list,
  BadWord,
}
use Rattle.rules.specs.Refusals.{wrong_entry, verdict_checks, maker_checks, entry_checks}
use Rattle.rules.specs.Refusals.{list_file_checks, list_reader_checks, list_memory_checks, list_writer_checks}
use Rattle.rules.proofs.Verdict.{Tests, none, ◌then◌, tests_join, tests_each, in_test}
use Rattle.rules.specs.Calls.{one_ring_ask}
use Rattle.decoding.proofs.OneRing.{one_numbered}
use Rattle.verdict.proofs.Bound.{verdict_numbered}
use Rattle.lists.proofs.RoundTrip.{read_then_written, written_then_read}
use Rattle.maker.proofs.Promises.{made_exactly, made_few, first_words, all_twice, made_passes}
use Rattle.demands.specs.Demands.{Answered}
use Rattle.demands.specs.Lists.{ElementLists}
use Rattle.demands.proofs.Answered.{by_tests, by_lists, one_ring_answered, judged_answered}

-- ---- bad words

-- a word has no bit past itself
below_power : (w : ℕ) → w < 2 ^ w
below_power zero = omega arith
below_power (suc w) = omega (arith, below_power w, pow-suc 2 w)

module _ (t : Table) (w : ℕ) where
  past_test : Test ((i : ℕ) × (t.rows ≤ i) × T (bit w i))
  past_test =
      as_test (any_test w (λ i. and_test (le_test t.rows i) (holds_test (bit w i))))
      (λ q. (q.0, q.2.0, q.2.1)) (λ q. (q.0, bit_lt w w q.0 (below_power w) q.2, (q.1, q.2)))

  pair_test : Test ((i : ℕ) × (j : ℕ) × (i < j) × (j < t.rows) × T (bit w i) × T (bit w j) × T (overlap t i j))
  pair_test =
      as_test
      (any_test t.rows (λ j. any_test j (λ i. and_test (holds_test (bit w i))
      (and_test (holds_test (bit w j)) (holds_test (overlap t i j))))))
      (λ q. (q.2.0, q.0, q.2.1, q.1, q.2.2.0, q.2.2.1.0, q.2.2.1.1))
      (λ q. (q.1, q.3, (q.0, q.2, (q.4, (q.5, q.6)))))

  bad_test : Test (BadWord t w)
  bad_test = or_test past_test pair_test

made_answered : (f plan : List ℕ) (e room wants : ℕ) → Answered (maker_checks (one_ring_ask f).checks (file_table f) plan e room wants)
unfolding maker_checks
made_answered f plan e room wants =
    let t = file_table f in
    rw (append_assoc, append_assoc)
    (by_lists (one_ring_ask f).checks _ (one_numbered f (verdict_checks f) (verdict_numbered f))
    (one_ring_answered f (verdict_checks f) (judged_answered f))
    (λ N.
    by_tests (not_test (in_test e 1 t.elements)
    then tests_join (tests_each (hyperperiod t) (λ s. bad_test t (at plan s) then none))
    (or_test (lt_test (length plan) (hyperperiod t)) (lt_test room wants) then none))))

-- ---- entries

entry_tests : (l : ElementList) → Tests (entry_checks l)
unfolding entry_checks
entry_tests l =
    or_test (not_test (in_test l.element 1 max_elements)) (not_test (in_test l.hyper 1 max_slots))
    then tests_each l.entries (λ k. wrong_test k then none)
  where
    wrong_test : (k : ℕ) → Test (wrong_entry l k).applies
    wrong_test k =
        let x = l.entry (k - 1) in
        let y = l.entry k in
        or_test (le_test l.hyper y.slot) (or_test (le_test max_rows y.row) (or_test (lt_test 1 y.way)
        (not_test (or_test (eq_test k 0) (or_test (lt_test x.slot y.slot)
        (and_test (eq_test x.slot y.slot) (lt_test x.way y.way)))))))

read_answered : (f : List ℕ) (room : ℕ) → Answered (list_reader_checks f room)
unfolding list_reader_checks list_file_checks
read_answered f room =
    by_tests (tests_join (
    lt_test (length f) list_header
    then not_test (list_test (mark f) list_mark)
    then not_test (eq_test (version f) list_version)
    then not_test (eq_test _ 0)
    then entry_tests (file_list f)) (lt_test room (entry_numbers * (file_list f).entries) then none))

written_answered : (e h : ℕ) (xs : List ℕ) (room : ℕ) → Answered (list_writer_checks e h xs room)
unfolding list_writer_checks list_memory_checks
written_answered e h xs room =
    by_tests (tests_join (not_test (eq_test _ 0) then entry_tests (memory_list e h xs))
    (lt_test room (list_header + entry_size * (memory_list e h xs).entries) then none))

-- ---- all of it

pub element_lists : ElementLists
element_lists = record {
  made = made_answered;
  read = read_answered;
  written = written_answered;
  make_refused = λ f plan e form was now n p h k M z. M.refused z;
  read_refused = λ f was now n p e h k R z. R.refused z;
  write_refused = λ e h xs was now n p W z. W.refused z;
  exactly = made_exactly;
  few = made_few;
  first_words = first_words;
  twice = all_twice;
  passes = made_passes;
  read_then_written = read_then_written;
  written_then_read = written_then_read;
}
