-- The text of a file's table is short.
use Prim.Native.Nat.{ℕ, ◌+◌, ◌*◌, ◌≤◌}
use mathlib.Core.List.{List}
use native.Mathlib.Omega.{arith}
use lib.ListN.{length}
use Rattle.numbers.specs.Codec.{read_low}
use Rattle.numbers.proofs.Codec.{low_two}
use Rattle.rules.specs.TableFile.{header_size, label_size, last_size, row_with, version, file_rings}
use Rattle.rules.specs.TableFile.{file_labelled}
use Rattle.rules.specs.Refusals.{header_checks, file_checks}
use Rattle.rules.proofs.Answers.{None, none_left}
use Rattle.table.proofs.Faults.{Known, header_split, passed_none}
use Rattle.round_trip.proofs.RoundTrip.{Bytes, OneOrTwo, last_told, marked_own, rings_front}
use Rattle.grammar.specs.TableText.{max_number, table_text}
use Rattle.grammar.specs.Reports.{longest_text}
use Rattle.text_trip.proofs.Passing.{of_kind, text_short}

-- a row's last number has at most two bytes
low_small : (f : List ℕ) (p : ℕ) {r v : ℕ} → Bytes f → OneOrTwo r → Known r v → read_low (last_size r v) f p ≤ max_number
unfolding last_size label_size read_low
low_small f p b o k =
    of_kind (λ r v. read_low (last_size r v) f p ≤ max_number) (omega arith) (omega (arith, low_two f p, b p, b (p + 1)))
    (omega (arith, b p)) o k

pub file_short : (f : List ℕ) → Bytes f → None (file_checks f) → length (table_text (version f) (file_labelled f)) ≤ longest_text
unfolding file_checks
file_short f b a =
    let h = header_split f (none_left (header_checks f) _ a) in
    let k : ℕ = last_size (file_rings f) (version f) in
    let o : OneOrTwo (file_rings f) = rw (rings_front f) at (marked_own h.1).0 in
    text_short (version f) (file_labelled f) o h.2 (passed_none f a).sound
    (λ i l.
    let p : ℕ = header_size + row_with k * i + 6 in
    omega (arith, last_told (file_rings f) (read_low k f p), low_small f p b o h.2))
