-- What the reader and the writer of texts promise together, as statements. They are proved in proofs/RoundTrip.
--
--   Small xs             every number of xs is one of 16 bits
--   WrittenThenRead    the text of rows that the writer takes, the reader reads as these rows
--   ReadThenFiled      rows that the reader read from a text, the writer of files takes: the text gives a file
--   FileThenSaid       rows that the reader of files read, the writer of texts takes, and the text says the file's table
use Rattle.std.specs.Prelude.{◌≡◌, List, ℕ, ◌+◌, ◌*◌, ◌≤◌, length, take}
use Rattle.numbers.specs.Lists.{at}
use Rattle.rules.specs.TableFile.{header_size, row_size, row_numbers, rings_of, version, file_labelled, bytes}
use Rattle.rules.specs.Calls.{Read, Written}
use Rattle.grammar.specs.TableText.{text_labelled, text_version, max_number, table_text, TextRead, TextWritten}

abbrev pub Small : List ℕ → Type 0
Small xs = (i : ℕ) → at xs i ≤ max_number

abbrev pub WrittenThenRead : Type 0
WrittenThenRead =
    (m : List ℕ) (v M n : ℕ) (xs was now : List ℕ) (p size : ℕ) (was' now' : List ℕ) (number place : ℕ) (m' : List ℕ) (v' M' n' : ℕ)
    → Small xs → TextWritten m v M n xs was now 0 p size → row_numbers * n ≤ length was'
    → TextRead (take size now) was' now' number place m' v' M' n'
    → (number ≡ 0) × (place ≡ 0) × (m' ≡ m) × (v' ≡ v) × (M' ≡ M) × (n' ≡ n) × (take (row_numbers * n) now' ≡ xs)

abbrev pub ReadThenFiled : Type 0
ReadThenFiled =
    (t was now : List ℕ) (p : ℕ) (m : List ℕ) (v M n : ℕ) (was' now' : List ℕ) (number place : ℕ) → TextRead t was now 0 p m v M n
    → header_size + row_size (rings_of m) v * n ≤ length was' → Written m v M n (take (row_numbers * n) now) was' now' number place
    → (number ≡ 0) × (place ≡ 0) × (take (header_size + row_size (rings_of m) v * n) now' ≡ bytes (text_version t) (text_labelled t))

abbrev pub FileThenSaid : Type 0
FileThenSaid =
    (f was now : List ℕ) (p : ℕ) (m : List ℕ) (v M n : ℕ) (was' now' : List ℕ) (number place size : ℕ) → Read f was now 0 p m v M n
    → length (table_text (version f) (file_labelled f)) ≤ length was'
    → TextWritten m v M n (take (row_numbers * n) now) was' now' number place size
    → (number ≡ 0) × (place ≡ 0) × (size ≡ length (table_text (version f) (file_labelled f)))
    × (take size now' ≡ table_text (version f) (file_labelled f))
