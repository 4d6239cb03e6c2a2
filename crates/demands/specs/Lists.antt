-- Document 02, #101: lists for each element. The file holds statements only; `proofs/Lists.antt` proves them.
--
--   ElementLists      demands 1 and 2 of the maker, the reader and the writer of lists
--
-- Each call's contract (`ListMade`, `ListRead`, `ListWritten`) relates what it is given to what it answers; that its answer stands in this
-- relation is proved of its function. `was` and `now` are what a lent slice holds before and after, `f` is a file.
use Rattle.std.specs.Prelude.{◌≡◌, ◌≢◌, List, ℕ, ◌+◌, ◌*◌, ◌≤◌, ◌<◌, length, take}
use Rattle.numbers.specs.Lists.{at}
use Rattle.rules.specs.TableFile.{file_table}
use Rattle.rules.specs.ElementList.{ElementList, list_header, entry_size, entry_numbers, memory_list}
use Rattle.rules.specs.Refusals.{maker_checks, list_reader_checks, list_writer_checks}
use Rattle.rules.specs.Calls.{one_ring_ask, ListMade, ListRead, ListWritten}
use Rattle.maker.specs.Promises.{MadeExactly, AllTwice, MadeFew, MadePasses, FirstWords}
use Rattle.demands.specs.Demands.{Answered}

pub record ElementLists : Type 1 where
  -- Whatever is handed in, each call has a number and a place to answer with.
  pub made : (f plan : List ℕ) (element room wants : ℕ)
      → Answered (maker_checks (one_ring_ask f).checks (file_table f) plan element room wants)
  pub read : (f : List ℕ) (room : ℕ) → Answered (list_reader_checks f room)
  pub written : (element hyper : ℕ) (xs : List ℕ) (room : ℕ) → Answered (list_writer_checks element hyper xs room)
  -- A refusal leaves lent output unchanged; any other returned number is then 0.
  pub make_refused : (f plan : List ℕ) (element : ℕ) (form : ElementList → List ℕ) (was now : List ℕ) (number place hyper entries : ℕ)
      → ListMade (one_ring_ask f) plan element form was now number place hyper entries
      → number ≢ 0 → (hyper ≡ 0) × (entries ≡ 0) × (now ≡ was)
  pub read_refused : (f was now : List ℕ) (number place element hyper entries : ℕ)
      → ListRead f was now number place element hyper entries → number ≢ 0
      → (element ≡ 0) × (hyper ≡ 0) × (entries ≡ 0) × (now ≡ was)
  pub write_refused : (element hyper : ℕ) (xs was now : List ℕ) (number place : ℕ) → ListWritten element hyper xs was now number place
      → number ≢ 0 → now ≡ was
  -- The entries are exactly the element's moves in the plan's first h words, each once, at most two a slot; words past these don't count.
  pub exactly : MadeExactly
  pub few : MadeFew
  pub first_words : FirstWords
  -- All elements' lists together have each move twice: received once and sent once.
  pub twice : AllTwice
  -- What is made passes the list's own checks.
  pub passes : MadePasses
  -- What was read, the writer writes as it stood in the file, and what was written, the reader reads as it stood in the slice.
  pub read_then_written : (f was now : List ℕ) (p e h n : ℕ) (was' now' : List ℕ) (number place : ℕ) → ((i : ℕ) → at f i < 256)
      → ListRead f was now 0 p e h n → list_header + entry_size * n ≤ length was'
      → ListWritten e h (take (entry_numbers * n) now) was' now' number place
      → (number ≡ 0) × (place ≡ 0) × (take (list_header + entry_size * n) now' ≡ f)
  pub written_then_read : (e h : ℕ) (xs was now : List ℕ) (p : ℕ) (was' now' : List ℕ) (number place e' h' n' : ℕ)
      → ListWritten e h xs was now 0 p → length xs ≤ length was'
      → ListRead (take (list_header + entry_size * (memory_list e h xs).entries) now) was' now' number place e' h' n'
      → (number ≡ 0) × (place ≡ 0) × (e' ≡ e) × (h' ≡ h) × (n' ≡ (memory_list e h xs).entries) × (take (length xs) now' ≡ xs)
