-- What is found of a table and a plan before a list is written.
--
--   word_checks cs t plan e     the maker's checks before 17: cs, 29, 19
--   early_checks cs t plan e    the maker's checks but that of its output: these, and 17 for a short plan
--   Makeable t plan e r         r has what the list of element e is written from
--   Finds cs t plan e r         r answers these checks, and is ready where none applies
--   Fits a plan e room wants r  r answers all of the maker's checks, for an output of `room` places of which the list wants `wants`
--   hyper_of, entries_of        what is told of a list that was made, 0 on a refusal
use Rattle.std.specs.Prelude.{◌≡◌, List, [], ◌∷◌, ◌++◌, ℕ, ◌*◌, ◌≤◌, ◌<◌, length, Result, Ok, Err, IfOk}
use Rattle.numbers.specs.Lists.{each}
use Rattle.rules.specs.Bounds.{max_elements, max_slots}
use Rattle.rules.specs.Bus.{Table}
use Rattle.rules.specs.Loads.{hyperperiod}
use Rattle.rules.specs.ElementList.{element_moves}
use Rattle.rules.specs.Refusals.{Check, Answers, wrong_element, bad_word, short_output, maker_checks}
use Rattle.rules.specs.Calls.{Ask}
use Rattle.table.specs.Refusal.{number, place}
use Rattle.table.specs.declared.refusals.Refusal.{Refusal}
use Rattle.maker.specs.Words.{Clear, moves_of}
use Rattle.maker.specs.declared.Source.{Source}
use Rattle.maker.specs.declared.Making.{Making}

abbrev pub word_checks : List Check → Table → (plan : List ℕ) (element : ℕ) → List Check
word_checks cs t plan element = cs ++ (wrong_element t element ∷ []) ++ each (hyperperiod t) (λ s. bad_word t plan s ∷ [])

abbrev pub early_checks : List Check → Table → (plan : List ℕ) (element : ℕ) → List Check
early_checks cs t plan element = word_checks cs t plan element ++ (short_output (length plan < hyperperiod t) ∷ [])

pub record Makeable (t : Table) (plan : List ℕ) (element : ℕ) (r : Source) : Type 0 where
  pub hyper : r.picks.hyper ≡ hyperperiod t
  pub element_small : element ≤ max_elements
  pub clear : Clear r.picks plan
  pub moves : moves_of r.picks plan ≡ element_moves t element plan
  pub entries : r.entries ≡ length (element_moves t element plan)
  pub few : r.entries ≤ 2 * max_slots

pub record Finds (cs : List Check) (t : Table) (plan : List ℕ) (element : ℕ) (r : Result Source Refusal) : Type 0 where
  pub answers : Answers (early_checks cs t plan element) (number r) (place r)
  pub ready : IfOk r (Makeable t plan element)

pub record Fits (a : Ask) (plan : List ℕ) (element room wants : ℕ) (r : Result Source Refusal) : Type 0 where
  pub answers : Answers (maker_checks a.checks a.table plan element room wants) (number r) (place r)
  pub ready : IfOk r (Makeable a.table plan element)
  pub enough : IfOk r (λ _. wants ≤ room)

abbrev pub hyper_of : Result Making Refusal → ℕ
hyper_of (Ok m) = m.hyper
hyper_of (Err _) = 0

abbrev pub entries_of : Result Making Refusal → ℕ
entries_of (Ok m) = m.entries
entries_of (Err _) = 0
