-- What the writer of texts puts, and what it does once it knows the mark.
--
--   number_line r v x     the line of a row x with its last number for a label, with r rings and in version v
--   size_in a            the size that the writer answers, 0 where it is refused
--   rings_checks r ..    the writer's checks past 2, with r rings
--   WrittenWith r ..     what it then answers, and leaves in the slice
use Rattle.std.specs.Prelude.{◌≡◌, List, [], ◌∷◌, ◌++◌, ℕ, ◌<◌, length, Result, Ok, Err}
use Rattle.rules.specs.TableFile.{memory_labelled_with}
use Rattle.rules.specs.Refusals.{Check, short_output, version_checks}
use Rattle.rules.specs.Calls.{Call, lent}
use Rattle.rules.specs.Text.{Line, decimal}
use Rattle.table.specs.declared.refusals.Refusal.{Refusal}
use Rattle.table.specs.declared.Row.{Row}
use Rattle.grammar.specs.TableText.{last_numbers, table_text}

abbrev pub number_line : (r v : ℕ) → Row → Line
number_line r v x = record {
  word = decimal x.cost;
  numbers = x.period ∷ x.first ∷ x.second ∷ last_numbers r v x.label;
}

abbrev pub size_in : Result ℕ Refusal → ℕ
size_in (Ok n) = n
size_in (Err _) = 0

abbrev pub rings_checks : (r v M n : ℕ) (xs : List ℕ) (room : ℕ) → List Check
rings_checks r v M n xs room =
    version_checks r v M n xs ++ (short_output (room < length (table_text v (memory_labelled_with r M n xs))) ∷ [])

abbrev pub WrittenWith : (r v M n : ℕ) (xs was now : List ℕ) (number place size : ℕ) → Type 0
WrittenWith r v M n xs was now number place size =
    let t : List ℕ = table_text v (memory_labelled_with r M n xs) in
    Call (rings_checks r v M n xs (length was)) number place
    ((now ≡ lent t was) × (size ≡ length t)) ((now ≡ was) × (size ≡ 0))
