-- What the writer does once it knows the mark.
--
--   rings_checks r ..  the writer's checks past 2, with r rings
--   WrittenWith r ..   what it then answers, and leaves in the slice
use Rattle.std.specs.Prelude.{◌≡◌, List, [], ◌∷◌, ◌++◌, ℕ, ◌+◌, ◌*◌, ◌<◌, length}
use Rattle.rules.specs.TableFile.{header_size, row_size, memory_labelled_with, bytes}
use Rattle.rules.specs.Refusals.{Check, short_output, version_checks}
use Rattle.rules.specs.Calls.{Call, lent}

abbrev pub rings_checks : (r v M n : ℕ) (xs : List ℕ) (room : ℕ) → List Check
rings_checks r v M n xs room = version_checks r v M n xs ++ (short_output (room < header_size + row_size r v * n) ∷ [])

abbrev pub WrittenWith : (r v M n : ℕ) (xs was now : List ℕ) (number place : ℕ) → Type 0
WrittenWith r v M n xs was now number place =
    Call (rings_checks r v M n xs (length was)) number place (now ≡ lent (bytes v (memory_labelled_with r M n xs)) was) (now ≡ was)
