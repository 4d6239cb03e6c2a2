-- Faults of a text as numbers and places.
--
--   number_of w    the number of what is wrong
--   number a       what answer a is told as: the number of its fault, 0 where it has none
--   place a        the place of its fault, 0 where it has none
use Rattle.std.specs.Prelude.{ℕ, Result, Ok, Err}
use Rattle.table.specs.Refusal as refusals
use Rattle.text_reader.specs.declared.faults.Wrong.{Wrong}
use Rattle.text_reader.specs.declared.faults.Wrong.TheVariants.{LongText, NoNumber, LargeNumber, NoHeading, MissingField, SpareField, Table}
use Rattle.text_reader.specs.declared.faults.Fault.{Fault}

abbrev pub number_of : Wrong → ℕ
number_of LongText = 33
number_of NoNumber = 34
number_of LargeNumber = 35
number_of NoHeading = 36
number_of MissingField = 37
number_of SpareField = 38
number_of (Table r) = refusals.number_of r

abbrev pub number : {A : Type 0} → Result A Fault → ℕ
number (Ok _) = 0
number (Err f) = number_of f.wrong

abbrev pub place : {A : Type 0} → Result A Fault → ℕ
place (Ok _) = 0
place (Err f) = f.place
