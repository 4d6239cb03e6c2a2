-- Refusals as document 01's numbers and places.
--
--   number_of r    the number of reason r in the table of refusals
--   number a       what answer a is told as: the number of its refusal, 0 where it has none
--   place a        the place of its refusal, 0 where it has none
--   why r          the number of the reason that r gives, 0 where it gives none
use Rattle.std.specs.Prelude.{ℕ, Result, Ok, Err}
use Rattle.table.specs.declared.refusals.Reason.{Reason}
use Rattle.table.specs.declared.refusals.Reason.TheVariants.{
  ShortFile,
  WrongMark,
  WrongVersion,
  WrongElements,
  WrongRows,
  WrongLength,
  WrongEnds,
  WrongPeriod,
  WrongCost,
  NoCut,
  LongHyperperiod,
  LightRow,
  OverBound,
  OffState,
  HasFinished,
  ShortOutput,
  PastedRow,
  BadWord,
  LostLabel,
  OurLimit,
  TheirLimit,
  WrongLimit,
  NoFreePlace,
  NoRowThere,
  WrongWay,
  WrongRelay,
  ManyRows,
  WrongElement,
  WrongList,
  WrongEntry,
  NoRow,
}
use Rattle.table.specs.declared.refusals.Refusal.{Refusal}

abbrev pub number_of : Reason → ℕ
number_of ShortFile = 1
number_of WrongMark = 2
number_of WrongVersion = 3
number_of WrongElements = 4
number_of WrongRows = 5
number_of WrongLength = 6
number_of WrongEnds = 7
number_of WrongPeriod = 8
number_of WrongCost = 9
number_of NoCut = 10
number_of LongHyperperiod = 11
number_of LightRow = 13
number_of OverBound = 14
number_of OffState = 15
number_of HasFinished = 16
number_of ShortOutput = 17
number_of PastedRow = 18
number_of BadWord = 19
number_of LostLabel = 20
number_of OurLimit = 21
number_of TheirLimit = 22
number_of WrongLimit = 23
number_of NoFreePlace = 24
number_of NoRowThere = 25
number_of WrongWay = 26
number_of WrongRelay = 27
number_of ManyRows = 28
number_of WrongElement = 29
number_of WrongList = 30
number_of WrongEntry = 31
number_of NoRow = 32

abbrev pub number : {A : Type 0} → Result A Refusal → ℕ
number (Ok _) = 0
number (Err r) = number_of r.reason

abbrev pub place : {A : Type 0} → Result A Refusal → ℕ
place (Ok _) = 0
place (Err r) = r.place

abbrev pub why : {A : Type 0} → Result A Reason → ℕ
why (Ok _) = 0
why (Err r) = number_of r
