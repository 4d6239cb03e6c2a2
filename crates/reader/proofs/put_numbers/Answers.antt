-- put_numbers: five places, one after the other.
use native.Mathlib.Numerals.{towards_suc}
use Rattle.rules.specs.TableFile.{last_of}
use Rattle.reader.proofs.put_numbers.Goals as goal

pub returns : goal.returns
unfolding last_of
returns c = simp towards_suc
