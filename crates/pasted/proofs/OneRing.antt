-- A table as it is given, where a table of one ring alone is taken (#112).
use mathlib.Core.Path.{◌≡◌, refl}
use mathlib.Core.List.{List}
use Prim.Native.Nat.{ℕ}
use native.Mathlib.Omega.{arith}
use Rattle.rules.specs.TableFile.{file_rings, file_labelled}
use Rattle.rules.specs.Refusals.{Check, Answers, header_checks, file_checks, given_checks, one_ring_checks}
use Rattle.rules.proofs.Answers.{None, Numbered, none_of}
use Rattle.std.specs.Prelude.{Result}
use Rattle.table.specs.Refusal.{number, place}
use Rattle.table.specs.declared.refusals.Refusal.{Refusal}
use Rattle.decoding.specs.declared.Decoded.{Decoded}
use Rattle.decoding.specs.Decoded.{Decodes}
use Rattle.decoding.proofs.OneRing.{OtherMark, other_mark, own_mark, one_numbered, one_rest, one_rings}
use Rattle.pasted.proofs.AsGiven.{given_numbered}

module _ (f : List ℕ) where
  abbrev checks : List Check
  checks = one_ring_checks f (given_checks f)

  pub one_ring_numbered : Numbered checks
  one_ring_numbered = one_numbered f (given_checks f) (given_numbered f)

  -- what passes passes the checks of a table as it is given, and has one ring
  module _ (p : ℕ) (a : Answers checks 0 p) where
    none : None checks
    none = none_of checks p one_ring_numbered a

    pub one_ring_none : None (given_checks f)
    one_ring_none = one_rest f (given_checks f) none

    pub one_ring : file_rings f ≡ 1
    one_ring = one_rings f (given_checks f) none

  -- ---- the table of each outcome

  pub given_other : OtherMark f → Answers checks 2 0
  given_other w = other_mark f (given_checks f) w

  pub given_own : (r : Result Decoded Refusal) → (OtherMark f → ⊥) → Decodes (given_checks f) (file_labelled f) r
      → Decodes checks (file_labelled f) r
  unfolding given_checks file_checks header_checks
  given_own r own D = record {
    answers = own_mark f _ own (number r) (place r) D.answers;
    passed = D.passed;
    labelled = D.labelled;
  }
