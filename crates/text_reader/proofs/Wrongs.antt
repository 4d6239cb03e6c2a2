-- A fault of a text is told by its number and its place: nothing that is wrong has the number 0.
use mathlib.Core.Path.{◌≡◌, ap, ◌∙◌}
use mathlib.Core.Logic.{◌≢◌}
use native.Mathlib.Omega.{arith}
use Rattle.std.specs.Prelude.{Result, Err, IsErrAnd}
use Rattle.std.proofs.lemmas.Result.{err_from_is_err_and}
use Rattle.table.proofs.Reasons as reasons
use Rattle.text_reader.specs.Faults.{number_of}
use Rattle.text_reader.specs.declared.faults.Wrong.{Wrong}
use Rattle.text_reader.specs.declared.faults.Wrong.TheVariants.{LongText, NoNumber, LargeNumber, NoHeading, MissingField, SpareField, Table}
use Rattle.text_reader.specs.declared.faults.Fault.{Fault}

pub not_done : (w : Wrong) → number_of w ≢ 0
not_done LongText = λ e. let z : ⊥ = omega (arith, e) in z
not_done NoNumber = λ e. let z : ⊥ = omega (arith, e) in z
not_done LargeNumber = λ e. let z : ⊥ = omega (arith, e) in z
not_done NoHeading = λ e. let z : ⊥ = omega (arith, e) in z
not_done MissingField = λ e. let z : ⊥ = omega (arith, e) in z
not_done SpareField = λ e. let z : ⊥ = omega (arith, e) in z
not_done (Table r) = reasons.not_done r

-- what the exit of a `?` hands on
pub handed : {A : Type 0} {a : Result A Fault} (f : Fault) → IsErrAnd a (λ e. e ≡ f) → a ≡ Err f
handed {a = a} f h =
    let y = err_from_is_err_and a h in
    y.1 ∙ ap Err y.2
