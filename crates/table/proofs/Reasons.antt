-- A refusal is told by its number and its place: no reason has the number 0, and no two have the same.
use mathlib.Core.Path.{◌≡◌, refl, sym, ap, ◌∙◌}
use mathlib.Core.Logic.{◌≢◌}
use mathlib.Core.List.{List, [], ◌∷◌}
use Prim.Native.Nat.{ℕ}
use native.Mathlib.Omega.{arith}
use lib.ListN.{get_or}
use Rattle.std.specs.Prelude.{Result, Err, IsErrAnd}
use Rattle.std.proofs.lemmas.Result.{err_from_is_err_and}
use Rattle.rules.specs.Refusals.{Check, Answers}
use Rattle.rules.proofs.Answers.{answers_only}
use Rattle.table.specs.Refusal.{number_of}
use Rattle.table.specs.declared.refusals.Reason.{Reason}
use Rattle.table.specs.declared.refusals.Reason.TheVariants.{
  ShortFile,
  WrongMark,
  WrongVersion,
  WrongElements,
  WrongRows,
  WrongLength,
  WrongEnds,
  WrongPeriod,
  WrongCost,
  NoCut,
  LongHyperperiod,
  LightRow,
  OverBound,
  OffState,
  HasFinished,
  ShortOutput,
  PastedRow,
  BadWord,
  LostLabel,
  OurLimit,
  TheirLimit,
  WrongLimit,
  NoFreePlace,
  NoRowThere,
  WrongWay,
  WrongRelay,
  ManyRows,
  WrongElement,
  WrongList,
  WrongEntry,
  NoRow,
}
use Rattle.table.specs.declared.refusals.Refusal.{Refusal}

-- the reasons by their numbers; no reason has the numbers 0 and 12
numbered : List Reason
numbered =
    ShortFile ∷ ShortFile ∷ WrongMark ∷ WrongVersion ∷ WrongElements ∷ WrongRows ∷ WrongLength ∷ WrongEnds ∷ WrongPeriod
    ∷ WrongCost ∷ NoCut ∷ LongHyperperiod ∷ ShortFile ∷ LightRow ∷ OverBound ∷ OffState ∷ HasFinished ∷ ShortOutput ∷ PastedRow
    ∷ BadWord ∷ LostLabel ∷ OurLimit ∷ TheirLimit ∷ WrongLimit ∷ NoFreePlace ∷ NoRowThere ∷ WrongWay ∷ WrongRelay ∷ ManyRows
    ∷ WrongElement ∷ WrongList ∷ WrongEntry ∷ NoRow ∷ []

found : (r : Reason) → get_or numbered (number_of r) ShortFile ≡ r
unfolding numbered
found ShortFile = refl
found WrongMark = refl
found WrongVersion = refl
found WrongElements = refl
found WrongRows = refl
found WrongLength = refl
found WrongEnds = refl
found WrongPeriod = refl
found WrongCost = refl
found NoCut = refl
found LongHyperperiod = refl
found LightRow = refl
found OverBound = refl
found OffState = refl
found HasFinished = refl
found ShortOutput = refl
found PastedRow = refl
found BadWord = refl
found LostLabel = refl
found OurLimit = refl
found TheirLimit = refl
found WrongLimit = refl
found NoFreePlace = refl
found NoRowThere = refl
found WrongWay = refl
found WrongRelay = refl
found ManyRows = refl
found WrongElement = refl
found WrongList = refl
found WrongEntry = refl
found NoRow = refl

pub reason_only : (r s : Reason) → number_of r ≡ number_of s → r ≡ s
reason_only r s e = sym (found r) ∙ ap (λ (n : ℕ). get_or numbered n ShortFile) e ∙ found s

pub not_done : (r : Reason) → number_of r ≢ 0
not_done ShortFile = λ e. let z : ⊥ = omega (arith, e) in z
not_done WrongMark = λ e. let z : ⊥ = omega (arith, e) in z
not_done WrongVersion = λ e. let z : ⊥ = omega (arith, e) in z
not_done WrongElements = λ e. let z : ⊥ = omega (arith, e) in z
not_done WrongRows = λ e. let z : ⊥ = omega (arith, e) in z
not_done WrongLength = λ e. let z : ⊥ = omega (arith, e) in z
not_done WrongEnds = λ e. let z : ⊥ = omega (arith, e) in z
not_done WrongPeriod = λ e. let z : ⊥ = omega (arith, e) in z
not_done WrongCost = λ e. let z : ⊥ = omega (arith, e) in z
not_done NoCut = λ e. let z : ⊥ = omega (arith, e) in z
not_done LongHyperperiod = λ e. let z : ⊥ = omega (arith, e) in z
not_done LightRow = λ e. let z : ⊥ = omega (arith, e) in z
not_done OverBound = λ e. let z : ⊥ = omega (arith, e) in z
not_done OffState = λ e. let z : ⊥ = omega (arith, e) in z
not_done HasFinished = λ e. let z : ⊥ = omega (arith, e) in z
not_done ShortOutput = λ e. let z : ⊥ = omega (arith, e) in z
not_done PastedRow = λ e. let z : ⊥ = omega (arith, e) in z
not_done BadWord = λ e. let z : ⊥ = omega (arith, e) in z
not_done LostLabel = λ e. let z : ⊥ = omega (arith, e) in z
not_done OurLimit = λ e. let z : ⊥ = omega (arith, e) in z
not_done TheirLimit = λ e. let z : ⊥ = omega (arith, e) in z
not_done WrongLimit = λ e. let z : ⊥ = omega (arith, e) in z
not_done NoFreePlace = λ e. let z : ⊥ = omega (arith, e) in z
not_done NoRowThere = λ e. let z : ⊥ = omega (arith, e) in z
not_done WrongWay = λ e. let z : ⊥ = omega (arith, e) in z
not_done WrongRelay = λ e. let z : ⊥ = omega (arith, e) in z
not_done ManyRows = λ e. let z : ⊥ = omega (arith, e) in z
not_done WrongElement = λ e. let z : ⊥ = omega (arith, e) in z
not_done WrongList = λ e. let z : ⊥ = omega (arith, e) in z
not_done WrongEntry = λ e. let z : ⊥ = omega (arith, e) in z
not_done NoRow = λ e. let z : ⊥ = omega (arith, e) in z

pub refusal_only : (r s : Refusal) → number_of r.reason ≡ number_of s.reason → r.place ≡ s.place → r ≡ s
refusal_only r s e q =
    let same = reason_only r.reason s.reason e in
    λ i. record { reason = same i; place = q i }

-- a refusal is no pass
pub refused_not : {A : Type 0} (cs : List Check) (r : Refusal) → Answers cs 0 0 → Answers cs (number_of r.reason) r.place → A
refused_not cs r a b = absurd (not_done r.reason (answers_only cs _ _ _ _ b a).0)

-- two refusals by the same checks are the same
pub same_refusal : {A : Type 0} (cs : List Check) (r s : Refusal) → Answers cs (number_of r.reason) r.place
    → Answers cs (number_of s.reason) s.place → ◌≡◌ {A = Result A Refusal} (Err r) (Err s)
same_refusal cs r s a b =
    let z = answers_only cs _ _ _ _ a b in
    ap Err (refusal_only r s z.0 z.1)

-- what the exit of a `?` hands on
pub handed : {A : Type 0} {a : Result A Refusal} (r : Refusal) → IsErrAnd a (λ e. e ≡ r) → a ≡ Err r
handed {a = a} r h =
    let y = err_from_is_err_and a h in
    y.1 ∙ ap Err y.2
