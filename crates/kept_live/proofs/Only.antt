-- Only one answer fits a live table changed, or read, where it is kept, and it is that of the live table's call.
use mathlib.Core.Path.{◌≡◌, sym, ap, ap₂, ◌∙◌}
use mathlib.Core.List.{List}
use Prim.Native.Nat.{ℕ}
use Rattle.std.specs.Prelude.{Result}
use Rattle.rules.specs.Calls.{c_answer}
use Rattle.table.specs.Refusal.{number}
use Rattle.table.specs.declared.refusals.Refusal.{Refusal}
use Rattle.live.specs.declared.Live.{Live}
use Rattle.live.specs.Answers.{made_in, taken_in}
use Rattle.live.specs.State.{live_of}
use Rattle.live.proofs.Only.{new_only, addition_only, removal_only}
use Rattle.live.proofs.FileOnly.{file_only}
use Rattle.kept_live.specs.InPlace.{NewInPlace, AddInPlace, RemoveInPlace, FileToC}

pub new_in_place_only : (M : ℕ) (q r : Live) (c d : ℕ) → NewInPlace M q c → NewInPlace M r d → (q ≡ r) × (c ≡ d)
new_in_place_only M q r c d A B =
    let e = new_only M A.0 B.0 A.1 B.1 in (
      A.2 ∙ ap made_in e ∙ sym B.2,
      A.3 ∙ ap (λ (x : Result Live Refusal). c_answer (number x) 0) e ∙ sym B.3,
    )

pub add_in_place_only : (p : Live) (cost period first second label : ℕ) (q r : Live) (c d : ℕ)
    → AddInPlace p cost period first second label q c → AddInPlace p cost period first second label r d → (q ≡ r) × (c ≡ d)
add_in_place_only p cost period first second label q r c d A B =
    let e = addition_only p _ q r A.0 B.0 A.1 B.1 in
    (e.0, A.2 ∙ ap (λ (x : Result ℕ Refusal). c_answer (number x) (taken_in x)) e.1 ∙ sym B.2)

pub remove_in_place_only : (p : Live) (k : ℕ) (q r : Live) (c d : ℕ) → RemoveInPlace p k q c → RemoveInPlace p k r d → (q ≡ r) × (c ≡ d)
remove_in_place_only p k q r c d A B =
    let e = removal_only p k q r A.0 B.0 A.1 B.1 in
    (e.0, A.2 ∙ ap (λ (x : Result Unit Refusal). c_answer (number x) 0) e.1 ∙ sym B.2)

pub file_to_c_only : (p : Live) (v : ℕ) (was now now' : List ℕ) (c d : ℕ) → FileToC p v was now c → FileToC p v was now' d
    → (now ≡ now') × (c ≡ d)
file_to_c_only p v was now now' c d A B =
    let z = file_only v (live_of p) was now now' _ _ _ _ A.filed B.filed in
    (z.2, A.as_one ∙ ap₂ c_answer z.0 z.1 ∙ sym B.as_one)
