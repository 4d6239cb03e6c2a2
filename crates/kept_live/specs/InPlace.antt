-- A live table changed, or read, where it is kept.
--
--   NewInPlace M q c              a new one of M elements leaves q in its place and answers c
--   AddInPlace p .. label q c     adding a row to p leaves q in its place and answers c
--   RemoveInPlace p k q c         removing the row in place k of p leaves q in its place and answers c
--   FileToC p v was now c         c answers for the table file of p's rows in version v, and a slice that held `was` now holds `now`
--
-- What is left in place and what is answered are those of the live table's calls. Only one answer fits (proofs/Only).
use Rattle.std.specs.Prelude.{◌≡◌, List, ℕ, Result}
use Rattle.rules.specs.Calls.{c_answer}
use Rattle.rules.specs.Live.{Filed}
use Rattle.table.specs.Refusal.{number}
use Rattle.table.specs.declared.refusals.Refusal.{Refusal}
use Rattle.live.specs.declared.Live.{Live}
use Rattle.live.specs.State.{live_of}
use Rattle.live.specs.Answers.{NewAnswer, AddAnswer, RemoveAnswer, made_in, taken_in}

abbrev pub NewInPlace : ℕ → Live → ℕ → Type 0
NewInPlace M q c = (r : Result Live Refusal) × NewAnswer M r × (q ≡ made_in r) × (c ≡ c_answer (number r) 0)

abbrev pub AddInPlace : Live → (cost period first second label : ℕ) → Live → ℕ → Type 0
AddInPlace p cost period first second label q c =
    (r : Result ℕ Refusal) × AddAnswer p (record { cost = cost; period = period; first = first; second = second; label = label }) q r
    × (c ≡ c_answer (number r) (taken_in r))

abbrev pub RemoveInPlace : Live → ℕ → Live → ℕ → Type 0
RemoveInPlace p k q c = (r : Result Unit Refusal) × RemoveAnswer p k q r × (c ≡ c_answer (number r) 0)

pub record FileToC (p : Live) (v : ℕ) (was now : List ℕ) (c : ℕ) : Type 0 where
  pub number : ℕ
  pub place : ℕ
  pub filed : Filed v (live_of p) was now number place
  pub as_one : c ≡ c_answer number place
