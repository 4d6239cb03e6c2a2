-- What is told of a live table's answers: their numbers are small, so that number and place fit one number.
use mathlib.Core.Path.{◌≡◌, refl}
use Prim.Native.Nat.{ℕ, ◌≤◌}
use native.Mathlib.Omega.{arith}
use mathlib.Core.Bool.{not}
use mathlib.Core.List.{List}
use lib.Dec.{lit≤}
use lib.ListN.{length}
use Rattle.numbers.proofs.Finite.{lowest_le, count_le}
use Rattle.rules.specs.Bounds.{max_rows}
use Rattle.rules.specs.Refusals.{last_number}
use Rattle.rules.specs.TableFile.{table_mark, numbers}
use Rattle.rules.specs.Live.{held, free, present, new_checks, add_checks, remove_checks, rows_file_checks, Filed}
use Rattle.rules.proofs.Answers.{Fit, answers_fit}
use Rattle.rules.proofs.Small.{last_place, writer_fit}
use Rattle.std.specs.Prelude.{Result, Ok, Err}
use Rattle.std.specs.Result.{result_unwrap_or}
use Rattle.table.specs.Refusal.{number}
use Rattle.table.specs.declared.refusals.Refusal.{Refusal}
use Rattle.live.specs.declared.Entry.{Entry}
use Rattle.live.specs.declared.Live.{Live}
use Rattle.live.specs.State.{live_of, entry_of, blank}
use Rattle.live.specs.Answers.{NewAnswer, AddAnswer, RemoveAnswer, made_in, taken_in}

pub new_small : {M : ℕ} {r : Result Live Refusal} → NewAnswer M r → number r ≤ last_number
unfolding Fit
new_small {M} A = (answers_fit last_number 0 (new_checks M) _ _ (lit≤ tt, lit≤ tt, tt) A.made.answers).0

pub add_small : {l m : Live} {row : Entry} (r : Result ℕ Refusal) → AddAnswer l row m r → (number r ≤ last_number) × (taken_in r ≤ max_rows)
unfolding Fit
add_small {l} {row = row} r A = (
  (answers_fit last_number 0 (add_checks (live_of l) (entry_of row)) _ _ (
    lit≤ tt,
    lit≤ tt,
    (
      lit≤ tt,
      lit≤ tt,
      (
        lit≤ tt,
        lit≤ tt,
        (lit≤ tt, lit≤ tt, (lit≤ tt, lit≤ tt, (lit≤ tt, lit≤ tt, (lit≤ tt, lit≤ tt, (lit≤ tt, lit≤ tt, tt))))),
      ),
    ),
  )
      A.added.answers).0,
  few r A.added.done,
)
  where
    few : {R : Type 0} (r : Result ℕ Refusal) → (number r ≡ 0 → (taken_in r ≡ free (live_of l)) × R) → taken_in r ≤ max_rows
    few (Ok k) h = omega (arith, (h refl).0, lowest_le max_rows (λ i. not (held (live_of l) i)))
    few (Err e) h = omega arith

pub remove_small : {l m : Live} {k : ℕ} {r : Result Unit Refusal} → RemoveAnswer l k m r → number r ≤ last_number
unfolding Fit
remove_small {l} {k = k} A =
    (answers_fit last_number 0 (remove_checks (live_of l) k) _ _ (lit≤ tt, lit≤ tt, (lit≤ tt, lit≤ tt, tt)) A.removed.answers).0

pub file_small : (v : ℕ) (l : Live) (was now : List ℕ) (n p : ℕ) → Filed v (live_of l) was now n p → (n ≤ last_number) × (p ≤ last_place)
unfolding Fit
file_small v l was now n p A =
    let t = present (live_of l) in
    answers_fit last_number last_place (rows_file_checks v (live_of l) (length was)) n p (
      lit≤ tt,
      lit≤ tt,
      writer_fit table_mark v t.table.elements t.table.rows (numbers t) (length was) (count_le max_rows (held (live_of l))),
    )
    A.answers

-- ---- what stands where a call is refused

pub made_told : (r : Result Live Refusal) → result_unwrap_or r (blank 0 0) ≡ made_in r
made_told (Ok l) = refl
made_told (Err e) = refl

pub taken_told : (r : Result ℕ Refusal) → result_unwrap_or r 0 ≡ taken_in r
taken_told (Ok k) = refl
taken_told (Err e) = refl
