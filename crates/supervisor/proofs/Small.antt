-- Every answer of the list of sets and of raising has a small number and a small place, as the verdict's and the whole plan's have.
use mathlib.Core.Path.{◌≡◌}
use mathlib.Core.Logic.{⊎_elim}
use mathlib.Core.List.{List, [], ◌∷◌, ◌++◌}
use Prim.Native.Nat.{ℕ, ◌≤◌, ◌<◌}
use native.Mathlib.Decide.{ℕ_discrete}
use native.Mathlib.Omega.{arith}
use lib.Dec.{lit≤}
use lib.ListN.{length}
use Rattle.rules.specs.TableFile.{file_table}
use Rattle.rules.specs.Line.{Sets}
use Rattle.rules.specs.Refusals.{Answers, last_number, short_file, wrong_mark, short_output, bound_checks, verdict_checks, sets_checks}
use Rattle.rules.specs.Raising.{raise_checks}
use Rattle.rules.proofs.Answers.{Fit, stopped, answered, none_of, answers_only, answers_split, answers_fit}
use Rattle.rules.proofs.Small.{last_place, verdict_small}
use Rattle.supervisor.specs.ToC.{value_count, values_checks}
use Rattle.outline.specs.Outlined.{outline_checks}
use Rattle.outline.proofs.Outlined.{outline_numbered}

module _ (f : List ℕ) where
  -- a refusal by 1 to 9, 18, 10 and 11 is the verdict's too
  outline_small : (n p : ℕ) → Answers (outline_checks f) n p → Dec (n ≡ 0) → (n ≤ last_number) × (p ≤ last_place)
  unfolding verdict_checks
  outline_small n p a (no h) = verdict_small f n p (stopped (outline_checks f) (bound_checks (file_table f)) n p h a)
  outline_small n p a (yes z) =
      let none = none_of (outline_checks f) p (outline_numbered f) (rw z at a) in
      let e = answers_only (outline_checks f) n 0 p 0 a (answered (outline_checks f) none) in
      (omega (arith, e.0), omega (arith, e.1))

  -- 17 after them has place 0
  room_small : (A : Type 0) (n p : ℕ) → Answers (outline_checks f ++ (short_output A ∷ [])) n p → (n ≤ last_number) × (p ≤ last_place)
  unfolding Fit
  room_small A n p r =
      ⊎_elim (λ a. outline_small n p a (ℕ_discrete n 0))
      (λ a. answers_fit last_number last_place (short_output A ∷ []) n p (lit≤ tt, lit≤ tt, tt) a.1)
      (answers_split (outline_checks f) (short_output A ∷ []) n p r)

  pub sets_small : (room n p : ℕ) → Answers (sets_checks (outline_checks f) (file_table f) room) n p → (n ≤ last_number) × (p ≤ last_place)
  unfolding sets_checks
  sets_small room n p r = room_small ((ws : List ℕ) × Sets (file_table f) ws × (room < length ws)) n p r

  pub raise_small : (room n p : ℕ) → Answers (raise_checks f room) n p → (n ≤ last_number) × (p ≤ last_place)
  unfolding raise_checks Fit
  raise_small room n p r =
      let front = short_file f ∷ wrong_mark f ∷ [] in
      ⊎_elim (λ a. answers_fit last_number last_place front n p (lit≤ tt, lit≤ tt, (lit≤ tt, lit≤ tt, tt)) a)
      (λ a. room_small (room < length f) n p a.1)
      (answers_split front (outline_checks f ++ (short_output (room < length f) ∷ [])) n p r)

  -- so has 17 after the verdict's
  pub values_small : (room n p : ℕ) → Answers (values_checks f room) n p → (n ≤ last_number) × (p ≤ last_place)
  unfolding values_checks Fit
  values_small room n p r =
      let own = short_output (room < value_count) ∷ [] in
      ⊎_elim (λ a. verdict_small f n p a)
      (λ a. answers_fit last_number last_place own n p (lit≤ tt, lit≤ tt, tt) a.1)
      (answers_split (verdict_checks f) own n p r)
