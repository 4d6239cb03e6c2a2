-- The values for C: six elements written to a slice one after the other, and what the call answers for each verdict.
use mathlib.Core.Path.{◌≡◌, refl, subst}
use mathlib.Core.Logic.{◌≢◌}
use mathlib.Core.List.{List, [], ◌∷◌}
use Prim.Native.Nat.{ℕ, ◌≤◌, ◌<◌}
use native.Mathlib.Omega.{arith}
use lib.ListN.{length, set}
use Rattle.rules.specs.Refusals.{Check, Answers, short_output, verdict_checks}
use Rattle.rules.specs.Calls.{Call, lent}
use Rattle.rules.proofs.Answers.{None, Numbered, applied, passed, done, stopped, joined, none_of, none_left, numbered_join}
use Rattle.std.specs.Prelude.{Result, Ok, Err}
use Rattle.table.specs.Refusal.{number, place}
use Rattle.table.specs.declared.refusals.Refusal.{Refusal}
use Rattle.table.proofs.Reasons.{not_done}
use Rattle.verdict.specs.declared.Admitted.{Admitted}
use Rattle.verdict.specs.Verdict.{IsVerdict}
use Rattle.verdict.proofs.Bound.{verdict_numbered}
use Rattle.supervisor.specs.ToC.{values, value_count, values_checks, Valued}

-- ---- six elements, put one after the other

pub six_put : (a b c d e g : ℕ) (xs : List ℕ) → value_count ≤ length xs
    → set (set (set (set (set (set xs 0 a) 1 b) 2 c) 3 d) 4 e) 5 g ≡ lent (a ∷ b ∷ c ∷ d ∷ e ∷ g ∷ []) xs
unfolding lent
six_put a b c d e g (_ ∷ _ ∷ _ ∷ _ ∷ _ ∷ _ ∷ xs) l = refl
six_put a b c d e g (_ ∷ _ ∷ _ ∷ _ ∷ _ ∷ []) l = absurd (omega arith)
six_put a b c d e g (_ ∷ _ ∷ _ ∷ _ ∷ []) l = absurd (omega arith)
six_put a b c d e g (_ ∷ _ ∷ _ ∷ []) l = absurd (omega arith)
six_put a b c d e g (_ ∷ _ ∷ []) l = absurd (omega arith)
six_put a b c d e g (_ ∷ []) l = absurd (omega arith)
six_put a b c d e g [] l = absurd (omega arith)

-- ---- what the call answers

module _ (f : List ℕ) where
  abbrev no_room : ℕ → Check
  no_room room = short_output (room < value_count)

  -- values that are given are those of an admitted table
  pub values_none : (room p : ℕ) → Answers (values_checks f room) 0 p → None (verdict_checks f)
  unfolding values_checks Numbered
  values_none room p a =
      none_left (verdict_checks f) (no_room room ∷ [])
      (none_of (values_checks f room) p
      (numbered_join (verdict_checks f) (no_room room ∷ []) (verdict_numbered f) (omega arith)) a)

  module _ (was : List ℕ) where
    pub values_refused : {v : Result Admitted Refusal} → IsVerdict f v → (r : Refusal) → v ≡ Err r
        → Call (values_checks f (length was)) (number v) (place v) (Valued f was was) (was ≡ was)
    unfolding values_checks
    values_refused {v} X r e =
        let h : number v ≢ 0 = rw e (not_done r.reason) in
        record {
          answers = stopped (verdict_checks f) (no_room (length was) ∷ []) (number v) (place v) h X.answers;
          done = λ z. absurd (h z);
          refused = λ z. refl;
        }

    module _ {v : Result Admitted Refusal} (a : Admitted) (Y : IsVerdict f v) (q : v ≡ Ok a) where
      X : IsVerdict f (Ok a)
      X = subst (IsVerdict f) q Y

      none : None (verdict_checks f)
      none = none_of (verdict_checks f) 0 (verdict_numbered f) X.answers

      pub values_short : length was < value_count → Call (values_checks f (length was)) 17 0 (Valued f was was) (was ≡ was)
      unfolding values_checks
      values_short l = record {
        answers = joined (verdict_checks f) (no_room (length was) ∷ []) 17 0 none (applied (no_room (length was)) [] 17 0 l refl refl);
        done = λ e. absurd (omega arith);
        refused = λ e. refl;
      }

      pub values_done : (now : List ℕ) → value_count ≤ length was → now ≡ lent (values a.cut a.other a.interval a.hyper a.load a.sets) was
          → Call (values_checks f (length was)) 0 0 (Valued f was now) (now ≡ was)
      unfolding values_checks
      values_done now l e = record {
        answers =
            joined (verdict_checks f) (no_room (length was) ∷ []) 0 0 none
            (passed (no_room (length was)) [] 0 0 (λ (k : length was < value_count). omega arith) done);
        done = λ z. record {
          cut = a.cut;
          other = a.other;
          interval = a.interval;
          hyper = a.hyper;
          load = a.load;
          sets = a.sets;
          admitted = X.done refl;
          written = e;
        };
        refused = λ z. absurd (z refl);
      }
