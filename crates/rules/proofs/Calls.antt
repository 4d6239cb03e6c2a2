-- Laws of calls: what a lent slice holds, and a call's answer from the answers to its checks.
use mathlib.Core.Path.{◌≡◌, refl, sym, ap, ◌∙◌}
use mathlib.Core.Logic.{◌⊎◌, inl, inr, ◌≢◌}
use mathlib.Core.List.{List, [], ◌∷◌, ◌++◌}
use Prim.Native.Nat.{ℕ, ◌+◌, ◌≤◌}
use native.Mathlib.Decide.{ℕ_discrete}
use native.Mathlib.Omega.{arith}
use lib.ListN.{length, take, drop, length-append}
use lib.Seq.{sets, take_at, drop-drop}
use Rattle.numbers.proofs.Lists.{Filled, filled_start, filled_take, filled_drop, filled_sets}
use Rattle.rules.specs.Refusals.{Check, Answers, short_output}
use Rattle.rules.specs.Calls.{Call, lent}
use Rattle.rules.proofs.Answers.{None, Numbered, applied, passed, done, stopped, joined, answered, none_of, answers_only}

-- ---- a lent slice with numbers written to its front

pub lent_take : (ws was : List ℕ) (k : ℕ) → length ws ≡ k → take k (lent ws was) ≡ ws
unfolding lent
lent_take ws was k e = take_at ws (drop (length ws) was) k e

pub filled_lent : {was out xs : List ℕ} {n : ℕ} → Filled was out n xs → out ≡ lent xs was
unfolding lent
filled_lent F = rw F.count F.holds

-- a header of k places, and then the rest with the header kept
pub lent_headed : (was mid out h rest : List ℕ) (k : ℕ) → length h ≡ k → k ≤ length was → mid ≡ sets was 0 h
    → out ≡ lent (take k mid ++ rest) mid → out ≡ lent (h ++ rest) was
unfolding lent
lent_headed was mid out h rest k e l q r =
    let F : Filled was (sets was 0 h) k h = filled_sets h k (filled_start was) (omega (arith, e)) l in
    let front : take k mid ≡ h = ap (take k) q ∙ filled_take F in
    let long : length (h ++ rest) ≡ k + length rest = length-append h rest ∙ ap (λ (j : ℕ). j + length rest) e in
    let past : drop (length (h ++ rest)) mid ≡ drop (length (h ++ rest)) was =
    ap (λ (j : ℕ). drop j mid) long ∙ sym (drop-drop (length rest) k mid) ∙ ap (drop (length rest)) (ap (drop k) q ∙ filled_drop F)
    ∙ drop-drop (length rest) k was ∙ ap (λ (j : ℕ). drop j was) (sym long) in
    r ∙ rw (front, past)

-- ---- calls whose last check is that the output is long enough: A says that it is too short, cs are the checks before

module _ (cs : List Check) (A : Type 0) {Done Refused : Type 0} where
  -- a check before refuses
  pub call_refused : {n p : ℕ} → Answers cs n p → n ≢ 0 → Refused → Call (cs ++ (short_output A ∷ [])) n p Done Refused
  call_refused {n} {p} a h r = record {
    answers = stopped cs (short_output A ∷ []) n p h a;
    done = λ e. absurd (h e);
    refused = λ g. r;
  }

  -- the output is too short
  pub call_short : None cs → A → Refused → Call (cs ++ (short_output A ∷ [])) 17 0 Done Refused
  call_short a h r = record {
    answers = joined cs (short_output A ∷ []) 17 0 a (applied (short_output A) [] 17 0 h refl refl);
    done = λ e. absurd (let z : ⊥ = omega arith in z);
    refused = λ g. r;
  }

  -- no check refuses
  pub call_done : {n p : ℕ} → Numbered cs → Answers cs n p → n ≡ 0 → (A → ⊥) → Done → Call (cs ++ (short_output A ∷ [])) n p Done Refused
  call_done {n} {p} m a e h d =
      let s = none_of cs p m (rw e at a) in
      let z = answers_only cs n 0 p 0 a (answered cs s) in
      rw (z.0, z.1) (record {
        answers = joined cs (short_output A ∷ []) 0 0 s (passed (short_output A) [] 0 0 h done);
        done = λ g. d;
        refused = λ g. absurd (g refl);
      })

-- ---- checks before a call's own

pub call_after : (cs ds : List Check) {n p : ℕ} {D R : Type 0} → None cs → Call ds n p D R → Call (cs ++ ds) n p D R
call_after cs ds {n} {p} a c = record { answers = joined cs ds n p a c.answers; done = c.done; refused = c.refused }

-- ---- only one answer fits

pub call_only : {cs : List Check} {D R D' R' : Type 0} {m n p q : ℕ} → Call cs m p D R → Call cs n q D' R'
    → (m ≡ n) × (p ≡ q) × ((D × D') ⊎ (R × R'))
call_only {cs} {D} {R} {D'} {R'} {m} {n} {p} {q} c d =
    let z = answers_only cs m n p q c.answers d.answers in
    (z.0, z.1, go z.0 (ℕ_discrete m 0))
  where
    go : m ≡ n → Dec (m ≡ 0) → (D × D') ⊎ (R × R')
    go e (yes h) = inl (c.done h, d.done (sym e ∙ h))
    go e (no h) = inr (c.refused h, d.refused (λ k. h (e ∙ k)))

-- ---- what a call did that answers 0, and that a call with no reason to refuse is done

pub call_none : {cs : List Check} {D R : Type 0} {p : ℕ} → Numbered cs → Call cs 0 p D R → None cs
call_none {cs} {p = p} m c = none_of cs p m c.answers

pub call_must : {cs : List Check} {D R : Type 0} {n p : ℕ} → None cs → Call cs n p D R → (n ≡ 0) × (p ≡ 0) × D
call_must {cs} {n = n} {p = p} a c =
    let z = answers_only cs n 0 p 0 c.answers (answered cs a) in
    (z.0, z.1, c.done z.0)
