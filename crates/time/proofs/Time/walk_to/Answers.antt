-- walk_to: from the start of one interval to that of the next, up to the one asked for or to h.
use Rattle.std.proofs.Common.{◌≡◌, ℕ, ◌≤◌, ◌≢◌, sym, ap, ◌∙◌, arith}
use native.Mathlib.Nat.{eq-or-lt_of_le, le_refl}
use mathlib.Core.Logic.{⊎_elim}
use Rattle.rules.specs.Bus.{Table}
use Rattle.rules.specs.Loads.{intervals, start}
use Rattle.lags.proofs.Intervals.{start_first, start_last, start_strict, start_late, end_next}
use Rattle.time.specs.declared.Time.{Time}
use Rattle.time.specs.Time.{Timed, Begins}
use Rattle.time.proofs.Even.{past_fits, past_is}
use Rattle.time.proofs.Time.walk_to.Goals as goal

-- before h an interval begins
module _ {t : Table} {c : Time} {j s : ℕ} (T : Timed t c) (w : (j ≤ intervals t) × (s ≡ start t j)) where
  begins : s ≢ c.hyper → Begins t j s
  begins ne = record {
    in_range = ⊎_elim
        (λ (e : j ≡ intervals t). absurd (ne (w.1 ∙ ap (start t) e ∙ start_last T.sound ∙ sym T.hyper)))
        (λ l. l)
        (eq-or-lt_of_le w.0);
    here = w.1;
  }

pub loop-init : goal.loop-init
loop-init c t T = (omega arith, sym (start_first T.sound))

pub returns-then-slot-self : goal.returns-then-slot-self
returns-then-slot-self c t T =
    let S = T.sound in
    let w = c.loop.invariant t T in
    ⊎_elim
    (λ e. c.if-slot-self.true ∙ T.hyper ∙ sym (start_late S c.args.k (omega arith)))
    (λ l. absurd
    (omega (arith, w.1, c.if-slot-self.true, T.hyper, start_strict S c.loop.counter (intervals t) l (le_refl (intervals t)), start_last S)))
    (eq-or-lt_of_le w.0)

pub multiple_past-slot-requires : goal.multiple_past-slot-requires
multiple_past-slot-requires c =
    let T = c.requires.1 in past_fits T (begins T (c.loop.invariant _ T) c.if-slot-self.false)

pub loop-preserved : goal.loop-preserved
loop-preserved c t T =
    let B = begins T (c.loop.invariant t T) c.if-slot-self.false in
    (omega (arith, B.in_range), past_is T B c.multiple_past-slot.ensures ∙ end_next T.sound c.loop.counter)
