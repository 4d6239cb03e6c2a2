-- bounds_fault: 30 applies where either is out of its range.
use Rattle.std.proofs.Common.{refl}
use mathlib.Core.Logic.{inl, inr, ⊎_elim}
use Rattle.numbers.proofs.Truth.{denied, granted}
use Rattle.rules.proofs.Answers.{applied, passed, done}
use Rattle.lists.proofs.bounds_fault.Goals as goal

pub returns-then-not-in_range : goal.returns-then-not-in_range
returns-then-not-in_range c = applied _ _ 30 0 (inl (denied c.in_range.ensures c.if-not-in_range.true)) refl refl

pub returns-then-not-in_range-2 : goal.returns-then-not-in_range-2
returns-then-not-in_range-2 c = applied _ _ 30 0 (inr (denied c.in_range-2.ensures c.if-not-in_range-2.true)) refl refl

pub returns : goal.returns
returns c =
    let e = granted c.in_range.ensures c.if-not-in_range.false in
    let h = granted c.in_range-2.ensures c.if-not-in_range-2.false in
    passed _ _ 0 0 (⊎_elim (λ n. n e) (λ n. n h)) done
