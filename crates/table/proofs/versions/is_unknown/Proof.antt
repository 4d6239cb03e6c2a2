-- `table::versions::is_unknown` meets its contract.
use mathlib.Core.Logic.{inl, inr, ⊎_elim}
use borrow.Author.Tests.{eqb-true, eqb-false}
use Rattle.rules.specs.Bounds.{max_rings}
use Rattle.numbers.proofs.Truth.{decides_yes, decides_no}
use Rattle.table.proofs.versions.is_unknown.Statement.{statement}
use Rattle.table.proofs.versions.is_unknown.Tie as tie

returns : tie.Need-returns-then-version-eq-VERSION_1
returns c = decides_no (λ w. w.0 c.if-version-eq-VERSION_1.true)

returns-2 : tie.Need-returns-then-version-ne-VERSION_2
returns-2 c = decides_yes (c.before.if-version-eq-VERSION_1.false, inl c.if-version-ne-VERSION_2.true)

returns-3 : tie.Need-returns
returns-3 c =
    let r = c.before.before.args.rings in
    record {
      holds = λ e. (c.before.if-version-eq-VERSION_1.false, inr (eqb-true r max_rings e));
      fails = λ e w. ⊎_elim (λ n. n c.if-version-ne-VERSION_2.false) (eqb-false r max_rings e) w.1;
    }

pub is_unknown_spec : {M : Type 1} → statement M
is_unknown_spec = tie.close (tie.spec returns returns-2 returns-3)
