-- ring_element_list: the size of the list that was made, or the maker's refusal as one number.
use Rattle.std.proofs.Common.{arith, refl}
use Rattle.rules.specs.ElementList.{list_bytes}
use Rattle.maker.proofs.Promises.{made_entries}
use Rattle.supervisor.proofs.ring_element_list.Goals as goal

pub overflow_mul-result : goal.overflow_mul-result
overflow_mul-result c =
    let few = made_entries c.args.file.now _ _ list_bytes _ _ _ _ _ _ refl c.in-Ok.ensures in
    record { fits = omega (arith, few) }

pub overflow_add-result : goal.overflow_add-result
overflow_add-result c =
    let few = made_entries c.args.file.now _ _ list_bytes _ _ _ _ _ _ refl c.in-Ok.ensures in
    record { fits = omega (arith, few) }
