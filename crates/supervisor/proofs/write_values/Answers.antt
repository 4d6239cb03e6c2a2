-- write_values: six elements, one after the other, are the front of the slice.
use Rattle.supervisor.proofs.Values.{six_put}
use Rattle.supervisor.proofs.write_values.Goals as goal

pub returns : goal.returns
returns c =
    let a = c.args.table in
    six_put a.cut a.other a.interval a.hyper a.load a.sets c.args.out.now c.requires
