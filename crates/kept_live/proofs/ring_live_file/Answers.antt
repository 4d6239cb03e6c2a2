-- ring_live_file: number and place are small.
use Rattle.std.proofs.Common.{ap₂, ◌∙◌, arith}
use Rattle.rules.specs.Calls.{c_answer}
use Rattle.table.specs.Refusal.{number, place}
use Rattle.kept_live.proofs.Small.{file_small}
use Rattle.kept_live.proofs.ring_live_file.Goals as goal

pub told-requires : goal.told-requires
told-requires c =
    let a = c.args in
    let r = c.write_file-written.result in
    let s = file_small a.version a.live.now a.out.now _ (number r) (place r) c.write_file-written.ensures in
    rw (c.number.ensures, c.place.ensures) (s.0, omega (arith, s.1))

pub returns : goal.returns
returns c =
    let r = c.write_file-written.result in
    record {
      number = number r;
      place = place r;
      filed = c.write_file-written.ensures;
      as_one = c.told.ensures ∙ ap₂ c_answer c.number.ensures c.place.ensures;
    }
