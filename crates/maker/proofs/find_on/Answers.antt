-- find_on: past 29, 19 and 17 each word has at most one move each way.
use Rattle.std.proofs.Common.{refl}
use Rattle.table.specs.Columns.{table_of}
use Rattle.table.proofs.Reasons.{handed}
use Rattle.maker.proofs.Finding.{laid_of, found_none, found_refused, found_ready, clear_of}
use Rattle.maker.proofs.find_on.Goals as goal

pub returns-in_err-fault : goal.returns-in_err-fault
returns-in_err-fault c =
    let t = table_of c.args.table.now in
    let low = c.lowest_bad-slot.ensures t refl (laid_of _ c.requires.0 c.requires.3 c.lay_segments-routes.ensures) in
    rw (handed c.in_err-fault.field-0.0 c.from_residual.ensures.1)
    (found_refused c.in_err-fault.field-0.0 (c.in_err-fault.ensures t c.args.plan.now refl refl c.requires.1 low))

pub count-requires : goal.count-requires
count-requires c =
    let t = table_of c.args.table.now in
    let p = c.args.plan.now in
    let e = c.args.element in
    let low = c.lowest_bad-slot.ensures t refl (laid_of _ c.requires.0 c.requires.3 c.lay_segments-routes.ensures) in
    let n = found_none t p e (c.in_ok-fault.ensures t p refl refl c.requires.1 low) in
    clear_of c.requires.0 p e c.requires.3 n c.requires.1 c.requires.2 c.ending_at.ensures c.ending_at-2.ensures

pub returns : goal.returns
returns c =
    let t = table_of c.args.table.now in
    let p = c.args.plan.now in
    let e = c.args.element in
    let low = c.lowest_bad-slot.ensures t refl (laid_of _ c.requires.0 c.requires.3 c.lay_segments-routes.ensures) in
    let A = c.in_ok-fault.ensures t p refl refl c.requires.1 low in
    found_ready c.requires.0 p e _ c.requires.3 A c.requires.1
    (clear_of c.requires.0 p e c.requires.3 (found_none t p e A) c.requires.1 c.requires.2 c.ending_at.ensures c.ending_at-2.ensures)
    c.ending_at.ensures c.ending_at-2.ensures c.count.ensures.0 c.count.ensures.1
