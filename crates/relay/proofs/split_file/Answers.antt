-- split_file: past the checks of a table as it is given the columns hold it.
use Rattle.std.proofs.Common.{refl}
use Rattle.table.proofs.Reasons.{handed}
use Rattle.relay.proofs.Given.{given_zero, columns_sound, relay_zero, relay_element, few_rows, relay_held, none_held, split_held}
use Rattle.relay.proofs.Given.{splits_given, splits_relay, splits_done}
use Rattle.relay.proofs.split_file.Goals as goal

pub returns-in_err-found : goal.returns-in_err-found
returns-in_err-found c =
    rw (handed c.in_err-found.field-0.0 c.from_residual.ensures.1)
    (splits_given c.args.file.now c.args.relay c.in_err-found.field-0.0 c.in_err-found.ensures.answers)

pub relay_fault-requires : goal.relay_fault-requires
relay_fault-requires c =
    let f = c.args.file.now in
    let e = c.in_ok-found.ensures in
    columns_sound f c.args.relay _ (given_zero f c.args.relay e.answers) e.passed.table

pub returns-in_err-relay_fault : goal.returns-in_err-relay_fault
returns-in_err-relay_fault c =
    let f = c.args.file.now in
    let r = c.args.relay in
    let e = c.in_ok-found.ensures in
    let w = c.in_err-relay_fault.field-0.0 in
    rw (handed (record { reason = w; place = 0 }) c.from_residual-in_err-relay_fault.ensures.1)
    (splits_relay f r w (given_zero f r e.answers) (relay_held f r _ e.passed.table _ c.in_err-relay_fault.ensures))

pub split_at-requires : goal.split_at-requires
split_at-requires c =
    let f = c.args.file.now in
    let r = c.args.relay in
    let e = c.in_ok-found.ensures in
    let n = relay_zero _ r 0 refl c.in_ok-relay_fault.ensures in
    (columns_sound f r _ (given_zero f r e.answers) e.passed.table, relay_element _ _ n, few_rows _ _ n)

pub returns : goal.returns
returns c =
    let f = c.args.file.now in
    let r = c.args.relay in
    let e = c.in_ok-found.ensures in
    let h = e.passed.table in
    splits_done f r (given_zero f r e.answers) (none_held f r _ h (relay_zero _ r 0 refl c.in_ok-relay_fault.ensures))
    (split_held f r _ h c.split_at.ensures)
