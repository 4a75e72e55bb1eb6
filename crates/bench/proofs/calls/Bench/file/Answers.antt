-- The checks in their order; the bench goes on with any list of calls that led to it.
-- Assumes nothing.
use Rattle.bench.proofs.Calling.{file_low, file_high, good_fits, file_refused, file_accepted}
use Rattle.bench.proofs.calls.Bench.file.Goals as goal

pub returns-then-party-lt1 : goal.returns-then-party-lt1
returns-then-party-lt1 c =
    let k = file_low c.args.self c.args.party c.args.bytes.now c.if-party-lt1.true in
    record { answers = k.0; traced = k.1 }

pub returns-then-party-gt8 : goal.returns-then-party-gt8
returns-then-party-gt8 c =
    let k = file_high c.args.self c.args.party c.args.bytes.now c.if-party-lt1.false c.if-party-gt8.true in
    record { answers = k.0; traced = k.1 }

pub slot_with-slot-requires : goal.slot_with-slot-requires
slot_with-slot-requires c = search good_fits

pub returns-in-Err : goal.returns-in-Err
returns-in-Err c =
    let k = file_refused c.args.self c.args.party c.args.bytes.now c.check_list.result c.if-party-lt1.false c.if-party-gt8.false c.check_list.ensures c.in-Err.r c.in-Err.is in
    record { answers = k.0; traced = k.1 }

pub returns-in-Ok : goal.returns-in-Ok
returns-in-Ok c =
    let k = file_accepted c.args.self c.args.party c.args.bytes.now c.check_list.result c.if-party-lt1.false c.if-party-gt8.false c.check_list.ensures c.in-Ok.n c.slot_with-slot.result c.in-Ok.is c.slot_with-slot.ensures in
    record { answers = k.0; traced = k.1 }
