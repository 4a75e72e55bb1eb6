-- The checks in their order; the bench goes on with any list of calls that led to it.
-- Assumes nothing.
use Rattle.bench.proofs.Calling.{withdraw_low, withdraw_high, withdraw_vacant, withdraw_done}
use Rattle.bench.proofs.calls.Bench.withdraw.Goals as goal

pub returns-then-party-lt1 : goal.returns-then-party-lt1
returns-then-party-lt1 c =
    let k = withdraw_low c.args.self c.args.party c.if-party-lt1.true in
    record { answers = k.0; traced = k.1 }

pub returns-then-party-gt8 : goal.returns-then-party-gt8
returns-then-party-gt8 c =
    let k = withdraw_high c.args.self c.args.party c.if-party-lt1.false c.if-party-gt8.true in
    record { answers = k.0; traced = k.1 }

pub returns-then-old-eq0 : goal.returns-then-old-eq0
returns-then-old-eq0 c =
    let k = withdraw_vacant c.args.self c.args.party c.if-party-lt1.false c.if-party-gt8.false c.if-old-eq0.true in
    record { answers = k.0; traced = k.1 }

pub returns : goal.returns
returns c =
    let k = withdraw_done c.args.self c.args.party c.vacant_slot-slot.result c.if-party-lt1.false c.if-party-gt8.false c.if-old-eq0.false c.vacant_slot-slot.ensures in
    record { answers = k.0; traced = k.1 }
