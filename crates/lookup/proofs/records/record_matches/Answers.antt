-- Matching is a row of six tests: a field that misses stops it (`stops`), one that matches leaves it to the others (`goes_on`), and the direction decides
-- (`covers-both`, `covers-its-own`).
-- Assumes nothing.
use native.Mathlib.Omega.{arith}
use Rattle.policy.proofs.Conjunctions.{stops, goes_on}
use Rattle.wire.proofs.Sizes.{size_least, size_other}
use Rattle.lookup.proofs.PackedMatch.{covers_both, covers_its_own}
use Rattle.lookup.proofs.records.record_matches.Goals as goal

pub is_within-requires : goal.is_within-requires
is_within-requires c = (omega (arith, size_least c.args.version), omega (arith, size_least c.args.version))

pub returns-then-not-is_within : goal.returns-then-not-is_within
returns-then-not-is_within c =
    stops _ _ _ c.is_within.ensures c.if-not-is_within.true

pub is_within-requires-2 : goal.is_within-requires-2
is_within-requires-2 c = (omega (arith, size_least c.args.version), omega (arith, size_least c.args.version))

pub returns-then-not-is_within-2 : goal.returns-then-not-is_within-2
returns-then-not-is_within-2 c =
    goes_on _ _ _ _ c.is_within.ensures c.if-not-is_within.false
    (stops _ _ _ c.is_within-2.ensures c.if-not-is_within-2.true)

pub is_within-requires-3 : goal.is_within-requires-3
is_within-requires-3 c = (omega (arith, size_least c.args.version), omega (arith, size_least c.args.version))

pub returns-then-not-is_within-3 : goal.returns-then-not-is_within-3
returns-then-not-is_within-3 c =
    goes_on _ _ _ _ c.is_within.ensures c.if-not-is_within.false
    (goes_on _ _ _ _ c.is_within-2.ensures c.if-not-is_within-2.false
    (stops _ _ _ c.is_within-3.ensures c.if-not-is_within-3.true))

pub is_within-requires-4 : goal.is_within-requires-4
is_within-requires-4 c = (omega (arith, size_least c.args.version), omega (arith, size_least c.args.version))

pub returns-then-not-is_within-4 : goal.returns-then-not-is_within-4
returns-then-not-is_within-4 c =
    goes_on _ _ _ _ c.is_within.ensures c.if-not-is_within.false
    (goes_on _ _ _ _ c.is_within-2.ensures c.if-not-is_within-2.false
    (goes_on _ _ _ _ c.is_within-3.ensures c.if-not-is_within-3.false
    (stops _ _ _ c.is_within-4.ensures c.if-not-is_within-4.true)))

pub is_within-requires-5 : goal.is_within-requires-5
is_within-requires-5 c = (omega (arith, size_least c.args.version), omega (arith, size_least c.args.version))

pub returns-then-not-is_within-5 : goal.returns-then-not-is_within-5
returns-then-not-is_within-5 c =
    goes_on _ _ _ _ c.is_within.ensures c.if-not-is_within.false
    (goes_on _ _ _ _ c.is_within-2.ensures c.if-not-is_within-2.false
    (goes_on _ _ _ _ c.is_within-3.ensures c.if-not-is_within-3.false
    (goes_on _ _ _ _ c.is_within-4.ensures c.if-not-is_within-4.false
    (stops _ _ _ c.is_within-5.ensures c.if-not-is_within-5.true))))

pub returns-then-version-eq1 : goal.returns-then-version-eq1
returns-then-version-eq1 c =
    goes_on _ _ _ _ c.is_within.ensures c.if-not-is_within.false
    (goes_on _ _ _ _ c.is_within-2.ensures c.if-not-is_within-2.false
    (goes_on _ _ _ _ c.is_within-3.ensures c.if-not-is_within-3.false
    (goes_on _ _ _ _ c.is_within-4.ensures c.if-not-is_within-4.false
    (goes_on _ _ _ _ c.is_within-5.ensures c.if-not-is_within-5.false
    (covers_both c.args.version c.args.s.now c.args.at c.args.h.direction c.if-version-eq1.true)))))

pub is_within-requires-6 : goal.is_within-requires-6
is_within-requires-6 c = (omega (arith, size_other c.args.version c.if-version-eq1.false), omega (arith, size_other c.args.version c.if-version-eq1.false))

pub returns : goal.returns
returns c =
    goes_on _ _ _ _ c.is_within.ensures c.if-not-is_within.false
    (goes_on _ _ _ _ c.is_within-2.ensures c.if-not-is_within-2.false
    (goes_on _ _ _ _ c.is_within-3.ensures c.if-not-is_within-3.false
    (goes_on _ _ _ _ c.is_within-4.ensures c.if-not-is_within-4.false
    (goes_on _ _ _ _ c.is_within-5.ensures c.if-not-is_within-5.false
    (covers_its_own c.args.version c.args.s.now c.args.at c.args.h.direction _ c.if-version-eq1.false c.is_within-6.ensures)))))
