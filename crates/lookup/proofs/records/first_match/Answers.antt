use native.Mathlib.Omega.{arith}
use borrow.Author.Rules.{rules}
use Rattle.wire.specs.Format.{version_in}
use Rattle.wire.proofs.Sizes.{size_next, size_within, entry_within}
use Rattle.lookup.proofs.PackedMatch.{entry_tested, matched, unmatched, ended}
use Rattle.lookup.proofs.records.first_match.Goals as goal

pub record_place-requires : goal.record_place-requires
record_place-requires c =
    let a = c.args in
    omega (arith, size_within (version_in a.file.now) c.loop-i.i a.n (search rules))

pub record_matches-requires : goal.record_matches-requires
record_matches-requires c =
    let a = c.args in
    let i = c.loop-i.i in
    omega (arith, c.record_place.ensures, size_next (version_in a.file.now) i, entry_within a.file.now i a.n (search rules) (search rules))

pub returns-then-record_matches : goal.returns-then-record_matches
returns-then-record_matches c =
    let a = c.args in
    let l = c.loop-i in
    matched a.file.now a.n a.h l.i (search rules) l.invariant _
    (entry_tested a.file.now l.i _ a.h _ c.record_place.ensures c.record_matches.ensures) c.if-record_matches.true

pub loop-i-preserved : goal.loop-i-preserved
loop-i-preserved c =
    let a = c.args in
    let l = c.loop-i in
    unmatched a.file.now a.n a.h l.i (search rules) l.invariant _
    (entry_tested a.file.now l.i _ a.h _ c.record_place.ensures c.record_matches.ensures) c.if-record_matches.false

pub returns : goal.returns
returns c = search ended
