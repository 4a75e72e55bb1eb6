-- The loop of `search_pieces` cuts the row off: of the part above and the one kept, one is searched, and each meets fewer rows. That of `least_in_piece` goes on with
-- the part kept.
use Rattle.std.proofs.Common.{arith, rules}
use Rattle.region.proofs.Steps.{cutting_first, cutting_again, cutting_anew, cutting_piece, parted, open_first, open_fits, open_free, open_covered, open_reached, open_again, falls_down, under}
use Rattle.region.proofs.least.+least_in_piece_search_pieces.Goals as goal

pub least_in_piece-loop-picked-init : goal.least_in_piece-loop-picked-init
least_in_piece-loop-picked-init t c = (omega arith, (search rules, search open_first))

pub least_in_piece-low_corner-requires : goal.least_in_piece-low_corner-requires
least_in_piece-low_corner-requires t c = search open_fits

pub least_in_piece-returns-in-Free : goal.least_in_piece-returns-in-Free
least_in_piece-returns-in-Free t c = search open_free

pub least_in_piece-returns-in-Covered : goal.least_in_piece-returns-in-Covered
least_in_piece-returns-in-Covered t c = search open_covered

pub least_in_piece-returns-then-row_reaches : goal.least_in_piece-returns-then-row_reaches
least_in_piece-returns-then-row_reaches t c = search open_reached

pub least_in_piece-loop-picked-preserved : goal.least_in_piece-loop-picked-preserved
least_in_piece-loop-picked-preserved t c = (search (under, rules), (search rules, open_again _ _ _ _ _ _ _ c.loop-picked.invariant.1.1 _ _ _ _ c.search_pieces-found.ensures.1 c.pick_header-picked-in-Held.ensures.1.0 c.pick_header-picked-in-Held.ensures.1.1))

pub search_pieces-loop-next-init : goal.search_pieces-loop-next-init
search_pieces-loop-next-init t c =
    let d = c.requires.1.1 in
    let o = rw c.unwrap-g.ensures at c.next_field.ensures in
    (((search rules, search rules), c.next_field-next.ensures), cutting_first _ _ _ _ _ _ d o.1 _ _ c.keep_above.ensures.1 c.keep_up_to.ensures.1 _)

pub search_pieces-least_in_piece-found-requires : goal.search_pieces-least_in_piece-found-requires
search_pieces-least_in_piece-found-requires t c =
    let i = c.loop-next.invariant.1 in
    let o = rw c.in-Some.is at c.loop-next.invariant.0.1 in
    (falls_down _ _ c.decreases i.piece.0, (search rules, cutting_piece _ _ _ _ _ _ _ _ _ _ _ i o.1 _ c.keep_above-in-Some.ensures.1))

pub search_pieces-loop-next-preserved-then-goes_first : goal.search_pieces-loop-next-preserved-then-goes_first
search_pieces-loop-next-preserved-then-goes_first t c =
    let o = rw c.in-Some.is at c.loop-next.invariant.0.1 in
    (((search rules, search rules), c.next_field-next-in-Some.ensures), cutting_again _ _ _ _ _ _ _ _ _ _ _ c.loop-next.invariant.1 o.1 _ _ c.keep_above-in-Some.ensures.1 c.keep_up_to-in-Some.ensures.1 _ c.least_in_piece-found.ensures)

pub search_pieces-loop-next-preserved : goal.search_pieces-loop-next-preserved
search_pieces-loop-next-preserved t c =
    let o = rw c.in-Some.is at c.loop-next.invariant.0.1 in
    (((search rules, search rules), c.next_field-next-in-Some.ensures), cutting_anew _ _ _ _ _ _ _ _ _ _ _ c.loop-next.invariant.1 o.1 _ _ c.keep_above-in-Some.ensures.1 c.keep_up_to-in-Some.ensures.1 _ c.least_in_piece-found-else-goes_first.ensures)

pub search_pieces-returns : goal.search_pieces-returns
search_pieces-returns t c =
    let d = c.requires.1.1 in
    let o = rw c.unwrap-g.ensures at c.next_field.ensures in
    let r = rw c.in_default.is at c.loop-next.invariant.0.1 in
    (search rules, parted _ _ _ _ _ _ d o.1 _ _ c.keep_above.ensures.1 c.keep_up_to.ensures.1 _ _ _ _ c.loop-next.invariant.1 r)
