-- By induction on the entries left, each function above the other.
use Rattle.std.proofs.Common.{◌≡◌, ◌+◌, ◌*◌, ◌≤◌, ◌++◌, length}
use Rattle.policy.specs.Header.{arity, headers}
use Rattle.policy.specs.Sides.{box_of}
use Rattle.policy.specs.steps.Rows.{sides, rows_in}
use Rattle.region.specs.steps.Pieces.{Next}
use Rattle.region.proofs.Steps.{Cutting, Open}
use Rattle.region.proofs.Split.{shorts}
use Rattle.region.proofs.least.+least_in_piece_search_pieces.Given as goal

abbrev pub decreases-least_in_piece : goal.decreases-least_in_piece
decreases-least_in_piece l = 2 * l.left + 1

abbrev pub decreases-search_pieces : goal.decreases-search_pieces
decreases-search_pieces l = 2 * l.left

-- what is still to be found in the part kept
abbrev pub invariant-least_in_piece-loop-picked : goal.invariant-least_in_piece-loop-picked
invariant-least_in_piece-loop-picked l =
    (l.n ≤ l.left) × ((length l.x ≡ sides) × Open (rows_in l.a ++ rows_in l.b) (box_of l.initial.x 0) l.initial.found (box_of l.x 0) l.found l.n l.picked)

abbrev pub decreases-least_in_piece-loop-picked : goal.decreases-least_in_piece-loop-picked
decreases-least_in_piece-loop-picked l = l.n

-- the row is cut off: the part below and the part that is kept have what is still to be found
abbrev pub invariant-search_pieces-loop-next : goal.invariant-search_pieces-loop-next
invariant-search_pieces-loop-next l =
    (((length l.x ≡ sides) × (length l.kept ≡ sides)) × Next (box_of l.x 0) (box_of l.s 0) l.next)
    × Cutting headers (rows_in l.a ++ rows_in l.b) (box_of l.s 0) l.left (box_of l.initial.x 0) (box_of l.initial.kept 0) l.initial.found (box_of l.x 0) (box_of l.kept 0) l.found

abbrev pub decreases-search_pieces-loop-next : goal.decreases-search_pieces-loop-next
decreases-search_pieces-loop-next l = shorts arity (box_of l.x 0) (box_of l.s 0)
