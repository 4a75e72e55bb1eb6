-- The low corner does not come before best, or the pick decides.
use Rattle.policy.proofs.Least.{among_fits}
use Rattle.region.proofs.Steps.{pruned_before, picked_before}
use Rattle.region.proofs.pick.pick_before.Goals as goal

pub low_corner-requires : goal.low_corner-requires
low_corner-requires c = search among_fits

pub returns-then-not-is_improved : goal.returns-then-not-is_improved
returns-then-not-is_improved c = search pruned_before

pub returns : goal.returns
returns c = search picked_before
