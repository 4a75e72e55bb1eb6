-- Those still to come are taken on top of those passed.
use mathlib.Core.Path.{◌≡◌}
use lib.ListN.{drop}
use Rattle.policy.specs.Box.{range}
use Rattle.policy.specs.Ports.{with_ports}
use Rattle.policy.specs.steps.Narrowed.{narrowed}
use Rattle.policy.proofs.Protocols.{taken_all}
use Rattle.policy.proofs.ports.protocols_with_ports.Given as goal

abbrev pub invariant-loop-q : goal.invariant-loop-q
invariant-loop-q l = taken_all (range l.low l.high) (range l.r.first l.r.last) (drop l.q-index with_ports) ≡ narrowed with_ports (range l.low l.high)
