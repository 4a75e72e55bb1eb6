use Rattle.policy.proofs.Protocols.{taken_more}
use Rattle.policy.proofs.ports.protocols_with_ports.Goals as goal

pub loop-q-preserved : goal.loop-q-preserved
loop-q-preserved c = search taken_more
