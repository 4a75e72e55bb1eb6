-- Each answer has its number; an entry number is below 256.
-- Assumes nothing.
use Rattle.std.proofs.Common.{◌∙◌}
use Rattle.gateway.proofs.Numbers.{entry_fits, entry_number, uncaught_number, refused_number}
use Rattle.gateway.proofs.exports.policy_lookup.Goals as goal

pub overflow_cast-result : goal.overflow_cast-result
overflow_cast-result c = search entry_fits

pub returns-in-Ok-Some : goal.returns-in-Ok-Some
returns-in-Ok-Some c = search entry_number

pub returns-in-Ok-None : goal.returns-in-Ok-None
returns-in-Ok-None c = search uncaught_number

pub returns-in-Err : goal.returns-in-Err
returns-in-Err c = let n = c.from.ensures ∙ c.number.ensures in search refused_number
