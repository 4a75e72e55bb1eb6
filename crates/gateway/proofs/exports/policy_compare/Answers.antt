-- Each answer has its number, and the buffer its bytes.
-- Assumes nothing.
use Rattle.std.proofs.Common.{◌∙◌}
use Rattle.gateway.proofs.Numbers.{says_yes, says_no, refuses_first, refuses_second}
use Rattle.gateway.proofs.exports.policy_compare.Goals as goal

pub returns-in-Ok-None : goal.returns-in-Ok-None
returns-in-Ok-None c = search says_yes

pub returns-in-Ok-Some : goal.returns-in-Ok-Some
returns-in-Ok-Some c = search says_no

pub returns-in-Err-First : goal.returns-in-Err-First
returns-in-Err-First c = let n = c.from.ensures ∙ c.number.ensures in search refuses_first

pub returns-in-Err-Second : goal.returns-in-Err-Second
returns-in-Err-Second c = let n = c.from-in-Err-Second.ensures ∙ c.number-in-Err-Second.ensures in search refuses_second
