-- What an answer leaves behind.
use Rattle.std.specs.Prelude.{cond}
use Rattle.policy.specs.Refusals.{Answer, is_accepted}

-- one thing after an acceptance, another after a refusal
abbrev pub ifAccepted {ℓ} : {A : Type ℓ} → Answer → A → A → A
ifAccepted a x y = cond (is_accepted a) x y
