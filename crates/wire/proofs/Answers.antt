-- What an answer leaves behind.
-- Assumes nothing.
use Prim.Native.Nat.{ℕ}
use mathlib.Core.Path.{◌≡◌, sym, ◌∙◌, ap}
use mathlib.Core.Bool.{Bool, cond}
use mathlib.Core.List.{List}
use Rattle.policy.specs.declared.refusal.Refusal.{Refusal}
use Rattle.policy.specs.Refusals.{Answer, refusal, accepted}
use Rattle.policy.proofs.Refusals.{refusal_refuses}
use Rattle.wire.specs.Answers.{ifAccepted}

pub after-accepted {ℓ} : {A : Type ℓ} (vs : List ℕ) (a : Answer) (x y : A) → accepted vs ≡ a → x ≡ ifAccepted a x y
after-accepted vs a x y e = ap (λ (t : Answer). ifAccepted t x y) e

pub after-refused {ℓ} : {A : Type ℓ} (r : Refusal) (a : Answer) (x y : A) → refusal r ≡ a → y ≡ ifAccepted a x y
after-refused r a x y e = sym (ap (λ (b : Bool). cond b x y) (refusal_refuses r)) ∙ ap (λ (t : Answer). ifAccepted t x y) e
