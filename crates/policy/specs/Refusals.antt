-- 01, "What is turned down", and the refusals that 02 adds: the table, and answers in its terms.
use Rattle.std.specs.Prelude.{ℕ, Bool, true, false, List, [], ◌∷◌, eqb, None, Option, Some}
use Rattle.policy.specs.declared.header.Header.{Header}
use Rattle.policy.specs.declared.refusal.Refusal.{Refusal}
use Rattle.policy.specs.declared.refusal.Refusal.TheVariants.{Missized, Version, Count, Crossed, Gap, Party, Vacant, Bare, Crowded, Conflict, Narrow, Ranking}

-- an answer in 01's terms: the number of the refusal, 0 where there is none, and the values that the answer carries
pub record Answer : Type 0 where
  pub number : ℕ
  pub values : List ℕ

-- a header as the values of an answer: its six numbers
abbrev pub numbers : Header → List ℕ
numbers h = h.local ∷ h.remote ∷ h.local_port ∷ h.remote_port ∷ h.protocol ∷ h.direction ∷ []

-- the table: each refusal's number and values; its word is the name
abbrev pub refusal : Refusal → Answer
refusal Missized = record { number = 1; values = [] }
refusal Version = record { number = 2; values = [] }
refusal Count = record { number = 3; values = [] }
refusal (Crossed i) = record { number = 4; values = i ∷ [] }
refusal (Gap h) = record { number = 5; values = numbers h }
refusal Party = record { number = 6; values = [] }
refusal Vacant = record { number = 7; values = [] }
refusal Bare = record { number = 8; values = [] }
refusal Crowded = record { number = 9; values = [] }
refusal (Conflict h) = record { number = 10; values = numbers h }
refusal (Narrow n) = record { number = 11; values = n ∷ [] }
refusal Ranking = record { number = 12; values = [] }

abbrev pub accepted : List ℕ → Answer
accepted vs = record { number = 0; values = vs }

-- none of the checks turned the call away
abbrev pub is_accepted : Answer → Bool
is_accepted a = eqb a.number 0

-- a check refuses where its condition holds
abbrev pub refuse : Bool → Refusal → Option Answer
refuse true r = Some (refusal r)
refuse false r = None

-- a check refuses where there is a header, and names it
abbrev pub refuse_at : (Header → Refusal) → Option Header → Option Answer
refuse_at r (Some h) = Some (refusal (r h))
refuse_at r None = None

-- each refusal is returned when its condition holds and none earlier does; where none holds, the answer is a
abbrev pub first_of : {A : Type 0} → List (Option A) → A → A
first_of [] a = a
first_of (Some r ∷ rs) a = r
first_of (None ∷ rs) a = first_of rs a
