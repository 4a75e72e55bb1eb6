-- The lesser of findings.
use Rattle.policy.specs.declared.header.Header.{Header}
use Rattle.std.specs.Prelude.{cond, List, [], ◌∷◌, None, Option, Some}
use Rattle.policy.specs.Header.{before}

-- the lesser of two findings
abbrev pub lesser : Option Header → Option Header → Option Header
lesser None s = s
lesser (Some h) None = Some h
lesser (Some h) (Some g) = cond (before g h) (Some g) (Some h)

-- the least of what f finds over a list
abbrev pub minOver {ℓ} : {A : Type ℓ} → (A → Option Header) → List A → Option Header
minOver f [] = None
minOver f (x ∷ xs) = lesser (f x) (minOver f xs)

-- the same with a finding to start from
abbrev pub minFrom {ℓ} : {A : Type ℓ} → Option Header → (A → Option Header) → List A → Option Header
minFrom z f [] = z
minFrom z f (x ∷ xs) = lesser (f x) (minFrom z f xs)
