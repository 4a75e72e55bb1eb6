-- The least header of a set with a property: what every answer of 01 that names a header, or says that there is none, goes by.
use Rattle.std.specs.Prelude.{ℕ, zero, suc, Bool, ◌&&◌, None, Option}
use Rattle.policy.specs.declared.header.Header.{Header}
use Rattle.policy.specs.Row.{Row}
use Rattle.policy.specs.Header.{arity, sizes, header, Box, lies, Headers, among}
use Rattle.policy.specs.Found.{or_else, here}

-- What f finds at the least number below n at which it finds something. Only one law opens it (proofs/First.antt): nobody counts to 2 ^ 32.
unfoldable pub first : ℕ → (ℕ → Option Header) → Option Header
first zero f = None
first (suc n) f = or_else (first n f) (f n)

-- what f finds at the least row, below the sizes, at which it finds something
unfoldable pub scan : (k : ℕ) → Row ℕ k → (Row ℕ k → Option Header) → Option Header
scan zero ns f = f tt
scan (suc k) ns f = first ns.0 λ n. scan k ns.1 λ x. f (n, x)

-- the least header of the set with the property
unfoldable pub least : Headers → (Header → Bool) → Option Header
least hs P = scan arity sizes λ x. here (λ h. among hs h && P h) (header x)

-- the least header of the set that lies in the box and has the property
unfoldable pub least_in : Headers → Box → (Header → Bool) → Option Header
least_in hs b P = least hs λ h. lies b h && P h
