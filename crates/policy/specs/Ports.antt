-- Which combinations of numbers are headers: a port is 0 where the protocol has no such port (02, Wish 1).
use Rattle.std.specs.Prelude.{ℕ, Bool, false, ◌&&◌, ◌||◌, List, [], ◌∷◌, eqb}
use Rattle.policy.specs.declared.header.Header.{Header}

-- the protocols that have a local port, and those that have a remote one, in rising order
pub record Ports : Type 0 where
  pub local : List ℕ
  pub remote : List ℕ

-- TCP, UDP, DCCP, SCTP and UDP-Lite
abbrev pub with_ports : List ℕ
with_ports = 6 ∷ 17 ∷ 33 ∷ 132 ∷ 136 ∷ []

abbrev pub ports : Ports
ports = record { local = with_ports; remote = with_ports }

-- the protocol is one of these
abbrev pub one_of : List ℕ → ℕ → Bool
one_of [] q = false
one_of (p ∷ ps) q = eqb q p || one_of ps q

-- a header, among combinations that fit their widths: each of its ports is one that its protocol has, or is 0
abbrev pub is_header : Ports → Header → Bool
is_header ps h =
    (one_of ps.local h.protocol || eqb h.local_port 0)
    && (one_of ps.remote h.protocol || eqb h.remote_port 0)
