-- 01, "Examples": those marked P, as theorems about the meanings. P3, P4 and P6 to P11 are computed by the models and carried over.
-- Assumes nothing.
use Rattle.std.specs.Prelude.{ℕ, ◌+◌, ◌≡◌, refl, true, false, List, [], ◌∷◌, None, Some}
use Rattle.policy.specs.declared.header.Header.{Header}
use Rattle.policy.specs.declared.entry.Entry.{Entry}
use Rattle.policy.specs.declared.refusal.Refusal.TheVariants.{Conflict}
use Rattle.policy.specs.Box.{Range, range}
use Rattle.policy.specs.Header.{header, everything, headers}
use Rattle.policy.specs.Least.{least}
use Rattle.policy.specs.Actions.{discard, bypass}
use Rattle.policy.specs.Entry.{entry, crossed}
use Rattle.policy.specs.Policy.{catcher, missed}
use Rattle.lookup.specs.Lookup.{header_catcher}
use Rattle.region.proofs.Model.{gap_is}
use Rattle.reconcile.specs.Rules.{refused, merged, merge_of}
use Rattle.reconcile.proofs.Model.{merge_by-is}

-- ---- how 01 writes headers and entries

-- a header as 01's five numbers, inbound
abbrev at : ℕ → ℕ → ℕ → ℕ → ℕ → Header
at l r p q t = header (l, (r, (p, (q, (t, (0, tt))))))

-- every address, port, protocol and direction
abbrev any_address : Range
any_address = everything.0

abbrev any_port : Range
any_port = everything.1.1.0

abbrev any_protocol : Range
any_protocol = everything.1.1.1.1.0

abbrev both_ways : Range
both_ways = everything.1.1.1.1.1.0

-- ALL
abbrev all : ℕ → Entry
all s = entry everything s

-- some local addresses; remote addresses, local ports and protocols; protocols
abbrev from_local : Range → ℕ → Entry
from_local a s = entry (a, (any_address, (any_port, (any_port, (any_protocol, (both_ways, tt)))))) s

abbrev selecting : Range → Range → Range → ℕ → Entry
selecting a l n s = entry (any_address, (a, (l, (any_port, (n, (both_ways, tt)))))) s

abbrev protocols : Range → ℕ → Entry
protocols n s = selecting any_address any_port n s

-- ---- first match

-- P1. List ALL {discard, bypass}: 0,0,0,0,0 is caught by entry 0.
pub p1 : header_catcher (all (discard + bypass) ∷ []) (at 0 0 0 0 0) ≡ Some 0
unfolding headers
p1 = refl

-- P2. Local port 80, protocol 6 {bypass}; ALL {discard}: port 80 with 6 gives entry 0, ports 79 and 81 entry 1.
abbrev web_first : List Entry
web_first = selecting any_address (range 80 80) (range 6 6) bypass ∷ all discard ∷ []

pub p2_80 : header_catcher web_first (at 0 0 80 0 6) ≡ Some 0
unfolding headers
p2_80 = refl

pub p2_79 : header_catcher web_first (at 0 0 79 0 6) ≡ Some 1
unfolding headers
p2_79 = refl

pub p2_81 : header_catcher web_first (at 0 0 81 0 6) ≡ Some 1
unfolding headers
p2_81 = refl

-- ---- gap; whatever the action sets are

-- P3. Only protocols 0 to 254: gap, 0,0,0,0,255.
pub p3 : (a : ℕ) → least headers (missed (protocols (range 0 254) a ∷ [])) ≡ Some (at 0 0 0 0 255)
unfolding headers
p3 a = gap_is headers (protocols (range 0 254) a ∷ [])

-- P4. Local addresses 0 to 2147483647, then 2147483648 to 4294967295: no gap.
pub p4 : (a b : ℕ) → least headers (missed (from_local (range 0 2147483647) a ∷ from_local (range 2147483648 4294967295) b ∷ [])) ≡ None
unfolding headers
p4 a b = gap_is headers (from_local (range 0 2147483647) a ∷ from_local (range 2147483648 4294967295) b ∷ [])

-- ---- crossed

-- P5. Protocol low 5, high 4: crossed. Low 5, high 5 is good.
pub p5_crossed : (a : ℕ) → crossed (protocols (range 5 4) a) ≡ true
p5_crossed a = refl

pub p5_good : (a : ℕ) → crossed (protocols (range 5 5) a) ≡ false
p5_good a = refl

-- ---- merging the lists in force, in rising number of their parties

-- P6. ALL {bypass} against ALL {discard}: conflict at 0,0,0,0,0.
pub p6 : merge_of headers ((all bypass ∷ []) ∷ (all discard ∷ []) ∷ []) ≡ refused (Conflict (at 0 0 0 0 0))
unfolding headers
p6 = merge_by-is headers ((all bypass ∷ []) ∷ (all discard ∷ []) ∷ [])

-- the entries that clash there (02, Wish 5), each in its list
pub p6_entries : (catcher (all bypass ∷ []) (at 0 0 0 0 0) ≡ Some 0) × (catcher (all discard ∷ []) (at 0 0 0 0 0) ≡ Some 0)
p6_entries = (refl, refl)

-- policies A and B of 004's appendix: ESP transport is bit 2, the net is 10.1.*.*, and A3 allows x
abbrev esp_transport : ℕ
esp_transport = 4

abbrev net : Range
net = range 167837696 167903231

abbrev policy_a : ℕ → List Entry
policy_a x =
    selecting net any_port any_protocol (discard + bypass + esp_transport)
    ∷ protocols (range 6 6) (discard + esp_transport)
    ∷ protocols (range 1 1) x
    ∷ all discard
    ∷ []

abbrev policy_b : List Entry
policy_b = selecting any_address (range 80 80) (range 6 6) (bypass + esp_transport) ∷ all discard ∷ []

-- P7. Policies A (party 1) and B (party 2): conflict at 0,0,0,0,1.
pub p7 : merge_of headers (policy_a bypass ∷ policy_b ∷ []) ≡ refused (Conflict (at 0 0 0 0 1))
unfolding headers
p7 = merge_by-is headers (policy_a bypass ∷ policy_b ∷ [])

-- A's third entry and B's second, the pair C32
pub p7_entries : (catcher (policy_a bypass) (at 0 0 0 0 1) ≡ Some 2) × (catcher policy_b (at 0 0 0 0 1) ≡ Some 1)
p7_entries = (refl, refl)

-- P8. The same with A3 allowing bypass and discard: three entries, C11, C21, C42.
abbrev policy_d : List Entry
policy_d =
    selecting net (range 80 80) (range 6 6) (bypass + esp_transport)
    ∷ selecting any_address (range 80 80) (range 6 6) esp_transport
    ∷ all discard
    ∷ []

pub p8 : merge_of headers (policy_a (discard + bypass) ∷ policy_b ∷ []) ≡ merged policy_d
unfolding headers
p8 = merge_by-is headers (policy_a (discard + bypass) ∷ policy_b ∷ [])

-- P9. ALL {discard}, ALL {bypass}, alone: merges to one entry, {discard}.
pub p9 : merge_of headers ((all discard ∷ all bypass ∷ []) ∷ []) ≡ merged (all discard ∷ [])
unfolding headers
p9 = merge_by-is headers ((all discard ∷ all bypass ∷ []) ∷ [])

-- P10. Protocol 1 {} before ALL {discard}: conflict at 0,0,0,0,1. After it: merges to one entry.
pub p10_before : merge_of headers ((protocols (range 1 1) 0 ∷ all discard ∷ []) ∷ []) ≡ refused (Conflict (at 0 0 0 0 1))
unfolding headers
p10_before = merge_by-is headers ((protocols (range 1 1) 0 ∷ all discard ∷ []) ∷ [])

pub p10_entry : catcher (protocols (range 1 1) 0 ∷ all discard ∷ []) (at 0 0 0 0 1) ≡ Some 0
p10_entry = refl

pub p10_after : merge_of headers ((all discard ∷ protocols (range 1 1) 0 ∷ []) ∷ []) ≡ merged (all discard ∷ [])
unfolding headers
p10_after = merge_by-is headers ((all discard ∷ protocols (range 1 1) 0 ∷ []) ∷ [])

-- P11. Local ports 0 to 99 {discard}, ALL {discard}: merges to the second alone.
pub p11 : merge_of headers ((selecting any_address (range 0 99) any_protocol discard ∷ all discard ∷ []) ∷ []) ≡ merged (all discard ∷ [])
unfolding headers
p11 = merge_by-is headers ((selecting any_address (range 0 99) any_protocol discard ∷ all discard ∷ []) ∷ [])
