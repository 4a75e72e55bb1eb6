-- Headers, their order, and sets of headers (01, "Headers, entries, lists").
use Rattle.std.specs.Prelude.{ℕ, zero, suc, ◌+◌, ◌-◌, ◌^◌, ◌≡◌, refl, Bool, true, false, cond, ◌&&◌, ◌||◌, List, [], ◌∷◌, map}
use Rattle.policy.specs.declared.header.Header.{Header}
use Rattle.policy.specs.Row.{Row, precedes}
use Rattle.policy.specs.Box.{Range, range, inside, highs_fit}
use Rattle.policy.specs.Ports.{Ports, ports, one_of}

-- how many numbers a header has
abbrev pub arity : ℕ
arity = 6

-- the widths of a header's numbers in bits, in the sequence that decides the order; the direction, 0 in and 1 out, is last (02, Wish 4)
abbrev pub widths : Row ℕ arity
widths = (32, (32, (16, (16, (8, (1, tt))))))

-- a header's numbers in that sequence
abbrev pub fields : Header → Row ℕ arity
fields h = (h.local, (h.remote, (h.local_port, (h.remote_port, (h.protocol, (h.direction, tt))))))

abbrev pub header : Row ℕ arity → Header
header x = record { local = x.0; remote = x.1.0; local_port = x.1.1.0; remote_port = x.1.1.1.0; protocol = x.1.1.1.1.0; direction = x.1.1.1.1.1.0 }

-- the order of headers: the first number that differs decides
abbrev pub before : Header → Header → Bool
before h g = precedes arity (fields h) (fields g)

-- a box has a range for each number of a header
abbrev pub Box : Type 0
Box = Row Range arity

-- the header lies in the box
abbrev pub lies : Box → Header → Bool
lies b h = inside arity b (fields h)

-- how many values each number has
abbrev pub sizes_of : (k : ℕ) → Row ℕ k → Row ℕ k
sizes_of zero ws = tt
sizes_of (suc k) ws = (2 ^ ws.0, sizes_of k ws.1)

abbrev pub sizes : Row ℕ arity
sizes = sizes_of arity widths

abbrev pub all_fit : List Box → Bool
all_fit [] = true
all_fit (b ∷ bs) = highs_fit arity sizes b && all_fit bs

-- a set of headers is a union of boxes whose numbers fit their widths; every law is over any such set
pub record Headers : Type 0 where
  pub boxes : List Box
  pub fit : all_fit boxes ≡ true

-- the header lies in one of the boxes
abbrev pub in_any : List Box → Header → Bool
in_any [] h = false
in_any (b ∷ bs) h = lies b h || in_any bs h

abbrev pub among : Headers → Header → Bool
among hs h = in_any hs.boxes h

-- every value of each number
abbrev pub fulls : (k : ℕ) → Row ℕ k → Row Range k
fulls zero ws = tt
fulls (suc k) ws = (range 0 (2 ^ ws.0 - 1), fulls k ws.1)

-- 01's ALL: the box of every header
abbrev pub everything : Box
everything = fulls arity widths

-- protocols in a row that have the same ports
pub record Span : Type 0 where
  pub local : Bool
  pub remote : Bool
  pub protocols : Range

-- the values of a port: every one, or 0 alone where there is no port
abbrev pub port_values : Bool → Range
port_values b = cond b everything.1.1.0 (range 0 0)

abbrev pub span_box : Span → Box
span_box s = (everything.0, (everything.1.0, (port_values s.local, (port_values s.remote, (s.protocols, (everything.1.1.1.1.1.0, tt))))))

-- the spans of the protocols from a number on, in which those listed have ports
abbrev pub spans_from : Ports → ℕ → List ℕ → List Span
spans_from ps from [] = record { local = false; remote = false; protocols = range from 255 } ∷ []
spans_from ps from (q ∷ qs) =
    record { local = false; remote = false; protocols = range from (q - 1) }
    ∷ record { local = one_of ps.local q; remote = one_of ps.remote q; protocols = range q q }
    ∷ spans_from ps (q + 1) qs

abbrev pub spans : Ports → List Span
spans ps = spans_from ps 0 ps.local

-- the headers where these protocols have these ports, as boxes: proofs/HeaderSet.antt shows that they are those of is_header
abbrev pub headers_of : (ps : Ports) → all_fit (map span_box (spans ps)) ≡ true → Headers
headers_of ps f = record { boxes = map span_box (spans ps); fit = f }

-- the headers
unfoldable pub headers : Headers
headers = headers_of ports refl
