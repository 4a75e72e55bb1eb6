-- The headers, as boxes, are those of the sentence is_header: by a test that is computed for each of the 256 protocols. Over any ports.
-- Assumes nothing.
use Prim.Native.Nat.{ℕ, zero, suc, ◌<◌, ◌≤◌, ◌-◌, ◌^◌}
use native.Mathlib.Omega.{arith}
use mathlib.Core.Path.{◌≡◌, refl, sym, ◌∙◌, ap, ap₂, subst}
use mathlib.Core.Bool.{Bool, true, false, not, ◌&&◌, ◌||◌, and-false, and-true, and-or_distrib_left}
use mathlib.Core.List.{List, [], ◌∷◌, map}
use lib.Dec.{ltb, eqb}
use borrow.Author.Tests.{ltb-true, ltb-false, lt-ltb, eqb-true, eq-eqb, ne_eqb}
use Rattle.policy.specs.declared.header.Header.{Header}
use Rattle.policy.specs.Row.{Row}
use Rattle.policy.specs.Box.{range, within, inside}
use Rattle.policy.specs.steps.Boxes.{fits}
use Rattle.policy.specs.Ports.{Ports, with_ports, ports, one_of, is_header}
use Rattle.policy.specs.Header.{arity, widths, fields, lies, sizes, sizes_of, all_fit, in_any, among, fulls, everything, Headers, Span, port_values, span_box, spans, headers_of, headers}
use Rattle.policy.proofs.Bool.{clash, is_false, not_true, and_intro, and_left, and_right, same_truth}
use Rattle.policy.proofs.Box.{within_by, le_high, in_first, in_rest}
use Rattle.policy.proofs.Corner.{fits_first, fits_rest, fits_at}
use Rattle.policy.proofs.Least.{inside_fits, among_fits}

-- ---- the box of everything holds what fits

in_full : (k : ℕ) (ws x : Row ℕ k) → fits k (sizes_of k ws) x ≡ true → inside k (fulls k ws) x ≡ true
in_full zero ws x f = refl
in_full (suc k) ws x f =
    and_intro (within_by (range 0 (2 ^ ws.0 - 1)) x.0 (omega arith) (below x.0 (2 ^ ws.0) (fits_first k (sizes_of (suc k) ws) x f)))
    (in_full k ws.1 x.1 (fits_rest k (sizes_of (suc k) ws) x f))
  where
    below : (m n : ℕ) → m < n → m ≤ n - 1
    below m n l = omega arith

pub in_everything : (hs : Headers) (h : Header) → among hs h ≡ true → lies everything h ≡ true
in_everything hs h a = in_full arity widths (fields h) (among_fits hs h a)

-- ---- the test

abbrev same : Bool → Bool → Bool
same true b = b
same false b = not b

-- some span has the protocol
abbrev spanned : List Span → ℕ → Bool
spanned [] q = false
spanned (s ∷ ss) q = within s.protocols q || spanned ss q

-- each that has it has these ports
abbrev agreeing : List Span → ℕ → Bool → Bool → Bool
agreeing [] q l r = true
agreeing (s ∷ ss) q l r = (not (within s.protocols q) || (same s.local l && same s.remote r)) && agreeing ss q l r

-- the spans say of the protocol what the lists say
abbrev right_at : Ports → ℕ → Bool
right_at ps q = spanned (spans ps) q && agreeing (spans ps) q (one_of ps.local q) (one_of ps.remote q)

abbrev pub right_below : ℕ → Ports → Bool
right_below zero ps = true
right_below (suc n) ps = right_at ps n && right_below n ps

right_tells : (n : ℕ) (ps : Ports) → right_below n ps ≡ true → (q : ℕ) → q < n → right_at ps q ≡ true
right_tells zero ps t q l = absurd (omega arith)
right_tells (suc n) ps t q l = go (ltb q n) refl (right_tells n ps (and_right (right_at ps n) (right_below n ps) t) q)
  where
    last : (q n : ℕ) → n ≤ q → q < suc n → n ≡ q
    last q n a b = omega arith

    go : (b : Bool) → ltb q n ≡ b → (q < n → right_at ps q ≡ true) → right_at ps q ≡ true
    go true e ih = ih (ltb-true q n e)
    go false e ih = subst (λ (m : ℕ). right_at ps m ≡ true) (last q n (ltb-false q n e) l) (and_left (right_at ps n) (right_below n ps) t)

-- ---- the law

same_is : (a b : Bool) → same a b ≡ true → a ≡ b
same_is true b e = sym e
same_is false b e = sym (not_true e)

module _ (h : Header) where
  -- the addresses and the direction fit, and each port is one that there is, or 0
  abbrev Fitting : Bool → Bool → Bool
  Fitting l r =
      within everything.0 h.local
      && (within everything.1.0 h.remote
      && (within everything.1.1.1.1.1.0 h.direction
      && (within (port_values l) h.local_port && within (port_values r) h.remote_port)))

  span_is : (s : Span) → lies (span_box s) h ≡ (Fitting s.local s.remote && within s.protocols h.protocol)
  span_is s =
      last (within everything.0 h.local) (within everything.1.0 h.remote) (within (port_values s.local) h.local_port)
      (within (port_values s.remote) h.remote_port) (within s.protocols h.protocol) (within everything.1.1.1.1.1.0 h.direction)
    where
      last : (a b c d t u : Bool) → (a && (b && (c && (d && (t && (u && true)))))) ≡ ((a && (b && (u && (c && d)))) && t)
      last false b c d t u = refl
      last true false c d t u = refl
      last true true false d t false = refl
      last true true false d t true = refl
      last true true true false t false = refl
      last true true true false t true = refl
      last true true true true t false = and-false t
      last true true true true t true = and-true t

  module _ (l r : Bool) where
    span_agrees : (s : Span) → (not (within s.protocols h.protocol) || (same s.local l && same s.remote r)) ≡ true
        → lies (span_box s) h ≡ (Fitting l r && within s.protocols h.protocol)
    span_agrees s e = span_is s ∙ go (within s.protocols h.protocol) e
      where
        go : (t : Bool) → (not t || (same s.local l && same s.remote r)) ≡ true → (Fitting s.local s.remote && t) ≡ (Fitting l r && t)
        go true e =
            ap₂ (λ (a b : Bool). Fitting a b && true) (same_is s.local l (and_left (same s.local l) (same s.remote r) e))
            (same_is s.remote r (and_right (same s.local l) (same s.remote r) e))
        go false e = and-false (Fitting s.local s.remote) ∙ sym (and-false (Fitting l r))

    -- where the spans that have the protocol agree, the boxes go by the ports
    spans_agree : (ss : List Span) → agreeing ss h.protocol l r ≡ true → in_any (map span_box ss) h ≡ (Fitting l r && spanned ss h.protocol)
    spans_agree [] e = sym (and-false (Fitting l r))
    spans_agree (s ∷ ss) e =
        let here = not (within s.protocols h.protocol) || (same s.local l && same s.remote r) in
        ap₂ ◌||◌ (span_agrees s (and_left here (agreeing ss h.protocol l r) e)) (spans_agree ss (and_right here (agreeing ss h.protocol l r) e))
        ∙ sym (and-or_distrib_left (Fitting l r) (within s.protocols h.protocol) (spanned ss h.protocol))

  -- a port that fits: any, or 0
  port_is : (b : Bool) (p : ℕ) → within everything.1.1.0 p ≡ true → within (port_values b) p ≡ (b || eqb p 0)
  port_is true p e = e
  port_is false p e = same_truth (within (range 0 0) p) (eqb p 0) (λ w. eq-eqb p 0 (none p (le_high (range 0 0) p w))) λ z. within_by (range 0 0) p (omega arith) (zero_le p (eqb-true p 0 z))
    where
      none : (p : ℕ) → p ≤ 0 → p ≡ 0
      none p l = omega arith

      zero_le : (p : ℕ) → p ≡ 0 → p ≤ 0
      zero_le p e = omega arith

  -- so, of numbers that fit, the sentence is left
  fitting_is : (l r : Bool) → lies everything h ≡ true → Fitting l r ≡ ((l || eqb h.local_port 0) && (r || eqb h.remote_port 0))
  fitting_is l r i =
      let a = in_first 5 everything (fields h) i in
      let i1 = in_rest 5 everything (fields h) i in
      let b = in_first 4 everything.1 (fields h).1 i1 in
      let i2 = in_rest 4 everything.1 (fields h).1 i1 in
      let c = in_first 3 everything.1.1 (fields h).1.1 i2 in
      let i3 = in_rest 3 everything.1.1 (fields h).1.1 i2 in
      let d = in_first 2 everything.1.1.1 (fields h).1.1.1 i3 in
      let i4 = in_rest 2 everything.1.1.1 (fields h).1.1.1 i3 in
      let e = in_first 0 everything.1.1.1.1.1 (fields h).1.1.1.1.1 (in_rest 1 everything.1.1.1.1 (fields h).1.1.1.1 i4) in
      ap₂ (λ (x y : Bool). x && (y && (within everything.1.1.1.1.1.0 h.direction && (within (port_values l) h.local_port && within (port_values r) h.remote_port)))) a b
      ∙ ap (◌&& (within (port_values l) h.local_port && within (port_values r) h.remote_port)) e
      ∙ ap₂ ◌&&◌ (port_is l h.local_port c) (port_is r h.remote_port d)

-- ---- the headers are those of the sentence, among what fits

module _ (ps : Ports) (f : all_fit (map span_box (spans ps)) ≡ true) (t : right_below 256 ps ≡ true) where
  pub headers_of_lem : (h : Header) → among (headers_of ps f) h ≡ (fits arity sizes (fields h) && is_header ps h)
  headers_of_lem h = go (fits arity sizes (fields h)) refl
    where
      small : fits arity sizes (fields h) ≡ true → h.protocol < 256
      small e = fits_at arity 4 sizes (fields h) (omega arith) e

      go : (b : Bool) → fits arity sizes (fields h) ≡ b → among (headers_of ps f) h ≡ (b && is_header ps h)
      go true e =
          let right = right_tells 256 ps t h.protocol (small e) in
          let l = one_of ps.local h.protocol in
          let r = one_of ps.remote h.protocol in
          spans_agree h l r (spans ps) (and_right (spanned (spans ps) h.protocol) (agreeing (spans ps) h.protocol l r) right)
          ∙ ap (Fitting h l r &&◌) (and_left (spanned (spans ps) h.protocol) (agreeing (spans ps) h.protocol l r) right)
          ∙ and-true (Fitting h l r)
          ∙ fitting_is h l r (in_full arity widths (fields h) e)
      go false e = is_false (among (headers_of ps f) h) λ a. clash (among_fits (headers_of ps f) h a) e

-- the set of every law and contract
pub headers_fit : (h : Header) → among headers h ≡ (fits arity sizes (fields h) && is_header ports h)
unfolding headers
headers_fit h = headers_of_lem ports refl refl h

-- so a header is what lies in ALL, its direction 0 or 1, and has its ports from its protocol
pub headers_are : (h : Header) → among headers h ≡ (lies everything h && is_header ports h)
headers_are h =
    headers_fit h
    ∙ ap (◌&& is_header ports h)
    (same_truth (fits arity sizes (fields h)) (lies everything h) (in_full arity widths (fields h)) (inside_fits arity sizes everything (fields h) refl))

-- ---- the code's test of a header in memory: its numbers fit, if its direction does

-- a direction above 1
pub no_direction : (h : Header) → 1 < h.direction → false ≡ among headers h
no_direction h l = sym (is_false (among headers h) λ a. off h.direction (fits_at arity 5 sizes (fields h) (omega arith) (among_fits headers h a)) l)
  where
    off : (n : ℕ) → n < 2 → 1 < n → ⊥
    off n a b = omega arith

module _ (h : Header) (a : h.local < 4294967296) (b : h.remote < 4294967296) (c : h.local_port < 65536) (d : h.remote_port < 65536) (e : h.protocol < 256) (f : h.direction ≤ 1) where
  fit : fits arity sizes (fields h) ≡ true
  fit =
      rw (
        lt-ltb h.local 4294967296 a,
        lt-ltb h.remote 4294967296 b,
        lt-ltb h.local_port 65536 c,
        lt-ltb h.remote_port 65536 d,
        lt-ltb h.protocol 256 e,
        lt-ltb h.direction 2 (omega arith),
      )

  header_is : (l r : Bool) → eqb h.local_port 0 ≡ l → eqb h.remote_port 0 ≡ r → among headers h ≡ ((one_of with_ports h.protocol || l) && (one_of with_ports h.protocol || r))
  header_is l r p q =
      headers_fit h
      ∙ ap (◌&& is_header ports h) fit
      ∙ ap₂ (λ (l r : Bool). (one_of with_ports h.protocol || l) && (one_of with_ports h.protocol || r)) p q

  -- a port is not 0: the protocol decides, whatever the other port is
  pub by_local_port : (t : Bool) → (h.local_port ≡ 0 → ⊥) → t ≡ one_of with_ports h.protocol → t ≡ among headers h
  by_local_port t n o = o ∙ sym (header_is false (eqb h.remote_port 0) (ne_eqb h.local_port 0 n) refl ∙ first (one_of with_ports h.protocol) (eqb h.remote_port 0))
    where
      first : (o r : Bool) → ((o || false) && (o || r)) ≡ o
      first true r = refl
      first false r = refl

  pub by_remote_port : (t : Bool) → h.local_port ≡ 0 → (h.remote_port ≡ 0 → ⊥) → t ≡ one_of with_ports h.protocol → t ≡ among headers h
  by_remote_port t z n o = o ∙ sym (header_is true false (eq-eqb h.local_port 0 z) (ne_eqb h.remote_port 0 n) ∙ second (one_of with_ports h.protocol))
    where
      second : (o : Bool) → ((o || true) && (o || false)) ≡ o
      second true = refl
      second false = refl

  pub by_no_port : h.local_port ≡ 0 → h.remote_port ≡ 0 → true ≡ among headers h
  by_no_port z n = sym (header_is true true (eq-eqb h.local_port 0 z) (eq-eqb h.remote_port 0 n) ∙ both (one_of with_ports h.protocol))
    where
      both : (o : Bool) → ((o || true) && (o || true)) ≡ true
      both true = refl
      both false = refl
