-- A box is narrowed to its headers: where no row of it has a port of 0, to the protocols that have ports; where no protocol of it has ports, to the ports 0.
-- Over any set of headers that goes by ports, and any list of protocols that the box needs.
-- Assumes nothing.
use Rattle.std.proofs.Common.{◌≡◌, ℕ, ◌<◌, ◌≤◌, Bool, true, false, not, ◌&&◌, ◌||◌, eqb, List, length, set, sym, refl, ap, ◌∙◌, subst, arith, length-set, eq-eqb, eqb-true}
use Rattle.policy.specs.declared.header.Header.{Header}
use Rattle.policy.specs.Row.{Row}
use Rattle.policy.specs.Box.{Range, range, within, inside, proper}
use Rattle.policy.specs.Ports.{Ports, with_ports, ports, one_of, is_header}
use Rattle.policy.specs.steps.Boxes.{lows, fits}
use Rattle.policy.specs.steps.Narrowed.{narrowed}
use Rattle.policy.specs.Header.{arity, fields, header, Box, lies, sizes, Headers, among, headers}
use Rattle.policy.specs.Sides.{field, box_of}
use Rattle.policy.specs.steps.Rows.{sides}
use Rattle.policy.proofs.Bool.{clash, is_false, not_true, not_false, and_intro, and_left, and_right, or_right}
use Rattle.policy.proofs.Box.{low_le, le_high, within_by, in_first, in_rest, in_proper, corner_in_lem}
use Rattle.policy.proofs.Conjunctions.{ends_are}
use Rattle.policy.proofs.HeaderSet.{headers_fit}
use Rattle.policy.proofs.Protocols.{numbered, narrowed_holds, narrowed_ends}
use Rattle.region.specs.steps.Narrowing.{Fitting, Part, Narrows, NarrowsTo}
use Rattle.region.proofs.Fields.{low_put, high_put}

-- ---- the fields of a box that tell headers

abbrev local_ports : Box → Range
local_ports b = b.1.1.0

abbrev remote_ports : Box → Range
remote_ports b = b.1.1.1.0

abbrev protocols : Box → Range
protocols b = b.1.1.1.1.0

-- the box with other ports and protocols
abbrev pub with_ranges : Box → Range → Range → Range → Box
with_ranges b l r q = (b.0, (b.1.0, (l, (r, (q, b.1.1.1.1.1)))))

module _ (b : Box) (x : Row ℕ arity) (i : inside arity b x ≡ true) where
  after : inside 4 b.1.1 x.1.1 ≡ true
  after = in_rest 4 b.1 x.1 (in_rest 5 b x i)

  in_local : within (local_ports b) x.1.1.0 ≡ true
  in_local = in_first 3 b.1.1 x.1.1 after

  in_remote : within (remote_ports b) x.1.1.1.0 ≡ true
  in_remote = in_first 2 b.1.1.1 x.1.1.1 (in_rest 3 b.1.1 x.1.1 after)

  last : inside 2 b.1.1.1.1 x.1.1.1.1 ≡ true
  last = in_rest 2 b.1.1.1 x.1.1.1 (in_rest 3 b.1.1 x.1.1 after)

  in_protocols : within (protocols b) x.1.1.1.1.0 ≡ true
  in_protocols = in_first 1 b.1.1.1.1 x.1.1.1.1 last

  -- a row stays in, if its ports and its protocol do
  stays : (l r q : Range) → within l x.1.1.0 ≡ true → within r x.1.1.1.0 ≡ true → within q x.1.1.1.1.0 ≡ true → inside arity (with_ranges b l r q) x ≡ true
  stays l r q f g h = and_intro (in_first 5 b x i) (and_intro (in_first 4 b.1 x.1 (in_rest 5 b x i)) (and_intro f (and_intro g (and_intro h (in_rest 1 b.1.1.1.1 x.1.1.1.1 last)))))

-- narrower ranges make a part
narrower : (b : Box) (l r q : Range) → ((n : ℕ) → within l n ≡ true → within (local_ports b) n ≡ true) → ((n : ℕ) → within r n ≡ true → within (remote_ports b) n ≡ true)
    → ((n : ℕ) → within q n ≡ true → within (protocols b) n ≡ true) → Part (with_ranges b l r q) b
narrower b l r q f g h x i =
    let c = with_ranges b l r q in
    stays c x i (local_ports b) (remote_ports b) (protocols b) (f x.1.1.0 (in_local c x i)) (g x.1.1.1.0 (in_remote c x i)) (h x.1.1.1.1.0 (in_protocols c x i))

-- ---- the narrowing

-- nothing is left out
unchanged : (hs : Headers) (b : Box) → proper arity b ≡ true → Narrows hs b b
unchanged hs b p = record { part = λ x i. i; is_proper = p; same = λ h a i. i }

module _ (hs : Headers) (ps : Ports) (are : (h : Header) → among hs h ≡ (fits arity sizes (fields h) && is_header ps h)) where
  -- each port of a header is one that its protocol has, or is 0
  local_port_lem : (h : Header) → among hs h ≡ true → one_of ps.local h.protocol ≡ false → h.local_port ≡ 0
  local_port_lem h a o =
      eqb-true h.local_port 0
      (sym (ap (◌|| eqb h.local_port 0) o)
      ∙ and_left (one_of ps.local h.protocol || eqb h.local_port 0) (one_of ps.remote h.protocol || eqb h.remote_port 0)
      (and_right (fits arity sizes (fields h)) (is_header ps h) (sym (are h) ∙ a)))

  remote_port_lem : (h : Header) → among hs h ≡ true → one_of ps.remote h.protocol ≡ false → h.remote_port ≡ 0
  remote_port_lem h a o =
      eqb-true h.remote_port 0
      (sym (ap (◌|| eqb h.remote_port 0) o)
      ∙ and_right (one_of ps.local h.protocol || eqb h.local_port 0) (one_of ps.remote h.protocol || eqb h.remote_port 0)
      (and_right (fits arity sizes (fields h)) (is_header ps h) (sym (are h) ∙ a)))

  module _ (b : Box) (p : proper arity b ≡ true) (fit : Fitting b) where
    corner_among : (y : Box) → Part y b → proper arity y ≡ true → is_header ps (header (lows arity y)) ≡ true → among hs (header (lows arity y)) ≡ true
    corner_among y part q i = are (header (lows arity y)) ∙ and_intro (fit (lows arity y) (part (lows arity y) (corner_in_lem arity y q))) i

    -- a part with the same headers, if the sentence holds of its low corner
    narrows : (y : Box) → Narrows hs b y → is_header ps (header (lows arity y)) ≡ true → NarrowsTo hs b y true
    narrows y w i = record { box = w; corner = λ t. corner_among y w.part w.is_proper i; none = λ t. clash refl t }

    -- ---- both ports are 0 at the low corner

    module _ (l : (local_ports b).low ≡ 0) (r : (remote_ports b).low ≡ 0) where
      zeros : (y : Box) → (local_ports y).low ≡ 0 → (remote_ports y).low ≡ 0 → is_header ps (header (lows arity y)) ≡ true
      zeros y l r =
          and_intro (or_right (one_of ps.local (protocols y).low) (eqb (local_ports y).low 0) (eq-eqb (local_ports y).low 0 l))
          (or_right (one_of ps.remote (protocols y).low) (eqb (remote_ports y).low 0) (eq-eqb (remote_ports y).low 0 r))

      -- nothing is left out
      pub left_whole : NarrowsTo hs b b true
      left_whole = narrows b (unchanged hs b p) (zeros b l r)

      -- no protocol of the box has a port
      module _ (no : (q : ℕ) → within (protocols b) q ≡ true → (one_of ps.local q ≡ false) × (one_of ps.remote q ≡ false)) where
        abbrev bare : Box
        bare = with_ranges b (range (local_ports b).low 0) (range (remote_ports b).low 0) (protocols b)

        low_only : (s : Range) → s.low ≡ 0 → (n : ℕ) → within (range s.low 0) n ≡ true → within s n ≡ true
        low_only s e n w = within_by s n (low_le (range s.low 0) n w) (zero_le n s.high (le_high (range s.low 0) n w))
          where
            zero_le : (n h : ℕ) → n ≤ 0 → n ≤ h
            zero_le n h l = omega arith

        pub left_bare : NarrowsTo hs b (with_ranges b (range (local_ports b).low 0) (range (remote_ports b).low 0) (protocols b)) true
        left_bare = narrows bare (record {
          part = part;
          same = λ h a i. let n = no h.protocol (in_protocols b (fields h) i) in
              stays b (fields h) i (range (local_ports b).low 0) (range (remote_ports b).low 0) (protocols b)
              (at_zero (local_ports b) h.local_port l (local_port_lem h a n.0)) (at_zero (remote_ports b) h.remote_port r (remote_port_lem h a n.1))
              (in_protocols b (fields h) i);
          is_proper = bare_proper;
        }) (zeros bare l r)
          where
            part : Part bare b
            part = narrower b (range (local_ports b).low 0) (range (remote_ports b).low 0) (protocols b) (low_only (local_ports b) l) (low_only (remote_ports b) r) λ n i. i

            at_zero : (s : Range) (n : ℕ) → s.low ≡ 0 → n ≡ 0 → within (range s.low 0) n ≡ true
            at_zero s n e z = within_by (range s.low 0) n (omega arith) (omega arith)

            bare_proper : proper arity bare ≡ true
            bare_proper =
                in_proper arity bare (lows arity b)
                (stays b (lows arity b) (corner_in_lem arity b p) (range (local_ports b).low 0) (range (remote_ports b).low 0) (protocols b)
                (at_zero (local_ports b) (local_ports b).low l l) (at_zero (remote_ports b) (remote_ports b).low r r) (in_protocols b (lows arity b) (corner_in_lem arity b p)))

    -- ---- every header of the box has a listed protocol

    module _ (qs : List ℕ) (k : numbered qs ≡ true) (needed : (h : Header) → among hs h ≡ true → lies b h ≡ true → one_of qs h.protocol ≡ true) where
      held : (h : Header) → among hs h ≡ true → lies b h ≡ true → within (narrowed qs (protocols b)) h.protocol ≡ true
      held h a i = narrowed_holds qs (protocols b) h.protocol (needed h a i) (in_protocols b (fields h) i)

      -- the box has none
      pub left_none : (narrowed qs (protocols b)).high < (narrowed qs (protocols b)).low → NarrowsTo hs b b false
      left_none l = record {
        box = unchanged hs b p;
        corner = λ t. clash t refl;
        none = λ t h a. is_false (lies b h) λ i.
            off (narrowed qs (protocols b)).low h.protocol (narrowed qs (protocols b)).high (low_le (narrowed qs (protocols b)) h.protocol (held h a i))
            (le_high (narrowed qs (protocols b)) h.protocol (held h a i)) l;
      }
        where
          off : (l q h : ℕ) → l ≤ q → q ≤ h → h < l → ⊥
          off l q h a b c = omega arith

      -- with a listed protocol the low corner is a header
      module _ (enough : (q : ℕ) → one_of qs q ≡ true → ((one_of ps.local q || eqb (local_ports b).low 0) && (one_of ps.remote q || eqb (remote_ports b).low 0)) ≡ true)
          (l : (narrowed qs (protocols b)).low ≤ (narrowed qs (protocols b)).high) where
        abbrev listed : Box
        listed = with_ranges b (local_ports b) (remote_ports b) (narrowed qs (protocols b))

        pub left_listed : NarrowsTo hs b (with_ranges b (local_ports b) (remote_ports b) (narrowed qs (protocols b))) true
        left_listed = narrows listed (record {
          part = part;
          same = λ h a i. stays b (fields h) i (local_ports b) (remote_ports b) n (in_local b (fields h) i) (in_remote b (fields h) i) (held h a i);
          is_proper = listed_proper;
        }) (enough n.low ends.0)
          where
            n : Range
            n = narrowed qs (protocols b)

            ends : (one_of qs n.low ≡ true) × ((within (protocols b) n.low ≡ true) × (within (protocols b) n.high ≡ true))
            ends = narrowed_ends qs (protocols b) k l

            through : (l m q i h : ℕ) → l ≤ m → m ≤ q → q ≤ i → i ≤ h → (l ≤ q) × (q ≤ h)
            through l m q i h a b c d = (omega arith, omega arith)

            part : Part listed b
            part = narrower b (local_ports b) (remote_ports b) n (λ m w. w) (λ m w. w) λ m w.
                let t = through (protocols b).low n.low m n.high (protocols b).high (low_le (protocols b) n.low ends.1.0) (low_le n m w) (le_high n m w) (le_high (protocols b) n.high ends.1.1) in
                within_by (protocols b) m t.0 t.1

            listed_proper : proper arity listed ≡ true
            listed_proper =
                let c = corner_in_lem arity b p in
                let row : Row ℕ arity = ((lows arity b).0, ((lows arity b).1.0, ((local_ports b).low, ((remote_ports b).low, (n.low, (lows arity b).1.1.1.1.1))))) in
                in_proper arity listed row
                (and_intro (in_first 5 b (lows arity b) c) (and_intro (in_first 4 b.1 (lows arity b).1 (in_rest 5 b (lows arity b) c))
                (and_intro (in_local b (lows arity b) c) (and_intro (in_remote b (lows arity b) c) (and_intro (within_by n n.low (omega arith) l)
                (in_rest 1 b.1.1.1.1 (lows arity b).1.1.1.1 (last b (lows arity b) c)))))))

-- ---- what the code shows

-- by the ports of document 02
module _ (b : List ℕ) (p : proper arity (box_of b 0) ≡ true) (fit : Fitting (box_of b 0)) (t : Bool) (alone : t ≡ not (eqb (field b 0 2).low 0 && eqb (field b 0 3).low 0))
    (first last low high : ℕ) (x : low ≡ (field b 0 4).low) (y : high ≡ (field b 0 4).high) (n : range first last ≡ narrowed with_ports (range low high)) where
  ends : range first last ≡ narrowed with_ports (protocols (box_of b 0))
  unfolding box_of
  ends = n ∙ ap (narrowed with_ports) (ends_are x y)

  -- a header of the box whose protocol is not listed has both ports 0
  needed : t ≡ true → (h : Header) → among headers h ≡ true → lies (box_of b 0) h ≡ true → one_of with_ports h.protocol ≡ true
  unfolding box_of
  needed u h a i = go (one_of with_ports h.protocol) refl
    where
      zero_low : (s : Range) (m : ℕ) → within s m ≡ true → m ≡ 0 → eqb s.low 0 ≡ true
      zero_low s m w z = eq-eqb s.low 0 (omega (arith, low_le s m w))

      go : (o : Bool) → one_of with_ports h.protocol ≡ o → o ≡ true
      go true o = refl
      go false o =
          clash
          (and_intro (zero_low (field b 0 2) h.local_port (in_local (box_of b 0) (fields h) i) (local_port_lem headers ports headers_fit h a o))
          (zero_low (field b 0 3) h.remote_port (in_remote (box_of b 0) (fields h) i) (remote_port_lem headers ports headers_fit h a o)))
          (not_true (sym alone ∙ u))

  enough : (q : ℕ) → one_of with_ports q ≡ true → ((one_of with_ports q || eqb (local_ports (box_of b 0)).low 0) && (one_of with_ports q || eqb (remote_ports (box_of b 0)).low 0)) ≡ true
  enough q o = ap (λ (t : Bool). (t || eqb (local_ports (box_of b 0)).low 0) && (t || eqb (remote_ports (box_of b 0)).low 0)) o

  pub code_none : t ≡ true → last < first → NarrowsTo headers (box_of b 0) (box_of b 0) false
  code_none u l = left_none headers ports headers_fit (box_of b 0) p fit with_ports refl (needed u) (crossed first last (narrowed with_ports (protocols (box_of b 0))).low (narrowed with_ports (protocols (box_of b 0))).high (ap (λ (r : Range). r.low) ends) (ap (λ (r : Range). r.high) ends) l)
    where
      crossed : (f l m n : ℕ) → f ≡ m → l ≡ n → l < f → n < m
      crossed f l m n e g q = omega arith

  pub code_listed : length b ≡ sides → t ≡ true → first ≤ last → NarrowsTo headers (box_of b 0) (box_of (set (set b 8 first) 9 last) 0) true
  code_listed k u l =
      subst (λ (c : Box). NarrowsTo headers (box_of b 0) c true) (sym put)
      (left_listed headers ports headers_fit (box_of b 0) p fit with_ports refl (needed u) enough
      (proper_ends first last (narrowed with_ports (protocols (box_of b 0))).low (narrowed with_ports (protocols (box_of b 0))).high (ap (λ (r : Range). r.low) ends) (ap (λ (r : Range). r.high) ends) l))
    where
      proper_ends : (f l m n : ℕ) → f ≡ m → l ≡ n → f ≤ l → m ≤ n
      proper_ends f l m n e g q = omega arith

      put : box_of (set (set b 8 first) 9 last) 0 ≡ with_ranges (box_of b 0) (local_ports (box_of b 0)) (remote_ports (box_of b 0)) (narrowed with_ports (protocols (box_of b 0)))
      put =
          high_put (set b 8 first) 4 last (omega arith) (length-set b 8 first ∙ k)
          ∙ ap (λ (c : Box). with_ranges c (local_ports c) (remote_ports c) (range (protocols c).low last)) (low_put b 4 first (omega arith) k)
          ∙ ap (with_ranges (box_of b 0) (local_ports (box_of b 0)) (remote_ports (box_of b 0))) ends

  -- both ports are 0 at the low corner
  zero_ports : t ≡ false → ((local_ports (box_of b 0)).low ≡ 0) × ((remote_ports (box_of b 0)).low ≡ 0)
  unfolding box_of
  zero_ports u =
      let both = not_false (sym alone ∙ u) in
      (eqb-true (field b 0 2).low 0 (and_left (eqb (field b 0 2).low 0) (eqb (field b 0 3).low 0) both), eqb-true (field b 0 3).low 0 (and_right (eqb (field b 0 2).low 0) (eqb (field b 0 3).low 0) both))

  pub code_whole : t ≡ false → NarrowsTo headers (box_of b 0) (box_of b 0) true
  code_whole u = left_whole headers ports headers_fit (box_of b 0) p fit (zero_ports u).0 (zero_ports u).1

  pub code_bare : length b ≡ sides → t ≡ false → last < first → NarrowsTo headers (box_of b 0) (box_of (set (set b 5 0) 7 0) 0) true
  code_bare k u l =
      subst (λ (c : Box). NarrowsTo headers (box_of b 0) c true) (sym put)
      (left_bare headers ports headers_fit (box_of b 0) p fit (zero_ports u).0 (zero_ports u).1 λ q w. (no q w, no q w))
    where
      off : (f l m n q : ℕ) → f ≡ m → l ≡ n → l < f → m ≤ q → q ≤ n → ⊥
      off f l m n q e g c a d = omega arith

      no : (q : ℕ) → within (protocols (box_of b 0)) q ≡ true → one_of with_ports q ≡ false
      no q w = is_false (one_of with_ports q) λ o.
          let r = narrowed with_ports (protocols (box_of b 0)) in
          let h = narrowed_holds with_ports (protocols (box_of b 0)) q o w in
          off first last r.low r.high q (ap (λ (r : Range). r.low) ends) (ap (λ (r : Range). r.high) ends) l (low_le r q h) (le_high r q h)

      put : box_of (set (set b 5 0) 7 0) 0 ≡ with_ranges (box_of b 0) (range (local_ports (box_of b 0)).low 0) (range (remote_ports (box_of b 0)).low 0) (protocols (box_of b 0))
      put =
          high_put (set b 5 0) 3 0 (omega arith) (length-set b 5 0 ∙ k)
          ∙ ap (λ (c : Box). with_ranges c (local_ports c) (range (remote_ports c).low 0) (protocols c)) (high_put b 2 0 (omega arith) k)
