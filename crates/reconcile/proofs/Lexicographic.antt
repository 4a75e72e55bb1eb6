-- Rule 1's crossed list is an ordered crossproduct: its tuples stand in lexicographic order, which extends the lattice order.
-- Assumes nothing.
use Prim.Native.Nat.{ℕ, zero, suc, ◌+◌, ◌<◌, ◌≤◌}
use native.Mathlib.Omega.{arith}
use mathlib.Core.Path.{◌≡◌, refl, sym, ◌∙◌, ap, ap₂, subst}
use mathlib.Core.Logic.{◌⊎◌, inl, inr}
use mathlib.Core.List.{List, [], ◌∷◌, ◌++◌, map, map-map, map-append, append_assoc}
use lib.ListN.{length, get_or}
use Rattle.policy.specs.declared.entry.Entry.{Entry}
use Rattle.policy.proofs.Order.{Three, less, even, more, three}
use Rattle.wire.specs.Lists.{empty_entry}
use Rattle.policy.specs.Entry.{both}
use Rattle.reconcile.specs.Crossproduct.{In, Distinct, Tuple, IsTuple, entry_with, entry_of, entries_of, Precedes, Extends, OrderedCrossproduct}
use Rattle.reconcile.specs.Rules.{cross, cross_all}

-- the n numbers from i on
abbrev pub numbers_from : ℕ → ℕ → List ℕ
numbers_from i zero = []
numbers_from i (suc n) = i ∷ numbers_from (suc i) n

-- each number before each tuple, the number deciding first
abbrev pub before : List ℕ → List Tuple → List Tuple
before [] ts = []
before (i ∷ is) ts = map (i ∷◌) ts ++ before is ts

-- the index tuples in lexicographic order
abbrev pub tuples : List (List Entry) → List Tuple
tuples [] = [] ∷ []
tuples (p ∷ ps) = before (numbers_from 0 (length p)) (tuples ps)

-- ---- what stands in a list

in_left : {A : Type 0} (x : A) (a b : List A) → In x a → In x (a ++ b)
in_left x [] b i = absurd i
in_left x (y ∷ a) b (inl e) = inl e
in_left x (y ∷ a) b (inr i) = inr (in_left x a b i)

in_right : {A : Type 0} (x : A) (a b : List A) → In x b → In x (a ++ b)
in_right x [] b i = i
in_right x (y ∷ a) b i = inr (in_right x a b i)

in_either : {A : Type 0} (x : A) (a b : List A) → In x (a ++ b) → In x a ⊎ In x b
in_either x [] b i = inr i
in_either x (y ∷ a) b (inl e) = inl (inl e)
in_either x (y ∷ a) b (inr i) = go (in_either x a b i)
  where
    go : In x a ⊎ In x b → ((x ≡ y) ⊎ In x a) ⊎ In x b
    go (inl j) = inl (inr j)
    go (inr j) = inr j

in_map : (i : ℕ) (t : Tuple) (ts : List Tuple) → In t ts → In (i ∷ t) (map (i ∷◌) ts)
in_map i t [] j = absurd j
in_map i t (s ∷ ts) (inl e) = inl (ap (i ∷◌) e)
in_map i t (s ∷ ts) (inr j) = inr (in_map i t ts j)

map_in : (i : ℕ) (t : Tuple) (ts : List Tuple) → In t (map (i ∷◌) ts) → (s : Tuple) × (t ≡ i ∷ s) × In s ts
map_in i t [] j = absurd j
map_in i t (s ∷ ts) (inl e) = (s, e, inl refl)
map_in i t (s ∷ ts) (inr j) = let r = map_in i t ts j in (r.0, r.1, inr r.2)

in_numbers : (i a n : ℕ) → a ≤ i → i < a + n → In i (numbers_from a n)
in_numbers i a zero l m = absurd (omega arith)
in_numbers i a (suc n) l m = go (λ u. in_numbers i (suc a) n u (omega arith)) (three a i)
  where
    go : (suc a ≤ i → In i (numbers_from (suc a) n)) → Three a i → (i ≡ a) ⊎ In i (numbers_from (suc a) n)
    go f (even e) = inl (sym e)
    go f (less u) = inr (f (omega arith))
    go f (more u) = absurd (omega arith)

numbers_in_lem : (i a n : ℕ) → In i (numbers_from a n) → (a ≤ i) × (i < a + n)
numbers_in_lem i a zero j = absurd j
numbers_in_lem i a (suc n) (inl e) = (omega arith, omega arith)
numbers_in_lem i a (suc n) (inr j) = let r = numbers_in_lem i (suc a) n j in (omega (arith, r.0), omega (arith, r.1))

in_before : (i : ℕ) (is : List ℕ) (t : Tuple) (ts : List Tuple) → In i is → In t ts → In (i ∷ t) (before is ts)
in_before i [] t ts j k = absurd j
in_before i (a ∷ is) t ts (inl e) k = in_left (i ∷ t) (map (a ∷◌) ts) (before is ts) (subst (λ (b : ℕ). In (i ∷ t) (map (b ∷◌) ts)) e (in_map i t ts k))
in_before i (a ∷ is) t ts (inr j) k = in_right (i ∷ t) (map (a ∷◌) ts) (before is ts) (in_before i is t ts j k)

record Split (is : List ℕ) (ts : List Tuple) (t : Tuple) : Type 0 where
  pub number : ℕ
  pub rest : Tuple
  pub whole : t ≡ number ∷ rest
  pub first : In number is
  pub others : In rest ts

before_in : (is : List ℕ) (t : Tuple) (ts : List Tuple) → In t (before is ts) → Split is ts t
before_in [] t ts j = absurd j
before_in (a ∷ is) t ts j = go (before_in is t ts) (in_either t (map (a ∷◌) ts) (before is ts) j)
  where
    go : (In t (before is ts) → Split is ts t) → In t (map (a ∷◌) ts) ⊎ In t (before is ts) → Split (a ∷ is) ts t
    go f (inl k) = let r = map_in a t ts k in record { number = a; rest = r.0; whole = r.1; first = inl refl; others = r.2 }
    go f (inr k) = let r = f k in record { number = r.number; rest = r.rest; whole = r.whole; first = inr r.first; others = r.others }

-- ---- the tuples are those of the crossproduct set

every : (ps : List (List Entry)) (t : Tuple) → IsTuple ps t → In t (tuples ps)
every [] [] v = inl refl
every [] (i ∷ t) v = absurd v
every (p ∷ ps) [] v = absurd v
every (p ∷ ps) (i ∷ t) v = in_before i (numbers_from 0 (length p)) t (tuples ps) (in_numbers i 0 (length p) (omega arith) (up i (length p) v.0)) (every ps t v.1)
  where
    up : (i n : ℕ) → i < n → i < 0 + n
    up i n l = omega arith

only : (ps : List (List Entry)) (t : Tuple) → In t (tuples ps) → IsTuple ps t
only [] t (inl e) = subst (IsTuple []) (sym e) tt
only [] t (inr j) = absurd j
only (p ∷ ps) t j =
    let r = before_in (numbers_from 0 (length p)) t (tuples ps) j in
    subst (IsTuple (p ∷ ps)) (sym r.whole)
    (down r.number (length p) (numbers_in_lem r.number 0 (length p) r.first).1, only ps r.rest r.others)
  where
    down : (i n : ℕ) → i < 0 + n → i < n
    down i n l = omega arith

-- ---- in an order that extends the lattice order

extends_append : (a b : List Tuple) → Extends a → Extends b → ((s t : Tuple) → In s b → In t a → Precedes s t → ⊥) → Extends (a ++ b)
extends_append [] b x y f = y
extends_append (t ∷ a) b x y f = (λ s j. later s (in_either s a b j), extends_append a b x.1 y λ s r j k. f s r j (inr k))
  where
    later : (s : Tuple) → In s a ⊎ In s b → Precedes s t → ⊥
    later s (inl j) = x.0 s j
    later s (inr j) = f s t j (inl refl)

extends_map : (i : ℕ) (ts : List Tuple) → Extends ts → Extends (map (i ∷◌) ts)
extends_map i [] x = tt
extends_map i (t ∷ ts) x =
    (λ s j. let r = map_in i s ts j in λ q. x.0 r.0 r.2 (subst (λ (u : Tuple). Precedes u (i ∷ t)) r.1 q).1, extends_map i ts x.1)

extends_before : (a n : ℕ) (ts : List Tuple) → Extends ts → Extends (before (numbers_from a n) ts)
extends_before a zero ts x = tt
extends_before a (suc n) ts x =
    extends_append (map (a ∷◌) ts) (before (numbers_from (suc a) n) ts) (extends_map a ts x) (extends_before (suc a) n ts x) later
  where
    greater : (i : ℕ) → suc a ≤ i → i ≤ a → ⊥
    greater i l m = omega arith

    later : (s t : Tuple) → In s (before (numbers_from (suc a) n) ts) → In t (map (a ∷◌) ts) → Precedes s t → ⊥
    later s t j k q =
        let r = before_in (numbers_from (suc a) n) s ts j in
        let u = map_in a t ts k in
        greater r.number (numbers_in_lem r.number (suc a) n r.first).0
        (subst (Precedes (r.number ∷ r.rest)) u.1 (subst (λ (v : Tuple). Precedes v t) r.whole q)).0

extends : (ps : List (List Entry)) → Extends (tuples ps)
extends [] = (λ s j. absurd j, tt)
extends (p ∷ ps) = extends_before 0 (length p) (tuples ps) (extends ps)

precedes_self : (t : Tuple) → Precedes t t
precedes_self [] = tt
precedes_self (i ∷ t) = (omega arith, precedes_self t)

-- an order that extends the lattice order has no tuple twice
pub extends_distinct : (ts : List Tuple) → Extends ts → Distinct ts
extends_distinct [] x = tt
extends_distinct (t ∷ ts) x = (λ j. x.0 t j (precedes_self t), extends_distinct ts x.1)

pub lexicographic : (ps : List (List Entry)) → OrderedCrossproduct ps (tuples ps)
lexicographic ps = record {
  crossproduct = record { every = every ps; only = only ps; once = extends_distinct (tuples ps) (extends ps) };
  ordered = extends ps;
}

-- ---- and their entries are those of the crossed list

abbrev spread : (Entry → List Entry) → List Entry → List Entry
spread f [] = []
spread f (e ∷ es) = f e ++ spread f es

spread_append : (f : Entry → List Entry) (a b : List Entry) → spread f (a ++ b) ≡ spread f a ++ spread f b
spread_append f [] b = refl
spread_append f (e ∷ a) b = ap (f e ++◌) (spread_append f a b) ∙ sym (append_assoc (f e) (spread f a) (spread f b))

numbers_up : (a n : ℕ) → numbers_from (suc a) n ≡ map suc (numbers_from a n)
numbers_up a zero = refl
numbers_up a (suc n) = ap (suc a ∷◌) (numbers_up (suc a) n)

-- a list's entries by their numbers
by_number : (p : List Entry) → map (λ i. get_or p i empty_entry) (numbers_from 0 (length p)) ≡ p
by_number [] = refl
by_number (e ∷ p) =
    ap (λ (is : List ℕ). e ∷ map (λ i. get_or (e ∷ p) i empty_entry) is) (numbers_up 0 (length p))
    ∙ ap (e ∷◌) (map-map (λ i. get_or (e ∷ p) i empty_entry) suc (numbers_from 0 (length p)) ∙ by_number p)

-- what the tuples of the other lists make of an entry
abbrev row_of : List (List Entry) → Entry → List Entry
row_of qs e = map (entry_with e qs) (tuples qs)

rows : (f : Tuple → Entry) (g : ℕ → Entry) (F : Entry → List Entry) (is : List ℕ) (ts : List Tuple) → ((i : ℕ) → map (λ t. f (i ∷ t)) ts ≡ F (g i))
    → map f (before is ts) ≡ spread F (map g is)
rows f g F [] ts q = refl
rows f g F (i ∷ is) ts q =
    map-append f (map (i ∷◌) ts) (before is ts) ∙ ap₂ (λ (a b : List Entry). a ++ b) (map-map f (i ∷◌) ts ∙ q i) (rows f g F is ts q)

cross_rows : (qs : List (List Entry)) (q es : List Entry) → spread (row_of qs) (cross es q) ≡ spread (row_of (q ∷ qs)) es
cross_rows qs q [] = refl
cross_rows qs q (d ∷ es) = spread_append (row_of qs) (map (both d) q) (cross es q) ∙ ap₂ (λ (a b : List Entry). a ++ b) one (cross_rows qs q es)
  where
    one : spread (row_of qs) (map (both d) q) ≡ row_of (q ∷ qs) d
    one =
        ap (λ (l : List Entry). spread (row_of qs) (map (both d) l)) (sym (by_number q))
        ∙ ap (spread (row_of qs)) (map-map (both d) (λ i. get_or q i empty_entry) (numbers_from 0 (length q)))
        ∙ sym (rows (entry_with d (q ∷ qs)) (λ i. both d (get_or q i empty_entry)) (row_of qs) (numbers_from 0 (length q)) (tuples qs) λ i. refl)

cross_all-rows : (es : List Entry) (qs : List (List Entry)) → cross_all es qs ≡ spread (row_of qs) es
cross_all-rows [] [] = refl
cross_all-rows (e ∷ es) [] = ap (e ∷◌) (cross_all-rows es [])
cross_all-rows es (q ∷ qs) = cross_all-rows (cross es q) qs ∙ cross_rows qs q es

pub cross_all-tuples : (p : List Entry) (ps : List (List Entry)) → cross_all p ps ≡ entries_of (p ∷ ps) (tuples (p ∷ ps))
cross_all-tuples p ps =
    cross_all-rows p ps
    ∙ ap (spread (row_of ps)) (sym (by_number p))
    ∙ sym (rows (entry_of (p ∷ ps)) (λ i. get_or p i empty_entry) (row_of ps) (numbers_from 0 (length p)) (tuples ps) λ i. refl)
