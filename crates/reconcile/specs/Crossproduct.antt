-- Definitions 14, 17, 18, 23 and 24 of 004: the crossproducts of policies p1 to pm, given as a list of lists of entries.
-- An entry of the crossproduct set goes by its index tuple, a number for each policy; numbers count from 0.
use Rattle.std.specs.Prelude.{ℕ, ◌<◌, ◌≤◌, ◌≡◌, ◌⊎◌, List, [], ◌∷◌, map, length, get_or}
use Rattle.policy.specs.declared.entry.Entry.{Entry}
use Rattle.policy.specs.Header.{Headers}
use Rattle.policy.specs.Entry.{both}
use Rattle.policy.specs.Policy.{Covering, Equivalent, Refines}
use Rattle.wire.specs.Lists.{empty_entry}

-- x stands in the list
abbrev pub In : {A : Type 0} → A → List A → Type 0
In x [] = ⊥
In x (y ∷ ys) = (x ≡ y) ⊎ In x ys

-- nothing stands in the list twice
abbrev pub Distinct : {A : Type 0} → List A → Type 0
Distinct [] = Unit {0}
Distinct (x ∷ xs) = (In x xs → ⊥) × Distinct xs

-- each of the lists is a policy (Definition 1): covering
abbrev pub AllCovering : Headers → List (List Entry) → Type 0
AllCovering hs ps = (p : List Entry) → In p ps → Covering hs p

-- r refines each of the lists
abbrev pub Reconciles : Headers → List (List Entry) → List Entry → Type 0
Reconciles hs ps r = (q : List Entry) → In q ps → Refines hs r q

-- Definition 14: r is a policy that refines each of the lists. 004 says it of policies; here ps may be any lists, and `Reconciles` is of any list r
pub record CorrectReconciliation (hs : Headers) (ps : List (List Entry)) (r : List Entry) : Type 0 where
  pub covering : Covering hs r
  pub reconciles : Reconciles hs ps r

-- there are as many lists in both, and each is equivalent to the one at its place (Lemma 15)
abbrev pub PairwiseEquivalent : Headers → List (List Entry) → List (List Entry) → Type 0
PairwiseEquivalent hs [] [] = Unit {0}
PairwiseEquivalent hs [] (q ∷ qs) = ⊥
PairwiseEquivalent hs (p ∷ ps) [] = ⊥
PairwiseEquivalent hs (p ∷ ps) (q ∷ qs) = Equivalent hs p q × PairwiseEquivalent hs ps qs

abbrev pub Tuple : Type 0
Tuple = List ℕ

-- Definition 17: the tuples of the crossproduct set have the number of an entry for each policy
abbrev pub IsTuple : List (List Entry) → Tuple → Type 0
IsTuple [] [] = Unit {0}
IsTuple [] (i ∷ t) = ⊥
IsTuple (p ∷ ps) [] = ⊥
IsTuple (p ∷ ps) (i ∷ t) = (i < length p) × IsTuple ps t

-- e, intersected with the entries of the tuple
abbrev pub entry_with : Entry → List (List Entry) → Tuple → Entry
entry_with e [] t = e
entry_with e (p ∷ ps) [] = e
entry_with e (p ∷ ps) (i ∷ t) = entry_with (both e (get_or p i empty_entry)) ps t

-- Definition 17: the tuple's entry, its selector and action set the intersections of those at its numbers
abbrev pub entry_of : List (List Entry) → Tuple → Entry
entry_of [] t = empty_entry
entry_of (p ∷ ps) [] = empty_entry
entry_of (p ∷ ps) (i ∷ t) = entry_with (get_or p i empty_entry) ps t

-- the entries of the tuples, in their order
abbrev pub entries_of : List (List Entry) → List Tuple → List Entry
entries_of ps ts = map (entry_of ps) ts

-- Definition 18: ts orders the crossproduct set linearly, so each of its tuples stands in ts, once, and nothing else
pub record Crossproduct (ps : List (List Entry)) (ts : List Tuple) : Type 0 where
  pub every : (t : Tuple) → IsTuple ps t → In t ts
  pub only : (t : Tuple) → In t ts → IsTuple ps t
  pub once : Distinct ts

-- Definition 23: the lattice order
abbrev pub Precedes : Tuple → Tuple → Type 0
Precedes [] t = Unit {0}
Precedes (i ∷ s) [] = ⊥
Precedes (i ∷ s) (j ∷ t) = (i ≤ j) × Precedes s t

-- no tuple stands behind one that it precedes
abbrev pub Extends : List Tuple → Type 0
Extends [] = Unit {0}
Extends (t ∷ ts) = ((s : Tuple) → In s ts → Precedes s t → ⊥) × Extends ts

-- Definition 24: the linear order extends the lattice order
pub record OrderedCrossproduct (ps : List (List Entry)) (ts : List Tuple) : Type 0 where
  pub crossproduct : Crossproduct ps ts
  pub ordered : Extends ts
