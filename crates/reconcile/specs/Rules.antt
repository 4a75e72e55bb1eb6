-- 01, "Merging": rules 1 to 4 over a set hs of headers, for the lists in force in rising number of their parties.
use Rattle.std.specs.Prelude.{ℕ, zero, suc, ◌≡◌, ◌⊎◌, Bool, true, false, not, cond, ◌&&◌, ◌||◌, List, [], ◌∷◌, ◌++◌, map, leb, eqb, length, None, Option, Some}
use Rattle.policy.specs.declared.header.Header.{Header}
use Rattle.policy.specs.declared.entry.Entry.{Entry}
use Rattle.policy.specs.declared.refusal.Refusal.{Refusal}
use Rattle.policy.specs.declared.refusal.Refusal.TheVariants.{Bare, Crowded, Conflict}
use Rattle.policy.specs.Box.{proper}
use Rattle.policy.specs.Header.{arity, Headers, among}
use Rattle.policy.specs.Least.{least}
use Rattle.policy.specs.Actions.{has, shared}
use Rattle.policy.specs.Entry.{selector, matches, both}
use Rattle.policy.specs.Policy.{Allowed, actions, uncaught, allowed, caught, missed}
use Rattle.wire.specs.Format.{list_limit}

-- ---- what is asked of every header

abbrev pub is_nothing : Option Header → Bool
is_nothing (Some h) = false
is_nothing None = true

-- no header of the set has the property
unfoldable pub no_header : Headers → (Header → Bool) → Bool
no_header hs P = is_nothing (least hs P)

-- the same is allowed; "uncaught" is a value of its own
abbrev pub same : Allowed → Allowed → Bool
same (actions a) (actions b) = eqb a b
same (actions a) uncaught = false
same uncaught (actions b) = false
same uncaught uncaught = true

-- caught, and allowed no action
abbrev pub is_empty : Allowed → Bool
is_empty (actions a) = eqb a 0
is_empty uncaught = false

-- ---- the common actions of a header

-- the actions in both
abbrev pub in_both : Allowed → Allowed → Allowed
in_both (actions a) (actions b) = actions (shared a b)
in_both (actions a) uncaught = uncaught
in_both uncaught b = uncaught

abbrev pub common_with : Allowed → List (List Entry) → Header → Allowed
common_with a [] h = a
common_with a (p ∷ ps) h = common_with (in_both a (allowed p h)) ps h

-- the actions in the sets of its first matches in all the lists
abbrev pub common_actions : List (List Entry) → Header → Allowed
common_actions [] h = uncaught
common_actions (p ∷ ps) h = common_with (allowed p h) ps h

-- the same action by action: k is allowed, and k is allowed by all the lists
abbrev pub permits : ℕ → Allowed → Bool
permits k (actions a) = has k a
permits k uncaught = false

abbrev pub all_permit : ℕ → List (List Entry) → Header → Bool
all_permit k [] h = true
all_permit k (p ∷ ps) h = permits k (allowed p h) && all_permit k ps h

-- ---- rule 1

-- all pairs in lexicographic order, the number in p deciding first
abbrev pub cross : List Entry → List Entry → List Entry
cross [] q = []
cross (d ∷ p) q = map (both d) q ++ cross p q

-- p crossed with each next list in turn
abbrev pub cross_all : List Entry → List (List Entry) → List Entry
cross_all p [] = p
cross_all p (q ∷ qs) = cross_all (cross p q) qs

-- ---- rule 2

-- without the entries that have an empty selector
abbrev pub drop_empty : List Entry → List Entry
drop_empty [] = []
drop_empty (e ∷ p) = cond (proper arity (selector e)) (e ∷ drop_empty p) (drop_empty p)

-- Definition 29: e, behind the entries of front, is shadowed if they match every header of its selector
abbrev pub Shadowed : Headers → List Entry → Entry → Type 0
Shadowed hs front e = (h : Header) → among hs h ≡ true → matches e h ≡ true → caught front h ≡ true

-- the same as a test
abbrev pub shadowed : Headers → List Entry → Entry → Bool
shadowed hs front e = no_header hs λ h. missed front h && matches e h

-- q is p, behind front, without some of its shadowed entries (Theorem 33): each entry is kept, or shadowed by all that stood before it and removed
abbrev pub WithoutShadowed : Headers → List Entry → List Entry → List Entry → Type 0
WithoutShadowed hs front [] q = q ≡ []
WithoutShadowed hs front (e ∷ p) q =
    ((r : List Entry) × (q ≡ e ∷ r) × WithoutShadowed hs (front ++ e ∷ []) p r) ⊎ (Shadowed hs front e × WithoutShadowed hs (front ++ e ∷ []) p q)

-- without the entries that catch no header, those that match none among them; front stands before them
abbrev pub drop_shadowed : Headers → List Entry → List Entry → List Entry
drop_shadowed hs front [] = []
drop_shadowed hs front (e ∷ p) =
    cond (shadowed hs front e) (drop_shadowed hs (front ++ e ∷ []) p) (e ∷ drop_shadowed hs (front ++ e ∷ []) p)

abbrev pub trimmed : Headers → List Entry → List Entry
trimmed hs p = drop_shadowed hs [] (drop_empty p)

-- the working list, or that it would pass 256 entries
pub data Working : Type 0 where
  list : List Entry → Working
  crowded : Working

-- the list, if it has at most 256 entries
abbrev pub limited : List Entry → Working
limited p = cond (leb (length p) list_limit) (list p) crowded

-- the working list after one party more
abbrev pub next : Headers → Working → List Entry → Working
next hs (list w) p = limited (trimmed hs (cross w p))
next hs crowded p = crowded

abbrev pub next_all : Headers → Working → List (List Entry) → Working
next_all hs w [] = w
next_all hs w (p ∷ ps) = next_all hs (next hs w p) ps

-- after all parties, p the first one's list
abbrev pub working : Headers → List Entry → List (List Entry) → Working
working hs p ps = next_all hs (limited (trimmed hs p)) ps

-- ---- rule 3

-- an entry has an empty action set
abbrev pub has_empty : List Entry → Bool
has_empty [] = false
has_empty (e ∷ p) = eqb e.actions 0 || has_empty p

-- the header has no common action
abbrev pub lacking : List (List Entry) → Header → Bool
lacking ps h = is_empty (common_actions ps h)

-- the least such header
abbrev pub conflict_of : Headers → List (List Entry) → Option Header
conflict_of hs ps = least hs (lacking ps)

-- ---- rule 4

-- Definition 30: e, before the entries of back, is collected if they allow every header that e catches what e allows it
abbrev pub Collected : Headers → List Entry → Entry → List Entry → Type 0
Collected hs front e back =
    (h : Header) → among hs h ≡ true → missed front h ≡ true → matches e h ≡ true → allowed back h ≡ actions e.actions

-- q is p after n entries were removed one by one, each collected in the list as it then stood (step 4 of Theorem 35)
abbrev pub WithoutCollected : Headers → ℕ → List Entry → List Entry → Type 0
WithoutCollected hs zero p q = q ≡ p
WithoutCollected hs (suc n) p q =
    (front : List Entry) × (e : Entry) × (back : List Entry) × (p ≡ front ++ e ∷ back) × Collected hs front e back × WithoutCollected hs n (front ++ back) q

-- the list front, e, back allows every header the same without e
abbrev pub needless : Headers → List Entry → Entry → List Entry → Bool
needless hs front e back = no_header hs λ h. not (same (allowed (front ++ back) h) (allowed (front ++ e ∷ back) h))

-- e is struck if it is needless, with what is left of the entries behind it
abbrev pub strike : Headers → List Entry → Entry → List Entry → List Entry
strike hs front e back = cond (needless hs front e back) back (e ∷ back)

-- what is left of the entries behind front, examined from last to first
abbrev pub struck_from : Headers → List Entry → List Entry → List Entry
struck_from hs front [] = []
struck_from hs front (e ∷ p) = strike hs front e (struck_from hs (front ++ e ∷ []) p)

abbrev pub struck : Headers → List Entry → List Entry
struck hs p = struck_from hs [] p

-- ---- the merging of the lists in force

-- refused as bare, crowded or in conflict; or the merged list
pub data Merging : Type 0 where
  refused : Refusal → Merging
  merged : List Entry → Merging

-- rules 3 and 4 for the working list
abbrev pub settled : Headers → Option Header → List Entry → Merging
settled hs (Some h) w = refused (Conflict h)
settled hs None w = merged (struck hs w)

abbrev pub finished : Headers → Working → Option Header → Merging
finished hs (list w) c = settled hs c w
finished hs crowded c = refused Crowded

-- refusals 8 to 10 in their order, else the merged list
abbrev pub merge_of : Headers → List (List Entry) → Merging
merge_of hs [] = refused Bare
merge_of hs (p ∷ ps) = finished hs (working hs p ps) (conflict_of hs (p ∷ ps))
