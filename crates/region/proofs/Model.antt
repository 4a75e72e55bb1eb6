-- The search, computed: what the least header of a box is found by on paper, for worked examples. Over any set of headers.
-- Assumes nothing.
use Rattle.std.specs.Prelude.{None, Option, Some}
use Rattle.std.proofs.Common.{◌≡◌, ℕ, Bool, true, false, cond, not, ◌&&◌, List, [], ◌∷◌, ◌++◌, map, sym, refl, ap, ◌∙◌, ap₂}
use mathlib.Core.Path.{fun_ext}
use Rattle.policy.specs.declared.header.Header.{Header}
use Rattle.policy.specs.declared.entry.Entry.{Entry}
use Rattle.policy.specs.Box.{proper, meet}
use Rattle.policy.specs.steps.Boxes.{lows}
use Rattle.policy.specs.steps.Cut.{cut}
use Rattle.policy.specs.Header.{arity, fields, header, Box, lies, Headers, in_any, among, everything}
use Rattle.policy.specs.steps.Findings.{lesser, minOver, minFrom}
use Rattle.policy.specs.Least.{least, least_in}
use Rattle.policy.specs.Entry.{selector, matches}
use Rattle.policy.specs.Policy.{actions, allowed, missed}
use Rattle.policy.proofs.Bool.{and_right, or_left, or_right}
use Rattle.policy.proofs.Box.{corner_in_lem, meet_is}
use Rattle.policy.proofs.Branch.{always, least_in-when, crossed_none, corner, over_set, branch}
use Rattle.policy.proofs.Policy.{missed_cons}
use Rattle.region.specs.declared.treated.Sets.{Sets}
use Rattle.region.specs.steps.Treated.{wanted, judged}
use Rattle.region.proofs.Everywhere.{least_everywhere}

-- ---- the model

-- boxes, each with the answer for a header whose first box it is; and the answer where there is none
abbrev pub answers : List (Box × Bool) → Bool → Header → Bool
answers [] d h = d
answers (x ∷ xs) d h = cond (lies x.0 h) x.1 (answers xs d h)

abbrev pub corner_of : Box → Option Header
corner_of b = cond (proper arity b) (Some (header (lows arity b))) None

-- the least header of b
abbrev pub corner_in : List Box → Box → Option Header
corner_in qs b = minOver (λ q. corner_of (meet arity b q)) qs

abbrev pub proper_ones : List Box → List Box
proper_ones [] = []
proper_ones (b ∷ bs) = cond (proper arity b) (b ∷ proper_ones bs) (proper_ones bs)

abbrev pub corner_if : Headers → Bool → Box → Option Header
corner_if hs w b = cond w (corner_in hs.boxes b) None

-- the least header of b with the answer "yes": of the part in the first box, by its answer; and of the pieces outside it, by the others
abbrev pub seek : Headers → List (Box × Bool) → Bool → Box → Option Header
seek hs [] d b = corner_if hs d b
seek hs (x ∷ xs) d b = minFrom (corner_if hs x.1 (meet arity b x.0)) (seek hs xs d) (proper_ones (cut arity b x.0))

-- ---- it is the search

min_alike : (z : Option Header) (f g : Box → Option Header) (bs : List Box) → ((b : Box) → f b ≡ g b) → minFrom z f bs ≡ minFrom z g bs
min_alike z f g [] e = refl
min_alike z f g (b ∷ bs) e = ap₂ lesser (e b) (min_alike z f g bs e)

min_proper : (z : Option Header) (f : Box → Option Header) (bs : List Box) → ((b : Box) → proper arity b ≡ false → f b ≡ None) → minFrom z f bs ≡ minFrom z f (proper_ones bs)
min_proper z f [] e = refl
min_proper z f (b ∷ bs) e = go (min_proper z f bs e) (proper arity b) refl
  where
    go : minFrom z f bs ≡ minFrom z f (proper_ones bs) → (t : Bool) → proper arity b ≡ t
        → lesser (f b) (minFrom z f bs) ≡ minFrom z f (cond t (b ∷ proper_ones bs) (proper_ones bs))
    go ih true q = ap (lesser (f b)) ih
    go ih false q = ap (λ (r : Option Header). lesser r (minFrom z f bs)) (e b q) ∙ ih

-- the least over a list that is mapped
min_map : {A B : Type 0} (f : B → Option Header) (g : A → B) (xs : List A) → minOver f (map g xs) ≡ minOver (λ x. f (g x)) xs
min_map f g [] = refl
min_map f g (x ∷ xs) = ap (lesser (f (g x))) (min_map f g xs)

-- every row of the box is a header of the set
abbrev Within : Headers → Box → Type 0
Within hs b = (h : Header) → lies b h ≡ true → among hs h ≡ true

-- such a box has its low corner for its least header, if it is proper
corner_of_lem : (hs : Headers) (b : Box) → Within hs b → least_in hs b always ≡ corner_of b
corner_of_lem hs b w = go (proper arity b) refl
  where
    go : (t : Bool) → proper arity b ≡ t → least_in hs b always ≡ cond t (Some (header (lows arity b))) None
    go true p = corner hs b always (w (header (lows arity b)) (corner_in_lem arity b p)) p refl
    go false p = crossed_none hs always b p

-- the least header of a box, over boxes that are all in the set
corners : (hs : Headers) (b : Box) (qs : List Box) → ((h : Header) → in_any qs h ≡ true → in_any hs.boxes h ≡ true)
    → minOver (λ q. least_in hs (meet arity b q) always) qs ≡ corner_in qs b
corners hs b [] f = refl
corners hs b (q ∷ qs) f =
    ap₂ lesser
    (corner_of_lem hs (meet arity b q) λ h i. f h (or_left (lies q h) (in_any qs h) (and_right (lies b h) (lies q h) (sym (meet_is arity b q (fields h)) ∙ i))))
    (corners hs b qs λ h i. f h (or_right (lies q h) (in_any qs h) i))

corner_if_lem : (hs : Headers) (w : Bool) (b : Box) → least_in hs b (λ h. w) ≡ corner_if hs w b
corner_if_lem hs w b =
    least_in-when hs b w
    ∙ ap (λ (r : Option Header). cond w r None)
    (over_set hs b always ∙ min_map (λ p. least_in hs p always) (meet arity b) hs.boxes ∙ corners hs b hs.boxes λ h i. i)

pub seek_is : (hs : Headers) (xs : List (Box × Bool)) (d : Bool) (b : Box) → least_in hs b (answers xs d) ≡ seek hs xs d b
seek_is hs [] d b = corner_if_lem hs d b
seek_is hs (x ∷ xs) d b =
    branch hs (λ h. x.1) (answers xs d) b x.0
    ∙ ap (λ (z : Option Header). minFrom z (λ p. least_in hs p (answers xs d)) (cut arity b x.0)) (corner_if_lem hs x.1 (meet arity b x.0))
    ∙ min_proper (corner_if hs x.1 (meet arity b x.0)) (λ p. least_in hs p (answers xs d)) (cut arity b x.0) (λ p q. crossed_none hs (answers xs d) p q)
    ∙ min_alike (corner_if hs x.1 (meet arity b x.0)) (λ p. least_in hs p (answers xs d)) (seek hs xs d) (proper_ones (cut arity b x.0)) (λ p. seek_is hs xs d p)

-- a search of all headers
pub sought : (hs : Headers) (P : Header → Bool) (xs : List (Box × Bool)) (d : Bool) → ((h : Header) → P h ≡ answers xs d h) → least hs P ≡ seek hs xs d everything
sought hs P xs d f = ap (least hs) (fun_ext f) ∙ sym (least_everywhere hs (answers xs d)) ∙ seek_is hs xs d everything

-- ---- the questions of 01 in this form

-- the entries, each with what is asked of its set
abbrev pub asked : (ℕ → Bool) → List Entry → List (Box × Bool)
asked g [] = []
asked g (e ∷ es) = (selector e, g e.actions) ∷ asked g es

-- what a list allows, judged
pub answers_judged : (q : Sets) (d : Bool) (p : List Entry) (h : Header) → judged q d (allowed p h) ≡ answers (asked (wanted q) p) d h
answers_judged q d [] h = refl
answers_judged q d (e ∷ p) h = go (matches e h) (answers_judged q d p h)
  where
    go : (m : Bool) → judged q d (allowed p h) ≡ answers (asked (wanted q) p) d h
        → judged q d (cond m (actions e.actions) (allowed p h)) ≡ cond m (wanted q e.actions) (answers (asked (wanted q) p) d h)
    go true i = refl
    go false i = i

abbrev pub never : ℕ → Bool
never a = false

-- behind a front: what the front misses
pub answers_behind : (front : List Entry) (ys : List (Box × Bool)) (d : Bool) (h : Header) → (missed front h && answers ys d h) ≡ answers (asked never front ++ ys) d h
answers_behind [] ys d h = refl
answers_behind (e ∷ front) ys d h = ap (◌&& answers ys d h) (missed_cons e front h) ∙ go (matches e h) (answers_behind front ys d h)
  where
    go : (m : Bool) → (missed front h && answers ys d h) ≡ answers (asked never front ++ ys) d h
        → (not m && missed front h && answers ys d h) ≡ cond m false (answers (asked never front ++ ys) d h)
    go true i = refl
    go false i = i

-- not caught
pub answers_missed : (p : List Entry) (h : Header) → missed p h ≡ answers (asked never p) true h
answers_missed [] h = refl
answers_missed (e ∷ p) h = missed_cons e p h ∙ go (matches e h) (answers_missed p h)
  where
    go : (m : Bool) → missed p h ≡ answers (asked never p) true h → (not m && missed p h) ≡ cond m false (answers (asked never p) true h)
    go true i = refl
    go false i = i

-- the gap of a list, computed
pub gap_is : (hs : Headers) (p : List Entry) → least hs (missed p) ≡ seek hs (asked never p) true everything
gap_is hs p = sought hs (missed p) (asked never p) true (answers_missed p)
