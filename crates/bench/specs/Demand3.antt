-- Demand 3, sentence by sentence: what a merging keeps to, with the book `k` and the lists `ps` in force, in rising number of their parties.
-- `answer` is its answer, `buffer` what the lent buffer held before and `after` what it holds then.
use Rattle.std.specs.Prelude.{ℕ, ◌+◌, ◌≤◌, ◌<◌, ◌≡◌, ◌↔◌, ◌⊎◌, Bool, true, false, ◌&&◌, List, [], ◌∷◌, ◌++◌, length, take, get_or, None, Some}
use Rattle.policy.specs.declared.header.Header.{Header}
use Rattle.policy.specs.declared.entry.Entry.{Entry}
use Rattle.policy.specs.declared.refusal.Refusal.TheVariants.{Bare, Crowded, Narrow}
use Rattle.policy.specs.Actions.{has}
use Rattle.policy.specs.Header.{before, among, headers}
use Rattle.policy.specs.Policy.{catcher, allowed, caught, Equivalent, Refines}
use Rattle.policy.specs.Refusals.{Answer, refusal, accepted, is_accepted}
use Rattle.wire.specs.Format.{merged_version, list_in, file_size, file_of}
use Rattle.wire.specs.Lists.{empty_entry}
use Rattle.wire.specs.Writing.{placed}
use Rattle.reconcile.specs.Crossproduct.{CorrectReconciliation, Tuple, OrderedCrossproduct, entries_of}
use Rattle.reconcile.specs.Rules.{crowded, working, Merging, merged, merge_of, permits, all_permit}
use Rattle.bench.specs.Book.{Book, in_force}
use Rattle.bench.specs.Answers.{catchers_from, conflict_answer}

-- no action is common to the header's first matches in all lists in force; action k is bit k
abbrev pub NoCommonAction : List (List Entry) → Header → Type 0
NoCommonAction ps h = (k : ℕ) → all_permit k ps h ≡ false

-- h is the least header without a common action
pub record LeastWithout (ps : List (List Entry)) (h : Header) : Type 0 where
  pub member : among headers h ≡ true
  pub lacking : NoCommonAction ps h
  pub earliest : (g : Header) → among headers g ≡ true → before g h ≡ true → NoCommonAction ps g → ⊥

-- the values name, for each party in force in rising number from p on, the entry of its list that catches the header; the sets are those of these entries
abbrev pub NamesCatchers : ℕ → Book → Header → List ℕ → List ℕ → Type 0
NamesCatchers p [] h values sets = (values ≡ []) × (sets ≡ [])
NamesCatchers p (None ∷ k) h values sets = NamesCatchers (p + 1) k h values sets
NamesCatchers p (Some q ∷ k) h values sets =
    (i : ℕ) × (vs : List ℕ) × (ss : List ℕ) × (values ≡ p ∷ i ∷ vs) × (catcher q h ≡ Some i) × (sets ≡ (get_or q i empty_entry).actions ∷ ss) × NamesCatchers (p + 1) k h vs ss

-- action a is in all the sets
abbrev pub in_all : ℕ → List ℕ → Bool
in_all a [] = true
in_all a (s ∷ ss) = has a s && in_all a ss

-- what shows a conflict: the entries that are named catch the header, and their sets have nothing in common
pub record Evidence (k : Book) (h : Header) (values : List ℕ) : Type 0 where
  pub sets : List ℕ
  pub entries : NamesCatchers 1 k h values sets
  pub nothing_common : (a : ℕ) → in_all a sets ≡ false

-- a list is in force, and the working list is within 256 entries after each party
abbrev pub WithinLimit : List (List Entry) → Type 0
WithinLimit [] = ⊥
WithinLimit (p ∷ ps) = working headers p ps ≡ crowded → ⊥

-- the rules give a list; in a long enough buffer the call is accepted with its file, and in a shorter one refused as narrow
pub record Accepted (rules : Merging) (buffer : List ℕ) (answer : Answer) (after : List ℕ) : Type 0 where
  pub list : List Entry
  pub by_the_rules : rules ≡ merged list
  pub long_enough : file_size merged_version (length list) ≤ length buffer
      → (answer ≡ accepted (length list ∷ file_size merged_version (length list) ∷ [])) × (after ≡ placed (file_of merged_version list) buffer)
  pub too_short : length buffer < file_size merged_version (length list) → answer ≡ refusal (Narrow (file_size merged_version (length list)))

-- striking any one entry of m leaves some header uncaught or allowed a different set
abbrev pub Irredundant : List Entry → Type 0
Irredundant m =
    (front : List Entry) (e : Entry) (back : List Entry) → m ≡ front ++ e ∷ back
    → (h : Header) × (among headers h ≡ true) × ((caught (front ++ back) h ≡ false) ⊎ (allowed (front ++ back) h ≡ allowed m h → ⊥))

-- what is said of the merged list m, of n entries
pub record MergedList (ps : List (List Entry)) (m : List Entry) (n : ℕ) : Type 0 where
  -- the answer carries its entry count
  pub count : length m ≡ n
  -- it allows each header exactly the common actions
  pub exactly : (h : Header) → among headers h ≡ true → (k : ℕ) → permits k (allowed m h) ≡ all_permit k ps h
  -- it is covering and refines each list in force
  pub correct : CorrectReconciliation headers ps m
  -- every other covering list that refines all lists in force refines it
  pub widest : (q : List Entry) → CorrectReconciliation headers ps q → Refines headers q m
  -- it is equivalent to every ordered crossproduct of the lists in force (Definitions 17, 18, 23 and 24)
  pub crossproduct : (ts : List Tuple) → OrderedCrossproduct ps ts → Equivalent headers m (entries_of ps ts)
  -- striking any one of its entries leaves some header uncaught or allowed a different set
  pub irredundant : Irredundant m

-- what is said of a merging with the book k, whose lists in force are ps
pub record Keeps (k : Book) (ps : List (List Entry)) (buffer : List ℕ) (answer : Answer) (after : List ℕ) : Type 0 where
  -- it is refused for conflict exactly when some header has no action common to its first matches in all lists in force
  pub conflict_named : (h : Header) → WithinLimit ps → (answer ≡ conflict_answer k h) ↔ LeastWithout ps h
  pub conflict_found : WithinLimit ps → (h : Header) → among headers h ≡ true → NoCommonAction ps h → (g : Header) × (answer ≡ conflict_answer k g)
  -- the refusal carries its own evidence (02, Wish 5)
  pub conflict_shown : (h : Header) → answer ≡ conflict_answer k h → Evidence k h (catchers_from 1 k h)
  -- otherwise, in a long enough buffer, it is accepted, with the file that 01's rules give
  pub otherwise : WithinLimit ps → ((h : Header) → among headers h ≡ true → NoCommonAction ps h → ⊥) → Accepted (merge_of headers ps) buffer answer after
  -- the merged list is the one read from the start of the buffer, as many bytes as the answer's length says
  pub merged_list : (n l : ℕ) → answer ≡ accepted (n ∷ l ∷ []) → MergedList ps (list_in (take l after)) n
  -- bare and crowded exactly in their cases
  pub bare : (answer ≡ refusal Bare) ↔ (ps ≡ [])
  pub crowded_only : answer ≡ refusal Crowded → WithinLimit ps → ⊥
  pub crowded_when : (p : List Entry) (qs : List (List Entry)) → ps ≡ p ∷ qs → working headers p qs ≡ crowded → answer ≡ refusal Crowded
  -- a refused merging leaves the buffer as it was
  pub refused : is_accepted answer ≡ false → after ≡ buffer

abbrev pub Demand3 : Book → List ℕ → Answer → List ℕ → Type 0
Demand3 k buffer answer after = Keeps k (in_force k) buffer answer after
