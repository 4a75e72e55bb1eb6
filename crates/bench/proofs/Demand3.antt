-- Demand 3 of what a merging answers and writes, with covering lists in force whose merged list reads back from its file.
-- Assumes nothing.
use Rattle.std.specs.Prelude.{None, Option, Some}
use Prim.Native.Nat.{ℕ}
use native.Mathlib.Omega.{arith}
use mathlib.Core.Path.{◌≡◌, refl, sym, ◌∙◌, ap, subst}
use mathlib.Core.Logic.{◌⊎◌, inr}
use mathlib.Core.Bool.{Bool, true, false, not, cond}
use mathlib.Core.List.{List, [], ◌∷◌, ◌++◌, append-nil}
use lib.Dec.{ltb, eqb}
use lib.ListN.{length, take, drop, get_or}
use lib.Seq.{take_at}
use borrow.Author.Tests.{lt-ltb, le-ltb}
use Rattle.policy.specs.declared.header.Header.{Header}
use Rattle.policy.specs.declared.entry.Entry.{Entry}
use Rattle.policy.specs.declared.refusal.Refusal.{Refusal}
use Rattle.policy.specs.declared.refusal.Refusal.TheVariants.{Bare, Crowded, Conflict, Narrow}
use Rattle.policy.specs.Header.{among, headers}
use Rattle.policy.specs.Policy.{allowed, caught}
use Rattle.policy.specs.Refusals.{Answer, refusal, accepted, is_accepted, refuse, first_of}
use Rattle.policy.proofs.Bool.{clash, is_false, not_true}
use Rattle.policy.proofs.Least.{least_at}
use Rattle.policy.proofs.Refusals.{refusal_number, refusal_same, refusal_starts, refusal-clash}
use Rattle.wire.specs.Format.{merged_version, list_in, file_size, file_of}
use Rattle.reconcile.specs.Crossproduct.{In, AllCovering}
use Rattle.reconcile.specs.Rules.{Working, list, crowded, working, Merging, refused, merged, finished, merge_of, conflict_of, common_actions, lacking, same, all_permit}
use Rattle.reconcile.proofs.Decide.{Witness}
use Rattle.reconcile.proofs.Common.{same_by, common_permits, common_caught, empty_permits, permits_empty}
use Rattle.reconcile.proofs.Merging.{merged_permits, merged_reconciles, merged_widest, merged_irredundant, merged_covers, Conflicts, conflict_tells, conflict_made, conflict_some, accepted_when}
use Rattle.reconcile.proofs.Theorems.{merged_crossproduct}
use Rattle.wire.specs.Answers.{ifAccepted}
use Rattle.wire.specs.Writing.{placed}
use Rattle.wire.proofs.Records.{length_file}
use Rattle.reconcile.specs.Ending.{answer_of, file_for}
use Rattle.bench.specs.Book.{Book, in_force}
use Rattle.bench.specs.Answers.{also, catchers_from, conflict_answer, entries_at, entries_for, merging_of}
use Rattle.bench.specs.Demand3.{NoCommonAction, LeastWithout, Evidence, Accepted, MergedList, Keeps, Demand3}
use Rattle.bench.proofs.Evidence.{named_catchers, names_none, named_none}
use Rattle.bench.proofs.Fitting.{ReadsBack}

-- ---- no action in common

module _ (p : List Entry) (ps : List (List Entry)) (covering : AllCovering headers (p ∷ ps)) (h : Header) (member : among headers h ≡ true) where
  pub none_common : lacking (p ∷ ps) h ≡ true → NoCommonAction (p ∷ ps) h
  none_common e k = sym (common_permits k p ps h) ∙ empty_permits (common_actions (p ∷ ps) h) e k

  pub common_none : NoCommonAction (p ∷ ps) h → lacking (p ∷ ps) h ≡ true
  common_none n =
      permits_empty (common_actions (p ∷ ps) h) (common_caught h p ps λ q i. covering q i h member) λ k. common_permits k p ps h ∙ n k

-- ---- conflict

module _ (p : List Entry) (ps : List (List Entry)) (covering : AllCovering headers (p ∷ ps)) (h : Header) where
  pub conflict_least : Conflicts headers p ps h → LeastWithout (p ∷ ps) h
  conflict_least c = record {
    member = c.member;
    lacking = none_common p ps covering h c.member c.empty;
    earliest = λ g a b n. clash (common_none p ps covering g a n) (c.earliest g a b);
  }

  pub least_conflicts : (working headers p ps ≡ crowded → ⊥) → LeastWithout (p ∷ ps) h → Conflicts headers p ps h
  least_conflicts within w = record {
    within = within;
    member = w.member;
    empty = common_none p ps covering h w.member w.lacking;
    earliest = λ g a b. is_false (lacking (p ∷ ps) g) λ t. w.earliest g a b (none_common p ps covering g a t);
  }

-- the header of a conflict is the one that rule 3 finds
pub conflict_is : (p : List Entry) (ps : List (List Entry)) (h : Header) → Conflicts headers p ps h → conflict_of headers (p ∷ ps) ≡ Some h
conflict_is p ps h c = least_at headers (lacking (p ∷ ps)) h c.member c.empty c.earliest

pub conflict_of_lem : (ps : List (List Entry)) (h : Header) → merge_of headers ps ≡ refused (Conflict h) → conflict_of headers ps ≡ Some h
conflict_of_lem [] h e = absurd (let z : ◌≡◌ {A = ℕ} 0 1 = cc in omega arith)
conflict_of_lem (p ∷ ps) h e = conflict_is p ps h (conflict_tells headers p ps h e)

-- where no header lacks a common action, and the working list is not crowded, there is a merged list
pub merges_when : (p : List Entry) (ps : List (List Entry)) → AllCovering headers (p ∷ ps) → (working headers p ps ≡ crowded → ⊥)
    → ((h : Header) → among headers h ≡ true → NoCommonAction (p ∷ ps) h → ⊥) → (m : List Entry) × (merge_of headers (p ∷ ps) ≡ merged m)
merges_when p ps covering within none =
    accepted_when headers p ps within λ h a. is_false (lacking (p ∷ ps) h) λ t. none h a (none_common p ps covering h a t)

-- ---- the merged list

-- what a header shows that is allowed another set without an entry
pub shows_needed : (m q : List Entry) → Witness headers (λ h. not (same (allowed q h) (allowed m h)))
    → (h : Header) × (among headers h ≡ true) × ((caught q h ≡ false) ⊎ (allowed q h ≡ allowed m h → ⊥))
shows_needed m q w = (w.header, w.member, inr λ s. clash (same_by (allowed q w.header) (allowed m w.header) s) (not_true w.holds))

module _ (p : List Entry) (ps : List (List Entry)) (covering : AllCovering headers (p ∷ ps)) (m : List Entry) (e : merge_of headers (p ∷ ps) ≡ merged m) where
  pub merged_list_is : MergedList (p ∷ ps) m (length m)
  merged_list_is = record {
    count = refl;
    exactly = λ h a k. merged_permits headers p ps m e k h a;
    correct = record { covering = merged_covers headers p ps m e covering; reconciles = merged_reconciles headers p ps m e };
    widest = λ q c. merged_widest headers p ps m e q c.reconciles;
    crossproduct = λ ts x. merged_crossproduct headers (p ∷ ps) m ts e x;
    irredundant = λ front d back w. shows_needed m (front ++ back) (merged_irredundant headers p ps m e front d back w);
  }

-- ---- by the cases of the rules

module _ (buffer : List ℕ) where
  abbrev answer_to : Merging → Answer
  answer_to r = answer_of r buffer

  -- the buffer afterwards
  abbrev pub buffer_after : Merging → List ℕ
  buffer_after r = ifAccepted (answer_of r buffer) (placed (file_for r) buffer) buffer

  -- a merged list is accepted, or the buffer is narrow
  apart-merged {ℓ} : {A : Type ℓ} (m : List Entry) (r : Answer) → answer_to (merged m) ≡ r → (r.number ≡ 0 → ⊥) → (r.number ≡ 11 → ⊥) → A
  apart-merged {A = A} m r e a n = go (ltb (length buffer) (file_size merged_version (length m))) e
    where
      go : (b : Bool) → first_of (refuse b (Narrow (file_size merged_version (length m))) ∷ []) (accepted (length m ∷ file_size merged_version (length m) ∷ [])) ≡ r → A
      go true e = absurd (n (sym (ap (λ (x : Answer). x.number) e)))
      go false e = absurd (a (sym (ap (λ (x : Answer). x.number) e)))

  -- what the answer says of the merging
  pub told_refused : (r : Merging) (s : Refusal) → answer_to r ≡ refusal s → ((refusal s).number ≡ 11 → ⊥) → r ≡ refused s
  told_refused (refused r) s e n = ap refused (refusal_same r s e)
  told_refused (merged m) s e n = apart-merged m (refusal s) e (refusal_number s) n

  -- an acceptance: the file stands at the start of the buffer
  pub record Wrote (r : Merging) (n l : ℕ) : Type 0 where
    pub list : List Entry
    pub is : r ≡ merged list
    pub count : length list ≡ n
    pub size : file_size merged_version (length list) ≡ l
    pub after : buffer_after r ≡ placed (file_of merged_version list) buffer

  pub told_accepted : (r : Merging) (n l : ℕ) → answer_to r ≡ accepted (n ∷ l ∷ []) → Wrote r n l
  told_accepted (refused r) n l e = refusal-clash r (n ∷ l ∷ []) e
  told_accepted (merged m) n l e = go (ltb (length buffer) (file_size merged_version (length m))) refl e
    where
      go : (b : Bool) → ltb (length buffer) (file_size merged_version (length m)) ≡ b
          → first_of (refuse b (Narrow (file_size merged_version (length m))) ∷ []) (accepted (length m ∷ file_size merged_version (length m) ∷ [])) ≡ accepted (n ∷ l ∷ []) → Wrote (merged m) n l
      go true t e = refusal-clash (Narrow (file_size merged_version (length m))) (n ∷ l ∷ []) e
      go false t e = record {
        list = m;
        is = refl;
        count = ap (λ (a : Answer). get_or a.values 0 0) e;
        size = ap (λ (a : Answer). get_or a.values 1 0) e;
        after = ap (λ (b : Bool). ifAccepted (first_of (refuse b (Narrow (file_size merged_version (length m))) ∷ []) (accepted (length m ∷ file_size merged_version (length m) ∷ []))) (placed (file_of merged_version m) buffer) buffer) t;
      }

  -- a refusal leaves the buffer
  pub left_alone : (r : Merging) → is_accepted (answer_to r) ≡ false → buffer_after r ≡ buffer
  left_alone r e = ap (λ (b : Bool). cond b (placed (file_for r) buffer) buffer) e

  pub written : (r : Merging) (m : List Entry) → r ≡ merged m → Accepted r buffer (answer_to r) (buffer_after r)
  written r m e = record {
    list = m;
    by_the_rules = e;
    long_enough = λ l. (ap answer_to e ∙ fits (le-ltb (length buffer) (file_size merged_version (length m)) l), ap buffer_after e ∙ file (le-ltb (length buffer) (file_size merged_version (length m)) l));
    too_short = λ l. ap answer_to e ∙ short (lt-ltb (length buffer) (file_size merged_version (length m)) l);
  }
    where
      fits : ltb (length buffer) (file_size merged_version (length m)) ≡ false → answer_to (merged m) ≡ accepted (length m ∷ file_size merged_version (length m) ∷ [])
      fits t = ap (λ (b : Bool). first_of (refuse b (Narrow (file_size merged_version (length m))) ∷ []) (accepted (length m ∷ file_size merged_version (length m) ∷ []))) t

      file : ltb (length buffer) (file_size merged_version (length m)) ≡ false → buffer_after (merged m) ≡ placed (file_of merged_version m) buffer
      file t = ap (λ (b : Bool). ifAccepted (first_of (refuse b (Narrow (file_size merged_version (length m))) ∷ []) (accepted (length m ∷ file_size merged_version (length m) ∷ []))) (placed (file_of merged_version m) buffer) buffer) t

      short : ltb (length buffer) (file_size merged_version (length m)) ≡ true → answer_to (merged m) ≡ refusal (Narrow (file_size merged_version (length m)))
      short t = ap (λ (b : Bool). first_of (refuse b (Narrow (file_size merged_version (length m))) ∷ []) (accepted (length m ∷ file_size merged_version (length m) ∷ []))) t

  -- the list that is read from the start of the buffer is the one that was written
  pub read_again : (r : Merging) → ReadsBack r → (n l : ℕ) (w : Wrote r n l) (P : List Entry → ℕ → Type 0) → P w.list (length w.list) → P (list_in (take l (buffer_after r))) n
  read_again r back n l w P p =
      subst (P (list_in (take l (buffer_after r)))) w.count
      (subst (λ (m : List Entry). P m (length w.list))
      (sym (ap list_in (ap (take l) w.after ∙ take_at (file_of merged_version w.list) (drop (length (file_of merged_version w.list)) buffer) l (length_file merged_version w.list ∙ w.size) ∙ sym (append-nil (file_of merged_version w.list))) ∙ back w.list w.is []))
      p)

-- ---- with what a conflict names

module _ (k : Book) (buffer : List ℕ) where
  abbrev pub answer_naming : Merging → Answer
  answer_naming r = also (answer_of r buffer) (entries_for k (answer_of r buffer))

  pub told_conflict : (r : Merging) (h : Header) → answer_naming r ≡ conflict_answer k h → r ≡ refused (Conflict h)
  told_conflict (refused s) h e = ap refused (refusal_starts s (Conflict h) (entries_for k (refusal s)) (catchers_from 1 k h) e)
  told_conflict (merged m) h e =
      let n : (answer_of (merged m) buffer).number ≡ 10 = ap (λ (a : Answer). a.number) e in
      apart-merged buffer m (answer_of (merged m) buffer) refl (λ z. omega arith) (λ z. omega arith)

  pub told_other : (r : Merging) (s : Refusal) → eqb (refusal s).number 10 ≡ false → answer_naming r ≡ refusal s → ((refusal s).number ≡ 11 → ⊥) → r ≡ refused s
  told_other r s o e n = told_refused buffer r s (named_none k (answer_of r buffer) (refusal s) o e) n

  pub told_written : (r : Merging) (n l : ℕ) → answer_naming r ≡ accepted (n ∷ l ∷ []) → Wrote buffer r n l
  told_written r n l e = told_accepted buffer r n l (named_none k (answer_of r buffer) (accepted (n ∷ l ∷ [])) refl e)

  -- a merged list is no conflict
  pub written_plainly : (r : Merging) (m : List Entry) → r ≡ merged m → Accepted r buffer (answer_naming r) (buffer_after buffer r)
  written_plainly r m e =
      subst (λ (a : Answer). Accepted r buffer a (buffer_after buffer r)) (sym (names_none k (answer_of r buffer) (ap (λ (x : Merging). eqb (answer_of x buffer).number 10) e ∙ none (ltb (length buffer) (file_size merged_version (length m))))))
      (written buffer r m e)
    where
      none : (b : Bool) → eqb (first_of (refuse b (Narrow (file_size merged_version (length m))) ∷ []) (accepted (length m ∷ file_size merged_version (length m) ∷ []))).number 10 ≡ false
      none true = refl
      none false = refl

  module _ (p : List Entry) (ps : List (List Entry)) (is : in_force k ≡ p ∷ ps) (h : Header) (c : Conflicts headers p ps h) where
    -- the header whose entries are named is the conflict's
    pub conflict_answer_lem : also (refusal (Conflict h)) (entries_for k (refusal (Conflict h))) ≡ conflict_answer k h
    conflict_answer_lem = ap (λ (f : Option Header). also (refusal (Conflict h)) (entries_at k f)) (ap (conflict_of headers) is ∙ conflict_is p ps h c)

    pub conflict_evidence : AllCovering headers (p ∷ ps) → Evidence k h (catchers_from 1 k h)
    conflict_evidence covering =
        let n = named_catchers 1 k h (λ q i. covering q (subst (In q) is i) h c.member) in record {
          sets = n.0;
          entries = n.1;
          nothing_common = λ a. n.2 a ∙ ap (λ (l : List (List Entry)). all_permit a l h) is ∙ none_common p ps covering h c.member c.empty a;
        }

  -- ---- all of it

  by_lists : (ps : List (List Entry)) → in_force k ≡ ps → AllCovering headers ps → ReadsBack (merge_of headers ps) → Keeps k ps buffer (answer_naming (merge_of headers ps)) (buffer_after buffer (merge_of headers ps))
  by_lists [] is covering back = record {
    conflict_named = λ h r. absurd r;
    conflict_found = λ r. absurd r;
    conflict_shown = λ h e. absurd (let z : ◌≡◌ {A = ℕ} 8 10 = ap (λ (a : Answer). a.number) e in omega arith);
    otherwise = λ r. absurd r;
    merged_list = λ n l e. refusal-clash Bare (n ∷ l ∷ []) e;
    bare = (λ e. refl, λ e. refl);
    crowded_only = λ e r. r;
    crowded_when = λ p qs e. absurd (let z : ◌≡◌ {A = ℕ} 0 1 = cc in omega arith);
    refused = λ e. refl;
  }
  by_lists (p ∷ ps) is covering back = record {
    conflict_named = λ h within. (λ e. conflict_least p ps covering h (tells h e), λ w. named h (least_conflicts p ps covering h within w));
    conflict_found = λ within h a n. let c = conflict_some headers p ps h within a (common_none p ps covering h a n) in (c.0, named c.0 (conflict_tells headers p ps c.0 c.1));
    conflict_shown = λ h e. conflict_evidence p ps is h (tells h e) covering;
    otherwise = λ within none.
        let m = merges_when p ps covering within none in
        written_plainly (merge_of headers (p ∷ ps)) m.0 m.1;
    merged_list = λ n l e.
        let w = told_written (merge_of headers (p ∷ ps)) n l e in
        read_again buffer (merge_of headers (p ∷ ps)) back n l w (MergedList (p ∷ ps)) (merged_list_is p ps covering w.list w.is);
    bare = (λ e. absurd (never_bare (working headers p ps) (conflict_of headers (p ∷ ps)) (told_other (merge_of headers (p ∷ ps)) Bare refl e λ z. omega arith)), λ e. absurd (let z : ◌≡◌ {A = ℕ} 0 1 = cc in omega arith));
    crowded_only = λ e within. within (was_crowded (working headers p ps) (conflict_of headers (p ∷ ps)) (told_other (merge_of headers (p ∷ ps)) Crowded refl e λ z. omega arith));
    crowded_when = λ q qs e w. ap answer_naming (ap (merge_of headers) e ∙ ap (λ (v : Working). finished headers v (conflict_of headers (q ∷ qs))) w);
    refused = left_alone buffer (merge_of headers (p ∷ ps));
  }
    where
      tells : (h : Header) → answer_naming (merge_of headers (p ∷ ps)) ≡ conflict_answer k h → Conflicts headers p ps h
      tells h e = conflict_tells headers p ps h (told_conflict (merge_of headers (p ∷ ps)) h e)

      named : (h : Header) → Conflicts headers p ps h → answer_naming (merge_of headers (p ∷ ps)) ≡ conflict_answer k h
      named h c = ap answer_naming (conflict_made headers p ps h c) ∙ conflict_answer_lem p ps is h c

      never_bare : (w : Working) (c : Option Header) → finished headers w c ≡ refused Bare → ⊥
      never_bare (list w) (Some h) e = let z : ◌≡◌ {A = ℕ} 0 1 = cc in omega arith
      never_bare (list w) None e = let z : ◌≡◌ {A = ℕ} 0 1 = cc in omega arith
      never_bare crowded c e = let z : ◌≡◌ {A = ℕ} 0 1 = cc in omega arith

      was_crowded : (w : Working) (c : Option Header) → finished headers w c ≡ refused Crowded → w ≡ crowded
      was_crowded (list w) (Some h) e = absurd (let z : ◌≡◌ {A = ℕ} 0 1 = cc in omega arith)
      was_crowded (list w) None e = absurd (let z : ◌≡◌ {A = ℕ} 0 1 = cc in omega arith)
      was_crowded crowded c e = refl

  pub demand_3 : AllCovering headers (in_force k) → ReadsBack (merge_of headers (in_force k)) → Demand3 k buffer (merging_of k buffer).0 (merging_of k buffer).1
  demand_3 covering back = by_lists (in_force k) refl covering back
