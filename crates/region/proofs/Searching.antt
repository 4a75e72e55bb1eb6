-- What the code's branches show of the wants of a search.
-- Assumes nothing.
use Rattle.std.specs.Prelude.{None, Option, Some, Result, Ok, Err}
use Rattle.policy.specs.declared.header.Header.{Header}
use Rattle.std.proofs.Common.{◌≡◌, ℕ, suc, ◌+◌, ◌-◌, ◌<◌, ◌≤◌, Bool, true, false, cond, List, [], ◌∷◌, ◌++◌, length, sym, refl, ap, ◌∙◌, subst, ap₂, arith}
use Rattle.policy.specs.declared.entry.Entry.{Entry}
use Rattle.policy.specs.declared.refusal.Refusal.{Refusal}
use Rattle.policy.specs.Box.{meet}
use Rattle.policy.specs.Header.{arity, Box, headers}
use Rattle.policy.specs.Direction.{crossed_box}
use Rattle.policy.specs.Least.{least_in}
use Rattle.policy.specs.Entry.{selector}
use Rattle.policy.specs.Policy.{catcher, missed}
use Rattle.policy.specs.Refusals.{refusal}
use Rattle.policy.specs.steps.Findings.{lesser}
use Rattle.policy.proofs.Least.{lesser_last}
use Rattle.policy.proofs.Branch.{found_has}
use Rattle.wire.specs.Format.{list_limit, entries_from, list_in}
use Rattle.wire.specs.steps.Numbered.{entry_in}
use Rattle.wire.specs.Checks.{checks_of, checked}
use Rattle.wire.proofs.Checked.{good_tells, refused_tells}
use Rattle.wire.proofs.Entries.{length_entries, first_split}
use Rattle.region.specs.declared.search.FoundHeader.{FoundHeader}
use Rattle.region.specs.declared.search.Want.{Want}
use Rattle.region.specs.declared.search.Want.TheVariants.{Uncaught, CaughtBy, Differs}
use Rattle.region.specs.declared.treated.Finding.{Finding}
use Rattle.region.specs.Search.{treated, least_in_box, with_catcher, found_answer, search_of, searched}
use Rattle.region.specs.steps.Corner.{sooner}
use Rattle.region.specs.steps.Treated.{Finds, finding_answer}
use Rattle.region.proofs.Uses.{caught_by, caught_by_none}
use Rattle.region.proofs.Catching.{caught_first, by_is, finds_uncaught}

-- ---- caught by an entry

module _ (s : List ℕ) (n k : ℕ) (x : Box) where
  split_at : k < n → entries_from s 0 n ≡ entries_from s 0 k ++ entry_in s k ∷ entries_from s (k + 1) (n - suc k)
  split_at l = ap (entries_from s 0) (parts k n l) ∙ first_split s k (suc (n - suc k))
    where
      parts : (k n : ℕ) → k < n → n ≡ k + suc (n - suc k)
      parts k n l = omega arith

  pub found_caught_by : (e : Entry) (sides p : Box) (found : Option Header) → k < n → e ≡ entry_in s k → sides ≡ selector e → p ≡ meet arity x sides
      → found ≡ least_in headers p (missed (entries_from s 0 k)) → found ≡ least_in headers x (treated (CaughtBy k) (entries_from s 0 n))
  found_caught_by e sides p found l r q m f =
      f
      ∙ ap (λ (p : Box). least_in headers p (missed (entries_from s 0 k))) (m ∙ ap (meet arity x) (q ∙ ap selector r))
      ∙ sym (ap₂ (λ (k : ℕ) (es : List Entry). least_in headers x (treated (CaughtBy k) es)) (sym (length_entries s 0 k)) (split_at l)
      ∙ caught_by headers x (entries_from s 0 k) (entry_in s k) (entries_from s (k + 1) (n - suc k)))

  pub found_by_none : n ≤ k → None ≡ least_in headers x (treated (CaughtBy k) (entries_from s 0 n))
  found_by_none l = sym (caught_by_none headers x k (entries_from s 0 n) (few (length (entries_from s 0 n)) (length_entries s 0 n) l))
    where
      few : (m : ℕ) → m ≡ n → n ≤ k → m ≤ k
      few m e l = omega arith

-- ---- the wants

module _ (p : List Entry) (x : Box) (want : Want) (t : Bool) (c : t ≡ crossed_box x) where
  -- a crossed box
  pub box_crossed : (by : Option ℕ) → t ≡ true → Finds p (least_in_box x (treated want p)) None (record { found = None; by = by })
  box_crossed by q = record {
    header = ap (λ (b : Bool). lesser (cond b None (least_in headers x (treated want p))) None) (sym (sym c ∙ q));
    entry = caught_first p None by;
  }

  -- a box that is not crossed, and what is wanted
  as_wanted : (w : Want) (r : Finding) → t ≡ false → want ≡ w → Finds p (least_in headers x (treated w p)) None r → Finds p (least_in_box x (treated want p)) None r
  as_wanted w r q e f =
      subst (λ (l : Option Header). Finds p l None r)
      (ap (λ (w : Want). least_in headers x (treated w p)) (sym e) ∙ sym (ap (λ (b : Bool). cond b None (least_in headers x (treated want p))) (sym c ∙ q))) f

  pub uncaught_wanted : (found : Option Header) → t ≡ false → want ≡ Uncaught → found ≡ least_in headers x (missed p)
      → Finds p (least_in_box x (treated want p)) None (record { found = found; by = None })
  uncaught_wanted found q e f = as_wanted Uncaught (record { found = found; by = None }) q e (finds_uncaught x p found f)

  pub entry_wanted : (k : ℕ) (found : Option Header) → t ≡ false → want ≡ CaughtBy k → found ≡ least_in headers x (treated (CaughtBy k) p)
      → Finds p (least_in_box x (treated want p)) None (record { found = found; by = Some k })
  entry_wanted k found q e f = as_wanted (CaughtBy k) (record { found = found; by = Some k }) q e record {
    header = f ∙ sym (lesser_last (least_in headers x (treated (CaughtBy k) p)));
    entry = λ h a s. by_is k (catcher p h) (found_has headers x (treated (CaughtBy k) p) h (sym f ∙ a));
  }

  pub other_set_wanted : (s : ℕ) (r : Finding) → t ≡ false → want ≡ Differs s → Finds p (least_in headers x (treated (Differs s) p)) None r
      → Finds p (least_in_box x (treated want p)) None r
  other_set_wanted s r q e f = as_wanted (Differs s) r q e f

-- ---- the file

-- what is found, and what catches it, is the answer
finding_answers : (p : List Entry) (least : Option Header) (f : Finding) → Finds p least None f → finding_answer f.found f.by ≡ found_answer p least
finding_answers p least f i = ap (λ (c : Option Header). finding_answer c f.by) (i.header ∙ lesser_last least) ∙ go least refl
  where
    go : (l : Option Header) → least ≡ l → finding_answer l f.by ≡ found_answer p l
    go None e = refl
    go (Some h) e =
        let q = i.header ∙ lesser_last least ∙ e in
        ap (with_catcher h) (i.entry h q (ap (λ (c : Option Header). sooner c None) q))

module _ (s : List ℕ) (b : Box) (want : Want) (r : Result ℕ Refusal) (e : checked r ≡ checks_of s list_limit) where
  pub file_refused : (x : Refusal) → r ≡ Err x → refusal x ≡ search_of s b want
  file_refused x g = refused_tells s list_limit r x e g [] (found_answer (list_in s) (least_in_box b (treated want (list_in s))))

  pub file_searched : (n : ℕ) (f : Finding) (a : Result (Option FoundHeader) Refusal) → r ≡ Ok n → Finds (entries_from s 0 n) (least_in_box b (treated want (entries_from s 0 n))) None f
      → searched a ≡ finding_answer f.found f.by → searched a ≡ search_of s b want
  file_searched n f a g i j =
      let good = good_tells s list_limit r n e g in
      j
      ∙ finding_answers (entries_from s 0 n) (least_in_box b (treated want (entries_from s 0 n))) f i
      ∙ ap (λ (k : ℕ). found_answer (entries_from s 0 k) (least_in_box b (treated want (entries_from s 0 k)))) (sym good.count_is)
      ∙ sym (good.passes [] (found_answer (list_in s) (least_in_box b (treated want (list_in s)))))
