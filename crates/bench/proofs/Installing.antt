-- What an installing keeps to, with covering lists in force whose numbers fit their widths.
-- Assumes nothing.
use Prim.Native.Nat.{ℕ}
use native.Mathlib.Omega.{arith}
use mathlib.Core.Path.{◌≡◌, refl, sym, ◌∙◌, ap, subst}
use mathlib.Core.Bool.{Bool, true, false, cond}
use mathlib.Core.List.{List, [], ◌∷◌, ◌++◌, map}
use lib.ListN.{length}
use Rattle.policy.specs.declared.header.Header.{Header}
use Rattle.policy.specs.declared.entry.Entry.{Entry}
use Rattle.policy.specs.declared.refusal.Refusal.TheVariants.{Bare, Conflict, Ranking}
use Rattle.policy.specs.Header.{among, headers}
use Rattle.policy.specs.Ranking.{is_ranking, only}
use Rattle.policy.specs.Policy.{Allowed, actions, uncaught, allowed, is_caught}
use Rattle.policy.specs.Refusals.{Answer, refusal}
use Rattle.policy.proofs.Bool.{clash}
use Rattle.policy.proofs.Refusals.{refusal-clash}
use Rattle.wire.specs.Format.{merged_version, list_in, file_of}
use Rattle.wire.specs.Answers.{ifAccepted}
use Rattle.wire.specs.Writing.{placed}
use Rattle.reconcile.specs.Crossproduct.{AllCovering}
use Rattle.reconcile.specs.Rules.{permits, common_actions, struck, Merging, refused, merged, merge_of}
use Rattle.reconcile.specs.Installing.{with_best, installed, install_of}
use Rattle.reconcile.specs.Ending.{answer_of, file_for}
use Rattle.reconcile.proofs.Common.{common_permits}
use Rattle.reconcile.proofs.Merging.{merging_cases, merged_covers, merged_acts, merged_allows, Conflicts, conflict_tells, conflict_made}
use Rattle.reconcile.proofs.Installing.{best_of_some, best_allowed, installed_allows, installed_covers, installed_irredundant, installed_tells, refused_tells}
use Rattle.bench.specs.Demand3.{Accepted}
use Rattle.bench.specs.Book.{Book, in_force}
use Rattle.bench.specs.Answers.{conflict_answer, installing_of}
use Rattle.bench.specs.Installing.{BestCommon, InstalledList, Keeps, Installing}
use Rattle.bench.proofs.Fitting.{AllListsFit, ReadsBack, merged_fit, allowed_fits, installed_reads_back}
use Rattle.bench.proofs.Demand3.{shows_needed, conflict_least, least_conflicts, merges_when, left_alone, read_again, answer_naming, told_conflict, told_other, told_written, written_plainly, conflict_answer_lem, conflict_evidence}

-- ---- the installed list

module _ (ranking : List ℕ) (r : is_ranking ranking ≡ true) (p : List Entry) (ps : List (List Entry)) (covering : AllCovering headers (p ∷ ps)) (fit : AllListsFit (p ∷ ps))
    (m : List Entry) (e : merge_of headers (p ∷ ps) ≡ merged m) where
  abbrev left : List Entry
  left = struck headers (map (with_best ranking) m)

  -- the set that is common to all lists has a best-ranked action, which the installed list allows alone
  best_common : (h : Header) → among headers h ≡ true → (k : ℕ) × BestCommon ranking (p ∷ ps) h k × (allowed left h ≡ actions (only k))
  best_common h a = go (common_actions (p ∷ ps) h) refl
    where
      go : (x : Allowed) → common_actions (p ∷ ps) h ≡ x → (k : ℕ) × BestCommon ranking (p ∷ ps) h k × (allowed left h ≡ actions (only k))
      go uncaught q = clash (sym (ap is_caught (merged_allows headers p ps m e h a ∙ q)) ∙ merged_covers headers p ps m e covering h a) refl
      go (actions s) q =
          let t = best_of_some ranking r s (allowed_fits m (merged_fit p ps fit m e) h s (merged_allows headers p ps m e h a ∙ q))
          (λ z. merged_acts headers p ps m e h a (merged_allows headers p ps m e h a ∙ q ∙ ap actions z)) in
          let is : (k : ℕ) → permits k (actions s) ≡ permits k (common_actions (p ∷ ps) h) = λ k. ap (permits k) (sym q) in (
            t.0,
            record {
              common = sym (is t.0 ∙ common_permits t.0 p ps h) ∙ t.1.there;
              better = t.1.better;
              worse = t.1.worse;
              ranked = t.1.ranked;
              best = λ j i. sym (is j ∙ common_permits j p ps h) ∙ t.1.first j i;
            },
            installed_allows headers ranking p ps m e h a ∙ ap (best_allowed ranking) q ∙ ap actions t.1.alone,
          )

  pub installed_list_is : InstalledList ranking (p ∷ ps) left (length left)
  installed_list_is = record {
    count = refl;
    exactly = best_common;
    covering = installed_covers headers ranking p ps m e covering;
    irredundant = λ front d back w. shows_needed left (front ++ back) (installed_irredundant headers ranking p ps m e front d back w);
  }

-- ---- by the cases of the rules

never_ranking : (ranking : List ℕ) (ps : List (List Entry)) → installed headers ranking (merge_of headers ps) ≡ refused Ranking → ⊥
never_ranking ranking ps e =
    merging_cases headers ps (λ x. x ≡ refused Ranking → ⊥) (λ q. let z : ◌≡◌ {A = ℕ} 0 1 = cc in omega arith) (λ q. let z : ◌≡◌ {A = ℕ} 0 1 = cc in omega arith)
    (λ h q. let z : ◌≡◌ {A = ℕ} 0 1 = cc in omega arith) (λ m q. let z : ◌≡◌ {A = ℕ} 0 1 = cc in omega arith) (refused_tells headers ranking (merge_of headers ps) Ranking e)

module _ (ranking : List ℕ) (k : Book) (buffer : List ℕ) where
  -- what is said of an installing that the rules bring to x
  abbrev Kept : List (List Entry) → Merging → Type 0
  Kept ps x = Keeps ranking k ps buffer (answer_naming k buffer x) (ifAccepted (answer_of x buffer) (placed (file_for x) buffer) buffer)

  no_ranking_kept : (ps : List (List Entry)) → is_ranking ranking ≡ false → Kept ps (refused Ranking)
  no_ranking_kept ps n = record {
    no_ranking = (λ e. n, λ e. refl);
    conflict_named = λ r. clash r n;
    conflict_shown = λ h e. absurd (let z : ◌≡◌ {A = ℕ} 12 10 = ap (λ (a : Answer). a.number) e in omega arith);
    otherwise = λ r. clash r n;
    installed_list = λ i l e. refusal-clash Ranking (i ∷ l ∷ []) e;
    refused = λ e. refl;
  }

  with_ranking : (ps : List (List Entry)) → in_force k ≡ ps → AllCovering headers ps → AllListsFit ps → (r : is_ranking ranking ≡ true) → install_of headers ranking ps ≡ installed headers ranking (merge_of headers ps)
      → Kept ps (installed headers ranking (merge_of headers ps))
  with_ranking [] is covering fit r q = record {
    no_ranking = (λ e. absurd (never_ranking ranking [] (told_other k buffer (refused Bare) Ranking refl e λ z. omega arith)), λ n. clash r n);
    conflict_named = λ r h within. absurd within;
    conflict_shown = λ h e. absurd (let z : ◌≡◌ {A = ℕ} 8 10 = ap (λ (a : Answer). a.number) e in omega arith);
    otherwise = λ r within. absurd within;
    installed_list = λ i l e. refusal-clash Bare (i ∷ l ∷ []) e;
    refused = λ e. refl;
  }
  with_ranking (p ∷ ps) is covering fit r q = record {
    no_ranking = (λ e. absurd (never_ranking ranking (p ∷ ps) (told_other k buffer x Ranking refl e λ z. omega arith)), λ n. clash r n);
    conflict_named = λ t h within. (λ e. conflict_least p ps covering h (tells h e), λ w. named h (least_conflicts p ps covering h within w));
    conflict_shown = λ h e. conflict_evidence k buffer p ps is h (tells h e) covering;
    otherwise = λ t within none.
        let m = merges_when p ps covering within none in
        subst (λ (y : Merging). Accepted y buffer (answer_naming k buffer x) (ifAccepted (answer_of x buffer) (placed (file_for x) buffer) buffer)) (sym q)
        (written_plainly k buffer x (struck headers (map (with_best ranking) m.0)) (ap (installed headers ranking) m.1));
    installed_list = λ n l e.
        let w = told_written k buffer x n l e in
        read_again buffer x back n l w (InstalledList ranking (p ∷ ps)) (said w.list w.is);
    refused = left_alone buffer x;
  }
    where
      x : Merging
      x = installed headers ranking (merge_of headers (p ∷ ps))

      tells : (h : Header) → answer_naming k buffer x ≡ conflict_answer k h → Conflicts headers p ps h
      tells h e = conflict_tells headers p ps h (refused_tells headers ranking (merge_of headers (p ∷ ps)) (Conflict h) (told_conflict k buffer x h e))

      named : (h : Header) → Conflicts headers p ps h → answer_naming k buffer x ≡ conflict_answer k h
      named h c =
          ap (λ (y : Merging). answer_naming k buffer (installed headers ranking y)) (conflict_made headers p ps h c)
          ∙ conflict_answer_lem k buffer p ps is h c

      back : ReadsBack x
      back m e s =
          let g = installed_tells headers ranking (merge_of headers (p ∷ ps)) m e in
          subst (λ (l : List Entry). list_in (file_of merged_version l ++ s) ≡ l) g.left (installed_reads_back ranking r p ps fit g.list g.is s)

      said : (m : List Entry) → x ≡ merged m → InstalledList ranking (p ∷ ps) m (length m)
      said m e =
          let g = installed_tells headers ranking (merge_of headers (p ∷ ps)) m e in
          subst (λ (l : List Entry). InstalledList ranking (p ∷ ps) l (length l)) g.left (installed_list_is ranking r p ps covering fit g.list g.is)

  -- ---- all of it

  pub no_ranking_keeps : is_ranking ranking ≡ false → Installing ranking k buffer (refusal Ranking) buffer
  no_ranking_keeps n = no_ranking_kept (in_force k) n

  pub installs : AllCovering headers (in_force k) → AllListsFit (in_force k) → Installing ranking k buffer (installing_of k ranking buffer).0 (installing_of k ranking buffer).1
  installs covering fit = go (is_ranking ranking) refl
    where
      go : (b : Bool) → is_ranking ranking ≡ b → Kept (in_force k) (cond b (installed headers ranking (merge_of headers (in_force k))) (refused Ranking))
      go true r = with_ranking (in_force k) refl covering fit r (ap (λ (b : Bool). cond b (installed headers ranking (merge_of headers (in_force k))) (refused Ranking)) r)
      go false n = no_ranking_kept (in_force k) n
