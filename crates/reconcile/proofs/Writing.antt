-- The end of a merging or an installing: what it comes to is written.
-- Assumes nothing.
use Rattle.std.specs.Prelude.{None, Option, Some, Result, Ok, Err}
use Rattle.policy.specs.declared.header.Header.{Header}
use Prim.Native.Nat.{ℕ, ◌<◌, ◌≤◌}
use mathlib.Core.Path.{◌≡◌, refl, sym, ◌∙◌, ap}
use mathlib.Core.Bool.{Bool, true, false, not, cond}
use mathlib.Core.List.{List, [], ◌∷◌, map}
use lib.ListN.{length, take}
use borrow.Author.Tests.{lt-ltb, le-ltb}
use Rattle.policy.specs.declared.entry.Entry.{Entry}
use Rattle.policy.specs.declared.refusal.Refusal.{Refusal}
use Rattle.policy.specs.declared.refusal.Refusal.TheVariants.{Bare, Crowded, Conflict, Narrow, Ranking}
use Rattle.policy.specs.Header.{Headers, headers}
use Rattle.policy.specs.Ranking.{is_ranking}
use Rattle.policy.specs.Refusals.{Answer, refusal, accepted, refuse, refuse_at, first_of}
use Rattle.policy.proofs.Refusals.{refusal_refuses}
use Rattle.wire.specs.Format.{merged_version, file_size, file_of}
use Rattle.wire.specs.Answers.{ifAccepted}
use Rattle.wire.specs.Writing.{placed, too_narrow}
use Rattle.reconcile.specs.declared.stage.Stage.{Stage}
use Rattle.reconcile.specs.Rules.{Working, list, crowded, working, conflict_of, struck, Merging, refused, merged, finished, merge_of}
use Rattle.reconcile.specs.Installing.{with_best, installed, install_of}
use Rattle.reconcile.specs.Ending.{answer_of, ending_of, is_crowded, left_of, working_of, merge_checks, install_checks}
use Rattle.reconcile.specs.steps.Stage.{working_held, stage_in, ended}
use Rattle.reconcile.specs.steps.Verdicts.{judged_as, Judged}
use Rattle.reconcile.specs.steps.Ending.{ending}

-- ---- writing

module _ (p : List Entry) (b : List ℕ) where
  abbrev n : ℕ
  n = length p

  by_answer : (a : Answer) → answer_of (merged p) b ≡ a → ending_of (merged p) b ≡ (a, ifAccepted a (placed (file_of merged_version p) b) b)
  by_answer a e = ap (λ (x : Answer). (x, ifAccepted x (placed (file_of merged_version p) b) b)) e

  pub narrow_made : (k : ℕ) → k ≡ file_size merged_version n → length b < k → ending (Err (Narrow k)) b ≡ ending_of (merged p) b
  narrow_made k e l =
      ap (λ (k : ℕ). ending (Err (Narrow k)) b) e
      ∙ sym (by_answer (refusal (Narrow (file_size merged_version n)))
      (ap (λ (t : Bool). first_of (refuse t (Narrow (file_size merged_version n)) ∷ []) (accepted (n ∷ file_size merged_version n ∷ []))) (lt-ltb (length b) (file_size merged_version n) (rw e at l))))

  pub done_made : (c : List ℕ) (k : ℕ) → k ≡ file_size merged_version n → k ≤ length b → c ≡ placed (file_of merged_version p) b → ending (Ok record { count = n; length = k }) c ≡ ending_of (merged p) b
  done_made c k g l e =
      ap (λ (k : ℕ). ending (Ok record { count = n; length = k }) c) g
      ∙ ap (λ (x : List ℕ). (accepted (n ∷ file_size merged_version n ∷ []), x)) e
      ∙ sym (by_answer (accepted (n ∷ file_size merged_version n ∷ []))
      (ap (λ (t : Bool). first_of (refuse t (Narrow (file_size merged_version n)) ∷ []) (accepted (n ∷ file_size merged_version n ∷ []))) (le-ltb (length b) (file_size merged_version n) (rw g at l))))

-- ---- what a merging or an installing comes to is written: f is what becomes of a merging

-- no list
pub ends_bare : (s : Option Stage) (b : List ℕ) (f : Merging → Merging) → s ≡ None → f (refused Bare) ≡ refused Bare → ending (Err Bare) b ≡ ending_of (f (ended headers (stage_in s))) b
ends_bare s b f e k = ap (λ (m : Merging). ending_of m b) (sym k ∙ ap (λ (s : Option Stage). f (ended headers (stage_in s))) (sym e))

module _ (s : Stage) (o : Option Stage) (is : o ≡ Some s) (v : Result Unit Refusal) (rows b : List ℕ) (j : Judged s v rows) (f : Merging → Merging) where
  its_end : f (ended headers (Some (working_held s))) ≡ f (ended headers (stage_in o))
  its_end = ap (λ (o : Option Stage). f (ended headers (stage_in o))) (sym is)

  pub ends_refused : (r : Refusal) → v ≡ Err r → f (refused r) ≡ refused r → ending (Err r) b ≡ ending_of (f (ended headers (stage_in o))) b
  ends_refused r e k =
      ap (λ (t : Bool). (refusal r, cond t b b)) (sym (refusal_refuses r))
      ∙ ap (λ (m : Merging). ending_of m b) (sym k ∙ ap (λ (v : Result Unit Refusal). f (judged_as v (struck headers (take s.count s.entries)))) (sym e) ∙ ap f j.outcome ∙ its_end)

  pub ends_merged : (a : Answer × List ℕ) (p : List Entry) → v ≡ Ok (tt {0}) → merged p ≡ f (merged (struck headers (take s.count s.entries)))
      → a ≡ ending_of (merged p) b → a ≡ ending_of (f (ended headers (stage_in o))) b
  ends_merged a p e k q =
      q
      ∙ ap (λ (m : Merging). ending_of m b) (k ∙ ap (λ (v : Result Unit Refusal). f (judged_as v (struck headers (take s.count s.entries)))) (sym e) ∙ ap f j.outcome ∙ its_end)

-- ---- the answer is that of the checks in their order

-- where n entries are left of a working list, the file is theirs
in_order : (hs : Headers) (ps : List (List Entry)) (b : List ℕ) (left : List Entry → List Entry) (f : Merging → Merging)
    → ((r : Refusal) → f (refused r) ≡ refused r) → ((m : List Entry) → f (merged m) ≡ merged (left m))
    → answer_of (f (merge_of hs ps)) b
    ≡ first_of (merge_checks hs ps (length (left (left_of hs (working_of hs ps)))) b) (accepted (length (left (left_of hs (working_of hs ps))) ∷ file_size merged_version (length (left (left_of hs (working_of hs ps)))) ∷ []))
in_order hs [] b left f u v = ap (λ (m : Merging). answer_of m b) (u Bare)
in_order hs (p ∷ ps) b left f u v = go (working hs p ps) (conflict_of hs (p ∷ ps))
  where
    go : (w : Working) (c : Option Header)
        → answer_of (f (finished hs w c)) b
        ≡ first_of
        (refuse false Bare ∷ refuse (is_crowded w) Crowded ∷ refuse_at Conflict c ∷ too_narrow merged_version (length (left (left_of hs w))) b ∷ [])
        (accepted (length (left (left_of hs w)) ∷ file_size merged_version (length (left (left_of hs w))) ∷ []))
    go crowded c = ap (λ (m : Merging). answer_of m b) (u Crowded)
    go (list w) (Some h) = ap (λ (m : Merging). answer_of m b) (u (Conflict h))
    go (list w) None = ap (λ (m : Merging). answer_of m b) (v (struck hs w))

-- merging: 8, 9, 10, 11
pub checks_in_order : (hs : Headers) (ps : List (List Entry)) (b : List ℕ)
    → answer_of (merge_of hs ps) b
    ≡ first_of
    (merge_checks hs ps (length (left_of hs (working_of hs ps))) b)
    (accepted (length (left_of hs (working_of hs ps)) ∷ file_size merged_version (length (left_of hs (working_of hs ps))) ∷ []))
checks_in_order hs ps b = in_order hs ps b (λ m. m) (λ m. m) (λ r. refl) (λ m. refl)

-- installing: 12, 8, 9, 10, 11
pub install_checks_in_order : (hs : Headers) (ranking : List ℕ) (ps : List (List Entry)) (b : List ℕ)
    → answer_of (install_of hs ranking ps) b
    ≡ first_of
    (install_checks hs ranking ps (length (struck hs (map (with_best ranking) (left_of hs (working_of hs ps))))) b)
    (accepted (length (struck hs (map (with_best ranking) (left_of hs (working_of hs ps)))) ∷ file_size merged_version (length (struck hs (map (with_best ranking) (left_of hs (working_of hs ps))))) ∷ []))
install_checks_in_order hs ranking ps b = go (is_ranking ranking)
  where
    n : ℕ
    n = length (struck hs (map (with_best ranking) (left_of hs (working_of hs ps))))

    go : (t : Bool)
        → answer_of (cond t (installed hs ranking (merge_of hs ps)) (refused Ranking)) b
        ≡ first_of (refuse (not t) Ranking ∷ merge_checks hs ps n b) (accepted (n ∷ file_size merged_version n ∷ []))
    go true = in_order hs ps b (λ m. struck hs (map (with_best ranking) m)) (installed hs ranking) (λ r. refl) (λ m. refl)
    go false = refl
