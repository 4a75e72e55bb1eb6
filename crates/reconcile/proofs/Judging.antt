-- What rule 3 makes of a working list, and of a stage.
-- Assumes nothing.
use Rattle.std.specs.Prelude.{is_ok, None, Option, Some, Result, Ok, Err}
use Prim.Native.Nat.{ℕ, ◌*◌, ◌<◌, ◌≤◌}
use mathlib.Core.Path.{◌≡◌, refl, sym, ◌∙◌, ap}
use mathlib.Core.List.{List}
use lib.ListN.{length, take}
use Rattle.policy.specs.declared.header.Header.{Header}
use Rattle.policy.specs.declared.entry.Entry.{Entry}
use Rattle.policy.specs.declared.refusal.Refusal.{Refusal}
use Rattle.policy.specs.declared.refusal.Refusal.TheVariants.{Crowded, Conflict}
use Rattle.policy.specs.Header.{headers}
use Rattle.policy.specs.Least.{least}
use Rattle.policy.specs.Policy.{allowed}
use Rattle.policy.specs.steps.Rows.{row_size, rows_from, rows_in}
use Rattle.policy.proofs.Bool.{clash}
use Rattle.wire.specs.Format.{list_limit}
use Rattle.reconcile.specs.declared.stage.Stage.{Stage}
use Rattle.reconcile.specs.Rules.{is_empty, Working, list, struck, refused, merged, settled}
use Rattle.reconcile.specs.steps.Stage.{ended}
use Rattle.reconcile.specs.steps.Verdicts.{judged_as, Judged}
use Rattle.reconcile.proofs.Beside.{lent_front}
use Rattle.reconcile.proofs.Keeping.{working_crowded, working_list}

-- ---- a working list

module _ (s : List ℕ) (es : List Entry) (f : Option Header) (x : rows_from s 0 (length es) ≡ es) (l : row_size * length es ≤ length s)
    (q : f ≡ least headers (λ h. is_empty (allowed (rows_in (take (row_size * length es) s)) h))) where
  ends_as : ended headers (Some (list es)) ≡ settled headers f es
  ends_as =
      ap (λ (p : List Entry). settled headers (least headers λ h. is_empty (allowed p h)) es) (sym (lent_front s (length es) l ∙ x))
      ∙ ap (λ (g : Option Header). settled headers g es) (sym q)

  pub judges_conflict : (h : Header) → f ≡ Some h → refused (Conflict h) ≡ ended headers (Some (list es))
  judges_conflict h e = sym (ends_as ∙ ap (λ (g : Option Header). settled headers g es) e)

  pub judges_merged : f ≡ None → merged (struck headers es) ≡ ended headers (Some (list es))
  judges_merged e = sym (ends_as ∙ ap (λ (g : Option Header). settled headers g es) e)

-- ---- a stage

module _ (x : Stage) where
  pub judges_crowded : (rows : List ℕ) → list_limit < x.count → Judged x (Err Crowded) rows
  judges_crowded rows l = record {
    outcome = ap (λ (w : Working). ended headers (Some w)) (sym (working_crowded x.entries x.count l));
    few = λ q. never q;
    same = λ q. never q;
  }
    where
      never : {A : Type 0} → Err Crowded ≡ Ok (tt {0}) → A
      never q = clash (ap is_ok q) refl

  pub judges_list : (v : Result Unit Refusal) (rows : List ℕ) → x.count ≤ list_limit
      → (judged_as v (struck headers (take x.count x.entries)) ≡ ended headers (Some (list (take x.count x.entries))))
      × (rows_from rows 0 (length (take x.count x.entries)) ≡ take x.count x.entries)
      → Judged x v rows
  judges_list v rows l q = record {
    outcome = q.0 ∙ ap (λ (w : Working). ended headers (Some w)) (sym (working_list x.entries x.count l));
    few = λ m. l;
    same = λ m. q.1;
  }
