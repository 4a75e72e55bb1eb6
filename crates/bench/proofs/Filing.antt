-- What an accepted filing or withdrawal shows, and what the slot of an accepted filing holds.
-- Assumes nothing.
use Rattle.std.specs.Prelude.{None, Some}
use Prim.Native.Nat.{ℕ, ◌-◌, ◌≤◌, min}
use native.Mathlib.Omega.{arith}
use mathlib.Core.Path.{◌≡◌, sym, ◌∙◌, ap}
use mathlib.Core.Bool.{Bool, true, cond}
use mathlib.Core.List.{List, [], ◌∷◌}
use lib.ListN.{length, replicate}
use lib.Seq.{take-append_seam}
use borrow.Author.Tests.{ne_eqb}
use Rattle.policy.specs.declared.refusal.Refusal.TheVariants.{Party}
use Rattle.policy.specs.Refusals.{accepted, is_accepted, refuse}
use Rattle.policy.proofs.Refusals.{refuse_refuses, accepted_passes, refuse_passes}
use Rattle.wire.specs.Format.{filed_limit, count_in, place_in, entries_from, records_in, list_in}
use Rattle.wire.proofs.Checked.{GoodFile}
use Rattle.wire.proofs.Checks.{limits_told}
use Rattle.wire.proofs.Sizes.{records_counted}
use Rattle.region.specs.ListChecks.{list_checks}
use Rattle.region.proofs.ListChecks.{GoodList, list_refuses, passes_tell}
use Rattle.bench.specs.Book.{parties}
use Rattle.bench.specs.Answers.{bad_party, filing_of}
use Rattle.bench.specs.Held.{slot_size, slot_with, slot_list, list_in_slot}

-- an accepted filing: the party is one, the file is good and its list covering
pub record Files (p : ℕ) (s : List ℕ) : Type 0 where
  pub low : 1 ≤ p
  pub high : p ≤ parties
  pub file : GoodList s filed_limit

pub filing_tells : (p : ℕ) (s : List ℕ) → is_accepted (filing_of p s) ≡ true → Files p s
filing_tells p s e =
    let rows = accepted_passes (refuse (bad_party p) Party ∷ list_checks s filed_limit) (accepted (count_in s ∷ [])) (refuse_refuses (bad_party p) Party (list_checks s filed_limit) (list_refuses s filed_limit)) e in
    let party = refuse_passes (bad_party p) Party (list_checks s filed_limit) rows in
    let between = limits_told parties p party.0 in
    record { low = between.0; high = between.1; file = passes_tell s filed_limit party.1 }

-- a slot that was given a good file has its list in force
pub slot_holds : (s : List ℕ) (n : ℕ) → GoodFile s filed_limit n → list_in_slot (slot_with s) ≡ Some (list_in s)
slot_holds s n g =
    ap (λ (b : Bool). cond b None (Some (slot_list (slot_with s)))) (ne_eqb (length s) 0 (positive (length s) g.size))
    ∙ ap (λ (l : List ℕ). Some (entries_from l 0 (min (records_in l) filed_limit))) (take-append_seam s (replicate (slot_size - length s) 0))
    ∙ ap (λ (k : ℕ). Some (entries_from s 0 k)) (ap (λ (k : ℕ). min k filed_limit) (records_counted s n g.size) ∙ few n g.most_is ∙ sym g.count_is)
  where
    positive : (l : ℕ) → l ≡ place_in s n → l ≡ 0 → ⊥
    positive l e z = omega arith

    few : (n : ℕ) → n ≤ filed_limit → min n filed_limit ≡ n
    few n l = omega arith
