-- What the code answers at the end of a merging, and what it names.
use Rattle.reconcile.specs.declared.ending.Merged.{Merged}
use Rattle.policy.specs.declared.refusal.Refusal.{Refusal}
use Rattle.std.specs.Prelude.{◌≡◌, false, List, [], eqb, None, Option, Some, ℕ, Result, Err}
use Rattle.policy.specs.declared.header.Header.{Header}
use Rattle.policy.specs.declared.entry.Entry.{Entry}
use Rattle.policy.specs.declared.refusal.Refusal.TheVariants.{Conflict}
use Rattle.policy.specs.Header.{headers}
use Rattle.policy.specs.Policy.{catcher}
use Rattle.policy.specs.Refusals.{Answer}
use Rattle.reconcile.specs.Rules.{conflict_of}
use Rattle.reconcile.specs.steps.Ending.{ending}
use Rattle.bench.specs.declared.calls.Bench.{Bench}
use Rattle.bench.specs.declared.calls.MergeResult.{MergeResult}
use Rattle.bench.specs.Book.{Book, in_force}
use Rattle.bench.specs.Answers.{named_from, entries_for}
use Rattle.bench.specs.Held.{book_of}

-- the entry that catches the header in the list of a slot, if it has one in force
abbrev pub catcher_in : Header → Option (List Entry) → Option ℕ
catcher_in h None = None
catcher_in h (Some q) = catcher q h

-- what the merging came to, in 01's terms
abbrev pub said_by : Result Merged Refusal → Answer
said_by m = (ending m []).0

-- c is the header of a conflict; or m is none
pub record ConflictIn (m : Result Merged Refusal) (c : Option Header) : Type 0 where
  pub header : (h : Header) → c ≡ Some h → m ≡ Err (Conflict h)
  pub other : c ≡ None → eqb (said_by m).number 10 ≡ false

-- where the header of a conflict is the one that rule 3 finds, what is named is what the answer asks for
abbrev pub NamesFor : Book → Result Merged Refusal → List (Option ℕ) → Type 0
NamesFor k m ns = ((h : Header) → m ≡ Err (Conflict h) → conflict_of headers (in_force k) ≡ Some h) → named_from 1 ns ≡ entries_for k (said_by m)

-- the bench as it was, and the answer with what it names
pub record ResultOf (b : Bench) (m : Result Merged Refusal) (r : MergeResult) : Type 0 where
  pub same : r.bench ≡ b
  pub answer : r.answer ≡ m
  pub names : NamesFor (book_of b) m r.named
