-- 02, Wish 6: what a trial keeps to, with the book `k`.
-- `answer` is its answer, `buffer` what the lent buffer held before and `after` what it holds then.
use Rattle.std.specs.Prelude.{ℕ, ◌≡◌, true, false, List}
use Rattle.policy.specs.Refusals.{Answer, is_accepted}
use Rattle.wire.specs.Format.{list_in}
use Rattle.reconcile.specs.Crossproduct.{In}
use Rattle.bench.specs.Book.{Book, in_force}
use Rattle.bench.specs.Answers.{filing_of}
use Rattle.bench.specs.Calls.{filing, book_step}
use Rattle.bench.specs.Demand3.{Demand3}

-- what is said of a trial of the file s for party p
pub record Trying (p : ℕ) (s : List ℕ) (k : Book) (buffer : List ℕ) (answer : Answer) (after : List ℕ) : Type 0 where
  -- a refused filing is answered as filing would answer it, and leaves the buffer as it was
  pub not_filed : is_accepted (filing_of p s) ≡ false → (answer ≡ filing_of p s) × (after ≡ buffer)
  -- else it keeps to demand 3, as a merging with the book that the filing would leave
  pub as_filed : is_accepted (filing_of p s) ≡ true → Demand3 (book_step k (filing p s)) buffer answer after
  -- the tried list is in force there, so that no trial is refused as bare
  pub tried_in_force : is_accepted (filing_of p s) ≡ true → In (list_in s) (in_force (book_step k (filing p s)))
