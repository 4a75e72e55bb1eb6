-- 02, Wish 2: what an installing keeps to, with the book `k` and the lists `ps` in force, in rising number of their parties.
-- `answer` is its answer, `buffer` what the lent buffer held before and `after` what it holds then.
use Rattle.std.specs.Prelude.{ℕ, ◌≡◌, ◌↔◌, true, false, List, [], ◌∷◌, ◌++◌, length, take}
use Rattle.policy.specs.declared.header.Header.{Header}
use Rattle.policy.specs.declared.entry.Entry.{Entry}
use Rattle.policy.specs.declared.refusal.Refusal.TheVariants.{Ranking}
use Rattle.policy.specs.Header.{among, headers}
use Rattle.policy.specs.Ranking.{is_ranking, only}
use Rattle.policy.specs.Policy.{actions, allowed, Covering}
use Rattle.policy.specs.Refusals.{Answer, refusal, accepted, is_accepted}
use Rattle.wire.specs.Format.{list_in}
use Rattle.reconcile.specs.Crossproduct.{In}
use Rattle.reconcile.specs.Rules.{all_permit}
use Rattle.reconcile.specs.Installing.{install_of}
use Rattle.bench.specs.Book.{Book, in_force}
use Rattle.bench.specs.Answers.{catchers_from, conflict_answer}
use Rattle.bench.specs.Demand3.{NoCommonAction, LeastWithout, Evidence, WithinLimit, Accepted, Irredundant}

-- action k is the best-ranked of the header's common actions: it is common, and none that the ranking has before it is
pub record BestCommon (ranking : List ℕ) (ps : List (List Entry)) (h : Header) (k : ℕ) : Type 0 where
  pub common : all_permit k ps h ≡ true
  pub better : List ℕ
  pub worse : List ℕ
  pub ranked : ranking ≡ better ++ k ∷ worse
  pub best : (j : ℕ) → In j better → all_permit j ps h ≡ false

-- what is said of the installed list m, of n entries
pub record InstalledList (ranking : List ℕ) (ps : List (List Entry)) (m : List Entry) (n : ℕ) : Type 0 where
  -- the answer carries its entry count
  pub count : length m ≡ n
  -- it allows each header exactly the best-ranked of its common actions
  pub exactly : (h : Header) → among headers h ≡ true → (k : ℕ) × BestCommon ranking ps h k × (allowed m h ≡ actions (only k))
  pub covering : Covering headers m
  -- striking any one of its entries leaves some header uncaught or allowed a different set
  pub irredundant : Irredundant m

-- what is said of an installing with the book k, whose lists in force are ps
pub record Keeps (ranking : List ℕ) (k : Book) (ps : List (List Entry)) (buffer : List ℕ) (answer : Answer) (after : List ℕ) : Type 0 where
  -- it is refused for the ranking exactly when the bytes are none
  pub no_ranking : (answer ≡ refusal Ranking) ↔ (is_ranking ranking ≡ false)
  -- with one, it is refused for conflict exactly when a merging is, and names the same header
  pub conflict_named : is_ranking ranking ≡ true → (h : Header) → WithinLimit ps → (answer ≡ conflict_answer k h) ↔ LeastWithout ps h
  -- and shows it by the same entries
  pub conflict_shown : (h : Header) → answer ≡ conflict_answer k h → Evidence k h (catchers_from 1 k h)
  -- otherwise, in a buffer that is long enough for the installed file, it is accepted with that
  pub otherwise : is_ranking ranking ≡ true → WithinLimit ps → ((h : Header) → among headers h ≡ true → NoCommonAction ps h → ⊥)
      → Accepted (install_of headers ranking ps) buffer answer after
  -- the installed list is the one read from the start of the buffer, as many bytes as the answer's length says
  pub installed_list : (n l : ℕ) → answer ≡ accepted (n ∷ l ∷ []) → InstalledList ranking ps (list_in (take l after)) n
  -- a refused installing leaves the buffer as it was
  pub refused : is_accepted answer ≡ false → after ≡ buffer

abbrev pub Installing : List ℕ → Book → List ℕ → Answer → List ℕ → Type 0
Installing ranking k buffer answer after = Keeps ranking k (in_force k) buffer answer after
