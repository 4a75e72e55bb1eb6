-- What the answer of checks 1 to 4 tells a caller.
-- Assumes nothing.
use Prim.Native.Nat.{ℕ, zero, suc, ◌+◌, ◌*◌, ◌-◌, ◌≤◌, ◌<◌}
use native.Mathlib.Omega.{arith}
use mathlib.Core.Path.{◌≡◌, refl, sym, ◌∙◌, ap}
use mathlib.Core.Bool.{Bool, true, false, cond}
use mathlib.Core.List.{List, [], ◌∷◌, ◌++◌}
use lib.ListN.{length, get_or}
use Rattle.std.specs.Prelude.{Result, Ok, Err, None, Option, Some}
use Rattle.policy.specs.declared.entry.Entry.{Entry}
use Rattle.policy.specs.declared.refusal.Refusal.{Refusal}
use Rattle.policy.specs.declared.refusal.Refusal.TheVariants.{Missized, Version, Count, Crossed}
use Rattle.policy.specs.Refusals.{Answer, refusal, accepted, refuse, first_of}
use Rattle.policy.proofs.Bool.{not_false}
use Rattle.wire.specs.Format.{is_version, record_size, length_in, version_in, count_in, place_in, list_in}
use Rattle.wire.specs.Checks.{missized, bad_version, bad_count, first_from, first_crossed, refuse_entry, file_checks, checks_of, checked}
use Rattle.policy.proofs.Refusals.{first_of_append, refused_stays, not_refused}
use Rattle.wire.proofs.Sizes.{records_least}
use Rattle.wire.proofs.Checks.{size_told, limits_told, count_told, entry_not_refused}

-- a file that passes, with n entries
pub record GoodFile (s : List ℕ) (limit n : ℕ) : Type 0 where
  pub size : length s ≡ place_in s n
  pub length_is : length_in s ≡ 3 + record_size (version_in s) * n
  pub version_is : is_version (version_in s) ≡ true
  pub count_is : count_in s ≡ n
  pub least_is : 1 ≤ n
  pub most_is : n ≤ limit
  pub uncrossed : first_crossed (list_in s) ≡ None
  -- checks that come after these decide alone
  pub passes : (rs : List (Option Answer)) (a : Answer) → first_of (file_checks s limit ++ rs) a ≡ first_of rs a

-- the checks from each on
abbrev from_crossed : List ℕ → List (Option Answer)
from_crossed s = refuse_entry Crossed (first_crossed (list_in s)) ∷ []

abbrev from_count : List ℕ → ℕ → List (Option Answer)
from_count s limit = refuse (bad_count s limit) Count ∷ from_crossed s

abbrev from_version : List ℕ → ℕ → List (Option Answer)
from_version s limit = refuse (bad_version s) Version ∷ from_count s limit

-- an acceptance, taken apart
pub accepted_tells : (s : List ℕ) (limit n : ℕ) → accepted (n ∷ []) ≡ checks_of s limit → GoodFile s limit n
accepted_tells s limit n e =
    let a = accepted (count_in s ∷ []) in
    let one = not_refused (missized s) Missized (from_version s limit) a (n ∷ []) e in
    let two = not_refused (bad_version s) Version (from_count s limit) a (n ∷ []) one.1 in
    let three = not_refused (bad_count s limit) Count (from_crossed s) a (n ∷ []) two.1 in
    let four = entry_not_refused (first_crossed (list_in s)) [] a (n ∷ []) three.1 in
    let z = size_told s one.0 in
    let k = count_told s limit three.0 in
    let b = limits_told limit (count_in s) k.0 in
    let m : count_in s ≡ n = ap (λ (x : Answer). get_or x.values 0 0) (sym four.1) in
    let counted : length_in s - 3 ≡ record_size (version_in s) * n = k.1 ∙ ap (record_size (version_in s) *◌) m in
    let Some : 28 * n ≤ record_size (version_in s) * n = records_least (version_in s) n in
    record {
      size = omega arith;
      length_is = omega arith;
      version_is = not_false two.0;
      count_is = m;
      least_is = omega arith;
      most_is = omega arith;
      uncrossed = four.0;
      passes = λ rs x. rw (one.0, two.0, three.0, four.0);
    }

pub good_tells : (s : List ℕ) (limit : ℕ) (r : Result ℕ Refusal) (n : ℕ) → checked r ≡ checks_of s limit → r ≡ Ok n → GoodFile s limit n
good_tells s limit r n e g = accepted_tells s limit n (ap checked (sym g) ∙ e)

-- a refusal stands, whatever checks come after
pub refused_tells : (s : List ℕ) (limit : ℕ) (r : Result ℕ Refusal) (x : Refusal) → checked r ≡ checks_of s limit → r ≡ Err x
    → (rs : List (Option Answer)) (a : Answer) → refusal x ≡ first_of (file_checks s limit ++ rs) a
refused_tells s limit r x e g rs a =
    refused_stays (file_checks s limit) (count_in s ∷ []) x (first_of rs a) (ap checked (sym g) ∙ e)
    ∙ sym (first_of_append (file_checks s limit) rs a)

-- no entry of a list has a property
pub none_crossed : (P : Entry → Bool) (i : ℕ) (p : List Entry) → first_from P i p ≡ None → (k : ℕ) (d : Entry) → k < length p → P (get_or p k d) ≡ false
none_crossed P i [] e k d l = absurd (none_below k l)
  where
    none_below : (k : ℕ) → k < 0 → ⊥
    none_below k l = omega arith
none_crossed P i (x ∷ p) e k d l = go (P x) refl e (none_crossed P (i + 1) p) k l
  where
    go : (b : Bool) → P x ≡ b → cond b (Some i) (first_from P (i + 1) p) ≡ None
        → (first_from P (i + 1) p ≡ None → (k : ℕ) (d : Entry) → k < length p → P (get_or p k d) ≡ false)
        → (k : ℕ) → k < suc (length p) → P (get_or (x ∷ p) k d) ≡ false
    go true t h ih k l = absurd (let z : ◌≡◌ {A = ℕ} 0 1 = cc in omega arith)
    go false t h ih zero l = t
    go false t h ih (suc k) l = ih h k d (omega arith)
