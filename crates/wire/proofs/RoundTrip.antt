-- Demand 2: reading and writing undo each other.
-- Assumes nothing.
use Prim.Native.Nat.{ℕ, ◌+◌, ◌*◌, ◌≤◌, ◌<◌}
use native.Mathlib.Omega.{arith}
use mathlib.Core.Path.{◌≡◌, refl, sym, ◌∙◌, ap, ap₂, subst}
use mathlib.Core.Bool.{Bool, true, false, not}
use mathlib.Core.List.{List, [], ◌∷◌, ◌++◌, append-nil}
use native.Mathlib.Nat.{zero-add}
use lib.ListN.{length, take, drop}
use borrow.Author.Tests.{lt-ltb}
use lib.Seq.{take_all, take-add, take_at, take-append_seam, length-take-le}
use Rattle.std.specs.Prelude.{Result, Ok, None}
use Rattle.policy.specs.declared.entry.Entry.{Entry}
use Rattle.policy.specs.declared.refusal.Refusal.{Refusal}
use Rattle.policy.specs.declared.refusal.Refusal.TheVariants.{Narrow}
use Rattle.policy.specs.Entry.{crossed}
use Rattle.policy.specs.Refusals.{Answer, refusal, accepted}
use Rattle.policy.proofs.Conjunctions.{paired}
use Rattle.wire.specs.declared.list.Entries.{Entries}
use Rattle.wire.specs.Format.{Bytes, is_version, head_size, record_size, file_size, list_limit, length_in, version_in, count_in, entries_from, list_in, head_of, records_of, file_of}
use Rattle.wire.specs.Checks.{first_crossed, checks_of, checked}
use Rattle.wire.specs.Lists.{held, listed, no_entries, reading_of}
use Rattle.wire.specs.Writing.{placed, crossed_in, first_crossed_in, write_answer, writing_of, ReadAgain}
use Rattle.wire.proofs.Numbers.{join2}
use Rattle.wire.proofs.Sizes.{records_most}
use Rattle.wire.proofs.Answers.{after-accepted, after-refused}
use Rattle.wire.proofs.Entries.{length_entries}
use Rattle.wire.proofs.Records.{AllHold, uncrossed_hold, uncrossed_plainly, entries_crossed, records_from, head_is, entries_in_file, length_file}
use Rattle.wire.specs.steps.Fits.{AllFit, GoodFit}
use Rattle.wire.specs.steps.Crossed.{crossed_of}
use Rattle.wire.proofs.Checks.{sized, within_limits, limits_told, counted, crossed_none, by_entries}
use Rattle.wire.proofs.Checked.{accepted_tells}
use Rattle.wire.proofs.Writing.{write_accepted, written, accepted_write}

-- Demand 2, "a file read as a list and written again is the same file": one that passes the checks, in its version.
pub read_and_written : (s : List ℕ) (limit n : ℕ) → Bytes s → checks_of s limit ≡ accepted (n ∷ []) → file_of (version_in s) (list_in s) ≡ s
read_and_written s limit n f e =
    let g = accepted_tells s limit n (sym e) in
    let v = version_in s in
    let whole = g.size in
    ap₂ (λ (m k : ℕ). head_of v m ++ records_of v (entries_from s 0 k)) (length_entries s 0 (count_in s) ∙ g.count_is) g.count_is
    ∙ ap₂ (◌++◌) (head_is v s n f (omega arith) g.length_is refl g.count_is)
    (records_from v s 0 n f (omega (arith, ap (file_size v) (zero-add n))) ∙ ap (λ (k : ℕ). take (record_size v * n) (drop k s)) (start (record_size v)))
    ∙ sym (take-add head_size (record_size v * n) s)
    ∙ take_all (head_size + record_size v * n) s (omega arith)
  where
    start : (k : ℕ) → head_size + k * 0 ≡ head_size
    start k = omega arith

-- Demand 2, "a list written and read again is the same list", whatever bytes come after the file.
pub written_and_read : (v : ℕ) (p : List Entry) (r : List ℕ) → length p ≤ list_limit → AllHold v p → list_in (file_of v p ++ r) ≡ p
written_and_read v p r l f = ap (entries_from (file_of v p ++ r) 0) (join2 (length p) (omega arith)) ∙ entries_in_file v p r f

-- and the written file passes the checks
pub written_passes : (v : ℕ) (p : List Entry) (limit : ℕ) → is_version v ≡ true → 1 ≤ length p → length p ≤ limit → limit ≤ list_limit → AllHold v p → first_crossed p ≡ None
    → checks_of (file_of v p) limit ≡ accepted (length p ∷ [])
written_passes v p limit is least most all f u =
    let s = file_of v p in
    let n = length p in
    let l : length_in s ≡ 3 + record_size v * n = join2 (3 + record_size v * n) (omega (arith, records_most v n)) in
    let c : count_in s ≡ n = join2 n (omega arith) in
    let z : length s ≡ head_size + record_size v * n = length_file v p in
    let m : record_size v * count_in s ≡ record_size v * n = ap (record_size v *◌) c in
    let es : entries_from s 0 n ≡ p = ap (λ (t : List ℕ). entries_from t 0 n) (sym (append-nil s)) ∙ entries_in_file v p [] f in
    sym
    (by_entries s limit (sized s (omega arith) (omega arith)) (ap not is)
    (counted s limit (within_limits limit (count_in s) (omega arith) (omega arith)) (omega arith))
    n (accepted (n ∷ [])) (sym c)
    (crossed_none crossed (entries_from s 0 n) n (ap first_crossed es ∙ u)))

-- ---- the same of the calls, whose contracts are `reading_of` and `writing_of`

pub held_listed : (v : ℕ) (p : List Entry) → held (listed v p) ≡ p
held_listed v p = take-append_seam p _

-- no entry of a good file's list is crossed in the sense of its version
pub uncrossed_in : (s : List ℕ) → first_crossed (list_in s) ≡ None → first_crossed_in (version_in s) (list_in s) ≡ None
uncrossed_in s e = entries_crossed (version_in s) 0 s 0 (count_in s) ∙ e

-- an accepted file that was read, and the list written to a buffer that has room: the buffer begins with the file
pub file_again : (s b : List ℕ) (n : ℕ) → Bytes s → checks_of s list_limit ≡ accepted (n ∷ []) → length s ≤ length b
    → writing_of (reading_of s).1 b ≡ (accepted (length s ∷ []), placed s b)
file_again s b n f e l =
    let v = version_in s in
    let p = list_in s in
    let g = accepted_tells s list_limit n (sym e) in
    let count : length p ≡ n = length_entries s 0 (count_in s) ∙ g.count_is in
    let size : length s ≡ file_size v (length p) = g.size ∙ ap (file_size v) (sym count) in
    let least = g.least_is in
    let most = g.most_is in
    let t = write_accepted (listed v p) b g.version_is (within_limits list_limit (length p) (omega arith) (omega arith)) (ap (first_crossed_in v) (held_listed v p) ∙ uncrossed_in s g.uncrossed) (omega arith) in
    sym (ap (λ (q : Entries). writing_of q b) (after-accepted (n ∷ []) (checks_of s list_limit) (listed v p) no_entries (sym e)))
    ∙ paired (sym t ∙ ap (λ (k : ℕ). accepted (k ∷ [])) (omega arith))
    (sym (after-accepted (file_size v (length p) ∷ []) (write_answer (listed v p) b) (placed (file_of v (held (listed v p))) b) b t)
    ∙ ap (λ (q : List ℕ). placed q b) (ap (file_of v) (held_listed v p) ∙ read_and_written s list_limit n f e))

-- and to one that has not: it is refused as narrow, by the file's own length
pub file_narrow : (s b : List ℕ) (n : ℕ) → checks_of s list_limit ≡ accepted (n ∷ []) → length b < length s
    → writing_of (reading_of s).1 b ≡ (refusal (Narrow (length s)), b)
file_narrow s b n e l =
    let v = version_in s in
    let p = list_in s in
    let g = accepted_tells s list_limit n (sym e) in
    let count : length p ≡ n = length_entries s 0 (count_in s) ∙ g.count_is in
    let size : length s ≡ file_size v (length p) = g.size ∙ ap (file_size v) (sym count) in
    let least = g.least_is in
    let most = g.most_is in
    let within = within_limits list_limit (length p) (omega arith) (omega arith) in
    let uncrossed = ap (first_crossed_in v) (held_listed v p) ∙ uncrossed_in s g.uncrossed in
    let short = lt-ltb (length b) (file_size v (length p)) (omega arith) in
    let long : file_size v (length p) ≡ length s = omega arith in
    let t : write_answer (listed v p) b ≡ refusal (Narrow (file_size v (length p))) = rw (g.version_is, within, uncrossed, short) in
    sym (ap (λ (q : Entries). writing_of q b) (after-accepted (n ∷ []) (checks_of s list_limit) (listed v p) no_entries (sym e)))
    ∙ paired (t ∙ ap (λ (k : ℕ). refusal (Narrow k)) long)
    (sym (after-refused (Narrow (file_size v (length p))) (write_answer (listed v p) b) (placed (file_of v (held (listed v p))) b) b (sym t)))

-- a list that was written, and its bytes read again: the same list in the first places, of its version
pub list_again : (l : Entries) (b c : List ℕ) (m : ℕ) → length l.entries ≡ list_limit → AllFit (held l) → writing_of l b ≡ (accepted (m ∷ []), c)
    → reading_of (take m c) ≡ (accepted (l.count ∷ []), listed l.version (held l))
list_again l b c m a f h =
    let v = l.version in
    let p = held l in
    let e : accepted (m ∷ []) ≡ write_answer l b = sym (ap (λ (x : Answer × List ℕ). x.0) h) in
    let t = accepted_write l b m e in
    let z = limits_told list_limit l.count t.1.0 in
    let count : length p ≡ l.count = length-take-le l.count l.entries (omega arith) in
    let size : length (file_of v p) ≡ m = length_file v p ∙ ap (file_size v) count ∙ sym t.1.1.1.0 in
    let hold : AllHold v p = uncrossed_hold v 0 p f t.1.1.0 in
    let whole : take m c ≡ file_of v p =
    ap (take m) (sym (after-accepted (m ∷ []) (write_answer l b) (placed (file_of v p) b) b e ∙ ap (λ (x : Answer × List ℕ). x.1) h))
    ∙ take_at (file_of v p) _ m size in
    let k : checks_of (file_of v p) list_limit ≡ accepted (length p ∷ []) = written_passes v p list_limit t.0 (omega arith) (omega arith) (omega arith) hold (uncrossed_plainly v 0 p t.1.1.0) in
    let q : list_in (file_of v p) ≡ p = ap list_in (sym (append-nil (file_of v p))) ∙ written_and_read v p [] (omega arith) hold in
    ap reading_of whole
    ∙ paired (k ∙ ap (λ (n : ℕ). accepted (n ∷ [])) count)
    (sym (after-accepted (length p ∷ []) (checks_of (file_of v p) list_limit) (listed v (list_in (file_of v p))) no_entries (sym k)) ∙ ap (listed v) q)

-- the same of what the code has at hand
pub written_again : (l : Entries) (b : List ℕ) → length l.entries ≡ list_limit → (o : Bool) → o ≡ is_version l.version → not o ≡ false → (r : Result ℕ Refusal) (m n : ℕ) (c : List ℕ) → 1 ≤ l.count → l.count ≤ list_limit
    → (checked r ≡ crossed_of (crossed_in l.version) (held l) (length (held l))) × GoodFit r (held l) → r ≡ Ok m → n ≡ file_size l.version l.count → n ≤ length b → c ≡ placed (file_of l.version (held l)) b
    → ReadAgain l (Ok n) c
written_again l b a o v y r m n c p q f g k h w =
    list_again l b c n a (subst (λ (x : Result ℕ Refusal). GoodFit x (held l)) g f.1) (sym (written l b o v y r m n c p q f.0 g k h w))
