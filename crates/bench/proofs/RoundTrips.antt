-- What the round trips answer, from the contracts of reading and writing.
-- Assumes nothing.
use Rattle.std.specs.Prelude.{Result, Ok, Err}
use Prim.Native.Nat.{ℕ, ◌≤◌}
use native.Mathlib.Omega.{arith}
use mathlib.Core.Path.{◌≡◌, refl, sym, ◌∙◌, ap, subst}
use mathlib.Core.Bool.{Bool, true, false}
use mathlib.Core.List.{List, [], ◌∷◌}
use lib.Dec.{ltb}
use lib.ListN.{length, take}
use borrow.Author.Tests.{ltb-true, ltb-false}
use Rattle.policy.specs.declared.refusal.Refusal.{Refusal}
use Rattle.policy.specs.declared.refusal.Refusal.TheVariants.{Narrow}
use Rattle.policy.specs.Refusals.{Answer, refusal, accepted, refuse, first_of}
use Rattle.policy.proofs.Conjunctions.{paired}
use Rattle.policy.proofs.Refusals.{refused_stays}
use Rattle.wire.specs.declared.list.Entries.{Entries}
use Rattle.wire.specs.Format.{Bytes, list_limit, file_size}
use Rattle.wire.specs.Checks.{checks_of}
use Rattle.wire.specs.Lists.{held, listed, no_entries, reading, reading_of}
use Rattle.wire.specs.Writing.{placed, write_checks, writing, writing_of, ReadAgain}
use Rattle.wire.proofs.Answers.{after-accepted, after-refused}
use Rattle.wire.proofs.Checked.{accepted_tells, refused_tells}
use Rattle.wire.proofs.RoundTrip.{file_again, file_narrow}
use Rattle.wire.proofs.Writing.{accepted_write}
use Rattle.bench.specs.Demand2.{rewrite_answer, rewriting_of, reread_answer, rereading_of}

-- ---- read and written

module _ (s b : List ℕ) (r : Result Entries Refusal) (e : reading r ≡ reading_of s) where
  pub rewrite_refused : (x : Refusal) → r ≡ Err x → writing (Err x) b ≡ rewriting_of s b
  rewrite_refused x g =
      let k : refusal x ≡ checks_of s list_limit = ap (λ (y : Result Entries Refusal). (reading y).0) (sym g) ∙ ap (λ (y : Answer × Entries). y.0) e in
      let t : refusal x ≡ rewrite_answer s b =
      refused_tells s list_limit (Err x) x k refl (refuse (ltb (length b) (length s)) (Narrow (length s)) ∷ []) (accepted (length s ∷ [])) in
      paired t (after-refused x (rewrite_answer s b) (placed s b) b t)

  pub rewrite_done : Bytes s → (l : Entries) (w : Result ℕ Refusal) (c : List ℕ) → r ≡ Ok l → writing w c ≡ writing_of l b → writing w c ≡ rewriting_of s b
  rewrite_done f l w c g d =
      d ∙ ap (λ (x : Entries). writing_of x b) (ap (λ (x : Answer × Entries). x.1) read) ∙ go (ltb (length b) (length s)) refl
    where
      n : ℕ
      n = l.count

      read : reading (Ok l) ≡ reading_of s
      read = ap reading (sym g) ∙ e

      good : checks_of s list_limit ≡ accepted (n ∷ [])
      good = sym (ap (λ (x : Answer × Entries). x.0) read)

      answer : (t : Bool) → ltb (length b) (length s) ≡ t → rewrite_answer s b ≡ first_of (refuse t (Narrow (length s)) ∷ []) (accepted (length s ∷ []))
      answer t q =
          (accepted_tells s list_limit n (sym good)).passes (refuse (ltb (length b) (length s)) (Narrow (length s)) ∷ []) (accepted (length s ∷ []))
          ∙ ap (λ (t : Bool). first_of (refuse t (Narrow (length s)) ∷ []) (accepted (length s ∷ []))) q

      go : (t : Bool) → ltb (length b) (length s) ≡ t → writing_of (reading_of s).1 b ≡ rewriting_of s b
      go true q =
          let a = answer true q in
          file_narrow s b n good (ltb-true (length b) (length s) q)
          ∙ paired (sym a) (after-refused (Narrow (length s)) (rewrite_answer s b) (placed s b) b (sym a))
      go false q =
          let a = answer false q in
          file_again s b n f good (ltb-false (length b) (length s) q)
          ∙ paired (sym a) (after-accepted (length s ∷ []) (rewrite_answer s b) (placed s b) b (sym a))

-- ---- written and read

module _ (l : Entries) (b c : List ℕ) (w : Result ℕ Refusal) (e : writing w c ≡ writing_of l b) where
  told : (v : Result ℕ Refusal) → w ≡ v → writing v c ≡ writing_of l b
  told v g = ap (λ (x : Result ℕ Refusal). writing x c) (sym g) ∙ e

  -- the file lies in the buffer
  pub written_within : (n : ℕ) → w ≡ Ok n → length c ≡ length b → n ≤ length c
  written_within n g k =
      let t = accepted_write l b n (ap (λ (x : Answer × List ℕ). x.0) (told (Ok n) g)) in
      let z = ltb-false (length b) (file_size l.version l.count) t.1.1.1.1 in
      omega (arith, t.1.1.1.0)

  pub reread_refused : (x : Refusal) → w ≡ Err x → ◌≡◌ {A = (Answer × Entries) × List ℕ} (reading (Err x), c) (rereading_of l b)
  reread_refused x g =
      let t = told (Err x) g in
      let a : refusal x ≡ reread_answer l b =
      refused_stays (write_checks l b) (file_size l.version l.count ∷ []) x (accepted (l.count ∷ [])) (ap (λ (y : Answer × List ℕ). y.0) t) in
      paired (paired a (after-refused x (reread_answer l b) (listed l.version (held l)) no_entries a)) (ap (λ (y : Answer × List ℕ). y.1) t)

  pub reread_done : (n : ℕ) (r : Result Entries Refusal) → ReadAgain l w c → w ≡ Ok n → reading r ≡ reading_of (take n c)
      → ◌≡◌ {A = (Answer × Entries) × List ℕ} (reading r, c) (rereading_of l b)
  reread_done n r f g h =
      let t = told (Ok n) g in
      let k = accepted_write l b n (ap (λ (y : Answer × List ℕ). y.0) t) in
      let a : reread_answer l b ≡ accepted (l.count ∷ []) = rw (k.0, k.1.0, k.1.1.0, k.1.1.1.1) in
      let same : reading_of (take n c) ≡ (accepted (l.count ∷ []), listed l.version (held l)) = subst (λ (x : Result ℕ Refusal). ReadAgain l x c) g f in
      paired
      (h ∙ same ∙ paired (sym a) (after-accepted (l.count ∷ []) (reread_answer l b) (listed l.version (held l)) no_entries (sym a)))
      (ap (λ (y : Answer × List ℕ). y.1) t)
