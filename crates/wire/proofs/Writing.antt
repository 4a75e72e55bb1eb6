-- What writing puts into a buffer, and what it answers.
-- Assumes nothing.
use Prim.Native.Nat.{ℕ, ◌+◌, ◌*◌, ◌≤◌, ◌<◌}
use native.Mathlib.Omega.{arith}
use native.Mathlib.Numerals.{add-one}
use mathlib.Core.Path.{◌≡◌, refl, sym, ◌∙◌, ap, ap₂}
use mathlib.Core.Bool.{Bool, true, false, not, cond}
use mathlib.Core.List.{List, [], ◌∷◌, ◌++◌, append_assoc, append-nil}
use lib.ListN.{length, get_or, take, drop, length-append}
use lib.Seq.{paste, take-length, take_at, take-suc, drop-append-add, drop-drop, length-take-le}
use lib.Dec.{ltb}
use borrow.Author.Tests.{le-ltb, eq-eqb, ne_eqb}
use Rattle.std.proofs.lemmas.List.Edits.{paste-paste}
use Rattle.std.specs.Prelude.{Result, Ok, None, Option}
use Rattle.policy.specs.declared.entry.Entry.{Entry}
use Rattle.policy.specs.declared.refusal.Refusal.{Refusal}
use Rattle.policy.specs.declared.refusal.Refusal.TheVariants.{Version, Count, Crossed, Narrow}
use Rattle.policy.specs.Refusals.{Answer, accepted, refuse, first_of}
use Rattle.policy.proofs.Bool.{not_false}
use Rattle.policy.proofs.Conjunctions.{paired}
use Rattle.wire.specs.declared.list.Entries.{Entries}
use Rattle.wire.specs.Format.{is_version, record_size, file_size, list_limit, bytes2, head_of, ranges_of, record_of, records_of, file_of}
use Rattle.wire.specs.Checks.{outside, refuse_entry, checked}
use Rattle.wire.specs.steps.Crossed.{crossed_of}
use Rattle.wire.specs.Lists.{held}
use Rattle.wire.specs.Writing.{placed, too_narrow, crossed_in, first_crossed_in, write_answer, writing, writing_of}
use Rattle.policy.proofs.Refusals.{not_refused}
use Rattle.wire.proofs.Answers.{after-accepted}
use Rattle.wire.proofs.Checks.{within_limits, entry_not_refused}
use Rattle.wire.proofs.Records.{length_record, length_records}

-- bytes put after those that are placed already
pub placed_next : (b w x c : List ℕ) (at : ℕ) → length w ≡ at → c ≡ placed w b → paste c at x (length x) ≡ placed (w ++ x) b
placed_next b w x c at l e =
    ap (λ (t : List ℕ). paste t at x (length x)) e
    ∙ ap (λ (k : ℕ). paste (placed w b) k x (length x)) (sym l)
    ∙ (λ i. take_at w (drop (length w) b) (length w) refl i ++ take-length x i ++ drop-append-add w (drop (length w) b) (length x) i)
    ∙ ap (λ (t : List ℕ). w ++ x ++ t) (drop-drop (length x) (length w) b ∙ ap (λ (k : ℕ). drop k b) (sym (length-append w x)))

-- a record in its two parts
pub record_put : (v : ℕ) (e : Entry) (d c b rest : List ℕ) (at : ℕ) → at + record_size v ≤ length d → (record_of v e ≡ ranges_of e ++ rest) → c ≡ paste d at (ranges_of e) 26
    → b ≡ paste c (at + 26) rest (length rest) → b ≡ paste d at (record_of v e) (record_size v)
record_put v e d c b rest at l w p q =
    q ∙ ap (λ (t : List ℕ). paste t (at + 26) rest (length rest)) p ∙ paste-paste d at (ranges_of e) rest 26 (length rest) refl refl (omega arith)
    ∙ ap₂ (paste d at) (sym w) (omega (arith, ap length w, length_record v e))

pub rest_of_one : (v : ℕ) (e : Entry) → v ≡ 1 → record_of v e ≡ ranges_of e ++ bytes2 e.actions
rest_of_one v e one = ap (λ (b : Bool). ranges_of e ++ (cond b [] (e.direction_low ∷ e.direction_high ∷ []) ++ bytes2 e.actions)) (eq-eqb v 1 one)

pub rest_of_other : (v : ℕ) (e : Entry) → (v ≡ 1 → ⊥) → record_of v e ≡ ranges_of e ++ (e.direction_low ∷ e.direction_high ∷ bytes2 e.actions)
rest_of_other v e other = ap (λ (b : Bool). ranges_of e ++ (cond b [] (e.direction_low ∷ e.direction_high ∷ []) ++ bytes2 e.actions)) (ne_eqb v 1 other)

-- the records of lists one after the other
pub records_append : (v : ℕ) (p q : List Entry) → records_of v (p ++ q) ≡ records_of v p ++ records_of v q
records_append v [] q = refl
records_append v (e ∷ p) q = ap (record_of v e ++◌) (records_append v p q) ∙ sym (append_assoc (record_of v e) (records_of v p) (records_of v q))

-- the head of a file of n entries, and the first i records
abbrev pub begun : ℕ → ℕ → List Entry → ℕ → List ℕ
begun v n es i = head_of v n ++ records_of v (take i es)

pub length_begun : (v n : ℕ) (es : List Entry) (i : ℕ) → i ≤ length es → length (begun v n es i) ≡ file_size v i
length_begun v n es i l = omega (arith, length_records v (take i es) ∙ ap (record_size v *◌) (length-take-le i es l))

pub begun_next : (v n : ℕ) (es : List Entry) (d : Entry) (b c r : List ℕ) (i at : ℕ) → i < length es → at ≡ file_size v i → c ≡ placed (begun v n es i) b
    → r ≡ paste c at (record_of v (get_or es i d)) (record_size v) → r ≡ placed (begun v n es (i + 1)) b
begun_next v n es d b c r i at l k e g =
    let record_here = record_of v (get_or es i d) in
    g
    ∙ ap₂ (λ (j m : ℕ). paste c j record_here m) k (sym (length_record v (get_or es i d)))
    ∙ placed_next b (begun v n es i) record_here c (file_size v i) (length_begun v n es i (omega arith)) e
    ∙ ap (λ (t : List ℕ). placed t b) (append_assoc (head_of v n) (records_of v (take i es)) record_here)
    ∙ ap (λ (t : List ℕ). placed (head_of v n ++ t) b)
    (sym (ap (records_of v) (ap (λ (k : ℕ). take k es) (add-one i) ∙ take-suc es i d l) ∙ records_append v (take i es) (get_or es i d ∷ []) ∙ ap (records_of v (take i es) ++◌) (append-nil record_here)))

-- ---- what is answered

module _ (l : Entries) (b : List ℕ) where
  -- check 4 and what comes after it
  abbrev from_crossed : List (Option Answer)
  from_crossed = refuse_entry Crossed (first_crossed_in l.version (held l)) ∷ too_narrow l.version l.count b ∷ []

  past_count : is_version l.version ≡ true → outside list_limit l.count ≡ false → first_of from_crossed (accepted (file_size l.version l.count ∷ [])) ≡ write_answer l b
  past_count v e = rw (v, e)

  past_crossed : first_crossed_in l.version (held l) ≡ None → first_of (too_narrow l.version l.count b ∷ []) (accepted (file_size l.version l.count ∷ [])) ≡ first_of from_crossed (accepted (file_size l.version l.count ∷ []))
  past_crossed e = rw e

  -- no entry is crossed
  pub uncrossed : (r : Result ℕ Refusal) (m : ℕ) → checked r ≡ crossed_of (crossed_in l.version) (held l) (length (held l)) → r ≡ Ok m → first_crossed_in l.version (held l) ≡ None
  uncrossed r m e g = (entry_not_refused (first_crossed_in l.version (held l)) [] (accepted (length (held l) ∷ [])) (m ∷ []) (ap checked (sym g) ∙ e)).0

  -- no check refuses
  pub write_accepted : is_version l.version ≡ true → outside list_limit l.count ≡ false → first_crossed_in l.version (held l) ≡ None → file_size l.version l.count ≤ length b → accepted (file_size l.version l.count ∷ []) ≡ write_answer l b
  write_accepted v p q h = wide ∙ past_crossed q ∙ past_count v p
    where
      wide : accepted (file_size l.version l.count ∷ []) ≡ first_of (too_narrow l.version l.count b ∷ []) (accepted (file_size l.version l.count ∷ []))
      wide = rw (le-ltb (length b) (file_size l.version l.count) h)

  pub written : (t : Bool) → t ≡ is_version l.version → not t ≡ false → (r : Result ℕ Refusal) (m n : ℕ) (c : List ℕ) → 1 ≤ l.count → l.count ≤ list_limit → checked r ≡ crossed_of (crossed_in l.version) (held l) (length (held l)) → r ≡ Ok m
      → n ≡ file_size l.version l.count → n ≤ length b → c ≡ placed (file_of l.version (held l)) b → writing (Ok n) c ≡ writing_of l b
  written o v z r m n c p q e g k h w =
      let t = write_accepted (sym v ∙ not_false z) (within_limits list_limit l.count p q) (uncrossed r m e g) (rw k at h) in
      ap (λ (i : ℕ). writing (Ok i) c) k
      ∙ paired t (w ∙ after-accepted (file_size l.version l.count ∷ []) (write_answer l b) (placed (file_of l.version (held l)) b) b t)

  -- an acceptance, taken apart
  pub accepted_write : (m : ℕ) → accepted (m ∷ []) ≡ write_answer l b
      → (is_version l.version ≡ true) × ((outside list_limit l.count ≡ false) × ((first_crossed_in l.version (held l) ≡ None) × ((m ≡ file_size l.version l.count) × (ltb (length b) (file_size l.version l.count) ≡ false))))
  accepted_write m e =
      let a = accepted (file_size l.version l.count ∷ []) in
      let two = not_refused (not (is_version l.version)) Version (refuse (outside list_limit l.count) Count ∷ from_crossed) a (m ∷ []) e in
      let three = not_refused (outside list_limit l.count) Count from_crossed a (m ∷ []) two.1 in
      let four = entry_not_refused (first_crossed_in l.version (held l)) (too_narrow l.version l.count b ∷ []) a (m ∷ []) three.1 in
      let eleven = not_refused (ltb (length b) (file_size l.version l.count)) (Narrow (file_size l.version l.count)) [] a (m ∷ []) four.1 in
      (not_false two.0, (three.0, (four.0, (ap (λ (x : Answer). get_or x.values 0 0) eleven.1, eleven.0))))
