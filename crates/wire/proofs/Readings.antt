-- What reading answers, by the answer of the checks.
-- Assumes nothing.
use Prim.Native.Nat.{ℕ}
use mathlib.Core.Path.{◌≡◌, sym, ◌∙◌, ap}
use mathlib.Core.List.{List, [], ◌∷◌}
use Rattle.std.specs.Prelude.{Result, Ok}
use Rattle.policy.specs.declared.refusal.Refusal.{Refusal}
use Rattle.policy.specs.Refusals.{accepted}
use Rattle.policy.proofs.Conjunctions.{paired}
use Rattle.wire.specs.declared.list.Entries.{Entries}
use Rattle.wire.specs.Format.{list_limit, version_in, list_in, entries_from}
use Rattle.wire.specs.Checks.{checks_of, checked}
use Rattle.wire.specs.Lists.{listed, no_entries, reading, reading_of}
use Rattle.wire.proofs.Answers.{after-accepted}
use Rattle.wire.proofs.Checked.{good_tells}
use Rattle.wire.proofs.Entries.{length_entries}

pub good_reading : (s : List ℕ) (r : Result ℕ Refusal) (n : ℕ) (l : Entries) → checked r ≡ checks_of s list_limit → r ≡ Ok n
    → l ≡ listed (version_in s) (entries_from s 0 n) → reading (Ok l) ≡ reading_of s
good_reading s r n l e g h =
    let t = ap checked (sym g) ∙ e in
    let k = (good_tells s list_limit r n e g).count_is in
    let m : l.count ≡ n = ap (λ (x : Entries). x.count) h ∙ length_entries s 0 n in
    paired (ap (λ (i : ℕ). accepted (i ∷ [])) m ∙ t)
    (h ∙ ap (λ (m : ℕ). listed (version_in s) (entries_from s 0 m)) (sym k) ∙ after-accepted (n ∷ []) (checks_of s list_limit) (listed (version_in s) (list_in s)) no_entries t)
