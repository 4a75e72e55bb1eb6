-- The places of a list, one by one.
-- Assumes nothing.
use Prim.Native.Nat.{ℕ, suc, ◌+◌, ◌-◌, ◌<◌}
use native.Mathlib.Omega.{arith}
use mathlib.Core.Path.{◌≡◌, sym, ◌∙◌, ap, ap₂}
use mathlib.Core.List.{List, [], ◌∷◌, ◌++◌, append_assoc}
use lib.ListN.{length, set, replicate}
use lib.Seq.{set_at}
use Rattle.policy.specs.declared.entry.Entry.{Entry}
use Rattle.wire.specs.Format.{list_limit, version_in, entries_from}
use Rattle.wire.specs.steps.Numbered.{entry_in}
use Rattle.wire.specs.Lists.{empty_entry, listed}
use Rattle.wire.proofs.Entries.{length_entries, first_split}

-- what a read past the end of an array of entries would give
abbrev pub zero_entry : Entry
zero_entry = record {
  local_low = 0;
  local_high = 0;
  remote_low = 0;
  remote_high = 0;
  local_port_low = 0;
  local_port_high = 0;
  remote_port_low = 0;
  remote_port_high = 0;
  protocol_low = 0;
  protocol_high = 0;
  direction_low = 0;
  direction_high = 0;
  actions = 0;
}

-- a list in the first places, and one entry more after it
pub filled_next : (p : List Entry) (v e : Entry) (m i : ℕ) → length p ≡ i → i < m → set (p ++ replicate (m - i) e) i v ≡ (p ++ (v ∷ [])) ++ replicate (m - (i + 1)) e
filled_next p v e m i h l =
    ap (λ (k : ℕ). set (p ++ replicate k e) i v) (fewer m i l)
    ∙ set_at p e (replicate (m - (i + 1)) e) v i h
    ∙ sym (append_assoc p (v ∷ []) (replicate (m - (i + 1)) e))
  where
    fewer : (m i : ℕ) → i < m → m - i ≡ suc (m - (i + 1))
    fewer m i l = omega arith

-- the first i entries of a file in the first places
abbrev pub firsts : List ℕ → ℕ → List Entry
firsts s i = entries_from s 0 i ++ replicate (list_limit - i) empty_entry

pub firsts_next : (s : List ℕ) (es : List Entry) (v : Entry) (i : ℕ) → i < list_limit → v ≡ entry_in s i → es ≡ firsts s i → set es i v ≡ firsts s (i + 1)
firsts_next s es v i l e h =
    ap₂ (λ (xs : List Entry) (x : Entry). set xs i x) h e
    ∙ filled_next (entries_from s 0 i) (entry_in s i) empty_entry list_limit i (length_entries s 0 i) l
    ∙ ap (◌++ replicate (list_limit - (i + 1)) empty_entry) (sym (first_split s i 1))

pub firsts_listed : (s : List ℕ) (es : List Entry) (n i : ℕ) → i ≡ n → es ≡ firsts s i → (v : ℕ) → v ≡ version_in s → record { version = v; entries = es; count = n } ≡ listed (version_in s) (entries_from s 0 n)
firsts_listed s es n i e h v w =
    let k = length_entries s 0 n in
    let g : es ≡ entries_from s 0 n ++ replicate (list_limit - length (entries_from s 0 n)) empty_entry =
    h ∙ ap₂ (λ (a b : ℕ). entries_from s 0 a ++ replicate (list_limit - b) empty_entry) e (e ∙ sym k) in
    λ j. record { version = w j; entries = g j; count = sym k j }
