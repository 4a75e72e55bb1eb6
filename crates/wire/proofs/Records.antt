-- Entries and their bytes: from bytes and back, and to bytes and back.
-- Assumes nothing.
use Rattle.std.specs.Prelude.{None, Option, Some}
use Prim.Native.Nat.{ℕ, zero, suc, ◌+◌, ◌*◌, ◌-◌, ◌≤◌, ◌<◌}
use native.Mathlib.Omega.{arith}
use native.Mathlib.Nat.{zero-add}
use native.Mathlib.Numerals.{add-one}
use mathlib.Core.Path.{◌≡◌, refl, sym, ◌∙◌, ap, ap₂, subst}
use mathlib.Core.Bool.{Bool, true, false, not, cond, ◌&&◌, ◌||◌, or-false}
use mathlib.Core.List.{List, [], ◌∷◌, ◌++◌, append_assoc}
use lib.Dec.{eqb}
use lib.ListN.{length, get_or, take, drop, length-drop, length-append}
use lib.Seq.{take-suc, take-add, drop-drop, drop-cons, get_or-drop, get_or-append-add}
use Rattle.policy.specs.declared.entry.Entry.{Entry}
use borrow.Author.Tests.{lt-ltb, eqb-true}
use Rattle.policy.specs.Box.{range}
use Rattle.policy.specs.steps.Boxes.{lows}
use Rattle.policy.specs.Header.{arity}
use Rattle.policy.specs.Entry.{selector, crossed}
use Rattle.policy.proofs.Corner.{nth, fits_at, highs_at}
use Rattle.wire.specs.Format.{Bytes, merged_version, head_size, record_size, file_size, number2, number4, length_in, version_in, count_in, entry_at, entries_as, entries_from, bytes2, bytes4, entry_with, ranges_of, record_of, records_of, head_of, file_of}
use Rattle.wire.specs.Checks.{first_from}
use Rattle.wire.specs.Writing.{both_ways, crossed_in}
use Rattle.wire.specs.steps.Fits.{byte_sizes, Fits, AllFit}
use Rattle.policy.proofs.Bool.{clash, and_left, and_right}
use Rattle.wire.proofs.Numbers.{split2, split4, join2, join4}
use Rattle.wire.proofs.Sizes.{size_next, size_within}
use Rattle.wire.proofs.Entries.{same_entry}

-- the k bytes from j on, one by one
abbrev pub bytes_from : List ℕ → ℕ → ℕ → List ℕ
bytes_from s j zero = []
bytes_from s j (suc k) = get_or s j 0 ∷ bytes_from s (suc j) k

pub bytes_from_lem : (s : List ℕ) (j k : ℕ) → j + k ≤ length s → take k (drop j s) ≡ bytes_from s j k
bytes_from_lem s j zero l = refl
bytes_from_lem s j (suc k) l = ap (take (suc k)) (drop-cons s j 0 (omega arith)) ∙ ap (get_or s j 0 ∷◌) (bytes_from_lem s (suc j) k (omega arith))

-- ---- from bytes to an entry and back

-- the record of the entry at the start of a slice
pub record_here : (v : ℕ) (t : List ℕ) → Bytes t → record_of v (entry_at v t 0) ≡ bytes_from t 0 (record_size v)
record_here v t f = go (eqb v 1)
  where
    two : (a b : ℕ) → bytes2 (get_or t a 0 * 256 + get_or t b 0) ≡ get_or t a 0 ∷ get_or t b 0 ∷ []
    two a b = split2 (get_or t a 0) (get_or t b 0) (f a) (f b)

    four : (a b c d : ℕ) → bytes4 (((get_or t a 0 * 256 + get_or t b 0) * 256 + get_or t c 0) * 256 + get_or t d 0) ≡ get_or t a 0 ∷ get_or t b 0 ∷ get_or t c 0 ∷ get_or t d 0 ∷ []
    four a b c d = split4 (get_or t a 0) (get_or t b 0) (get_or t c 0) (get_or t d 0) (f a) (f b) (f c) (f d)

    ranges : ranges_of (entry_with t 0 (range 0 0) 0) ≡ bytes_from t 0 26
    ranges = λ i. four 0 1 2 3 i ++ four 4 5 6 7 i ++ four 8 9 10 11 i ++ four 12 13 14 15 i ++ two 16 17 i ++ two 18 19 i ++ two 20 21 i ++ two 22 23 i ++ get_or t 24 0 ∷ get_or t 25 0 ∷ []

    go : (b : Bool) → (ranges_of (entry_with t 0 (range 0 0) 0)
        ++ (cond b [] ((cond b (range 0 1) (range (get_or t 26 0) (get_or t 27 0))).low ∷ (cond b (range 0 1) (range (get_or t 26 0) (get_or t 27 0))).high ∷ [])
        ++ bytes2 (number2 t (0 + (cond b 28 30 - 2))))) ≡ bytes_from t 0 (cond b 28 30)
    go true = λ i. ranges i ++ two 26 27 i
    go false = λ i. ranges i ++ (get_or t 26 0 ∷ get_or t 27 0 ∷ two 28 29 i)

pub record_at : (v : ℕ) (s : List ℕ) (at : ℕ) → Bytes s → at + record_size v ≤ length s → record_of v (entry_at v s at) ≡ take (record_size v) (drop at s)
record_at v s at f l =
    ap (record_of v) (same_entry v s (drop at s) at 0 λ i m. sym (get_or-drop at s (0 + i) 0 ∙ ap (λ (k : ℕ). get_or s (at + k) 0) (zero-add i)))
    ∙ record_here v (drop at s) (λ i. rw get_or-drop (f (at + i)))
    ∙ sym (bytes_from_lem (drop at s) 0 (record_size v) (rw length-drop (omega arith)))

-- n records
pub records_from : (v : ℕ) (s : List ℕ) (i n : ℕ) → Bytes s → file_size v (i + n) ≤ length s
    → records_of v (entries_as v s i n) ≡ take (record_size v * n) (drop (file_size v i) s)
records_from v s i zero f l = ap (λ (k : ℕ). take k (drop (file_size v i) s)) (nothing (record_size v))
  where
    nothing : (k : ℕ) → 0 ≡ k * 0
    nothing k = omega arith
records_from v s i (suc n) f l =
    ap₂ (◌++◌) (record_at v s (file_size v i) f (omega (arith, size_next v i, size_within v (i + 1) (i + suc n) (omega arith)))) (records_from v s (i + 1) n f (omega (arith, ap (file_size v) (onward i n))))
    ∙ ap (λ (r : List ℕ). take (record_size v) (drop (file_size v i) s) ++ take (record_size v * n) r)
    (ap (λ (k : ℕ). drop k s) (size_next v i) ∙ sym (drop-drop (record_size v) (file_size v i) s))
    ∙ sym (take-add (record_size v) (record_size v * n) (drop (file_size v i) s))
    ∙ ap (λ (k : ℕ). take k (drop (file_size v i) s)) (more (record_size v) n)
  where
    onward : (i n : ℕ) → i + 1 + n ≡ i + suc n
    onward i n = omega arith

    more : (k n : ℕ) → k + k * n ≡ k * suc n
    more k n = omega arith

-- the bytes before the records
pub head_is : (v : ℕ) (s : List ℕ) (n : ℕ) → Bytes s → head_size ≤ length s → length_in s ≡ 3 + record_size v * n → version_in s ≡ v → count_in s ≡ n → head_of v n ≡ take head_size s
head_is v s n f z l w c =
    let length-bytes = ap bytes2 (sym l) ∙ split2 (get_or s 0 0) (get_or s 1 0) (f 0) (f 1) in
    let count-bytes = ap bytes2 (sym c) ∙ split2 (get_or s 3 0) (get_or s 4 0) (f 3) (f 4) in
    (λ i. length-bytes i ++ sym w i ∷ count-bytes i) ∙ sym (bytes_from_lem s 0 head_size z)

-- ---- from an entry to bytes and back

-- an entry fits by its numbers
pub fits_by : (e : Entry)
    → e.local_low < 4294967296 → e.local_high < 4294967296 → e.remote_low < 4294967296 → e.remote_high < 4294967296
    → e.local_port_low < 65536 → e.local_port_high < 65536 → e.remote_port_low < 65536 → e.remote_port_high < 65536
    → e.protocol_low < 256 → e.protocol_high < 256 → e.direction_low < 256 → e.direction_high < 256 → e.actions < 65536 → Fits e
fits_by e l1 h1 l2 h2 l3 h3 l4 h4 l5 h5 l6 h6 a = record {
  low_ends =
      rw (
        lt-ltb e.local_low 4294967296 l1,
        lt-ltb e.remote_low 4294967296 l2,
        lt-ltb e.local_port_low 65536 l3,
        lt-ltb e.remote_port_low 65536 l4,
        lt-ltb e.protocol_low 256 l5,
        lt-ltb e.direction_low 256 l6,
      );
  high_ends =
      rw (
        lt-ltb e.local_high 4294967296 h1,
        lt-ltb e.remote_high 4294967296 h2,
        lt-ltb e.local_port_high 65536 h3,
        lt-ltb e.remote_port_high 65536 h4,
        lt-ltb e.protocol_high 256 h5,
        lt-ltb e.direction_high 256 h6,
      );
  set = a;
}

-- the entry at a place of bytes fits
pub entry_fits : (v : ℕ) (s : List ℕ) (at : ℕ) → Bytes s → Fits (entry_at v s at)
entry_fits v s at f =
    fits_by (entry_at v s at) (four at) (four (at + 4)) (four (at + 8)) (four (at + 12)) (two (at + 16)) (two (at + 18)) (two (at + 20)) (two (at + 22))
    (f (at + 24)) (f (at + 25)) (low (eqb v 1)) (high (eqb v 1)) (two (at + (record_size v - 2)))
  where
    two : (x : ℕ) → number2 s x < 65536
    two x = omega (arith, f x, f (x + 1))

    four : (x : ℕ) → number4 s x < 4294967296
    four x = omega (arith, f x, f (x + 1), f (x + 2), f (x + 3))

    low : (b : Bool) → (cond b (range 0 1) (range (get_or s (at + 26) 0) (get_or s (at + 27) 0))).low < 256
    low true = omega arith
    low false = f (at + 26)

    high : (b : Bool) → (cond b (range 0 1) (range (get_or s (at + 26) 0) (get_or s (at + 27) 0))).high < 256
    high true = omega arith
    high false = f (at + 27)

all_fit : (v : ℕ) (s : List ℕ) (i n : ℕ) → Bytes s → AllFit (entries_as v s i n)
all_fit v s i zero f = tt
all_fit v s i (suc n) f = (entry_fits v s (file_size v i) f, all_fit v s (i + 1) n f)

pub entries_fit : (s : List ℕ) (i n : ℕ) → Bytes s → AllFit (entries_from s i n)
entries_fit s i n f = all_fit (version_in s) s i n f

-- one entry more
pub fit_more : (p : List Entry) (i : ℕ) (d : Entry) → i < length p → AllFit (take i p) → Fits (get_or p i d) → AllFit (take (i + 1) p)
fit_more p i d l a f = subst AllFit (sym (ap (λ (n : ℕ). take n p) (add-one i) ∙ take-suc p i d l)) (joined (take i p) a)
  where
    joined : (q : List Entry) → AllFit q → AllFit (q ++ get_or p i d ∷ [])
    joined [] b = (f, tt)
    joined (e ∷ q) b = (b.0, joined q b.1)

-- ---- an entry that a file of a version can hold: it fits, and under version 1 it covers both directions

pub record Holds (v : ℕ) (e : Entry) : Type 0 where
  pub fit : Fits e
  pub ways : eqb v 1 ≡ true → both_ways e ≡ true

abbrev pub AllHold : ℕ → List Entry → Type 0
AllHold v [] = Unit {0}
AllHold v (e ∷ p) = Holds v e × AllHold v p

-- where none is crossed in the version's sense
pub uncrossed_hold : (v i : ℕ) (p : List Entry) → AllFit p → first_from (crossed_in v) i p ≡ None → AllHold v p
uncrossed_hold v i [] f u = tt
uncrossed_hold v i (e ∷ p) f u = go (crossed e) (eqb v 1) (both_ways e) refl refl u (uncrossed_hold v (i + 1) p f.1)
  where
    go : (c o w : Bool) → eqb v 1 ≡ o → both_ways e ≡ w → cond (c || (o && not w)) (Some i) (first_from (crossed_in v) (i + 1) p) ≡ None
        → (first_from (crossed_in v) (i + 1) p ≡ None → AllHold v p) → AllHold v (e ∷ p)
    go true o w q r u ih = absurd (let z : ◌≡◌ {A = ℕ} 0 1 = cc in omega arith)
    go false true true q r u ih = (record { fit = f.0; ways = λ t. r }, ih u)
    go false true false q r u ih = absurd (let z : ◌≡◌ {A = ℕ} 0 1 = cc in omega arith)
    go false false w q r u ih = (record { fit = f.0; ways = λ t. clash t q }, ih u)

-- a file of version 2 holds every list that fits
pub merged_hold : (p : List Entry) → AllFit p → AllHold merged_version p
merged_hold [] f = tt
merged_hold (e ∷ p) f = (record { fit = f.0; ways = λ t. clash t refl }, merged_hold p f.1)

-- uncrossed in the version's sense, uncrossed
pub uncrossed_plainly : (v i : ℕ) (p : List Entry) → first_from (crossed_in v) i p ≡ None → first_from crossed i p ≡ None
uncrossed_plainly v i [] u = refl
uncrossed_plainly v i (e ∷ p) u = go (crossed e) (eqb v 1 && not (both_ways e)) u (uncrossed_plainly v (i + 1) p)
  where
    go : (c d : Bool) → cond (c || d) (Some i) (first_from (crossed_in v) (i + 1) p) ≡ None
        → (first_from (crossed_in v) (i + 1) p ≡ None → first_from crossed (i + 1) p ≡ None) → cond c (Some i) (first_from crossed (i + 1) p) ≡ None
    go true d u ih = absurd (let z : ◌≡◌ {A = ℕ} 0 1 = cc in omega arith)
    go false true u ih = absurd (let z : ◌≡◌ {A = ℕ} 0 1 = cc in omega arith)
    go false false u ih = ih u

-- the entries of a file of version 1 cover both directions, so that both senses agree on those of a file of any version
entry_crossed : (v : ℕ) (s : List ℕ) (at : ℕ) → crossed_in v (entry_at v s at) ≡ crossed (entry_at v s at)
entry_crossed v s at = ap (crossed (entry_at v s at) ||◌) (go (eqb v 1)) ∙ or-false (crossed (entry_at v s at))
  where
    go : (b : Bool) → (b && not (eqb (cond b (range 0 1) (range (get_or s (at + 26) 0) (get_or s (at + 27) 0))).low 0 && eqb (cond b (range 0 1) (range (get_or s (at + 26) 0) (get_or s (at + 27) 0))).high 1)) ≡ false
    go true = refl
    go false = refl

pub entries_crossed : (v j : ℕ) (s : List ℕ) (i n : ℕ) → first_from (crossed_in v) j (entries_as v s i n) ≡ first_from crossed j (entries_as v s i n)
entries_crossed v j s i zero = refl
entries_crossed v j s i (suc n) =
    ap₂ (λ (b : Bool) (o : Option ℕ). cond b (Some j) o) (entry_crossed v s (file_size v i)) (entries_crossed v (j + 1) s (i + 1) n)

-- the entry at the start of its own record
pub entry_again : (v : ℕ) (e : Entry) (r : List ℕ) → Holds v e → entry_at v (record_of v e ++ r) 0 ≡ e
entry_again v e r k = go (eqb v 1) k.ways
  where
    f : Fits e
    f = k.fit

    low : (j : ℕ) → j < arity → nth 0 arity j (lows arity (selector e)) < nth 0 arity j byte_sizes
    low j l = fits_at arity j byte_sizes (lows arity (selector e)) l f.low_ends

    high : (j : ℕ) → j < arity → (nth (range 0 0) arity j (selector e)).high < nth 0 arity j byte_sizes
    high j l = highs_at arity j byte_sizes (selector e) l f.high_ends

    bytes : Bool → List ℕ
    bytes b = (ranges_of e ++ (cond b [] (e.direction_low ∷ e.direction_high ∷ []) ++ bytes2 e.actions)) ++ r

    with_ranges : (b : Bool) (l h a : ℕ) → l ≡ e.direction_low → h ≡ e.direction_high → a ≡ e.actions → entry_with (bytes b) 0 (range l h) a ≡ e
    with_ranges b l h a x y z = λ i. record {
      local_low = join4 e.local_low (low 0 (omega arith)) i;
      local_high = join4 e.local_high (high 0 (omega arith)) i;
      remote_low = join4 e.remote_low (low 1 (omega arith)) i;
      remote_high = join4 e.remote_high (high 1 (omega arith)) i;
      local_port_low = join2 e.local_port_low (low 2 (omega arith)) i;
      local_port_high = join2 e.local_port_high (high 2 (omega arith)) i;
      remote_port_low = join2 e.remote_port_low (low 3 (omega arith)) i;
      remote_port_high = join2 e.remote_port_high (high 3 (omega arith)) i;
      protocol_low = e.protocol_low;
      protocol_high = e.protocol_high;
      direction_low = x i;
      direction_high = y i;
      actions = z i;
    }

    go : (b : Bool) → (b ≡ true → both_ways e ≡ true)
        → entry_with (bytes b) 0 (cond b (range 0 1) (range (get_or (bytes b) 26 0) (get_or (bytes b) 27 0))) (number2 (bytes b) (0 + (cond b 28 30 - 2))) ≡ e
    go true w =
        with_ranges true 0 1 (number2 (bytes true) 26)
        (sym (eqb-true e.direction_low 0 (and_left (eqb e.direction_low 0) (eqb e.direction_high 1) (w refl))))
        (sym (eqb-true e.direction_high 1 (and_right (eqb e.direction_low 0) (eqb e.direction_high 1) (w refl))))
        (join2 e.actions f.set)
    go false w = with_ranges false e.direction_low e.direction_high (number2 (bytes false) 28) refl refl (join2 e.actions f.set)

pub length_record : (v : ℕ) (e : Entry) → length (record_of v e) ≡ record_size v
length_record v e = go (eqb v 1)
  where
    go : (b : Bool) → length (ranges_of e ++ (cond b [] (e.direction_low ∷ e.direction_high ∷ []) ++ bytes2 e.actions)) ≡ cond b 28 30
    go true = refl
    go false = refl

pub length_records : (v : ℕ) (p : List Entry) → length (records_of v p) ≡ record_size v * length p
length_records v [] = nothing (record_size v)
  where
    nothing : (k : ℕ) → 0 ≡ k * 0
    nothing k = omega arith
length_records v (e ∷ p) =
    length-append (record_of v e) (records_of v p)
    ∙ ap₂ (◌+◌) (length_record v e) (length_records v p)
    ∙ more (record_size v) (length p)
  where
    more : (k n : ℕ) → k + k * n ≡ k * suc n
    more k n = omega arith

pub length_file : (v : ℕ) (p : List Entry) → length (file_of v p) ≡ file_size v (length p)
length_file v p = omega (arith, length_records v p)

-- the entries of a list's records behind other bytes, from number i on, whatever bytes come after
entries_again : (v : ℕ) (front : List ℕ) (i : ℕ) (p : List Entry) (r : List ℕ) → length front ≡ file_size v i → AllHold v p
    → entries_as v (front ++ (records_of v p ++ r)) i (length p) ≡ p
entries_again v front i [] r l f = refl
entries_again v front i (e ∷ p) r l f =
    ap₂ (◌∷◌) (ap (λ (t : List ℕ). entry_at v (front ++ t) (file_size v i)) whole ∙ here)
    (ap (λ (s : List ℕ). entries_as v s (i + 1) (length p)) (ap (front ++◌) whole ∙ sym (append_assoc front (record_of v e) (records_of v p ++ r)))
    ∙ entries_again v (front ++ record_of v e) (i + 1) p r (length-append front (record_of v e) ∙ ap₂ (◌+◌) l (length_record v e) ∙ sym (size_next v i)) f.1)
  where
    rest : List ℕ
    rest = record_of v e ++ (records_of v p ++ r)

    whole : ((record_of v e ++ records_of v p) ++ r) ≡ rest
    whole = append_assoc (record_of v e) (records_of v p) r

    here : entry_at v (front ++ rest) (file_size v i) ≡ e
    here =
        same_entry v (front ++ rest) rest (file_size v i) 0
        (λ j m. ap (λ (k : ℕ). get_or (front ++ rest) (k + j) 0) (sym l) ∙ get_or-append-add front rest j 0 ∙ ap (λ (k : ℕ). get_or rest k 0) (sym (zero-add j)))
        ∙ entry_again v e (records_of v p ++ r) f.0

-- the entries of a list's file, whatever bytes come after
pub entries_in_file : (v : ℕ) (p : List Entry) (r : List ℕ) → AllHold v p → entries_from (file_of v p ++ r) 0 (length p) ≡ p
entries_in_file v p r f = entries_again v (head_of v (length p)) 0 p r (nothing (record_size v)) f
  where
    nothing : (k : ℕ) → head_size ≡ head_size + k * 0
    nothing k = omega arith
