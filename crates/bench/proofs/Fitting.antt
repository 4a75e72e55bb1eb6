-- The numbers of a merged or installed list fit their bytes where those of the lists in force do, so it reads back from its file.
-- Assumes nothing.
use Prim.Native.Nat.{ℕ, zero, suc, ◌<◌, min, max}
use native.Mathlib.Omega.{arith}
use mathlib.Core.Path.{◌≡◌, refl, sym, ap, subst}
use mathlib.Core.Logic.{inl, inr}
use mathlib.Core.Bool.{Bool, true, false, cond}
use mathlib.Core.List.{List, [], ◌∷◌, ◌++◌, map}
use lib.Bits.{and_lt}
use lib.Dec.{ltb, leb}
use lib.ListN.{length}
use borrow.Author.Tests.{ltb-true, lt-ltb}
use Rattle.policy.specs.declared.header.Header.{Header}
use Rattle.policy.specs.declared.entry.Entry.{Entry}
use Rattle.policy.specs.Row.{Row}
use Rattle.policy.specs.Box.{Range, proper, highs_fit, meet}
use Rattle.policy.specs.steps.Boxes.{lows, fits}
use Rattle.policy.specs.Header.{arity, headers}
use Rattle.policy.specs.Ranking.{is_ranking}
use Rattle.policy.specs.Entry.{selector, matches, both}
use Rattle.policy.specs.Policy.{Allowed, actions, uncaught, allowed}
use Rattle.policy.proofs.Bool.{and_intro, and_left, and_right}
use Rattle.policy.proofs.Ranked.{ranks_actions, best_fits}
use Rattle.wire.specs.Format.{merged_version, list_limit, list_in, file_of}
use Rattle.wire.specs.steps.Fits.{byte_sizes, Fits, AllFit}
use Rattle.wire.proofs.Records.{merged_hold}
use Rattle.wire.proofs.RoundTrip.{written_and_read}
use Rattle.reconcile.specs.Crossproduct.{In}
use Rattle.reconcile.specs.Rules.{cross, drop_empty, shadowed, drop_shadowed, trimmed, Working, list, crowded, limited, next, next_all, needless, struck_from, struck, Merging, merged, merge_of}
use Rattle.reconcile.specs.Installing.{with_best}
use Rattle.reconcile.proofs.Merging.{merges, merged_few}
use Rattle.reconcile.proofs.Installing.{installed_few}

-- ---- the intersection of two entries

lows_fit : (k : ℕ) (ns : Row ℕ k) (b c : Row Range k) → fits k ns (lows k b) ≡ true → fits k ns (lows k c) ≡ true → fits k ns (lows k (meet k b c)) ≡ true
lows_fit zero ns b c p q = refl
lows_fit (suc k) ns b c p q =
    let l = ltb-true b.0.low ns.0 (and_left (ltb b.0.low ns.0) (fits k ns.1 (lows k b.1)) p) in
    let m = ltb-true c.0.low ns.0 (and_left (ltb c.0.low ns.0) (fits k ns.1 (lows k c.1)) q) in
    and_intro (lt-ltb (max b.0.low c.0.low) ns.0 (omega (arith, l, m)))
    (lows_fit k ns.1 b.1 c.1 (and_right (ltb b.0.low ns.0) (fits k ns.1 (lows k b.1)) p) (and_right (ltb c.0.low ns.0) (fits k ns.1 (lows k c.1)) q))

highs_fit_lem : (k : ℕ) (ns : Row ℕ k) (b c : Row Range k) → highs_fit k ns b ≡ true → highs_fit k ns (meet k b c) ≡ true
highs_fit_lem zero ns b c p = refl
highs_fit_lem (suc k) ns b c p =
    let l = ltb-true b.0.high ns.0 (and_left (ltb b.0.high ns.0) (highs_fit k ns.1 b.1) p) in
    and_intro (lt-ltb (min b.0.high c.0.high) ns.0 (omega (arith, l)))
    (highs_fit_lem k ns.1 b.1 c.1 (and_right (ltb b.0.high ns.0) (highs_fit k ns.1 b.1) p))

both_fit : (d e : Entry) → Fits d → Fits e → Fits (both d e)
both_fit d e f g = record {
  low_ends = lows_fit arity byte_sizes (selector d) (selector e) f.low_ends g.low_ends;
  high_ends = highs_fit_lem arity byte_sizes (selector d) (selector e) f.high_ends;
  set = and_lt 16 d.actions e.actions f.set g.set;
}

-- ---- crossing, dropping and striking

append_fit : (p q : List Entry) → AllFit p → AllFit q → AllFit (p ++ q)
append_fit [] q f g = g
append_fit (e ∷ p) q f g = (f.0, append_fit p q f.1 g)

row_fit : (d : Entry) (q : List Entry) → Fits d → AllFit q → AllFit (map (both d) q)
row_fit d [] f g = tt
row_fit d (e ∷ q) f g = (both_fit d e f g.0, row_fit d q f g.1)

cross_fit : (p q : List Entry) → AllFit p → AllFit q → AllFit (cross p q)
cross_fit [] q f g = tt
cross_fit (d ∷ p) q f g = append_fit (map (both d) q) (cross p q) (row_fit d q f.0 g) (cross_fit p q f.1 g)

drop_empty-fit : (p : List Entry) → AllFit p → AllFit (drop_empty p)
drop_empty-fit [] f = tt
drop_empty-fit (e ∷ p) f = go (proper arity (selector e)) (drop_empty-fit p f.1)
  where
    go : (b : Bool) → AllFit (drop_empty p) → AllFit (cond b (e ∷ drop_empty p) (drop_empty p))
    go true r = (f.0, r)
    go false r = r

drop_shadowed-fit : (front p : List Entry) → AllFit p → AllFit (drop_shadowed headers front p)
drop_shadowed-fit front [] f = tt
drop_shadowed-fit front (e ∷ p) f = go (shadowed headers front e) (drop_shadowed-fit (front ++ e ∷ []) p f.1)
  where
    go : (b : Bool) → AllFit (drop_shadowed headers (front ++ e ∷ []) p) → AllFit (cond b (drop_shadowed headers (front ++ e ∷ []) p) (e ∷ drop_shadowed headers (front ++ e ∷ []) p))
    go true r = r
    go false r = (f.0, r)

trimmed_fit : (p : List Entry) → AllFit p → AllFit (trimmed headers p)
trimmed_fit p f = drop_shadowed-fit [] (drop_empty p) (drop_empty-fit p f)

struck_fit : (front p : List Entry) → AllFit p → AllFit (struck_from headers front p)
struck_fit front [] f = tt
struck_fit front (e ∷ p) f = go (struck_from headers (front ++ e ∷ []) p) (needless headers front e (struck_from headers (front ++ e ∷ []) p)) (struck_fit (front ++ e ∷ []) p f.1)
  where
    go : (back : List Entry) (b : Bool) → AllFit back → AllFit (cond b back (e ∷ back))
    go back true r = r
    go back false r = (f.0, r)

-- ---- the working list

abbrev WorkFits : Working → Type 0
WorkFits (list w) = AllFit w
WorkFits crowded = Unit {0}

limited_fit : (p : List Entry) → AllFit p → WorkFits (limited p)
limited_fit p f = go (leb (length p) list_limit)
  where
    go : (b : Bool) → WorkFits (cond b (list p) crowded)
    go true = f
    go false = tt

next_fit : (w : Working) (p : List Entry) → WorkFits w → AllFit p → WorkFits (next headers w p)
next_fit (list w) p f g = limited_fit (trimmed headers (cross w p)) (trimmed_fit (cross w p) (cross_fit w p f g))
next_fit crowded p f g = tt

all_fit : (w : Working) (ps : List (List Entry)) → WorkFits w → ((q : List Entry) → In q ps → AllFit q) → WorkFits (next_all headers w ps)
all_fit w [] f g = f
all_fit w (p ∷ ps) f g = all_fit (next headers w p) ps (next_fit w p f (g p (inl refl))) λ q i. g q (inr i)

-- ---- reading back

-- the numbers of every list fit their widths
abbrev pub AllListsFit : List (List Entry) → Type 0
AllListsFit ps = (q : List Entry) → In q ps → AllFit q

-- a list that a call is to write is read again from the start of what holds its file
abbrev pub ReadsBack : Merging → Type 0
ReadsBack x = (m : List Entry) → x ≡ merged m → (r : List ℕ) → list_in (file_of merged_version m ++ r) ≡ m

pub merged_fit : (p : List Entry) (ps : List (List Entry)) → AllListsFit (p ∷ ps) → (m : List Entry) → merge_of headers (p ∷ ps) ≡ merged m → AllFit m
merged_fit p ps f m e =
    let g = merges headers p ps m e in
    subst AllFit (sym g.left) (struck_fit [] g.work
    (subst WorkFits g.worked (all_fit (limited (trimmed headers p)) ps (limited_fit (trimmed headers p) (trimmed_fit p (f p (inl refl)))) λ q i. f q (inr i))))

pub reads_back : (ps : List (List Entry)) → AllListsFit ps → ReadsBack (merge_of headers ps)
reads_back [] f m e r = absurd (let z : ◌≡◌ {A = ℕ} 0 1 = cc in omega arith)
reads_back (p ∷ ps) f m e r = written_and_read merged_version m r (merged_few headers p ps m e) (merged_hold m (merged_fit p ps f m e))

-- ---- installing

-- what is allowed is a set of 16 bits
pub allowed_fits : (p : List Entry) → AllFit p → (h : Header) (a : ℕ) → allowed p h ≡ actions a → a < 65536
allowed_fits [] f h a e = absurd (let z : ◌≡◌ {A = ℕ} 0 1 = cc in omega arith)
allowed_fits (e ∷ p) f h a q = go (matches e h) (allowed_fits p f.1 h a) q
  where
    set_of : Allowed → ℕ
    set_of (actions a) = a
    set_of uncaught = 0

    go : (b : Bool) → (allowed p h ≡ actions a → a < 65536) → cond b (actions e.actions) (allowed p h) ≡ actions a → a < 65536
    go true ih q = subst (λ (x : ℕ). x < 65536) (ap set_of q) f.0.set
    go false ih q = ih q

best_fit : (ranking : List ℕ) → is_ranking ranking ≡ true → (p : List Entry) → AllFit p → AllFit (map (with_best ranking) p)
best_fit ranking r [] f = tt
best_fit ranking r (e ∷ p) f = (
  record { low_ends = f.0.low_ends; high_ends = f.0.high_ends; set = best_fits ranking e.actions (ranks_actions ranking r) },
  best_fit ranking r p f.1,
)

pub installed_reads_back : (ranking : List ℕ) → is_ranking ranking ≡ true → (p : List Entry) (ps : List (List Entry)) → AllListsFit (p ∷ ps)
    → (m : List Entry) → merge_of headers (p ∷ ps) ≡ merged m
    → (r : List ℕ) → list_in (file_of merged_version (struck headers (map (with_best ranking) m)) ++ r) ≡ struck headers (map (with_best ranking) m)
installed_reads_back ranking k p ps f m e r =
    written_and_read merged_version (struck headers (map (with_best ranking) m)) r (installed_few headers ranking p ps m e)
    (merged_hold (struck headers (map (with_best ranking) m)) (struck_fit [] (map (with_best ranking) m) (best_fit ranking k m (merged_fit p ps f m e))))
