-- Rule 2: dropping leaves what the list allows; what is left catches; and Lemma 31.
-- Assumes nothing.
use Rattle.std.specs.Prelude.{Some}
use Prim.Native.Nat.{ℕ, suc, ◌+◌}
use native.Mathlib.Omega.{arith}
use native.Mathlib.Nat.{zero-add}
use mathlib.Core.Path.{◌≡◌, refl, sym, ◌∙◌, ap, ap₂, subst}
use mathlib.Core.Logic.{◌⊎◌, inl, inr}
use mathlib.Core.Bool.{Bool, true, false, not, cond, ◌&&◌, ◌||◌, and-true}
use mathlib.Core.List.{List, [], ◌∷◌, ◌++◌, append_assoc, append-nil}
use lib.Dec.{eqb}
use lib.ListN.{length, take, get_or}
use lib.Seq.{take_at, get_or_at}
use Rattle.policy.specs.declared.header.Header.{Header}
use Rattle.policy.specs.declared.entry.Entry.{Entry}
use Rattle.policy.specs.Box.{proper}
use Rattle.policy.specs.Header.{arity, fields, Headers, among}
use Rattle.policy.specs.Entry.{selector, matches}
use Rattle.policy.specs.Policy.{catcher_from, catcher, Allowed, actions, uncaught, allowed, is_caught, missed, Equivalent, Implementable}
use Rattle.policy.proofs.Bool.{clash, is_false, not_true, not_false, and_intro, and_left, and_right, or_elim, or_left, or_right}
use Rattle.policy.proofs.Box.{in_proper}
use Rattle.policy.proofs.Policy.{or_next, allowed_append, missed_append, missed_cons, Catches, caught_by}
use Rattle.reconcile.specs.Rules.{no_header, is_empty, drop_empty, Shadowed, shadowed, drop_shadowed, WithoutShadowed, trimmed, has_empty}
use Rattle.reconcile.proofs.Decide.{Witness, none_by, nowhere, witness, somewhere}

-- ---- entries with an empty selector

pub empty_misses : (e : Entry) (h : Header) → proper arity (selector e) ≡ false → matches e h ≡ false
empty_misses e h p = is_false (matches e h) λ m. clash (in_proper arity (selector e) (fields h) m) p

pub drop_empty-allows : (p : List Entry) (h : Header) → allowed (drop_empty p) h ≡ allowed p h
drop_empty-allows [] h = refl
drop_empty-allows (e ∷ p) h = go (proper arity (selector e)) refl (drop_empty-allows p h)
  where
    go : (b : Bool) → proper arity (selector e) ≡ b → allowed (drop_empty p) h ≡ allowed p h
        → allowed (cond b (e ∷ drop_empty p) (drop_empty p)) h ≡ allowed (e ∷ p) h
    go true q i = ap (cond (matches e h) (actions e.actions)) i
    go false q i = i ∙ sym (ap (λ (m : Bool). cond m (actions e.actions) (allowed p h)) (empty_misses e h q))

-- ---- one entry more in front

pub missed_snoc : (front : List Entry) (e : Entry) (h : Header) → missed (front ++ e ∷ []) h ≡ (missed front h && not (matches e h))
missed_snoc front e h = missed_append front (e ∷ []) h ∙ ap (missed front h &&◌) (missed_cons e [] h ∙ and-true (not (matches e h)))

pub missed_more : (front : List Entry) (e : Entry) (h : Header) → missed front h ≡ true → matches e h ≡ false → missed (front ++ e ∷ []) h ≡ true
missed_more front e h u m = missed_snoc front e h ∙ and_intro u (ap not m)

pub missed_less : (front : List Entry) (e : Entry) (h : Header) → missed (front ++ e ∷ []) h ≡ true → missed front h ≡ true
missed_less front e h u = and_left (missed front h) (not (matches e h)) (sym (missed_snoc front e h) ∙ u)

pub missed_last : (front : List Entry) (e : Entry) (h : Header) → missed (front ++ e ∷ []) h ≡ true → matches e h ≡ false
missed_last front e h u = not_true (and_right (missed front h) (not (matches e h)) (sym (missed_snoc front e h) ∙ u))

-- ---- Definition 29 and its test

pub shadowed_tells : (hs : Headers) (front : List Entry) (e : Entry) → shadowed hs front e ≡ true → Shadowed hs front e
shadowed_tells hs front e s h a m =
    not_false (is_false (missed front h) λ u. clash (and_intro u m) (nowhere hs (λ h. missed front h && matches e h) s h a))

pub shadowed_by : (hs : Headers) (front : List Entry) (e : Entry) → Shadowed hs front e → shadowed hs front e ≡ true
shadowed_by hs front e s =
    none_by hs (λ h. missed front h && matches e h) λ h a.
    is_false (missed front h && matches e h) λ b.
    clash (s h a (and_right (missed front h) (matches e h) b)) (not_true (and_left (missed front h) (matches e h) b))

-- Lemma 31: an entry is shadowed exactly if it catches no header
module _ (hs : Headers) (front : List Entry) (e : Entry) (back : List Entry) where
  catcher_at : (n : ℕ) (p : List Entry) (h : Header) → missed p h ≡ true → matches e h ≡ true → catcher_from n (p ++ e ∷ back) h ≡ Some (n + length p)
  catcher_at n [] h u m = ap (λ (b : Bool). cond b (Some n) (catcher_from (n + 1) back h)) m ∙ ap Some (plain n)
    where
      plain : (n : ℕ) → n ≡ n + 0
      plain n = omega arith
  catcher_at n (d ∷ p) h u m =
      ap (λ (b : Bool). cond b (Some n) (catcher_from (n + 1) (p ++ e ∷ back) h)) (not_true {b = matches d h} (and_left (not (matches d h)) (missed p h) v))
      ∙ catcher_at (n + 1) p h (and_right (not (matches d h)) (missed p h) v) m
      ∙ ap Some (up n (length p))
    where
      v : (not (matches d h) && missed p h) ≡ true
      v = sym (missed_cons d p h) ∙ u

      up : (n k : ℕ) → n + 1 + k ≡ n + suc k
      up n k = omega arith

  pub lemma31 : Shadowed hs front e → (h : Header) → among hs h ≡ true → catcher (front ++ e ∷ back) h ≡ Some (length front) → ⊥
  lemma31 s h a q = clash (s h a m) (not_true u)
    where
      c : (i : ℕ) × (length front ≡ 0 + i) × Catches (front ++ e ∷ back) i h
      c = caught_by 0 (front ++ e ∷ back) h (length front) q

      place : length c.2.front ≡ length front
      place = omega (arith, c.1, c.2.place)

      u : missed front h ≡ true
      u =
          ap (λ (l : List Entry). missed l h)
          (sym (take_at front (e ∷ back) (length front) refl)
          ∙ ap (take (length front)) c.2.whole
          ∙ take_at c.2.front (c.2.entry ∷ c.2.back) (length front) place)
          ∙ c.2.earlier

      m : matches e h ≡ true
      m =
          ap (λ (d : Entry). matches d h)
          (sym (get_or_at front e back e (length front) refl)
          ∙ ap (λ (l : List Entry). get_or l (length front) e) c.2.whole
          ∙ get_or_at c.2.front c.2.entry c.2.back e (length front) place)
          ∙ c.2.matched

  pub lemma31_back : ((h : Header) → among hs h ≡ true → catcher (front ++ e ∷ back) h ≡ Some (length front) → ⊥) → Shadowed hs front e
  lemma31_back f h a m = not_false (is_false (missed front h) λ u. f h a (catcher_at 0 front h u m ∙ ap Some (zero-add (length front))))

-- ---- entries that catch no header

module _ (hs : Headers) where
  -- without any of them the list allows the same
  pub without_shadowed-allows : (front p q : List Entry) → WithoutShadowed hs front p q
      → (h : Header) → among hs h ≡ true → missed front h ≡ true → allowed q h ≡ allowed p h
  without_shadowed-allows front [] q w h a u = ap (λ (l : List Entry). allowed l h) w
  without_shadowed-allows front (e ∷ p) q w h a u = go (λ r v. without_shadowed-allows (front ++ e ∷ []) p r v h a) w (matches e h) refl
    where
      go : ((r : List Entry) → WithoutShadowed hs (front ++ e ∷ []) p r → missed (front ++ e ∷ []) h ≡ true → allowed r h ≡ allowed p h)
          → WithoutShadowed hs front (e ∷ p) q → (m : Bool) → matches e h ≡ m → allowed q h ≡ cond m (actions e.actions) (allowed p h)
      go ih (inl (r, k, v)) true m = ap (λ (l : List Entry). allowed l h) k ∙ ap (λ (b : Bool). cond b (actions e.actions) (allowed r h)) m
      go ih (inl (r, k, v)) false m =
          ap (λ (l : List Entry). allowed l h) k
          ∙ ap (λ (b : Bool). cond b (actions e.actions) (allowed r h)) m
          ∙ ih r v (missed_more front e h u m)
      go ih (inr (s, v)) true m = clash (s h a m) (not_true u)
      go ih (inr (s, v)) false m = ih q v (missed_more front e h u m)

  -- rule 2 removes all of them
  drop_shadowed-without : (front p : List Entry) → WithoutShadowed hs front p (drop_shadowed hs front p)
  drop_shadowed-without front [] = refl
  drop_shadowed-without front (e ∷ p) = go (drop_shadowed-without (front ++ e ∷ []) p) (shadowed hs front e) refl
    where
      rest : List Entry
      rest = drop_shadowed hs (front ++ e ∷ []) p

      go : WithoutShadowed hs (front ++ e ∷ []) p rest → (b : Bool) → shadowed hs front e ≡ b → WithoutShadowed hs front (e ∷ p) (cond b rest (e ∷ rest))
      go w true s = inr (shadowed_tells hs front e s, w)
      go w false s = inl (rest, refl, w)

  pub trimmed_allows : (p : List Entry) → Equivalent hs (trimmed hs p) p
  trimmed_allows p h a = without_shadowed-allows [] (drop_empty p) (trimmed hs p) (drop_shadowed-without [] (drop_empty p)) h a refl ∙ drop_empty-allows p h

-- ---- every entry left catches a header

-- each entry has a header that the entries before it miss and that has a property by the entry and those behind it
abbrev pub Each : Headers → (Entry → List Entry → Header → Bool) → List Entry → List Entry → Type 0
Each hs P front [] = Unit {0}
Each hs P front (e ∷ es) = Witness hs (λ h. missed front h && P e es h) × Each hs P (front ++ e ∷ []) es

module _ (hs : Headers) (P : Entry → List Entry → Header → Bool) where
  -- fewer entries in front
  pub each_wider : (front less es : List Entry) → ((h : Header) → missed front h ≡ true → missed less h ≡ true) → Each hs P front es → Each hs P less es
  each_wider front less [] f r = tt
  each_wider front less (e ∷ es) f r = (
    record {
      header = w.header;
      member = w.member;
      holds = and_intro (f w.header (and_left (missed front w.header) (P e es w.header) w.holds)) (and_right (missed front w.header) (P e es w.header) w.holds);
    },
    each_wider (front ++ e ∷ []) (less ++ e ∷ []) es (λ h u. missed_more less e h (f h (missed_less front e h u)) (missed_last front e h u)) r.1,
  )
    where
      w : Witness hs (λ h. missed front h && P e es h)
      w = r.0

  pub each_at : (front ds : List Entry) (e : Entry) (bs : List Entry) → Each hs P front (ds ++ e ∷ bs) → Witness hs (λ h. missed (front ++ ds) h && P e bs h)
  each_at front [] e bs r = subst (λ (l : List Entry). Witness hs (λ h. missed l h && P e bs h)) (sym (append-nil front)) r.0
  each_at front (d ∷ ds) e bs r =
      subst (λ (l : List Entry). Witness hs (λ h. missed l h && P e bs h)) (append_assoc front (d ∷ []) ds) (each_at (front ++ d ∷ []) ds e bs r.1)

abbrev pub EachCatching : Headers → List Entry → List Entry → Type 0
EachCatching hs front es = Each hs (λ e es. matches e) front es

pub shown : (hs : Headers) (front p : List Entry) → EachCatching hs front (drop_shadowed hs front p)
shown hs front [] = tt
shown hs front (e ∷ p) = go (shown hs (front ++ e ∷ []) p) (shadowed hs front e) refl
  where
    rest : List Entry
    rest = drop_shadowed hs (front ++ e ∷ []) p

    go : EachCatching hs (front ++ e ∷ []) rest → (b : Bool) → shadowed hs front e ≡ b → EachCatching hs front (cond b rest (e ∷ rest))
    go ih true s = each_wider hs (λ e es. matches e) (front ++ e ∷ []) front rest (λ h u. missed_less front e h u) ih
    go ih false s = (witness hs (λ h. missed front h && matches e h) s, ih)

-- ---- an empty set, and a header that is allowed nothing (Lemma 32)

empty_shows : (hs : Headers) (front w : List Entry) → EachCatching hs front w → has_empty w ≡ true → Witness hs (λ h. missed front h && is_empty (allowed w h))
empty_shows hs front [] r x = clash x refl
empty_shows hs front (e ∷ w) r x = go (empty_shows hs (front ++ e ∷ []) w r.1) (or_elim (eqb e.actions 0) (has_empty w) x)
  where
    go : (has_empty w ≡ true → Witness hs (λ h. missed (front ++ e ∷ []) h && is_empty (allowed w h)))
        → (eqb e.actions 0 ≡ true) ⊎ (has_empty w ≡ true) → Witness hs (λ h. missed front h && is_empty (allowed (e ∷ w) h))
    go ih (inl z) =
        let u = r.0 in
        let h = u.header in
        record {
          header = h;
          member = u.member;
          holds =
              and_intro (and_left (missed front h) (matches e h) u.holds)
              (ap (λ (m : Bool). is_empty (cond m (actions e.actions) (allowed w h))) (and_right (missed front h) (matches e h) u.holds) ∙ z);
        }
    go ih (inr z) =
        let u = ih z in
        let h = u.header in
        let s = and_left (missed (front ++ e ∷ []) h) (is_empty (allowed w h)) u.holds in
        record {
          header = h;
          member = u.member;
          holds =
              and_intro (missed_less front e h s)
              (ap (λ (m : Bool). is_empty (cond m (actions e.actions) (allowed w h))) (missed_last front e h s)
              ∙ and_right (missed (front ++ e ∷ []) h) (is_empty (allowed w h)) u.holds);
        }

shows_empty : (w : List Entry) (h : Header) → is_empty (allowed w h) ≡ true → has_empty w ≡ true
shows_empty [] h x = x
shows_empty (e ∷ w) h x = go (shows_empty w h) (matches e h) x
  where
    go : (is_empty (allowed w h) ≡ true → has_empty w ≡ true) → (m : Bool) → is_empty (cond m (actions e.actions) (allowed w h)) ≡ true → (eqb e.actions 0 || has_empty w) ≡ true
    go ih true x = or_left (eqb e.actions 0) (has_empty w) x
    go ih false x = or_right (eqb e.actions 0) (has_empty w) (ih x)

-- in a list whose entries all catch, an empty set shows a header that is allowed nothing
pub empty_is : (hs : Headers) (w : List Entry) → EachCatching hs [] w → has_empty w ≡ not (no_header hs λ h. is_empty (allowed w h))
empty_is hs w r = go (has_empty w) refl
  where
    go : (b : Bool) → has_empty w ≡ b → b ≡ not (no_header hs λ h. is_empty (allowed w h))
    go true e = sym (ap not (somewhere hs (λ h. is_empty (allowed w h)) (empty_shows hs [] w r e)))
    go false e = sym (ap not (none_by hs (λ h. is_empty (allowed w h)) λ h a. is_false (is_empty (allowed w h)) λ x. clash (shows_empty w h x) e))

-- a list is implementable exactly if each of its entries with an empty set is shadowed
module _ (hs : Headers) (p : List Entry) where
  pub empty_shadowed : Implementable hs p → (front : List Entry) (e : Entry) (back : List Entry) → p ≡ front ++ e ∷ back → e.actions ≡ 0 → Shadowed hs front e
  empty_shadowed i front e back q z h a m = not_false (is_false (missed front h) λ u. i h a (ap (λ (l : List Entry). allowed l h) q ∙ allows u))
    where
      allows : missed front h ≡ true → allowed (front ++ e ∷ back) h ≡ actions 0
      allows u = allowed_append front (e ∷ back) h ∙ ap₂ or_next (none (allowed front h) u) (ap (λ (b : Bool). cond b (actions e.actions) (allowed back h)) m ∙ ap actions z)
        where
          none : (x : Allowed) → not (is_caught x) ≡ true → x ≡ uncaught
          none (actions x) u = clash u refl
          none uncaught u = refl

  allowed_at : (h : Header) (front back : List Entry) → p ≡ front ++ back → missed front h ≡ true → allowed back h ≡ actions 0
      → (ds : List Entry) × (e : Entry) × (bs : List Entry) × (p ≡ ds ++ e ∷ bs) × (missed ds h ≡ true) × (matches e h ≡ true) × (e.actions ≡ 0)
  allowed_at h front [] w u q = absurd (let z : ◌≡◌ {A = ℕ} 0 1 = cc in omega arith)
  allowed_at h front (e ∷ back) w u q =
      go (λ m. allowed_at h (front ++ e ∷ []) back (w ∙ sym (append_assoc front (e ∷ []) back)) (missed_more front e h u m)) (matches e h) refl q
    where
      go : (matches e h ≡ false → allowed back h ≡ actions 0
          → (ds : List Entry) × (e : Entry) × (bs : List Entry) × (p ≡ ds ++ e ∷ bs) × (missed ds h ≡ true) × (matches e h ≡ true) × (e.actions ≡ 0))
          → (m : Bool) → matches e h ≡ m → cond m (actions e.actions) (allowed back h) ≡ actions 0
          → (ds : List Entry) × (e : Entry) × (bs : List Entry) × (p ≡ ds ++ e ∷ bs) × (missed ds h ≡ true) × (matches e h ≡ true) × (e.actions ≡ 0)
      go ih true m q = (front, e, back, w, u, m, cc)
      go ih false m q = ih m q

  pub shadowed_implementable : ((front : List Entry) (e : Entry) (back : List Entry) → p ≡ front ++ e ∷ back → e.actions ≡ 0 → Shadowed hs front e) → Implementable hs p
  shadowed_implementable f h a q =
      let t = allowed_at h [] p refl refl q in
      clash (f t.0 t.1 t.2 t.3 t.6 h a t.5) (not_true t.4)
