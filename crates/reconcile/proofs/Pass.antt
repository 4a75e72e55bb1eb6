-- One pass over the pairs gives rule 2's list, and is crowded where that list is.
-- Assumes nothing.
use Prim.Native.Nat.{◌≤◌}
use native.Mathlib.Omega.{arith}
use mathlib.Core.Path.{◌≡◌, refl, sym, ◌∙◌, ap, ap₂}
use mathlib.Core.Bool.{Bool, true, false, not, cond, ◌&&◌, and-true, and-false}
use mathlib.Core.List.{List, [], ◌∷◌, ◌++◌, append_assoc, append-nil}
use lib.Dec.{leb}
use lib.ListN.{length, length-append}
use borrow.Author.Tests.{lt-leb, leb-false}
use Rattle.policy.specs.declared.header.Header.{Header}
use Rattle.policy.specs.declared.entry.Entry.{Entry}
use Rattle.policy.specs.Box.{proper}
use Rattle.policy.specs.Header.{arity, Headers, among}
use Rattle.policy.specs.Entry.{selector, matches}
use Rattle.policy.specs.Policy.{missed}
use Rattle.wire.specs.Format.{list_limit}
use Rattle.reconcile.specs.Rules.{cross, drop_empty, shadowed, drop_shadowed, trimmed, Working, list, crowded, limited, next}
use Rattle.reconcile.specs.steps.Pass.{offered, offered_all}
use Rattle.reconcile.proofs.Decide.{none_by, nowhere, no_header-agree}
use Rattle.reconcile.proofs.Drop.{empty_misses, missed_snoc}

-- the entries that are kept behind those of w, without a limit
abbrev pub kept_from : Headers → List Entry → List Entry → List Entry
kept_from hs w [] = w
kept_from hs w (e ∷ p) = cond (shadowed hs w e) (kept_from hs w p) (kept_from hs (w ++ e ∷ []) p)

module _ (hs : Headers) where
  -- two lists that miss the same headers
  abbrev Alike : List Entry → List Entry → Type 0
  Alike a b = (h : Header) → among hs h ≡ true → missed a h ≡ missed b h

  shadowed_alike : (a b : List Entry) (e : Entry) → Alike a b → shadowed hs a e ≡ shadowed hs b e
  shadowed_alike a b e s = no_header-agree hs (λ h. missed a h && matches e h) (λ h. missed b h && matches e h) λ h m. ap (◌&& matches e h) (s h m)

  alike_snoc : (a b : List Entry) (e : Entry) → Alike a b → Alike (a ++ e ∷ []) (b ++ e ∷ [])
  alike_snoc a b e s h m = missed_snoc a e h ∙ ap (◌&& not (matches e h)) (s h m) ∙ sym (missed_snoc b e h)

  -- a shadowed entry in front makes no difference
  alike_skip : (a b : List Entry) (e : Entry) → Alike a b → shadowed hs b e ≡ true → Alike (a ++ e ∷ []) b
  alike_skip a b e s q h m =
      missed_snoc a e h
      ∙ ap (◌&& not (matches e h)) (s h m)
      ∙ skip (missed b h) (matches e h) (nowhere hs (λ h. missed b h && matches e h) q h m)
    where
      skip : (u m : Bool) → (u && m) ≡ false → (u && not m) ≡ u
      skip true true q = sym q
      skip true false q = refl
      skip false m q = refl

  kept_is : (front w p : List Entry) → Alike front w → kept_from hs w p ≡ w ++ drop_shadowed hs front p
  kept_is front w [] s = sym (append-nil w)
  kept_is front w (e ∷ p) s =
      go (λ l. kept_is (front ++ e ∷ []) l p) (shadowed hs w e) refl
      ∙ ap (λ (b : Bool). w ++ cond b rest (e ∷ rest)) (sym (shadowed_alike front w e s))
    where
      rest : List Entry
      rest = drop_shadowed hs (front ++ e ∷ []) p

      go : ((l : List Entry) → Alike (front ++ e ∷ []) l → kept_from hs l p ≡ l ++ rest) → (b : Bool) → shadowed hs w e ≡ b
          → cond b (kept_from hs w p) (kept_from hs (w ++ e ∷ []) p) ≡ w ++ cond b rest (e ∷ rest)
      go ih true q = ih w (alike_skip front w e s q)
      go ih false q = ih (w ++ e ∷ []) (alike_snoc front w e s) ∙ append_assoc w (e ∷ []) rest

  -- an entry with an empty selector is shadowed
  pub empty_shadowed : (w : List Entry) (e : Entry) → proper arity (selector e) ≡ false → shadowed hs w e ≡ true
  empty_shadowed w e q = none_by hs (λ h. missed w h && matches e h) λ h m. ap (missed w h &&◌) (empty_misses e h q) ∙ and-false (missed w h)

  -- so it is enough to drop the shadowed ones
  trimmed_once : (a b p : List Entry) → Alike a b → drop_shadowed hs a (drop_empty p) ≡ drop_shadowed hs b p
  trimmed_once a b [] s = refl
  trimmed_once a b (e ∷ p) s = go (λ l. trimmed_once l (b ++ e ∷ []) p) (proper arity (selector e)) refl
    where
      go : ((l : List Entry) → Alike l (b ++ e ∷ []) → drop_shadowed hs l (drop_empty p) ≡ drop_shadowed hs (b ++ e ∷ []) p)
          → (t : Bool) → proper arity (selector e) ≡ t
          → drop_shadowed hs a (cond t (e ∷ drop_empty p) (drop_empty p)) ≡ drop_shadowed hs b (e ∷ p)
      go ih true q =
          ap₂ (λ (t : Bool) (r : List Entry). cond t r (e ∷ r)) (shadowed_alike a b e s) (ih (a ++ e ∷ []) (alike_snoc a b e s))
      go ih false q =
          ih a (λ h m. s h m ∙ sym (missed_snoc b e h ∙ ap (λ (t : Bool). missed b h && not t) (empty_misses e h q) ∙ and-true (missed b h)))
          ∙ ap (λ (t : Bool). cond t (drop_shadowed hs (b ++ e ∷ []) p) (e ∷ drop_shadowed hs (b ++ e ∷ []) p)) (sym (empty_shadowed b e q))

  pub kept_trims : (p : List Entry) → kept_from hs [] p ≡ trimmed hs p
  kept_trims p = kept_is [] [] p (λ h m. refl) ∙ sym (trimmed_once [] [] p λ h m. refl)

  -- ---- with the limit

  pub grows : (w p : List Entry) → length w ≤ length (kept_from hs w p)
  grows w [] = omega arith
  grows w (e ∷ p) = go (grows w p) (grows (w ++ e ∷ []) p) (shadowed hs w e)
    where
      go : length w ≤ length (kept_from hs w p) → length (w ++ e ∷ []) ≤ length (kept_from hs (w ++ e ∷ []) p)
          → (b : Bool) → length w ≤ length (cond b (kept_from hs w p) (kept_from hs (w ++ e ∷ []) p))
      go l m true = l
      go l m false = omega (arith, length-append w (e ∷ []))

  pub offered_crowded : (p : List Entry) → offered_all hs crowded p ≡ crowded
  offered_crowded [] = refl
  offered_crowded (e ∷ p) = offered_crowded p

  limited_few : (w : List Entry) → leb (length w) list_limit ≡ true → limited w ≡ list w
  limited_few w e = ap (λ (b : Bool). cond b (list w) crowded) e

  limited_many : (w : List Entry) → leb (length w) list_limit ≡ false → limited w ≡ crowded
  limited_many w e = ap (λ (b : Bool). cond b (list w) crowded) e

  pub offered_kept : (w p : List Entry) → offered_all hs (limited w) p ≡ limited (kept_from hs w p)
  offered_kept w [] = refl
  offered_kept w (e ∷ p) = go (offered_kept w p) (offered_kept (w ++ e ∷ []) p) (leb (length w) list_limit) refl
    where
      go : offered_all hs (limited w) p ≡ limited (kept_from hs w p) → offered_all hs (limited (w ++ e ∷ [])) p ≡ limited (kept_from hs (w ++ e ∷ []) p)
          → (b : Bool) → leb (length w) list_limit ≡ b
          → offered_all hs (offered hs (limited w) e) p ≡ limited (cond (shadowed hs w e) (kept_from hs w p) (kept_from hs (w ++ e ∷ []) p))
      go u v true b = ap (λ (m : Working). offered_all hs (offered hs m e) p) (limited_few w b) ∙ pick (shadowed hs w e)
        where
          pick : (s : Bool) → offered_all hs (cond s (list w) (limited (w ++ e ∷ []))) p ≡ limited (cond s (kept_from hs w p) (kept_from hs (w ++ e ∷ []) p))
          pick true = ap (λ (m : Working). offered_all hs m p) (sym (limited_few w b)) ∙ u
          pick false = v
      go u v false b =
          ap (λ (m : Working). offered_all hs (offered hs m e) p) (limited_many w b)
          ∙ offered_crowded p
          ∙ sym (limited_many (kept_from hs w (e ∷ p)) (lt-leb (length (kept_from hs w (e ∷ p))) list_limit (omega (arith, grows w (e ∷ p), leb-false (length w) list_limit b))))

  -- the pass over a list gives what rule 2 leaves of it
  pub offered_first : (p : List Entry) → offered_all hs (list []) p ≡ limited (trimmed hs p)
  offered_first p = offered_kept [] p ∙ ap limited (kept_trims p)

  -- so the pass over the pairs gives the next working list
  pub offered_next : (w p : List Entry) → offered_all hs (list []) (cross w p) ≡ next hs (list w) p
  offered_next w p = offered_first (cross w p)

  pub offered_append : (w : Working) (p q : List Entry) → offered_all hs w (p ++ q) ≡ offered_all hs (offered_all hs w p) q
  offered_append w [] q = refl
  offered_append w (e ∷ p) q = offered_append (offered hs w e) p q
