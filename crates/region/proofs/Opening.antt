-- The search of a box by its low corner: what prunes it, when the corner is the answer, and when nothing is left of it.
-- Assumes nothing.
use Rattle.std.specs.Prelude.{None, Option, Some}
use Rattle.std.proofs.Common.{◌≡◌, ℕ, Bool, true, false, cond, sym, refl, ap, ◌∙◌, subst}
use Rattle.policy.specs.declared.header.Header.{Header}
use Rattle.policy.specs.Row.{Row, precedes}
use Rattle.policy.specs.steps.Boxes.{lows}
use Rattle.policy.specs.Header.{arity, fields, header, before, Box, Headers}
use Rattle.policy.specs.steps.Findings.{lesser}
use Rattle.policy.specs.Least.{least_in}
use Rattle.policy.proofs.Bool.{clash, is_false}
use Rattle.policy.proofs.Order.{Order, earlier, equal, later, order, pre_trans, pre_irrefl}
use Rattle.policy.proofs.Box.{none_before}
use Rattle.policy.proofs.Branch.{found_lies}
use Rattle.region.specs.steps.Corner.{improves}

-- a header that comes before the finding is the lesser
pub improved : (h : Header) (best : Option Header) → improves h best ≡ true → Some h ≡ lesser (Some h) best
improved h None e = refl
improved h (Some g) e =
    ap (λ (t : Bool). cond t (Some g) (Some h))
    (sym (is_false (before g h) λ l. pre_irrefl arity (fields h) (pre_trans arity (fields h) (fields g) (fields h) e l)))

-- a box whose low corner does not come before the finding has nothing that does
pub pruned : (hs : Headers) (P : Header → Bool) (b : Box) (best : Option Header) → improves (header (lows arity b)) best ≡ false → best ≡ lesser (least_in hs b P) best
pruned hs P b best n = go (least_in hs b P) refl best n
  where
    go : (r : Option Header) → least_in hs b P ≡ r → (best : Option Header) → improves (header (lows arity b)) best ≡ false → best ≡ lesser r best
    go r e None n = clash refl n
    go None e (Some g) n = refl
    go (Some h) e (Some g) n = one (before g h) refl
      where
        far : before h g ≡ true → Order arity (lows arity b) (fields h) → Some g ≡ Some h
        far l (earlier p) = clash (pre_trans arity (lows arity b) (fields h) (fields g) p l) n
        far l (equal p) = clash (subst (λ (y : Row ℕ arity). precedes arity y (fields g) ≡ true) (sym p) l) n
        far l (later p) = absurd (none_before arity b (fields h) (found_lies hs b P h e) p)

        near : before g h ≡ false → Order arity (fields g) (fields h) → Some g ≡ Some h
        near q (earlier p) = clash p q
        near q (equal p) = ap (λ (r : Row ℕ arity). Some (header r)) p
        near q (later p) = far p (order arity (lows arity b) (fields h))

        one : (t : Bool) → before g h ≡ t → Some g ≡ cond t (Some g) (Some h)
        one true q = refl
        one false q = near q (order arity (fields g) (fields h))

pub improves_at : (h g : Header) (best : Option Header) (t : Bool) → best ≡ Some g → t ≡ before h g → t ≡ improves h best
improves_at h g best t e p = p ∙ ap (improves h) (sym e)
