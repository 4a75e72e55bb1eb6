-- What it means that no header has a property, and that some has.
-- Assumes nothing.
use Rattle.std.specs.Prelude.{None, Option, Some}
use mathlib.Core.Path.{◌≡◌, refl, ap}
use mathlib.Core.Bool.{Bool, true, false}
use Rattle.policy.specs.declared.header.Header.{Header}
use Rattle.policy.specs.Header.{Headers, among}
use Rattle.policy.specs.Least.{least}
use Rattle.policy.proofs.Bool.{clash, is_false}
use Rattle.policy.proofs.Least.{least_none, at_tells, none_tells, agree}
use Rattle.reconcile.specs.Rules.{is_nothing, no_header}

-- a header of the set with the property
pub record Witness (hs : Headers) (P : Header → Bool) : Type 0 where
  pub header : Header
  pub member : among hs header ≡ true
  pub holds : P header ≡ true

module _ (hs : Headers) (P : Header → Bool) where
  pub none_by : ((h : Header) → among hs h ≡ true → P h ≡ false) → no_header hs P ≡ true
  unfolding no_header
  none_by f = ap is_nothing (least_none hs P f)

  pub nowhere : no_header hs P ≡ true → (h : Header) → among hs h ≡ true → P h ≡ false
  unfolding no_header
  nowhere e = go (least hs P) refl e
    where
      go : (r : Option Header) → least hs P ≡ r → is_nothing r ≡ true → (h : Header) → among hs h ≡ true → P h ≡ false
      go (Some g) q e = clash e refl
      go None q e = none_tells hs P q

  pub witness : no_header hs P ≡ false → Witness hs P
  unfolding no_header
  witness e = go (least hs P) refl e
    where
      go : (r : Option Header) → least hs P ≡ r → is_nothing r ≡ false → Witness hs P
      go (Some h) q e = let t = at_tells hs P h q in record { header = h; member = t.0; holds = t.1 }
      go None q e = clash refl e

  pub somewhere : Witness hs P → no_header hs P ≡ false
  somewhere w = is_false (no_header hs P) λ e. clash w.holds (nowhere e w.header w.member)

pub no_header-agree : (hs : Headers) (P Q : Header → Bool) → ((h : Header) → among hs h ≡ true → P h ≡ Q h) → no_header hs P ≡ no_header hs Q
unfolding no_header
no_header-agree hs P Q f = ap is_nothing (agree hs P Q f)
