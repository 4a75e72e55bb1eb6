-- The code goes up over the actions, and the definition down.
use borrow.Author.Rules.{rules}
use borrow.Author.Tests.{tests}
use native.Mathlib.Omega.{arith}
use native.Mathlib.Nat.{add-zero, zero-add}
use Prim.Native.Nat.{ℕ, zero, suc, ◌+◌}
use mathlib.Core.Path.{◌≡◌, refl, sym, ◌∙◌, ap, ap₂}
use mathlib.Core.Bool.{Bool, true, false, ◌&&◌}
use mathlib.Core.List.{List}
use lib.Dec.{eqb}
use Rattle.std.specs.List.{list_all, range_with_len}
use Rattle.std.proofs.lemmas.Iterator.{YieldsList-from_range}
use Rattle.std.proofs.lemmas.Iterator.Search.{all_from_yields_List}
use Rattle.policy.specs.Ranking.{action_count, times, once_each}
use Rattle.policy.proofs.Ranked.{other_length, no_action, all_actions}
use Rattle.policy.proofs.ranking.is_ranking.Goals as goal

swapped : (a b c : Bool) → (a && (b && c)) ≡ (b && (a && c))
swapped true b c = refl
swapped false true c = refl
swapped false false c = refl

last_first : (t : ℕ → Bool) (a n : ℕ) → list_all t (range_with_len a (suc n)) ≡ (t (a + n) && list_all t (range_with_len a n))
last_first t a zero = ap (λ (i : ℕ). t i && true) (sym (add-zero a))
last_first t a (suc n) =
    ap (t a &&◌) (last_first t (a + 1) n)
    ∙ swapped (t a) (t (a + 1 + n)) (list_all t (range_with_len (a + 1) n))
    ∙ ap (λ (i : ℕ). t i && list_all t (range_with_len a (suc n))) (onward a n)
  where
    onward : (a n : ℕ) → a + 1 + n ≡ a + suc n
    onward a n = omega arith

once_is : (ks : List ℕ) (n : ℕ) → list_all (λ k. eqb (times k ks) 1) (range_with_len 0 n) ≡ once_each n ks
once_is ks zero = refl
once_is ks (suc n) = last_first (λ k. eqb (times k ks) 1) 0 n ∙ ap₂ (λ (k : ℕ) (b : Bool). eqb (times k ks) 1 && b) (zero-add n) (once_is ks n)

pub returns-then-numbers : goal.returns-then-numbers
returns-then-numbers c = search (other_length, rules)

pub returns-then-not-are_actions : goal.returns-then-not-are_actions
returns-then-not-are_actions c = search (no_action, rules)

pub returns : goal.returns
returns c =
    let ks = c.args.numbers.now in
    all_from_yields_List (λ k. eqb (times k ks) 1) _ _ _ c.all.ensures.ran (YieldsList-from_range 0 action_count action_count refl refl) (λ x b q k. search (rules, tests))
    ∙ once_is ks action_count
    ∙ search (all_actions, rules)
