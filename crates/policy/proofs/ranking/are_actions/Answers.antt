-- The definition goes over the list as std's does.
use Rattle.std.proofs.Common.{ℕ, ◌≡◌, ◌∙◌, List, [], ◌∷◌, refl, ap, nat_lt, ◌&&◌, rules}
use Rattle.std.specs.List.{list_all}
use Rattle.std.proofs.lemmas.Iterator.{YieldsList-from_slice}
use Rattle.std.proofs.lemmas.Iterator.Search.{all_from_yields_List}
use borrow.Author.Tests.{tests}
use Rattle.policy.specs.Ranking.{action_count, all_below}
use Rattle.policy.proofs.ranking.are_actions.Goals as goal

below_is : (n : ℕ) (ks : List ℕ) → list_all (λ k. nat_lt k n) ks ≡ all_below n ks
below_is n [] = refl
below_is n (k ∷ ks) = ap (nat_lt k n &&◌) (below_is n ks)

pub returns : goal.returns
returns c =
    all_from_yields_List (λ k. nat_lt k action_count) _ _ _ c.all.ensures.ran (YieldsList-from_slice c.args.numbers.now cc) (λ x b q k. search (rules, tests))
    ∙ below_is action_count c.args.numbers.now
