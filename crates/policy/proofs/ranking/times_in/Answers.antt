use Rattle.std.proofs.Common.{ℕ, ◌≡◌, ◌∙◌, sym, Bool, true, false, refl, nat_eq, rules, cond, ◌+◌, zero-add}
use Rattle.std.specs.List.{count_by}
use Rattle.std.proofs.lemmas.List.Recursion.{is_count_by}
use Rattle.policy.specs.Ranking.{times}
use Rattle.policy.proofs.ranking.times_in.Goals as goal

one_more : (b : Bool) (n : ℕ) → cond b 1 0 + n ≡ cond b (1 + n) n
one_more true n = refl
one_more false n = zero-add n

pub returns : goal.returns
returns c =
    let e : c.count.result ≡ count_by (λ j. nat_eq j c.args.k) c.args.numbers.now = search rules in
    e ∙ sym (is_count_by (times c.args.k) _ refl (λ j js. one_more (nat_eq j c.args.k) (times c.args.k js)) c.args.numbers.now)
