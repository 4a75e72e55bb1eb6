-- 02, Wish 2: one action to install. A ranking has the numbers of the actions, best first.
use Rattle.std.specs.Prelude.{ℕ, cond, List, map}
use Rattle.policy.specs.declared.entry.Entry.{Entry}
use Rattle.policy.specs.declared.refusal.Refusal.TheVariants.{Ranking}
use Rattle.policy.specs.Header.{Headers}
use Rattle.policy.specs.Ranking.{is_ranking, best}
use Rattle.policy.specs.Entry.{selector, entry}
use Rattle.reconcile.specs.Rules.{struck, Merging, refused, merged, merge_of}

-- the entry with the best-ranked action of its set alone
abbrev pub with_best : List ℕ → Entry → Entry
with_best ranking e = entry (selector e) (best ranking e.actions)

-- the merged list with one action an entry, from which rule 4 strikes again
abbrev pub installed : Headers → List ℕ → Merging → Merging
installed hs ranking (refused r) = refused r
installed hs ranking (merged m) = merged (struck hs (map (with_best ranking) m))

-- refusal 12, then refusals 8 to 10 in their order, else the installed list
abbrev pub install_of : Headers → List ℕ → List (List Entry) → Merging
install_of hs ranking ps = cond (is_ranking ranking) (installed hs ranking (merge_of hs ps)) (refused Ranking)
