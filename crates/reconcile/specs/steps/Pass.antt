-- Rules 1 and 2 in one pass over the pairs, as the code goes: a pair is kept if it catches a header that the kept ones leave uncaught.
use Rattle.std.specs.Prelude.{ℕ, ◌/◌, ◌≤◌, ◌≡◌, cond, List, [], ◌∷◌, ◌++◌, length}
use Rattle.policy.specs.declared.entry.Entry.{Entry}
use Rattle.policy.specs.Header.{Headers}
use Rattle.policy.specs.steps.Rows.{row_size, rows_in}
use Rattle.wire.specs.Format.{filed_limit, place_in, entries_from}
use Rattle.reconcile.specs.Rules.{shadowed, Working, list, crowded, limited}

-- an entry more; the 257th that is kept is one too many
abbrev pub offered : Headers → Working → Entry → Working
offered hs (list w) e = cond (shadowed hs w e) (list w) (limited (w ++ e ∷ []))
offered hs crowded e = crowded

abbrev pub offered_all : Headers → Working → List Entry → Working
offered_all hs w [] = w
offered_all hs w (e ∷ p) = offered_all hs (offered hs w e) p

-- t are the rows of the first entries of the file s, no more than a filed list has
pub record RowsOf (s t : List ℕ) : Type 0 where
  pub same : rows_in t ≡ entries_from s 0 (length t / row_size)
  pub there : place_in s (length t / row_size) ≤ length s
  pub few : length t / row_size ≤ filed_limit
