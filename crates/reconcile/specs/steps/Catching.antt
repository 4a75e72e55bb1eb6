-- The entries of an index tuple, each in its policy.
use Rattle.std.specs.Prelude.{◌≡◌, List, [], ◌∷◌, Some}
use Rattle.policy.specs.declared.header.Header.{Header}
use Rattle.policy.specs.declared.entry.Entry.{Entry}
use Rattle.policy.specs.Policy.{catcher}
use Rattle.reconcile.specs.Crossproduct.{Tuple}

-- each entry of the tuple catches the header in its policy (Lemma 25)
abbrev pub EachCatches : List (List Entry) → Tuple → Header → Type 0
EachCatches [] [] h = Unit {0}
EachCatches [] (i ∷ t) h = ⊥
EachCatches (p ∷ ps) [] h = ⊥
EachCatches (p ∷ ps) (i ∷ t) h = (catcher p h ≡ Some i) × EachCatches ps t h
