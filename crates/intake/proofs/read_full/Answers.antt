-- What is read stands behind the front.
use Rattle.std.proofs.Common.{◌≡◌, ℕ, ◌+◌, ◌≤◌, List, ◌++◌, length, take, rules, sym, subst, ap, ◌∙◌}
use Rattle.std.proofs.KnownBytes.{Consumes-trans}
use Rattle.std.proofs.Math.Seq.{take-append-add}
use Rattle.std.proofs.lemmas.List.{length-take-le, take-append-le}
use Rattle.std.specs.Io.KnownBytes.{Consumes}
use borrow.Rule.Slice.PartMut.{put_mid, post_of}
use Rattle.intake.proofs.read_full.Goals as goal

front_more : (a k n : ℕ) (xs ys : List ℕ) → a ≤ length xs → n ≤ length ys → take (a + n) (put_mid a k xs ys) ≡ take a xs ++ take n ys
front_more a k n xs ys h g =
    let front = take a xs in
    let behind = post_of a k xs in
    ap (λ m. take (m + n) (front ++ (ys ++ behind))) (sym (length-take-le a xs h)) ∙ take-append-add front (ys ++ behind) n
    ∙ ap (λ l. front ++ l) (take-append-le n ys behind g)

pub loop-count-preserved : goal.loop-count-preserved
loop-count-preserved g c = record {
  within = search rules;
  bytes =
      subst (Consumes _ _) (sym (front_more _ _ _ _ _ c.loop-count.invariant.within c.in_ok-n.ensures.within))
      (Consumes-trans _ _ _ _ _ c.loop-count.invariant.bytes c.in_ok-n.ensures.bytes);
}
