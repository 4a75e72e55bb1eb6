-- What is written next stands behind what is written.
use Rattle.std.proofs.Common.{◌≡◌, ℕ, ◌+◌, ◌-◌, ◌≤◌, List, ◌++◌, length, take, drop, refl, rules, arith, sym, subst, ap, ◌∙◌, length-drop}
use Rattle.std.proofs.KnownBytes.{Appends-trans}
use Rattle.std.proofs.Math.Seq.{take-add}
use Rattle.std.proofs.lemmas.Grind.{common_steps}
use Rattle.std.specs.Io.KnownBytes.{Appends}
use Rattle.program.proofs.write_report.Goals as goal

front_more : (text left next : List ℕ) (n : ℕ) → length left ≤ length text → left ≡ drop (length text - length left) text → n ≤ length left → next ≡ take (length left - n) (drop n left)
    → take (length text - length left) text ++ take n left ≡ take (length text - length next) text
front_more text left next n within rest some is =
    ap (λ l. take (length text - length left) text ++ take n l) rest
    ∙ sym (take-add (length text - length left) n text)
    ∙ ap (λ k. take k text) place
  where
    place : length text - length left + n ≡ length text - length next
    place = grind (arith, common_steps, length-drop {A = ℕ})

pub loop-left-preserved : goal.loop-left-preserved
loop-left-preserved g c =
    let i = c.loop-left.invariant in
    let some : c.in_ok-n.n ≤ length c.loop-left.left.now = search rules in
    record {
      within = search rules;
      rest = grind (arith, common_steps, length-drop {A = ℕ});
      bytes = subst (Appends _ _) (front_more c.args.text.now c.loop-left.left.now _ c.in_ok-n.n i.within i.rest some refl) (Appends-trans _ _ _ _ _ i.bytes c.in_ok-n.ensures.bytes);
    }
