use Rattle.std.proofs.Common.{◌≡◌, rules}
use Rattle.std.specs.Option.{option_map}
use Rattle.region.proofs.Fields.{next_is}
use Rattle.region.proofs.cut.next_field.Goals as goal

pub returns : goal.returns
returns c =
    let e : c.map.result ≡ option_map (λ f. f.0) c.loop-f.best = search rules in
    rw e (search next_is)
