-- Text that was put on a page.
use Rattle.std.specs.Prelude.{◌≡◌, List, ℕ}
use Rattle.report.specs.declared.page.Page.{Page}
use Rattle.report.specs.steps.Printed.{Printed}

-- s was put on the page, whose buffer is the same
pub record Puts (before : Page) (after : Page) (s : List ℕ) : Type 0 where
  pub buffer : after.out.ghost_name ≡ before.out.ghost_name
  pub printed : Printed before.out.now before.at s after.out.now after.at
