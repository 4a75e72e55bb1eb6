-- Findings: a header, or nothing; and the lesser of them.
use Rattle.std.specs.Prelude.{Bool, cond, None, Option, Some}
use Rattle.policy.specs.declared.header.Header.{Header}

-- the first of two findings, else the second
abbrev pub or_else : Option Header → Option Header → Option Header
or_else (Some h) s = Some h
or_else None s = s

-- h, if it has the property
abbrev pub here : (Header → Bool) → Header → Option Header
here P h = cond (P h) (Some h) None
