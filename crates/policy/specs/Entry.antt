-- Entries: a selector and an action set.
use Rattle.std.specs.Prelude.{ℕ, Bool}
use Rattle.policy.specs.declared.header.Header.{Header}
use Rattle.policy.specs.declared.entry.Entry.{Entry}
use Rattle.policy.specs.Box.{range, meet}
use Rattle.policy.specs.Header.{arity, Box, lies}
use Rattle.policy.specs.Direction.{crossed_box}
use Rattle.policy.specs.Actions.{shared}

-- the entry's selector: its six ranges
abbrev pub selector : Entry → Box
selector e = (
  range e.local_low e.local_high,
  (
    range e.remote_low e.remote_high,
    (
      range e.local_port_low e.local_port_high,
      (
        range e.remote_port_low e.remote_port_high,
        (range e.protocol_low e.protocol_high, (range e.direction_low e.direction_high, tt)),
      ),
    ),
  ),
)

-- the entry with a selector and an action set
abbrev pub entry : Box → ℕ → Entry
entry b a = record {
  local_low = b.0.low;
  local_high = b.0.high;
  remote_low = b.1.0.low;
  remote_high = b.1.0.high;
  local_port_low = b.1.1.0.low;
  local_port_high = b.1.1.0.high;
  remote_port_low = b.1.1.1.0.low;
  remote_port_high = b.1.1.1.0.high;
  protocol_low = b.1.1.1.1.0.low;
  protocol_high = b.1.1.1.1.0.high;
  direction_low = b.1.1.1.1.1.0.low;
  direction_high = b.1.1.1.1.1.0.high;
  actions = a;
}

-- Definition 2: an entry matches the headers of its selector
abbrev pub matches : Entry → Header → Bool
matches e h = lies (selector e) h

-- some range of the entry has its low above its high, or an end of its direction is above 1
abbrev pub crossed : Entry → Bool
crossed e = crossed_box (selector e)

-- selectors and action sets intersected
abbrev pub both : Entry → Entry → Entry
both d e = entry (meet arity (selector d) (selector e)) (shared d.actions e.actions)
