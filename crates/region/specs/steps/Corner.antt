-- The low corner of a box: which row holds it, and how many rows meet the box.
use Rattle.std.specs.Prelude.{◌≡◌, ℕ, zero, suc, ◌+◌, ◌-◌, ◌*◌, ◌/◌, ◌<◌, Bool, true, false, cond, ◌&&◌, ◌⊎◌, List, [], ◌∷◌, length, nat_le, slice_index_or, Option, Some, None}
use Rattle.policy.specs.declared.header.Header.{Header}
use Rattle.policy.specs.declared.entry.Entry.{Entry}
use Rattle.policy.specs.Row.{Row}
use Rattle.policy.specs.Box.{Range, inside, proper, meet}
use Rattle.policy.specs.steps.Boxes.{lows}
use Rattle.policy.specs.Header.{arity, header, before, Box, lies, headers}
use Rattle.policy.specs.steps.Findings.{lesser}
use Rattle.policy.specs.Least.{least_in}
use Rattle.policy.specs.Entry.{selector}
use Rattle.policy.specs.Policy.{missed}
use Rattle.policy.specs.Sides.{box_of}
use Rattle.policy.specs.steps.Rows.{row_size, row_at, rows_from, rows_in}
use Rattle.region.specs.declared.pick.Choice.{Choice}
use Rattle.region.specs.declared.pick.Picked.{Picked}
use Rattle.region.specs.declared.pick.Picked.TheVariants.{Held, Free, Covered}

-- the header comes before the finding
abbrev pub improves : Header → Option Header → Bool
improves h None = true
improves h (Some g) = before h g

-- a header was found that comes before best
abbrev pub sooner : Option Header → Option Header → Bool
sooner (Some h) best = improves h best
sooner None best = false

-- the box s holds the low corner of b
abbrev pub holds_corner : Box → Box → Bool
holds_corner s b = inside arity s (lows arity b)

-- no range of s ends before that of b
abbrev pub reaches : (k : ℕ) → Row Range k → Row Range k → Bool
reaches zero s b = true
reaches (suc k) s b = nat_le b.0.high s.0.high && reaches k s.1 b.1

-- the entries miss no header of b
abbrev pub Covers : List Entry → Box → Type 0
Covers es b = (h : Header) → lies b h ≡ true → missed es h ≡ false

-- the selector of entry number i
unfoldable pub selector_in : List Entry → ℕ → Box
selector_in es i = selector (slice_index_or es i (row_at [] 0))

-- the number of an entry whose selector holds the low corner of b; or none does; or none of b is missed
abbrev pub Picks : List Entry → Box → Picked → Type 0
Picks es b (Held i) = (i < length es) × (holds_corner (selector_in es i) b ≡ true)
Picks es b Free = missed es (header (lows arity b)) ≡ true
Picks es b Covered = Covers es b

-- the same, where a header is looked for that comes before best: the low corner is the least, or there is none
abbrev pub PicksBefore : List Entry → Box → Option Header → Picked → Type 0
PicksBefore es b best (Held i) = (i < length es) × (holds_corner (selector_in es i) b ≡ true)
PicksBefore es b best Free = Some (header (lows arity b)) ≡ lesser (least_in headers b (missed es)) best
PicksBefore es b best Covered = best ≡ lesser (least_in headers b (missed es)) best

-- the number picked, and the pick behind n entries more
abbrev pub number_of : Picked → ℕ
number_of (Held i) = i
number_of Free = 0
number_of Covered = 0

abbrev pub shifted : ℕ → Picked → Picked
shifted n (Held i) = Held (n + i)
shifted n Free = Free
shifted n Covered = Covered

-- row number i of the slice holds the low corner of b, and the rows all of b if the choice says so
abbrev pub Chooses : List ℕ → Box → ℕ → Bool → Type 0
Chooses s b i whole = (i < length s / row_size) × ((holds_corner (box_of s (row_size * i)) b ≡ true) × (whole ≡ true → Covers (rows_in s) b))

-- of the first n rows: number i holds the numbers x, and none behind it does; or none does
abbrev pub HoldsLast : List ℕ → ℕ → Row ℕ arity → Option ℕ → Type 0
HoldsLast s n x (Some i) =
    (i < n)
    × ((inside arity (box_of s (row_size * i)) x ≡ true)
    × (missed (rows_from s (row_size * (i + 1)) (n - (i + 1))) (header x) ≡ true))
HoldsLast s n x None = missed (rows_from s 0 n) (header x) ≡ true

-- number i is taken, or the old choice stays
abbrev pub Better : ℕ → Choice → Choice → Type 0
Better i c r = ((r.number ≡ i) × (r.covers ≡ false)) ⊎ (r ≡ c)

-- how many of the entries meet the box
abbrev pub meeting : List Entry → Box → ℕ
meeting [] b = 0
meeting (e ∷ es) b = cond (proper arity (meet arity b (selector e))) 1 0 + meeting es b
