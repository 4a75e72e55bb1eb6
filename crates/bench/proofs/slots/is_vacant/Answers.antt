-- The list in a slot is read from an array of bytes, and each of its elements is a byte.
-- Assumes nothing.
use Prim.Native.Nat.{ℕ}
use native.Mathlib.Omega.{arith}
use lib.ListN.{get_or}
use borrow.Author.Rules.{rules}
use mir.Syntax.{w8}
use mir.Val.{Fits}
use Rattle.bench.proofs.Slotting.{slot_fits}
use Rattle.bench.proofs.slots.is_vacant.Goals as goal

pub returns : goal.returns
returns c = (search rules, slot_fits c.args.slot λ (i : ℕ). let b : Fits w8 (get_or c.args.slot.bytes i 0) = search rules in omega (arith, b.fits))
