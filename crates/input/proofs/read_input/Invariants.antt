use Rattle.std.proofs.Common.{◌-◌, ◌≤◌, length}
use Rattle.input.proofs.Gone.{Gone}
use Rattle.input.proofs.read_input.Given as goal

-- of the known bytes as many are gone as have come
abbrev pub invariant-loop-input : goal.invariant-loop-input
invariant-loop-input g l =
    (length l.room ≤ l.size)
    × Gone (g.R.Read.remaining l.initial.input) (g.R.Read.remaining l.input) (l.size - length l.room)

abbrev pub decreases-loop-input : goal.decreases-loop-input
decreases-loop-input g l = length l.room
