use Rattle.std.proofs.Common.{◌≡◌, ◌++◌, take, drop}
use Rattle.fetch.proofs.copy_bytes.Given as goal

-- the bytes before `i` are copied, and the others are as they were
abbrev pub invariant-loop-i : goal.invariant-loop-i
invariant-loop-i l = l.out ≡ take l.i l.bytes ++ drop l.i l.initial.out
