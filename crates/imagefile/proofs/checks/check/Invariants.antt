use Rattle.std.proofs.Common.{◌≡◌}
use Rattle.imagefile.specs.Rules.{RowsRule, due}
use Rattle.imagefile.proofs.checks.check.Given as goal

-- the rows so far keep their rule, and the next body has to begin where the last one ends
abbrev pub invariant-loop-k : goal.invariant-loop-k
invariant-loop-k l = (l.end ≡ due l.bytes l.k) × RowsRule l.bytes l.k
