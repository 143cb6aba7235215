use Rattle.std.proofs.Common.{length}
use Rattle.pages.specs.Blocks.{blocks, OthersKept}
use Rattle.pages.proofs.stock.Stock.give_back.Given as goal

-- the other entries have kept their blocks
abbrev pub invariant-loop-self : goal.invariant-loop-self
invariant-loop-self l = OthersKept l.initial.self l.self l.e

-- the pages that are left to move
abbrev pub decreases-loop-self : goal.decreases-loop-self
decreases-loop-self l = length (blocks l.self l.e)
