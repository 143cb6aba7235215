use Rattle.std.proofs.Common.{◌≡◌, length}
use Rattle.words.specs.Lines.{lines_left}
use Rattle.listing.specs.Listing.{entries_left}
use Rattle.listing.proofs.entries.ItemsIterator.next.Given as goal

abbrev pub invariant-loop-line : goal.invariant-loop-line
invariant-loop-line l = entries_left l.self ≡ entries_left l.initial.self

abbrev pub decreases-loop-line : goal.decreases-loop-line
decreases-loop-line l = length (lines_left l.self.lines)
