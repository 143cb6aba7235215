use Rattle.std.proofs.Common.{◌≡◌, ◌≤◌, ◌++◌, length, take}
use Rattle.std.specs.Iterator.Adapters.{enumerate_source, enumerate_count}
use Rattle.words.specs.Lines.{lines}
use Rattle.listing.specs.Listing.{listed, entries_left}
use Rattle.listing.proofs.load.fill.Given as goal

abbrev pub invariant-loop-e : goal.invariant-loop-e
invariant-loop-e g l =
    (length (g.S.Readable.table l.to) ≡ length (listed (lines l.listing)))
    × (enumerate_count l.e-iterator ≤ length (g.S.Readable.table l.to))
    × (take (enumerate_count l.e-iterator) (g.S.Readable.table l.to) ++ entries_left (enumerate_source l.e-iterator) ≡ listed (lines l.listing))
