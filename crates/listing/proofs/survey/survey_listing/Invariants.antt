use Rattle.std.proofs.Common.{◌≡◌, ◌+◌, ◌≤◌, ◌++◌, length, vec_items}
use Rattle.std.specs.Iterator.Adapters.{enumerate_source, enumerate_count}
use Rattle.words.specs.Lines.{lines, lines_left}
use Rattle.listing.specs.Listing.{listed}
use Rattle.listing.specs.Faults.{bad_lines}
use Rattle.listing.proofs.survey.survey_listing.Given as goal

abbrev pub invariant-loop-k : goal.invariant-loop-k
invariant-loop-k l =
    (l.entries ≤ enumerate_count l.k-iterator)
    × (l.entries + length (listed (lines_left (enumerate_source l.k-iterator))) ≡ length (listed (lines l.listing)))
    × (vec_items l.bad ++ bad_lines (enumerate_count l.k-iterator + 1) (lines_left (enumerate_source l.k-iterator)) ≡ bad_lines 1 (lines l.listing))
