-- The lines of a listing that are passed over.
use Rattle.std.specs.Prelude.{ℕ, suc, List, [], ◌∷◌, Ok, Err, Result}
use Rattle.tables.specs.Tables.{Entry}
use Rattle.listing.specs.Listing.{listed_line}
use Rattle.listing.specs.declared.line.LineFault.{LineFault}
use Rattle.listing.specs.declared.survey.BadLine.{BadLine}

-- one bad line more, where the line has no entry
abbrev pub noted : ℕ → Result Entry LineFault → List BadLine → List BadLine
noted k (Ok x) bad = bad
noted k (Err f) bad = record { line = k; fault = f } ∷ bad

-- the bad lines with their faults, where the first line has the number k
abbrev pub bad_lines : ℕ → List (List ℕ) → List BadLine
bad_lines k [] = []
bad_lines k (l ∷ ls) = noted k (listed_line l) (bad_lines (suc k) ls)
