-- A listing, line by line.
use Rattle.std.proofs.Common.{ℕ, suc, ◌≤◌, List, [], ◌∷◌, length, Ok, Err, Result, arith}
use Rattle.tables.specs.Tables.{Entry, Table}
use Rattle.listing.specs.Listing.{listed_line, kept, listed}
use Rattle.listing.specs.declared.line.LineFault.{LineFault}

-- there are no more entries than lines
kept_more : (r : Result Entry LineFault) (t : Table) → length (kept r t) ≤ suc (length t)
kept_more (Ok x) t = omega arith
kept_more (Err f) t = omega arith

pub listed_few : (ls : List (List ℕ)) → length (listed ls) ≤ length ls
listed_few [] = omega arith
listed_few (l ∷ ls) = let few = listed_few ls in let more = kept_more (listed_line l) (listed ls) in omega arith
