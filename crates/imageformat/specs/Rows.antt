-- The rows that stand in bytes.
use Rattle.std.specs.Prelude.{ℕ, ◌+◌, List}
use Rattle.imageformat.specs.Format.{number_at}
use Rattle.imageformat.specs.declared.row.Row.{Row}

-- the row that stands in the fourteen bytes at a place
abbrev pub row_at : List ℕ → ℕ → Row
row_at bs at =
    record {
      edition = number_at 4 at bs;
      hand = number_at 4 (at + 4) bs;
      place = number_at 4 (at + 8) bs;
      length = number_at 2 (at + 12) bs;
    }
