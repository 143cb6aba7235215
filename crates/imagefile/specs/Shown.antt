-- What a file shows.
use Rattle.std.specs.Prelude.{◌≡◌, ℕ, ◌+◌, ◌*◌, List, map, take, drop}
use Rattle.std.specs.List.{range_with_len}
use Rattle.tables.specs.Tables.{Entry, Table, Lawful, of}
use Rattle.imageformat.specs.Format.{number_at, written}
use Rattle.imageformat.specs.Rows.{row_at}
use Rattle.imageformat.specs.declared.row.Row.{Row}

-- the version that a file's head says
abbrev pub head_version : List ℕ → ℕ
head_version bs = number_at 2 0 bs

-- the count that a file's head says
abbrev pub head_count : List ℕ → ℕ
head_count bs = number_at 2 2 bs

-- row k of a file
abbrev pub file_row : List ℕ → ℕ → Row
file_row bs k = row_at bs (4 + 14 * k)

-- body k of a file: as many bytes as its row says, at the place that its row says
abbrev pub file_body : List ℕ → ℕ → List ℕ
file_body bs k = take (file_row bs k).length (drop (file_row bs k).place bs)

-- the entry that row k and body k show
abbrev pub file_entry : List ℕ → ℕ → Entry
file_entry bs k = of (file_body bs k) (file_row bs k).edition (file_row bs k).hand

-- the table that a file shows
abbrev pub shown : List ℕ → Table
shown bs = map (file_entry bs) (range_with_len 0 (head_count bs))

-- the file is the written form of a lawful table
abbrev pub Accepted : List ℕ → Type 0
Accepted bs = (t : Table) × Lawful t × (bs ≡ written t)
