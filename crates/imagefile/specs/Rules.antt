-- The rules that a file has to keep.
use Rattle.std.specs.Prelude.{◌≡◌, ℕ, zero, suc, ◌+◌, ◌*◌, ◌<◌, ◌≤◌, List, length}
use Rattle.tables.specs.Tables.{LawfulStamp}
use Rattle.imageformat.specs.declared.row.Row.{Row}
use Rattle.imagefile.specs.Shown.{head_version, head_count, file_row}

-- the head stands and says version 1 and a count that a table may have, and so many rows stand
abbrev pub HeadRule : List ℕ → Type 0
HeadRule bs =
    (4 ≤ length bs)
    × (head_version bs ≡ 1)
    × (head_count bs ≤ 128)
    × (4 + 14 * head_count bs ≤ length bs)

-- where body k has to begin: where the rows end, or the body before it
abbrev pub due : List ℕ → ℕ → ℕ
due bs zero = 4 + 14 * head_count bs
due bs (suc k) = (file_row bs k).place + (file_row bs k).length

-- a row whose body has to begin at a place: a lawful stamp, a length of at most 96, and that place
abbrev pub RowRule : Row → ℕ → Type 0
RowRule w place = LawfulStamp w.edition w.hand × (w.length ≤ 96) × (w.place ≡ place)

-- the rows below n keep their rule, each with the place where its body has to begin
abbrev pub RowsRule : List ℕ → ℕ → Type 0
RowsRule bs n = (k : ℕ) → k < n → RowRule (file_row bs k) (due bs k)

-- all rules: of the head, of every row, and that the file ends where its last body does
abbrev pub Passes : List ℕ → Type 0
Passes bs = HeadRule bs × RowsRule bs (head_count bs) × (due bs (head_count bs) ≡ length bs)
