-- The table of a page store.
use Rattle.std.specs.Prelude.{ℕ, List, map, take}
use Rattle.std.specs.List.{range_with_len, flat_map}
use Rattle.tables.specs.Tables.{Entry, Table, of}
use Rattle.pages.specs.declared.stock.Stock.{Stock}
use Rattle.pages.specs.declared.store.Row.{Row}
use Rattle.pages.specs.declared.store.PageStore.{PageStore}
use Rattle.pages.specs.Blocks.{blocks}
use Rattle.pages.specs.Rows.{row}

-- the entry e: the front of its blocks, joined, and the stamp of its row
abbrev pub entry_of : Stock → List Row → ℕ → Entry
entry_of s rs e =
    of (take (row rs e).len (flat_map (λ x. x) (blocks s e))) (row rs e).stamp.edition (row rs e).stamp.hand

-- the entries 0 .. count - 1
abbrev pub entries : Stock → List Row → Table
entries s rs = map (entry_of s rs) (range_with_len 0 s.count)

-- the table that a page store shows
abbrev pub table_of : PageStore → Table
table_of s = entries s.stock s.rows.items
