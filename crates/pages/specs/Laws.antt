-- The table of a page store is lawful.
use Rattle.std.specs.Prelude.{◌≡◌, ℕ, ◌<◌, length}
use Rattle.std.proofs.Common.{sym, subst, arith, length-take}
use Rattle.std.proofs.lemmas.List.FromFn.{length-map-range_with_len, get_or-map-range_with_len}
use Rattle.tables.specs.Tables.{Entry, blank, entry, LawfulEntry, Lawful}
use Rattle.pages.specs.declared.store.PageStore.{PageStore}
use Rattle.pages.specs.Rows.{row}
use Rattle.pages.specs.Entries.{entry_of, table_of}

-- the table has as many entries as the stock has entries' chains
pub table_length : (s : PageStore) → length (table_of s) ≡ s.stock.count
table_length s = length-map-range_with_len (entry_of s.stock s.rows.items) 0 s.stock.count

-- each is the entry of its number
pub table_entry : (s : PageStore) (e : ℕ) → e < s.stock.count → entry (table_of s) e ≡ entry_of s.stock s.rows.items e
table_entry s e l = get_or-map-range_with_len (entry_of s.stock s.rows.items) 0 s.stock.count e e blank l (omega arith)

-- what its row says is lawful
entry_lawful : (s : PageStore) (e : ℕ) → e < s.stock.count → LawfulEntry (entry_of s.stock s.rows.items e)
entry_lawful s e l =
    let stamp = (row s.rows.items e).stamp.lawful in
    (simp length-take (omega (arith, (s.fits e l).0)), (stamp.0, stamp.1))

-- so the table is lawful
pub table_lawful : (s : PageStore) → Lawful (table_of s)
table_lawful s =
    let n = table_length s in
    let P : Entry → Type 0 = LawfulEntry in (
      omega (arith, s.stock.lengths.2),
      λ e l. let k : e < s.stock.count = omega arith in subst P (sym (table_entry s e k)) (entry_lawful s e k),
    )
