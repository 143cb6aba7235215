-- What is read of an entry is what the table has there.
use Rattle.std.proofs.Common.{◌≡◌, ℕ, ◌*◌, ◌<◌, List, length, take, sym, ap, ◌∙◌, arith}
use Rattle.std.specs.List.{flat_map}
use Rattle.std.proofs.lemmas.List.{take-take}
use Rattle.tables.specs.Tables.{entry}
use Rattle.pages.specs.Blocks.{blocks}
use Rattle.pages.specs.Chains.{size}
use Rattle.pages.specs.Rows.{row}
use Rattle.pages.specs.declared.store.Row.{Row}
use Rattle.pages.specs.declared.store.PageStore.{PageStore}
use Rattle.pages.specs.Entries.{table_of}
use Rattle.pages.specs.Laws.{table_length, table_entry}

-- the table has an entry for each row
pub table_rows : (s : PageStore) → length (table_of s) ≡ length s.rows.items
table_rows s = table_length s ∙ sym s.counted

-- the front of the blocks that are read is the text
pub text_read : (s : PageStore) (e : ℕ) → e < s.stock.count → (r : Row) (t : List ℕ) → r ≡ row s.rows.items e
    → take (16 * size s.stock.chains e) t ≡ flat_map (λ x. x) (blocks s.stock e) → take r.len t ≡ (entry (table_of s) e).text
text_read s e l r t is front =
    let f = s.fits e l in
    let len = (row s.rows.items e).len in
    ap (λ r. take r.len t) is
    ∙ sym (take-take len (16 * size s.stock.chains e) t (omega arith))
    ∙ ap (take len) front
    ∙ sym (ap (λ x. x.text) (table_entry s e l))
