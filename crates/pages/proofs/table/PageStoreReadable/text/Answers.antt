use Rattle.std.proofs.Common.{◌≡◌, ℕ, ◌<◌, List, subst, arith, rules}
use Rattle.tables.specs.Answers.{Front}
use Rattle.pages.specs.Rows.{row}
use Rattle.pages.proofs.Finds.{table_rows, text_read}
use Rattle.pages.proofs.table.PageStoreReadable.text.Goals as goal

pub returns-in_err-row : goal.returns-in_err-row
returns-in_err-row c = search (rules, table_rows)

-- a text is no longer than the array
pub slice_bounds-fill_front-end : goal.slice_bounds-fill_front-end
slice_bounds-fill_front-end c =
    let s = c.args.self.now in
    let f = s.fits c.args.e in
    search (rules, arith)

pub returns : goal.returns
returns c =
    let s = c.args.self.now in
    let e = c.args.e in
    let n = table_rows s in
    let l : e < s.stock.count = search (rules, arith) in
    let is : c.in_ok-row.row.now ≡ row s.rows.items e = search (rules, arith) in
    let P : List ℕ → Type 0 = λ t. Front t c.args.buf.now c.fill_front.result c.fill_front.new.buf in
    (λ h. subst P (text_read s e l _ _ is c.read.ensures) c.fill_front.ensures, λ h. absurd (search (rules, arith)))
