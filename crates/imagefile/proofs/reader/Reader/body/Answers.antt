use Rattle.std.proofs.Common.{sym, ap, ◌∙◌, arith, rules}
use Rattle.tables.specs.Tables.{Entry}
use Rattle.imagefile.specs.Laws.{shown_length, shown_entry}
use Rattle.imagefile.proofs.Bodies.{part_ends, part_is}
use Rattle.imagefile.proofs.reader.Reader.body.Goals as goal

-- the body ends in the file
pub slice_bounds-result-end : goal.slice_bounds-result-end
slice_bounds-result-end c =
    let file = c.args.self.now in
    let bs = file.bytes.now in
    let row = c.in_ok-row.ensures in
    let n = shown_length bs in
    let h = part_ends bs c.in_ok-row.row c.args.e _ row.1 c.from-length.ensures (file.head, file.rows, file.end) (omega arith) in
    search rules

-- the part is the body, and the entry's text
pub returns : goal.returns
returns c =
    let bs = c.args.self.now.bytes.now in
    let row = c.in_ok-row.ensures in
    let n = shown_length bs in
    let part = part_is bs c.in_ok-row.row c.args.e _ row.1 c.from-length.ensures in
    (row.0, part ∙ sym (ap (λ (x : Entry). x.text) (shown_entry bs c.args.e (omega arith))), part)
