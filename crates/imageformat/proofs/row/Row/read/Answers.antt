use Rattle.std.proofs.Common.{◌≡◌, ◌+◌, refl, ap, ◌∙◌, arith}
use Rattle.imageformat.specs.Rows.{row_at}
use Rattle.imageformat.specs.declared.row.Row.{Row}
use Rattle.imageformat.specs.Format.{row, number_at}
use Rattle.imageformat.proofs.Fields.{row_coded, four_read, in_row}
use Rattle.imageformat.proofs.row.Row.read.Goals as goal

-- the fields are the numbers of the row that stands there, which its bytes code
pub returns : goal.returns
returns c =
    let bs = c.args.bytes.now in
    let at = c.args.at in
    let whole = c.in_ok-row.ensures in
    let part = c.in_ok-row.row.now in
    let start : at + 0 ≡ at = omega arith in
    let edition = four_read part 0 _ _ c.in_ok-bytes_at.ensures c.from_be_bytes.ensures ∙ in_row bs at 0 4 14 part refl (omega arith) whole.1 ∙ ap (λ p. number_at 4 p bs) start in
    let hand = four_read part 4 _ _ c.in_ok-bytes_at-2.ensures c.from_be_bytes-2.ensures ∙ in_row bs at 4 4 10 part refl (omega arith) whole.1 in
    let place = four_read part 8 _ _ c.in_ok-bytes_at-3.ensures c.from_be_bytes-3.ensures ∙ in_row bs at 8 4 6 part refl (omega arith) whole.1 in
    let len = c.in_ok-u16_at.ensures.1 ∙ in_row bs at 12 2 2 part refl (omega arith) whole.1 in
    let is : ◌≡◌ {A = Row} (record { edition = c.from_be_bytes.result; hand = c.from_be_bytes-2.result; place = c.from_be_bytes-3.result; length = c.in_ok-u16_at.field-0 }) (row_at bs at) = simp (edition, hand, place, len) in
    (whole.0, is, ap (λ (w : Row). row w.edition w.hand w.place w.length) is ∙ row_coded bs (λ i. let f = c.type_inv.bytes i in omega arith) at whole.0)
