use Rattle.std.proofs.Common.{length, ap, ◌∙◌}
use Rattle.std.proofs.lemmas.Result.{err_from_is_err_and}
use Rattle.transfer.proofs.Steps.{front, transfer_refused, transfer_done}
use Rattle.transfer.proofs.transfer_table.Goals as goal

pub returns-in_err-restore_file : goal.returns-in_err-restore_file
returns-in_err-restore_file g c =
    let t = g.R.Readable.table c.args.from.now in
    let p = err_from_is_err_and c.from_residual-in_err-restore_file.result c.from_residual-in_err-restore_file.ensures.1 in
    rw (p.1, p.2) (transfer_refused t c.args.file.now c.write_table.new.buf c.in_ok-file_length.file_length c.in_ok-file_length.ensures (g.S.Readable.table c.args.to.now) (g.S.Readable.table c.restore_file.new.to) (g.R.Readable.lawful c.args.from.now) _ c.in_err-restore_file.ensures)

pub returns : goal.returns
returns g c =
    let t = g.R.Readable.table c.args.from.now in
    let file = c.args.file.now in
    let file' = c.write_table.new.buf in
    let len = c.in_ok-file_length.file_length in
    let wrote = c.in_ok-file_length.ensures in
    let lawful = g.R.Readable.lawful c.args.from.now in
    let shows = c.new.ensures.shows t lawful (front t file file' len wrote) in
    transfer_done t file file' len wrote (g.S.Readable.table c.args.to.now) (g.S.Readable.table c.restore_file.new.to) lawful c.count.result c.compare_tables.result c.in_ok-restore_file.ensures (c.count.ensures ∙ ap length shows) c.compare_tables.ensures
