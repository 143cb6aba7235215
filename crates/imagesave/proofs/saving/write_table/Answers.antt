use Rattle.std.proofs.Common.{◌≡◌, ◌+◌, Ok, rules}
use Rattle.imagesave.proofs.Turns.{RowsSaved, row_saved, body_saved}
use Rattle.imagesave.proofs.saving.write_table.Goals as goal
use Rattle.imagesave.proofs.saving.write_table.Goals.{After-row}

-- the row of an entry is taken, and one more is written
row_done : (g : _) (c : After-row g) → (c.row.result ≡ Ok tt) × RowsSaved (g.R.Readable.table c.args.from.now) c.args.buf.now (c.loop-e.e + 1) c.row.new.self c.row.new.buf
row_done g c =
    row_saved (g.R.Readable.table c.args.from.now) c.args.buf.now c.loop-e.e c.loop-e.rows c.row.new.self c.loop-e.buf c.row.new.buf _ c.text.new.buf _ _ _ c.row.result (g.R.Readable.lawful c.args.from.now) (search rules) (search rules) c.in_ok-edition.ensures c.in_ok-length.ensures c.row.auto.buf c.loop-e.invariant c.row.ensures.answer c.row.ensures.meaning

-- so it is not refused
pub returns-in_err-row : goal.returns-in_err-row
returns-in_err-row g c =
    let done = row_done g (goal.at.returns-in_err-row g c).After-row in
    absurd (cc (done.0, c.in_err-row.was))

-- and the loop goes on
pub loop-e-preserved : goal.loop-e-preserved
loop-e-preserved g c = (row_done g (goal.at.loop-e-preserved g c).After-row).1

-- one more body is written
pub loop-e-2-preserved : goal.loop-e-2-preserved
loop-e-2-preserved g c =
    (body_saved (g.R.Readable.table c.args.from.now) c.args.buf.now c.loop-e-2.e c.loop-e-2.bodies c.body.new.self c.loop-e-2.buf c.body.new.buf c.loop-e-2.text c.fetch_text.new.out _ c.body.result (g.R.Readable.lawful c.args.from.now) (search rules) (search rules) c.in_ok-length-2.ensures c.body.auto.buf c.loop-e-2.invariant c.body.ensures.answer c.body.ensures.meaning).1
