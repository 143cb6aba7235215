use Rattle.imagesave.proofs.Turns.{RowsSaved, BodiesSaved}
use Rattle.imagesave.proofs.saving.write_table.Given as goal

-- the rows of the entries before `e` are written
abbrev pub invariant-loop-e : goal.invariant-loop-e
invariant-loop-e g l = RowsSaved (g.R.Readable.table l.from) l.fn.buf l.e l.rows l.buf

-- all rows and the bodies of the entries before `e` are
abbrev pub invariant-loop-e-2 : goal.invariant-loop-e-2
invariant-loop-e-2 g l = BodiesSaved (g.R.Readable.table l.from) l.fn.buf l.e l.bodies l.buf
