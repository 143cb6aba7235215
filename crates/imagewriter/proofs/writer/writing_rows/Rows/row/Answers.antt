use Rattle.std.proofs.Common.{◌≡◌, refl, arith, rules}
use Rattle.tables.specs.Tables.{LawfulStamp, of}
use Rattle.imageformat.specs.Format.{row}
use Rattle.imagewriter.specs.Places.{row_place, put_at}
use Rattle.imagewriter.proofs.RowsStand.{row_stands}
use Rattle.imagewriter.proofs.writer.writing_rows.Rows.row.Goals as goal
use Rattle.imagewriter.proofs.writer.writing_rows.Rows.row.Goals.{After-count_one}

-- the row is in its place
row_put : (c : After-count_one) → c.put_bytes.new.buf ≡ put_at (row_place c.args.self.now.standing) (row c.args.edition c.args.hand c.args.self.now.place c.args.length) c.args.buf.now
row_put c =
    let stamp = c.in_ok-stamp.ensures in
    simp (c.put_bytes.ensures, c.place_of_row.ensures, c.to_bytes.ensures, stamp.0, stamp.1)

-- the row is taken
pub returns-clause-answer : goal.returns-clause-answer
returns-clause-answer c =
    (search rules, search rules, search rules, search rules, λ _ _ _ _. (refl, c.count_one.ensures, row_put (goal.at.returns-clause-answer c).After-count_one))

-- and is that of the new last entry
pub returns-clause-meaning : goal.returns-clause-meaning
returns-clause-meaning c t s stood is _ =
    let buf = c.args.buf.now in
    let w = c.args.self.now in
    let lawful : LawfulStamp c.args.edition c.args.hand = search rules in
    row_stands t (of s c.args.edition c.args.hand) w c.count_one.new.self buf c.put_bytes.new.buf c.args.length is (row_put (goal.at.returns-clause-meaning c).After-count_one) c.count_one.ensures (omega arith, lawful) (search rules) (search rules) stood
