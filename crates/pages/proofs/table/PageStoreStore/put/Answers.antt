use Rattle.std.proofs.Common.{arith, rules, length-set}
use Rattle.std.proofs.lemmas.List.{set-get_or}
use Rattle.pages.specs.Laws.{table_length}
use Rattle.pages.proofs.Finds.{table_rows}
use Rattle.pages.proofs.Puts.{fits_again, put_table}
use Rattle.pages.proofs.table.PageStoreStore.put.Goals as goal

-- the table has no such entry
pub returns-in_err-row : goal.returns-in_err-row
returns-in_err-row c = search (rules, table_rows)

-- the text is too long, and the row stays
pub returns-then-text-gt-LONGEST_TEXT : goal.returns-then-text-gt-LONGEST_TEXT
returns-then-text-gt-LONGEST_TEXT c = let n = table_length c.args.self.now in search (rules, table_rows, set-get_or)

pub invariant_of-self-2 : goal.invariant_of-self-2
invariant_of-self-2 c =
    let s = c.args.self.now in
    let r = c.replace.ensures in
    record {
      counted = simp length-set (omega (arith, s.counted, r.others.0));
      fits = fits_again s c.replace.new.self c.args.e c.args.text.now c.args.stamp r (search (rules, arith)) (omega arith);
    }

pub returns : goal.returns
returns c =
    let t = put_table c.args.self.now c.replace.new.self c.args.e c.args.text.now c.args.stamp c.replace.ensures (search (rules, arith)) (omega arith) in
    search (rules, table_rows)
