use Rattle.std.proofs.Common.{arith, rules}
use Rattle.std.proofs.lemmas.List.{take_at}
use Rattle.fetch.proofs.fetch_text.Goals as goal

-- the table's text fits the first buffer, and is copied from there
pub returns : goal.returns
returns g c =
    let lawful = (g.R.Readable.lawful c.args.from.now).1 c.args.e in
    let answer = c.in_ok-len.ensures in
    search (rules, arith, take_at)
