use Rattle.std.proofs.Common.{arith, rules}
use Rattle.std.proofs.lemmas.List.{take_at}
use Rattle.restore.proofs.copy_entry.Goals as goal

-- the source's stamp is lawful, so it is not refused
pub returns-in_err-stamp : goal.returns-in_err-stamp
returns-in_err-stamp g c =
    let lawful = (g.R.Readable.lawful c.args.from.now).1 c.args.e in
    let stamp = c.in_ok-edition.ensures in
    search (rules, arith)

-- the source's text has at most 96 bytes, so the buffer is long enough
pub returns-in_err-len : goal.returns-in_err-len
returns-in_err-len g c =
    let lawful = (g.R.Readable.lawful c.args.from.now).1 c.args.e in
    let stamp = c.in_ok-edition.ensures in
    search (rules, arith)

-- what is put is the source's entry, unless the store has no such entry
pub returns : goal.returns
returns g c =
    let lawful = (g.R.Readable.lawful c.args.from.now).1 c.args.e in
    let stamp = c.in_ok-edition.ensures in
    search (rules, arith, take_at)
