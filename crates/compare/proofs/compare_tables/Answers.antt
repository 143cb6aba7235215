use Rattle.std.proofs.Common.{◌≡◌, ◌≢◌, rules}
use Rattle.std.proofs.lemmas.Iterator.{first_from_Range}
use Rattle.tables.specs.Tables.{entry}
use Rattle.compare.proofs.Decisions.{first_or_same}
use Rattle.compare.proofs.compare_tables.Goals as goal

-- the entry that is found differs, and those before it do not; where none is found none differs
pub returns : goal.returns
returns g c =
    let t = g.L.Readable.table c.args.left.now in
    let u = g.R.Readable.table c.args.right.now in
    let f = first_from_Range _ _ _ c.find.result (λ k. entry t k ≢ entry u k) (λ k. entry t k ≡ entry u k) c.find.ensures.ran (λ k q h. search rules) (λ k q h. search rules) in
    first_or_same t u c.count-count.result c.find.result c.map_or.result c.count-count.ensures (search rules) f (search rules)
