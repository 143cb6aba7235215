use Rattle.std.proofs.Common.{◌≡◌, length, arith, rules}
use Rattle.std.proofs.lemmas.Slice.Eq.{slice_eq-Decides}
use Rattle.std.proofs.lemmas.Bool.Decides.{Decides-at, Decides-eqb}
use Rattle.tables.specs.Tables.{entry}
use Rattle.compare.proofs.Decisions.{by_buffers}
use Rattle.compare.proofs.same_text.Goals as goal

-- at equal lengths the buffers decide
pub returns-then-eq : goal.returns-then-eq
returns-then-eq g c =
    let l = ((g.L.Readable.lawful c.args.left.now).1 c.args.e c.requires.in_left).0 in
    let m = ((g.R.Readable.lawful c.args.right.now).1 c.args.e c.requires.in_right).0 in
    let p = (c.text-left_len.ensures.0 c.requires.in_left).0 l in
    let q = (c.text-right_len.ensures.0 c.requires.in_right).0 m in
    let same : length (entry (g.L.Readable.table c.args.left.now) c.args.e).text ≡ length (entry (g.R.Readable.table c.args.right.now) c.args.e).text = search (rules, arith, Decides-at, Decides-eqb) in
    by_buffers _ _ _ _ _ c.eq-then-eq.result same p.1 q.1 (slice_eq-Decides Decides-eqb _ _ _ c.eq-then-eq.ensures)

-- texts of other lengths differ
pub returns-else-eq : goal.returns-else-eq
returns-else-eq g c =
    let l = (g.L.Readable.lawful c.args.left.now).1 c.args.e in
    let m = (g.R.Readable.lawful c.args.right.now).1 c.args.e in
    search (rules, arith, Decides-at, Decides-eqb)
