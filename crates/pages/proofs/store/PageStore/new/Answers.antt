use Rattle.std.proofs.Common.{arith}
use Rattle.pages.proofs.Blanks.{fits_blank, table_blank}
use Rattle.pages.proofs.store.PageStore.new.Goals as goal

pub invariant_of-result : goal.invariant_of-result
invariant_of-result c =
    let v = c.loop.invariant in
    let n = c.new.ensures in
    record {
      counted = omega (arith, v.0, n.counted);
      fits = fits_blank c.new.result c.args.n c.loop.rows.items n.counted n.empty (omega (arith, v.0)) v.1;
    }

pub returns : goal.returns
returns c =
    let v = c.loop.invariant in
    let n = c.new.ensures in
    (omega arith, table_blank c.new.result c.args.n c.loop.rows.items n.counted n.empty (omega (arith, v.0)) v.1)
