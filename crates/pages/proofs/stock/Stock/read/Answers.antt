use Rattle.std.proofs.Common.{◌≡◌, ◌-◌, ◌*◌, ◌++◌, take, sym, ap, ◌∙◌, arith, rules}
use Rattle.std.specs.List.{flat_map}
use Rattle.std.proofs.lemmas.List.{append-nil}
use Rattle.std.proofs.lemmas.Slice.{overwrites}
use Rattle.pages.specs.Blocks.{blocks}
use Rattle.pages.specs.Chains.{linked, size}
use Rattle.pages.proofs.Readings.{left, bytes_of, page_here, within_more, read_more}
use Rattle.pages.proofs.stock.Stock.read.Goals as goal

pub offset_bounds-self-p : goal.offset_bounds-self-p
offset_bounds-self-p c =
    let l = page_here c.args.self.now c.args.e c.loop-i.i c.loop-i.p (omega (arith, c.requires)) c.loop-i-test.true c.loop-i.invariant.2 in
    search rules

pub bounds-self-p : goal.bounds-self-p
bounds-self-p c =
    page_here c.args.self.now c.args.e c.loop-i.i c.loop-i.p (omega (arith, c.requires)) c.loop-i-test.true c.loop-i.invariant.2

pub loop-i-preserved : goal.loop-i-preserved
loop-i-preserved c =
    let s = c.args.self.now in
    let v = c.loop-i.invariant in
    let small = s.small c.args.e c.requires in (
      search (rules, overwrites),
      read_more s c.args.e c.loop-i.i c.loop-i.p (omega (arith, c.requires)) c.loop-i-test.true v.2 c.loop-i.text c.copy_from_slice.new.self (flat_map (λ x. x) (blocks s c.args.e)) _ v.0 (omega arith) c.copy_from_slice.ensures.after v.1,
      within_more s c.args.e c.loop-i.i c.loop-i.p (omega (arith, c.requires)) c.loop-i-test.true v.2,
    )

pub returns : goal.returns
returns c =
    let s = c.args.self.now in
    let k = size s.chains c.args.e in
    let done : c.loop-i.i ≡ k = omega arith in
    let none : k - c.loop-i.i ≡ 0 = omega arith in
    sym (append-nil (take (16 * k) c.loop-i.text))
    ∙ ap (λ m. take (16 * k) c.loop-i.text ++ bytes_of s (linked s.pages m c.loop-i.p)) (sym none)
    ∙ ap (λ m. take (16 * m) c.loop-i.text ++ bytes_of s (left s c.args.e c.loop-i.i c.loop-i.p)) (sym done)
    ∙ c.loop-i.invariant.1
