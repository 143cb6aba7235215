use Rattle.std.proofs.Common.{◌≡◌, ◌-◌, ◌*◌, ◌/◌, ◌++◌, length, sym, ap, subst, ◌∙◌, arith, length-drop}
use Rattle.std.specs.List.{flat_map}
use Rattle.std.specs.Iterator.Adapters.{rev_source}
use Rattle.std.specs.Slice.Iter.{chunks_rest}
use Rattle.pages.specs.Blocks.{blocks}
use Rattle.pages.proofs.Pieces.{Written, written_more}
use Rattle.pages.proofs.stock.Stock.fill.Goals as goal

pub loop-piece-preserved : goal.loop-piece-preserved
loop-piece-preserved c =
    let s = c.loop-piece.self in
    let v = c.loop-piece.invariant in
    let step = c.in-Some.ensures.steps in
    let rest = chunks_rest (rev_source c.loop-piece.piece-iterator) in
    let less = chunks_rest (rev_source c.next.new.self) in
    let stays = c.shift.ensures.stays in
    let fewer = ap length c.shift.ensures.from ∙ length-drop 1 (blocks s s.count) in
    let free : length (blocks c.shift.new.self c.shift.new.self.count) ≡ length (blocks c.shift.new.self s.count) = ap (λ n. length (blocks c.shift.new.self n)) stays in
    let onto = ap length c.shift.ensures.onto in
    let many : length less ≡ (length rest - 1) / 16 * 16 = step.1.1 ∙ ap (λ k. (length rest - 1) / k * k) v.0 in
    let there = ap (flat_map (λ x. x)) c.shift.ensures.onto ∙ ap (λ b. b ++ flat_map (λ x. x) (blocks s c.args.e)) c.block.ensures in (
      step.0 ∙ v.0,
      omega (arith, v.1, many),
      omega (arith, v.2, many),
      subst (Written c.args.text.now less) (sym there) (written_more c.args.text.now rest less c.in-Some.piece.now (flat_map (λ x. x) (blocks s c.args.e)) step.1.0 many step.1.2 v.3),
      (stays ∙ v.4.0, λ o l ne. c.shift.ensures.rest o (omega (arith, v.4.0)) (λ e. omega (arith, v.4.0)) ne ∙ v.4.1 o l ne),
    )
