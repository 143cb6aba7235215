use Rattle.std.proofs.Common.{◌≡◌, length, ap, ◌∙◌, arith, length-drop}
use Rattle.std.proofs.lemmas.List.{nil_from_length}
use Rattle.pages.specs.Blocks.{blocks}
use Rattle.pages.proofs.Frames.{blocks_length}
use Rattle.pages.proofs.Rooms.{room}
use Rattle.pages.proofs.stock.Stock.give_back.Goals as goal

pub shift-requires : goal.shift-requires
shift-requires c =
    let s = c.loop-self.self in
    let n = c.loop-self.invariant.0 in
    let sized = blocks_length s.pages s.chains c.args.e in
    record {
      a_in = omega (arith, c.requires);
      b_in = omega arith;
      apart = λ e. omega (arith, c.requires);
      some = omega arith;
      room = λ h. absurd (omega arith);
    }

pub loop-self-smaller : goal.loop-self-smaller
loop-self-smaller c =
    let s = c.loop-self.self in
    let sized = blocks_length s.pages s.chains c.args.e in
    let fewer = ap length c.shift.ensures.from ∙ length-drop 1 (blocks s c.args.e) in
    omega arith

pub returns : goal.returns
returns c =
    let s = c.loop-self.self in
    let v = c.loop-self.invariant in
    let sized = blocks_length s.pages s.chains c.args.e in
    let none : length (blocks s c.args.e) ≡ 0 = omega arith in
    record {
      none = nil_from_length (blocks s c.args.e) none;
      room = room s c.args.e (omega (arith, v.0, c.requires)) none;
      others = v;
    }
