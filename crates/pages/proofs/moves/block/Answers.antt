use Rattle.std.proofs.Common.{◌++◌, drop, replicate, ap, ◌∙◌, arith}
use Rattle.pages.proofs.Cuts.{padded}
use Rattle.pages.proofs.moves.block.Goals as goal

pub returns : goal.returns
returns c =
    ap (λ y. y ++ drop c.min-size.result (replicate 16 0)) c.copy_from_slice.ensures.after
    ∙ padded c.args.piece.now c.min-size.result (omega (arith, c.min-size.ensures))
