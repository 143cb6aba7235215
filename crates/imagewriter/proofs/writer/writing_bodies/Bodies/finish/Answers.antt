use Rattle.std.proofs.Common.{◌≡◌, Ok, ap, ◌∙◌}
use Rattle.imagewriter.specs.declared.writer.TakesBodies.{TakesBodies}
use Rattle.imagewriter.specs.declared.writer.Writer.{Writer}
use Rattle.imagewriter.proofs.BodiesStand.{finish_stands}
use Rattle.imagewriter.proofs.writer.writing_bodies.Bodies.finish.Goals as goal

-- the file is whole, and its length is the place of the next body
pub returns-clause-meaning : goal.returns-clause-meaning
returns-clause-meaning c t buf stood every =
    let whole = finish_stands t c.args.self buf every stood in
    let done = c.complete.ensures.complete every in
    let same : c.in_ok-bodies.bodies ≡ c.args.self = cc (done, c.in_ok-bodies.was) in
    (ap (λ (w : Writer TakesBodies). Ok w.place) same ∙ ap Ok whole.0, whole.1)
