use Rattle.std.proofs.Common.{length, refl, ap, ◌∙◌, rules}
use Rattle.imagewriter.specs.Answers.{BodyFits}
use Rattle.imagewriter.proofs.BodiesStand.{named, own_fits, body_stands}
use Rattle.imagewriter.proofs.writer.writing_bodies.Bodies.body.Goals as goal

-- a text that does not fit its row is not as long as its entry's
pub returns-then-text-gt-LONGEST_TEXT-clause-meaning : goal.returns-then-text-gt-LONGEST_TEXT-clause-meaning
returns-then-text-gt-LONGEST_TEXT-clause-meaning c t stood _ more =
    let w = c.args.self.now in
    let buf = c.args.buf.now in
    let text = c.args.text.now in
    let unfit : BodyFits w.standing buf text → ⊥ = search rules in
    (λ _. refl, λ same. absurd (unfit (own_fits t w buf text more stood same)), λ own. absurd (unfit (own_fits t w buf text more stood (ap length own))))

-- one that fits is, and the next entry's text stands then
pub returns-clause-meaning : goal.returns-clause-meaning
returns-clause-meaning c t stood roomy more =
    let w = c.args.self.now in
    let buf = c.args.buf.now in
    let text = c.args.text.now in
    let fits : BodyFits w.standing buf text = search rules in
    (λ other. absurd (other (fits.1 ∙ named t w buf more stood)), λ _. refl, λ own. body_stands t text w c.count_one.new.self buf c.put_bytes.new.buf own c.put_bytes.ensures c.count_one.ensures roomy more stood)
