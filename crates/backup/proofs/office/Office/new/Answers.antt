use Rattle.std.proofs.Common.{suc, sym, ap, ◌∙◌, add-one}
use Rattle.std.proofs.lemmas.Bool.{false≢true}
use Rattle.sessions.specs.View.{empty_office}
use Rattle.backup.proofs.office.Office.new.Goals as goal

-- the live store has the count that the session table was made for, and no round is open
pub invariant_of-result : goal.invariant_of-result
invariant_of-result g c =
    let made = rw c.unwrap-sessions.ensures at c.new.ensures in
    record { kept = (sym (made.1 ∙ c.count.ensures), λ r. absurd (false≢true (sym (ap (λ o. o.round) (made.2 (g.L.Readable.table c.args.live) (g.I.Readable.table c.args.image))) ∙ r))) }

-- the first numbers are one above the greatest hand
pub returns : goal.returns
returns g c =
    let live = g.L.Readable.table c.args.live in
    let image = g.I.Readable.table c.args.image in
    let made = rw c.unwrap-sessions.ensures at c.new.ensures in
    made.2 live image ∙ ap (λ k. empty_office k live image) (add-one _ ∙ ap suc c.highest_hand-first.ensures.greatest)
