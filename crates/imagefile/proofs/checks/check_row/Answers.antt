use Rattle.std.proofs.Common.{refl, rules}
use Rattle.std.proofs.lemmas.Result.{err_from_is_err_and}
use Rattle.imagefile.specs.Faults.{broken, kept}
use Rattle.imagefile.proofs.checks.check_row.Goals as goal

-- the place is another, and stamp and length keep their rules
pub returns-then-row-place : goal.returns-then-row-place
returns-then-row-place c = kept (search rules) (kept (search rules) (broken (search rules) refl))

-- the length is above 96, and the stamp is lawful
pub returns-then-length-gt-GREATEST_LENGTH : goal.returns-then-length-gt-GREATEST_LENGTH
returns-then-length-gt-GREATEST_LENGTH c = kept (search rules) (broken (search rules) refl)

-- the stamp is not lawful
pub returns-in_err-new : goal.returns-in_err-new
returns-in_err-new c =
    let p = err_from_is_err_and c.from_residual.result c.from_residual.ensures.1 in
    let stamp = c.in_err-new.ensures in
    rw (p.1, p.2) (broken stamp.1 stamp.0)
