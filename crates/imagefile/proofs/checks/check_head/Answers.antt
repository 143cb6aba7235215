use Rattle.std.proofs.Common.{◌≡◌, Err, refl, rules}
use Rattle.tables.specs.declared.refusal.Refusal.TheVariants.{FileShort}
use Rattle.imagefile.specs.declared.faults.FileFault.TheVariants.{Whole}
use Rattle.imagefile.specs.Faults.{Faulty, broken, kept}
use Rattle.imagefile.proofs.checks.check_head.Goals as goal

-- the fourth rule of a file is broken, and those before it are kept
pub returns-then-bytes-count : goal.returns-then-bytes-count
unfolding Faulty
returns-then-bytes-count c = kept (search rules) (kept (search rules) (kept (search rules) (broken (search rules) refl)))

-- the third, and those before it are kept
pub returns-then-count-gt-GREATEST_COUNT : goal.returns-then-count-gt-GREATEST_COUNT
unfolding Faulty
returns-then-count-gt-GREATEST_COUNT c = kept (search rules) (kept (search rules) (broken (search rules) refl))

-- the second, and the first is kept
pub returns-then-version-ne-VERSION : goal.returns-then-version-ne-VERSION
unfolding Faulty
returns-then-version-ne-VERSION c = kept (search rules) (broken (search rules) refl)

-- the first
pub returns-in_err-version : goal.returns-in_err-version
unfolding Faulty
returns-in_err-version c =
    let short : Faulty c.args.bytes.now (Whole FileShort) = broken (search rules) refl in
    let same : c.from_residual.result ≡ Err FileShort = search rules in
    search (rules, short)
