use Rattle.std.proofs.Common.{◌≡◌, ◌<◌, refl, ◌∙◌, arith, rules}
use Rattle.std.proofs.lemmas.Result.{err_from_is_err_and}
use Rattle.imagefile.specs.Shown.{head_count}
use Rattle.tables.specs.declared.refusal.Refusal.TheVariants.{BadEnd}
use Rattle.imagefile.specs.Faults.{broken, kept}
use Rattle.imagefile.specs.declared.faults.FileFault.TheVariants.{Whole}
use Rattle.imagefile.proofs.Mapped.{mapped_ok, mapped_err}
use Rattle.imagefile.proofs.Broken.{of_row}
use Rattle.imagefile.proofs.Turns.{next_row, after_head, row_fault, all_rows}
use Rattle.imagefile.proofs.Verdicts.{accepted, refused}
use Rattle.imagefile.specs.Rules.{HeadRule}
use Rattle.imagefile.proofs.checks.check.Goals as goal
use Rattle.imagefile.proofs.checks.check.Goals.{In_ok-count}

-- a fault of the head
pub returns-in_err-count : goal.returns-in_err-count
returns-in_err-count c =
    let p = err_from_is_err_and c.from_residual.result c.from_residual.ensures.1 in
    let m = mapped_err (λ f x. x ≡ Whole f) c.check_head.result c.map_err.result c.in_err-count.field-0.0 c.in_err-count.was c.map_err.ensures.cases in
    let bad = rw m.1 at c.check_head.ensures in
    rw (p.1, p.2) (refused c.args.bytes.now c.in_err-count.field-0.0 (rw m.2 bad))

-- the head keeps its rules, and the count is the head's
head_kept : (c : In_ok-count) → (c.in_ok-count.count ≡ head_count c.args.bytes.now) × HeadRule c.args.bytes.now
head_kept c =
    let m = mapped_ok _ c.check_head.result c.map_err.result c.in_ok-count.count c.in_ok-count.was c.map_err.ensures.cases in
    rw m at c.check_head.ensures

-- a fault of a row, with those before it kept
pub returns-in_err-end : goal.returns-in_err-end
returns-in_err-end c =
    let p = err_from_is_err_and c.from_residual-in_err-end.result c.from_residual-in_err-end.ensures.1 in
    let bs = c.args.bytes.now in
    let head = head_kept (goal.at.returns-in_err-end c).In_ok-count in
    let m = mapped_err _ c.check_row.result c.map_err-in-loop-k.result c.in_err-end.field-0.0 c.in_err-end.was c.map_err-in-loop-k.ensures.cases in
    let bad = rw (m.1, c.row_of.ensures) at c.check_row.ensures in
    let is : c.in_err-end.field-0.0 ≡ of_row c.loop-k.k m.0 = search rules in
    let low : c.loop-k.k < head_count bs = omega arith in
    rw (p.1, p.2, is) (refused bs _ (row_fault bs c.loop-k.k c.loop-k.end m.0 head.1 low c.loop-k.invariant.1 c.loop-k.invariant.0 bad))

-- one more row keeps its rule
pub loop-k-preserved : goal.loop-k-preserved
loop-k-preserved c =
    let m = mapped_ok _ c.check_row.result c.map_err-in-loop-k.result c.in_ok-end.end c.in_ok-end.was c.map_err-in-loop-k.ensures.cases in
    let row = rw (m, c.row_of.ensures) at c.check_row.ensures in
    next_row c.args.bytes.now c.loop-k.k c.loop-k.end c.in_ok-end.end c.loop-k.invariant.0 c.loop-k.invariant.1 row.0 row.1

-- every rule but the last is kept
pub returns-then-end-bytes : goal.returns-then-end-bytes
returns-then-end-bytes c =
    let bs = c.args.bytes.now in
    let head = head_kept (goal.at.returns-then-end-bytes c).In_ok-count in
    let rows = all_rows bs c.loop-k.k c.loop-k.end (omega arith) c.loop-k.invariant.0 c.loop-k.invariant.1 in
    refused bs (Whole BadEnd) (after_head bs (Whole BadEnd) head.1 (kept rows.0 (broken (λ e. let f = rows.1 ∙ e in absurd (omega arith)) refl)))

-- every rule is kept
pub returns : goal.returns
returns c =
    let bs = c.args.bytes.now in
    let head = head_kept (goal.at.returns c).In_ok-count in
    let rows = all_rows bs c.loop-k.k c.loop-k.end (omega arith) c.loop-k.invariant.0 c.loop-k.invariant.1 in
    accepted bs (λ i. let f = c.type_inv.bytes i in omega arith) (head.1, rows.0, (let e = rows.1 in omega arith))
