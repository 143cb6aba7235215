use Rattle.std.proofs.Common.{◌≡◌, ℕ, not, sym, ap, ◌∙◌, subst}
use Rattle.rules.specs.Office.{Office, work, Answer, counts, uncopied}
use Rattle.rules.specs.Rules.{after_work}
use Rattle.sessions.specs.View.{view}
use Rattle.sessions.proofs.Steps.{hit, pass, over, refusing, performing}
use Rattle.tables.specs.declared.refusal.Refusal.TheVariants.{NoRound}
use Rattle.backup.specs.Serving.{Kept}
use Rattle.backup.proofs.Counts.{work_kept}
use Rattle.backup.proofs.office.OfficeServes.work.Goals as goal

-- no round is open
pub returns-then-not-round_is_open : goal.returns-then-not-round_is_open
returns-then-not-round_is_open g c =
    let o = c.args.self.now in
    let live = g.L.Readable.table o.live in
    let image = g.I.Readable.table o.image in
    let shut = sym (c.round_is_open.ensures live image) ∙ c.if-not-round_is_open.true in
    refusing g.K.Modes.kind (view o.sessions live image) (work c.args.limit) NoRound (hit (ap not shut))

-- an office that is kept stays so, copy by copy
pub invariant_of-self : goal.invariant_of-self
invariant_of-self g c =
    let o = c.args.self.now in
    let n = o.sessions.entries in
    let s = view o.sessions (g.L.Readable.table o.live) (g.I.Readable.table o.image) in
    let t' = c.copy_next-made.new.sessions in
    let p = view t' (g.L.Readable.table o.live) (g.I.Readable.table c.copy_next-made.new.image) in
    let told = c.copy_next-made.ensures in
    record { kept = subst (λ m. Kept m p) (sym told.same) (subst (Kept n) (ap (λ r. r.1) told.work) (work_kept n c.args.limit s o.kept)) }

-- the copies are those of the rule
pub returns : goal.returns
returns g c =
    let o = c.args.self.now in
    let K = g.K.Modes.kind in
    let k = c.args.limit in
    let live = g.L.Readable.table o.live in
    let image = g.I.Readable.table o.image in
    let image' = g.I.Readable.table c.copy_next-made.new.image in
    let s = view o.sessions live image in
    let t' = c.copy_next-made.new.sessions in
    let going = sym (c.round_is_open.ensures live image) ∙ c.if-not-round_is_open.false in
    let worked = c.copy_next-made.ensures.work in
    let left = c.left.ensures live image' (o.kept.0 ∙ sym c.copy_next-made.ensures.same) in
    let n = c.copy_next-made.result in
    let l = c.left.result in
    let p = view t' live image' in
    let done : ◌≡◌ {A = Answer × Office} (counts n l, p) (counts (after_work k s).0 (uncopied (after_work k s).1), (after_work k s).1) =
    ap (λ m. (counts n m, p)) left ∙ ap (λ (r : ℕ × Office). (counts r.0 (uncopied r.1), r.1)) (sym worked) in
    performing K s (work k) (counts n l) p (pass (ap not going) over) done
