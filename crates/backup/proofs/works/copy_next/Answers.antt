use Rattle.std.proofs.Common.{◌≡◌, ◌+◌, sym, ap, ◌∙◌, subst, arith}
use Rattle.rules.specs.Rules.{after_copy}
use Rattle.sessions.specs.View.{view}
use Rattle.backup.proofs.Accepted.{next_within, image_set}
use Rattle.backup.proofs.CopyByCopy.{Going, going_more, going_stop, going_full}
use Rattle.backup.proofs.works.copy_next.Goals as goal

-- nothing is next
pub returns-in_default : goal.returns-in_default
returns-in_default g c =
    let live = g.L.Readable.table c.args.live.now in
    let image = g.I.Readable.table c.loop-made.image in
    let inv = c.loop-made.invariant in
    let told = c.in_default.ensures in
    let m = c.requires ∙ sym inv.0 in
    let o = view c.args.sessions.now live (g.I.Readable.table c.args.image.now) in
    let stop = going_stop c.args.limit c.loop-made.made o (view c.loop-made.sessions live image) inv.1 (sym (told.next live image m)) in
    record { work = stop ∙ ap (λ p. (c.loop-made.made, p)) (sym (told.mark.1 live image m)); same = told.mark.0 ∙ inv.0 }

-- one copy more
pub loop-made-preserved : goal.loop-made-preserved
loop-made-preserved g c =
    let live = g.L.Readable.table c.args.live.now in
    let image = g.I.Readable.table c.loop-made.image in
    let image' = g.I.Readable.table c.copy_entry.new.to in
    let inv = c.loop-made.invariant in
    let told = c.in-Some.ensures in
    let e = c.in-Some.e in
    let m = c.requires ∙ sym inv.0 in
    let o = view c.args.sessions.now live (g.I.Readable.table c.args.image.now) in
    let p = view c.loop-made.sessions live image in
    let next = sym (told.next live image m) in
    let copied : after_copy p e ≡ view c.mark_next.new.self live image' =
    sym (told.mark.1 live image m) ∙ ap (view c.mark_next.new.self live) (sym (image_set live image image' e c.copy_entry.result (next_within p e next) c.copy_entry.ensures)) in (
      told.mark.0 ∙ inv.0,
      subst (Going c.args.limit (c.loop-made.made + 1) o) copied (going_more c.args.limit c.loop-made.made o p e c.loop-made-test.true inv.1 next),
    )

-- the limit is reached
pub returns : goal.returns
returns g c =
    let live = g.L.Readable.table c.args.live.now in
    let inv = c.loop-made.invariant in
    let o = view c.args.sessions.now live (g.I.Readable.table c.args.image.now) in
    let p = view c.loop-made.sessions live (g.I.Readable.table c.loop-made.image) in
    let all : c.loop-made.made ≡ c.args.limit = (let w = inv.1.within in omega arith) in
    record { work = going_full c.args.limit o p (subst (λ k. Going c.args.limit k o p) all inv.1); same = inv.0 }
