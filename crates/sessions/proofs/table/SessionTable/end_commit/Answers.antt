use Rattle.std.proofs.Common.{rules, true, false, ◌≡◌, suc, cond, sym, refl, ap, ◌∙◌, add-one, arith}
use Rattle.keyed.specs.Keyed.{any_held}
use Rattle.sessions.specs.Sessions.{is_written}
use Rattle.sessions.proofs.CommitRules.{commit_done, hand_left, commit_kept}
use Rattle.sessions.proofs.Parts.{parts, kept, ghosts}
use Rattle.sessions.proofs.table.SessionTable.end_commit.Goals as goal

pub overflow_add-self : goal.overflow_add-self
overflow_add-self c =
    let t = c.args.self.now in
    let p = c.in_ok-i.ensures in
    omega (arith, hand_left (parts t) c.args.s c.in_ok-i.i p.0 (kept t) p.1)

pub invariant_of-self : goal.invariant_of-self
invariant_of-self c =
    let t = c.args.self.now in
    let p = c.in_ok-i.ensures in
    ghosts (commit_kept (parts t) c.args.s c.in_ok-i.i p.0 (kept t) p.1 (omega arith))

pub invariant_of-self-else-wrote : goal.invariant_of-self-else-wrote
invariant_of-self-else-wrote c =
    let t = c.args.self.now in
    let p = c.in_ok-i.ensures in
    ghosts (commit_kept (parts t) c.args.s c.in_ok-i.i p.0 (kept t) p.1 (omega arith))

pub returns-then-wrote : goal.returns-then-wrote
returns-then-wrote c =
    let t = c.args.self.now in
    let p = c.in_ok-i.ensures in
    let w : any_held is_written c.in_ok-i.session.now.holds ≡ true = search rules in (
      refl,
      λ live image n K.
          commit_done K t live image c.args.s c.in_ok-i.i c.in_ok-i.session.now n p.1 p.2 (add-one t.next_hand ∙ sym (ap (λ b. cond b (suc t.next_hand) t.next_hand) w)),
    )

pub returns-else-wrote : goal.returns-else-wrote
returns-else-wrote c =
    let t = c.args.self.now in
    let p = c.in_ok-i.ensures in
    let w : any_held is_written c.in_ok-i.session.now.holds ≡ false = search rules in (
      refl,
      λ live image n K.
          commit_done K t live image c.args.s c.in_ok-i.i c.in_ok-i.session.now n p.1 p.2 (sym (ap (λ b. cond b (suc t.next_hand) t.next_hand) w)),
    )
