use Rattle.std.proofs.Common.{[], unwrap_or, sym, ap, ◌∙◌, arith}
use Rattle.sessions.specs.Commits.{put_holds}
use Rattle.backup.proofs.commits.put_session.Goals as goal

-- the session table keeps its texts and its hands within their bounds
pub put_holds-requires : goal.put_holds-requires
put_holds-requires g c =
    let holds = c.in-Some.ensures in
    let hand = c.next_hand.ensures [] [] in
    omega (arith, hand, holds.2)

-- the holds are those of the session
pub returns-in-Some : goal.returns-in-Some
returns-in-Some g c =
    let t = g.S.Readable.table c.args.to.now in
    let hand = c.args.sessions.now.next_hand in
    c.put_holds.ensures
    ∙ ap (λ k. put_holds k c.in-Some.holds.now t) (c.next_hand.ensures [] [])
    ∙ ap (λ o. put_holds hand (unwrap_or o []) t) (sym c.in-Some.ensures.0)
