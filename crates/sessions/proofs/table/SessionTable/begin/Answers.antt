use Rattle.std.proofs.Common.{◌≡◌, ◌<◌, Some, None, Err, rules, arith, length, refl, sym, ◌∙◌, subst}
use Rattle.tables.specs.declared.refusal.Refusal.TheVariants.{SessionsFull}
use Rattle.rules.specs.Office.{begin}
use Rattle.rules.specs.Rules.{Step}
use Rattle.keyed.proofs.Held.{free_places}
use Rattle.sessions.specs.Answers.{numbered}
use Rattle.sessions.specs.Sessions.{session_number}
use Rattle.sessions.proofs.Begins.{begin_full, begin_spent, begin_done, begin_kept}
use Rattle.sessions.proofs.Parts.{parts, seen, kept, ghosts}
use Rattle.sessions.proofs.table.SessionTable.begin.Goals as goal

pub returns-in_err-i : goal.returns-in_err-i
returns-in_err-i c =
    let t = c.args.self.now in
    let o : c.vacancy.result ≡ None = grind arith in
    let r : c.from_residual.result ≡ Err SessionsFull = search rules in (
      refl,
      λ live image h K.
          subst (λ r. Step K (seen (parts t) live image) begin (numbered r) (seen (parts t) live image)) (sym r)
          (begin_full K (parts t) live image (kept t) (sym (free_places session_number t.sessions) ∙ sym c.vacancy.ensures.is ∙ o)),
    )

pub returns-then-number-gt-LAST_NUMBER : goal.returns-then-number-gt-LAST_NUMBER
returns-then-number-gt-LAST_NUMBER c =
    let t = c.args.self.now in
    let o : c.vacancy.result ≡ Some c.in_ok-i.i = grind arith in (
      refl,
      λ live image h K. begin_spent K (parts t) live image c.in_ok-i.i (kept t) (sym (free_places session_number t.sessions) ∙ sym c.vacancy.ensures.is ∙ o) c.if-number-gt-LAST_NUMBER.true,
    )

pub invariant_of-self : goal.invariant_of-self
invariant_of-self c =
    let t = c.args.self.now in
    let o : c.vacancy.result ≡ Some c.in_ok-i.i = grind arith in
    let l : c.in_ok-i.i < length t.sessions = grind arith in
    ghosts (begin_kept (parts t) c.in_ok-i.i l c.if-number-gt-LAST_NUMBER.false (kept t) (sym (free_places session_number t.sessions) ∙ sym c.vacancy.ensures.is ∙ o) c.begun.ensures)

pub returns : goal.returns
returns c =
    let t = c.args.self.now in
    let o : c.vacancy.result ≡ Some c.in_ok-i.i = grind arith in (
      refl,
      λ live image h K.
          begin_done K (parts t) live image c.in_ok-i.i (kept t) (sym (free_places session_number t.sessions) ∙ sym c.vacancy.ensures.is ∙ o) c.if-number-gt-LAST_NUMBER.false c.begun.ensures,
    )
