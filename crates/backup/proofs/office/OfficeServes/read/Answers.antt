use Rattle.std.proofs.Common.{◌≡◌, ℕ, ◌<◌, List, length, drop, Option, unwrap_or, subst, arith}
use Rattle.tables.specs.Tables.{entry}
use Rattle.rules.specs.Office.{read, Answer}
use Rattle.rules.specs.Rules.{Step}
use Rattle.sessions.specs.Answers.{own_found}
use Rattle.sessions.specs.View.{view}
use Rattle.backup.specs.Answers.{RestKept}
use Rattle.backup.proofs.Reading.{front_read, text_rest}
use Rattle.backup.proofs.office.OfficeServes.read.Goals as goal

-- the session wrote nothing there, and the live store is asked
pub returns-in-None : goal.returns-in-None
returns-in-None g c =
    let o = c.args.self.now in
    let K = g.K.Modes.kind in
    let e = c.args.entry in
    let live = g.L.Readable.table o.live in
    let image = g.I.Readable.table o.image in
    let told = c.in_ok-n.ensures in
    let buf = c.args.buf.now in
    let asked = c.own_text.new.buf in
    let buf' = c.text.new.buf in
    let r = c.text.result in
    let P : Answer → Type 0 = λ a. Step K (view o.sessions live image) (read c.args.session e (length buf)) a (view o.sessions live image) in
    let Q : Option ℕ → Type 0 = λ x. P (own_found x asked (entry live e).text) in
    let S : Option ℕ → Type 0 = λ x. drop (unwrap_or x 0) asked ≡ drop (unwrap_or x 0) buf in
    let R : List ℕ → Type 0 = λ b. RestKept r b buf' in
    let same : asked ≡ buf = subst S c.in-None.is told.rest in
    record {
      rule =
          let within : e < length live = (let w = told.within in let n = o.kept.0 in omega (arith, w, n)) in
          subst P (front_read (entry live e).text asked buf' r (c.text.ensures.0 within)) (subst Q c.in-None.is (told.rule live image o.kept.0));
      rest = subst R same (text_rest live e asked buf' r c.text.ensures);
    }
