use Rattle.std.proofs.Common.{◌≡◌, ◌≤◌, not, length, get_or, take, sym, ap, ◌∙◌, false, arith, rules}
use Rattle.std.specs.Prelude.{count_by}
use Rattle.std.proofs.iter.runs.Made.{chains}
use Rattle.rules.specs.Numbers.{count_below}
use Rattle.sessions.proofs.RoundRules.{count_front}
use Rattle.sessions.proofs.table.SessionTable.left.Goals as goal

pub returns : goal.returns
returns c live image n =
    let t = c.args.self.now in
    let e : c.count.result ≡ count_by not (take t.entries t.copied) = search (rules, chains) in
    let h : t.entries ≤ length t.copied = omega (arith, t.few, t.marks) in
    e ∙ count_front t.copied t.entries h ∙ ap (λ m. count_below m (λ e. not (get_or t.copied e false))) (sym n)
