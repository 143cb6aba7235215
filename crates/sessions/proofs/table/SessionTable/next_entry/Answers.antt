use Rattle.std.proofs.Common.{◌≡◌, true, false, rules}
use Rattle.std.proofs.lemmas.Iterator.{first_from_Range}
use borrow.Author.Tests.{tests}
use Rattle.sessions.specs.View.{copyable}
use Rattle.sessions.proofs.RoundRules.{lowest_first}
use Rattle.sessions.proofs.table.SessionTable.next_entry.Goals as goal

pub returns-clause-is : goal.returns-clause-is
returns-clause-is c =
    lowest_first _ _ _
    (first_from_Range _ _ _ _ (λ e. copyable c.args.self.now e ≡ true) (λ e. copyable c.args.self.now e ≡ false) c.find.ensures.ran
    (λ x q k. search (rules, tests)) (λ x q k. search (rules, tests)))
