use Rattle.std.proofs.Common.{◌<◌, ◌≤◌, rules}
use borrow.Author.Tests.{tests}
use Rattle.std.specs.Char.{digit_value}
use Rattle.std.proofs.lemmas.Iterator.{YieldsList-from_slice, cases_from_all}
use Rattle.words.proofs.Hexing.{decides_hex}
use Rattle.words.proofs.hex.all_hex.Goals as goal

pub returns : goal.returns
returns c =
    decides_hex c.args.text.now c.all.result
    (cases_from_all _ _ _ (λ b. digit_value b < 16) (λ b. 16 ≤ digit_value b) c.all.ensures.ran (YieldsList-from_slice c.args.text.now cc) (λ x q k. search (rules, tests)) (λ x q k. search (rules, tests)))
