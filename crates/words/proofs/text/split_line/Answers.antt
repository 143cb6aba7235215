use Rattle.std.proofs.Common.{◌≡◌, ◌<◌, length, rules}
use Rattle.words.specs.Cuts.{after_or_none}
use Rattle.words.proofs.Lining.{line_split}
use Rattle.words.proofs.text.split_line.Goals as goal

pub returns-clause-lines : goal.returns-clause-lines
returns-clause-lines c =
    let bs = c.args.text.now in
    let some : 0 < length bs = search rules in
    let rest : c.unwrap_or.result.now ≡ after_or_none 10 bs = search rules in
    rw (c.cut_at-cut.ensures.front, rest) (line_split bs some)
