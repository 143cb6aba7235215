use Rattle.std.proofs.Common.{◌∙◌, rules}
use Rattle.std.specs.Str.{IsUtf8}
use Rattle.script.proofs.Naming.{no_opening}
use Rattle.script.proofs.opening.parse_opening.Goals as goal

-- the first word is no text
pub returns-in_err-word : goal.returns-in_err-word
returns-in_err-word c =
    let w = c.cut_at-cut.result.front.now in
    let not_text : IsUtf8 w → ⊥ = search rules in
    c.from_residual-in_err-word.ensures ∙ no_opening w c.args.line.now c.cut_at-cut.ensures.front not_text
