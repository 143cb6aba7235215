use Rattle.std.proofs.Common.{◌≡◌, sym, ap, ◌∙◌, rules}
use Rattle.std.specs.Option.{option_map}
use Rattle.std.specs.Str.{IsUtf8}
use Rattle.words.specs.Cuts.{before}
use Rattle.script.specs.Commands.{meant, alone, said_with}
use Rattle.script.proofs.Naming.{no_command}
use Rattle.script.proofs.command.parse_command.Goals as goal

-- the first word is no text
pub returns-in_err-word : goal.returns-in_err-word
returns-in_err-word c room =
    let w = c.cut_at-cut.result.front.now in
    let not_text : IsUtf8 w → ⊥ = search rules in
    ap (option_map (meant room)) c.from_residual.ensures ∙ no_command room w c.args.line.now c.cut_at-cut.ensures.front not_text

-- a line without a space is a word that stands alone
pub returns-in-None : goal.returns-in-None
returns-in-None c room =
    let line = c.args.line.now in
    let word : c.in_ok-word.word.now ≡ before 32 line = search rules in
    let no_space = sym c.cut_at-cut.ensures.rest ∙ ap (option_map (λ x. x.now)) c.in-None.is in
    c.parse_alone.ensures room ∙ ap alone word ∙ sym (ap (said_with room (before 32 line)) no_space)
