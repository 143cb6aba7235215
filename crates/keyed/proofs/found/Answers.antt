use Rattle.std.proofs.Common.{option_map, sym, ap, ◌∙◌}
use Rattle.keyed.proofs.Held.{held_at, held_nowhere, not_free}
use Rattle.keyed.proofs.found.Goals as goal

pub returns-in_err-i-clause-value : goal.returns-in_err-i-clause-value
returns-in_err-i-clause-value g c =
    ap (option_map (λ f. f.1.now)) c.from_residual.ensures ∙ sym (held_nowhere g.T.Numbered.number c.args.places.now c.args.k (sym c.in_err-i.ensures.is))

-- what stands under a number is not free
pub returns-in_err-value : goal.returns-in_err-value
returns-in_err-value g c =
    not_free g.T.Numbered.number c.args.places.now c.args.k c.in_ok-i.i _ (sym c.in_ok-i.ensures.is) (sym c.index-places-i.is ∙ sym c.in_err-value.ensures.value)

pub returns-clause-value : goal.returns-clause-value
returns-clause-value g c =
    c.in_ok-value.ensures.value ∙ c.index-places-i.is
    ∙ sym (held_at g.T.Numbered.number c.args.places.now c.args.k c.in_ok-i.i c.index-places-i.result (sym c.in_ok-i.ensures.is))
