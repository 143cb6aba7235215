use Rattle.std.proofs.Common.{◌≡◌, ◌<◌, get_or, replicate, None, rules, sym, ◌∙◌, arith}
use Rattle.std.proofs.lemmas.List.{length-replicate, get_or-replicate, same_lists}
use Rattle.sessions.proofs.free.free_places.Goals as goal

pub returns : goal.returns
returns g c =
    let n = g.row.N in
    let long = c.from_fn.ensures.items.long in
    same_lists c.from_fn.result (replicate n None) (long ∙ sym (length-replicate n None))
    (λ i d h.
    let k : i < n = omega (arith, h, long) in
    let made = c.from_fn.ensures.items.at i d k in
    let e : get_or c.from_fn.result i d ≡ None = search rules in
    e ∙ sym (get_or-replicate n i None d k))
