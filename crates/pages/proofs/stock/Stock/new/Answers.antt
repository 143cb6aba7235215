use Rattle.std.proofs.Common.{◌≡◌, ℕ, ◌<◌, length, ap, length-set, rules}
use Rattle.pages.specs.Chains.{no_page, page, fresh}
use Rattle.pages.proofs.Starts.{start_blocks, start_once, start_counted, start_small}
use Rattle.pages.proofs.stock.Stock.new.Goals as goal

pub invariant_of-result : goal.invariant_of-result
invariant_of-result c =
    let ps = c.from_fn.result in
    let n = c.args.n in
    let f : (p : ℕ) → p < 768 → page ps p ≡ fresh p = λ p l. let h = c.from_fn.ensures.items.at p no_page l in search rules in
    record {
      lengths = (c.from_fn.ensures.items.long, simp length-set, c.requires);
      whole = λ p l. ap (λ y. length y.bytes) (f p l);
      once = start_once ps n f c.requires;
      counted = start_counted ps n f c.requires;
      small = start_small ps n f c.requires;
    }

pub returns-clause-empty : goal.returns-clause-empty
returns-clause-empty c =
    let ps = c.from_fn.result in
    let f : (p : ℕ) → p < 768 → page ps p ≡ fresh p = λ p l. let h = c.from_fn.ensures.items.at p no_page l in search rules in
    start_blocks ps c.args.n f c.requires

pub returns-clause-zeros : goal.returns-clause-zeros
returns-clause-zeros c = (c.from_fn.ensures.items.long, λ p l. let h = c.from_fn.ensures.items.at p no_page l in search rules)
