use Rattle.std.proofs.Common.{◌≡◌, ◌+◌, drop, Some, None, rules, ap, ◌∙◌, add-one, arith}
use borrow.Author.Tests.{tests}
use Rattle.std.proofs.lemmas.Iterator.{YieldsList-from_slice, IsFirst-from_position}
use Rattle.std.proofs.lemmas.List.{take_rest}
use Rattle.words.proofs.Cutting.{cut_found, cut_none}
use Rattle.words.proofs.cut_at.Goals as goal

pub returns-in-Some : goal.returns-in-Some
returns-in-Some c =
    let s = c.args.separator in
    let bs = c.args.bytes.now in
    let i = c.in-Some.i in
    let first = IsFirst-from_position _ _ (Some i) (λ b. b ≡ s) (λ b. b ≡ s → ⊥) c.in-Some.ensures.ran (YieldsList-from_slice bs cc) (λ x q k. search (rules, tests)) (λ x q k. search (rules, tests)) in
    let cut = cut_found s bs i first.0 (first.1 0) (λ k h. first.2 k 0 (omega arith) h) in
    record { front = cut.0; rest = ap Some (take_rest bs (i + 1) ∙ ap (λ n. drop n bs) (add-one i)) ∙ cut.1 }

pub returns-in-None : goal.returns-in-None
returns-in-None c =
    let s = c.args.separator in
    let bs = c.args.bytes.now in
    let all = IsFirst-from_position _ _ None (λ b. b ≡ s) (λ b. b ≡ s → ⊥) c.in-None.ensures.ran (YieldsList-from_slice bs cc) (λ x q k. search (rules, tests)) (λ x q k. search (rules, tests)) in
    let cut = cut_none s bs (λ k h. all k 0 (omega arith) h) in
    record { front = cut.0; rest = cut.1 }
