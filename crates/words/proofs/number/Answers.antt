use Rattle.std.proofs.Common.{◌≡◌, ◌+◌, ◌*◌, ◌<◌, length, take, get_or, Some, sym, ap, ◌∙◌, subst, arith, rules}
use Rattle.std.specs.Char.{digit_value}
use Rattle.std.specs.Str.Parse.{digits_value}
use Rattle.std.proofs.lemmas.Int.Digits.{digits_more, digits_value_more}
use Rattle.std.proofs.lemmas.List.{take_all}
use Rattle.words.proofs.Reading.{room, number_some, number_none}
use Rattle.words.proofs.number.Goals as goal

pub returns-in_err-digit : goal.returns-in_err-digit
returns-in_err-digit c =
    let bs = c.args.word.now in
    let i = c.loop-b.b-index in
    let other : digit_value (get_or bs i 0) < 10 → ⊥ = subst (λ b. digit_value b < 10 → ⊥) c.from.ensures c.in_err-digit.ensures.value in
    c.from_residual.ensures ∙ number_none bs i (omega arith) (omega (arith, other))

pub overflow_mul-n : goal.overflow_mul-n
overflow_mul-n c = let r = room c.args.word.now c.loop-b.b-index c.loop-b.n (omega arith) (omega arith) c.loop-b.invariant.0 c.loop-b.invariant.1 in omega arith

pub overflow_add-n : goal.overflow_add-n
overflow_add-n c =
    let r = room c.args.word.now c.loop-b.b-index c.loop-b.n (omega arith) (omega arith) c.loop-b.invariant.0 c.loop-b.invariant.1 in
    let d = c.in_ok-digit.ensures.value in
    omega (arith, d.0, d.1, c.from-in-loop-b.ensures)

pub loop-b-preserved : goal.loop-b-preserved
loop-b-preserved c =
    let bs = c.args.word.now in
    let i = c.loop-b.b-index in
    let d = c.in_ok-digit.ensures.value in
    let v = c.loop-b.invariant.1 in
    let low : digit_value (get_or bs i 0) < 10 = subst (λ b. digit_value b < 10) c.from.ensures d.0 in
    let is : c.from-in-loop-b.result ≡ digit_value (get_or bs i 0) = c.from-in-loop-b.ensures ∙ d.1 ∙ ap digit_value c.from.ensures in (
      digits_more 10 bs i (omega arith) c.loop-b.invariant.0 low,
      ap (λ n. n * 10 + c.from-in-loop-b.result) v ∙ ap (λ n. digits_value 10 (take i bs) * 10 + n) is ∙ sym (digits_value_more 10 bs i (omega arith)),
    )

pub returns : goal.returns
returns c =
    let bs = c.args.word.now in
    let all = take_all c.loop-b.b-index bs (omega arith) in
    let some : 0 < length bs = search rules in
    ap Some (c.loop-b.invariant.1 ∙ ap (digits_value 10) all) ∙ number_some bs (rw all at c.loop-b.invariant.0) some (omega arith)
