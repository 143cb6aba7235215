use Rattle.std.proofs.Common.{◌≡◌, ◌+◌, ◌*◌, ◌++◌, length, drop, sym, ap, ◌∙◌, arith}
use borrow.Author.Tests.{both_ways}
use Rattle.std.specs.Iterator.Adapters.{enumerate_source, enumerate_count}
use Rattle.std.specs.Slice.Iter.{chunks_exact_rest}
use Rattle.std.proofs.lemmas.List.{drop-drop, drop-set-lt}
use Rattle.words.specs.Hex.{HexByte}
use Rattle.words.proofs.Hexing.{hex_digits, pair_fits, pair_rest, pair_byte, hex_more}
use Rattle.words.proofs.hex.hex_bytes.Goals as goal
use Rattle.words.proofs.hex.hex_bytes.Goals.{then-text-ne0-via-then-text-ne0, then-text-ne0-via-else-text-ne0+then-out-n, then-text-ne0-via-else-text-ne0+else-out-n+then-not-all_hex}

pub returns-then-text-ne0-clause-bytes : goal.returns-then-text-ne0-clause-bytes
returns-then-text-ne0-clause-bytes c =
    λ bs hex few.
    let l = hex.0 in
    elim c.then-text-ne0.branch [
      | then-text-ne0-via-then-text-ne0 w ↦ omega arith
      | then-text-ne0-via-else-text-ne0+then-out-n w ↦ omega arith
      | then-text-ne0-via-else-text-ne0+else-out-n+then-not-all_hex w ↦
          both_ways w.all_hex.result w.if-not-all_hex.true (w.all_hex.ensures.1 (hex_digits c.args.text.now bs hex))
    ]

pub loop-i-preserved : goal.loop-i-preserved
loop-i-preserved c =
    let text = c.args.text.now in
    let out = c.loop-i.out in
    let i = enumerate_count c.loop-i.i-iterator in
    let pair = c.in-Some.pair.now in
    let rest = chunks_exact_rest (enumerate_source c.next.new.self) in
    let steps = c.in-Some.ensures.steps in
    let place = steps.1 in
    let more = steps.2 in
    let inv = c.loop-i.invariant in
    let cut : drop (2 * i) text ≡ pair ++ rest = sym inv.1 ∙ steps.0.1.0 in
    let two : length pair ≡ 2 = steps.0.1.1 ∙ inv.0 in
    let fits = pair_fits text pair rest i cut two in
    let here : HexByte text i c.hex_byte.result = rw c.hex_byte.ensures (pair_byte text pair rest i cut two (c.all_hex.ensures.0 c.if-not-all_hex.false)) in (
      steps.0.0 ∙ inv.0,
      rw more (pair_rest text pair rest i cut two),
      omega (arith, more, fits),
      rw place (λ k h. hex_more text out i c.hex_byte.result (omega arith) inv.3 here k (omega (arith, more, h))),
      rw (more, place) (drop-set-lt (i + 1) out i c.hex_byte.result (omega arith) ∙ sym (drop-drop 1 i out) ∙ ap (drop 1) inv.4 ∙ drop-drop 1 i c.args.out.now),
    )
