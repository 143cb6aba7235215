use Rattle.std.proofs.Common.{◌≡◌, ◌-◌, ◌≤◌, length, take, drop, arith, rules, length-drop}
use Rattle.std.proofs.lemmas.List.{length-take-le}
use Rattle.input.proofs.Gone.{gone_more}
use Rattle.input.proofs.read_input.Goals as goal

-- the bytes that came are gone
pub loop-input-preserved : goal.loop-input-preserved
loop-input-preserved g c =
    let v = c.loop-input.invariant in
    let told = c.in_ok-n.ensures in
    let n = c.in_ok-n.n in
    let buf = c.read.new.buf in
    let bound : n ≤ length buf = search rules in
    let came : length (take n buf) ≡ n = length-take-le n buf bound in
    let rest : length (take (length buf - n) (drop n buf)) ≡ length buf - n = length-take-le (length buf - n) (drop n buf) (omega (arith, length-drop n buf)) in
    let same : length buf ≡ length c.loop-input.room.now = search rules in (
      omega (arith, v.0),
      gone_more _ _ _ (take n buf) _ _ v.1 told.bytes.0 (omega (arith, v.0, bound)),
    )
