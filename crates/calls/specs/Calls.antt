-- The calls and answers that values stand for.
use Rattle.std.specs.Prelude.{List, ℕ, take, Ok, Err, Result}
use Rattle.tables.specs.declared.refusal.Refusal.{Refusal}
use Rattle.rules.specs.Office as office
use Rattle.calls.specs.declared.Call.{Call}
use Rattle.calls.specs.declared.Call.TheVariants.{Begin, Claim, Read, Write, Commit, Leave, Open, Copy, Work, Drop}
use Rattle.calls.specs.declared.Answer.{Answer}
use Rattle.calls.specs.declared.Answer.TheVariants.{Done, Number, Found, Counts}

-- the call that is asked for, where the caller's buffer has so many bytes
abbrev pub asked : Call → ℕ → office.Call
asked Begin room = office.begin
asked (Claim s e m) room = office.claim s e m
asked (Read s e) room = office.read s e room
asked (Write s e text) room = office.write s e text.now
asked (Commit s) room = office.commit s
asked (Leave s) room = office.leave s
asked Open room = office.open_round
asked (Copy e) room = office.copy e
asked (Work k) room = office.work k
asked Drop room = office.drop_round

-- the answer that is given, where the caller's buffer holds these bytes
abbrev pub answered : Result Answer Refusal → List ℕ → office.Answer
answered (Err f) buf = office.refused f
answered (Ok Done) buf = office.done
answered (Ok (Number n)) buf = office.number n
answered (Ok (Found n)) buf = office.found (take n buf)
answered (Ok (Counts a b)) buf = office.counts a b
