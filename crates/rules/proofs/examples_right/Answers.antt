-- Each example computes.
use Rattle.std.proofs.Common.{refl}
use Rattle.rules.specs.Examples.{Right, eight_holds, sixteen_sessions, reserve_beside, before_uncopied, before_copied, after_copied, after_uncopied, whole_round, dropped_round, session_refusals, round_refusals}
use Rattle.rules.proofs.examples_right.Goals as goal

eight : Right eight_holds
eight = (refl, refl, refl)

sixteen : Right sixteen_sessions
sixteen = (refl, refl, refl)

reserve : Right reserve_beside
reserve = (refl, refl, refl)

row_1 : Right before_uncopied
row_1 = (refl, refl, refl)

row_2 : Right before_copied
row_2 = (refl, refl, refl)

row_3 : Right after_copied
row_3 = (refl, refl, refl)

row_4 : Right after_uncopied
row_4 = (refl, refl, refl)

whole : Right whole_round
whole = (refl, refl, refl)

dropped : Right dropped_round
dropped = (refl, refl, refl)

of_session : Right session_refusals
of_session = (refl, refl, refl)

of_round : Right round_refusals
of_round = (refl, refl, refl)

pub returns : goal.returns
returns c = (eight, (sixteen, (reserve, (row_1, (row_2, (row_3, (row_4, (whole, (dropped, (of_session, (of_round, tt)))))))))))
