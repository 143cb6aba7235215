-- Every list of calls has a run.
use Rattle.std.proofs.Common.{◌≡◌, List, [], ◌∷◌, map, refl, ap}
use Rattle.tables.specs.Tables.{Table}
use Rattle.modes.specs.Kind.{Kind}
use Rattle.rules.specs.Office.{Office, new_office, Call}
use Rattle.rules.specs.Rules.{step}
use Rattle.rules.specs.History.{History, Run}
use Rattle.rules.specs.Round.{EveryListRuns}

-- the office after calls, newest first
abbrev pub office : Kind → Table → Table → List Call → Office
office K t i [] = new_office t i
office K t i (c ∷ cs) = (step K (office K t i cs) c).1

-- their history
abbrev pub history : Kind → Table → Table → List Call → History
history K t i [] = []
history K t i (c ∷ cs) =
    record { call = c; answer = (step K (office K t i cs) c).0; live = (office K t i (c ∷ cs)).live; image = (office K t i (c ∷ cs)).image }
    ∷ history K t i cs

pub its_run : (K : Kind) (t i : Table) (cs : List Call) → Run K t i (history K t i cs) (office K t i cs)
its_run K t i [] = refl
its_run K t i (c ∷ cs) = (office K t i cs, its_run K t i cs, refl, refl, refl)

its_calls : (K : Kind) (t i : Table) (cs : List Call) → map (λ m. m.call) (history K t i cs) ≡ cs
its_calls K t i [] = refl
its_calls K t i (c ∷ cs) = ap (λ r. c ∷ r) (its_calls K t i cs)

pub every_list_runs : EveryListRuns
every_list_runs K t i cs = (history K t i cs, office K t i cs, its_run K t i cs, its_calls K t i cs)
