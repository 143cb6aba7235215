use Rattle.std.proofs.Common.{ltb, [], ◌∷◌, None, refl}
use Rattle.std.proofs.lemmas.Bool.{le-ltb}
use Rattle.tables.specs.declared.refusal.Refusal.TheVariants.{NumbersSpent, CountHigh}
use Rattle.sessions.proofs.Begins.{seen_new}
use Rattle.sessions.proofs.Steps.{first_falls, pass, over}
use Rattle.sessions.proofs.table.SessionTable.new.Goals as goal

pub returns : goal.returns
returns c =
    let first = c.args.first in
    let entries = c.args.entries in (
      first_falls ((ltb 4_000_000_001 first, NumbersSpent) ∷ (ltb 128 entries, CountHigh) ∷ []) None
          (pass (le-ltb 4_000_000_001 first c.if-first.false) (pass (le-ltb 128 entries c.if-entries-gt-MOST_ENTRIES.false) over)),
      refl,
      seen_new c.free_places.ensures first,
    )
