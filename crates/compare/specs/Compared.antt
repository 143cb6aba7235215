-- What a comparison says of two tables.
use Rattle.std.specs.Prelude.{◌≡◌, ℕ, ◌<◌, length, ◌≢◌}
use Rattle.tables.specs.Tables.{Table, entry}
use Rattle.compare.specs.declared.Comparison.{Comparison}
use Rattle.compare.specs.declared.Comparison.TheVariants.{Same, CountsDiffer, Entry}

-- the two tables are equal; or their lengths differ; or their lengths are equal, and e is the first entry that
-- differs
abbrev pub Compared : Table → Table → Comparison → Type 0
Compared t u Same = t ≡ u
Compared t u CountsDiffer = length t ≡ length u → ⊥
Compared t u (Entry e) =
    (length t ≡ length u) × (e < length t) × ((k : ℕ) → k < e → entry t k ≡ entry u k) × (entry t e ≢ entry u e)
