-- What every call of an office keeps.
use Rattle.std.specs.Prelude.{◌≡◌, ℕ, true, length}
use Rattle.rules.specs.Office.{Office, entries}

-- an office of n entries is kept: its live table has n, and while a round is open its image too
abbrev pub Kept : ℕ → Office → Type 0
Kept n o = (entries o ≡ n) × (o.round ≡ true → length o.image ≡ entries o)
