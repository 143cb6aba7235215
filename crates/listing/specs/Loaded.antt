-- What loading a listing answers.
use Rattle.std.specs.Prelude.{◌≡◌, ℕ, ◌<◌, List, length, Ok, Err, vec_items, Result}
use Rattle.tables.specs.declared.refusal.Refusal.TheVariants.{CountHigh}
use Rattle.pages.specs.Entries.{table_of}
use Rattle.listing.specs.Listing.{listed}
use Rattle.listing.specs.Faults.{bad_lines}
use Rattle.listing.specs.declared.load.Catalogue.{Catalogue}
use Rattle.listing.specs.declared.load.LoadFault.{LoadFault}
use Rattle.listing.specs.declared.load.LoadFault.TheVariants.{Memory, Refused}

-- the store has the entries of the good lines, and the others are told; or there are more than 128 entries
abbrev pub Loaded : List (List ℕ) → Result Catalogue LoadFault → Type 0
Loaded ls (Ok c) = (table_of c.store ≡ listed ls) × (vec_items c.bad ≡ bad_lines 1 ls)
Loaded ls (Err Memory) = Unit {0}
Loaded ls (Err (Refused f)) = (f ≡ CountHigh) × (128 < length (listed ls))
