-- What the faults of a line and of a load are shown as.
use Rattle.std.specs.Prelude.{ℕ, List, ◌++◌, codes, decimal}
use Rattle.tables.specs.Refusals.{number_of}
use Rattle.listing.specs.declared.line.LineFault as line
use Rattle.listing.specs.declared.load.LoadFault as load

-- why a line is passed over
abbrev pub line_fault_shown : line.LineFault → List ℕ
line_fault_shown line.TheVariants.Malformed = codes "it is not: edition, hand, text"
line_fault_shown (line.TheVariants.Refused f) = codes "refusal " ++ decimal (number_of f)

-- why a listing is not loaded
abbrev pub load_fault_shown : load.LoadFault → List ℕ
load_fault_shown load.TheVariants.Memory = codes "no memory"
load_fault_shown (load.TheVariants.Refused f) = codes "refusal " ++ decimal (number_of f)
