-- What the faults of a restore tell.
use Rattle.std.specs.Prelude.{ℕ, None, Option}
use Rattle.tables.specs.declared.refusal.Refusal.{Refusal}
use Rattle.imagefile.specs.Faults.{fault_row as file_row, fault_refusal as file_refusal}
use Rattle.imagerestore.specs.declared.fault.RestoreFault.{RestoreFault}
use Rattle.imagerestore.specs.declared.fault.RestoreFault.TheVariants.{File, Table}

-- the row that a fault is in, if it is in one
abbrev pub fault_row : RestoreFault → Option ℕ
fault_row (File f) = file_row f
fault_row (Table f) = None

-- the refusal that a fault gives
abbrev pub fault_refusal : RestoreFault → Refusal
fault_refusal (File f) = file_refusal f
fault_refusal (Table f) = f
