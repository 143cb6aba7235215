-- What the restore of a file answers and leaves.
use Rattle.std.specs.Prelude.{◌≡◌, ℕ, List, length, Ok, Err, Result, ◌≢◌}
use Rattle.tables.specs.Tables.{Table, Lawful}
use Rattle.tables.specs.declared.refusal.Refusal.TheVariants.{CountsDiffer}
use Rattle.imageformat.specs.Format.{written}
use Rattle.imagefile.specs.Shown.{Accepted}
use Rattle.imagefile.specs.Faults.{Faulty}
use Rattle.imagefile.specs.declared.faults.FileFault.{FileFault}
use Rattle.imagerestore.specs.declared.fault.RestoreFault.{RestoreFault}
use Rattle.imagerestore.specs.declared.fault.RestoreFault.TheVariants.{File, Table as OfTable}

-- a file is put into a store: t is the store's table before, t' after
abbrev pub Outcome : List ℕ → Table → Result (Unit {0}) RestoreFault → Table → Type 0
Outcome bs t r t' =
    ((s : Table) → Lawful s → bs ≡ written s → length s ≡ length t → (r ≡ Ok tt) × (t' ≡ s))
    × ((s : Table) → Lawful s → bs ≡ written s → (length s ≢ length t) → (r ≡ Err (OfTable CountsDiffer)) × (t' ≡ t))
    × ((Accepted bs → ⊥) → (f : FileFault) × Faulty bs f × (r ≡ Err (File f)) × (t' ≡ t))
