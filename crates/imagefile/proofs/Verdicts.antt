-- What the check's two answers say of a file.
use Rattle.std.proofs.Common.{◌≡◌, ℕ, ◌<◌, List, get_or, sym}
use Rattle.imagefile.specs.Shown.{Accepted, shown}
use Rattle.imagefile.specs.Rules.{Passes}
use Rattle.imagefile.specs.Faults.{Faulty}
use Rattle.imagefile.specs.Laws.{shown_lawful}
use Rattle.imagefile.specs.declared.faults.FileFault.{FileFault}
use Rattle.imagefile.proofs.Broken.{file_broken, file_only}
use Rattle.imagefile.proofs.Written.{passes}
use Rattle.imagefile.proofs.Back.{written_back}

-- an accepted file keeps all rules
pub accepted_passes : (bs : List ℕ) → Accepted bs → Passes bs
accepted_passes bs a = passes a.0 a.1 bs a.2

-- bytes that keep all rules are an accepted file
pub accepted : (bs : List ℕ) → ((i : ℕ) → get_or bs i 0 < 256) → Passes bs → Accepted bs
accepted bs small p = (shown bs, shown_lawful bs p, sym (written_back bs p small))

-- a file with a fault has no other, and is not accepted
pub refused : (bs : List ℕ) (f : FileFault) → Faulty bs f → Faulty bs f × ((g : FileFault) → Faulty bs g → g ≡ f) × (Accepted bs → ⊥)
refused bs f bad = (bad, λ g other. file_only bs f g bad other, λ a. file_broken bs f bad (accepted_passes bs a))
