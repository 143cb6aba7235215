-- What is read of an input whose bytes are known.
use Rattle.std.specs.Prelude.{◌≡◌, ℕ, min, List, length, drop, Some, None, Option}

-- all its bytes are read, or as many as there is room for, and the others are left; nothing is said of unknown bytes
abbrev pub ReadsWhole : Option (List ℕ) → Option (List ℕ) → ℕ → ℕ → Type 0
ReadsWhole None left room n = Unit {0}
ReadsWhole (Some xs) left room n = (n ≡ min (length xs) room) × (left ≡ Some (drop n xs))
