-- Bytes cut at the first separator.
use Rattle.std.specs.Prelude.{ℕ, cond, List, [], ◌∷◌, Some, None, Option, ◌==◌}
use Rattle.std.specs.Option.{unwrap_or}

-- the bytes before the first separator, or all where there is none
abbrev pub before : ℕ → List ℕ → List ℕ
before s [] = []
before s (b ∷ bs) = cond (b == s) [] (b ∷ before s bs)

-- the bytes after the first separator, where there is one
abbrev pub after : ℕ → List ℕ → Option (List ℕ)
after s [] = None
after s (b ∷ bs) = cond (b == s) (Some bs) (after s bs)

-- the bytes after the first separator, or none of them
abbrev pub after_or_none : ℕ → List ℕ → List ℕ
after_or_none s bs = unwrap_or (after s bs) []
