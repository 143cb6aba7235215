-- What the first line of a script says.
use Rattle.std.specs.Prelude.{ℕ, cond, List, [], ◌∷◌, Some, None, codes, Option, nat_le}
use Rattle.words.specs.Cuts.{before, after}
use Rattle.script.specs.Fields.{then, beside, short_number}
use Rattle.script.specs.declared.opening.KindName.{KindName}
use Rattle.script.specs.declared.opening.KindName.TheVariants.{Plain, Draft}
use Rattle.script.specs.declared.opening.Opening.{Opening}

-- the kinds, each beside its word
abbrev pub kinds : List (List ℕ × Option KindName)
kinds = (codes "plain", Some Plain) ∷ (codes "draft", Some Draft) ∷ []

-- the kind that a word names
abbrev pub kind_of : List ℕ → Option KindName
kind_of w = beside w kinds

-- an opening has at most 128 entries
abbrev pub opening : KindName → ℕ → Option Opening
opening k n = cond (nat_le n 128) (Some (record { kind = k; entries = n })) None

-- what the first line says: a kind, a space (32) and a number; none where it is malformed
abbrev pub opening_of : List ℕ → Option Opening
opening_of line =
    then (after 32 line) (λ rest. then (kind_of (before 32 line)) (λ k. then (short_number rest) (λ n. opening k n)))
