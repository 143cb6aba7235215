-- The words and the numbers of a line.
use Rattle.std.specs.Prelude.{ℕ, Bool, cond, List, [], ◌∷◌, length, Some, None, Option, nat_le}
use Rattle.std.specs.Str.{bytes_eq}
use Rattle.words.specs.Cuts.{before, after}
use Rattle.words.specs.Numbers.{number_of}

-- what comes of a value, where it is there
abbrev pub then : {A B : Type 0} → Option A → (A → Option B) → Option B
then None f = None
then (Some x) f = f x

-- a word is the one that is named
unfoldable pub is_word : List ℕ → List ℕ → Bool
is_word w name = bytes_eq w name

-- what stands beside a word in a list; none where the word is not there
abbrev pub beside : {A : Type 0} → List ℕ → List (List ℕ × Option A) → Option A
beside w [] = None
beside w (x ∷ xs) = cond (is_word w x.0) x.1 (beside w xs)

-- the number that a word of one to nine decimal digits writes; none of any other word
abbrev pub short_number : List ℕ → Option ℕ
short_number w = cond (nat_le (length w) 9) (number_of w) None

-- the number before the first space (32), and what stands after the space
abbrev pub field : List ℕ → Option (ℕ × List ℕ)
field bs = then (after 32 bs) (λ rest. then (short_number (before 32 bs)) (λ n. Some (n, rest)))
