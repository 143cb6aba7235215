-- Small words: a number that may be there, a function changed at one number, tests of the numbers below a bound.
use Rattle.std.specs.Prelude.{ℕ, zero, suc, ◌+◌, Bool, true, false, cond, ◌||◌, List, [], ◌∷◌, Some, None, Option, ◌==◌}
use Rattle.std.specs.Option.{option_or}

-- f of the number that is there, or else a
abbrev pub maybe {ℓ} : {A : Type ℓ} → Option ℕ → A → (ℕ → A) → A
maybe None a f = a
maybe (Some k) a f = f k

-- f, but v at k
abbrev pub changed : {A : Type 0} → (ℕ → A) → ℕ → A → ℕ → A
changed f k v j = cond (j == k) v (f j)

-- a number below n passes p
abbrev pub any_below : ℕ → (ℕ → Bool) → Bool
any_below zero p = false
any_below (suc n) p = p n || any_below n p

-- 1 for true, 0 for false
abbrev pub one_if : Bool → ℕ
one_if true = 1
one_if false = 0

-- how many numbers below n pass p
abbrev pub count_below : ℕ → (ℕ → Bool) → ℕ
count_below zero p = 0
count_below (suc n) p = one_if (p n) + count_below n p

-- the lowest number below n that passes p
abbrev pub lowest : ℕ → (ℕ → Bool) → Option ℕ
lowest zero p = None
lowest (suc n) p = option_or (lowest n p) (cond (p n) (Some n) None)

-- the first of a list whose test passes
abbrev pub first_of : {A : Type 0} → List (Bool × A) → Option A
first_of [] = None
first_of (d ∷ ds) = cond d.0 (Some d.1) (first_of ds)
