-- Lists of places, some of them taken under a number: their keys.
use Rattle.std.specs.Prelude.{ℕ, ◌+◌, Bool, true, false, not, ◌&&◌, List, [], ◌∷◌, is_some, Option, nat_eq, nat_lt}
use Rattle.std.specs.Option.{option_flatten, option_map, option_map_or}
use Rattle.std.specs.List.{list_any, list_all}
use Rattle.std.specs.List.{find as find_by}
use Rattle.rules.specs.Numbers.{maybe, one_if}

-- ── finding ──

-- the key is s
abbrev pub is_key : Option ℕ → ℕ → Bool
is_key o s = maybe o false (λ k. nat_eq s k)

-- what is taken under the number s
abbrev pub find : {X : Type 0} → (X → Option ℕ) → List X → ℕ → Option X
find key xs s = find_by (λ x. is_key (key x) s) xs

-- how many are taken under a number that passes
abbrev pub count_taken : {X : Type 0} → (X → Option ℕ) → (ℕ → Bool) → List X → ℕ
count_taken key p [] = 0
count_taken key p (x ∷ xs) = maybe (key x) 0 (λ k. one_if (p k)) + count_taken key p xs

-- ── places that hold a value with a number ──

-- the number of the value, if one is there
abbrev pub key_of : {T : Type 0} → (T → ℕ) → Option T → Option ℕ
key_of number x = option_map number x

-- the value of the number s
abbrev pub held : {T : Type 0} → (T → ℕ) → List (Option T) → ℕ → Option T
held number xs s = option_flatten (find (key_of number) xs s)

-- a value that is there passes
abbrev pub any_held : {T : Type 0} → (T → Bool) → List (Option T) → Bool
any_held p xs = list_any (λ x. option_map_or p x false) xs

-- ── what an array of places keeps ──

-- nothing is taken under the key, if it is one
abbrev pub absent : {X : Type 0} → (X → Option ℕ) → Option ℕ → List X → Bool
absent key o xs = maybe o true (λ k. not (is_some (find key xs k)))

-- no number stands twice
abbrev pub distinct : {X : Type 0} → (X → Option ℕ) → List X → Bool
distinct key [] = true
distinct key (x ∷ xs) = absent key (key x) xs && distinct key xs

-- the key, if it is one, is below n
abbrev pub under : ℕ → Option ℕ → Bool
under n o = maybe o true (λ k. nat_lt k n)

-- each number is below n
abbrev pub all_under : {X : Type 0} → (X → Option ℕ) → ℕ → List X → Bool
all_under key n xs = list_all (λ x. under n (key x)) xs
