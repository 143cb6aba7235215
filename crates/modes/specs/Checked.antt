-- The laws of a kind are shown by testing them at every three of its modes, which are few.
use Rattle.std.specs.Prelude.{◌≡◌, ℕ, zero, suc, ◌<◌, ◌≤◌, Bool, true, not, ◌&&◌, ◌||◌, List, [], ◌∷◌, nat_lt, slice_index_or, refl}
use Rattle.std.specs.Bool.{beq}
use Rattle.std.proofs.Common.{arith}
use Rattle.std.proofs.lemmas.Bool.{and_from, and_parts, ltb-true}
use Rattle.std.proofs.lemmas.Bool.Decides.{Decides-below_and}
use Rattle.modes.specs.Kind.{Kind, Laws}

-- whether a test passes at every code below n
abbrev each : ℕ → (ℕ → Bool) → Bool
each zero p = true
each (suc n) p = p n && each n p

-- it then passes at any of them
each_at : (n : ℕ) (p : ℕ → Bool) → each n p ≡ true → (a : ℕ) → a < n → p a ≡ true
each_at n p = (Decides-below_and p (λ a. p a ≡ true) (λ n. each n p) (λ a. (λ e. e, λ e. e)) refl (λ _. refl) n).0

-- whether every test of a list passes
abbrev all : List Bool → Bool
all [] = true
all (t ∷ ts) = t && all ts

-- the one at any place then does
all_at : (ts : List Bool) → all ts ≡ true → (i : ℕ) → slice_index_or ts i true ≡ true
all_at [] e i = refl
all_at (t ∷ ts) e zero = (and_parts t (all ts) e).0
all_at (t ∷ ts) e (suc i) = all_at ts (and_parts t (all ts) e).1 i

-- whether one answer implies another
abbrev implies : Bool → Bool → Bool
implies x y = not x || y

-- where it does, the second is true with the first
implied : (x y : Bool) → implies x y ≡ true → x ≡ true → y ≡ true
implied x y e h = grind arith

-- two answers that are tested as equal are equal
equal : (x y : Bool) → beq x y ≡ true → x ≡ y
equal x y e = grind arith

-- the laws of the modes a, b and c as tests
abbrev tests : Kind → ℕ → ℕ → ℕ → List Bool
tests K a b c =
    beq (K.conflict a b) (K.conflict b a)
    ∷ implies (K.writes a) (K.reads a)
    ∷ implies (K.writes a && K.reads b) (K.conflict a b)
    ∷ nat_lt (K.join a b) K.modes
    ∷ beq (K.conflict (K.join a b) c) (K.conflict a c || K.conflict b c)
    ∷ beq (K.reads (K.join a b)) (K.reads a || K.reads b)
    ∷ beq (K.writes (K.join a b)) (K.writes a || K.writes b)
    ∷ []

-- whether all tests pass at every three modes
abbrev pub passes : Kind → Bool
passes K = each K.modes (λ a. each K.modes (λ b. each K.modes (λ c. all (tests K a b c))))

-- a kind of at most 8 modes, of which w writes, that passes them has the laws
pub checked : (K : Kind) (w : ℕ) → K.modes ≤ 8 → w < K.modes → K.writes w ≡ true → passes K ≡ true → Laws K
checked K w few code writes e =
    record {
      few = (omega arith, few);
      both_sides = λ a b l m. equal _ _ (test 0 a b a l m l);
      writer_reads = λ a l. implied _ _ (test 1 a a a l l l);
      writer_conflicts = λ a b l m x y. implied _ _ (test 2 a b a l m l) (and_from _ _ x y);
      join_mode = λ a b l m. ltb-true _ _ (test 3 a b a l m l);
      join_conflict = λ a b c l m n. equal _ _ (test 4 a b c l m n);
      join_reads = λ a b l m. equal _ _ (test 5 a b a l m l);
      join_writes = λ a b l m. equal _ _ (test 6 a b a l m l);
      one_writes = (w, code, writes);
    }
  where
    -- the test at place i
    test : (i a b c : ℕ) → a < K.modes → b < K.modes → c < K.modes → slice_index_or (tests K a b c) i true ≡ true
    test i a b c l m n = all_at (tests K a b c) (each_at _ _ (each_at _ _ (each_at _ _ e a l) b m) c n) i
