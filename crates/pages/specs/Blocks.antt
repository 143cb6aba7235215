-- What a stock holds.
use Rattle.std.specs.Prelude.{◌≡◌, ℕ, ◌+◌, ◌/◌, ◌<◌, List, length, take, ◌≢◌}
use Rattle.std.specs.List.{flat_map}
use Rattle.pages.specs.declared.stock.Stock.{Stock}
use Rattle.pages.specs.Chains.{blocks_in}

-- the blocks of chain o of a stock, in order
abbrev pub blocks : Stock → ℕ → List (List ℕ)
blocks s o = blocks_in s.pages s.chains o

-- from s to t, the entries but e keep their blocks, and there are as many
abbrev pub OthersKept : Stock → Stock → ℕ → Type 0
OthersKept s t e = (t.count ≡ s.count) × ((o : ℕ) → o < s.count → (o ≢ e) → blocks t o ≡ blocks s o)

-- from s to t, the text is put into as many pages of entry e as it needs
pub record TextPut (s t : Stock) (e : ℕ) (text : List ℕ) : Type 0 where
  pub pages : length (blocks t e) ≡ (length text + 15) / 16
  pub front : take (length text) (flat_map (λ x. x) (blocks t e)) ≡ text
  pub others : OthersKept s t e
