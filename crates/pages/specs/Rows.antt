-- The rows of a store: what an entry has beside its pages.
use Rattle.std.specs.Prelude.{◌≡◌, ℕ, ◌+◌, ◌/◌, ◌<◌, ◌≤◌, List, slice_index_or}
use Rattle.std.proofs.Common.{lit≤}
use Rattle.pages.specs.declared.page.Chain.{Chain}
use Rattle.pages.specs.declared.store.Row.{Row}
use Rattle.pages.specs.Chains.{size}

-- what stands past the last row
abbrev pub no_row : Row
no_row = record { len = 0; stamp = record { edition = 0; hand = 0; lawful = (lit≤ tt, lit≤ tt) } }

-- the row of an entry
abbrev pub row : List Row → ℕ → Row
row rs e = slice_index_or rs e no_row

-- a text has at most 96 bytes, and its chain as many pages as it needs
abbrev pub Fits : List Chain → ℕ → List Row → Type 0
Fits cs n rs = (e : ℕ) → e < n → ((row rs e).len ≤ 96) × (size cs e ≡ ((row rs e).len + 15) / 16)
