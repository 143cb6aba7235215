use Rattle.std.proofs.Common.{◌≡◌, ℕ, ◌*◌, ◌≤◌, ◌++◌, length, take}
use Rattle.std.specs.List.{flat_map}
use Rattle.pages.specs.Blocks.{blocks}
use Rattle.pages.specs.Chains.{chain, times}
use Rattle.pages.proofs.Readings.{left, bytes_of}
use Rattle.pages.proofs.stock.Stock.read.Given as goal

-- what is read and what is left are the chain, and what is left stands in it
abbrev pub invariant-loop-i : goal.invariant-loop-i
invariant-loop-i l =
    (length l.text ≡ 96)
    × (take (16 * l.i) l.text ++ bytes_of l.self (left l.self l.e l.i l.p) ≡ flat_map (λ x. x) (blocks l.self l.e))
    × ((q : ℕ) → times q (left l.self l.e l.i l.p) ≤ times q (chain l.self.pages l.self.chains l.e))
