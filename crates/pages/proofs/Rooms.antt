-- An entry whose pages went back leaves at least six pages free.
use Rattle.std.proofs.Common.{◌≡◌, ℕ, ◌<◌, ◌≤◌, length, arith}
use Rattle.pages.specs.declared.stock.Stock.{Stock}
use Rattle.pages.specs.Blocks.{blocks}
use Rattle.pages.specs.Chains.{size}
use Rattle.pages.proofs.Totals.{total_room}
use Rattle.pages.proofs.Frames.{blocks_length}

-- since no other has more than six
pub room : (s : Stock) (e : ℕ) → e < s.count → length (blocks s e) ≡ 0 → 6 ≤ length (blocks s s.count)
room s e within none =
    let bare : size s.chains e ≡ 0 = omega (arith, blocks_length s.pages s.chains e) in
    let most = total_room (size s.chains) e s.count within bare s.small in
    omega (arith, s.counted, blocks_length s.pages s.chains s.count)
