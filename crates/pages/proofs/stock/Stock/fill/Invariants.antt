use Rattle.std.proofs.Common.{◌≡◌, ◌+◌, ◌/◌, ◌≤◌, length}
use Rattle.std.specs.List.{flat_map}
use Rattle.std.specs.Iterator.Adapters.{rev_source}
use Rattle.std.specs.Slice.Iter.{chunks_rest, chunks_size}
use Rattle.pages.specs.Blocks.{blocks, OthersKept}
use Rattle.pages.proofs.Pieces.{Written}
use Rattle.pages.proofs.stock.Stock.fill.Given as goal

-- the pieces that were given stand at the front of the chain, and a page is free for each of the others
abbrev pub invariant-loop-piece : goal.invariant-loop-piece
invariant-loop-piece l =
    let rest = chunks_rest (rev_source l.piece-iterator) in
    (chunks_size (rev_source l.piece-iterator) ≡ 16)
    × (length (blocks l.self l.e) + (length rest + 15) / 16 ≡ (length l.text + 15) / 16)
    × ((length rest + 15) / 16 ≤ length (blocks l.self l.self.count))
    × Written l.text rest (flat_map (λ x. x) (blocks l.self l.e))
    × OthersKept l.initial.self l.self l.e
