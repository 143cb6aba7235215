use Rattle.std.proofs.Common.{◌≡◌, ℕ, ◌*◌, ◌<◌, ◌≤◌, length, get_or, drop}
use Rattle.std.specs.Iterator.Adapters.{enumerate_source, enumerate_count}
use Rattle.std.specs.Slice.Iter.{chunks_exact_rest, chunks_exact_size}
use Rattle.words.specs.Hex.{HexByte}
use Rattle.words.proofs.hex.hex_bytes.Given as goal

abbrev pub invariant-loop-i : goal.invariant-loop-i
invariant-loop-i l =
    (chunks_exact_size (enumerate_source l.i-iterator) ≡ 2)
    × (chunks_exact_rest (enumerate_source l.i-iterator) ≡ drop (2 * enumerate_count l.i-iterator) l.text)
    × (2 * enumerate_count l.i-iterator ≤ length l.text)
    × ((k : ℕ) → k < enumerate_count l.i-iterator → HexByte l.text k (get_or l.out k 0))
    × (drop (enumerate_count l.i-iterator) l.out ≡ drop (enumerate_count l.i-iterator) l.initial.out)
