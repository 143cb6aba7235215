-- How long the parts of a file are.
use Rattle.std.proofs.Common.{◌≡◌, ℕ, ◌+◌, ◌*◌, [], ◌∷◌, length, refl, arith}
use Rattle.std.proofs.lemmas.List.{length-append}
use Rattle.tables.specs.Tables.{Table}
use Rattle.imageformat.specs.Format.{rows, bodies, written}

-- a row has fourteen bytes
pub length_rows : (p : ℕ) (t : Table) → length (rows p t) ≡ 14 * length t
length_rows p [] = refl
length_rows p (x ∷ t) = let r = length_rows (p + length x.text) t in omega arith

-- a file has its head, a row for each entry, and the bodies
pub length_written : (t : Table) → length (written t) ≡ 4 + 14 * length t + length (bodies t)
length_written t =
    let p = 4 + 14 * length t in
    omega (arith, length-append (rows p t) (bodies t), length_rows p t)
