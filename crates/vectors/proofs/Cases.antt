-- Each worked file, computed.
use Rattle.std.proofs.Common.{ℕ, zero, suc, ◌<◌, [], ◌∷◌, ◌++◌, set, refl, arith}
use Rattle.tables.specs.Tables.{Lawful, LawfulEntry, entry, of}
use Rattle.tables.specs.declared.refusal.Refusal.TheVariants.{BadStamp, BadPlace, BadEnd}
use Rattle.imagefile.specs.Rules.{RowsRule}
use Rattle.imagefile.specs.Faults.{Faulty, broken, kept}
use Rattle.imagefile.specs.declared.faults.FileFault.TheVariants.{Whole, Row}
use Rattle.vectors.specs.Vectors.{vectors, one_entry, EveryHolds}

no_entry : Lawful []
no_entry = (omega arith, λ e h. absurd (omega arith))

entry_a : Lawful (of (0x41 ∷ []) 1 3 ∷ [])
entry_a = (omega arith, first)
  where
    first : (e : ℕ) → e < 1 → LawfulEntry (entry (of (0x41 ∷ []) 1 3 ∷ []) e)
    first zero h = (omega arith, (omega arith, omega arith))
    first (suc e) h = absurd (omega arith)

-- the head is right, and row 0 has edition 4 and hand 3
edition_above : Faulty (set one_entry 7 4) (Row (record { row = 0; refusal = BadStamp }))
unfolding Faulty
edition_above =
    kept (omega arith) (kept refl (kept (omega arith) (kept (omega arith) (broken (λ rows. absurd (omega (arith, (rows 0 (omega arith)).0.0))) (omega arith, (λ k h. absurd (omega arith)), broken (λ stamp. absurd (omega (arith, stamp.0))) refl)))))

-- the head is right, and row 0 has place 19 and not 18
place_past : Faulty (set one_entry 15 0x13) (Row (record { row = 0; refusal = BadPlace }))
unfolding Faulty
place_past =
    kept (omega arith) (kept refl (kept (omega arith) (kept (omega arith) (broken (λ rows. absurd (omega (arith, (rows 0 (omega arith)).2))) (omega arith, (λ k h. absurd (omega arith)), kept (omega arith, omega arith) (kept (omega arith) (broken (λ place. absurd (omega (arith, place))) refl)))))))

-- head and row are right, and the file has 20 bytes where body 0 ends at 19
byte_more : Faulty (one_entry ++ (0 ∷ [])) (Whole BadEnd)
unfolding Faulty
byte_more =
    kept (omega arith) (kept refl (kept (omega arith) (kept (omega arith) (kept one_row (broken (λ end. absurd (omega (arith, end))) refl)))))
  where
    one_row : RowsRule (one_entry ++ (0 ∷ [])) 1
    one_row zero h = ((omega arith, omega arith), omega arith, refl)
    one_row (suc k) h = absurd (omega arith)

pub all_hold : EveryHolds vectors
all_hold = ((no_entry, refl), ((entry_a, refl), (edition_above, (place_past, (byte_more, tt)))))
