-- What a later line of a script says.
use Rattle.std.specs.Prelude.{ℕ, List, [], ◌∷◌, Some, None, codes, Option}
use Rattle.std.specs.Option.{option_map}
use Rattle.words.specs.Cuts.{before, after}
use Rattle.rules.specs.Office.{Call, begin, claim, read, write, commit, leave, open_round, copy, work, drop_round}
use Rattle.calls.specs.Calls.{asked}
use Rattle.script.specs.Fields.{then, beside, short_number, field}
use Rattle.script.specs.declared.command.Command as code

-- a call; the next entry of the round is asked for; the image is asked for
pub data Said : Type 0 where
  call : Call → Said
  next : Said
  image : Said

-- what a command says, where the buffer of a read has so many bytes
abbrev pub meant : ℕ → code.Command → Said
meant room (code.TheVariants.Call c) = call (asked c room)
meant room code.TheVariants.Next = next
meant room code.TheVariants.Image = image

-- session, entry and mode
abbrev pub claim_of : List ℕ → Option Call
claim_of bs =
    then (field bs) (λ s. then (field s.1) (λ e. then (short_number e.1) (λ m. Some (claim s.0 e.0 m))))

-- session and entry
abbrev pub read_of : ℕ → List ℕ → Option Call
read_of room bs = then (field bs) (λ s. then (short_number s.1) (λ e. Some (read s.0 e room)))

-- session, entry and text: the rest of the line
abbrev pub write_of : List ℕ → Option Call
write_of bs = then (field bs) (λ s. then (field s.1) (λ e. Some (write s.0 e.0 e.1)))

-- what the words that stand alone say, each beside its word
abbrev pub lone_words : List (List ℕ × Option Said)
lone_words =
    (codes "begin", Some (call begin))
    ∷ (codes "open", Some (call open_round))
    ∷ (codes "drop", Some (call drop_round))
    ∷ (codes "next", Some next)
    ∷ (codes "image", Some image)
    ∷ []

-- what a word says that stands alone
abbrev pub alone : List ℕ → Option Said
alone w = beside w lone_words

-- the calls of the words that a space and the bytes bs follow, each beside its word
abbrev pub leading_words : ℕ → List ℕ → List (List ℕ × Option Call)
leading_words room bs =
    (codes "claim", claim_of bs)
    ∷ (codes "read", read_of room bs)
    ∷ (codes "write", write_of bs)
    ∷ (codes "commit", option_map commit (short_number bs))
    ∷ (codes "leave", option_map leave (short_number bs))
    ∷ (codes "copy", option_map copy (short_number bs))
    ∷ (codes "work", option_map work (short_number bs))
    ∷ []

-- the call of a word that a space and the bytes bs follow
abbrev pub followed : ℕ → List ℕ → List ℕ → Option Call
followed room w bs = beside w (leading_words room bs)

-- what a word and the bytes after its space, if it has one, say
abbrev pub said_with : ℕ → List ℕ → Option (List ℕ) → Option Said
said_with room w None = alone w
said_with room w (Some bs) = option_map call (followed room w bs)

-- what a line says, where the buffer of a read has so many bytes; none where it is malformed
abbrev pub said : ℕ → List ℕ → Option Said
said room line = said_with room (before 32 line) (after 32 line)
