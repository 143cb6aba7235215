-- Worked lines, and what the definitions say of them.
use Rattle.std.proofs.Common.{◌≡◌, ℕ, List, [], ◌∷◌, Some, None, codes, Option, refl}
use Rattle.rules.specs.Office.{begin, claim, read, write, work}
use Rattle.script.specs.Commands.{Said, call, next, said}
use Rattle.script.specs.Fields.{is_word}
use Rattle.script.specs.Openings.{opening_of}
use Rattle.script.specs.declared.opening.KindName.TheVariants.{Plain, Draft}
use Rattle.script.specs.declared.opening.Opening.{Opening}

-- each line says what stands beside it
abbrev AllSay : {A : Type 0} → (List ℕ → Option A) → List (List ℕ × Option A) → Type 0
AllSay says [] = Unit {0}
AllSay says (x ∷ xs) = (says x.0 ≡ x.1) × AllSay says xs

-- first lines
abbrev first_lines : List (List ℕ × Option Opening)
first_lines =
    (codes "plain 128", Some (record { kind = Plain; entries = 128 }))
    ∷ (codes "draft 00", Some (record { kind = Draft; entries = 0 }))
    ∷ (codes "draft 129", None)
    ∷ (codes "plain", None)
    ∷ (codes "plain 1 ", None)
    ∷ []

first_lines_say : AllSay opening_of first_lines
unfolding is_word
first_lines_say = (refl, (refl, (refl, (refl, (refl, tt)))))

-- later lines that are well formed
abbrev good_lines : List (List ℕ × Option Said)
good_lines =
    (codes "begin", Some (call begin))
    ∷ (codes "claim 1 0 2", Some (call (claim 1 0 2)))
    ∷ (codes "read 123456789 007", Some (call (read 123456789 7 96)))
    ∷ (codes "write 1 0 ", Some (call (write 1 0 [])))
    ∷ (codes "write 1 0  a b ", Some (call (write 1 0 (codes " a b "))))
    ∷ (codes "work 8", Some (call (work 8)))
    ∷ (codes "next", Some next)
    ∷ []

good_lines_say : AllSay (said 96) good_lines
unfolding is_word
good_lines_say = (refl, (refl, (refl, (refl, (refl, (refl, (refl, tt)))))))

-- later lines that are malformed
abbrev bad_lines : List (List ℕ × Option Said)
bad_lines =
    (codes "", None)
    ∷ (codes "begin ", None)
    ∷ (codes "Begin", None)
    ∷ (codes "claim 1 0", None)
    ∷ (codes "claim 1 0 2 3", None)
    ∷ (codes "read 1  0", None)
    ∷ (codes "read 1234567890 0", None)
    ∷ (codes "write 1 0", None)
    ∷ (codes "commit ", None)
    ∷ (codes "plain 3", None)
    ∷ []

bad_lines_say : AllSay (said 96) bad_lines
unfolding is_word
bad_lines_say = (refl, (refl, (refl, (refl, (refl, (refl, (refl, (refl, (refl, (refl, tt))))))))))
