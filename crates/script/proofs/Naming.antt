-- Bytes that are no text are no word of a list of words in ASCII.
use Rattle.std.proofs.Common.{◌≡◌, ℕ, Bool, true, false, ◌&&◌, ltb, List, [], ◌∷◌, None, Some, Option, refl, sym, ap, ◌∙◌, subst, ⊎_elim}
use borrow.Author.Tests.{ltb-true}
use Rattle.std.specs.List.{list_all}
use Rattle.std.specs.Option.{option_map}
use Rattle.std.specs.Str.{IsAscii, IsUtf8, bytes_eq}
use Rattle.std.proofs.lemmas.Bool.{cases_Bool, cond-false, and_parts}
use Rattle.std.proofs.lemmas.Slice.Eq.{bytes_eq-Decides}
use Rattle.std.proofs.lemmas.Str.{IsUtf8-from_ascii}
use Rattle.std.proofs.lemmas.Str.Ascii.{IsAscii-nil, IsAscii-cons}
use Rattle.words.specs.Cuts.{before, after}
use Rattle.script.specs.Fields.{is_word, then, beside, short_number}
use Rattle.script.specs.Openings.{kinds, kind_of, opening, opening_of}
use Rattle.script.specs.Commands.{call, lone_words, alone, leading_words, followed, said_with, said}

-- a word is in ASCII; every word of a list is
abbrev in_ascii : List ℕ → Bool
in_ascii w = list_all (λ b. ltb b 128) w

abbrev all_in_ascii : {A : Type 0} → List (List ℕ × Option A) → Bool
all_in_ascii [] = true
all_in_ascii (x ∷ xs) = in_ascii x.0 && all_in_ascii xs

ascii : (w : List ℕ) → in_ascii w ≡ true → IsAscii w
ascii [] e = IsAscii-nil
ascii (b ∷ bs) e = let p = and_parts (ltb b 128) (in_ascii bs) e in IsAscii-cons b bs (ltb-true _ _ p.0) (ascii bs p.1)

not_named : (w name : List ℕ) → (IsUtf8 w → ⊥) → in_ascii name ≡ true → is_word w name ≡ false
unfolding is_word
not_named w name not_text e =
    ⊎_elim
    (λ (same : bytes_eq w name ≡ true). absurd (not_text (subst IsUtf8 (sym ((bytes_eq-Decides w name).0 same)) (IsUtf8-from_ascii name (ascii name e)))))
    (λ (other : bytes_eq w name ≡ false). other)
    (cases_Bool (bytes_eq w name))

none_beside : {A : Type 0} → (w : List ℕ) (words : List (List ℕ × Option A)) → (IsUtf8 w → ⊥) → all_in_ascii words ≡ true → None ≡ beside w words
none_beside w [] not_text e = refl
none_beside w (x ∷ xs) not_text e =
    let p = and_parts (in_ascii x.0) (all_in_ascii xs) e in
    none_beside w xs not_text p.1 ∙ sym (cond-false (is_word w x.0) x.1 (beside w xs) (not_named w x.0 not_text p.0))

-- a line that begins with such bytes is malformed
pub no_opening : (w line : List ℕ) → w ≡ before 32 line → (IsUtf8 w → ⊥) → None ≡ opening_of line
no_opening w line e not_text =
    let none : None ≡ kind_of (before 32 line) = none_beside w kinds not_text refl ∙ ap kind_of e in
    elim (after 32 line) as (λ o. None ≡ then o (λ rest. then (kind_of (before 32 line)) (λ k. then (short_number rest) (λ n. opening k n)))) [
      | None ↦ refl
      | Some rest ↦ ap (λ kind. then kind (λ k. then (short_number rest) (λ n. opening k n))) none
    ]

pub no_command : (room : ℕ) (w line : List ℕ) → w ≡ before 32 line → (IsUtf8 w → ⊥) → None ≡ said room line
no_command room w line e not_text =
    elim (after 32 line) as (λ o. None ≡ said_with room (before 32 line) o) [
      | None ↦ none_beside w lone_words not_text refl ∙ ap alone e
      | Some bs ↦ ap (option_map call) (none_beside w (leading_words room bs) not_text refl ∙ ap (λ v. followed room v bs) e)
    ]
