-- The place for a hold of an entry, and the holds after a grant.
use Rattle.std.proofs.Common.{◌≡◌, ℕ, true, cond, ◌⊎◌, List, get_or, set, Some, None, Option, is_none, option_map, position, sym, refl, ap, ◌∙◌, inl, inr}
use Rattle.std.proofs.lemmas.Bool.{eq-eqb}
use Rattle.std.specs.Option.{option_or}
use Rattle.tables.specs.Texts.{bytes_of}
use Rattle.rules.proofs.Tests.{some_none, same_value}
use Rattle.rules.specs.Numbers.{changed}
use Rattle.keyed.proofs.Distinct.{distinct_changed, distinct_added}
use Rattle.keyed.proofs.Finding.{free_none, position_key, find_missing}
use Rattle.keyed.proofs.Held.{held_at, held_nowhere, held_changed, held_added, free_places}
use Rattle.keyed.proofs.Positions.{position_at}
use Rattle.keyed.specs.Keyed.{is_key, held, distinct}
use Rattle.sessions.specs.Sessions.{hold_entry, hold_key, hold_place, text_that_stays, granted_hold}
use Rattle.sessions.specs.View.{text_of}
use Rattle.sessions.specs.declared.hold.Hold.{Hold}

-- place k is the first of entry e
abbrev pub HeldIn : List (Option Hold) → ℕ → ℕ → Type 0
HeldIn l e k = position (λ x. is_key (hold_key x) e) l ≡ Some k

-- no place is of entry e
abbrev pub Unheld : List (Option Hold) → ℕ → Type 0
Unheld l e = position (λ x. is_key (hold_key x) e) l ≡ None

-- the two ways of a choice between a place and another
first_some : (a b : Option ℕ) (k : ℕ) → option_or a b ≡ Some k → (a ≡ Some k) ⊎ ((a ≡ None) × (b ≡ Some k))
first_some None b k e = inr (refl, e)
first_some (Some j) b k e = inl e

first_none : (a b : Option ℕ) → option_or a b ≡ None → (a ≡ None) × (b ≡ None)
first_none None b e = (refl, e)
first_none (Some j) b e = some_none {x = Some j} refl e

-- the place is the own one, or the first free one; or there is neither
pub place_cases : (l : List (Option Hold)) (e k : ℕ) → hold_place l e ≡ Some k → HeldIn l e k ⊎ (Unheld l e × (position is_none l ≡ Some k))
place_cases l e k = first_some (position (λ x. is_key (hold_key x) e) l) (position is_none l) k

pub place_none : (l : List (Option Hold)) (e : ℕ) → hold_place l e ≡ None → Unheld l e × (position is_none l ≡ None)
place_none l e = first_none (position (λ x. is_key (hold_key x) e) l) (position is_none l)

-- a hold of e in its place: what is found, no entry twice, and the text that stays
pub find_granted : (l : List (Option Hold)) (e k : ℕ) (y : Hold) → y.entry ≡ e → hold_place l e ≡ Some k
    → (j : ℕ) → held hold_entry (set l k (Some y)) j ≡ changed (held hold_entry l) e (Some y) j
find_granted l e k y ky q j =
    elim (place_cases l e k q) [
      | inl r ↦ held_changed hold_entry l e k y ky r j
      | inr r ↦ held_added hold_entry l e k y ky r.1 (find_missing hold_key l e r.0) j
    ]

pub distinct_granted : (l : List (Option Hold)) (e k : ℕ) (y : Hold) → y.entry ≡ e → hold_place l e ≡ Some k → distinct hold_key l ≡ true
    → distinct hold_key (set l k (Some y)) ≡ true
distinct_granted l e k y ky q a =
    elim (place_cases l e k q) [
      | inl r ↦ distinct_changed hold_key l e k (Some y) (ap Some ky) r a
      | inr r ↦ distinct_added hold_key l e k (Some y) (ap Some ky) (free_places hold_entry l ∙ r.1) (find_missing hold_key l e r.0) a
    ]

-- the text of a hold of e stays
stays : (x : Option Hold) (e : ℕ) → hold_key x ≡ Some e → option_map bytes_of (text_that_stays x e) ≡ text_of x
stays None e q = some_none q refl
stays (Some h) e q = ap (λ b. option_map bytes_of (cond b h.written None)) (eq-eqb h.entry e (same_value {x = Some h.entry} refl q))

pub text_granted : (l : List (Option Hold)) (e k w : ℕ) → hold_place l e ≡ Some k → text_of (granted_hold (get_or l k None) e w) ≡ text_of (held hold_entry l e)
text_granted l e k w q =
    elim (place_cases l e k q) [
      | inl r ↦ stays (get_or l k None) e (position_key hold_key l e k None r) ∙ ap text_of (sym (held_at hold_entry l e k None r))
      | inr r ↦
          ap (λ x. option_map bytes_of (text_that_stays x e)) (free_none (get_or l k None) (position_at is_none l k None r.1))
          ∙ ap text_of (sym (held_nowhere hold_entry l e r.0))
    ]
