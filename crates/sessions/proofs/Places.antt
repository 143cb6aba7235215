-- A change at one place of the sessions, in the office.
use Rattle.std.proofs.Common.{◌≡◌, ℕ, false, not, eqb, set, is_some, Some, None, Option, option_map, unwrap_or, sym, refl, ap, ◌∙◌, add-one, arith}
use Rattle.tables.specs.Tables.{Table}
use Rattle.rules.specs.Numbers.{changed}
use Rattle.rules.specs.Office.{new_session, session}
use Rattle.rules.specs.Rules.{with_session, after_begin, after_leave}
use Rattle.keyed.proofs.Held.{ap_cond, held_changed, held_cleared, held_added}
use Rattle.keyed.proofs.Finding.{position_key}
use Rattle.rules.proofs.Tests.{same_value}
use Rattle.keyed.proofs.Under.{find_past}
use Rattle.keyed.specs.Keyed.{find, held}
use Rattle.sessions.specs.Sessions.{session_number, session_key, begun_session}
use Rattle.sessions.specs.View.{session_of}
use Rattle.sessions.specs.declared.session.Session.{Session}
use Rattle.sessions.proofs.Ext.{office_ext}
use Rattle.sessions.proofs.Parts.{Parts, stands, seen, Kept, kept, with_place, begun, At, Has, Free}

-- place i is changed, and with it the session of number s
pub seen_with_place : (d : Parts) (live image : Table) (i : ℕ) (y : Option Session) (s : ℕ) (v : Option Session)
    → ((t : ℕ) → held session_number (set d.sessions i y) t ≡ changed (held session_number d.sessions) s v t)
    → seen (with_place d i y) live image ≡ with_session (seen d live image) s (option_map session_of v)
seen_with_place d live image i y s v f =
    office_ext (seen (with_place d i y) live image) (with_session (seen d live image) s (option_map session_of v)) refl refl
    (λ t. ap (option_map session_of) (f t) ∙ ap_cond (option_map session_of) (eqb t s) v (held session_number d.sessions t)) refl refl refl (λ e. refl)

-- the session of number s is changed
pub seen_changed : (d : Parts) (live image : Table) (s i : ℕ) (y : Session) → y.number ≡ s → At d s i
    → seen (with_place d i (Some y)) live image ≡ with_session (seen d live image) s (Some (session_of y))
seen_changed d live image s i y k p = seen_with_place d live image i (Some y) s (Some y) (held_changed session_number d.sessions s i y k p)

-- the session of number s ends
pub seen_ended : {n : ℕ} (d : Parts) (live image : Table) (s i : ℕ) → Kept n d → At d s i
    → seen (with_place d i None) live image ≡ after_leave (seen d live image) s
seen_ended d live image s i kept p = seen_with_place d live image i None s None (held_cleared session_number d.sessions s i p kept.numbers)

-- a session begins
pub seen_begun : {n : ℕ} (d : Parts) (live image : Table) (i : ℕ) → Kept n d → Free d i
    → seen (begun d i (begun_session d.next)) live image ≡ after_begin (seen d live image)
seen_begun d live image i kept p =
    let past : find session_key d.sessions d.next ≡ None = find_past session_key d.next d.sessions d.next kept.given (omega arith) in
    let f = held_added session_number d.sessions d.next i (begun_session d.next) refl p past in
    office_ext (seen (begun d i (begun_session d.next)) live image) (after_begin (seen d live image)) refl refl
    (λ t. ap (option_map session_of) (f t) ∙ ap_cond (option_map session_of) (eqb t d.next) (Some (begun_session d.next)) (held session_number d.sessions t))
    (add-one d.next) refl refl (λ e. refl)

-- the session of number s
pub session_at : (d : Parts) (live image : Table) (s : ℕ) (x : Session) → Has d s x → session (seen d live image) s ≡ session_of x
session_at d live image s x p = ap (λ q. unwrap_or (option_map session_of q) new_session) p

-- its number is s
pub number_of_session : (d : Parts) (s i : ℕ) (x : Session) → At d s i → Has d s x → x.number ≡ s
number_of_session d s i x p h =
    same_value {x = Some x.number} refl (ap session_key (sym (stands d s i x p h)) ∙ position_key session_key d.sessions s i None p)

-- the test of refusal 1
pub is_at : (d : Parts) (live image : Table) (s : ℕ) (x : Session) → Has d s x → not (is_some ((seen d live image).sessions s)) ≡ false
is_at d live image s x p = ap (λ o. not (is_some (option_map session_of o))) p
