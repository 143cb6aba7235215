-- What a session table keeps of the session in one place.
use Rattle.std.proofs.Common.{◌≡◌, ℕ, ◌<◌, true, length, Some, ap, ◌∙◌, arith, None, get_or}
use Rattle.std.proofs.lemmas.List.{length-set}
use Rattle.std.proofs.lemmas.Bool.{eqb-true, eq-eqb, lt-ltb}
use Rattle.rules.proofs.Tests.{and_true}
use Rattle.keyed.proofs.Counting.{counted, count_set}
use Rattle.keyed.proofs.Distinct.{distinct_changed}
use Rattle.keyed.proofs.Every.{every_set}
use Rattle.keyed.proofs.Held.{every_held}
use Rattle.keyed.proofs.Finding.{and_both, position_key, find_place}
use Rattle.keyed.proofs.Under.{find_under}
use Rattle.keyed.specs.Keyed.{distinct, under, all_under}
use Rattle.sessions.specs.Sessions.{hold_key, session_number, session_key, sound_session, sound_place}
use Rattle.sessions.specs.declared.session.Session.{Session}
use Rattle.sessions.proofs.Parts.{Parts, Kept, kept, with_place, At, Has}

-- the parts of the test sound_session
pub record Sound (n : ℕ) (x : Session) : Type 0 where
  pub eight : length x.holds ≡ 8
  pub entries : distinct hold_key x.holds ≡ true
  pub below : all_under hold_key n x.holds ≡ true

-- from the test to its parts, and back
pub to_sound : (n : ℕ) (x : Session) → sound_session n x ≡ true → Sound n x
to_sound n x e =
    let a = and_true _ _ e in
    let b = and_true _ _ a.1 in
    record { eight = eqb-true (length x.holds) 8 a.0; entries = b.0; below = b.1 }

pub from_sound : (n : ℕ) (x : Session) → Sound n x → sound_session n x ≡ true
from_sound n x h = and_both (eq-eqb (length x.holds) 8 h.eight) (and_both h.entries h.below)

-- the session of a number is sound
pub sound_of : {n : ℕ} (d : Parts) (s : ℕ) (x : Session) → Kept n d → Has d s x → Sound n x
sound_of {n} d s x kept h = to_sound n x (every_held (sound_session n) session_number d.sessions s x kept.sound h)

-- another sound session of the same number keeps what the table keeps
pub changed_kept : {n : ℕ} (d : Parts) (s i : ℕ) (y : Session) → i < length d.sessions → Kept n d → At d s i → y.number ≡ s → Sound n y
    → Kept n (with_place d i (Some y))
changed_kept {n} d s i y il kept p ky g =
    let r = kept.hands in
    let key : session_key (Some y) ≡ Some s = ap Some ky in
    let t = count_set session_key (λ _. true) d.sessions i (Some y) None il in
    let b : counted (λ _. true) (session_key (get_or d.sessions i None)) ≡ 1 = ap (counted (λ _. true)) (position_key session_key d.sessions s i None p) in
    record {
      places = length-set d.sessions i (Some y) ∙ kept.places;
      marks = kept.marks;
      few = kept.few;
      numbers = distinct_changed session_key d.sessions s i (Some y) key p kept.numbers;
      given =
          every_set (λ x. under d.next (session_key x)) d.sessions i (Some y)
          (ap (under d.next) key ∙ lt-ltb s d.next (find_under session_key d.next d.sessions s _ kept.given (find_place session_key d.sessions s i None p)))
          kept.given;
      sound = every_set (sound_place n) d.sessions i (Some y) (from_sound n y g) kept.sound;
      last = kept.last;
      hands = omega (arith, t, r, b);
    }
