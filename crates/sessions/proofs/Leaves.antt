-- Leave.
use Rattle.sessions.specs.declared.session.Session.{Session}
use Rattle.std.proofs.Common.{ℕ, ◌<◌, true, length, refl, ap, ◌∙◌, arith, None}
use Rattle.std.proofs.lemmas.List.{length-set}
use Rattle.tables.specs.Tables.{Table}
use Rattle.modes.specs.Kind.{Kind}
use Rattle.rules.specs.Office.{leave, done}
use Rattle.rules.specs.Rules.{Step}
use Rattle.keyed.specs.Keyed.{under}
use Rattle.keyed.proofs.Counting.{count_set}
use Rattle.keyed.proofs.Distinct.{distinct_cleared}
use Rattle.keyed.proofs.Every.{every_set}
use Rattle.sessions.specs.Sessions.{session_key, sound_place}
use Rattle.sessions.proofs.Parts.{Parts, seen, Kept, kept, with_place, At, Has}
use Rattle.sessions.proofs.Places.{seen_ended, is_at}
use Rattle.sessions.proofs.Steps.{performing, pass, over}

-- the session ends
pub leave_done : {n : ℕ} (K : Kind) (d : Parts) (live image : Table) (s i : ℕ) (x : Session) → Kept n d → At d s i → Has d s x
    → Step K (seen d live image) (leave s) done (seen (with_place d i None) live image)
leave_done K d live image s i x kept p h =
    performing K (seen d live image) (leave s) done (seen (with_place d i None) live image) (pass (is_at d live image s x h) over)
    (ap (λ o. (done, o)) (seen_ended d live image s i kept p))

-- the end of a session keeps what the table keeps
pub ended_kept : {n : ℕ} (d : Parts) (s i : ℕ) → i < length d.sessions → Kept n d → At d s i → Kept n (with_place d i None)
ended_kept {n} d s i h kept p =
    let r = kept.hands in
    let t = count_set session_key (λ _. true) d.sessions i None None h in
    record {
      places = length-set d.sessions i None ∙ kept.places;
      marks = kept.marks;
      few = kept.few;
      numbers = distinct_cleared session_key d.sessions s i None refl p kept.numbers;
      given = every_set (λ x. under d.next (session_key x)) d.sessions i None refl kept.given;
      sound = every_set (sound_place n) d.sessions i None refl kept.sound;
      last = kept.last;
      hands = omega (arith, t, r);
    }
