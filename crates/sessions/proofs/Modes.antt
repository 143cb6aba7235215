-- The mode that a session holds an entry in, in the office.
use Rattle.std.proofs.Common.{◌≡◌, ℕ, Bool, false, not, Some, None, Option, sym, refl, ap, ◌∙◌, List}
use Rattle.tables.specs.Tables.{Table}
use Rattle.rules.proofs.Tests.{same_value}
use Rattle.rules.specs.Numbers.{maybe}
use Rattle.rules.specs.Rules.{holds_mode}
use Rattle.keyed.proofs.Finding.{position_key}
use Rattle.keyed.proofs.Held.{held_at}
use Rattle.keyed.specs.Keyed.{held}
use Rattle.sessions.specs.Sessions.{hold_entry, hold_key}
use Rattle.sessions.specs.View.{mode_of}
use Rattle.sessions.specs.declared.hold.Hold.{Hold}
use Rattle.sessions.specs.declared.session.Session.{Session}
use Rattle.sessions.proofs.HoldPlaces.{HeldIn}
use Rattle.sessions.proofs.Parts.{Parts, seen, Has}
use Rattle.sessions.proofs.Places.{session_at}

-- the hold of entry e is of that entry
pub entry_of : (l : List (Option Hold)) (e k : ℕ) (h : Hold) → HeldIn l e k → held hold_entry l e ≡ Some h → h.entry ≡ e
entry_of l e k h p q =
    same_value {x = Some h.entry} refl (ap hold_key (sym q ∙ held_at hold_entry l e k None p) ∙ position_key hold_key l e k None p)

-- the test that refuses a write of an entry that is held in a mode that does not pass f
pub holds_in : (d : Parts) (live image : Table) (s e : ℕ) (x : Session) (h : Hold) (f : ℕ → Bool) {b : Bool} → Has d s x → held hold_entry x.holds e ≡ Some h
    → f h.mode ≡ b → not (holds_mode (seen d live image) s e f) ≡ not b
holds_in d live image s e x h f p q w =
    ap (λ z. not (maybe (z.mode e) false f)) (session_at d live image s x p) ∙ ap (λ o. not (maybe (mode_of o) false f)) q ∙ ap not w
