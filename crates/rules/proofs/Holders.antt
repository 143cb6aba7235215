-- Who holds what, in the office and as told.
use Rattle.std.proofs.Common.{◌≡◌, ℕ, ◌<◌, true, false, not, T, ltb, is_some, Some, None, Option, unwrap_or, sym, refl, ap, ◌∙◌, subst, inl, inr, arith, ltb→lt, nltb→le}
use mathlib.Core.Path.{fun_ext}
use Rattle.tables.specs.Tables.{entry}
use Rattle.modes.specs.Kind.{Kind}
use Rattle.rules.specs.Numbers.{changed}
use Rattle.rules.specs.Office.{Session, new_session, Office, mode_at, is_held}
use Rattle.rules.specs.History.{Log, events}
use Rattle.rules.specs.Holding.{holds, numbers, held}
use Rattle.rules.specs.Sides.{side}
use Rattle.rules.proofs.Tests.{to_T, bool_cases, not_both, at_changed, some_none}
use Rattle.rules.proofs.Below.{any_no, any_same}
use Rattle.rules.proofs.OtherSessions.{unused}
use Rattle.rules.proofs.Invariant.{Known, Status, Sided, Apart, Inv}

-- a mode is held by a live session
pub mode_session : (o : Office) (s e m : ℕ) → mode_at o s e ≡ Some m → (x : Session) × (o.sessions s ≡ Some x) × (x.mode e ≡ Some m)
mode_session o s e m h = go (o.sessions s) refl h
  where
    go : (y : Option Session) → o.sessions s ≡ y → (unwrap_or y new_session).mode e ≡ Some m
        → (x : Session) × (o.sessions s ≡ Some x) × (x.mode e ≡ Some m)
    go None q h = some_none h refl
    go (Some x) q h = (x, q, h)

pub session_mode : (o : Office) (s e m : ℕ) (x : Session) → o.sessions s ≡ Some x → x.mode e ≡ Some m → mode_at o s e ≡ Some m
session_mode o s e m x q h = subst (λ y. (unwrap_or y new_session).mode e ≡ Some m) (sym q) h

-- where a changed session holds no more than it did, nobody does
pub changed_holds : (o : Office) (k : ℕ) (v : Option Session) → ((e m : ℕ) → (unwrap_or v new_session).mode e ≡ Some m → mode_at o k e ≡ Some m)
    → (s e m : ℕ) → (unwrap_or (changed o.sessions k v s) new_session).mode e ≡ Some m → mode_at o s e ≡ Some m
changed_holds o k v h s e m =
    at_changed (λ j y. (unwrap_or y new_session).mode e ≡ Some m → mode_at o j e ≡ Some m) o.sessions k v (h e m) (λ j ne q. q) s

-- fewer holds conflict no more
pub apart_fewer : (K : Kind) (o p : Office) → ((s e m : ℕ) → mode_at p s e ≡ Some m → mode_at o s e ≡ Some m) → Apart K o → Apart K p
apart_fewer K o p f h s k e a b ne i j = h s k e a b ne (f s e a i) (f k e b j)

module _ (K : Kind) (first n : ℕ) (o : Office) (l : Log) (i : Inv K first n o l) where
  -- what is known of a live session
  pub live_status : (k : ℕ) (x : Session) → o.sessions k ≡ Some x → (k < o.next_session) × Known K n (entry o.live) (events l k) x
  live_status k x q = subst (λ y. Status K n (entry o.live) o.next_session k (events l k) y) q (i.status k)

  pub live_sided : o.round ≡ true → (k : ℕ) (x : Session) → o.sessions k ≡ Some x → Sided o.copied (side l k) (Some x)
  live_sided r k x q = subst (λ y. Sided o.copied (side l k) y) q ((i.in_round r).sides k)

  pub holds_is : (s e : ℕ) → holds (events l s) e ≡ is_some (mode_at o s e)
  holds_is s e = go (o.sessions s) (i.status s)
    where
      go : (y : Option Session) → Status K n (entry o.live) o.next_session s (events l s) y → holds (events l s) e ≡ is_some ((unwrap_or y new_session).mode e)
      go None h = h e
      go (Some x) h = h.1.holds_is e

  -- a session that holds has been told of
  holds_number : (s e : ℕ) → holds (events l s) e ≡ true → s < numbers l
  holds_number s e h =
      elim (bool_cases (ltb s (numbers l))) [
        | inl p ↦ ltb→lt s (numbers l) (to_T p)
        | inr p ↦ not_both h (ap (λ vs. holds vs e) (unused l s (nltb→le s (numbers l) (subst (λ b. T (not b)) (sym p) tt))).0)
      ]

  -- some session holds an entry: told, and in the office
  pub held_is : held l ≡ is_held o
  held_is =
      fun_ext (λ e. any_same (numbers l) o.next_session (λ s. holds (events l s) e) (λ s. is_some (mode_at o s e))
      (λ s lt h. let nb = i.numbered in (omega arith, sym (holds_is s e) ∙ h))
      (λ s lt h. let h' : holds (events l s) e ≡ true = holds_is s e ∙ h in (holds_number s e h', h')))

  -- of an entry that is not held no live session has a mode
  pub nobody : (e : ℕ) → is_held o e ≡ false → (s m : ℕ) (x : Session) → o.sessions s ≡ Some x → x.mode e ≡ Some m → ⊥
  nobody e h s m x q p =
      let c = any_no o.next_session (λ j. is_some (mode_at o j e)) s h (live_status s x q).0 in
      not_both (ap is_some (session_mode o s e m x q p)) c
