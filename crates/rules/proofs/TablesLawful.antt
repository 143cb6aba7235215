-- The tables stay lawful in every run.
use Rattle.std.proofs.Common.{◌≡◌, ℕ, suc, Bool, true, false, cond, ◌&&◌, [], ◌∷◌, length, Some, None, Option, sym, refl, subst, arith}
use Rattle.tables.specs.Tables.{Table, Lawful}
use Rattle.tables.specs.declared.refusal.Refusal.{Refusal}
use Rattle.tables.specs.declared.refusal.Refusal.TheVariants.{Ended}
use Rattle.modes.specs.Kind.{Kind}
use Rattle.rules.specs.Numbers.{first_of}
use Rattle.rules.specs.Office.{
  Text,
  is_before,
  Office,
  greatest_hand,
  entries,
  session,
  mode_at,
  Call,
  begin,
  claim,
  read,
  write,
  commit,
  leave,
  open_round,
  copy,
  work,
  close_round,
  drop_round,
  Answer,
  refused,
  done,
}
use Rattle.rules.specs.Rules.{wanted, declines, after_claim, after_leave, perform, decided, step}
use Rattle.rules.specs.History.{History, Run}
use Rattle.rules.specs.Round.{TablesLawful}
use Rattle.rules.proofs.Below.{count_nothing}
use Rattle.rules.proofs.Entries.{greatest_lawful}
use Rattle.rules.proofs.Declined.{none_fit, is_live, below_if, at_most_if}
use Rattle.rules.proofs.Bounds.{
  Bounded,
  short_none,
  short_write,
  bounded_begin,
  bounded_changed,
  bounded_leave,
  bounded_commit,
  bounded_open,
  bounded_end,
  bounded_copy,
  bounded_work,
}

-- ── every call ──

module _ (K : Kind) (P : Type 0) (o : Office) (f : Bounded P o) where
  on_begin : (y : Option Refusal) → first_of (declines K o begin) ≡ y → Bounded P (decided K o begin y).1
  on_begin (Some r) q = f
  on_begin None q = bounded_begin P o f (at_most_if o.next_session 4_000_000_000 (none_fit (declines K o begin) q).1.0)

  on_claim : (s e m : ℕ) (y : Option Refusal) → first_of (declines K o (claim s e m)) ≡ y → Bounded P (decided K o (claim s e m) y).1
  on_claim s e m (Some r) q = f
  on_claim s e m None q = go (is_live o s (none_fit (declines K o (claim s e m)) q).0) (o.round && (is_before (session o s).side && o.copied e))
    where
      go : o.sessions s ≡ Some (session o s) → (b : Bool)
          → Bounded P (cond {A = Answer × Office} b (refused Ended, after_leave o s) (done, after_claim o s e (wanted K m (mode_at o s e)))).1
      go p true = bounded_leave P o f s (session o s) p
      go p false = bounded_changed P o f s (session o s) _ p (f.short s)

  on_write : (s e : ℕ) (t : Text) (y : Option Refusal) → first_of (declines K o (write s e t)) ≡ y → Bounded P (decided K o (write s e t) y).1
  on_write s e t (Some r) q = f
  on_write s e t None q =
      let a = none_fit (declines K o (write s e t)) q in
      bounded_changed P o f s (session o s) _ (is_live o s a.0) (short_write (session o s) e t (at_most_if (length t) 96 a.1.1.1.0) (f.short s))

  on_commit : (s : ℕ) (y : Option Refusal) → first_of (declines K o (commit s)) ≡ y → Bounded P (decided K o (commit s) y).1
  on_commit s (Some r) q = f
  on_commit s None q = bounded_commit P o f s (session o s) (is_live o s (none_fit (declines K o (commit s)) q).0)

  on_leave : (s : ℕ) (y : Option Refusal) → first_of (declines K o (leave s)) ≡ y → Bounded P (decided K o (leave s) y).1
  on_leave s (Some r) q = f
  on_leave s None q = bounded_leave P o f s (session o s) (is_live o s (none_fit (declines K o (leave s)) q).0)

  on_copy : (e : ℕ) (y : Option Refusal) → first_of (declines K o (copy e)) ≡ y → Bounded P (decided K o (copy e) y).1
  on_copy e (Some r) q = f
  on_copy e None q = bounded_copy P o f e (below_if e (entries o) (none_fit (declines K o (copy e)) q).0)

  -- a call that is bounded when it is performed
  on_other : (c : Call) → Bounded P (perform K o c).1 → (y : Option Refusal) → Bounded P (decided K o c y).1
  on_other c g (Some r) = f
  on_other c g None = g

  pub bounded_step : (c : Call) → Bounded P (step K o c).1
  bounded_step begin = on_begin (first_of (declines K o begin)) refl
  bounded_step (claim s e m) = on_claim s e m (first_of (declines K o (claim s e m))) refl
  bounded_step (read s e room) = on_other (read s e room) f (first_of (declines K o (read s e room)))
  bounded_step (write s e t) = on_write s e t (first_of (declines K o (write s e t))) refl
  bounded_step (commit s) = on_commit s (first_of (declines K o (commit s))) refl
  bounded_step (leave s) = on_leave s (first_of (declines K o (leave s))) refl
  bounded_step open_round = on_other open_round (bounded_open P o f) (first_of (declines K o open_round))
  bounded_step (copy e) = on_copy e (first_of (declines K o (copy e))) refl
  bounded_step (work k) = on_other (work k) (bounded_work P k o f) (first_of (declines K o (work k)))
  bounded_step close_round = on_other close_round (bounded_end P o f) (first_of (declines K o close_round))
  bounded_step drop_round = on_other drop_round (bounded_end P o f) (first_of (declines K o drop_round))

-- ── every run ──

pub bounded_run : (K : Kind) (live image : Table) → Lawful live → (h : History) (o : Office) → Run K live image h o → Bounded (Lawful image) o
bounded_run K live image a [] o r =
    subst (Bounded (Lawful image)) (sym r)
    (record {
      room = let c = count_nothing (suc (greatest_hand live)) in omega arith;
      few = let g = greatest_lawful live (λ e lt. (a.1 e lt).1.1) in omega arith;
      fresh = λ s lt. refl;
      short = λ s. short_none;
      lawful = a;
      lawful_image = λ b. b;
    })
bounded_run K live image a (m ∷ h) o r =
    subst (λ (z : Answer × Office). Bounded (Lawful image) z.1) (sym r.2) (bounded_step K (Lawful image) r.0 (bounded_run K live image a h r.0 r.1) m.call)

pub tables_lawful : TablesLawful
tables_lawful K live image a h o r = let b = bounded_run K live image a h o r in (b.lawful, b.lawful_image)
