-- The invariant survives every call, and so it holds after every run.
use Rattle.std.proofs.Common.{◌≡◌, ℕ, suc, ◌<◌, Bool, true, false, cond, not, ◌&&◌, eqb, ltb, [], ◌∷◌, length, Some, None, Option, sym, refl, subst, arith, eqb→eq}
use mathlib.Core.Bool.{false≢true}
use Rattle.tables.specs.Tables.{Table, Lawful}
use Rattle.tables.specs.declared.refusal.Refusal.{Refusal}
use Rattle.tables.specs.declared.refusal.Refusal.TheVariants.{Ended}
use Rattle.modes.specs.Kind.{Kind, Laws}
use Rattle.rules.specs.Numbers.{first_of}
use Rattle.rules.specs.Office.{
  Text,
  is_before,
  is_after,
  Office,
  greatest_hand,
  new_office,
  entries,
  session,
  mode_at,
  Call,
  begin,
  claim,
  read,
  write,
  commit,
  leave,
  open_round,
  copy,
  work,
  close_round,
  drop_round,
  Answer,
  refused,
  done,
}
use Rattle.rules.specs.Rules.{wanted, conflicts, declines, after_claim, after_leave, after_commit, decided, step}
use Rattle.rules.specs.History.{History, Run, nothing, tells, Log, log}
use Rattle.rules.proofs.Tests.{to_T, not_false, some_none}
use Rattle.rules.proofs.Entries.{hand_greatest}
use Rattle.rules.proofs.Invariant.{Inv}
use Rattle.rules.proofs.SessionEvents.{inv_nothing, inv_leave, inv_read, inv_write}
use Rattle.rules.proofs.Claims.{inv_claim}
use Rattle.rules.proofs.Begins.{inv_begin}
use Rattle.rules.proofs.OpenClose.{inv_open, inv_close, inv_drop}
use Rattle.rules.proofs.Copies.{inv_copy, inv_work}
use Rattle.rules.proofs.CommitKept.{inv_commit}
use Rattle.rules.proofs.Declined.{none_fit, first_not_ended, is_live, holds_passing, below_if}

module _ (K : Kind) (L : Laws K) (first n : ℕ) (o : Office) (l : Log) (i : Inv K first n o l) where
  -- the invariant after a call, by its answer and the office then
  abbrev Kept : Call → Answer × Office → Type 0
  Kept c r = Inv K first n r.1 (record { event = tells c r.0; live = r.1.live } ∷ l)

  same : Inv K first n o (record { event = nothing; live = o.live } ∷ l)
  same = inv_nothing K first n o l o.live i

  is_inside : (e : ℕ) → not (ltb e (entries o)) ≡ false → e < n
  is_inside e q = let c = i.count in omega (arith, below_if e (entries o) q)

  -- each call, by the first of its refusals that fits
  by_begin : (y : Option Refusal) → Kept begin (decided K o begin y)
  by_begin (Some r) = same
  by_begin None = inv_begin K first n o l o.live i

  by_claim : (s e m : ℕ) (y : Option Refusal) → first_of (declines K o (claim s e m)) ≡ y → Kept (claim s e m) (decided K o (claim s e m) y)
  by_claim s e m (Some r) q =
      rw (first_not_ended (declines K o (claim s e m)) r (refl, (refl, (refl, (refl, (refl, (refl, tt)))))) q) same
  by_claim s e m None q =
      let f = none_fit (declines K o (claim s e m)) q in
      go (is_live o s f.0) (is_inside e f.1.0) (below_if m K.modes f.1.1.0) f.1.1.1.1.0 f.1.1.1.1.1.0
      (o.round && (is_before (session o s).side && o.copied e)) refl
    where
      go : o.sessions s ≡ Some (session o s) → e < n → m < K.modes → conflicts K o s e (wanted K m (mode_at o s e)) ≡ false
          → (o.round && (is_after (session o s).side && not (o.copied e))) ≡ false
          → (b : Bool) → (o.round && (is_before (session o s).side && o.copied e)) ≡ b
          → Kept (claim s e m) (cond b (refused Ended, after_leave o s) (done, after_claim o s e (wanted K m (mode_at o s e))))
      go p lt lm free six true seven = inv_leave K first n o l o.live s (session o s) i p
      go p lt lm free six false seven = inv_claim K L first n o l o.live s e m (session o s) i p lt lm free six seven

  by_read : (s e room : ℕ) (y : Option Refusal) → first_of (declines K o (read s e room)) ≡ y → Kept (read s e room) (decided K o (read s e room) y)
  by_read s e room (Some r) q = same
  by_read s e room None q =
      let f = none_fit (declines K o (read s e room)) q in
      let m = holds_passing o s e K.reads f.1.1.0 in
      inv_read K first n o l o.live s (session o s) i (is_live o s f.0) e m.0 m.1 m.2

  by_write : (s e : ℕ) (t : Text) (y : Option Refusal) → first_of (declines K o (write s e t)) ≡ y → Kept (write s e t) (decided K o (write s e t) y)
  by_write s e t (Some r) q = same
  by_write s e t None q =
      let f = none_fit (declines K o (write s e t)) q in
      let m = holds_passing o s e K.writes f.1.1.0 in
      inv_write K first n o l o.live s (session o s) i (is_live o s f.0) e t m.0 m.1 m.2

  by_commit : (s : ℕ) (y : Option Refusal) → first_of (declines K o (commit s)) ≡ y → Kept (commit s) (decided K o (commit s) y)
  by_commit s (Some r) q = same
  by_commit s None q = inv_commit K L first n o l (after_commit o s).live s (session o s) i (is_live o s (none_fit (declines K o (commit s)) q).0)

  by_leave : (s : ℕ) (y : Option Refusal) → first_of (declines K o (leave s)) ≡ y → Kept (leave s) (decided K o (leave s) y)
  by_leave s (Some r) q = same
  by_leave s None q = inv_leave K first n o l o.live s (session o s) i (is_live o s (none_fit (declines K o (leave s)) q).0)

  by_open : (y : Option Refusal) → first_of (declines K o open_round) ≡ y → Kept open_round (decided K o open_round y)
  by_open (Some r) q = same
  by_open None q =
      let f = none_fit (declines K o open_round) q in
      inv_open K first n o l i (eqb→eq (length o.image) (entries o) (to_T (not_false (eqb (length o.image) (entries o)) f.1.0)))

  by_copy : (e : ℕ) (y : Option Refusal) → first_of (declines K o (copy e)) ≡ y → Kept (copy e) (decided K o (copy e) y)
  by_copy e (Some r) q = same
  by_copy e None q =
      let f = none_fit (declines K o (copy e)) q in
      inv_copy K first n o l o.live e i (is_inside e f.0) f.1.1.0 f.1.1.1.0

  by_work : (k : ℕ) (y : Option Refusal) → Kept (work k) (decided K o (work k) y)
  by_work k (Some r) = same
  by_work k None = inv_work K first n o l k i

  by_close : (y : Option Refusal) → Kept close_round (decided K o close_round y)
  by_close (Some r) = same
  by_close None = inv_close K first n o l i o.live

  by_drop : (y : Option Refusal) → Kept drop_round (decided K o drop_round y)
  by_drop (Some r) = same
  by_drop None = inv_drop K first n o l i o.live

  pub inv_step : (c : Call) → Kept c (step K o c)
  inv_step begin = by_begin (first_of (declines K o begin))
  inv_step (claim s e m) = by_claim s e m (first_of (declines K o (claim s e m))) refl
  inv_step (read s e room) = by_read s e room (first_of (declines K o (read s e room))) refl
  inv_step (write s e t) = by_write s e t (first_of (declines K o (write s e t))) refl
  inv_step (commit s) = by_commit s (first_of (declines K o (commit s))) refl
  inv_step (leave s) = by_leave s (first_of (declines K o (leave s))) refl
  inv_step open_round = by_open (first_of (declines K o open_round)) refl
  inv_step (copy e) = by_copy e (first_of (declines K o (copy e))) refl
  inv_step (work k) = by_work k (first_of (declines K o (work k)))
  inv_step close_round = by_close (first_of (declines K o close_round))
  inv_step drop_round = by_drop (first_of (declines K o drop_round))

-- ── runs ──

inv_new : (K : Kind) (live image : Table) → Lawful live → Inv K (suc (greatest_hand live)) (length live) (new_office live image) []
inv_new K live image a =
    record {
      count = refl;
      status = λ s e. refl;
      numbered = omega arith;
      apart = λ s k e a b ne h h'. some_none h refl;
      hand_is = omega arith;
      stamps = λ e lt. ((a.1 e lt).1.0, omega (arith, hand_greatest live e));
      gone = λ s h. absurd (false≢true h);
      agree = tt;
      in_round = λ r. absurd (false≢true r);
    }

pub inv_run : (K : Kind) → Laws K → (live image : Table) → Lawful live → (h : History) (o : Office) → Run K live image h o
    → Inv K (suc (greatest_hand live)) (length live) o (log h)
inv_run K L live image a [] o r = subst (λ p. Inv K (suc (greatest_hand live)) (length live) p []) (sym r) (inv_new K live image a)
inv_run K L live image a (m ∷ h) o r =
    let first : ℕ = suc (greatest_hand live) in
    let n : ℕ = length live in
    let i : Inv K first n r.0 (log h) = inv_run K L live image a h r.0 r.1 in
    let P : Answer × Office → Type 0 = λ z. Inv K first n z.1 (record { event = tells m.call z.0; live = z.1.live } ∷ log h) in
    let j : P (m.answer, o) = subst P (sym r.2) (inv_step K L first n r.0 (log h) i m.call) in
    subst (λ t. Inv K first n o (record { event = tells m.call m.answer; live = t } ∷ log h)) (sym r.3) j
