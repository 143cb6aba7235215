-- The laws of each round closed in every run.
use Rattle.std.proofs.Common.{◌≡◌, ℕ, suc, ◌<◌, Bool, true, false, cond, not, eqb, [], ◌∷◌, length, Some, None, Option, sym, refl, ap, ◌∙◌, subst}
use mathlib.Core.Bool.{false≢true}
use Rattle.tables.specs.Tables.{Table, Lawful}
use Rattle.tables.specs.Refusals.{number_of}
use Rattle.tables.specs.declared.refusal.Refusal.{Refusal}
use Rattle.tables.specs.declared.refusal.Refusal.TheVariants.{Ended}
use Rattle.modes.specs.Kind.{Kind, Laws}
use Rattle.rules.specs.Numbers.{first_of}
use Rattle.rules.specs.Office.{
  Office,
  greatest_hand,
  entries,
  Call,
  begin,
  claim,
  read,
  write,
  commit,
  leave,
  open_round,
  copy,
  work,
  close_round,
  drop_round,
  Answer,
  refused,
  done,
  number,
  found,
  counts,
}
use Rattle.rules.specs.Rules.{declines, decided, step}
use Rattle.rules.specs.History.{
  Moment,
  History,
  Run,
  writes,
  commits,
  leaves,
  Event,
  nothing,
  by,
  opens,
  copies,
  works,
  closes,
  drops,
  unless_refused,
  tells,
  log,
}
use Rattle.rules.specs.Round.{ImageLaw, SerialLaw, RoundLaw, RoundsLawful, moment, EachCallExtends}
use Rattle.rules.proofs.Tests.{to_T, not_both, not_false}
use Rattle.rules.proofs.Below.{any_no}
use Rattle.rules.proofs.Invariant.{Inv}
use Rattle.rules.proofs.Declined.{none_fit}
use Rattle.rules.proofs.EachCall.{inv_run}
use Rattle.rules.proofs.RoundLaws.{serial_law, image_law}

-- ── only an accepted close tells of a close ──

abbrev is_close : Event → Bool
is_close nothing = false
is_close (by k v) = false
is_close opens = false
is_close (copies e) = false
is_close (works k) = false
is_close closes = true
is_close drops = false

unless_close : (a : Answer) (d : Event) → is_close d ≡ false → is_close (unless_refused a d) ≡ false
unless_close (refused r) d h = refl
unless_close done d h = h
unless_close (number k) d h = h
unless_close (found t) d h = h
unless_close (counts j k) d h = h

claim_close : (s e m : ℕ) (a : Answer) → is_close (tells (claim s e m) a) ≡ false
claim_close s e m (refused r) = go (eqb (number_of r) (number_of Ended))
  where
    go : (b : Bool) → is_close (cond b (by s leaves) nothing) ≡ false
    go true = refl
    go false = refl
claim_close s e m done = refl
claim_close s e m (number k) = refl
claim_close s e m (found t) = refl
claim_close s e m (counts j k) = refl

read_close : (s e room : ℕ) (a : Answer) → is_close (tells (read s e room) a) ≡ false
read_close s e room (refused r) = refl
read_close s e room done = refl
read_close s e room (number k) = refl
read_close s e room (found t) = refl
read_close s e room (counts j k) = refl

work_close : (i : ℕ) (a : Answer) → is_close (tells (work i) a) ≡ false
work_close i (refused r) = refl
work_close i done = refl
work_close i (number k) = refl
work_close i (found t) = refl
work_close i (counts j k) = refl

-- ── what an accepted close found ──

-- a round whose entries are all copied; it leaves the tables
abbrev Found : Office → Office → Type 0
Found p o = (p.round ≡ true) × ((e : ℕ) → e < entries p → p.copied e ≡ true) × (o.live ≡ p.live) × (o.image ≡ p.image)

close_found : (K : Kind) (p : Office) (y : Option Refusal) → first_of (declines K p close_round) ≡ y
    → tells close_round (decided K p close_round y).0 ≡ closes → Found p (decided K p close_round y).1
close_found K p (Some r) e q = absurd (false≢true (ap is_close q))
close_found K p None e q =
    let a = none_fit (declines K p close_round) e in (
      not_false p.round a.0,
      λ j lt. not_false (p.copied j) (any_no (entries p) (λ e. not (p.copied e)) j a.1.0 lt),
      refl,
      refl,
    )

-- an event that is no close
other : {P : Type 0} {d : Event} → is_close d ≡ false → d ≡ closes → P
other h q = not_both (ap is_close q) h

call_found : (K : Kind) (p : Office) (c : Call) → tells c (step K p c).0 ≡ closes → Found p (step K p c).1
call_found K p begin q = other refl q
call_found K p (claim s e m) q = other (claim_close s e m (step K p (claim s e m)).0) q
call_found K p (read s e m) q = other (read_close s e m (step K p (read s e m)).0) q
call_found K p (write s e t) q = other (unless_close (step K p (write s e t)).0 (by s (writes e t)) refl) q
call_found K p (commit s) q = other (unless_close (step K p (commit s)).0 (by s commits) refl) q
call_found K p (leave s) q = other (unless_close (step K p (leave s)).0 (by s leaves) refl) q
call_found K p open_round q = other (unless_close (step K p open_round).0 opens refl) q
call_found K p (copy e) q = other (unless_close (step K p (copy e)).0 (copies e) refl) q
call_found K p (work k) q = other (work_close k (step K p (work k)).0) q
call_found K p close_round q = close_found K p (first_of (declines K p close_round)) refl q
call_found K p drop_round q = other (unless_close (step K p drop_round).0 drops refl) q

-- ── the law ──

-- of an accepted close, after a run
closed : (K : Kind) → Laws K → (live image : Table) → Lawful live → (m : Moment) (h : History) (o : Office) → Run K live image (m ∷ h) o
    → tells m.call m.answer ≡ closes → RoundLaw (suc (greatest_hand live)) (log h) m.live m.image
closed K L live image a m h o r q =
    let first : ℕ = suc (greatest_hand live) in
    let p : Office = r.0 in
    let i : Inv K first (length live) p (log h) = inv_run K L live image a h p r.1 in
    let P : Answer × Office → Type 0 = λ z. tells m.call z.0 ≡ closes in
    let f : Found p (step K p m.call).1 = call_found K p m.call (subst P r.2 q) in
    let g : Found p o = subst (λ (z : Answer × Office). Found p z.1) (sym r.2) f in
    let all : (e : ℕ) → e < length live → p.copied e ≡ true = λ e lt. g.1 e (subst (λ k. e < k) (sym i.count) lt) in
    record {
      opened = to_T (i.in_round g.0).told_open;
      image_law = subst (λ t. ImageLaw first (log h) t) (sym (r.4 ∙ g.3)) (image_law K first (length live) p (log h) i g.0 all);
      serial_law = subst (λ t. SerialLaw first (log h) t) (sym (r.3 ∙ g.2)) (serial_law K first (length live) p (log h) i g.0 all);
    }

pub rounds_lawful : RoundsLawful
rounds_lawful K L live image a [] o r = tt
rounds_lawful K L live image a (m ∷ h) o r = (λ q. closed K L live image a m h o r q, rounds_lawful K L live image a h r.0 r.1)

pub each_call_extends : EachCallExtends
each_call_extends K L o c a p s live image lw h r =
    let longer : Run K live image (moment c a p ∷ h) p = (o, r, s, refl, refl) in
    (longer, rounds_lawful K L live image lw (moment c a p ∷ h) p longer)
