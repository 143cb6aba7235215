-- An event of one session tells nothing of the others; a session number not told yet has no event and no side.
use Rattle.std.proofs.Common.{◌≡◌, ℕ, ◌≤◌, cond, ◌≢◌, [], ◌∷◌, refl, ap, ◌∙◌, arith}
use Rattle.tables.specs.Tables.{Table}
use Rattle.rules.specs.Office.{neither, before}
use Rattle.rules.specs.History.{
  SessionEvent,
  claims,
  reads,
  writes,
  commits,
  leaves,
  Event,
  nothing,
  by,
  opens,
  copies,
  works,
  closes,
  drops,
  Log,
  events,
}
use Rattle.rules.specs.Holding.{holds_any, above, numbers}
use Rattle.rules.specs.Sides.{side}
use Rattle.rules.proofs.Tests.{eqb_self, eqb_apart}

module _ (l : Log) (t : Table) (k : ℕ) (v : SessionEvent) where
  pub events_own : events (record { event = by k v; live = t } ∷ l) k ≡ v ∷ events l k
  events_own = rw (eqb_self k)

  pub events_other : (s : ℕ) → s ≢ k → events (record { event = by k v; live = t } ∷ l) s ≡ events l s
  events_other s ne = rw (eqb_apart ne)

pub side_other : (l : Log) (t : Table) (k : ℕ) (v : SessionEvent) (s : ℕ) → s ≢ k → side (record { event = by k v; live = t } ∷ l) s ≡ side l s
side_other l t k (claims e) s ne = rw (eqb_apart ne)
side_other l t k (reads e x) s ne = refl
side_other l t k (writes e x) s ne = refl
side_other l t k commits s ne = refl
side_other l t k leaves s ne = refl

-- not below the numbers told
pub unused : (l : Log) (s : ℕ) → numbers l ≤ s → (events l s ≡ []) × (side l s ≡ neither)
unused [] s h = (refl, refl)
unused (r ∷ l) s h = go r.event h (unused l s)
  where
    go : (d : Event) → above d (numbers l) ≤ s → (numbers l ≤ s → (events l s ≡ []) × (side l s ≡ neither))
        → (events (record { event = d; live = r.live } ∷ l) s ≡ []) × (side (record { event = d; live = r.live } ∷ l) s ≡ neither)
    go nothing h ih = ih h
    go (by k v) h ih =
        let ne : s ≢ k = omega arith in
        let i = ih (omega arith) in
        (events_other l r.live k v s ne ∙ i.0, side_other l r.live k v s ne ∙ i.1)
    go opens h ih = ((ih h).0, ap (λ vs. cond (holds_any vs) before neither) (ih h).0)
    go (copies e) h ih = ih h
    go (works k) h ih = ih h
    go closes h ih = ih h
    go drops h ih = ih h
