-- The invariant survives a granted claim.
use Rattle.std.proofs.Common.{◌≡◌, ℕ, ◌<◌, Bool, true, false, cond, not, ◌&&◌, ◌||◌, eqb, ◌≢◌, ◌⊎◌, ◌∷◌, is_some, Some, None, Option, unwrap_or, sym, refl, ap, ◌∙◌, subst, ap₂, inl, inr, arith}
use Rattle.tables.specs.Tables.{Table, entry}
use Rattle.modes.specs.Kind.{Kind, Laws}
use Rattle.rules.specs.Numbers.{changed}
use Rattle.rules.specs.Office.{Side, neither, before, after, is_before, is_after, Session, new_session, Office, mode_at}
use Rattle.rules.specs.Rules.{holds_mode, wanted, conflicts, with_session, first_side}
use Rattle.rules.specs.History.{claims, by, Log, events}
use Rattle.rules.specs.Copying.{copied}
use Rattle.rules.specs.Sides.{side}
use Rattle.rules.proofs.Tests.{or_right, and_false, same_cases, eqb_self, eqb_apart, changed_same, at_changed, some_none, same_value}
use Rattle.rules.proofs.Below.{any_yes, any_no}
use Rattle.rules.proofs.Invariant.{Known, Allowed, Sided, Apart, Inv}
use Rattle.rules.proofs.Holders.{mode_session, session_mode, live_status, live_sided}
use Rattle.rules.proofs.SessionEvents.{inv_by}

-- ── sides ──

-- what a granted claim holds, its side allows
allowed_new : (σ : Side) (b : Bool) → (is_after σ && not b) ≡ false → (is_before σ && b) ≡ false → Allowed (first_side σ b) b
allowed_new neither true p q = refl
allowed_new neither false p q = refl
allowed_new before b p q = q
allowed_new after true p q = refl
allowed_new after false p q = sym p

-- what a side allowed, it allows still
allowed_old : (σ : Side) (b c : Bool) → Allowed σ c → Allowed (first_side σ b) c
allowed_old neither b c g = elim g [ ]
allowed_old before b c g = g
allowed_old after b c g = g

-- ── the wanted mode ──

module _ (K : Kind) (L : Laws K) (m : ℕ) (lt : m < K.modes) where
  wanted_mode : (y : Option ℕ) → ((h : ℕ) → y ≡ Some h → h < K.modes) → wanted K m y < K.modes
  wanted_mode None f = lt
  wanted_mode (Some h) f = L.join_mode m h lt (f h refl)

  -- a test that a join passes when its second part does
  module _ (p : ℕ → Bool) (joins : (a b : ℕ) → a < K.modes → b < K.modes → p (K.join a b) ≡ (p a || p b)) where
    wanted_passes : (y : Option ℕ) (h : ℕ) → h < K.modes → y ≡ Some h → p h ≡ true → p (wanted K m y) ≡ true
    wanted_passes None h i q r = some_none q refl
    wanted_passes (Some g) h i q r =
        let z : g ≡ h = same_value {x = Some g} refl q in
        let i' : g < K.modes = omega arith in
        joins m g lt i' ∙ or_right (p m) (p g) (subst (λ j. p j ≡ true) (sym z) r)

-- whoever else holds the entry does so in a mode without conflict
no_conflict : (K : Kind) (o : Office) (k e w s b : ℕ) → conflicts K o k e w ≡ false → s < o.next_session → s ≢ k → mode_at o s e ≡ Some b → K.conflict w b ≡ false
no_conflict K o k e w s b h lt ne q =
    let c = any_no o.next_session (λ j. not (eqb j k) && holds_mode o j e (λ i. K.conflict w i)) s h lt in
    let d : holds_mode o s e (λ i. K.conflict w i) ≡ false = rw (eqb_apart ne) at c in
    rw q at d

-- ── a granted claim ──

module _ (K : Kind) (L : Laws K) (first n : ℕ) (o : Office) (l : Log) (t : Table) (k e m : ℕ) (x : Session) (i : Inv K first n o l) (q : o.sessions k ≡ Some x)
    (lt : e < n) (lm : m < K.modes) (free : conflicts K o k e (wanted K m (x.mode e)) ≡ false) where
  -- the wanted mode, and the side after the claim
  abbrev w : ℕ
  w = wanted K m (x.mode e)

  abbrev σ' : Side
  σ' = cond o.round (first_side x.side (o.copied e)) x.side

  -- the session after the claim, with side σ
  abbrev claimed : Side → Session
  claimed σ = record { side = σ; mode = changed x.mode e (Some w); text = x.text }

  known : Known K n (entry o.live) (events l k) x
  known = (live_status K first n o l i k x q).1

  wanted_inside : w < K.modes
  wanted_inside = wanted_mode K L m lm (x.mode e) (λ h p. (known.inside e h p).1)

  -- a mode held before that passes p is at the same entry a mode that passes p
  kept_mode : (p : ℕ → Bool) → ((a b : ℕ) → a < K.modes → b < K.modes → p (K.join a b) ≡ (p a || p b))
      → (j h : ℕ) → x.mode j ≡ Some h → p h ≡ true → (b : ℕ) × (changed x.mode e (Some w) j ≡ Some b) × (p b ≡ true)
  kept_mode p joins j h z r =
      elim (same_cases j e) [
        | inl c ↦ (
          w,
          rw c.0,
          wanted_passes K L m lm p joins (x.mode e) h (known.inside j h z).1 (subst (λ i. x.mode i ≡ Some h) c.1 z) r,
        )
        | inr c ↦ (h, rw c.0 z, r)
      ]

  known_claimed : (σ : Side) → Known K n (entry o.live) (claims e ∷ events l k) (claimed σ)
  known_claimed σ =
      record {
        holds_is = λ j. elim (same_cases j e) [ inl c ↦ rw c.0 | inr c ↦ rw c.0 (known.holds_is j) ];
        holds_any_is = sym (any_yes n (λ j. is_some (changed x.mode e (Some w) j)) e lt (ap is_some (changed_same x.mode e (Some w))));
        inside = λ j b h. elim (same_cases j e) [
          | inl c ↦
              let h' : Some w ≡ Some b = rw c.0 at h in
              let r : w ≡ b = same_value {x = Some w} refl h' in
              let r1 = c.1 in
              let wi = wanted_inside in
              (omega arith, omega arith)
          | inr c ↦ known.inside j b (rw c.0 at h)
        ];
        text_is = known.text_is;
        wrote_is = known.wrote_is;
        writer = λ j y h. let r = known.writer j y h in kept_mode K.writes L.join_writes j r.0 r.1 r.2;
        reader = λ j h. let r = known.reader j h in kept_mode K.reads L.join_reads j r.0 r.1 r.2;
        reads_right = known.reads_right;
      }

  -- a hold of the office after the claim: the claimed one, or an old one
  abbrev NewHold : ℕ → ℕ → ℕ → Type 0
  NewHold s j b = ((s ≡ k) × (j ≡ e) × (b ≡ w)) ⊎ (mode_at o s j ≡ Some b)

  new_hold : (σ : Side) (s j b : ℕ) → mode_at (with_session o k (Some (claimed σ))) s j ≡ Some b → NewHold s j b
  new_hold σ s j b =
      at_changed (λ s y. (unwrap_or y new_session).mode j ≡ Some b → NewHold s j b) o.sessions k (Some (claimed σ))
      (λ h. elim (same_cases j e) [
        | inl c ↦
            let h' : Some w ≡ Some b = rw c.0 at h in
            inl (refl, c.1, sym (same_value {x = Some w} refl h'))
        | inr c ↦ inr (session_mode o k j b x q (let h' : x.mode j ≡ Some b = rw c.0 at h in h'))
      ])
      (λ s ne h. inr h) s

  -- the claimed hold conflicts with no other
  apart_new : (s b : ℕ) → s ≢ k → mode_at o s e ≡ Some b → K.conflict w b ≡ false
  apart_new s b ne h =
      let y = mode_session o s e b h in
      no_conflict K o k e w s b free (live_status K first n o l i s y.0 y.1).0 ne h

  mode_inside : (s j b : ℕ) → mode_at o s j ≡ Some b → b < K.modes
  mode_inside s j b h = let y = mode_session o s j b h in ((live_status K first n o l i s y.0 y.1).1.inside j b y.2).1

  apart_claimed : (σ : Side) → Apart K (with_session o k (Some (claimed σ)))
  apart_claimed σ s s' j b b' ne h h' =
      elim (new_hold σ s j b h) [
        | inl c ↦ elim (new_hold σ s' j b' h') [
          | inl c' ↦ absurd (ne (c.0 ∙ sym c'.0))
          | inr d' ↦ subst (λ z. K.conflict z b' ≡ false) (sym c.2) (apart_new s' b' (λ z. ne (c.0 ∙ sym z)) (subst (λ z. mode_at o s' z ≡ Some b') c.1 d'))
        ]
        | inr d ↦ elim (new_hold σ s' j b' h') [
          | inl c' ↦
              let f = apart_new s b (λ z. ne (z ∙ sym c'.0)) (subst (λ z. mode_at o s z ≡ Some b) c'.1 d) in
              subst (λ z. K.conflict b z ≡ false) (sym c'.2) (L.both_sides b w (mode_inside s j b d) wanted_inside ∙ f)
          | inr d' ↦ i.apart s s' j b b' ne d d'
        ]
      ]

  -- 6 and 7 do not fit
  module _ (six : (o.round && (is_after x.side && not (o.copied e))) ≡ false) (seven : (o.round && (is_before x.side && o.copied e)) ≡ false) where
    sided_claimed : o.round ≡ true → Sided o.copied (first_side (side l k) (copied l e)) (Some (claimed σ'))
    sided_claimed r =
        let sd = live_sided K first n o l i r k x q in
        let mk : o.copied e ≡ copied l e = ap (λ f. f e) (i.in_round r).marks_are in
        let six' : (is_after (side l k) && not (o.copied e)) ≡ false = subst (λ z. (is_after z && not (o.copied e)) ≡ false) sd.0 (and_false r six) in
        let seven' : (is_before (side l k) && o.copied e) ≡ false = subst (λ z. (is_before z && o.copied e) ≡ false) sd.0 (and_false r seven) in (
          ap (λ b. cond b (first_side x.side (o.copied e)) x.side) r ∙ ap₂ first_side sd.0 mk,
          λ j b h. subst (λ z. Allowed (first_side (side l k) z) (o.copied j)) mk
              (elim (same_cases j e) [
                | inl c ↦ subst (λ z. Allowed (first_side (side l k) (o.copied e)) (o.copied z)) (sym c.1) (allowed_new (side l k) (o.copied e) six' seven')
                | inr c ↦ allowed_old (side l k) (o.copied e) (o.copied j) (sd.1 j b (rw c.0 at h))
              ]),
        )

    pub inv_claim : Inv K first n (with_session o k (Some (claimed σ'))) (record { event = by k (claims e); live = t } ∷ l)
    inv_claim =
        inv_by K first n o l t k x (claims e) (Some (claimed σ')) i q refl
        ((live_status K first n o l i k x q).0, known_claimed σ')
        (apart_claimed σ')
        (λ r. rw (eqb_self k) (sided_claimed r))
