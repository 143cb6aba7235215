-- Claim.
use Rattle.std.proofs.Common.{IfSome, ◌≡◌, ℕ, ◌<◌, Bool, true, false, cond, not, ◌&&◌, eqb, leb, length, get_or, set, is_some, is_none, Some, None, Ok, Err, Option, Result, List, is_ok, unwrap_or, option_map, sym, refl, ap, ◌∙◌, subst, inl, inr, true≢false, arith}
use Rattle.std.specs.Option.{option_map_or}
use Rattle.std.proofs.lemmas.List.{length-set}
use Rattle.std.proofs.lemmas.Bool.{le-leb, lt-leb, lt-ltb, eqb-true}
use Rattle.tables.specs.Tables.{Table}
use Rattle.tables.specs.Refusals.{number_of}
use Rattle.tables.specs.declared.refusal.Refusal.{Refusal}
use Rattle.tables.specs.declared.refusal.Refusal.TheVariants.{HoldsFull, Conflict, Paused, Ended}
use Rattle.modes.specs.Kind.{Kind}
use Rattle.rules.proofs.Below.{count_same}
use Rattle.rules.proofs.Tests.{not_false, same_cases, eqb_self}
use Rattle.rules.specs.Numbers.{maybe, changed, one_if}
use Rattle.rules.specs.Office.{is_before, is_after, new_session, session, mode_at, others_held, claim, refused, done}
use Rattle.rules.specs.Rules.{wanted, conflicts, declines, with_session, first_side, after_claim, after_leave, Step}
use Rattle.keyed.proofs.Every.{every_set}
use Rattle.keyed.proofs.Counting.{counted, count_find, count_room, count_full}
use Rattle.keyed.proofs.Finding.{is_key_true, free_none, find_missing}
use Rattle.keyed.proofs.Held.{ap_cond, held_some, free_places, any_below_held}
use Rattle.keyed.specs.Keyed.{under, is_key, find, held, any_held, count_taken}
use Rattle.sessions.specs.Sessions.{hold_entry, hold_key, session_number, hold_place, text_that_stays, granted_hold, with_hold, side_then}
use Rattle.sessions.specs.View.{side_of, mode_of, text_of, session_of, conflicting}
use Rattle.sessions.specs.declared.hold.Hold.{Hold}
use Rattle.sessions.specs.declared.session.Session.{Session}
use Rattle.sessions.specs.declared.session.Side.{Side}
use Rattle.sessions.specs.declared.table.SessionTable.{SessionTable}
use Rattle.sessions.specs.declared.session.Side.TheVariants.{Before, After}
use Rattle.sessions.proofs.Begins.{some_mapped}
use Rattle.sessions.proofs.Ext.{session_ext}
use Rattle.sessions.proofs.HoldPlaces.{place_cases, place_none, find_granted, distinct_granted, text_granted}
use Rattle.sessions.proofs.Parts.{Parts, parts, seen, Kept, kept, with_place, At, Has, stands}
use Rattle.sessions.proofs.Places.{number_of_session, seen_changed, seen_ended, session_at, is_at}
use Rattle.sessions.proofs.Sound.{sound_of, changed_kept}
use Rattle.sessions.proofs.Steps.{Falls, refusing, performing, is_below, hit, pass, over}

-- ── the eight holds ──

abbrev other : ℕ → ℕ → Bool
other e j = not (eqb j e)

-- the entries other than e that the session holds are its holds taken for others
others_taken : (d : Parts) (live image : Table) (s e : ℕ) (x : Session) → Kept (length live) d → Has d s x
    → others_held (seen d live image) s e ≡ count_taken hold_key (other e) x.holds
others_taken d live image s e x kept p =
    let w = sound_of d s x kept p in
    count_same (length live) (λ j. not (eqb j e) && is_some (mode_at (seen d live image) s j)) (λ j. not (eqb j e) && is_some (find hold_key x.holds j))
    (λ j l.
    ap (λ z. not (eqb j e) && is_some (z.mode j)) (session_at d live image s x p)
    ∙ ap (λ b. not (eqb j e) && b) (some_mapped (λ h. h.mode) (held hold_entry x.holds j) ∙ held_some hold_entry x.holds j))
    ∙ count_find hold_key (other e) (length live) x.holds w.entries w.below

-- no hold is e's and none is free
holds_full : (d : Parts) (live image : Table) (s e : ℕ) (x : Session) → Kept (length live) d → Has d s x → hold_place x.holds e ≡ None
    → leb 8 (others_held (seen d live image) s e) ≡ true
holds_full d live image s e x kept p q =
    let l = x.holds in
    let w = (sound_of d s x kept p).eight in
    let r = place_none l e q in
    let t : count_taken hold_key (other e) l ≡ length l =
    count_full hold_key (other e) l (free_places hold_entry l ∙ r.1)
    (λ k f. subst (λ j. find hold_key l j ≡ None) (sym (eqb-true k e (not_false (eqb k e) f))) (find_missing hold_key l e r.0)) in
    let o = others_taken d live image s e x kept p in
    le-leb 8 (others_held (seen d live image) s e) (omega (arith, t, o, w))

-- the own hold and a free place do not count
own_uncounted : (e : ℕ) (x : Option Hold) → is_key (hold_key x) e ≡ true → counted (other e) (hold_key x) ≡ 0
own_uncounted e x h = ap (counted (other e)) (is_key_true (hold_key x) e h) ∙ ap (λ b. one_if (not b)) (eqb_self e)

free_uncounted : (e : ℕ) (x : Option Hold) → is_none x ≡ true → counted (other e) (hold_key x) ≡ 0
free_uncounted e x h = ap (λ x. counted (other e) (hold_key x)) (free_none x h)

-- there is a hold for e
holds_room : (d : Parts) (live image : Table) (s e k : ℕ) (x : Session) → Kept (length live) d → Has d s x → hold_place x.holds e ≡ Some k
    → leb 8 (others_held (seen d live image) s e) ≡ false
holds_room d live image s e k x kept p q =
    let l = x.holds in
    let w = (sound_of d s x kept p).eight in
    let o = others_taken d live image s e x kept p in
    let t : count_taken hold_key (other e) l < length l =
    elim (place_cases l e k q) [
      | inl r ↦ count_room hold_key (other e) (λ x. is_key (hold_key x) e) l k (own_uncounted e) r
      | inr r ↦ count_room hold_key (other e) is_none l k (free_uncounted e) r.1
    ] in
    lt-leb 8 (others_held (seen d live image) s e) (omega (arith, t, o, w))

-- ── conflicts ──

-- a test and one that fails
and_false_right : (b : Bool) → (b && false) ≡ false
and_false_right true = refl
and_false_right false = refl

-- a number that may be there, in the rules' words and in the library's
maybe_or : (o : Option ℕ) (p : ℕ → Bool) → maybe o false p ≡ option_map_or p o false
maybe_or None p = refl
maybe_or (Some k) p = refl

-- the sessions in conflict are found among those of the table
conflicts_held : {n : ℕ} (K : Kind) (d : Parts) (live image : Table) (s e w : ℕ) → Kept n d
    → conflicts K (seen d live image) s e w ≡ any_held (conflicting (K.conflict w) s e) d.sessions
conflicts_held K d live image s e w kept =
    any_below_held session_number (λ k q. not (eqb k s) && maybe ((unwrap_or (option_map session_of q) new_session).mode e) false (K.conflict w))
    (conflicting (K.conflict w) s e) d.next d.sessions (λ k. and_false_right (not (eqb k s)))
    (λ x. ap (λ b. not (eqb x.number s) && b) (maybe_or (mode_of (held hold_entry x.holds e)) (K.conflict w))) kept.numbers kept.given

-- ── the round's answer ──

-- the rules' tests of a claim in a round
abbrev is_paused : Bool → Option Side → Bool → Bool
is_paused b s c = b && (is_after (side_of s) && not c)

abbrev is_ended : Bool → Option Side → Bool → Bool
is_ended b s c = b && (is_before (side_of s) && c)

-- what the rules' tests say where a side is given
abbrev Says : Result (Option Side) Refusal → Bool → Option Side → Bool → Type 0
Says (Ok t) b s c = (is_paused b s c ≡ false) × (is_ended b s c ≡ false) × (side_of t ≡ cond b (first_side (side_of s) c) (side_of s))
Says (Err f) b s c = Unit {0}

side_says : (b : Bool) (s : Option Side) (c : Bool) → Says (side_then b s c) b s c
side_says false s c = (refl, refl, refl)
side_says true None true = (refl, refl, refl)
side_says true None false = (refl, refl, refl)
side_says true (Some Before) true = tt
side_says true (Some Before) false = (refl, refl, refl)
side_says true (Some After) true = (refl, refl, refl)
side_says true (Some After) false = tt

-- the number of a refusal, 0 for a side
abbrev stop : Result (Option Side) Refusal → ℕ
stop (Ok t) = 0
stop (Err f) = number_of f

-- the same where the session ends
says_ended : (b : Bool) (s : Option Side) (c : Bool) → side_then b s c ≡ Err Ended → (is_paused b s c ≡ false) × (is_ended b s c ≡ true)
says_ended false s c e = let z : ◌≡◌ {A = ℕ} 0 7 = ap stop e in absurd (omega arith)
says_ended true None c e = let z : ◌≡◌ {A = ℕ} 0 7 = ap stop e in absurd (omega arith)
says_ended true (Some Before) true e = (refl, refl)
says_ended true (Some Before) false e = let z : ◌≡◌ {A = ℕ} 0 7 = ap stop e in absurd (omega arith)
says_ended true (Some After) true e = let z : ◌≡◌ {A = ℕ} 0 7 = ap stop e in absurd (omega arith)
says_ended true (Some After) false e = let z : ◌≡◌ {A = ℕ} 6 7 = ap stop e in absurd (omega arith)

-- the refusal that is there
abbrev refusal_of : Result (Option Side) Refusal → Refusal
refusal_of (Ok t) = Paused
refusal_of (Err f) = f

-- the same where it is paused, the only other refusal
says_paused : (b : Bool) (s : Option Side) (c : Bool) (f : Refusal) → side_then b s c ≡ Err f → (f ≡ Ended → ⊥) → (f ≡ Paused) × (is_paused b s c ≡ true)
says_paused false s c f e n = absurd (true≢false (ap is_ok e))
says_paused true None c f e n = absurd (true≢false (ap is_ok e))
says_paused true (Some Before) true f e n = absurd (n (sym (ap refusal_of e)))
says_paused true (Some Before) false f e n = absurd (true≢false (ap is_ok e))
says_paused true (Some After) true f e n = absurd (true≢false (ap is_ok e))
says_paused true (Some After) false f e n = (sym (ap refusal_of e), refl)

-- entry e is copied
abbrev mark : Parts → ℕ → Bool
mark d e = get_or d.copied e false

-- what the round answers to a claim of entry e by session x
abbrev pub RoundSays : Parts → Session → ℕ → Result (Option Side) Refusal → Type 0
RoundSays d x e r = r ≡ side_then d.round x.side (mark d e)

-- ── what each way of a claim is ──

-- no hold is left
pub claim_full : (K : Kind) (d : Parts) (live image : Table) (s e m : ℕ) (x : Session) {r : Option ℕ} → Kept (length live) d → Has d s x → e < length live → m < K.modes
    → r ≡ hold_place x.holds e → r ≡ None → Step K (seen d live image) (claim s e m) (refused HoldsFull) (seen d live image)
claim_full K d live image s e m x kept p h a q f =
    refusing K (seen d live image) (claim s e m) HoldsFull
    (pass (is_at d live image s x p) (pass (is_below h) (pass (is_below a) (hit (holds_full d live image s e x kept p (sym q ∙ f))))))

-- what is known where the first four refusals do not fit: place k of session x in place i is for e, and the claim wants mode w
pub record Asked (K : Kind) (n : ℕ) (d : Parts) (s e m i k w : ℕ) (x : Session) : Type 0 where
  pub within : i < length d.sessions
  pub kept : Kept n d
  pub named : At d s i
  pub session : Has d s x
  pub entry : e < n
  pub mode : m < K.modes
  pub place : hold_place x.holds e ≡ Some k
  pub want : w ≡ wanted K m (mode_of (held hold_entry x.holds e))

module _ {K : Kind} {d : Parts} (live image : Table) {s e m i k w : ℕ} {x : Session} (a : Asked K (length live) d s e m i k w x) where
  conflict_test : conflicts K (seen d live image) s e (wanted K m (mode_at (seen d live image) s e)) ≡ any_held (conflicting (K.conflict w) s e) d.sessions
  conflict_test =
      ap (λ z. conflicts K (seen d live image) s e (wanted K m (z.mode e))) (session_at d live image s x a.session)
      ∙ ap (conflicts K (seen d live image) s e) (sym a.want) ∙ conflicts_held K d live image s e w a.kept

  room_test : leb 8 (others_held (seen d live image) s e) ≡ false
  room_test = holds_room d live image s e k x a.kept a.session a.place

  pause_test : (d.round && (is_after (session (seen d live image) s).side && not (mark d e))) ≡ is_paused d.round x.side (mark d e)
  pause_test = ap (λ z. d.round && (is_after z.side && not (mark d e))) (session_at d live image s x a.session)

  end_test : (d.round && (is_before (session (seen d live image) s).side && mark d e)) ≡ is_ended d.round x.side (mark d e)
  end_test = ap (λ z. d.round && (is_before z.side && mark d e)) (session_at d live image s x a.session)

  pub claim_conflict : true ≡ any_held (conflicting (K.conflict w) s e) d.sessions
      → Step K (seen d live image) (claim s e m) (refused Conflict) (seen d live image)
  claim_conflict c =
      refusing K (seen d live image) (claim s e m) Conflict
      (pass (is_at d live image s x a.session) (pass (is_below a.entry) (pass (is_below a.mode) (pass room_test (hit (conflict_test ∙ sym c))))))

  pub claim_paused : (f : Refusal) {r : Bool} → r ≡ any_held (conflicting (K.conflict w) s e) d.sessions → r ≡ false → RoundSays d x e (Err f) → (f ≡ Ended → ⊥)
      → Step K (seen d live image) (claim s e m) (refused f) (seen d live image)
  claim_paused f c o q n =
      let y = says_paused d.round x.side (mark d e) f (sym q) n in
      subst (λ f. Step K (seen d live image) (claim s e m) (refused f) (seen d live image)) (sym y.0)
      (refusing K (seen d live image) (claim s e m) Paused
      (pass (is_at d live image s x a.session) (pass (is_below a.entry) (pass (is_below a.mode) (pass room_test (pass (conflict_test ∙ (sym c ∙ o)) (hit (pause_test ∙ y.1))))))))

  -- no refusal before 7 fits
  unrefused : any_held (conflicting (K.conflict w) s e) d.sessions ≡ false → is_paused d.round x.side (mark d e) ≡ false
      → Falls (declines K (seen d live image) (claim s e m)) None
  unrefused c y =
      pass (is_at d live image s x a.session) (pass (is_below a.entry) (pass (is_below a.mode) (pass room_test (pass (conflict_test ∙ c) (pass (pause_test ∙ y) over)))))

  pub claim_ended : {r : Bool} → r ≡ any_held (conflicting (K.conflict w) s e) d.sessions → r ≡ false → RoundSays d x e (Err Ended)
      → Step K (seen d live image) (claim s e m) (refused Ended) (seen (with_place d i None) live image)
  claim_ended c f q =
      let o = seen d live image in
      let y = says_ended d.round x.side (mark d e) (sym q) in
      performing K o (claim s e m) (refused Ended) (seen (with_place d i None) live image) (unrefused (sym c ∙ f) y.0)
      (ap (λ p. (refused Ended, p)) (seen_ended d live image s i a.kept a.named)
      ∙ sym (ap (λ b. cond b (refused Ended, after_leave o s) (done, after_claim o s e (wanted K m (mode_at o s e)))) (end_test ∙ y.1)))

  -- the session after a grant
  abbrev granted : Option Side → Session
  granted t = with_hold x k (granted_hold (get_or x.holds k None) e w) t

  seen_granted : (t : Option Side) → side_of t ≡ cond d.round (first_side (side_of x.side) (mark d e)) (side_of x.side)
      → seen (with_place d i (Some (granted t))) live image ≡ after_claim (seen d live image) s e (wanted K m (mode_at (seen d live image) s e))
  seen_granted t q =
      let o = seen d live image in
      let l = x.holds in
      let h = granted_hold (get_or l k None) e w in
      let y : Hold = record { entry = e; mode = w; written = text_that_stays (get_or l k None) e } in
      let z = session_at d live image s x a.session in
      let f = find_granted l e k y refl a.place in
      let want : w ≡ wanted K m (mode_at o s e) = a.want ∙ sym (ap (λ z. wanted K m (z.mode e)) z) in
      let same =
      session_ext (session_of (granted t))
      (record {
        side = cond o.round (first_side (session o s).side (o.copied e)) (session o s).side;
        mode = changed (session o s).mode e (Some (wanted K m (mode_at o s e)));
        text = (session o s).text;
      })
      (q ∙ sym (ap (λ z. cond o.round (first_side z.side (o.copied e)) z.side) z))
      (λ j.
      ap mode_of (f j) ∙ ap_cond mode_of (eqb j e) (Some y) (held hold_entry l j) ∙ ap (λ v. cond (eqb j e) (Some v) (mode_of (held hold_entry l j))) want
      ∙ sym (ap (λ z. cond (eqb j e) (Some (wanted K m (mode_at o s e))) (z.mode j)) z))
      (λ j.
      ap text_of (f j) ∙ ap_cond text_of (eqb j e) (Some y) (held hold_entry l j)
      ∙ elim (same_cases j e) [
        | inl v ↦
            ap (λ b. cond b (text_of (Some y)) (text_of (held hold_entry l j))) v.0 ∙ text_granted l e k w a.place
            ∙ ap (λ j. text_of (held hold_entry l j)) (sym v.1) ∙ sym (ap (λ z. z.text j) z)
        | inr v ↦ ap (λ b. cond b (text_of (Some y)) (text_of (held hold_entry l j))) v.0 ∙ sym (ap (λ z. z.text j) z)
      ]) in
      seen_changed d live image s i (granted t) (number_of_session d s i x a.named a.session) a.named ∙ ap (λ x. with_session o s (Some x)) same

  pub claim_done : (t : Option Side) {r : Bool} → r ≡ any_held (conflicting (K.conflict w) s e) d.sessions → r ≡ false → RoundSays d x e (Ok t)
      → Step K (seen d live image) (claim s e m) done
      (seen (with_place d i (Some (granted t))) live image)
  claim_done t c f q =
      let o = seen d live image in
      let y = subst (λ r. Says r d.round x.side (mark d e)) (sym q) (side_says d.round x.side (mark d e)) in
      performing K o (claim s e m) done (seen (with_place d i (Some (granted t))) live image) (unrefused (sym c ∙ f) y.0)
      (ap (λ p. (done, p)) (seen_granted t y.2)
      ∙ sym (ap (λ b. cond b (refused Ended, after_leave o s) (done, after_claim o s e (wanted K m (mode_at o s e)))) (end_test ∙ y.1)))

-- a grant keeps what the table keeps
pub claim_kept : {K : Kind} {n : ℕ} {d : Parts} {s e m i k w : ℕ} {x : Session} (t : Option Side) → Asked K n d s e m i k w x
    → Kept n (with_place d i (Some (with_hold x k (granted_hold (get_or x.holds k None) e w) t)))
claim_kept {n = n} {d = d} {s = s} {e = e} {i = i} {k = k} {w = w} {x = x} t a =
    let l = x.holds in
    let g = sound_of d s x a.kept a.session in
    let y : Hold = record { entry = e; mode = w; written = text_that_stays (get_or l k None) e } in
    changed_kept d s i (with_hold x k (Some y) t) a.within a.kept a.named (number_of_session d s i x a.named a.session)
    (record {
      eight = length-set l k (Some y) ∙ g.eight;
      entries = distinct_granted l e k y refl a.place g.entries;
      below = every_set (λ x. under n (hold_key x)) l k (Some y) (lt-ltb e n a.entry) g.below;
    })

-- the sessions that the code leaves, where x stands in place i
pub granted_as : {K : Kind} {n : ℕ} {d : Parts} {s e m i k w : ℕ} {x : Session} (t : Option Side) {l : List (Option Session)} → Asked K n d s e m i k w x
    → l ≡ set d.sessions i (option_map (λ y. with_hold y k (granted_hold (get_or y.holds k None) e w) t) (get_or d.sessions i None))
    → l ≡ set d.sessions i (Some (with_hold x k (granted_hold (get_or x.holds k None) e w) t))
granted_as {d = d} {s = s} {e = e} {i = i} {k = k} {w = w} {x = x} t a r =
    r
    ∙ ap (λ o. set d.sessions i (option_map (λ y. with_hold y k (granted_hold (get_or y.holds k None) e w) t) o)) (stands d s i x a.named a.session)

-- the place for a hold is one of the eight
pub place_below : (t : SessionTable) (s k : ℕ) (x : Session) {r : Option ℕ} → Has (parts t) s x → IfSome r (λ k. k < length x.holds) → r ≡ Some k → k < 8
place_below t s k x h w q =
    let eight = (sound_of (parts t) s x (kept t) h).eight in
    let b : k < length x.holds = subst (λ r. IfSome r (λ k. k < length x.holds)) q w in
    omega (arith, eight, b)

-- from the checks of a claim
pub asked : (K : Kind) (t : SessionTable) (s e m i k w : ℕ) (x : Session) {r : Option ℕ} → (i < length t.sessions) × At (parts t) s i × Has (parts t) s x
    → e < t.entries → m < K.modes → r ≡ hold_place x.holds e → r ≡ Some k → w ≡ wanted K m (mode_of (held hold_entry x.holds e))
    → Asked K t.entries (parts t) s e m i k w x
asked K t s e m i k w x p h a q r v =
    record { within = p.0; kept = kept t; named = p.1; session = p.2; entry = h; mode = a; place = sym q ∙ r; want = v }

-- what is known, for a live table of the count
pub asked_for : {K : Kind} {n : ℕ} {d : Parts} {s e m i k w : ℕ} {x : Session} (live : Table) → length live ≡ n → Asked K n d s e m i k w x
    → Asked K (length live) d s e m i k w x
asked_for {K} {n} {d} {s} {e} {m} {i} {k} {w} {x} live h a = subst (λ n. Asked K n d s e m i k w x) (sym h) a
