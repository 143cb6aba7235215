-- The invariant survives a copy and a work.
use Rattle.std.proofs.Common.{◌≡◌, ℕ, zero, suc, ◌<◌, Bool, true, false, not, ◌&&◌, ◌∷◌, length, set, Some, None, Option, sym, refl, ap, ◌∙◌, subst, ap₂, inl, inr, true≢false, arith, length-set, get_or-set_other, get_or-set_same}
use Rattle.tables.specs.Tables.{blank, Table, entry}
use Rattle.modes.specs.Kind.{Kind}
use Rattle.rules.specs.Numbers.{maybe, changed}
use Rattle.rules.specs.Office.{Side, Session, Office, entries, is_held}
use Rattle.rules.specs.Rules.{next_entry, next_of, after_copy, after_work}
use Rattle.rules.specs.History.{copies, works, Log}
use Rattle.rules.specs.Copying.{marked}
use Rattle.rules.specs.Sides.{side, Before, After}
use Rattle.rules.specs.Writing.{opening}
use Rattle.rules.proofs.Tests.{not_true, and_true, same_cases}
use Rattle.rules.proofs.Below.{lowest_some}
use Rattle.rules.proofs.Commits.{commits_map}
use Rattle.rules.proofs.LaidEntries.{laid_at, laid_none}
use Rattle.rules.proofs.Invariant.{Sided, Tables, Inv}
use Rattle.rules.proofs.Holders.{held_is, nobody}

-- the round but for what was told of the marks
abbrev Half : ℕ → ℕ → (ℕ → Option Session) → Table → Table → (ℕ → Bool) → Log → Type 0
Half first n ss live image c l =
    record {
      image_count : length image ≡ n;
      sides : (s : ℕ) → Sided c (side l s) (ss s);
      tables : Tables first n (entry live) (entry image) c l;
    }

-- nobody has a mode for entry e
abbrev Unheld : (ℕ → Option Session) → ℕ → Type 0
Unheld ss e = (s m : ℕ) (x : Session) → ss s ≡ Some x → x.mode e ≡ Some m → ⊥

-- one more mark, at an entry that nobody holds
sided_copy : (c : ℕ → Bool) (σ : Side) (e : ℕ) (y : Option Session) → ((m : ℕ) (x : Session) → y ≡ Some x → x.mode e ≡ Some m → ⊥)
    → Sided c σ y → Sided (changed c e true) σ y
sided_copy c σ e None f h = tt
sided_copy c σ e (Some x) f h = (
  h.0,
  λ j m p. elim (same_cases j e) [
    | inl r ↦ absurd (f m x refl (subst (λ z. x.mode z ≡ Some m) r.1 p))
    | inr r ↦ rw r.0 (h.1 j m p)
  ],
)

half_copy : (first n : ℕ) (ss : ℕ → Option Session) (live image : Table) (c : ℕ → Bool) (l : Log) (e : ℕ)
    → e < n → c e ≡ false → Unheld ss e
    → Half first n ss live image c l → Half first n ss live (set image e (entry live e)) (changed c e true) l
half_copy first n ss live image c l e lt un free h =
    let more : (j : ℕ) → c j ≡ true → changed c e true j ≡ true = λ j p. elim (same_cases j e) [ inl q ↦ rw q.0 | inr q ↦ rw q.0 p ] in
    let ic = h.image_count in
    record {
      image_count = length-set image e (entry live e) ∙ h.image_count;
      sides = λ s. sided_copy c (side l s) e (ss s) (λ m x q p. free s m x q p) (h.sides s);
      tables = record {
        opening_count = h.tables.opening_count;
        live_is = h.tables.live_is;
        image_is = λ j jl p. elim (same_cases j e) [
          | inl q ↦
              subst (λ z. entry (set image e (entry live e)) z ≡ laid_at first Before l z (entry (opening l) z)) (sym q.1)
              (get_or-set_same image e (entry live e) blank (omega arith)
              ∙ h.tables.live_is e lt
              ∙ laid_none first After l e (laid_at first Before l e (entry (opening l) e)) (h.tables.uncopied_free e un))
          | inr q ↦ get_or-set_other image e j (entry live e) blank q.1 ∙ h.tables.image_is j jl (rw q.0 at p)
        ];
        uncopied_free = λ j p. elim (same_cases j e) [
          | inl q ↦ let p' : true ≡ false = rw q.0 at p in absurd (true≢false p')
          | inr q ↦ h.tables.uncopied_free j (rw q.0 at p)
        ];
        in_order = h.tables.in_order;
        writers_sided = h.tables.writers_sided;
        befores = h.tables.befores;
        afters = commits_map _ _ l (λ p s m f a. ((f a).0, λ j r. (((f a).1 j r).0, more j ((f a).1 j r).1))) h.tables.afters;
        hands_then = h.tables.hands_then;
        writes_then = h.tables.writes_then;
        hands = h.tables.hands;
      };
    }

pub inv_copy : (K : Kind) (first n : ℕ) (o : Office) (l : Log) (t : Table) (e : ℕ) → Inv K first n o l → e < n → o.copied e ≡ false → is_held o e ≡ false
    → Inv K first n (after_copy o e) (record { event = copies e; live = t } ∷ l)
inv_copy K first n o l t e i lt un fr =
    record {
      count = i.count;
      status = i.status;
      numbered = i.numbered;
      apart = i.apart;
      hand_is = i.hand_is;
      stamps = i.stamps;
      gone = i.gone;
      agree = i.agree;
      in_round = λ r.
          let R = i.in_round r in
          let H : Half first n o.sessions o.live (set o.image e (entry o.live e)) (changed o.copied e true) l =
          half_copy first n o.sessions o.live o.image o.copied l e lt un (nobody K first n o l i e fr)
          (record { image_count = R.image_count; sides = R.sides; tables = R.tables }) in
          record {
            told_open = R.told_open;
            marks_are = ap (λ c. changed c e true) R.marks_are;
            image_count = H.image_count;
            sides = H.sides;
            tables = H.tables;
          };
    }

-- ── work: its copies, one after another ──

-- a work leaves all but the image and the marks
over : Office → Table → (ℕ → Bool) → Office
over o image c =
    record {
      live = o.live;
      image = image;
      sessions = o.sessions;
      next_session = o.next_session;
      next_hand = o.next_hand;
      round = o.round;
      copied = c;
    }

-- one turn of a work of at most suc k copies, where next names y
abbrev pub turn : ℕ → Office → Option ℕ → ℕ × Office
turn k o y = maybe y (0, o) (λ e. (suc (after_work k (after_copy o e)).0, (after_work k (after_copy o e)).1))

pub next_is : (n : ℕ) (h c : ℕ → Bool) (e : ℕ) → next_entry n h c ≡ Some e → (e < n) × (c e ≡ false) × (h e ≡ false)
next_is n h c e q =
    let a = lowest_some n (λ e. not (c e) && not (h e)) e q in
    let b = and_true (not (c e)) (not (h e)) a.1 in
    (a.0, not_true (c e) b.0, not_true (h e) b.1)

worked_shape : (k : ℕ) (o : Office) → (after_work k o).1 ≡ over o (after_work k o).1.image (after_work k o).1.copied
unfolding over
worked_shape zero o = refl
worked_shape (suc k) o = go (next_of o) (worked_shape k)
  where
    go : (y : Option ℕ) → ((p : Office) → (after_work k p).1 ≡ over p (after_work k p).1.image (after_work k p).1.copied)
        → (turn k o y).1 ≡ over o (turn k o y).1.image (turn k o y).1.copied
    go None ih = refl
    go (Some e) ih = ih (after_copy o e)

worked_half : (first n : ℕ) (l : Log) (k : ℕ) (o : Office) → entries o ≡ n
    → ((e : ℕ) → is_held o e ≡ false → Unheld o.sessions e)
    → Half first n o.sessions o.live o.image o.copied l
    → Half first n o.sessions o.live (after_work k o).1.image (after_work k o).1.copied l
worked_half first n l zero o q f h = h
worked_half first n l (suc k) o q f h = go (next_of o) refl (worked_half first n l k)
  where
    go : (y : Option ℕ) → next_of o ≡ y
        → ((p : Office) → entries p ≡ n
        → ((e : ℕ) → is_held p e ≡ false → Unheld p.sessions e)
        → Half first n p.sessions p.live p.image p.copied l
        → Half first n p.sessions p.live (after_work k p).1.image (after_work k p).1.copied l)
        → Half first n o.sessions o.live (turn k o y).1.image (turn k o y).1.copied l
    go None p ih = h
    go (Some e) p ih =
        let a = next_is (entries o) (is_held o) o.copied e p in
        let a0 = a.0 in
        ih (after_copy o e) q f (half_copy first n o.sessions o.live o.image o.copied l e (omega arith) a.1 (f e a.2) h)

worked_marks : (k : ℕ) (o : Office) → (after_work k o).1.copied ≡ marked (after_work k o).0 (entries o) (is_held o) o.copied
worked_marks zero o = refl
worked_marks (suc k) o = go (next_of o) refl (worked_marks k)
  where
    go : (y : Option ℕ) → next_of o ≡ y
        → ((p : Office) → (after_work k p).1.copied ≡ marked (after_work k p).0 (entries p) (is_held p) p.copied)
        → (turn k o y).1.copied ≡ marked (turn k o y).0 (entries o) (is_held o) o.copied
    go None p ih = refl
    go (Some e) p ih =
        ih (after_copy o e)
        ∙ sym (ap (λ z. maybe z o.copied (λ e'. marked (after_work k (after_copy o e)).0 (entries o) (is_held o) (changed o.copied e' true))) p)

pub inv_work : (K : Kind) (first n : ℕ) (o : Office) (l : Log) (k : ℕ) → Inv K first n o l
    → Inv K first n (after_work k o).1 (record { event = works (after_work k o).0; live = (after_work k o).1.live } ∷ l)
unfolding over
inv_work K first n o l k i =
    subst (λ q. Inv K first n q (record { event = works (after_work k o).0; live = q.live } ∷ l)) (sym (worked_shape k o))
    (record {
      count = i.count;
      status = i.status;
      numbered = i.numbered;
      apart = i.apart;
      hand_is = i.hand_is;
      stamps = i.stamps;
      gone = i.gone;
      agree = i.agree;
      in_round = λ r.
          let R = i.in_round r in
          let H : Half first n o.sessions o.live (after_work k o).1.image (after_work k o).1.copied l =
          worked_half first n l k o i.count (nobody K first n o l i)
          (record { image_count = R.image_count; sides = R.sides; tables = R.tables }) in
          record {
            told_open = R.told_open;
            marks_are = worked_marks k o ∙ ap₂ (λ h c. marked (after_work k o).0 (entries o) h c) (sym (held_is K first n o l i)) R.marks_are;
            image_count = H.image_count;
            sides = H.sides;
            tables = H.tables;
          };
    })
