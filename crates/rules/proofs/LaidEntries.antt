-- Laying by entries, where each commit is chosen by what was told before it.
use Rattle.std.proofs.Common.{◌≡◌, ℕ, ◌+◌, ◌<◌, Bool, true, false, cond, ◌⊎◌, [], ◌∷◌, length, Some, None, Option, sym, refl, ap, ◌∙◌, ap₂, inl, inr, arith}
use Rattle.tables.specs.Tables.{Entry, Table, entry}
use Rattle.rules.specs.Numbers.{maybe}
use Rattle.rules.specs.Office.{Text}
use Rattle.rules.specs.History.{Log, events}
use Rattle.rules.specs.Writing.{last_write, committer, is_open, commits_that_wrote}
use Rattle.rules.specs.Laying.{lay_entry, lay, laid}
use Rattle.rules.proofs.Tests.{bool_cases}
use Rattle.rules.proofs.Entries.{length_each, entry_each}
use Rattle.rules.proofs.Commits.{of_commit, Commits, commits_map}

-- which sessions are laid: told of the log before the commit
abbrev pub Choice : Type 0
Choice = Log → ℕ → Bool

-- entry e after the commit of a session, if there is one
abbrev pub laid_at_commit : ℕ → Choice → Log → Option ℕ → ℕ → Entry → Entry
laid_at_commit first C l None e x = x
laid_at_commit first C l (Some s) e x = cond (C l s) (lay_entry (first + commits_that_wrote l) (last_write (events l s) e) x) x

-- entry e, which was x at the open, after the commits since
abbrev pub laid_at : ℕ → Choice → Log → ℕ → Entry → Entry
laid_at first C [] e x = x
laid_at first C (r ∷ l) e x = cond (is_open r.event) x (laid_at_commit first C l (committer r.event) e (laid_at first C l e x))

-- ── a set of sessions, laid on a table ──

pub length_laid : (first : ℕ) (S : ℕ → Bool) (t : Table) (l : Log) → length (laid first S t l) ≡ length t
length_laid first S t [] = refl
length_laid first S t (r ∷ l) = go (is_open r.event) (committer r.event) (length_laid first S t l)
  where
    put : (b : Bool) (s : ℕ) → length (cond b (lay (first + commits_that_wrote l) (last_write (events l s)) (laid first S t l)) (laid first S t l)) ≡ length (laid first S t l)
    put true s = length_each (λ e x. lay_entry (first + commits_that_wrote l) (last_write (events l s) e) x) (laid first S t l)
    put false s = refl

    go : (b : Bool) (x : Option ℕ) → length (laid first S t l) ≡ length t
        → length (cond b t (maybe x (laid first S t l) (λ s. cond (S s) (lay (first + commits_that_wrote l) (last_write (events l s)) (laid first S t l)) (laid first S t l)))) ≡ length t
    go true x ih = refl
    go false None ih = ih
    go false (Some s) ih = put (S s) s ∙ ih

pub entry_laid : (first : ℕ) (S : ℕ → Bool) (t : Table) (l : Log) (e : ℕ) → e < length t → entry (laid first S t l) e ≡ laid_at first (λ _. S) l e (entry t e)
entry_laid first S t [] e lt = refl
entry_laid first S t (r ∷ l) e lt = go (is_open r.event) (committer r.event) (entry_laid first S t l e lt)
  where
    put : (b : Bool) (s : ℕ)
        → entry (cond b (lay (first + commits_that_wrote l) (last_write (events l s)) (laid first S t l)) (laid first S t l)) e
        ≡ cond b (lay_entry (first + commits_that_wrote l) (last_write (events l s) e) (entry (laid first S t l) e)) (entry (laid first S t l) e)
    put true s =
        let q = length_laid first S t l in
        entry_each (λ e x. lay_entry (first + commits_that_wrote l) (last_write (events l s) e) x) (laid first S t l) e (omega arith)
    put false s = refl

    go : (b : Bool) (x : Option ℕ) → entry (laid first S t l) e ≡ laid_at first (λ _. S) l e (entry t e)
        → entry (cond b t (maybe x (laid first S t l) (λ s. cond (S s) (lay (first + commits_that_wrote l) (last_write (events l s)) (laid first S t l)) (laid first S t l)))) e
        ≡ cond b (entry t e) (laid_at_commit first (λ _. S) l x e (laid_at first (λ _. S) l e (entry t e)))
    go true x ih = refl
    go false None ih = ih
    go false (Some s) ih = put (S s) s ∙ ap (λ z. cond (S s) (lay_entry (first + commits_that_wrote l) (last_write (events l s) e) z) z) ih

-- ── two choices ──

lay_none : (b : Bool) (H : ℕ) (w : Option Text) (x : Entry) → w ≡ None → cond b (lay_entry H w x) x ≡ x
lay_none true H w x q = ap (λ z. lay_entry H z x) q
lay_none false H w x q = refl

-- two choices that agree on the sessions that wrote e lay the same there
pub laid_same : (first : ℕ) (C D : Choice) (l : Log) (e : ℕ) (x : Entry)
    → Commits (λ p s. (C p s ≡ D p s) ⊎ (last_write (events p s) e ≡ None)) l → laid_at first C l e x ≡ laid_at first D l e x
laid_same first C D [] e x h = refl
laid_same first C D (r ∷ l) e x h = go (is_open r.event) (committer r.event) h (laid_same first C D l e x)
  where
    H : ℕ
    H = first + commits_that_wrote l

    Same : Log → ℕ → Type 0
    Same p s = (C p s ≡ D p s) ⊎ (last_write (events p s) e ≡ None)

    put : (s : ℕ) → (C l s ≡ D l s) ⊎ (last_write (events l s) e ≡ None) → laid_at first C l e x ≡ laid_at first D l e x
        → cond (C l s) (lay_entry H (last_write (events l s) e) (laid_at first C l e x)) (laid_at first C l e x)
        ≡ cond (D l s) (lay_entry H (last_write (events l s) e) (laid_at first D l e x)) (laid_at first D l e x)
    put s (inl q) ih = ap₂ (λ b z. cond b (lay_entry H (last_write (events l s) e) z) z) q ih
    put s (inr q) ih =
        lay_none (C l s) H (last_write (events l s) e) (laid_at first C l e x) q
        ∙ ih
        ∙ sym (lay_none (D l s) H (last_write (events l s) e) (laid_at first D l e x) q)

    go : (b : Bool) (c : Option ℕ) → cond b (Unit {0}) (of_commit Same l c (Commits Same l))
        → (Commits Same l → laid_at first C l e x ≡ laid_at first D l e x)
        → cond b x (laid_at_commit first C l c e (laid_at first C l e x)) ≡ cond b x (laid_at_commit first D l c e (laid_at first D l e x))
    go true c h ih = refl
    go false None h ih = ih h
    go false (Some s) h ih = put s h.0 (ih h.1)

-- none of the sessions chosen that committed wrote entry e
abbrev pub NoneWrote : Choice → ℕ → Log → Type 0
NoneWrote C e l = Commits (λ p s. C p s ≡ true → last_write (events p s) e ≡ None) l

-- laying them leaves it
pub laid_none : (first : ℕ) (C : Choice) (l : Log) (e : ℕ) (x : Entry) → NoneWrote C e l → laid_at first C l e x ≡ x
laid_none first C l e x h =
    laid_same first C (λ p s. false) l e x
    (commits_map (λ p s. C p s ≡ true → last_write (events p s) e ≡ None) (λ p s. (C p s ≡ false) ⊎ (last_write (events p s) e ≡ None)) l
    (λ p s m f. elim (bool_cases (C p s)) [ inl q ↦ inr (f q) | inr q ↦ inl q ]) h)
    ∙ untouched l
  where
    untouched : (l : Log) → laid_at first (λ p s. false) l e x ≡ x
    untouched [] = refl
    untouched (r ∷ l) = go (is_open r.event) (committer r.event) (untouched l)
      where
        go : (b : Bool) (c : Option ℕ) → laid_at first (λ p s. false) l e x ≡ x
            → cond b x (laid_at_commit first (λ p s. false) l c e (laid_at first (λ p s. false) l e x)) ≡ x
        go true c ih = refl
        go false None ih = ih
        go false (Some s) ih = ih
