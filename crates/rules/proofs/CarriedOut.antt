-- Sessions that read right entry by entry are carried out right on a table.
use Rattle.std.proofs.Common.{◌≡◌, ℕ, ◌<◌, Bool, true, false, cond, T, ◌⊎◌, [], ◌∷◌, length, Some, None, Option, sym, ap, ◌∙◌, inl}
use Rattle.tables.specs.Tables.{Entry, Table, entry}
use Rattle.rules.specs.Numbers.{maybe}
use Rattle.rules.specs.History.{Log, events}
use Rattle.rules.specs.Writing.{last_write, committer, is_open}
use Rattle.rules.specs.Laying.{laid, ReadsRight, CarriedRight}
use Rattle.rules.proofs.Tests.{from_T}
use Rattle.rules.proofs.Commits.{of_commit, Commits, commits_map}
use Rattle.rules.proofs.Texts.{has_read, reads_same}
use Rattle.rules.proofs.LaidEntries.{Choice, laid_at, entry_laid, laid_same}
use Rattle.rules.proofs.Invariant.{Carried}

pub carried_out : (first : ℕ) (S : ℕ → Bool) (C : Choice) (f : ℕ → Entry) (P : ℕ → Type 0) (t : Table) (l : Log)
    → ((e : ℕ) → P e → (e < length t) × (f e ≡ entry t e)) → Commits (λ p s. S s ≡ C p s) l → Carried first C f P l → CarriedRight first S t l
carried_out first S C f P t [] h a c = tt
carried_out first S C f P t (r ∷ l) h a c = go (is_open r.event) (committer r.event) a c (carried_out first S C f P t l h)
  where
    Fact : Log → ℕ → Type 0
    Fact p s = C p s ≡ true → ReadsRight (λ e. laid_at first C p e (f e)) (events p s) × ((e : ℕ) → has_read (events p s) e ≡ true → P e)

    one : (s : ℕ) → S s ≡ C l s → Commits (λ p s. S s ≡ C p s) l → Fact l s → T (S s) → ReadsRight (entry (laid first S t l)) (events l s)
    one s q a f' ts =
        let r = f' (sym q ∙ from_T (S s) ts) in
        reads_same (λ e. laid_at first C l e (f e)) (entry (laid first S t l)) (events l s)
        (λ e hr.
        let i = h e (r.1 e hr) in
        ap (λ z. z.text)
        (ap (laid_at first C l e) i.1
        ∙ sym (laid_same first (λ _. S) C l e (entry t e) (commits_map (λ p s. S s ≡ C p s) (λ p s. (S s ≡ C p s) ⊎ (last_write (events p s) e ≡ None)) l (λ p s m z. inl z) a))
        ∙ sym (entry_laid first S t l e i.0)))
        r.0

    go : (b : Bool) (x : Option ℕ) → cond b (Unit {0}) (of_commit (λ p s. S s ≡ C p s) l x (Commits (λ p s. S s ≡ C p s) l))
        → cond b (Unit {0}) (of_commit Fact l x (Commits Fact l))
        → (Commits (λ p s. S s ≡ C p s) l → Commits Fact l → CarriedRight first S t l)
        → cond b (Unit {0}) (maybe x (CarriedRight first S t l) (λ s. (T (S s) → ReadsRight (entry (laid first S t l)) (events l s)) × CarriedRight first S t l))
    go true x a c ih = tt
    go false None a c ih = ih a c
    go false (Some s) a c ih = (one s a.0 a.1 c.0, ih a.1 c.1)
