-- Facts of the commits since the open: each speaks of the log before a commit and of its session.
use Rattle.std.proofs.Common.{◌≡◌, ℕ, ◌<◌, Bool, true, false, cond, not, ◌&&◌, ◌||◌, eqb, [], ◌∷◌, Some, None, Option, sym, ap, subst, inl, inr}
use mathlib.Core.Bool.{false≢true}
use Rattle.rules.specs.Numbers.{maybe}
use Rattle.rules.specs.History.{Log}
use Rattle.rules.specs.Writing.{committer, is_open, committed}
use Rattle.rules.proofs.Tests.{not_both, or_true, or_right, same_cases, eqb_self}

-- P of the commit, if there is one, and R
abbrev pub of_commit : (Log → ℕ → Type 0) → Log → Option ℕ → Type 0 → Type 0
of_commit P l None R = R
of_commit P l (Some s) R = P l s × R

-- P of each commit since the open
abbrev pub Commits : (Log → ℕ → Type 0) → Log → Type 0
Commits P [] = Unit {0}
Commits P (r ∷ l) = cond (is_open r.event) (Unit {0}) (of_commit P l (committer r.event) (Commits P l))

-- a fact of each commit carried over, where the session has committed since the open
pub commits_map : (P Q : Log → ℕ → Type 0) (l : Log) → ((p : Log) (s : ℕ) → committed l s ≡ true → P p s → Q p s) → Commits P l → Commits Q l
commits_map P Q [] f c = tt
commits_map P Q (r ∷ l) f c = go (is_open r.event) (committer r.event) f (commits_map P Q l) c
  where
    go : (b : Bool) (x : Option ℕ)
        → ((p : Log) (s : ℕ) → (not b && (maybe x false (λ k. eqb s k) || committed l s)) ≡ true → P p s → Q p s)
        → (((p : Log) (s : ℕ) → committed l s ≡ true → P p s → Q p s) → Commits P l → Commits Q l)
        → cond b (Unit {0}) (of_commit P l x (Commits P l)) → cond b (Unit {0}) (of_commit Q l x (Commits Q l))
    go true x f ih c = tt
    go false None f ih c = ih f c
    go false (Some s) f ih c =
        (f l s (ap (λ b. b || committed l s) (eqb_self s)) c.0, ih (λ p k h. f p k (or_right (eqb k s) (committed l k) h)) c.1)

-- two facts of each commit
pub commits_both : (P Q : Log → ℕ → Type 0) (l : Log) → Commits P l → Commits Q l → Commits (λ p s. P p s × Q p s) l
commits_both P Q [] a b = tt
commits_both P Q (r ∷ l) a b = go (is_open r.event) (committer r.event) a b (commits_both P Q l)
  where
    go : (b : Bool) (x : Option ℕ) → cond b (Unit {0}) (of_commit P l x (Commits P l)) → cond b (Unit {0}) (of_commit Q l x (Commits Q l))
        → (Commits P l → Commits Q l → Commits (λ p s. P p s × Q p s) l)
        → cond b (Unit {0}) (of_commit (λ p s. P p s × Q p s) l x (Commits (λ p s. P p s × Q p s) l))
    go true x a b ih = tt
    go false None a b ih = ih a b
    go false (Some s) a b ih = ((a.0, b.0), ih a.1 b.1)

-- a fact for each number below m
pub commits_each : (m : ℕ) (Q : ℕ → Log → ℕ → Type 0) (l : Log) → ((e : ℕ) → e < m → Commits (Q e) l) → Commits (λ p s. (e : ℕ) → e < m → Q e p s) l
commits_each m Q [] f = tt
commits_each m Q (r ∷ l) f = go (is_open r.event) (committer r.event) f (commits_each m Q l)
  where
    go : (b : Bool) (x : Option ℕ) → ((e : ℕ) → e < m → cond b (Unit {0}) (of_commit (Q e) l x (Commits (Q e) l)))
        → (((e : ℕ) → e < m → Commits (Q e) l) → Commits (λ p s. (e : ℕ) → e < m → Q e p s) l)
        → cond b (Unit {0}) (of_commit (λ p s. (e : ℕ) → e < m → Q e p s) l x (Commits (λ p s. (e : ℕ) → e < m → Q e p s) l))
    go true x f ih = tt
    go false None f ih = ih f
    go false (Some s) f ih = (λ e lt. (f e lt).0, ih (λ e lt. (f e lt).1))

-- the fact of a session that committed
pub commits_find : (P : Log → ℕ → Type 0) (l : Log) (s : ℕ) → committed l s ≡ true → Commits P l → (p : Log) × P p s
commits_find P [] s h c = absurd (false≢true h)
commits_find P (r ∷ l) s h c = go (is_open r.event) (committer r.event) h c (commits_find P l s)
  where
    go : (b : Bool) (x : Option ℕ) → (not b && (maybe x false (λ k. eqb s k) || committed l s)) ≡ true → cond b (Unit {0}) (of_commit P l x (Commits P l))
        → (committed l s ≡ true → Commits P l → (p : Log) × P p s) → (p : Log) × P p s
    go true x h c ih = absurd (false≢true h)
    go false None h c ih = ih h c
    go false (Some k) h c ih =
        elim (or_true (eqb s k) (committed l s) h) [
          | inl q ↦ elim (same_cases s k) [ inl z ↦ (l, subst (λ j. P l j) (sym z.1) c.0) | inr z ↦ not_both q z.0 ]
          | inr q ↦ ih q c.1
        ]
