-- What the first refusal that fits a call says of the tests.
use Rattle.std.proofs.Common.{◌≡◌, ℕ, ◌<◌, ◌≤◌, Bool, true, false, cond, not, T, eqb, ltb, List, [], ◌∷◌, is_some, Some, None, sym, refl, subst, ltb→lt, nltb→le}
use Rattle.tables.specs.Refusals.{number_of}
use Rattle.tables.specs.declared.refusal.Refusal.{Refusal}
use Rattle.tables.specs.declared.refusal.Refusal.TheVariants.{Ended}
use Rattle.rules.specs.Numbers.{first_of}
use Rattle.rules.specs.Office.{new_session, Office, session, mode_at}
use Rattle.rules.specs.Rules.{holds_mode}
use Rattle.rules.proofs.Tests.{to_T, not_false, is_there, some_none, same_value, passing}

-- no test passes
abbrev pub NoneFit : List (Bool × Refusal) → Type 0
NoneFit [] = Unit {0}
NoneFit (d ∷ ds) = (d.0 ≡ false) × NoneFit ds

pub none_fit : (ds : List (Bool × Refusal)) → first_of ds ≡ None → NoneFit ds
none_fit [] q = tt
none_fit (d ∷ ds) q = go d.0 q (none_fit ds)
  where
    go : (b : Bool) → cond b (Some d.1) (first_of ds) ≡ None → (first_of ds ≡ None → NoneFit ds) → (b ≡ false) × NoneFit ds
    go true q ih = some_none {x = Some d.1} refl q
    go false q ih = (refl, ih q)

-- no refusal of a list is 7
abbrev pub NotEnded : List (Bool × Refusal) → Type 0
NotEnded [] = Unit {0}
NotEnded (d ∷ ds) = (eqb (number_of d.1) (number_of Ended) ≡ false) × NotEnded ds

pub first_not_ended : (ds : List (Bool × Refusal)) (r : Refusal) → NotEnded ds → first_of ds ≡ Some r → eqb (number_of r) (number_of Ended) ≡ false
first_not_ended [] r a q = some_none q refl
first_not_ended (d ∷ ds) r a q = go d.0 q (first_not_ended ds r a.1)
  where
    go : (b : Bool) → cond b (Some d.1) (first_of ds) ≡ Some r → (first_of ds ≡ Some r → eqb (number_of r) (number_of Ended) ≡ false)
        → eqb (number_of r) (number_of Ended) ≡ false
    go true q ih = subst (λ j. eqb (number_of j) (number_of Ended) ≡ false) (same_value {x = Some d.1} refl q) a.0
    go false q ih = ih q

-- a session whose number is not refused is live
pub is_live : (o : Office) (s : ℕ) → not (is_some (o.sessions s)) ≡ false → o.sessions s ≡ Some (session o s)
is_live o s q = is_there (o.sessions s) new_session (not_false (is_some (o.sessions s)) q)

-- it holds an entry in a mode that passes
pub holds_passing : (o : Office) (s e : ℕ) (p : ℕ → Bool) → not (holds_mode o s e p) ≡ false → (m : ℕ) × (mode_at o s e ≡ Some m) × (p m ≡ true)
holds_passing o s e p q = passing p (mode_at o s e) (not_false (holds_mode o s e p) q)

pub below_if : (a b : ℕ) → not (ltb a b) ≡ false → a < b
below_if a b q = ltb→lt a b (to_T (not_false (ltb a b) q))

pub at_most_if : (a b : ℕ) → ltb b a ≡ false → a ≤ b
at_most_if a b q = nltb→le b a (subst (λ b. T (not b)) (sym q) tt)
