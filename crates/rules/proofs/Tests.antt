-- Tests, values that may be there, and a function changed at one number.
use Rattle.std.proofs.Common.{◌≡◌, ℕ, Bool, true, false, cond, not, ◌&&◌, ◌||◌, T, eqb, ◌≢◌, ◌⊎◌, is_some, Some, None, Option, unwrap_or, sym, refl, ap, ◌∙◌, subst, inl, inr, true≢false, eqb→eq}
use mathlib.Core.Path.{fun_ext}
use mathlib.Core.Bool.{false≢true}
use lib.Dec.{eqb_refl}
use Rattle.rules.specs.Numbers.{maybe, changed}

pub to_T : {b : Bool} → b ≡ true → T b
to_T e = subst T (sym e) tt

pub from_T : (b : Bool) → T b → b ≡ true
from_T true t = refl
from_T false t = elim t [ ]

pub not_T : {b : Bool} → b ≡ false → T b → ⊥
not_T e t = subst T e t

pub bool_cases : (b : Bool) → (b ≡ true) ⊎ (b ≡ false)
bool_cases true = inl refl
bool_cases false = inr refl

-- no test passes and fails
pub not_both {ℓ} : {P : Type ℓ} {b : Bool} → b ≡ true → b ≡ false → P
not_both p q = absurd (true≢false (sym p ∙ q))

pub bool_ext : (a b : Bool) → (a ≡ true → b ≡ true) → (b ≡ true → a ≡ true) → a ≡ b
bool_ext true b f g = sym (f refl)
bool_ext false true f g = g refl
bool_ext false false f g = refl

pub not_false : (b : Bool) → not b ≡ false → b ≡ true
not_false true e = refl
not_false false e = sym e

pub not_true : (b : Bool) → not b ≡ true → b ≡ false
not_true true e = sym e
not_true false e = refl

pub or_true : (a b : Bool) → (a || b) ≡ true → (a ≡ true) ⊎ (b ≡ true)
or_true true b e = inl refl
or_true false b e = inr e

pub or_right : (a b : Bool) → b ≡ true → (a || b) ≡ true
or_right true b e = refl
or_right false b e = e

pub and_true : (a b : Bool) → (a && b) ≡ true → (a ≡ true) × (b ≡ true)
and_true true b e = (refl, e)
and_true false b e = absurd (false≢true e)

pub and_false : {a b : Bool} → a ≡ true → (a && b) ≡ false → b ≡ false
and_false {a} {b} p q = rw p at q

-- ── equal numbers ──

pub same_cases : (a b : ℕ) → ((eqb a b ≡ true) × (a ≡ b)) ⊎ ((eqb a b ≡ false) × (a ≢ b))
same_cases a b = go (eqb a b) refl
  where
    go : (c : Bool) → eqb a b ≡ c → ((eqb a b ≡ true) × (a ≡ b)) ⊎ ((eqb a b ≡ false) × (a ≢ b))
    go true e = inl (e, eqb→eq a b (to_T e))
    go false e = inr (e, λ p. not_T e (subst (λ c. T (eqb a c)) p (eqb_refl a)))

pub eqb_self : (a : ℕ) → eqb a a ≡ true
eqb_self a = from_T (eqb a a) (eqb_refl a)

pub eqb_apart : {a b : ℕ} → a ≢ b → eqb a b ≡ false
eqb_apart {a} {b} n = elim (same_cases a b) [ inl p ↦ absurd (n p.1) | inr p ↦ p.0 ]

-- ── a function changed at one number ──

pub changed_same : {A : Type 0} (f : ℕ → A) (k : ℕ) (v : A) → changed f k v k ≡ v
changed_same f k v = rw (eqb_self k)

pub changed_other : {A : Type 0} (f : ℕ → A) (k : ℕ) (v : A) (j : ℕ) → j ≢ k → changed f k v j ≡ f j
changed_other f k v j n = rw (eqb_apart n)

-- what holds of the new value at its number and of the old ones elsewhere holds everywhere
pub at_changed : {A : Type 0} (P : ℕ → A → Type 0) (f : ℕ → A) (k : ℕ) (v : A) → P k v → ((j : ℕ) → j ≢ k → P j (f j)) → (j : ℕ) → P j (changed f k v j)
at_changed {A} P f k v h g j =
    elim (same_cases j k) [
      | inl p ↦ subst (λ b. P j (cond b v (f j))) (sym p.0) (subst (λ i. P i v) (sym p.1) h)
      | inr p ↦ subst (λ b. P j (cond b v (f j))) (sym p.0) (g j p.1)
    ]

pub changed_id : {A : Type 0} (f : ℕ → A) (k : ℕ) (v : A) → f k ≡ v → changed f k v ≡ f
changed_id f k v e = fun_ext (at_changed (λ j y. y ≡ f j) f k v (sym e) (λ j ne. refl))

-- ── a value that may be there ──

pub is_there : {A : Type 0} (y : Option A) (d : A) → is_some y ≡ true → y ≡ Some (unwrap_or y d)
is_there None d q = absurd (false≢true q)
is_there (Some x) d q = refl

-- nothing is there and not there
pub some_none : {A : Type 0} {P : Type 0} {a : A} {x : Option A} → x ≡ Some a → x ≡ None → P
some_none {A} p q = absurd (true≢false (sym (ap is_some p) ∙ ap is_some q))

pub same_value : {A : Type 0} {a b : A} {x : Option A} → x ≡ Some a → x ≡ Some b → a ≡ b
same_value {A} {a} {b} p q = ap (λ y. unwrap_or y a) (sym p ∙ q)

pub none_else : {A : Type 0} (w : Option A) → ((t : A) → w ≡ Some t → ⊥) → w ≡ None
none_else None f = refl
none_else (Some t) f = absurd (f t refl)

-- a number that passes is there
pub passing : (p : ℕ → Bool) (y : Option ℕ) → maybe y false p ≡ true → (m : ℕ) × (y ≡ Some m) × (p m ≡ true)
passing p None q = absurd (false≢true q)
passing p (Some m) q = (m, refl, q)
