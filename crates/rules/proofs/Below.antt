-- Tests and counts of the numbers below a bound.
use Rattle.std.proofs.Common.{◌≡◌, ℕ, zero, suc, ◌<◌, Bool, true, false, cond, ◌||◌, ◌≢◌, Some, None, Option, sym, refl, ap, subst, inl, inr, arith}
use mathlib.Core.Bool.{false≢true}
use Rattle.std.specs.Option.{option_or}
use Rattle.rules.specs.Numbers.{any_below, one_if, count_below, lowest}
use Rattle.rules.proofs.Tests.{bool_cases, not_both, bool_ext, or_true, or_right, same_cases, some_none, same_value}

-- ── a number that passes ──

pub any_yes : (n : ℕ) (p : ℕ → Bool) (k : ℕ) → k < n → p k ≡ true → any_below n p ≡ true
any_yes zero p k l e = absurd (omega arith)
any_yes (suc n) p k l e =
    elim (same_cases k n) [
      | inl q ↦ subst (λ j. (p j || any_below n p) ≡ true) q.1 (ap (λ b. b || any_below n p) e)
      | inr q ↦ let q1 = q.1 in or_right (p n) (any_below n p) (any_yes n p k (omega arith) e)
    ]

pub any_find : (n : ℕ) (p : ℕ → Bool) → any_below n p ≡ true → (k : ℕ) × (k < n) × (p k ≡ true)
any_find zero p e = absurd (false≢true e)
any_find (suc n) p e =
    elim (or_true (p n) (any_below n p) e) [
      | inl q ↦ (n, omega arith, q)
      | inr q ↦ let r = any_find n p q in (r.0, omega (arith, r.1), r.2)
    ]

pub any_no : (n : ℕ) (p : ℕ → Bool) (k : ℕ) → any_below n p ≡ false → k < n → p k ≡ false
any_no n p k e l = elim (bool_cases (p k)) [ inl q ↦ not_both (any_yes n p k l q) e | inr q ↦ q ]

-- two bounds and tests under which the same numbers pass
pub any_same : (n m : ℕ) (p q : ℕ → Bool) → ((k : ℕ) → k < n → p k ≡ true → (k < m) × (q k ≡ true))
    → ((k : ℕ) → k < m → q k ≡ true → (k < n) × (p k ≡ true)) → any_below n p ≡ any_below m q
any_same n m p q f g =
    bool_ext (any_below n p) (any_below m q)
    (λ e. let r = any_find n p e in let s = f r.0 r.1 r.2 in any_yes m q r.0 s.0 s.1)
    (λ e. let r = any_find m q e in let s = g r.0 r.1 r.2 in any_yes n p r.0 s.0 s.1)

pub any_nothing : (n : ℕ) → any_below n (λ _. false) ≡ false
any_nothing zero = refl
any_nothing (suc n) = any_nothing n

-- ── the lowest ──

pub lowest_some : (n : ℕ) (p : ℕ → Bool) (e : ℕ) → lowest n p ≡ Some e → (e < n) × (p e ≡ true)
lowest_some zero p e q = some_none q refl
lowest_some (suc n) p e q = go (lowest_some n p) (lowest n p) refl (p n) refl q
  where
    go : ((k : ℕ) → lowest n p ≡ Some k → (k < n) × (p k ≡ true)) → (x : Option ℕ) → lowest n p ≡ x → (b : Bool) → p n ≡ b
        → option_or x (cond b (Some n) None) ≡ Some e → (e < suc n) × (p e ≡ true)
    go ih None i true j r =
        let h : n ≡ e = same_value {x = Some n} refl r in
        (omega arith, subst (λ k. p k ≡ true) h j)
    go ih None i false j r = some_none r refl
    go ih (Some k) i b j r =
        let h : k ≡ e = same_value {x = Some k} refl r in
        let w = ih k i in
        (omega (arith, w.0), subst (λ k. p k ≡ true) h w.1)

-- ── counts ──

pub count_same : (n : ℕ) (p q : ℕ → Bool) → ((j : ℕ) → j < n → p j ≡ q j) → count_below n p ≡ count_below n q
count_same zero p q f = refl
count_same (suc n) p q f =
    let a = ap one_if (f n (omega arith)) in
    let b = count_same n p q (λ j lt. f j (omega arith)) in
    omega arith

-- one number passes p and not q, and the others both or neither
pub count_less : (n : ℕ) (p q : ℕ → Bool) (k : ℕ) → k < n → p k ≡ true → q k ≡ false → ((j : ℕ) → j ≢ k → q j ≡ p j) → suc (count_below n q) ≡ count_below n p
count_less zero p q k lt a b f = absurd (omega arith)
count_less (suc n) p q k lt a b f =
    elim (same_cases k n) [
      | inl z ↦
          let a' : one_if (p n) ≡ 1 = ap one_if (subst (λ i. p i ≡ true) z.1 a) in
          let b' : one_if (q n) ≡ 0 = ap one_if (subst (λ i. q i ≡ false) z.1 b) in
          let z1 = z.1 in
          let c = count_same n q p (λ j jl. f j (omega arith)) in
          omega arith
      | inr z ↦
          let z1 = z.1 in
          let c = count_less n p q k (omega arith) a b f in
          let d = ap one_if (f n (λ e. z1 (sym e))) in
          omega arith
    ]

pub count_nothing : (n : ℕ) → count_below n (λ _. false) ≡ 0
count_nothing zero = refl
count_nothing (suc n) = let h = count_nothing n in omega arith
