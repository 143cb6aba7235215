-- Whether one that is taken passes.
use Rattle.std.specs.List.{list_any}
use Rattle.std.proofs.Common.{◌≡◌, ℕ, Bool, true, false, cond, ◌||◌, List, [], ◌∷◌, Some, None, Option, sym, refl, ap, ◌∙◌, inl, inr}
use mathlib.Core.Bool.{false≢true}
use Rattle.rules.specs.Numbers.{maybe, any_below}
use Rattle.rules.proofs.Tests.{bool_cases, not_both, bool_ext, or_true, or_right, and_true, eqb_self, some_none, same_value}
use Rattle.rules.proofs.Below.{any_yes, any_find}
use Rattle.keyed.specs.Keyed.{is_key, find, absent, distinct, all_under}
use Rattle.keyed.proofs.Finding.{is_key_true, is_key_of, absent_missing}
use Rattle.keyed.proofs.Under.{find_under}

-- one that is taken passes a test of its number and itself
abbrev pub any_taken : {X : Type 0} → (X → Option ℕ) → (ℕ → X → Bool) → List X → Bool
any_taken key q xs = list_any (λ x. maybe (key x) false (λ k. q k x)) xs

-- a key passes
abbrev pub passes : Option ℕ → (ℕ → Bool) → Bool
passes o q = maybe o false q

-- a test of a key that is known
taken_of : {o : Option ℕ} {k : ℕ} (q : ℕ → Bool) → o ≡ Some k → passes o q ≡ q k
taken_of q e = ap (λ o. passes o q) e

-- what is found under s passes
any_taken_at : {X : Type 0} (key : X → Option ℕ) (q : ℕ → X → Bool) (l : List X) (s : ℕ) (x : X) → find key l s ≡ Some x → q s x ≡ true → any_taken key q l ≡ true
any_taken_at key q [] s x e t = some_none e refl
any_taken_at key q (y ∷ ys) s x e t =
    elim (bool_cases (is_key (key y) s)) [
      | inl w ↦
          let yx : y ≡ x = same_value {x = Some y} refl (sym (ap (λ b. cond b (Some y) (find key ys s)) w) ∙ e) in
          ap (λ b. b || any_taken key q ys) (taken_of (λ k. q k y) (is_key_true (key y) s w) ∙ ap (q s) yx ∙ t)
      | inr w ↦ or_right _ _ (any_taken_at key q ys s x (sym (ap (λ b. cond b (Some y) (find key ys s)) w) ∙ e) t)
    ]

-- a key that passes is there
taken_yes : (o : Option ℕ) (q : ℕ → Bool) → passes o q ≡ true → (k : ℕ) × (o ≡ Some k) × (q k ≡ true)
taken_yes None q e = absurd (false≢true e)
taken_yes (Some k) q e = (k, refl, e)

-- one that passes is found under its number
any_taken_where : {X : Type 0} (key : X → Option ℕ) (q : ℕ → X → Bool) (l : List X) → distinct key l ≡ true → any_taken key q l ≡ true
    → (s : ℕ) × (x : X) × (find key l s ≡ Some x) × (q s x ≡ true)
any_taken_where key q [] a e = absurd (false≢true e)
any_taken_where key q (y ∷ ys) a e =
    let aa = and_true (absent key (key y) ys) (distinct key ys) a in
    elim (or_true (passes (key y) (λ k. q k y)) (any_taken key q ys) e) [
      | inl w ↦
          let r = taken_yes (key y) (λ k. q k y) w in
          (r.0, y, ap (λ b. cond b (Some y) (find key ys r.0)) (is_key_of r.0 r.1 ∙ eqb_self r.0), r.2)
      | inr w ↦
          let r = any_taken_where key q ys aa.1 w in
          let other : is_key (key y) r.0 ≡ false =
          elim (bool_cases (is_key (key y) r.0)) [
            | inl v ↦ some_none r.2 (absent_missing key ys (is_key_true (key y) r.0 v) aa.0)
            | inr v ↦ v
          ] in
          (r.0, r.1, ap (λ b. cond b (Some y) (find key ys r.0)) other ∙ r.2, r.3)
    ]

-- a test of what stands under each number below n is a test of the taken places
pub any_below_taken : {X : Type 0} (key : X → Option ℕ) (r : ℕ → Option X → Bool) (n : ℕ) (l : List X) → ((s : ℕ) → r s None ≡ false) → distinct key l ≡ true
    → all_under key n l ≡ true → any_below n (λ s. r s (find key l s)) ≡ any_taken key (λ s x. r s (Some x)) l
any_below_taken {X} key r n l z a u =
    bool_ext (any_below n (λ s. r s (find key l s))) (any_taken key (λ s x. r s (Some x)) l)
    (λ e. let w = any_find n (λ s. r s (find key l s)) e in go w.0 (find key l w.0) refl w.2)
    (λ e.
    let w = any_taken_where key (λ s x. r s (Some x)) l a e in
    any_yes n (λ s. r s (find key l s)) w.0 (find_under key n l w.0 w.1 u w.2) (ap (r w.0) w.2 ∙ w.3))
  where
    go : (s : ℕ) (o : Option X) → find key l s ≡ o → r s (find key l s) ≡ true → any_taken key (λ s x. r s (Some x)) l ≡ true
    go s None e t = not_both (sym (ap (r s) e) ∙ t) (z s)
    go s (Some x) e t = any_taken_at key (λ s x. r s (Some x)) l s x e (sym (ap (r s) e) ∙ t)
