-- Numbers below a bound.
use Rattle.std.proofs.Common.{◌≡◌, ℕ, suc, ◌<◌, ◌≤◌, true, cond, List, [], ◌∷◌, Some, None, Option, sym, refl, ap, ◌∙◌, subst, inl, inr, arith}
use Rattle.std.proofs.lemmas.Bool.{ltb-true, lt-ltb}
use Rattle.rules.proofs.Tests.{bool_cases, and_true, some_none}
use Rattle.keyed.specs.Keyed.{is_key, find, under, all_under}
use Rattle.keyed.proofs.Finding.{and_both, is_key_true}

-- the bound is one higher
under_more : (n : ℕ) (o : Option ℕ) → under n o ≡ true → under (suc n) o ≡ true
under_more n None u = refl
under_more n (Some k) u = lt-ltb k (suc n) (let h = ltb-true k n u in omega arith)

pub all_under_more : {X : Type 0} (key : X → Option ℕ) (n : ℕ) (l : List X) → all_under key n l ≡ true → all_under key (suc n) l ≡ true
all_under_more key n [] a = refl
all_under_more key n (x ∷ xs) a =
    let aa = and_true (under n (key x)) (all_under key n xs) a in
    and_both (under_more n (key x) aa.0) (all_under_more key n xs aa.1)

-- what is found has a number below the bound
pub find_under : {X : Type 0} (key : X → Option ℕ) (n : ℕ) (l : List X) (s : ℕ) (x : X) → all_under key n l ≡ true → find key l s ≡ Some x → s < n
find_under key n [] s x a e = some_none e refl
find_under key n (y ∷ ys) s x a e =
    let aa = and_true (under n (key y)) (all_under key n ys) a in
    elim (bool_cases (is_key (key y) s)) [
      | inl q ↦ ltb-true s n (subst (λ o. under n o ≡ true) (is_key_true (key y) s q) aa.0)
      | inr q ↦ find_under key n ys s x aa.1 (sym (ap (λ b. cond b (Some y) (find key ys s)) q) ∙ e)
    ]

-- nothing is found past the bound
pub find_past : {X : Type 0} (key : X → Option ℕ) (n : ℕ) (l : List X) (s : ℕ) → all_under key n l ≡ true → n ≤ s → find key l s ≡ None
find_past key n l s a h = go (find key l s) refl
  where
    go : (o : Option _) → find key l s ≡ o → o ≡ None
    go None e = refl
    go (Some x) e = let b = find_under key n l s x a e in absurd (omega arith)
