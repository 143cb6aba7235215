-- A change at one place keeps the numbers distinct.
use Rattle.std.proofs.Common.{◌≡◌, ℕ, true, false, cond, not, eqb, List, [], ◌∷◌, set, is_some, Some, None, Option, sym, refl, ap, ◌∙◌, subst, inl, inr}
use Rattle.rules.proofs.Tests.{not_both, not_true, and_true, same_cases, eqb_self, some_none}
use Rattle.std.specs.List.{position}
use Rattle.keyed.specs.Keyed.{is_key, find, absent, distinct}
use Rattle.keyed.proofs.Positions.{position_split}
use Rattle.keyed.proofs.Finding.{not_there, and_both, is_key_true, find_behind, find_changed, find_cleared, find_added}

-- a key stays absent where the same is found under it, or less
pub absent_ext : {X : Type 0} (key : X → Option ℕ) (o : Option ℕ) (xs ys : List X) → ((t : ℕ) → o ≡ Some t → find key ys t ≡ find key xs t)
    → absent key o xs ≡ true → absent key o ys ≡ true
absent_ext key None xs ys f a = refl
absent_ext key (Some k) xs ys f a = ap (λ r. not (is_some r)) (f k refl) ∙ a

pub absent_less : {X : Type 0} (key : X → Option ℕ) (o : Option ℕ) (xs ys : List X) → ((t : ℕ) → find key xs t ≡ None → find key ys t ≡ None)
    → absent key o xs ≡ true → absent key o ys ≡ true
absent_less key None xs ys f a = refl
absent_less key (Some k) xs ys f a = ap (λ r. not (is_some r)) (f k (not_there (find key xs k) (not_true (is_some (find key xs k)) a)))

other_number : (o : Option ℕ) (s t : ℕ) → is_key o s ≡ false → o ≡ Some t → eqb t s ≡ false
other_number o s t h e =
    elim (same_cases t s) [ inl q ↦ not_both (ap (λ o. is_key o s) e ∙ ap (λ k. eqb s k) q.1 ∙ eqb_self s) h | inr q ↦ q.0 ]

-- the place under s is changed, and stays under s
pub distinct_changed : {X : Type 0} (key : X → Option ℕ) (l : List X) (s i : ℕ) (y : X) → key y ≡ Some s → position (λ x. is_key (key x) s) l ≡ Some i
    → distinct key l ≡ true → distinct key (set l i y) ≡ true
distinct_changed key [] s i y ky e a = some_none e refl
distinct_changed {X} key (x ∷ xs) s i y ky e a =
    let P : ℕ → Type 0 = λ j. distinct key (set (x ∷ xs) j y) ≡ true in
    let aa = and_true (absent key (key x) xs) (distinct key xs) a in
    elim (position_split (λ x. is_key (key x) s) x xs i e) [
      | inl q ↦
          subst P (sym q.1) (and_both (subst (λ o. absent key o xs ≡ true) (is_key_true (key x) s q.0 ∙ sym ky) aa.0) aa.1)
      | inr q ↦
          subst P (sym q.1.1)
          (and_both
          (absent_ext key (key x) xs (set xs q.1.0 y)
          (λ t h. find_changed key xs s q.1.0 y ky q.1.2 t ∙ ap (λ b. cond b (Some y) (find key xs t)) (other_number (key x) s t q.0 h)) aa.0)
          (distinct_changed key xs s q.1.0 y ky q.1.2 aa.1))
    ]

-- the place under s becomes free
pub distinct_cleared : {X : Type 0} (key : X → Option ℕ) (l : List X) (s i : ℕ) (y : X) → key y ≡ None → position (λ x. is_key (key x) s) l ≡ Some i
    → distinct key l ≡ true → distinct key (set l i y) ≡ true
distinct_cleared key [] s i y ky e a = some_none e refl
distinct_cleared {X} key (x ∷ xs) s i y ky e a =
    let P : ℕ → Type 0 = λ j. distinct key (set (x ∷ xs) j y) ≡ true in
    let aa = and_true (absent key (key x) xs) (distinct key xs) a in
    elim (position_split (λ x. is_key (key x) s) x xs i e) [
      | inl q ↦ subst P (sym q.1) (and_both (ap (λ o. absent key o xs) ky) aa.1)
      | inr q ↦
          subst P (sym q.1.1)
          (and_both
          (absent_less key (key x) xs (set xs q.1.0 y)
          (λ t h.
          find_cleared key xs s q.1.0 y ky q.1.2 aa.1 t
          ∙ elim (same_cases t s) [
            | inl w ↦ ap (λ b. cond b None (find key xs t)) w.0
            | inr w ↦ ap (λ b. cond b None (find key xs t)) w.0 ∙ h
          ]) aa.0)
          (distinct_cleared key xs s q.1.0 y ky q.1.2 aa.1))
    ]

-- a free place is taken under s
pub distinct_added : {X : Type 0} (key : X → Option ℕ) (l : List X) (s i : ℕ) (y : X) → key y ≡ Some s → position (λ x. not (is_some (key x))) l ≡ Some i
    → find key l s ≡ None → distinct key l ≡ true → distinct key (set l i y) ≡ true
distinct_added key [] s i y ky e m a = some_none e refl
distinct_added {X} key (x ∷ xs) s i y ky e m a =
    let P : ℕ → Type 0 = λ j. distinct key (set (x ∷ xs) j y) ≡ true in
    let aa = and_true (absent key (key x) xs) (distinct key xs) a in
    let mm = find_behind key x xs s m in
    elim (position_split (λ x. not (is_some (key x))) x xs i e) [
      | inl q ↦
          subst P (sym q.1) (and_both (ap (λ o. absent key o xs) ky ∙ ap (λ r. not (is_some r)) mm.1) aa.1)
      | inr q ↦
          subst P (sym q.1.1)
          (and_both
          (absent_ext key (key x) xs (set xs q.1.0 y)
          (λ t h. find_added key xs s q.1.0 y ky q.1.2 mm.1 t ∙ ap (λ b. cond b (Some y) (find key xs t)) (other_number (key x) s t mm.0 h)) aa.0)
          (distinct_added key xs s q.1.0 y ky q.1.2 mm.1 aa.1))
    ]
