-- How many are taken.
use Rattle.std.proofs.Common.{◌≡◌, ℕ, zero, suc, ◌+◌, ◌<◌, ◌≤◌, Bool, true, false, cond, not, ◌&&◌, ◌≢◌, List, [], ◌∷◌, length, get_or, set, is_some, Some, None, Option, sym, refl, ap, ◌∙◌, inl, inr, arith}
use Rattle.rules.specs.Numbers.{maybe, count_below, one_if}
use Rattle.rules.proofs.Tests.{bool_cases, not_both, and_true, same_cases, eqb_self, some_none, eqb_apart}
use Rattle.rules.proofs.Below.{count_same}
use Rattle.std.specs.List.{position}
use Rattle.keyed.specs.Keyed.{is_key, find, absent, distinct, under, all_under, count_taken}
use Rattle.keyed.proofs.Positions.{one_on, position_cons, position_split}
use Rattle.keyed.proofs.Finding.{is_key_of, find_behind, absent_missing}
use Rattle.std.proofs.lemmas.Bool.{ltb-true}

-- 1 for a key that passes, 0 for any other and for none
abbrev pub counted : (ℕ → Bool) → Option ℕ → ℕ
counted p o = maybe o 0 (λ k. one_if (p k))

-- two tests that differ at k alone, where one fails
count_at : (n k : ℕ) (f g : ℕ → Bool) → k < n → g k ≡ false → ((j : ℕ) → j ≢ k → f j ≡ g j) → count_below n f ≡ one_if (f k) + count_below n g
count_at zero k f g l z h = absurd (omega arith)
count_at (suc n) k f g l z h =
    elim (same_cases k n) [
      | inl q ↦
          let k=n = q.1 in
          let same : count_below n f ≡ count_below n g = count_same n f g (λ j m. h j (omega arith)) in
          let zn : one_if (g n) ≡ 0 = ap (λ j. one_if (g j)) (sym k=n) ∙ ap one_if z in
          let fk : one_if (f n) ≡ one_if (f k) = ap (λ j. one_if (f j)) (sym k=n) in
          omega (arith, same, zn, fk)
      | inr q ↦
          let k≢n = q.1 in
          let n≢k : n ≢ k = λ e. k≢n (sym e) in
          let ih : count_below n f ≡ one_if (f k) + count_below n g = count_at n k f g (omega arith) z h in
          let fn : one_if (f n) ≡ one_if (g n) = ap one_if (h n n≢k) in
          omega (arith, ih, fn)
    ]

-- the numbers below n under which something is found are as many as the places taken
pub count_find : {X : Type 0} (key : X → Option ℕ) (p : ℕ → Bool) (n : ℕ) (l : List X) → distinct key l ≡ true → all_under key n l ≡ true
    → count_below n (λ s. p s && is_some (find key l s)) ≡ count_taken key p l
count_find key p n [] a u = none_pass n
  where
    and_false : (b : Bool) → (b && false) ≡ false
    and_false true = refl
    and_false false = refl

    none_pass : (m : ℕ) → count_below m (λ s. p s && false) ≡ 0
    none_pass zero = refl
    none_pass (suc m) = let ih = none_pass m in let e : one_if (p m && false) ≡ 0 = ap one_if (and_false (p m)) in omega (arith, ih, e)
count_find key p n (x ∷ xs) a u =
    let aa = and_true (absent key (key x) xs) (distinct key xs) a in
    let uu = and_true (under n (key x)) (all_under key n xs) u in
    go (count_find key p n xs aa.1 uu.1) (key x) refl aa.0 uu.0
  where
    and_false : (b : Bool) → (b && false) ≡ false
    and_false true = refl
    and_false false = refl

    and_true_right : (b : Bool) → (b && true) ≡ b
    and_true_right true = refl
    and_true_right false = refl

    go : count_below n (λ s. p s && is_some (find key xs s)) ≡ count_taken key p xs → (o : Option ℕ) → key x ≡ o → absent key o xs ≡ true → under n o ≡ true
        → count_below n (λ s. p s && is_some (find key (x ∷ xs) s)) ≡ counted p (key x) + count_taken key p xs
    go ih None kx b v =
        let h : counted p (key x) ≡ 0 = ap (counted p) kx in
        let e = count_same n (λ s. p s && is_some (find key (x ∷ xs) s)) (λ s. p s && is_some (find key xs s)) (λ k l. ap (λ o. p k && is_some (cond (is_key o k) (Some x) (find key xs k))) kx) in
        omega (arith, h, e, ih)
    go ih (Some k) kx b v =
        let h : counted p (key x) ≡ one_if (p k) = ap (counted p) kx in
        let gone : find key xs k ≡ None = absent_missing key xs refl b in
        let at_k : one_if (p k && is_some (find key (x ∷ xs) k)) ≡ one_if (p k) =
        ap (λ c. one_if (p k && is_some (cond c (Some x) (find key xs k)))) (is_key_of k kx ∙ eqb_self k) ∙ ap one_if (and_true_right (p k)) in
        let e =
        count_at n k (λ s. p s && is_some (find key (x ∷ xs) s)) (λ s. p s && is_some (find key xs s)) (ltb-true k n v) (ap (λ r. p k && is_some r) gone ∙ and_false (p k))
        (λ j m. ap (λ c. p j && is_some (cond c (Some x) (find key xs j))) (is_key_of j kx ∙ eqb_apart m)) in
        omega (arith, h, at_k, e, ih)

-- each place counts at most 1
counted_one : (p : ℕ → Bool) (o : Option ℕ) → counted p o ≤ 1
counted_one p None = omega arith
counted_one p (Some k) = go (p k)
  where
    go : (b : Bool) → one_if b ≤ 1
    go true = omega arith
    go false = omega arith

-- no more are taken than there are places
pub count_most : {X : Type 0} (key : X → Option ℕ) (p : ℕ → Bool) (l : List X) → count_taken key p l ≤ length l
count_most key p [] = omega arith
count_most key p (x ∷ xs) = omega (arith, counted_one p (key x), count_most key p xs)

-- one that is not counted leaves room
pub count_room : {X : Type 0} (key : X → Option ℕ) (p : ℕ → Bool) (q : X → Bool) (l : List X) (i : ℕ) → ((x : X) → q x ≡ true → counted p (key x) ≡ 0)
    → position q l ≡ Some i → count_taken key p l < length l
count_room key p q [] i z e = some_none e refl
count_room key p q (x ∷ xs) i z e =
    elim (position_split q x xs i e) [
      | inl w ↦ omega (arith, z x w.0, count_most key p xs)
      | inr w ↦ omega (arith, counted_one p (key x), count_room key p q xs w.1.0 z w.1.2)
    ]

-- no place is free, and each key passes
pub count_full : {X : Type 0} (key : X → Option ℕ) (p : ℕ → Bool) (l : List X) → position (λ x. not (is_some (key x))) l ≡ None
    → ((k : ℕ) → p k ≡ false → find key l k ≡ None) → count_taken key p l ≡ length l
count_full key p [] e h = refl
count_full {X} key p (x ∷ xs) e h =
    go (count_full key p xs) (key x) refl (position (λ x. not (is_some (key x))) xs) refl (sym (position_cons (λ x. not (is_some (key x))) x xs) ∙ e)
  where
    free : X → Bool
    free x = not (is_some (key x))

    back : (k : ℕ) → p k ≡ false → find key xs k ≡ None
    back k f = (find_behind key x xs k (h k f)).1

    go : (position (λ x. not (is_some (key x))) xs ≡ None → ((k : ℕ) → p k ≡ false → find key xs k ≡ None) → count_taken key p xs ≡ length xs)
        → (o : Option ℕ) → key x ≡ o → (r : Option ℕ) → position (λ x. not (is_some (key x))) xs ≡ r
        → cond (not (is_some (key x))) (Some 0) (one_on (position (λ x. not (is_some (key x))) xs)) ≡ None → counted p (key x) + count_taken key p xs ≡ suc (length xs)
    go ih None kx r s f = some_none {x = Some 0} refl (sym (rw kx) ∙ f)
    go ih (Some k) kx (Some j) s f = some_none {x = Some (suc j)} refl (sym (rw (kx, s)) ∙ f)
    go ih (Some k) kx None s f =
        let t : count_taken key p xs ≡ length xs = ih s back in
        let one : counted p (key x) ≡ 1 =
        elim (bool_cases (p k)) [
          | inl w ↦ ap (counted p) kx ∙ ap one_if w
          | inr w ↦ not_both (is_key_of k kx ∙ eqb_self k) (find_behind key x xs k (h k w)).0
        ] in
        omega (arith, t, one)

-- one place changed, counted
pub count_set : {X : Type 0} (key : X → Option ℕ) (p : ℕ → Bool) (l : List X) (i : ℕ) (y d : X) → i < length l
    → count_taken key p (set l i y) + counted p (key (get_or l i d)) ≡ count_taken key p l + counted p (key y)
count_set key p [] i y d h = absurd (omega arith)
count_set key p (x ∷ xs) zero y d h = omega arith
count_set key p (x ∷ xs) (suc i) y d h = let r = count_set key p xs i y d (omega arith) in omega (arith, r)
