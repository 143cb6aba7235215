-- Where the first that passes stands.
use Rattle.std.specs.List.{position, position_or_len}
use Rattle.std.proofs.Common.{◌≡◌, ℕ, suc, ◌+◌, Bool, true, false, cond, not, ◌⊎◌, List, [], ◌∷◌, length, get_or, Some, None, Option, sym, refl, ltb, ap, ◌∙◌, subst, inl, inr, arith}
use Rattle.std.proofs.lemmas.Bool.{ltb-true, ltb-false, lt-ltb, le-ltb}
use Rattle.rules.specs.Numbers.{maybe}
use Rattle.rules.proofs.Tests.{some_none, same_value}

-- a place, one further on
abbrev pub one_on : Option ℕ → Option ℕ
one_on o = maybe o None (λ k. Some (suc k))

-- the front one passes, or the place is one further on
pub position_cons : {X : Type 0} (p : X → Bool) (x : X) (xs : List X) → position p (x ∷ xs) ≡ cond (p x) (Some 0) (one_on (position p xs))
position_cons p x xs = go (p x) refl (ltb (position_or_len p xs) (length xs)) refl
  where
    k : ℕ
    k = position_or_len p xs

    -- where the front one fails, and the test of the next place is known
    further : p x ≡ false → (c : Bool) → ltb (suc k) (length (x ∷ xs)) ≡ c → position p (x ∷ xs) ≡ cond c (Some (suc k)) None
    further h c l =
        let next : position_or_len p (x ∷ xs) ≡ suc k = ap (λ b. cond (not b) (1 + k) 0) h ∙ omega arith in
        ap (λ j. cond (ltb j (length (x ∷ xs))) (Some j) None) next ∙ ap (λ b. cond b (Some (suc k)) None) l

    go : (b : Bool) → p x ≡ b → (c : Bool) → ltb k (length xs) ≡ c → position p (x ∷ xs) ≡ cond (p x) (Some 0) (one_on (position p xs))
    go true h c l =
        let next : position_or_len p (x ∷ xs) ≡ 0 = ap (λ b. cond (not b) (1 + k) 0) h in
        ap (λ j. cond (ltb j (length (x ∷ xs))) (Some j) None) next ∙ ap (λ b. cond b (Some 0) None) (lt-ltb 0 (length (x ∷ xs)) (omega arith)) ∙ sym (ap (λ b. cond b (Some 0) (one_on (position p xs))) h)
    go false h true l =
        let m = ltb-true k (length xs) l in
        further h true (lt-ltb (suc k) (length (x ∷ xs)) (omega arith)) ∙ sym (rw (h, l))
    go false h false l = further h false (le-ltb (suc k) (length (x ∷ xs)) (omega (arith, ltb-false k (length xs) l))) ∙ sym (rw (h, l))

-- the place of the first that passes: at the front, or further back
pub position_split : {X : Type 0} (p : X → Bool) (x : X) (xs : List X) (i : ℕ) → position p (x ∷ xs) ≡ Some i
    → ((p x ≡ true) × (i ≡ 0)) ⊎ ((p x ≡ false) × ((k : ℕ) × (i ≡ suc k) × (position p xs ≡ Some k)))
position_split p x xs i e = go (p x) refl (position p xs) refl (sym (position_cons p x xs) ∙ e)
  where
    go : (b : Bool) → p x ≡ b → (o : Option ℕ) → position p xs ≡ o → cond (p x) (Some 0) (one_on (position p xs)) ≡ Some i
        → ((p x ≡ true) × (i ≡ 0)) ⊎ ((p x ≡ false) × ((k : ℕ) × (i ≡ suc k) × (position p xs ≡ Some k)))
    go true h o q r = inl (h, same_value {x = Some i} refl (sym r ∙ rw h))
    go false h None q r = some_none {x = None} (sym (rw (h, q)) ∙ r) refl
    go false h (Some k) q r = inr (h, (k, same_value {x = Some i} refl (sym r ∙ rw (h, q)), q))

-- what stands there passes
pub position_at : {X : Type 0} (p : X → Bool) (l : List X) (i : ℕ) (d : X) → position p l ≡ Some i → p (get_or l i d) ≡ true
position_at p [] i d e = some_none e refl
position_at p (x ∷ xs) i d e =
    elim (position_split p x xs i e) [
      | inl q ↦ subst (λ j. p (get_or (x ∷ xs) j d) ≡ true) (sym q.1) q.0
      | inr q ↦ subst (λ j. p (get_or (x ∷ xs) j d) ≡ true) (sym q.1.1) (position_at p xs q.1.0 d q.1.2)
    ]
