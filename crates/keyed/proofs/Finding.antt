-- What is found under a number, and after one place is changed.
use Rattle.std.proofs.Common.{◌≡◌, ℕ, suc, Bool, true, false, cond, not, ◌&&◌, eqb, List, [], ◌∷◌, get_or, set, is_some, Some, None, Option, sym, refl, ap, ◌∙◌, subst, inl, inr, true≢false}
use mathlib.Core.Bool.{false≢true}
use Rattle.rules.specs.Numbers.{changed}
use Rattle.rules.proofs.Tests.{not_both, not_true, and_true, same_cases, some_none}
use Rattle.std.specs.List.{position}
use Rattle.keyed.specs.Keyed.{is_key, find, absent, distinct}
use Rattle.keyed.proofs.Positions.{one_on, position_cons, position_split, position_at}

-- a value that is not there
pub not_there : {A : Type 0} (x : Option A) → is_some x ≡ false → x ≡ None
not_there None e = refl
not_there (Some a) e = absurd (true≢false e)

-- two tests that pass
pub and_both : {a b : Bool} → a ≡ true → b ≡ true → (a && b) ≡ true
and_both p q = rw p q

-- a key that is s
pub is_key_true : (o : Option ℕ) (s : ℕ) → is_key o s ≡ true → o ≡ Some s
is_key_true None s e = absurd (false≢true e)
is_key_true (Some k) s e = elim (same_cases s k) [ inl q ↦ ap Some (sym q.1) | inr q ↦ not_both e q.0 ]

-- the test of a key that is known
pub is_key_of : {o : Option ℕ} {k : ℕ} (s : ℕ) → o ≡ Some k → is_key o s ≡ eqb s k
is_key_of s e = ap (λ o. is_key o s) e

-- a free place has no key
pub free_none : {A : Type 0} (o : Option A) → not (is_some o) ≡ true → o ≡ None
free_none o e = not_there o (not_true (is_some o) e)

-- one test asked twice, and two that exclude one another asked in either order
pub cond_twice : {A : Type 0} (b : Bool) (u v w : A) → cond b u w ≡ cond b u (cond b v w)
cond_twice true u v w = refl
cond_twice false u v w = refl

pub cond_swap : {A : Type 0} (a b : Bool) (u v w : A) → (a ≡ true → b ≡ false) → cond b u (cond a v w) ≡ cond a v (cond b u w)
cond_swap true true u v w f = absurd (true≢false (f refl))
cond_swap true false u v w f = refl
cond_swap false true u v w f = refl
cond_swap false false u v w f = refl

-- a key that is not s is not t either, if t is s
pub other_key : (o : Option ℕ) (s t : ℕ) → is_key o s ≡ false → eqb t s ≡ true → is_key o t ≡ false
other_key o s t h e = elim (same_cases t s) [ inl q ↦ ap (is_key o) q.1 ∙ h | inr q ↦ not_both e q.0 ]

-- what stands first under s has the key s
pub position_key : {X : Type 0} (key : X → Option ℕ) (l : List X) (s i : ℕ) (d : X) → position (λ x. is_key (key x) s) l ≡ Some i → key (get_or l i d) ≡ Some s
position_key key l s i d e = is_key_true (key (get_or l i d)) s (position_at (λ x. is_key (key x) s) l i d e)

-- what is found under s stands at its place
pub find_place : {X : Type 0} (key : X → Option ℕ) (l : List X) (s i : ℕ) (d : X) → position (λ x. is_key (key x) s) l ≡ Some i
    → find key l s ≡ Some (get_or l i d)
find_place key [] s i d e = some_none e refl
find_place key (x ∷ xs) s i d e =
    elim (position_split (λ x. is_key (key x) s) x xs i e) [
      | inl q ↦ subst (λ j. find key (x ∷ xs) s ≡ Some (get_or (x ∷ xs) j d)) (sym q.1) (ap (λ b. cond b (Some x) (find key xs s)) q.0)
      | inr q ↦
          let k = q.1.0 in
          subst (λ j. find key (x ∷ xs) s ≡ Some (get_or (x ∷ xs) j d)) (sym q.1.1)
          (ap (λ b. cond b (Some x) (find key xs s)) q.0 ∙ find_place key xs s k d q.1.2)
    ]

-- nothing is found where none has the place
pub find_missing : {X : Type 0} (key : X → Option ℕ) (l : List X) (s : ℕ) → position (λ x. is_key (key x) s) l ≡ None → find key l s ≡ None
find_missing key [] s e = refl
find_missing key (x ∷ xs) s e =
    go (find_missing key xs s) (is_key (key x) s) refl (position (λ x. is_key (key x) s) xs) refl (sym (position_cons (λ x. is_key (key x) s) x xs) ∙ e)
  where
    go : (position (λ x. is_key (key x) s) xs ≡ None → find key xs s ≡ None) → (b : Bool) → is_key (key x) s ≡ b → (o : Option ℕ)
        → position (λ x. is_key (key x) s) xs ≡ o → cond (is_key (key x) s) (Some 0) (one_on (position (λ x. is_key (key x) s) xs)) ≡ None → find key (x ∷ xs) s ≡ None
    go ih true h o q r = some_none {x = Some 0} refl (sym (rw h) ∙ r)
    go ih false h None q r = ap (λ b. cond b (Some x) (find key xs s)) h ∙ ih q
    go ih false h (Some k) q r = some_none {x = Some (suc k)} refl (sym (rw (h, q)) ∙ r)

-- nothing is found under s: not in front, nor further back
pub find_behind : {X : Type 0} (key : X → Option ℕ) (x : X) (xs : List X) (s : ℕ) → find key (x ∷ xs) s ≡ None
    → (is_key (key x) s ≡ false) × (find key xs s ≡ None)
find_behind key x xs s e = go (is_key (key x) s) refl
  where
    go : (b : Bool) → is_key (key x) s ≡ b → (is_key (key x) s ≡ false) × (find key xs s ≡ None)
    go true h = some_none {x = Some x} refl (sym (ap (λ b. cond b (Some x) (find key xs s)) h) ∙ e)
    go false h = (h, sym (ap (λ b. cond b (Some x) (find key xs s)) h) ∙ e)

-- the place under s is changed, and stays under s
pub find_changed : {X : Type 0} (key : X → Option ℕ) (l : List X) (s i : ℕ) (y : X) → key y ≡ Some s → position (λ x. is_key (key x) s) l ≡ Some i
    → (t : ℕ) → find key (set l i y) t ≡ changed (find key l) s (Some y) t
find_changed key [] s i y ky e t = some_none e refl
find_changed {X} key (x ∷ xs) s i y ky e t =
    let P : ℕ → Type 0 = λ j. find key (set (x ∷ xs) j y) t ≡ changed (find key (x ∷ xs)) s (Some y) t in
    elim (position_split (λ x. is_key (key x) s) x xs i e) [
      | inl q ↦
          subst P (sym q.1)
          (ap (λ b. cond b (Some y) (find key xs t)) (is_key_of t ky) ∙ cond_twice (eqb t s) (Some y) (Some x) (find key xs t)
          ∙ sym (ap (λ b. cond (eqb t s) (Some y) (cond b (Some x) (find key xs t))) (is_key_of t (is_key_true (key x) s q.0))))
      | inr q ↦
          subst P (sym q.1.1)
          (ap (λ r. cond (is_key (key x) t) (Some x) r) (find_changed key xs s q.1.0 y ky q.1.2 t)
          ∙ cond_swap (eqb t s) (is_key (key x) t) (Some x) (Some y) (find key xs t) (other_key (key x) s t q.0))
    ]

-- nothing is found under a key that is absent
pub absent_missing : {X : Type 0} (key : X → Option ℕ) {o : Option ℕ} {s : ℕ} (xs : List X) → o ≡ Some s → absent key o xs ≡ true → find key xs s ≡ None
absent_missing key {o} {s} xs e a = not_there (find key xs s) (not_true (is_some (find key xs s)) (subst (λ p. absent key p xs ≡ true) e a))

-- the place under s becomes free
pub find_cleared : {X : Type 0} (key : X → Option ℕ) (l : List X) (s i : ℕ) (y : X) → key y ≡ None → position (λ x. is_key (key x) s) l ≡ Some i
    → distinct key l ≡ true → (t : ℕ) → find key (set l i y) t ≡ changed (find key l) s None t
find_cleared key [] s i y ky e a t = some_none e refl
find_cleared {X} key (x ∷ xs) s i y ky e a t =
    let P : ℕ → Type 0 = λ j. find key (set (x ∷ xs) j y) t ≡ changed (find key (x ∷ xs)) s None t in
    let aa = and_true (absent key (key x) xs) (distinct key xs) a in
    elim (position_split (λ x. is_key (key x) s) x xs i e) [
      | inl q ↦
          let kx : key x ≡ Some s = is_key_true (key x) s q.0 in
          let gone : find key xs s ≡ None = absent_missing key xs kx aa.0 in
          subst P (sym q.1)
          (ap (λ o. cond (is_key o t) (Some y) (find key xs t)) ky
          ∙ elim (same_cases t s) [
            | inl w ↦
                ap (find key xs) w.1 ∙ gone ∙ sym (ap (λ b. cond b None (cond (is_key (key x) t) (Some x) (find key xs t))) w.0)
            | inr w ↦
                sym (ap (λ b. cond b None (cond (is_key (key x) t) (Some x) (find key xs t))) w.0
                ∙ ap (λ b. cond b (Some x) (find key xs t)) (is_key_of t kx ∙ w.0))
          ])
      | inr q ↦
          subst P (sym q.1.1)
          (ap (λ r. cond (is_key (key x) t) (Some x) r) (find_cleared key xs s q.1.0 y ky q.1.2 aa.1 t)
          ∙ cond_swap (eqb t s) (is_key (key x) t) (Some x) None (find key xs t) (other_key (key x) s t q.0))
    ]

-- a free place is taken under s
pub find_added : {X : Type 0} (key : X → Option ℕ) (l : List X) (s i : ℕ) (y : X) → key y ≡ Some s → position (λ x. not (is_some (key x))) l ≡ Some i
    → find key l s ≡ None → (t : ℕ) → find key (set l i y) t ≡ changed (find key l) s (Some y) t
find_added key [] s i y ky e m t = some_none e refl
find_added {X} key (x ∷ xs) s i y ky e m t =
    let P : ℕ → Type 0 = λ j. find key (set (x ∷ xs) j y) t ≡ changed (find key (x ∷ xs)) s (Some y) t in
    let mm = find_behind key x xs s m in
    elim (position_split (λ x. not (is_some (key x))) x xs i e) [
      | inl q ↦
          subst P (sym q.1)
          (ap (λ b. cond b (Some y) (find key xs t)) (is_key_of t ky)
          ∙ sym (ap (λ o. cond (eqb t s) (Some y) (cond (is_key o t) (Some x) (find key xs t))) (free_none (key x) q.0)))
      | inr q ↦
          subst P (sym q.1.1)
          (ap (λ r. cond (is_key (key x) t) (Some x) r) (find_added key xs s q.1.0 y ky q.1.2 mm.1 t)
          ∙ cond_swap (eqb t s) (is_key (key x) t) (Some x) (Some y) (find key xs t) (other_key (key x) s t mm.0))
    ]
