-- Places that hold a value with a number: the value of a number, and after one place is changed.
use Rattle.std.proofs.Common.{◌≡◌, ℕ, Bool, true, false, cond, not, eqb, List, [], ◌∷◌, get_or, set, is_some, is_none, Some, None, Option, position, sym, refl, ap, ◌∙◌, subst, inl, inr}
use Rattle.std.specs.List.{list_all, list_any}
use Rattle.std.specs.Option.{option_flatten, option_map_or}
use mathlib.Core.Path.{fun_ext}
use Rattle.rules.specs.Numbers.{maybe, changed, any_below}
use Rattle.keyed.proofs.Finding.{position_key, find_place, find_missing, find_changed, find_cleared, find_added}
use Rattle.keyed.proofs.Testing.{any_below_taken}
use Rattle.keyed.specs.Keyed.{is_key, key_of, find, held, any_held, distinct, all_under}
use Rattle.rules.proofs.Tests.{bool_cases, and_true, some_none, same_value}

-- the value of a number, where it stands and where it does not
pub held_at : {T : Type 0} (number : T → ℕ) (l : List (Option T)) (s i : ℕ) (d : Option T) → position (λ x. is_key (key_of number x) s) l ≡ Some i
    → held number l s ≡ get_or l i d
held_at number l s i d e = ap option_flatten (find_place (key_of number) l s i d e)

pub held_nowhere : {T : Type 0} (number : T → ℕ) (l : List (Option T)) (s : ℕ) → position (λ x. is_key (key_of number x) s) l ≡ None → held number l s ≡ None
held_nowhere number l s e = ap option_flatten (find_missing (key_of number) l s e)

-- what stands under a number is not free
pub not_free : {T P : Type 0} (number : T → ℕ) (l : List (Option T)) (s i : ℕ) (d : Option T) → position (λ x. is_key (key_of number x) s) l ≡ Some i
    → get_or l i d ≡ None → P
not_free number l s i d e n = some_none (position_key (key_of number) l s i d e) (ap (key_of number) n)

-- a value is there where a place is taken
pub held_some : {T : Type 0} (number : T → ℕ) (l : List (Option T)) (s : ℕ) → is_some (held number l s) ≡ is_some (find (key_of number) l s)
held_some number [] s = refl
held_some number (None ∷ xs) s = held_some number xs s
held_some number (Some x ∷ xs) s = go (held_some number xs s) (eqb s (number x))
  where
    go : is_some (held number xs s) ≡ is_some (find (key_of number) xs s) → (b : Bool)
        → is_some (option_flatten (cond b (Some (Some x)) (find (key_of number) xs s))) ≡ is_some (cond b (Some (Some x)) (find (key_of number) xs s))
    go e true = refl
    go e false = e

-- a place is free where it has no number
pub free_places : {T : Type 0} (number : T → ℕ) (l : List (Option T)) → position (λ x. not (is_some (key_of number x))) l ≡ position is_none l
free_places number l = ap (λ p. position p l) (fun_ext (λ x. go x))
  where
    go : (x : Option _) → not (is_some (key_of number x)) ≡ is_none x
    go None = refl
    go (Some x) = refl

-- a place is taken where it has one
pub taken_places : {T : Type 0} (number : T → ℕ) (l : List (Option T)) → list_any (λ x. is_some (key_of number x)) l ≡ list_any is_some l
taken_places number l = ap (λ p. list_any p l) (fun_ext (λ x. go x))
  where
    go : (x : Option _) → is_some (key_of number x) ≡ is_some x
    go None = refl
    go (Some x) = refl

-- a function of a choice
pub ap_cond : {A B : Type 0} (f : A → B) (b : Bool) (x y : A) → f (cond b x y) ≡ cond b (f x) (f y)
ap_cond f true x y = refl
ap_cond f false x y = refl

-- the value of the number s is changed, it goes, or it comes to a free place
pub held_changed : {T : Type 0} (number : T → ℕ) (l : List (Option T)) (s i : ℕ) (y : T) → number y ≡ s → position (λ x. is_key (key_of number x) s) l ≡ Some i
    → (t : ℕ) → held number (set l i (Some y)) t ≡ changed (held number l) s (Some y) t
held_changed number l s i y e p t =
    ap option_flatten (find_changed (key_of number) l s i (Some y) (ap Some e) p t) ∙ ap_cond option_flatten (eqb t s) (Some (Some y)) (find (key_of number) l t)

pub held_cleared : {T : Type 0} (number : T → ℕ) (l : List (Option T)) (s i : ℕ) → position (λ x. is_key (key_of number x) s) l ≡ Some i
    → distinct (key_of number) l ≡ true → (t : ℕ) → held number (set l i None) t ≡ changed (held number l) s None t
held_cleared number l s i p a t =
    ap option_flatten (find_cleared (key_of number) l s i None refl p a t) ∙ ap_cond option_flatten (eqb t s) None (find (key_of number) l t)

pub held_added : {T : Type 0} (number : T → ℕ) (l : List (Option T)) (s i : ℕ) (y : T) → number y ≡ s → position is_none l ≡ Some i
    → find (key_of number) l s ≡ None → (t : ℕ) → held number (set l i (Some y)) t ≡ changed (held number l) s (Some y) t
held_added number l s i y e p m t =
    ap option_flatten (find_added (key_of number) l s i (Some y) (ap Some e) (free_places number l ∙ p) m t)
    ∙ ap_cond option_flatten (eqb t s) (Some (Some y)) (find (key_of number) l t)

-- a test of what stands under each number below n is a test of the values
pub any_below_held : {T : Type 0} (number : T → ℕ) (r : ℕ → Option T → Bool) (p : T → Bool) (n : ℕ) (l : List (Option T)) → ((s : ℕ) → r s None ≡ false)
    → ((x : T) → r (number x) (Some x) ≡ p x) → distinct (key_of number) l ≡ true → all_under (key_of number) n l ≡ true
    → any_below n (λ s. r s (held number l s)) ≡ any_held p l
any_below_held number r p n l z e a u =
    any_below_taken (key_of number) (λ s o. r s (option_flatten o)) n l z a u ∙ ap (λ t. list_any t l) (fun_ext (λ x. go x))
  where
    go : (x : Option _) → maybe (key_of number x) false (λ k. r k x) ≡ option_map_or p x false
    go None = refl
    go (Some x) = e x

-- a value is there where a place is taken
pub any_there : {T : Type 0} (l : List (Option T)) → any_held (λ _. true) l ≡ list_any is_some l
any_there l = ap (λ p. list_any p l) (fun_ext (λ x. go x))
  where
    go : {T : Type 0} (x : Option T) → option_map_or (λ _. true) x false ≡ is_some x
    go None = refl
    go (Some x) = refl

-- each value passes, and so does the one of a number
pub every_held : {T : Type 0} (p : T → Bool) (number : T → ℕ) (l : List (Option T)) (s : ℕ) (x : T) → list_all (λ o. option_map_or p o true) l ≡ true
    → held number l s ≡ Some x → p x ≡ true
every_held p number [] s x e h = some_none h refl
every_held p number (None ∷ ys) s x e h = every_held p number ys s x e h
every_held p number (Some y ∷ ys) s x e h =
    let w = and_true (p y) (list_all (λ o. option_map_or p o true) ys) e in
    elim (bool_cases (eqb s (number y))) [
      | inl q ↦ subst (λ z. p z ≡ true) (same_value {x = Some y} refl (sym (ap (λ b. option_flatten (cond b (Some (Some y)) (find (key_of number) ys s))) q) ∙ h)) w.0
      | inr q ↦ every_held p number ys s x w.1 (sym (ap (λ b. option_flatten (cond b (Some (Some y)) (find (key_of number) ys s))) q) ∙ h)
    ]
