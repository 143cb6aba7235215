-- Each place changed, and no number.
use Rattle.std.proofs.Common.{◌≡◌, ℕ, ◌+◌, Bool, true, false, cond, not, ◌&&◌, List, [], ◌∷◌, map, is_some, Some, None, Option, option_map, sym, refl, ap, ◌∙◌}
use Rattle.std.specs.Option.{option_flatten}
use Rattle.keyed.proofs.Every.{every_map}
use Rattle.keyed.specs.Keyed.{key_of, held, is_key, find, absent, distinct, under, all_under, count_taken}
use Rattle.keyed.proofs.Counting.{counted}

-- what is found, keys that are absent, distinct or below a bound, and the count, where each place is changed
pub find_map : {X : Type 0} (key : X → Option ℕ) (f : X → X) (l : List X) (s : ℕ) → ((x : X) → key (f x) ≡ key x) → find key (map f l) s ≡ option_map f (find key l s)
find_map key f [] s h = refl
find_map key f (x ∷ xs) s h =
    ap (λ o. cond (is_key o s) (Some (f x)) (find key (map f xs) s)) (h x) ∙ ap (λ r. cond (is_key (key x) s) (Some (f x)) r) (find_map key f xs s h)
    ∙ sym (push (is_key (key x) s) (find key xs s))
  where
    push : (b : Bool) (r : Option _) → option_map f (cond b (Some x) r) ≡ cond b (Some (f x)) (option_map f r)
    push true r = refl
    push false r = refl

pub absent_map : {X : Type 0} (key : X → Option ℕ) (f : X → X) (o : Option ℕ) (l : List X) → ((x : X) → key (f x) ≡ key x) → absent key o (map f l) ≡ absent key o l
absent_map key f None l h = refl
absent_map {X} key f (Some k) l h = ap (λ r. not (is_some r)) (find_map key f l k h) ∙ go (find key l k)
  where
    go : (r : Option X) → not (is_some (option_map f r)) ≡ not (is_some r)
    go None = refl
    go (Some x) = refl

pub distinct_map : {X : Type 0} (key : X → Option ℕ) (f : X → X) (l : List X) → ((x : X) → key (f x) ≡ key x) → distinct key (map f l) ≡ distinct key l
distinct_map key f [] h = refl
distinct_map key f (x ∷ xs) h =
    ap (λ o. absent key o (map f xs) && distinct key (map f xs)) (h x) ∙ ap (λ b. b && distinct key (map f xs)) (absent_map key f (key x) xs h)
    ∙ ap (λ b. absent key (key x) xs && b) (distinct_map key f xs h)

pub under_map : {X : Type 0} (key : X → Option ℕ) (n : ℕ) (f : X → X) (l : List X) → ((x : X) → key (f x) ≡ key x) → all_under key n (map f l) ≡ all_under key n l
under_map key n f l h = every_map (λ x. under n (key x)) f l (λ x. ap (under n) (h x))

pub count_map : {X : Type 0} (key : X → Option ℕ) (p : ℕ → Bool) (f : X → X) (l : List X) → ((x : X) → key (f x) ≡ key x) → count_taken key p (map f l) ≡ count_taken key p l
count_map key p f [] h = refl
count_map key p f (x ∷ xs) h = ap (λ o. counted p o + count_taken key p (map f xs)) (h x) ∙ ap (λ n. counted p (key x) + n) (count_map key p f xs h)

-- the same of places that hold a value with a number, where each value is changed, and no number
module _ {T : Type 0} (number : T → ℕ) (f : T → T) (same : (x : T) → number (f x) ≡ number x) where
  pub key_map : (x : Option T) → key_of number (option_map f x) ≡ key_of number x
  key_map None = refl
  key_map (Some x) = ap Some (same x)

  pub held_map : (l : List (Option T)) (s : ℕ) → held number (map (option_map f) l) s ≡ option_map f (held number l s)
  held_map l s = ap option_flatten (find_map (key_of number) (option_map f) l s key_map) ∙ go (find (key_of number) l s)
    where
      go : (o : Option (Option T)) → option_flatten (option_map (option_map f) o) ≡ option_map f (option_flatten o)
      go None = refl
      go (Some x) = refl
