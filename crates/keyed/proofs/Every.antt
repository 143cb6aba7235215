-- Each passes.
use Rattle.std.specs.List.{list_all}
use Rattle.std.proofs.Common.{◌≡◌, ℕ, zero, suc, ◌<◌, Bool, true, cond, ◌&&◌, List, [], ◌∷◌, map, length, get_or, set, Some, Option, sym, refl, ap, ◌∙◌, subst, inl, inr, arith}
use Rattle.rules.proofs.Tests.{bool_cases, and_true, some_none, same_value}
use Rattle.keyed.specs.Keyed.{is_key, find}
use Rattle.keyed.proofs.Finding.{and_both}

-- one changed that passes
pub every_set : {X : Type 0} (p : X → Bool) (l : List X) (i : ℕ) (y : X) → p y ≡ true → list_all p l ≡ true → list_all p (set l i y) ≡ true
every_set p [] i y h e = refl
every_set p (x ∷ xs) zero y h e = and_both h (and_true (p x) (list_all p xs) e).1
every_set p (x ∷ xs) (suc i) y h e = let w = and_true (p x) (list_all p xs) e in and_both w.0 (every_set p xs i y h w.1)

-- the one at a place passes
pub every_at : {X : Type 0} (p : X → Bool) (l : List X) (i : ℕ) (d : X) → i < length l → list_all p l ≡ true → p (get_or l i d) ≡ true
every_at p [] i d h e = absurd (omega arith)
every_at p (x ∷ xs) zero d h e = (and_true (p x) (list_all p xs) e).0
every_at p (x ∷ xs) (suc i) d h e = every_at p xs i d (omega arith) (and_true (p x) (list_all p xs) e).1

-- each changed, with the test as it was
pub every_map : {X : Type 0} (p : X → Bool) (f : X → X) (l : List X) → ((x : X) → p (f x) ≡ p x) → list_all p (map f l) ≡ list_all p l
every_map p f [] h = refl
every_map p f (x ∷ xs) h = ap (λ b. b && list_all p (map f xs)) (h x) ∙ ap (λ b. p x && b) (every_map p f xs h)

-- the one found passes
pub every_found : {X : Type 0} (p : X → Bool) (key : X → Option ℕ) (l : List X) (s : ℕ) (x : X) → list_all p l ≡ true → find key l s ≡ Some x → p x ≡ true
every_found p key [] s x e f = some_none f refl
every_found p key (y ∷ ys) s x e f =
    let w = and_true (p y) (list_all p ys) e in
    elim (bool_cases (is_key (key y) s)) [
      | inl q ↦ subst (λ z. p z ≡ true) (same_value {x = Some y} refl (sym (ap (λ b. cond b (Some y) (find key ys s)) q) ∙ f)) w.0
      | inr q ↦ every_found p key ys s x w.1 (sym (ap (λ b. cond b (Some y) (find key ys s)) q) ∙ f)
    ]
