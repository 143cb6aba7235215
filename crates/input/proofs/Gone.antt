-- What is left of an input whose bytes are known, as they come.
use Rattle.std.proofs.Common.{◌≡◌, ◌+◌, ◌≤◌, ℕ, List, length, drop, Some, None, Option, sym, ap, ◌∙◌, refl, subst, arith, length-append, length-drop}
use Rattle.std.specs.Io.KnownBytes.{Consumes}
use Rattle.std.proofs.lemmas.List.{drop_at, drop-drop}

-- of the known bytes n are gone
abbrev pub Gone : Option (List ℕ) → Option (List ℕ) → ℕ → Type 0
Gone None left n = Unit {0}
Gone (Some xs) left n = (n ≤ length xs) × (left ≡ Some (drop n xs))

-- some more are consumed
pub gone_more : (o a b : Option (List ℕ)) (bs : List ℕ) (k m : ℕ) → Gone o a k → Consumes a b bs → m ≡ k + length bs → Gone o b m
gone_more None a b bs k m g c e = tt
gone_more (Some xs) a b bs k m g c e = go b (subst (λ x. Consumes x b bs) g.1 c)
  where
    go : (z : Option (List ℕ)) → Consumes (Some (drop k xs)) z bs → (m ≤ length xs) × (z ≡ Some (drop m xs))
    go None h = absurd h
    go (Some ys) h =
        let long : length (drop k xs) ≡ length bs + length ys = ap length h ∙ length-append bs ys in
        let cut = length-drop k xs in
        let rest : drop m xs ≡ ys = ap (λ j. drop j xs) e ∙ sym (drop-drop (length bs) k xs) ∙ ap (drop (length bs)) h ∙ drop_at bs ys (length bs) refl in
        (omega (arith, g.0), ap Some (sym rest))
