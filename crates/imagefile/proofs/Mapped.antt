-- A result whose error was mapped into another: s is r with its error changed, as S says.
use Rattle.std.proofs.Common.{◌≡◌, Ok, Err, Result, refl, subst}
use Rattle.std.specs.Result.{MatchResult, IsErrAnd}

module _ {T E D : Type 0} (S : E → D → Type 0) where
  -- a value is that of the result before
  pub mapped_ok : (r : Result T E) (s : Result T D) (x : T) → s ≡ Ok x → MatchResult r (λ y. s ≡ Ok y) (λ e. IsErrAnd s (S e)) → r ≡ Ok x
  mapped_ok (Ok y) s x is same = cc
  mapped_ok (Err e) s x is other = absurd (subst (λ z. IsErrAnd z (S e)) is other)

  -- an error is made of that of the result before
  pub mapped_err : (r : Result T E) (s : Result T D) (d : D) → s ≡ Err d → MatchResult r (λ y. s ≡ Ok y) (λ e. IsErrAnd s (S e)) → (e : E) × (r ≡ Err e) × S e d
  mapped_err (Ok y) s d is same = absurd (cc)
  mapped_err (Err e) s d is other = (e, refl, subst (λ z. IsErrAnd z (S e)) is other)
