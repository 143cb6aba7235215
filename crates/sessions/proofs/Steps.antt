-- The rule of a call from its tests, one by one.
use Rattle.std.proofs.Common.{◌≡◌, ℕ, ◌<◌, Bool, true, false, cond, not, ltb, List, [], ◌∷◌, Some, None, Option, sym, refl, ap, ◌∙◌}
use Rattle.std.proofs.lemmas.Bool.{lt-ltb}
use Rattle.tables.specs.declared.refusal.Refusal.{Refusal}
use Rattle.modes.specs.Kind.{Kind}
use Rattle.rules.specs.Numbers.{first_of}
use Rattle.rules.specs.Office.{Office, Call, Answer, refused}
use Rattle.rules.specs.Rules.{declines, perform, decided, Step}

-- the tests of a list fail one by one, until one passes or none is left
pub data Falls : List (Bool × Refusal) → Option Refusal → Type 0 where
  hit : {b : Bool} {r : Refusal} {ds : List (Bool × Refusal)} → b ≡ true → Falls ((b, r) ∷ ds) (Some r)
  pass : {b : Bool} {r : Refusal} {ds : List (Bool × Refusal)} {x : Option Refusal} → b ≡ false → Falls ds x → Falls ((b, r) ∷ ds) x
  over : Falls [] None

-- that decides which refusal is the first
pub first_falls : (ds : List (Bool × Refusal)) (x : Option Refusal) → Falls ds x → first_of ds ≡ x
first_falls _ _ (hit {b} {r} {ds} e) = ap (λ c. cond c (Some r) (first_of ds)) e
first_falls _ _ (pass {b} {r} {ds} {x} e f) = ap (λ c. cond c (Some r) (first_of ds)) e ∙ first_falls ds x f
first_falls _ _ over = refl

-- the first test that passes refuses the call
pub refusing : (K : Kind) (o : Office) (c : Call) (r : Refusal) → Falls (declines K o c) (Some r) → Step K o c (refused r) o
refusing K o c r e = sym (ap (decided K o c) (first_falls (declines K o c) (Some r) e))

-- no test passes, and the call is performed
pub performing : (K : Kind) (o : Office) (c : Call) (a : Answer) (p : Office) → Falls (declines K o c) None → (a, p) ≡ perform K o c → Step K o c a p
performing K o c a p e f = f ∙ sym (ap (decided K o c) (first_falls (declines K o c) None e))

-- the test of a number's bound
pub is_below : {a b : ℕ} → a < b → not (ltb a b) ≡ false
is_below {a} {b} h = ap not (lt-ltb a b h)
