-- The first of some rules that is broken.
use Rattle.std.proofs.Common.{◌≡◌, sym, ◌∙◌}
use Rattle.imagefile.specs.Faults.{First, broken, kept, NoMore}

module _ {X : Type 0} {Rule : Type 0} {Own Rest : X → Type 0} where
  -- where the rule is kept, the fault is of those after it
  pub first_kept : {x : X} → First Rule Own Rest x → Rule → Rest x
  first_kept (broken not_kept _) r = absurd (not_kept r)
  first_kept (kept _ rest) r = rest

  -- one fault fits, where one fits of the rule's own and one of those after it
  pub first_only : ((x y : X) → Own x → Own y → y ≡ x) → ((x y : X) → Rest x → Rest y → y ≡ x) → (x y : X) → First Rule Own Rest x → First Rule Own Rest y → y ≡ x
  first_only own rest x y (broken _ a) (broken _ b) = own x y a b
  first_only own rest x y (broken not_kept _) (kept r _) = absurd (not_kept r)
  first_only own rest x y (kept r _) (broken not_kept _) = absurd (not_kept r)
  first_only own rest x y (kept _ a) (kept _ b) = rest x y a b

-- a rule with one fault of its own
pub one_only : {X : Type 0} (z : X) (x y : X) → x ≡ z → y ≡ z → y ≡ x
one_only z x y p q = q ∙ sym p

-- after the last rule
pub none_only : {X : Type 0} (x y : X) → NoMore x → NoMore y → y ≡ x
none_only x y a b = absurd a
