-- A write to a page leaves the chains that it does not stand in.
use Rattle.std.proofs.Common.{◌≡◌, ℕ, zero, suc, ◌+◌, cond, eqb, List, [], ◌∷◌, map, length, get_or, set, sym, refl, ap, ◌∙◌, arith}
use Rattle.std.proofs.lemmas.List.{get_or-set_other, length-map}
use Rattle.std.proofs.lemmas.Bool.{eq-eqb, cond-true}
use Rattle.pages.specs.declared.page.Page.{Page}
use Rattle.pages.specs.declared.page.Chain.{Chain}
use Rattle.pages.specs.Chains.{no_page, page, linked, no_chain, size, chain, blocks_in, times}

-- the first of a list stands in it once more than in the rest
pub times_here : (p : ℕ) (l : List ℕ) → times p (p ∷ l) ≡ 1 + times p l
times_here p l = ap (λ n. n + times p l) (cond-true (eqb p p) 1 0 (eq-eqb p p refl))

-- what does not stand in a list is not its first, and does not stand in its rest
pub times_none : (p q : ℕ) (l : List ℕ) → times p (q ∷ l) ≡ 0 → (q ≡ p → ⊥) × (times p l ≡ 0)
times_none p q l e =
    (λ s. let t : ◌≡◌ {A = ℕ} (cond (eqb p q) 1 0) 1 = cond-true (eqb p q) 1 0 (eq-eqb p q (sym s)) in omega arith, omega arith)

-- a chain keeps its pages
pub linked_frame : (ps : List Page) (p : ℕ) (x : Page) (k h : ℕ) → times p (linked ps k h) ≡ 0 → linked (set ps p x) k h ≡ linked ps k h
linked_frame ps p x zero h e = refl
linked_frame ps p x (suc k) h e =
    let off = times_none p h (linked ps k (page ps h).next) e in
    let same : page (set ps p x) h ≡ page ps h = get_or-set_other ps p h x no_page off.0 in
    ap (λ y. h ∷ linked (set ps p x) k y.next) same ∙ ap (λ t. h ∷ t) (linked_frame ps p x k (page ps h).next off.1)

-- and these their bytes
pub bytes_frame : (ps : List Page) (p : ℕ) (x : Page) (l : List ℕ) → times p l ≡ 0 → map (λ q. (page (set ps p x) q).bytes) l ≡ map (λ q. (page ps q).bytes) l
bytes_frame ps p x [] e = refl
bytes_frame ps p x (q ∷ l) e =
    let off = times_none p q l e in
    let same : page (set ps p x) q ≡ page ps q = get_or-set_other ps p q x no_page off.0 in
    ap (λ y. y.bytes ∷ map (λ r. (page (set ps p x) r).bytes) l) same ∙ ap (λ t. (page ps q).bytes ∷ t) (bytes_frame ps p x l off.1)

linked_length : (ps : List Page) (k h : ℕ) → length (linked ps k h) ≡ k
linked_length ps zero h = refl
linked_length ps (suc k) h = ap suc (linked_length ps k (page ps h).next)

-- a chain has as many blocks as pages
pub blocks_length : (ps : List Page) (cs : List Chain) (o : ℕ) → length (blocks_in ps cs o) ≡ size cs o
blocks_length ps cs o =
    length-map (chain ps cs o) (λ p. (page ps p).bytes) ∙ linked_length ps (size cs o) (get_or cs o no_chain).first
