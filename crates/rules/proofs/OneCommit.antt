-- One commit at one entry: what it lays there, its stamp, and what it leaves of the live table and of the image.
use Rattle.std.proofs.Common.{◌≡◌, ℕ, suc, ◌+◌, ◌<◌, ◌≤◌, min, Bool, true, false, cond, Some, None, Option, sym, refl, ap, ◌∙◌, arith}
use mathlib.Core.Bool.{false≢true}
use Rattle.tables.specs.Tables.{Entry, of}
use Rattle.rules.specs.Numbers.{one_if}
use Rattle.rules.specs.Office.{Text, Side, neither, before, after, is_before, is_after}
use Rattle.rules.specs.Rules.{committed_entry}
use Rattle.rules.specs.Laying.{lay_entry}
use Rattle.rules.proofs.Tests.{not_both}
use Rattle.rules.proofs.Invariant.{Allowed}

-- ── sides ──

pub allowed_before : (σ : Side) (b : Bool) → Allowed σ b → is_before σ ≡ true → b ≡ false
allowed_before neither b g p = elim g [ ]
allowed_before before b g p = g
allowed_before after b g p = absurd (false≢true p)

pub allowed_after : (σ : Side) (b : Bool) → Allowed σ b → is_after σ ≡ true → b ≡ true
allowed_after neither b g p = elim g [ ]
allowed_after before b g p = absurd (false≢true p)
allowed_after after b g p = g

-- ── the live entry and the image's ──

-- the live entry y is the After commits A laid on the entry b that the Before ones left; a commit of side σ keeps it so
pub live_commit : (σ : Side) (w : Option Text) (H : ℕ) (c : Bool) (A : Entry → Entry) (y b : Entry) → ((t : Text) → w ≡ Some t → Allowed σ c)
    → (c ≡ false → (z : Entry) → A z ≡ z) → y ≡ A b
    → lay_entry H w y ≡ cond (is_after σ) (lay_entry H w (A (cond (is_before σ) (lay_entry H w b) b))) (A (cond (is_before σ) (lay_entry H w b) b))
live_commit neither None H c A y b g f q = q
live_commit neither (Some t) H c A y b g f q = absurd (g t refl)
live_commit before None H c A y b g f q = q
live_commit before (Some t) H c A y b g f q =
    ap (λ z. lay_entry H (Some t) z) (q ∙ f (g t refl) b) ∙ sym (f (g t refl) (lay_entry H (Some t) b))
live_commit after w H c A y b g f q = ap (λ z. lay_entry H w z) q

-- no Before commit changes a copied entry
pub image_commit : (σ : Side) (w : Option Text) (H : ℕ) (c : Bool) (b : Entry) → ((t : Text) → w ≡ Some t → Allowed σ c) → c ≡ true
    → cond (is_before σ) (lay_entry H w b) b ≡ b
image_commit neither w H c b g q = refl
image_commit before None H c b g q = refl
image_commit before (Some t) H c b g q = not_both q (g t refl)
image_commit after w H c b g q = refl

-- ── stamps ──

-- the next hand, after a commit
pub hand_commit : (b : Bool) (h first c : ℕ) → h ≡ first + c → cond b (suc h) h ≡ first + (one_if b + c)
hand_commit true h first c q = omega arith
hand_commit false h first c q = omega arith

-- below the next hand the limit of the edition does not bite
pub committed_is : (h : ℕ) (w : Option Text) (x : Entry) → x.edition ≤ x.hand → x.hand < h → committed_entry h w x ≡ lay_entry h w x
committed_is h None x a b = refl
committed_is h (Some t) x a b =
    let q : min (suc x.edition) h ≡ suc x.edition = omega arith in
    ap (λ (d : ℕ). of t d h) q

pub stamp_commit : (w : Option Text) (x : Entry) (h k : ℕ) → x.edition ≤ x.hand → x.hand < h → h ≤ k → ((t : Text) → w ≡ Some t → h < k)
    → ((lay_entry h w x).edition ≤ (lay_entry h w x).hand) × ((lay_entry h w x).hand < k)
stamp_commit None x h k a b c f = (omega arith, omega arith)
stamp_commit (Some t) x h k a b c f = (omega arith, f t refl)

pub hands_commit : (b : Bool) (w : Option Text) (x : Entry) (h k : ℕ) → x.hand < h → h ≤ k → ((t : Text) → w ≡ Some t → h < k)
    → (cond b (lay_entry h w x) x).hand < k
hands_commit true None x h k a c f = omega arith
hands_commit true (Some t) x h k a c f = f t refl
hands_commit false w x h k a c f = omega arith
