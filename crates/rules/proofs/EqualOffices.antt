-- Offices are equal when their parts are: for an office of code, whose sessions and marks stand in arrays.
use Rattle.std.proofs.Common.{◌≡◌, ℕ}
use Rattle.rules.specs.Office.{Session, Office}

pub session_ext : (x y : Session) → x.side ≡ y.side → ((e : ℕ) → x.mode e ≡ y.mode e) → ((e : ℕ) → x.text e ≡ y.text e) → x ≡ y
session_ext x y a b c = λ i. record { side = a i; mode = λ e. b e i; text = λ e. c e i }

pub office_ext : (o p : Office) → o.live ≡ p.live → o.image ≡ p.image → ((s : ℕ) → o.sessions s ≡ p.sessions s)
    → o.next_session ≡ p.next_session → o.next_hand ≡ p.next_hand → o.round ≡ p.round → ((e : ℕ) → o.copied e ≡ p.copied e) → o ≡ p
office_ext o p a b c d e f g =
    λ i. record {
      live = a i;
      image = b i;
      sessions = λ s. c s i;
      next_session = d i;
      next_hand = e i;
      round = f i;
      copied = λ j. g j i;
    }
