-- Kinds of modes: what a kind answers, the laws that every kind owes, and two kinds.
use Rattle.std.specs.Prelude.{◌≡◌, ℕ, ◌<◌, ◌≤◌, max, Bool, true, not, ◌&&◌, ◌||◌, ◌==◌}

-- a kind of modes: how many there are, which read, which write, which two conflict, and the join of two;
-- a mode is a code below `modes`, and what is answered for other codes has no meaning
pub record Kind : Type 0 where
  pub modes : ℕ
  pub reads : ℕ → Bool
  pub writes : ℕ → Bool
  pub conflict : ℕ → ℕ → Bool
  pub join : ℕ → ℕ → ℕ

-- the laws that every kind owes, for the codes of its modes
pub record Laws (K : Kind) : Type 0 where
  -- there are from 1 to 8 modes
  pub few : (1 ≤ K.modes) × (K.modes ≤ 8)
  -- conflict is symmetric
  pub both_sides : (a b : ℕ) → a < K.modes → b < K.modes → K.conflict a b ≡ K.conflict b a
  -- a mode that writes also reads
  pub writer_reads : (a : ℕ) → a < K.modes → K.writes a ≡ true → K.reads a ≡ true
  -- a mode that writes conflicts with every mode that reads
  pub writer_conflicts : (a b : ℕ) → a < K.modes → b < K.modes → K.writes a ≡ true → K.reads b ≡ true → K.conflict a b ≡ true
  -- the join of two modes is a mode
  pub join_mode : (a b : ℕ) → a < K.modes → b < K.modes → K.join a b < K.modes
  -- a join conflicts with a mode exactly when one of its two parts does
  pub join_conflict : (a b c : ℕ) → a < K.modes → b < K.modes → c < K.modes → K.conflict (K.join a b) c ≡ (K.conflict a c || K.conflict b c)
  -- a join reads exactly when one of its two parts does
  pub join_reads : (a b : ℕ) → a < K.modes → b < K.modes → K.reads (K.join a b) ≡ (K.reads a || K.reads b)
  -- a join writes exactly when one of its two parts does
  pub join_writes : (a b : ℕ) → a < K.modes → b < K.modes → K.writes (K.join a b) ≡ (K.writes a || K.writes b)
  -- at least one mode writes
  pub one_writes : (a : ℕ) × (a < K.modes) × (K.writes a ≡ true)

-- the plain kind, 0 read and 1 write: both read; only read with read does not conflict; a join is the
-- greater code
abbrev pub plain : Kind
plain =
    record {
      modes = 2;
      reads = λ a. true;
      writes = λ a. (a == 1);
      conflict = λ a b. not (a == 0 && b == 0);
      join = max;
    }

-- the draft kind, 0 read, 1 reserve and 2 write: all read; only read with read, and read with reserve
-- either way round, do not conflict; a join is the greater code
abbrev pub draft : Kind
draft =
    record {
      modes = 3;
      reads = λ a. true;
      writes = λ a. (a == 2);
      conflict = λ a b. not ((a == 0 && b == 0) || (a == 0 && b == 1) || (a == 1 && b == 0));
      join = max;
    }
