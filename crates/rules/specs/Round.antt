-- The laws of every run: of each round at its close, and of the tables.
use Rattle.std.specs.Prelude.{◌≡◌, ℕ, suc, Bool, T, ◌↔◌, List, [], ◌∷◌, map}
use Rattle.tables.specs.Tables.{Table, Lawful}
use Rattle.modes.specs.Kind.{Kind, Laws}
use Rattle.rules.specs.Office.{Office, greatest_hand, Call, Answer}
use Rattle.rules.specs.Rules.{Step}
use Rattle.rules.specs.History.{Moment, History, Run, closes, tells, Log, log, events}
use Rattle.rules.specs.Sides.{Before, After}
use Rattle.rules.specs.Writing.{wrote, committed, opening, round_open}
use Rattle.rules.specs.Laying.{laid, CarriedRight}

-- S has every Before session that committed in the round and wrote, and no After session that wrote
abbrev pub ExactlyBefore : Log → (ℕ → Bool) → Type 0
ExactlyBefore l S =
    ((s : ℕ) → T (committed l s) → T (Before l s) → T (wrote (events l s)) → T (S s))
    × ((s : ℕ) → T (S s) → T (After l s) → T (wrote (events l s)) → ⊥)

-- the image law: the writes of any set S of sessions committed in the round, laid on the opening table in order of commit,
-- give the image exactly when S is so
abbrev pub ImageLaw : ℕ → Log → Table → Type 0
ImageLaw first l image =
    (S : ℕ → Bool) → ((s : ℕ) → T (S s) → T (committed l s)) → (laid first S (opening l) l ≡ image) ↔ ExactlyBefore l S

-- the serial law: the Before sessions committed in the round, carried out whole on the opening table in order of commit, and
-- then the After ones: each accepted read finds the text that it was answered, and the table reached is the live one
abbrev pub SerialLaw : ℕ → Log → Table → Type 0
SerialLaw first l live =
    CarriedRight first (Before l) (opening l) l
    × CarriedRight first (After l) (laid first (Before l) (opening l) l) l
    × (laid first (After l) (laid first (Before l) (opening l) l) l ≡ live)

-- what holds of a round at its accepted close
pub record RoundLaw (first : ℕ) (l : Log) (live image : Table) : Type 0 where
  -- it was opened, and neither closed nor dropped since
  pub opened : T (round_open l)
  -- its image
  pub image_law : ImageLaw first l image
  -- its sessions
  pub serial_law : SerialLaw first l live

-- the law of each accepted close in a history: of what was told before it, and of the two tables at it
abbrev pub ClosesLawful : ℕ → History → Type 0
ClosesLawful first [] = Unit {0}
ClosesLawful first (m ∷ h) =
    (tells m.call m.answer ≡ closes → RoundLaw first (log h) m.live m.image) × ClosesLawful first h

-- every round of every run: of every kind with its laws, every two tables, every list of calls; the first hand is one above the
-- greatest in the live table
abbrev pub RoundsLawful : Type 0
RoundsLawful =
    (K : Kind) → Laws K → (live image : Table) → Lawful live → (h : History) (o : Office) → Run K live image h o
    → ClosesLawful (suc (greatest_hand live)) h

-- the live table stays lawful, and so does the image, if it was
abbrev pub TablesLawful : Type 0
TablesLawful =
    (K : Kind) (live image : Table) → Lawful live → (h : History) (o : Office) → Run K live image h o
    → Lawful o.live × (Lawful image → Lawful o.image)

-- every list of calls, newest first, has a run
abbrev pub EveryListRuns : Type 0
EveryListRuns =
    (K : Kind) (live image : Table) (cs : List Call) → (h : History) × (o : Office) × Run K live image h o × (map (λ m. m.call) h ≡ cs)

-- the moment of a call c, answered a, that leaves office p
abbrev pub moment : Call → Answer → Office → Moment
moment c a p = record { call = c; answer = a; live = p.live; image = p.image }

-- each run to office o goes on with this moment to office p, and obeys the law
abbrev pub Extends : Kind → Office → Call → Answer → Office → Type 0
Extends K o c a p =
    (live image : Table) → Lawful live → (h : History) → Run K live image h o
    → Run K live image (moment c a p ∷ h) p × ClosesLawful (suc (greatest_hand live)) (moment c a p ∷ h)

-- a call that keeps to its rule extends each run
abbrev pub EachCallExtends : Type 0
EachCallExtends = (K : Kind) → Laws K → (o : Office) (c : Call) (a : Answer) (p : Office) → Step K o c a p → Extends K o c a p
