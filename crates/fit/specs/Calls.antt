-- What each call of a fit answers and does, over any weighing whose meaning is m.
use Rattle.std.specs.Prelude.{◌≡◌, ℕ, ◌+◌, ◌-◌, ◌*◌, ◌<◌, ◌≤◌, min, max, List, length, Ok, Err, Result}
use Rattle.refusal.specs.declared.Refusal.{Refusal}
use Rattle.refusal.specs.Rules.{Broken, NoOther}
use Rattle.weighing.specs.declared.weighing.Weighing.{Ghosts}
use Rattle.weighing.specs.Did as weighing
use Rattle.division.specs.declared.table.Table.{Table}
use Rattle.division.specs.declared.table.Told.{Told}
use Rattle.division.specs.Costs.{number_or_zero}
use Rattle.division.specs.Divisions.{Least}
use Rattle.division.specs.Tables.{Right, tally_at}
use Rattle.division.specs.Divide.{Room, ReadOff, Answered, BestFits}
use Rattle.fit.specs.declared.fit.Fit.{Fit}
use Rattle.fit.specs.Rounds.{SameWeighing}
use Rattle.fit.specs.Filling.{KeptFrom}

-- a limit below 1 is taken as 1, above 8 as 8
abbrev pub limit_of : ℕ → ℕ
limit_of k = min 8 (max 1 k)

-- k spans can be asked for
pub record Allowed (limit k : ℕ) : Type 0 where
  pub some : 0 < k
  pub few : k ≤ limit

-- there is a place for each unsettled reading, and four places of work
pub record Long (unsettled : ℕ) (answers work : List ℕ) : Type 0 where
  pub for_answers : unsettled ≤ length answers
  pub for_work : 4 * unsettled ≤ length work

-- the rules of a divide in order, the last of which says that the list has a place for each end
abbrev pub DivideRefused : ℕ → Type 0 → ℕ → ℕ → Type 0 → Refusal → Type 0
DivideRefused n all_settled limit k room why = Broken (0 < n) 5 (Broken all_settled 7 (Broken (Allowed limit k) 6 (Broken room 9 NoOther))) why

abbrev pub ExactRefused : ℕ → Type 0 → ℕ → ℕ → Refusal → Type 0
ExactRefused n all_settled limit k why = Broken (0 < n) 5 (Broken all_settled 7 (Broken (Allowed limit k × (k ≤ n)) 6 NoOther)) why

module _ {W : Type 0} where
  abbrev pub weighing_of : Fit W → W
  weighing_of f = f.rounds.weighing

  abbrev pub table_of : Fit W → Table
  table_of f = f.rounds.table

module _ {W : Type 0} (m : Ghosts W) where
  -- how many readings the fit holds
  abbrev pub size : Fit W → ℕ
  size f = m.held (weighing_of f)

  -- how many of them are not settled
  abbrev pub unsettled : Fit W → ℕ
  unsettled f = size f - f.mark

  -- The tallies and last cuts of the settled readings are right. This is no invariant of the type, which does not know what its
  -- weighing means: each call promises that it keeps it.
  pub record Sound (f : Fit W) : Type 0 where
    pub marked : f.mark ≤ size f
    pub right : Right (m.weight (weighing_of f)) (table_of f) f.limit f.mark

  -- a fit as it is opened: it owns the weighing, and nothing is settled
  pub record Opens (w : W) (k : ℕ) (f : Fit W) : Type 0 where
    pub owns : weighing_of f ≡ w
    pub limited : f.limit ≡ limit_of k
    pub unmarked : f.mark ≡ 0
    pub sound : Sound f

  -- the readings changed to n: the mark falls to n if it stood above
  pub record Shifts (f f' : Fit W) (n : ℕ) : Type 0 where
    pub mark_is : f'.mark ≡ min f.mark n
    pub limit_same : f'.limit ≡ f.limit
    pub levels : weighing.LevelsKept m (weighing_of f) (weighing_of f')
    pub sound : Sound f → Sound f'

  abbrev pub TakeDid : Fit W → ℕ → Result ℕ Refusal → Fit W → Type 0
  TakeDid f reading (Ok n) f' = weighing.TakeDid m (weighing_of f) (weighing_of f') reading (Ok n) × Shifts f f' n
  TakeDid f reading (Err why) f' = weighing.TakeDid m (weighing_of f) (weighing_of f') reading (Err why) × (f' ≡ f)

  abbrev pub DropDid : Fit W → Result ℕ Refusal → Fit W → Type 0
  DropDid f (Ok n) f' = weighing.DropDid m (weighing_of f) (weighing_of f') (Ok n) × Shifts f f' n
  DropDid f (Err why) f' = weighing.DropDid m (weighing_of f) (weighing_of f') (Err why) × (f' ≡ f)

  abbrev pub WipeDid : Fit W → ℕ → Fit W → Type 0
  WipeDid f n f' = weighing.WipeDid m (weighing_of f) (weighing_of f') n × Shifts f f' n

  -- What a settle that is answered leaves: all readings are settled, the weighing means what it meant, and its count has risen by
  -- what is told. Nothing is said of the first places of the lists: they are free.
  pub record Settled (f f' : Fit W) (answers answers' work work' : List ℕ) (told : ℕ) : Type 0 where
    pub mark_is : f'.mark ≡ size f
    pub limit_same : f'.limit ≡ f.limit
    pub weighing_same : SameWeighing m (weighing_of f) (weighing_of f')
    pub counted : m.count (weighing_of f') ≡ m.count (weighing_of f) + told
    pub few : told ≤ f.limit * (4 * size f + 13 * unsettled f)
    pub idle : unsettled f ≡ 0 → told ≡ 0
    pub answers_kept : KeptFrom (unsettled f) answers answers'
    pub work_kept : KeptFrom (4 * unsettled f) work work'
    pub sound : Sound f → Sound f'

  abbrev pub SettleDid : Fit W → List ℕ → List ℕ → Result ℕ Refusal → Fit W → List ℕ → List ℕ → Type 0
  SettleDid f answers work (Ok told) f' answers' work' =
      (0 < size f) × Long (unsettled f) answers work × Settled f f' answers answers' work work' told
  SettleDid f answers work (Err why) f' answers' work' =
      Broken (0 < size f) 5 (Broken (Long (unsettled f) answers work) 9 NoOther) why × (f' ≡ f) × (answers' ≡ answers) × (work' ≡ work)

  -- readings are held, and all are settled
  abbrev pub Ready : Fit W → Result ℕ Refusal → Type 0
  Ready f (Ok n) = (n ≡ size f) × (0 < size f) × (size f ≤ f.mark)
  Ready f (Err why) = Broken (0 < size f) 5 (Broken (size f ≤ f.mark) 7 NoOther) why

  abbrev pub DivideDid : Fit W → ℕ → List ℕ → Result Told Refusal → List ℕ → Type 0
  DivideDid f k ends (Ok told) ends' =
      (size f ≤ f.mark) × Allowed f.limit k × ReadOff (table_of f) (size f) k ends told ends'
      × (Sound f → Answered (m.weight (weighing_of f)) (size f) k told ends')
  DivideDid f k ends (Err why) ends' =
      DivideRefused (size f) (size f ≤ f.mark) f.limit k (Room (table_of f) (size f) k (length ends)) why × (ends' ≡ ends)
      × (Sound f → DivideRefused (size f) (size f ≤ f.mark) f.limit k (BestFits (m.weight (weighing_of f)) (size f) k (length ends)) why)

  abbrev pub ExactDid : Fit W → ℕ → Result ℕ Refusal → Type 0
  ExactDid f k (Ok v) =
      (0 < size f) × (size f ≤ f.mark) × Allowed f.limit k × (k ≤ size f) × (v ≡ number_or_zero (tally_at (table_of f) k (size f)))
      × (Sound f → Least (m.weight (weighing_of f)) k (size f) v)
  ExactDid f k (Err why) = ExactRefused (size f) (size f ≤ f.mark) f.limit k why
