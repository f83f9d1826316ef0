-- What a divide over a table answers: what it reads off whatever the table holds, and what that is where the table is right.
use Rattle.std.specs.Prelude.{◌≡◌, ℕ, ◌<◌, ◌≤◌, List, length, take, drop, Ok, Err, Result}
use Rattle.refusal.specs.declared.Refusal.{Refusal}
use Rattle.refusal.specs.Rules.{Broken, NoOther}
use Rattle.search.specs.Least.{Leftmost}
use Rattle.division.specs.declared.table.Table.{Table}
use Rattle.division.specs.declared.table.Told.{Told}
use Rattle.division.specs.Costs.{before, number_or_zero}
use Rattle.division.specs.Divisions.{Best, total}
use Rattle.division.specs.Tables.{tally_at, cut_at}
use Rattle.division.specs.Trails.{trail}

-- a table has from 1 to 8 spans
pub record Spans (k : ℕ) : Type 0 where
  pub some : 0 < k
  pub few : k ≤ 8

-- the rules in order, the last of which says that the list has a place for each end
abbrev pub Refused : ℕ → ℕ → Type 0 → Refusal → Type 0
Refused n k room why = Broken (0 < n) 5 (Broken (n ≤ 512) 8 (Broken (Spans k) 6 (Broken room 9 NoOther))) why

-- of 1 to k spans, s is the fewest with the least tally of n readings
abbrev pub Fewest : Table → ℕ → ℕ → ℕ → Type 0
Fewest t n k s = Leftmost before (λ q. tally_at t q n) 1 k s

-- the list has a place for each of these spans
abbrev pub Room : Table → ℕ → ℕ → ℕ → Type 0
Room t n k places = (s : ℕ) → Fewest t n k s → s ≤ places

-- the first places of the list hold the ends that the table gives, and the later ones what they held
pub record ReadOff (t : Table) (n k : ℕ) (old : List ℕ) (told : Told) (new : List ℕ) : Type 0 where
  pub held : 0 < n
  pub readings : n ≤ 512
  pub spans : Spans k
  pub fewest : Fewest t n k told.spans
  pub weighs : told.weight ≡ number_or_zero (tally_at t told.spans n)
  pub room : told.spans ≤ length old
  pub ends : take told.spans new ≡ trail (cut_at t) told.spans n
  pub rest : drop told.spans new ≡ drop told.spans old

-- whatever the table holds
abbrev pub TableDivided : Table → ℕ → ℕ → List ℕ → Result Told Refusal → List ℕ → Type 0
TableDivided t n k old (Ok told) new = ReadOff t n k old told new
TableDivided t n k old (Err why) new = Refused n k (Room t n k (length old)) why × (new ≡ old)

-- the first places of the list hold the ends of the best division, whose spans and weight are told
pub record Answered (weight : ℕ → ℕ → ℕ) (n k : ℕ) (told : Told) (new : List ℕ) : Type 0 where
  pub best : Best weight n k (take told.spans new)
  pub many : length (take told.spans new) ≡ told.spans
  pub weighs : total weight 0 (take told.spans new) ≡ told.weight

-- the list has a place for each span of the best division
abbrev pub BestFits : (ℕ → ℕ → ℕ) → ℕ → ℕ → ℕ → Type 0
BestFits weight n k places = (ends : List ℕ) → Best weight n k ends → length ends ≤ places

-- where the table is right
abbrev pub Divided : (ℕ → ℕ → ℕ) → ℕ → ℕ → List ℕ → Result Told Refusal → List ℕ → Type 0
Divided weight n k old (Ok told) new = Answered weight n k told new
Divided weight n k old (Err why) new = Refused n k (BestFits weight n k (length old)) why
