-- From a level to the one with twice its stride: its rows are every second row, and its columns stand behind those of the levels above.
use Rattle.std.proofs.Common.{◌≡◌, ℕ, ◌+◌, ◌-◌, ◌*◌, ◌/◌, ◌^◌, ◌<◌, ◌≤◌, List, ◌++◌, length, get_or, refl, sym, ap, ◌∙◌, subst, ⊎_elim, mul-le-mul_left, pow-suc, le-div_iff_mul-le, div-le_self, div-mul-le_self, div-one, mul_comm, add-one, arith, pow_pos, pow_mono}
use Rattle.std.proofs.Math.Nat.{div-div-eq-div-mul, div-eq_of_lt}
use Rattle.std.proofs.lemmas.Bool.{cases_lt}
use Rattle.search.specs.declared.sheet.Sheet.{Ghosts}
use Rattle.search.specs.declared.strip.Strip.{Strip}
use Rattle.search.specs.Least.{Leftmost}
use Rattle.search.specs.Search.{Fits, BestInRow, Searched}
use Rattle.search.specs.Grid.{Answer, Holds, Keeps}
use Rattle.search.specs.Levels.{Kept, AllKept, OneRow, Shown, every, nth, from, base_of}
use Rattle.search.specs.Steps.{Read, ReadWithin, Reduced, KeptFrom, KeptBeyond, Filled, Started, Lowered, Raised}
use Rattle.search.proofs.Grid.{answer_same, keeps_moved}
use Rattle.search.proofs.Least.{leftmost_same, leftmost_unique}
use Rattle.search.proofs.Reading.{read_more, within_more}
use Rattle.search.proofs.Standing.{agrees_back}
use Rattle.std.proofs.lemmas.List.{get_or-append-add}
use Rattle.std.proofs.Math.ListN.{get_or-append}
use Rattle.search.proofs.Rows.{second_row}

-- how many rows the levels of a stride and of twice the stride have
pub record Halved (rows stride : ℕ) : Type 0 where
  pub all : rows / stride ≤ rows
  pub two : 2 ≤ rows / stride
  pub twice : 2 * (rows / (stride * 2)) ≤ rows / stride
  pub one : 0 < rows / (stride * 2)
  pub half : rows / (stride * 2) ≡ (rows / stride) / 2

pub halved : (rows stride : ℕ) → 0 < stride → stride * 2 ≤ rows → Halved rows stride
halved rows stride pos below =
    let e = sym (div-div-eq-div-mul rows stride 2) in
    let b = mul_comm stride 2 in
    let two : 2 ≤ rows / stride = (le-div_iff_mul-le {k = stride} {x = 2} {y = rows} pos).1 (omega arith) in
    record { all = div-le_self rows stride; two = two; twice = omega arith; one = omega arith; half = e }

module _ {S E : Type 0} (m : Ghosts S E) (s : S) (strip : Strip) where
  pub holds_below : (stride count : ℕ) (st : ℕ → ℕ) → 2 * (strip.rows / (stride * 2)) ≤ strip.rows / stride → Holds (every m s strip stride) st count → Holds (every m s strip (stride * 2)) st count
  holds_below stride count st le h = record {
    rising = h.rising;
    within = λ j l. let w = h.within j l in record { low = w.low; high = w.high };
    kept = λ i c l a. h.kept (2 * i + 1) c (omega arith) (subst (λ x. Leftmost m.before (m.at s (strip.row + (x - 1))) strip.column strip.columns c) (sym (second_row i stride)) a);
  }

  -- the answers of a level are those of the odd rows of the level above
  pub odd_rows : (stride : ℕ) (answers : List ℕ) → strip.rows / (stride * 2) ≡ (strip.rows / stride) / 2 → ((i : ℕ) → i < strip.rows / (stride * 2) → Answer (every m s strip (stride * 2)) i (get_or answers ((i + 1) * (stride * 2) - 1) 0)) → (j : ℕ) → 2 * j + 1 < strip.rows / stride → Answer (every m s strip stride) (2 * j + 1) (get_or answers ((2 * j + 1 + 1) * stride - 1) 0)
  odd_rows stride answers half all j l =
      subst (λ x. Leftmost m.before (m.at s (strip.row + (x - 1))) strip.column strip.columns (get_or answers (x - 1) 0)) (sym (second_row j stride)) (all j (omega arith))

-- what is said of a level is said of its strip and stride
pub of_level : (P : Strip → ℕ → Type 0) {a b : Strip} {i j : ℕ} → a ≡ b → i ≡ j → P a i → P b j
of_level P {a} {j = j} e f p = subst (λ x. P x j) e (subst (P a) f p)

-- as where its room begins
pub base_is : {base : ℕ} {a b : Strip} {i j : ℕ} → a ≡ b → i ≡ j → base ≡ base_of a i → base ≡ base_of b j
base_is {base} = of_level (λ a i. base ≡ base_of a i)

-- what was written elsewhere leaves a level's columns
pub kept_same : {S E : Type 0} (m : Ghosts S E) (s : S) (strip : Strip) (stride : ℕ) (old new : List ℕ) (most : ℕ) → base_of strip stride + strip.rows / stride < most → ((j : ℕ) → j < most → nth new j ≡ nth old j) → Kept m s strip stride old → Kept m s strip stride new
kept_same m s strip stride old new most l e k =
    let base : ℕ = base_of strip stride in
    let few = k.few in
    subst (Keeps (every m s strip stride) (from new base)) (sym (e (base + strip.rows / stride) l)) (keeps_moved (λ j jl. e (base + j) (omega arith)) k)

-- a list of the columns that a level keeps
pub shown_keeps : {S E : Type 0} (m : Ghosts S E) (s : S) (strip : Strip) (stride : ℕ) (work columns : List ℕ) → Shown strip stride work columns → Kept m s strip stride work → Keeps (every m s strip stride) (nth columns) (length columns)
shown_keeps m s strip stride work columns shown k = subst (Keeps (every m s strip stride) (nth columns)) (sym shown.count) (keeps_moved shown.same k)

-- a sheet has few rows, and so a strip of it few levels
pub few_levels : {S E : Type 0} (m : Ghosts S E) {s : S} {strip : Strip} {d last : ℕ} → Fits m s strip → m.rows s ≤ 512 → OneRow strip last → d ≤ last → d < 64
few_levels m {d = d} {last = last} fits low one le = ⊎_elim
    (λ (a : d < 64). a)
    (λ (b : 64 ≤ d). let up : 2 ^ 10 ≤ 2 ^ last = pow_mono {i = 10} {j = last} (omega arith) in let rows = fits.rows_in in let some = one.some in absurd (omega arith))
    (cases_lt d 64)

fewer_rows : (rows s t : ℕ) → 0 < s → s ≤ t → rows / t ≤ rows / s
fewer_rows rows s t pos le =
    let a = div-mul-le_self rows t in
    let b = mul-le-mul_left {m = s} {n = t} (rows / t) le in
    (le-div_iff_mul-le {k = s} {x = rows / t} {y = rows} pos).1 (omega arith)

pub pow_next : (e : ℕ) → 2 ^ (e + 1) ≡ 2 ^ e * 2
pow_next e = ap (λ k. 2 ^ k) (add-one e) ∙ pow-suc 2 e

-- above the last level each has at least twice the rows of one
pub next_level : {d last rows : ℕ} → d < last → 2 ^ last ≤ rows → 2 ^ d * 2 ≤ rows
next_level {d} {last} l le = let up : 2 ^ (d + 1) ≤ 2 ^ last = pow_mono {i = d + 1} {j = last} (omega arith) in let e = pow_next d in omega arith

-- the room of a level ends before that of any level with at most half its rows
room_before : (rows n k : ℕ) → n ≤ rows → 0 < n → 2 * k ≤ n → 3 * (rows - n) + n < 3 * (rows - k)
room_before rows n k a b c = omega arith

-- the work list up to the room of the next level has the columns of a level
pub kept_before : {S E : Type 0} (m : Ghosts S E) (s : S) (strip : Strip) (stride : ℕ) (work front room : List ℕ) → 0 < stride → stride * 2 ≤ strip.rows → work ≡ front ++ room → length front ≡ base_of strip (stride * 2) → Kept m s strip stride work → Kept m s strip stride front × (base_of strip stride + strip.rows / stride < length front)
kept_before m s strip stride work front room pos below whole long k =
    let h = halved strip.rows stride pos below in
    let two = h.two in
    let before = room_before strip.rows (strip.rows / stride) (strip.rows / (stride * 2)) h.all (omega arith) h.twice in
    (kept_same m s strip stride work front (base_of strip (stride * 2)) before (λ j l. sym (ap (λ xs. nth xs j) whole ∙ get_or-append front room 0 j (omega arith))) k, omega arith)

-- one level more keeps the levels above it
pub one_more : {S E : Type 0} (m : Ghosts S E) (s : S) (strip : Strip) (old new : List ℕ) (e : ℕ) → 2 ^ e * 2 ≤ strip.rows → AllKept m s strip old e → ((j : ℕ) → j < base_of strip (2 ^ e * 2) → get_or new j 0 ≡ get_or old j 0) → Kept m s strip (2 ^ e * 2) new → AllKept m s strip new (e + 1)
one_more m s strip old new e le levels same kept d dl = ⊎_elim
    (λ (a : d < e + 1).
    let x = halved strip.rows (2 ^ e) (pow_pos e) le in
    let up : 2 ^ d ≤ 2 ^ e = pow_mono {i = d} {j = e} (omega arith) in
    let fewer = fewer_rows strip.rows (2 ^ d) (2 ^ e) (pow_pos d) up in
    let two = x.two in
    let tw = x.twice in
    kept_same m s strip (2 ^ d) old new (base_of strip (2 ^ e * 2)) (room_before strip.rows (strip.rows / 2 ^ d) (strip.rows / (2 ^ e * 2)) (div-le_self strip.rows (2 ^ d)) (omega arith) (omega arith)) same (levels d (omega arith)))
    (λ (c : e + 1 ≤ d). let z : e + 1 ≡ d = omega arith in subst (λ k. Kept m s strip k new) (sym (pow_next e) ∙ ap (λ k. 2 ^ k) z) kept)
    (cases_lt d (e + 1))

-- the rows of the level of stride 1 are those of the strip
pub row_one : (i stride : ℕ) → stride ≡ 1 → (i + 1) * stride - 1 ≡ i
row_one i stride e = let z = ap (λ k. (i + 1) * k) e in omega arith

-- A reduction of the room at the end of the work list makes a level there.
pub record Made {S E : Type 0} (m : Ghosts S E) (s : S) (strip : Strip) (stride : ℕ) (old new : List ℕ) : Type 0 where
  pub kept : Kept m s strip stride new
  pub same : (j : ℕ) → j < base_of strip stride → nth new j ≡ nth old j
  pub beyond : KeptBeyond strip old new

pub made : {S E : Type 0} (m : Ghosts S E) {s t : S} {strip : Strip} {stride count base : ℕ} {old room room' : List ℕ} (front : List ℕ) → base ≡ base_of strip stride → old ≡ front ++ room → length front ≡ base → Reduced m s t strip stride room room' count → Made m s strip stride old (front ++ room')
made m {strip = strip} {stride = stride} {old = old} {room = room} {room' = room'} front is whole long r =
    let all = div-le_self strip.rows stride in
    let there : (j : ℕ) → nth (front ++ room') (base_of strip stride + j) ≡ nth room' j = λ j. let e : length front + j ≡ base_of strip stride + j = omega arith in ap (nth (front ++ room')) (sym e) ∙ get_or-append-add front room' j 0 in
    record {
      kept = subst (Keeps (every m _ strip stride) (from (front ++ room') (base_of strip stride))) (sym (there (strip.rows / stride))) (keeps_moved (λ j _. there j) r.kept);
      same = λ j l. get_or-append front room' 0 j (omega arith) ∙ sym (ap (λ xs. nth xs j) whole ∙ get_or-append front room 0 j (omega arith));
      beyond = λ j l.
          let e : length front + (j - length front) ≡ j = omega arith in
          ap (nth (front ++ room')) (sym e) ∙ get_or-append-add front room' (j - length front) 0 ∙ r.beyond (j - length front) (omega arith) ∙ sym (get_or-append-add front room (j - length front) 0) ∙ ap (nth (front ++ room)) e ∙ ap (λ xs. nth xs j) (sym whole);
    }

-- what the levels down to that of `stride` have once they are answered
pub record Answered {S E : Type 0} (m : Ghosts S E) (s t : S) (strip : Strip) (stride : ℕ) (old new : List ℕ) : Type 0 where
  pub answers : (i : ℕ) → i < strip.rows / stride → Answer (every m s strip stride) i (get_or new ((i + 1) * stride - 1) 0)
  pub beyond : KeptFrom old new strip.rows
  pub reads : ReadWithin m (3 * (strip.rows / stride)) s t

-- below the last level there is none
pub none_answered : {S E : Type 0} (m : Ghosts S E) {s : S} {strip : Strip} {last : ℕ} {answers : List ℕ} → OneRow strip last → Read m 0 s s → Answered m s s strip (2 ^ last * 2) answers answers
none_answered m {strip = strip} {last = last} one r =
    let none : strip.rows / (2 ^ last * 2) ≡ 0 = div-eq_of_lt one.no_more in
    record {
      answers = λ i l. absurd (omega arith);
      beyond = λ j l. refl;
      reads = (0, omega arith, r);
    }

bill : (n more len rows half : ℕ) → n ≤ 3 * half → half ≡ rows / 2 → more + 1 ≤ len + (rows - rows / 2) → len ≤ rows → n + more ≤ 3 * rows
bill n more len rows half a b c d = omega arith

far : (rows n stride j : ℕ) → n * stride ≤ rows → rows ≤ j → n * stride ≤ j
far rows n stride j a b = omega arith

pub level_done : {S E : Type 0} (m : Ghosts S E) {s t u : S} {strip : Strip} {stride len : ℕ} {answers new old : List ℕ} → 0 < stride → Fits m s strip → ((x y z : S) → m.passes x y → m.passes y z → m.passes x z) → ReadWithin m (3 * (strip.rows / (stride * 2))) s t → len ≤ strip.rows / stride → KeptFrom old answers strip.rows → Filled m t u strip stride len answers new → Answered m s u strip stride old new
level_done m {strip = strip} {stride = stride} {len = len} step fits onward r few same f = record {
  answers = λ i l. answer_same (every m _ strip stride) (agrees_back m step fits r.2) i _ l (f.answers i l);
  beyond = λ j l. f.beyond j (far strip.rows (strip.rows / stride) stride j (div-mul-le_self strip.rows stride) l) ∙ same j l;
  reads = (r.0 + f.reads.0, bill r.0 f.reads.0 len (strip.rows / stride) (strip.rows / (stride * 2)) r.1 (sym (div-div-eq-div-mul strip.rows stride 2)) f.reads.1 few, read_more m onward r.2 f.reads.2);
}

-- at stride 1 the rows are those of the strip
pub all_answered : {S E : Type 0} (m : Ghosts S E) {s t : S} {strip : Strip} {stride : ℕ} {old new : List ℕ} → stride ≡ 1 → Answered m s t strip stride old new → Raised m s t strip old new
all_answered m {s} {t} {strip} {stride} {old} {new} e a =
    let n : strip.rows / stride ≡ strip.rows = ap (λ k. strip.rows / k) e ∙ div-one strip.rows in
    record {
      found = λ i l. subst (λ x. Leftmost m.before (m.at s (strip.row + x)) strip.column strip.columns (get_or new x 0)) (row_one i stride e) (a.answers i (subst (λ x. i < x) (sym n) l));
      beyond = a.beyond;
      reads = subst (λ x. ReadWithin m (3 * x) s t) n a.reads;
    }

-- The three parts of a search together: down to the last level, and up again.
module _ {S E : Type 0} (m : Ghosts S E) {s : S} {strip : Strip} (fits : Fits m s strip) where
  best_back : {n : ℕ} {u : S} → Read m n s u → (i c : ℕ) → i < strip.rows → BestInRow m u strip i c → BestInRow m s strip i c
  best_back r i c l b =
      let rows = fits.rows_in in
      let columns = fits.columns_in in
      leftmost_same (λ k x y. r.at_same (strip.row + i) k (omega arith) (omega arith)) b

  pub searched : {t u v : S} {last told : ℕ} {work work' work'' answers answers' : List ℕ} → ((x y z : S) → m.passes x y → m.passes y z → m.passes x z) → m.ledger s ≤ 2 ^ 63 - 1 → Started m s t strip work work' → Lowered m t u strip last work' work'' → Raised m u v strip answers answers' → told ≡ m.ledger v - m.ledger s → Searched m strip s v answers answers' work work'' told
  searched {answers' = answers'} onward cap a b c told_is =
      let down = within_more m onward {c = 4 * strip.columns + 8 * strip.rows} (omega arith) a.reads b.reads in
      let all = within_more m onward {c = 4 * strip.columns + 12 * strip.rows} (omega arith) down c.reads in
      let most = all.1 in
      let risen = all.2.ledger_risen in
      let found : (i : ℕ) → i < strip.rows → BestInRow m s strip i (get_or answers' i 0) = λ i l. best_back down.2 i _ l (c.found i l) in
      record {
        found = found;
        only = λ i k l h. leftmost_unique h (found i l);
        answers_kept = c.beyond;
        work_kept = λ i l. b.beyond i l ∙ a.beyond i l;
        few = omega arith;
        ledger_risen = omega arith;
        rows_same = all.2.rows_same;
        columns_same = all.2.columns_same;
        at_same = all.2.at_same;
        passed = all.2.passed;
      }
