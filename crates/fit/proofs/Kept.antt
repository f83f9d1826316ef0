-- What was read of a round is kept in the table's row of one span more, and the rounds together fill it.
use Rattle.std.proofs.Common.{◌≡◌, ℕ, suc, ◌+◌, ◌-◌, ◌*◌, ◌^◌, ◌<◌, ◌≤◌, cond, ltb, List, length, get_or, take, sym, refl, ap, ◌∙◌, subst, ⊎_elim, add-mul, one-mul, length-take-le, get_or-take, arith}
use Rattle.std.proofs.lemmas.Bool.{cond-false, le-ltb, cases_lt}
use Rattle.counter.specs.declared.Counter.{Counter}
use Rattle.search.specs.Reading.{Reads}
use Rattle.search.specs.Least.{Leftmost}
use Rattle.search.proofs.Least.{leftmost_same}
use Rattle.weighing.specs.declared.weighing.Weighing.{Ghosts}
use Rattle.division.specs.declared.cost.Cost.{Cost}
use Rattle.division.specs.declared.cost.Cost.TheVariants.{Empty}
use Rattle.division.specs.declared.table.Table.{Table}
use Rattle.division.specs.Costs.{Small, plus, before}
use Rattle.division.specs.Rounds.{round_entry}
use Rattle.division.specs.Tables.{tally_at, cut_at, carried_at, carry, Put}
use Rattle.division.specs.Fillings.{Filled}
use Rattle.division.proofs.Tables.{entry_small}
use Rattle.division.proofs.Rounds.{entry_same}
use Rattle.fit.specs.declared.rounds.Rounds.{Rounds}
use Rattle.fit.specs.Rounds.{SameWeighing, Passing, entry_of, ledger_of}
use Rattle.fit.specs.Filling.{Weighed, SameCell, KeptFrom, KeptOne, KeptAll, RoundDone, RoundsDone}

-- an entry can be kept
small_entry : (weight : ℕ → ℕ → ℕ) (t : Table) (k j a : ℕ) → (a < j → weight a j ≤ 2 ^ 59 - 1) → Small (round_entry weight (carried_at t k) j a)
small_entry weight t k j a light = ⊎_elim
    (λ (l : a < j). entry_small weight t k j a (light l))
    (λ (g : j ≤ a). subst Small (sym (cond-false (ltb a j) (plus (carried_at t k a) (weight a j)) Empty (le-ltb a j g))) tt)
    (cases_lt a j)

module _ {W : Type 0} (m : Ghosts W) where
  -- no call, no row and no round leave all as it was
  pub weighed_none : (v : W) → Weighed m v v 0
  weighed_none v = record {
    same = record { held_same = refl; weights_same = λ a b l h. refl; levels_same = λ a b l h. refl; verdicts_same = λ r l. refl; top_same = refl; count_risen = omega arith };
    few = omega arith;
  }

  pub weighed_more : {u v w : W} {a b : ℕ} (c : ℕ) → a + b ≤ c → Weighed m u v a → Weighed m v w b → Weighed m u w c
  weighed_more c le p q =
      let x = p.same in
      let y = q.same in
      let hold = x.held_same in
      let rise = x.count_risen in
      let more = y.count_risen in
      let few = p.few in
      let fewer = q.few in
      record {
        same = record {
          held_same = y.held_same ∙ x.held_same;
          weights_same = λ a b l h. y.weights_same a b l (omega arith) ∙ x.weights_same a b l h;
          levels_same = λ a b l h. y.levels_same a b l (omega arith) ∙ x.levels_same a b l h;
          verdicts_same = λ r l. y.verdicts_same r l ∙ x.verdicts_same r l;
          top_same = y.top_same ∙ x.top_same;
          count_risen = omega arith;
        };
        few = omega arith;
      }

  -- while the ledger is below its top, as much was weighed as was read at most
  pub passing_weighed : {s t : Rounds W} (n : ℕ) → Passing m s t → ledger_of t ≡ ledger_of s + n → ledger_of s + n < 2 ^ 63 - 1 → Weighed m s.weighing t.weighing n
  passing_weighed n p e low = let c = p.counted (omega arith) in record { same = p.weighing_same; few = omega arith }

  pub kept_one : {s t : Rounds W} {row column : ℕ} (cost : Cost) (u : Table) → ((a b : ℕ) → a < b → b ≤ m.held s.weighing → m.weight s.weighing a b ≤ 2 ^ 59 - 1) → m.held s.weighing ≤ 512 → row < m.held s.weighing → column < m.held s.weighing → s.round < 8 → ledger_of s + 1 < 2 ^ 63 - 1 → cost ≡ entry_of m s row column → Reads (λ (s : Rounds W). m.held s.weighing) (λ (s : Rounds W). m.held s.weighing) (entry_of m) ledger_of (Passing m) 1 s t → Put (t.round + 1) (row + 1) cost column t.table u → KeptOne m s (record { weighing = t.weighing; table = u; round = t.round; ledger = t.ledger }) row column
  kept_one {s} {t} {row} {column} cost u light few row_in column_in round low e r put =
      let p = r.passed in
      let table = p.table_same in
      let same = p.round_same in
      let risen = r.ledger_risen in
      let exact : ledger_of t ≡ ledger_of s + 1 = omega arith in
      let k : t.round + 1 ≡ suc s.round = omega arith in
      let put_at : Put (suc s.round) (row + 1) cost column s.table u = subst (λ x. Put x (row + 1) cost column s.table u) k (subst (λ x. Put (t.round + 1) (row + 1) cost column x u) table put) in
      let small : Small cost = subst Small (sym e) (small_entry (m.weight s.weighing) s.table s.round (row + 1) column (λ l. light column (row + 1) l (omega arith))) in
      let here = put_at.here (record { some = omega arith; few = omega arith; readings = omega arith; small = small; near = omega arith }) in
      record {
        weighed = passing_weighed 1 p exact low;
        ledger_risen = exact;
        round_same = same;
        tally = here.0 ∙ e;
        cut = here.1;
        others = put_at.others;
      }

  -- an entry stands while the weights of the spans held and the tallies that it works from do
  pub entry_stands : (s t : Rounds W) (row a : ℕ) → SameWeighing m s.weighing t.weighing → t.round ≡ s.round → ((j : ℕ) → tally_at t.table s.round j ≡ tally_at s.table s.round j) → row < m.held s.weighing → entry_of m t row a ≡ entry_of m s row a
  entry_stands s t row a same round tallies l =
      let weights = entry_same (m.weight t.weighing) (m.weight s.weighing) (carried_at t.table t.round) (row + 1) a (λ h. same.weights_same a (row + 1) h (omega arith)) in
      let carried : carried_at t.table t.round a ≡ carried_at s.table s.round a = ap (λ k. carry (tally_at t.table k a)) round ∙ ap carry (tallies a) in
      weights ∙ ap (λ c. cond (ltb a (row + 1)) (plus c (m.weight s.weighing a (row + 1))) Empty) carried

  pub kept_none : (s : Rounds W) (mark : ℕ) (columns : List ℕ) → KeptAll m s s mark 0 columns
  kept_none s mark columns = record {
    weighed = weighed_none s.weighing;
    round_same = refl;
    tallies = λ i l. absurd (omega arith);
    cuts = λ i l. absurd (omega arith);
    others = λ k j h. (refl, refl);
  }

  pub kept_more : {s t u : Rounds W} {mark many : ℕ} {columns : List ℕ} → mark + many < m.held s.weighing → KeptAll m s t mark many columns → KeptOne m t u (mark + many) (get_or columns many 0) → KeptAll m s u mark (many + 1) columns
  kept_more {s} {t} {u} {mark} {many} {columns} inside all one =
      let round = all.round_same in
      let next : suc t.round ≡ suc s.round = ap suc round in
      let other : (k j : ℕ) → ((k ≡ suc s.round) × (j ≡ mark + many + 1) → ⊥) → SameCell t.table u.table k j = λ k j untouched. one.others k j (λ p. untouched (p.0 ∙ next, p.1)) in
      let entry = entry_stands s t (mark + many) (get_or columns many 0) all.weighed.same round (λ j. (all.others s.round j (λ p. let e = p.0 in omega arith)).0) inside in
      let tally : tally_at u.table (suc s.round) (mark + many + 1) ≡ entry_of m s (mark + many) (get_or columns many 0) = subst (λ k. tally_at u.table k (mark + many + 1) ≡ entry_of m t (mark + many) (get_or columns many 0)) next one.tally ∙ entry in
      let cut : cut_at u.table (suc s.round) (mark + many + 1) ≡ get_or columns many 0 = subst (λ k. cut_at u.table k (mark + many + 1) ≡ get_or columns many 0) next one.cut in
      record {
        weighed = weighed_more (many + 1) (omega arith) all.weighed one.weighed;
        round_same = one.round_same ∙ round;
        tallies = λ i l. ⊎_elim
            (λ (h : i < many). (other (suc s.round) (mark + i + 1) (λ p. let e = p.1 in omega arith)).0 ∙ all.tallies i h)
            (λ (h : many ≤ i). let e : many ≡ i = omega arith in subst (λ x. tally_at u.table (suc s.round) (mark + x + 1) ≡ entry_of m s (mark + x) (get_or columns x 0)) e tally)
            (cases_lt i many);
        cuts = λ i l. ⊎_elim
            (λ (h : i < many). (other (suc s.round) (mark + i + 1) (λ p. let e = p.1 in omega arith)).1 ∙ all.cuts i h)
            (λ (h : many ≤ i). let e : many ≡ i = omega arith in subst (λ x. cut_at u.table (suc s.round) (mark + x + 1) ≡ get_or columns x 0) e cut)
            (cases_lt i many);
        others = λ k j untouched.
            let a = other k j (λ p. let e = p.1 in untouched (p.0, omega arith, omega arith)) in
            let b = all.others k j (λ p. let h = p.2 in untouched (p.0, p.1, omega arith)) in
            (a.0 ∙ b.0, a.1 ∙ b.1);
      }

  -- what is kept of the first places of a list
  pub kept_front : {s t : Rounds W} {mark many : ℕ} (columns : List ℕ) → many ≤ length columns → KeptAll m s t mark (length (take many columns)) (take many columns) → KeptAll m s t mark many columns
  kept_front {s} {t} {mark} {many} columns le kept =
      let all = rw (length-take-le many columns le) at kept in
      record {
        weighed = all.weighed;
        round_same = all.round_same;
        tallies = λ i l. rw (get_or-take many columns i 0 l) at (all.tallies i l);
        cuts = λ i l. all.cuts i l ∙ get_or-take many columns i 0 l;
        others = all.others;
      }

  -- the state in which round k begins
  abbrev pub begun : Rounds W → Counter → ℕ → Rounds W
  begun s ledger k = record { weighing = s.weighing; table = s.table; round = k; ledger = ledger }

  -- what the search left as t and the keeping as u of round k over n readings
  pub record Ran (s t u : Rounds W) (k mark n told : ℕ) (answers answers' work work' : List ℕ) : Type 0 where
    pub ledger : Counter
    pub unread : ledger.told ≡ 0
    pub found : (i : ℕ) → i < n - mark → Leftmost before (entry_of m (begun s ledger k) (mark + i)) 0 n (get_or answers' i 0)
    pub few : told ≤ 4 * n + 12 * (n - mark)
    pub risen : ledger_of t ≡ ledger.told + told
    pub passed : Passing m (begun s ledger k) t
    pub kept : KeptAll m t u mark (n - mark) answers'
    pub answers_kept : KeptFrom (n - mark) answers answers'
    pub work_kept : KeptFrom (4 * (n - mark)) work work'

  module _ {s t u : Rounds W} {k mark told : ℕ} {answers answers' work work' : List ℕ} (ran : Ran s t u k mark (m.held s.weighing) told answers answers' work work') where
    others_same : (p j : ℕ) → ((p ≡ suc k) × (mark < j) → ⊥) → SameCell s.table u.table p j
    others_same p j untouched =
        let round = ran.passed.round_same in
        let a = ran.kept.others p j (λ q. untouched (q.0 ∙ ap suc round, q.1)) in
        (a.0 ∙ ap (λ x. tally_at x p j) ran.passed.table_same, a.1 ∙ ap (λ x. cut_at x p j) ran.passed.table_same)

    -- the tallies that the round worked from are still there
    carried_same : (a : ℕ) → carried_at u.table k a ≡ carried_at s.table k a
    carried_same a = ap carry (others_same k a (λ p. let e = p.0 in omega arith)).0

    entry_from : (j a : ℕ) → round_entry (m.weight s.weighing) (carried_at s.table k) j a ≡ round_entry (m.weight s.weighing) (carried_at u.table k) j a
    entry_from j a = ap (λ c. cond (ltb a j) (plus c (m.weight s.weighing a j)) Empty) (sym (carried_same a))

    row_filled : (i : ℕ) → i < m.held s.weighing - mark → Filled (m.weight s.weighing) u.table (m.held s.weighing) k (mark + i + 1)
    row_filled i l =
        let weight : ℕ → ℕ → ℕ = m.weight s.weighing in
        let round : suc t.round ≡ suc k = ap suc ran.passed.round_same in
        let cut : cut_at u.table (suc k) (mark + i + 1) ≡ get_or answers' i 0 = subst (λ x. cut_at u.table x (mark + i + 1) ≡ get_or answers' i 0) round (ran.kept.cuts i l) in
        let entry = entry_stands (begun s ran.ledger k) t (mark + i) (get_or answers' i 0) ran.passed.weighing_same ran.passed.round_same (λ j. ap (λ x. tally_at x k j) ran.passed.table_same) (omega arith) in
        let tally : tally_at u.table (suc k) (mark + i + 1) ≡ round_entry weight (carried_at s.table k) (mark + i + 1) (get_or answers' i 0) = subst (λ x. tally_at u.table x (mark + i + 1) ≡ entry_of m t (mark + i) (get_or answers' i 0)) round (ran.kept.tallies i l) ∙ entry in
        record {
          least = subst (λ c. Leftmost before (round_entry weight (carried_at u.table k) (mark + i + 1)) 0 (m.held s.weighing) c) (sym cut) (leftmost_same (λ a x y. entry_from (mark + i + 1) a) (ran.found i l));
          put = tally ∙ entry_from (mark + i + 1) (get_or answers' i 0) ∙ ap (round_entry weight (carried_at u.table k) (mark + i + 1)) (sym cut);
        }

    pub round_done : mark < m.held s.weighing → m.held s.weighing ≤ 512 → RoundDone m s u k mark answers answers' work work'
    round_done some most = let few = ran.few in let none = ran.unread in record {
      weighed = weighed_more (4 * m.held s.weighing + 13 * (m.held s.weighing - mark)) (omega arith) (passing_weighed told ran.passed ran.risen (omega arith)) ran.kept.weighed;
      filled = λ j a b. let e : mark + (j - mark - 1) + 1 ≡ j = omega arith in subst (λ x. Filled (m.weight s.weighing) u.table (m.held s.weighing) k x) e (row_filled (j - mark - 1) (omega arith));
      others = others_same;
      answers_kept = ran.answers_kept;
      work_kept = ran.work_kept;
    }

-- a filled cell stays so while the weights of the spans held, the tallies that it came from and the cell itself stay
filled_stays : (weight other : ℕ → ℕ → ℕ) (t u : Table) (n k j : ℕ) → ((a : ℕ) → a < j → weight a j ≡ other a j) → ((i : ℕ) → tally_at u k i ≡ tally_at t k i) → SameCell t u (suc k) j → Filled weight t n k j → Filled other u n k j
filled_stays weight other t u n k j weights tallies cell f =
    let entry : (a : ℕ) → round_entry weight (carried_at t k) j a ≡ round_entry other (carried_at u k) j a = λ a.
    entry_same weight other (carried_at t k) j a (weights a) ∙ ap (λ c. cond (ltb a j) (plus c (other a j)) Empty) (ap carry (sym (tallies a))) in
    record {
      least = subst (λ c. Leftmost before (round_entry other (carried_at u k) j) 0 n c) (sym cell.1) (leftmost_same (λ a x y. entry a) f.least);
      put = cell.0 ∙ f.put ∙ entry (cut_at t (suc k) j) ∙ ap (round_entry other (carried_at u k) j) (sym cell.1);
    }

module _ {W : Type 0} (m : Ghosts W) where
  pub rounds_none : (s : Rounds W) (mark : ℕ) (answers work : List ℕ) → RoundsDone m s s 0 mark answers answers work work
  rounds_none s mark answers work = record {
    weighed = weighed_more m (0 * (4 * m.held s.weighing + 13 * (m.held s.weighing - mark))) (omega arith) (weighed_none m s.weighing) (weighed_none m s.weighing);
    filled = λ k j a. absurd (omega arith);
    settled_kept = λ k j l. (refl, refl);
    answers_kept = λ i l. refl;
    work_kept = λ i l. refl;
  }

  pub rounds_more : {s t u : Rounds W} {k mark : ℕ} {answers answers' answers'' work work' work'' : List ℕ} → RoundsDone m s t k mark answers answers' work work' → RoundDone m t u k mark answers' answers'' work' work'' → RoundsDone m s u (k + 1) mark answers answers'' work work''
  rounds_more {s} {t} {u} {k} {mark} done one =
      let same = done.weighed.same in
      let hold = same.held_same in
      let each : ℕ = 4 * m.held s.weighing + 13 * (m.held s.weighing - mark) in
      let sum = add-mul k 1 each in
      let unit = one-mul each in
      let first = ap (λ n. n - mark) hold in
      let other : (p : ℕ) (j : ℕ) → (p ≡ suc k → ⊥) → SameCell t.table u.table p j = λ p j ne. one.others p j (λ q. ne q.0) in
      record {
        weighed = weighed_more m ((k + 1) * each) (omega arith) done.weighed one.weighed;
        filled = λ p j pk mj jn. ⊎_elim
            (λ (l : p < k). filled_stays (m.weight s.weighing) (m.weight s.weighing) t.table u.table (m.held s.weighing) p j (λ a h. refl) (λ i. (other p i (λ e. omega arith)).0) (other (suc p) j (λ e. omega arith)) (done.filled p j l mj jn))
            (λ (g : k ≤ p).
            let e : k ≡ p = omega arith in
            let now = filled_stays (m.weight t.weighing) (m.weight s.weighing) u.table u.table (m.held t.weighing) k j (λ a h. same.weights_same a j h jn) (λ i. refl) (refl, refl) (one.filled j mj (omega arith)) in
            subst (λ x. Filled (m.weight s.weighing) u.table (m.held s.weighing) x j) e (subst (λ n. Filled (m.weight s.weighing) u.table n k j) hold now))
            (cases_lt p k);
        settled_kept = λ p j l. let a = one.others p j (λ q. let h = q.1 in omega arith) in let b = done.settled_kept p j l in (a.0 ∙ b.0, a.1 ∙ b.1);
        answers_kept = λ i l. one.answers_kept i (omega arith) ∙ done.answers_kept i l;
        work_kept = λ i l. one.work_kept i (omega arith) ∙ done.work_kept i l;
      }
