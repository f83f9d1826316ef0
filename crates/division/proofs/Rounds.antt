-- The leftmost least entry of a round is the tally, and its column the last cut; and a round's entries are lawful.
use Rattle.std.proofs.Common.{◌≡◌, ℕ, suc, ◌+◌, ◌<◌, ◌≤◌, Bool, true, false, true≢false, cond, ltb, ◌⊎◌, List, [], ◌∷◌, ◌++◌, sym, refl, ap, ◌∙◌, subst, inl, inr, arith, ltb-false, ltb-true, lt-ltb}
use Rattle.std.proofs.lemmas.Bool.{cases_lt}
use Rattle.search.specs.Least.{Leftmost}
use Rattle.division.specs.declared.cost.Cost.{Cost}
use Rattle.division.specs.declared.cost.Cost.TheVariants.{Number, Empty}
use Rattle.division.specs.Divisions.{Division, Least, Tally, total}
use Rattle.division.specs.Costs.{before, plus}
use Rattle.division.specs.Rounds.{round_entry, LastCut, RoundsStand, RoundsLawful}
use Rattle.division.proofs.Tallies.{numbered}
use Rattle.division.proofs.Snoc.{joined, total_joined, parted}

-- what a number among the entries comes from
pub record Comes (weight : ℕ → ℕ → ℕ) (tallies : ℕ → Cost) (j a v : ℕ) : Type 0 where
  pub inside : a < j
  pub u : ℕ
  pub tally : tallies a ≡ Number u
  pub sum : v ≡ u + weight a j

pub comes : (weight : ℕ → ℕ → ℕ) (tallies : ℕ → Cost) (j a v : ℕ) → round_entry weight tallies j a ≡ Number v → Comes weight tallies j a v
comes weight tallies j a v e = go (ltb a j) refl (tallies a) refl
  where
    go : (b : Bool) → ltb a j ≡ b → (t : Cost) → tallies a ≡ t → Comes weight tallies j a v
    go false f t q = absurd (let z : ◌≡◌ {A = ℕ} 0 1 = cc in omega arith)
    go true f Empty q = absurd (let z : ◌≡◌ {A = ℕ} 0 1 = cc in omega arith)
    go true f (Number u) q =
        let s : Number v ≡ Number (u + weight a j) = sym e ∙ ap (λ (b : Bool). cond b (plus (tallies a) (weight a j)) Empty) f ∙ ap (λ (t : Cost). plus t (weight a j)) q in
        record { inside = ltb-true a j f; u = u; tally = q; sum = cc }

pub entry_at : (weight : ℕ → ℕ → ℕ) (tallies : ℕ → Cost) (j a u : ℕ) → a < j → tallies a ≡ Number u → round_entry weight tallies j a ≡ Number (u + weight a j)
entry_at weight tallies j a u h q = ap (λ (b : Bool). cond b (plus (tallies a) (weight a j)) Empty) (lt-ltb a j h) ∙ ap (λ (t : Cost). plus t (weight a j)) q

pub entry_none : (weight : ℕ → ℕ → ℕ) (tallies : ℕ → Cost) (j a : ℕ) → tallies a ≡ Empty → round_entry weight tallies j a ≡ Empty
entry_none weight tallies j a q = go (ltb a j)
  where
    go : (b : Bool) → cond b (plus (tallies a) (weight a j)) Empty ≡ Empty
    go true = ap (λ (t : Cost). plus t (weight a j)) q
    go false = refl

-- an entry takes no other weight than that of its span
pub entry_same : (weight other : ℕ → ℕ → ℕ) (tallies : ℕ → Cost) (j a : ℕ) → (a < j → weight a j ≡ other a j) → round_entry weight tallies j a ≡ round_entry other tallies j a
entry_same weight other tallies j a same = go (ltb a j) refl
  where
    go : (b : Bool) → ltb a j ≡ b → cond b (plus (tallies a) (weight a j)) Empty ≡ cond b (plus (tallies a) (other a j)) Empty
    go true e = ap (plus (tallies a)) (same (ltb-true a j e))
    go false e = refl

module _ (weight : ℕ → ℕ → ℕ) (tallies : ℕ → Cost) (k j columns c : ℕ)
    (sound : (a : ℕ) → a < j → Tally weight k a (tallies a)) (room : j ≤ columns)
    (most : Leftmost before (round_entry weight tallies j) 0 columns c) where
  tallied : (a : ℕ) (xs : List ℕ) → a < j → Division k a xs → (u : ℕ) × (tallies a ≡ Number u) × (u ≤ total weight 0 xs)
  tallied a xs h d = numbered weight k a (tallies a) (sound a h) xs d

  at_least : (v : ℕ) → round_entry weight tallies j c ≡ Number v → (a u : ℕ) → a < j → tallies a ≡ Number u → v ≤ u + weight a j
  at_least v e a u h q =
      let f = most.least a (omega arith) (omega arith) in
      ltb-false (u + weight a j) v (rw (entry_at weight tallies j a u h q, e) at f)

  number : (v : ℕ) → round_entry weight tallies j c ≡ Number v → Least weight (suc k) j v
  number v e =
      let w = comes weight tallies j c v e in
      let t : Least weight k c w.u = subst (Tally weight k c) w.tally (sound c w.inside) in
      let r = t.reached in
      record {
        reached = (r.0 ++ (j ∷ []), joined k j c r.0 r.1 w.inside, total_joined weight k j c r.0 r.1 ∙ omega (arith, w.sum, r.2));
        least = λ ends d.
            let p = parted k j ends d in
            let s = tallied p.cut p.front p.inside p.divides in
            rw (p.whole, total_joined weight k j p.cut p.front p.divides) (omega (arith, s.2, at_least v e p.cut s.0 p.inside s.1));
      }

  none : round_entry weight tallies j c ≡ Empty → (ends : List ℕ) → Division (suc k) j ends → ⊥
  none e ends d =
      let p = parted k j ends d in
      let s = tallied p.cut p.front p.inside p.divides in
      let f = most.least p.cut (omega arith) (omega (arith, p.inside)) in
      true≢false (rw (entry_at weight tallies j p.cut s.0 p.inside s.1, e) at f)

  row_tally : (t : Cost) → round_entry weight tallies j c ≡ t → Tally weight (suc k) j t
  row_tally (Number v) e = number v e
  row_tally Empty e = none e

  row_cut : (v : ℕ) → round_entry weight tallies j c ≡ Number v → LastCut weight k j c
  row_cut v e =
      let w = comes weight tallies j c v e in
      let t : Least weight k c w.u = subst (Tally weight k c) w.tally (sound c w.inside) in
      let r = t.reached in
      let same : v ≡ total weight 0 r.0 + weight c j = omega (arith, w.sum, r.2) in
      record {
        inside = w.inside;
        front = (r.0, r.1, subst (Least weight (suc k) j) same (number v e));
        leftmost = λ b ends h d l. none_left b ends h d l (cases_lt b c);
      }
    where
      none_left : (b : ℕ) (ends : List ℕ) → b < j → Division k b ends → Least weight (suc k) j (total weight 0 ends + weight b j) → (b < c) ⊎ (c ≤ b) → c ≤ b
      none_left b ends h d l (inr g) = g
      none_left b ends h d l (inl g) =
          let s = tallied b ends h d in
          let f = most.leftmost b (omega arith) g in
          let q = ltb-true v (s.0 + weight b j) (rw (entry_at weight tallies j b s.0 h s.1, e) at f) in
          let m = (number v e).reached in
          absurd (omega (arith, q, s.2, m.2, l.least m.0 m.1))

pub rounds_stand : RoundsStand
rounds_stand weight tallies k j columns c sound room most =
    (row_tally weight tallies k j columns c sound room most (round_entry weight tallies j c) refl, row_cut weight tallies k j columns c sound room most)

pub rounds_lawful : RoundsLawful
rounds_lawful weight tallies n i j a b law h g l e = from (round_entry weight tallies i b) refl
  where
    to : (v : ℕ) → round_entry weight tallies i b ≡ Number v → (t : Cost) → tallies a ≡ t → before (round_entry weight tallies j b) (round_entry weight tallies j a) ≡ true
    to v p Empty q =
        let c = comes weight tallies i b v p in
        rw (entry_at weight tallies j b c.u (omega (arith, c.inside)) c.tally, entry_none weight tallies j a q)
    to v p (Number u) q =
        let c = comes weight tallies i b v p in
        let k = ltb-true (c.u + weight b i) (u + weight a i) (rw (entry_at weight tallies i b c.u c.inside c.tally, entry_at weight tallies i a u (omega (arith, c.inside)) q) at e) in
        rw (entry_at weight tallies j b c.u (omega (arith, c.inside)) c.tally, entry_at weight tallies j a u (omega (arith, c.inside)) q)
        (lt-ltb (c.u + weight b j) (u + weight a j) (omega (arith, k, law a b i j l c.inside h g)))

    from : (x : Cost) → round_entry weight tallies i b ≡ x → before (round_entry weight tallies j b) (round_entry weight tallies j a) ≡ true
    from (Number v) p = to v p (tallies a) refl
    from Empty p = absurd (never (round_entry weight tallies i a) (rw p at e))
      where
        never : (y : Cost) → before Empty y ≡ true → ⊥
        never (Number v) q = true≢false (sym q)
        never Empty q = true≢false (sym q)
