-- One more call of a session: the law speaks of it, since each call before it did what it promises.
use Rattle.std.proofs.Common.{ℕ, ◌+◌, ◌<◌, List, [], ◌∷◌, ◌++◌, length, get_or, set, Result, sym, refl, ap, ◌∙◌, arith}
use Rattle.std.proofs.lemmas.List.{take_more, take_more_set, drop-set-lt}
use Rattle.refusal.specs.declared.Refusal.{Refusal}
use Rattle.weighing.specs.declared.weighing.Weighing.{Ghosts}
use Rattle.fit.specs.declared.fit.Fit.{Fit}
use Rattle.runs.specs.declared.step.Call.{Call}
use Rattle.runs.specs.declared.step.Answer.{Answer}
use Rattle.fit.specs.Calls.{Opens}
use Rattle.runs.specs.Runs.{Lists, Did, Event, Reached, opened, called, Law}
use Rattle.runs.specs.Sessions.{Lawful, started, answered, Ran}

module _ {W : Type 0} (m : Ghosts W) (w : W) (k : ℕ) where
  reached : {h : List Event} {f : Fit W} → Lawful m w k h f → Reached m w k h f
  reached (started o) = opened o
  reached (answered e l d n) = called e (reached l) d

  pub ran_none : (calls : List Call) (answers : List (Result Answer Refusal)) (f : Fit W) → Opens m w k f → Ran m w k 0 calls answers answers f
  ran_none calls answers f o = record { history = []; made = refl; told = refl; rest = λ j h. refl; lawful = started o }

  pub ran_more : (i : ℕ) (calls : List Call) (old new : List (Result Answer Refusal)) (f f' : Fit W) (c : Call) (r : Result Answer Refusal) (l l' : Lists) → i < length calls → i < length new →
      Did m f (get_or calls i c) l r f' l' → Law m f f' (get_or calls i c) l r l' → Ran m w k i calls old new f → Ran m w k (i + 1) calls old (set new i r) f'
  ran_more i calls old new f f' c r l l' p q did law ran =
      let e : Event = record { call = get_or calls i c; before = l; answer = r; after = l' } in
      record {
        history = e ∷ ran.history;
        made = ap (λ x. x ++ (get_or calls i c ∷ [])) ran.made ∙ sym (take_more calls i c p);
        told = ap (λ x. x ++ (r ∷ [])) ran.told ∙ sym (take_more_set new i r q);
        rest = λ j h. drop-set-lt j new i r (omega arith) ∙ ran.rest j (omega arith);
        lawful = answered e ran.lawful did (law w k ran.history (reached ran.lawful));
      }
