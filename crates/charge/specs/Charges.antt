-- The charge: each span of another weighing costs a fixed sum more.
use Rattle.std.specs.Prelude.{◌≡◌, Bool, false, cond, ◌&&◌, nat_le, ◌+◌, ◌-◌, ◌^◌}
use Rattle.weighing.specs.declared.weighing.Weighing.{Ghosts}
use Rattle.charge.specs.declared.Charge.{Charge}

module _ {W : Type 0} (m : Ghosts W) where
  -- whether the charge is at most 2^28 and the top under it at most 2^59 - 1; if not, it is a misfit
  abbrev pub charge_fits : Charge W → Bool
  charge_fits s = nat_le s.charge (2 ^ 28) && nat_le (m.top s.inner + s.charge) (2 ^ 59 - 1)

  -- the meaning of a charge; of a misfit n and top are 0, and the verdict is 4
  abbrev pub charged : Ghosts (Charge W)
  charged =
      record {
        held = λ s. cond (charge_fits s) (m.held s.inner) 0;
        weight = λ s a b. m.weight s.inner a b + s.charge;
        level = λ s. m.level s.inner;
        verdict = λ s reading. cond (charge_fits s) (m.verdict s.inner reading) 4;
        top = λ s. cond (charge_fits s) (m.top s.inner + s.charge) 0;
        count = λ s. m.count s.inner;
      }

  -- no call alters the charge or whether it fits, and none touches a misfit
  pub record StillCharged (s t : Charge W) : Type 0 where
    pub charge_same : t.charge ≡ s.charge
    pub fit_same : charge_fits t ≡ charge_fits s
    pub misfit_same : charge_fits s ≡ false → t ≡ s
