-- The line `on`: a script fault at the limit, else the memory is opened.
use Rattle.std.proofs.Common.{◌≡◌, ◌∙◌, ap, sym, refl, ◌+◌, nat_le, if◌then◌else◌, Bool, true, false, [], append-nil, length, arith, Result, Err}
use Rattle.std.proofs.KnownBytes.{Appends-nil}
use Rattle.gd_base.specs.Judging.Machine.{Machine, Blocks}
use Rattle.gd_script.specs.declared.item.Item.{Item}
use Rattle.gd_top.specs.Code.Memory.{Moment, Does, Reopens, Sits, outside}
use Rattle.gd_top.specs.Code.Standing.{Standing, Later, at}
use Rattle.gd_top.specs.Run.Items.{item_meaning, on_meaning}
use Rattle.gd_top.specs.Run.Openings.{power_on, Done}
use Rattle.gd_top.specs.Run.State.{Nothing, Off, Phase, Stops, ends}
use Rattle.gd_top.specs.declared.halt.Halt.{Halt}
use Rattle.gd_top.specs.declared.memory.TheConstants.{MOST_POWER_ONS}
use Rattle.gd_top.proofs.ItemLemmas.Clearing.{as_down, opened_by}
use Rattle.gd_top.proofs.ItemLemmas.Lines.{limit_is, stays}
use Rattle.gd_top.proofs.ItemLemmas.PowerLines.{limit_of, of_trial}
use Rattle.gd_top.proofs.RunLemmas.Equations.{on_is}
use Rattle.gd_top.proofs.RunLemmas.Said.{moves_not, stops_here}

module _ {V : Type 0} where
  on_by : (M : Machine V) (B : Blocks) (s : Standing V) (x : Later V) (b : Bool) → s.is_trial ≡ true → s.phase ≡ Off → nat_le MOST_POWER_ONS (s.power_ons + length s.armed) ≡ b
      → (let u = at s x in item_meaning M B Item.On u ≡ (if b then ends Stops [] u else power_on M B Nothing Done u))
  on_by M B s x b trial is test =
      let u = at s x in
      on_is M B u ∙ of_trial u (on_meaning M B s.phase u) trial ∙ ap (λ (p : Phase). on_meaning M B p u) is ∙ limit_of u (power_on M B Nothing Done u) trial ∙ ap (λ (b : Bool). if b then ends Stops [] u else power_on M B Nothing Done u) test

  module _ (was : Moment V) (trial : was.is_trial ≡ true) (is : was.phase ≡ Off) (sits : Sits was) where
    -- at the limit
    pub on_stopped : nat_le MOST_POWER_ONS (was.counts.power_ons + length was.counts.calls.items) ≡ true → Does (λ M B. item_meaning M B Item.On) (Err Halt.ScriptFault) was was
    on_stopped limit = record {
      carried = λ s fits. (
        s,
        (λ serves. fits),
        stops_here was.machine (item_meaning was.machine was.blocks Item.On) s (outside was)
            (λ x. on_by was.machine was.blocks s x true (fits.trial ∙ trial) (fits.phase ∙ is) (ap (nat_le MOST_POWER_ONS) (limit_is was s sits fits) ∙ limit)),
      );
      leaves = stays was sits;
      reads_nothing = λ is. absurd (cc is);
    }

    -- and below it
    pub on_opened : (now : Moment V) (r : Result (Unit {0}) Halt) → nat_le MOST_POWER_ONS (was.counts.power_ons + length was.counts.calls.items) ≡ false
        → Reopens r was now → Does (λ M B. item_meaning M B Item.On) r was now
    on_opened now r test opens =
        opened_by was was (λ M B. item_meaning M B Item.On) r now refl (λ lap index. refl) refl (omega arith) opens
        (λ s fits. (
          Nothing,
          refl,
          s,
          as_down s was is fits,
          record {
            since = [];
            listed = sym (append-nil was.disk.found);
            fell = [];
            fallen = sym (append-nil was.counts.falls.items);
            report = [];
            printed = Appends-nil was.taken;
            moves = moves_not s (outside was);
            tells = λ x whole rise. on_by was.machine was.blocks s x false (fits.trial ∙ trial) (fits.phase ∙ is) (ap (nat_le MOST_POWER_ONS) (limit_is was s sits fits) ∙ test);
          },
        ))
