-- An event that tells of a fault raises its tilt, and is noted.
use Rattle.std.proofs.Common.{ap, subst, is_some, unwrap_or, Option, ◌≡◌, ◌∙◌, ◌+◌, ◌∷◌, length, true, slice_set, take, Some, None}
use Rattle.gd_base.specs.declared.condition.Tilt.{Tilt}
use Rattle.gd_base.specs.declared.event.Event.{Event}
use Rattle.gd_base.specs.declared.records.TheConstants.{EVENTS_KEPT}
use Rattle.gd_base.specs.declared.setup.Setup.{Setup}
use Rattle.gd_base.specs.Histories.Numbers.{tilt_place}
use Rattle.gd_base.specs.Histories.Recall.{event_record}
use Rattle.gd_base.specs.Histories.View.{View}
use Rattle.gd_base.specs.Histories.ViewOf.{IsItself}
use Rattle.gd_base.proofs.Effects.Conditions.{alarmed, effect_bill_jam, effect_coin_jam, effect_paper_out, effect_stacker_full}
use Rattle.gd_machine.specs.Acts.{acted, fault_of}
use Rattle.gd_machine.proofs.Acted.{acted_by}
use Rattle.gd_machine.proofs.Flags.{IsRaised, bill_jam, coin_jam, paper_out, stacker_full}

one_tilt : (a b : Tilt) → Some a ≡ Some b → a ≡ b
one_tilt a b h = ap (λ (x : Option Tilt). unwrap_or x a) h

no_tilt : (a : Tilt) → None ≡ Some a → ⊥
no_tilt a h = cc (ap is_some h)

module _ (setup : Setup) (v : View) (is : IsItself setup v) (six : length v.tilts ≡ 6) where
  abbrev raised : Tilt → View
  raised tilt = record v {
    tilts = slice_set v.tilts (tilt_place tilt) true;
    events = take EVENTS_KEPT (event_record (v.count + 1) 4 (tilt_place tilt + 5) ∷ v.events);
  }

  abbrev Tells : Tilt → Event → Type 0
  Tells tilt event = raised tilt ≡ acted setup v event None

  with_tilts : (tilt : Tilt) (event : Event) → IsRaised event tilt v.tilts
      → raised tilt ≡ record (alarmed setup v is 0 None event tilt) { count = v.count; kept = v.kept }
  with_tilts tilt event flags = λ x. record (raised tilt) { tilts = flags x }

  pub fault_told : (tilt : Tilt) (event : Event) → fault_of event ≡ Some tilt → Tells tilt event
  fault_told tilt Event.BillJam h =
      subst (λ (t : Tilt). Tells t Event.BillJam) (one_tilt Tilt.BillJam tilt h)
      (with_tilts Tilt.BillJam Event.BillJam (bill_jam v.tilts six) ∙ acted_by setup v Event.BillJam None _ (effect_bill_jam setup v is 0 None))
  fault_told tilt Event.CoinJam h =
      subst (λ (t : Tilt). Tells t Event.CoinJam) (one_tilt Tilt.CoinJam tilt h)
      (with_tilts Tilt.CoinJam Event.CoinJam (coin_jam v.tilts six) ∙ acted_by setup v Event.CoinJam None _ (effect_coin_jam setup v is 0 None))
  fault_told tilt Event.StackerFull h =
      subst (λ (t : Tilt). Tells t Event.StackerFull) (one_tilt Tilt.StackerFull tilt h)
      (with_tilts Tilt.StackerFull Event.StackerFull (stacker_full v.tilts six) ∙ acted_by setup v Event.StackerFull None _ (effect_stacker_full setup v is 0 None))
  fault_told tilt Event.PaperOut h =
      subst (λ (t : Tilt). Tells t Event.PaperOut) (one_tilt Tilt.PaperOut tilt h)
      (with_tilts Tilt.PaperOut Event.PaperOut (paper_out v.tilts six) ∙ acted_by setup v Event.PaperOut None _ (effect_paper_out setup v is 0 None))
  fault_told tilt _ h = absurd (no_tilt tilt h)
