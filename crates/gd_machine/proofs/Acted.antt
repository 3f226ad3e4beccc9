-- What a taken event makes of a view, by its effect.
use Rattle.std.proofs.Common.{◌≡◌, ap, subst, sym, ℕ, List, Option, Result, OnOk}
use Rattle.gd_base.specs.declared.event.Event.{Event}
use Rattle.gd_base.specs.declared.refusal.Refusal.{Refusal}
use Rattle.gd_base.specs.declared.refusal.Reply.{Reply}
use Rattle.gd_base.specs.declared.setup.Setup.{Setup}
use Rattle.gd_base.specs.Histories.View.{View}
use Rattle.gd_base.proofs.Effects.Shared.{after}
use Rattle.gd_machine.specs.Acts.{acted}

-- with the count and the devices of another view
abbrev pub kept_as : View → View → View
kept_as v w = record w { count = v.count; kept = v.kept }

pub acted_by : (setup : Setup) (v : View) (event : Event) (draw : Option (ℕ × List ℕ)) (w : View) → after setup v 0 draw event Reply.Taken ≡ w
    → kept_as v w ≡ acted setup v event draw
acted_by setup v event draw w is = sym (ap (kept_as v) is)

-- the same of an event that is this one
pub acted_as : (setup : Setup) (v : View) (event own : Event) (draw : Option (ℕ × List ℕ)) (w : View) (r : Result (Unit {0}) Refusal) → event ≡ own
    → OnOk r (w ≡ acted setup v own draw) → OnOk r (w ≡ acted setup v event draw)
acted_as setup v event own draw w r is h = subst (λ (e : Event). OnOk r (w ≡ acted setup v e draw)) (sym is) h
