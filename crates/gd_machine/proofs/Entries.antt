-- The entry that an event makes, and the view after it.
use Rattle.std.proofs.Common.{◌≡◌, ◌∙◌, ap, sym, subst, refl, ℕ, ◌+◌, ◌<◌, ◌&&◌, Bool, true, false, List, Option, Result, Ok, Err, OnOk, OnErr}
use Rattle.gd_base.specs.declared.event.Event.{Event}
use Rattle.gd_base.specs.declared.game.Game.{Game}
use Rattle.gd_base.specs.declared.limits.TheConstants.{MOST_ENTRIES}
use Rattle.gd_base.specs.declared.refusal.Refusal.{Refusal}
use Rattle.gd_base.specs.declared.refusal.Reply.{Reply}
use Rattle.gd_base.specs.declared.setup.Setup.{Setup}
use Rattle.gd_base.specs.Histories.Devices.{with_reply}
use Rattle.gd_base.specs.Histories.Entry.{device_of}
use Rattle.gd_base.specs.Histories.View.{View}
use Rattle.gd_base.specs.Judging.Answer.{IsDraw}
use Rattle.gd_base.specs.Judging.Draws.{is_drawn, next_index}
use Rattle.gd_base.specs.Judging.Rule.{rule}
use Rattle.gd_base.specs.Laws.Preserved.{HasWidths}
use Rattle.gd_base.proofs.Effects.Shared.{after, effect_refused, entry}
use Rattle.gd_base.proofs.PreservedLemmas.Moved.{HasBlock}
use Rattle.gd_base.proofs.PreservedLemmas.Preserved.{all_kept}
use Rattle.gd_machine.specs.Acts.{acted, replied}
use Rattle.gd_machine.specs.Words.{IsWhole}
use Rattle.gd_machine.proofs.Wholes.{facts_of}

-- an event that is no play draws nothing
both_false : (a b : Bool) → b ≡ false → false ≡ (a && b)
both_false true b h = sym h
both_false false b h = refl

undrawn : (setup : Setup) (v : View) (event : Event) → ((game : Game) (bet : ℕ) → event ≡ Event.Play game bet → ⊥) → is_drawn setup v event ≡ false
undrawn setup v (Event.Play game bet) h = absurd (h game bet refl)
undrawn setup v _ h = refl

pub not_needed : (setup : Setup) (v : View) (event : Event) (new : Bool) → ((game : Game) (bet : ℕ) → event ≡ Event.Play game bet → ⊥) → false ≡ (new && is_drawn setup v event)
not_needed setup v event new h = both_false new (is_drawn setup v event) (undrawn setup v event h)

-- ================ the view after an entry

-- one entry more, and the reply to it
abbrev counted : View → Event → Reply → View
counted w event reply = record w { count = w.count + 1; kept = with_reply (device_of event) reply w.kept }

-- by how the event went
went : (setup : Setup) (v : View) (whole : IsWhole setup v) (number : ℕ) (event : Event) (draw : Option (ℕ × List ℕ)) (outcome : Result (Unit {0}) Refusal) (w : View)
    → OnOk outcome (w ≡ acted setup v event draw) → OnErr outcome (w ≡ v) → counted w event (replied outcome) ≡ after setup v number draw event (replied outcome)
went setup v whole number event draw (Ok done) w view stays = λ x. counted (view x) event Reply.Taken
went setup v whole number event draw (Err why) w view stays =
    (λ x. counted (stays x) event (Reply.Refused why)) ∙ sym (effect_refused setup v (facts_of setup v whole).itself number draw event why)

pub entered : (setup : Setup) (v : View) (whole : IsWhole setup v) (number : ℕ) (event : Event) (draw : Option (ℕ × List ℕ)) (outcome : Result (Unit {0}) Refusal) (reply : Reply) (w new : View)
    → OnOk outcome (w ≡ acted setup v event draw) → OnErr outcome (w ≡ v) → reply ≡ replied outcome → replied outcome ≡ rule setup v event → new ≡ counted w event reply
    → new ≡ after setup v number draw event (rule setup v event)
entered setup v whole number event draw outcome reply w new view stays is judged made =
    made ∙ ap (counted w event) is ∙ went setup v whole number event draw outcome w view stays ∙ ap (after setup v number draw event) judged

-- and it keeps all rules
pub whole_after : (setup : Setup) (v : View) (whole : IsWhole setup v) (number : ℕ) (event : Event) (draw : Option (ℕ × List ℕ)) (new : View) → v.count < MOST_ENTRIES → HasWidths event
    → IsDraw (is_drawn setup v event) (next_index v) draw → HasBlock draw → new ≡ after setup v number draw event (rule setup v event) → IsWhole setup new
whole_after setup v whole number event draw new room wide drawn block is =
    let t = all_kept setup v (entry number draw event (rule setup v event)) whole.possible whole.under room wide refl drawn block in
    subst (IsWhole setup) (sym is) (record { possible = t.0; under = t.1 })
