-- What a line about the machine tells over an open memory, by what it asks.
use Rattle.std.proofs.Common.{◌≡◌, ◌∙◌, ap, sym, ℕ, List}
use Rattle.gd_base.specs.declared.step.Numbered.{Numbered}
use Rattle.gd_base.specs.Judging.Machine.{Machine, Blocks}
use Rattle.gd_script.specs.declared.item.Item.{Item}
use Rattle.gd_top.specs.Code.Standing.{Standing, Later, at}
use Rattle.gd_top.specs.Run.Items.{event_meaning, item_meaning}
use Rattle.gd_top.specs.Run.State.{prints}
use Rattle.gd_top.specs.Script.Asked.{IsAsked, IsTextAsked}
use Rattle.gd_top.proofs.ItemLemmas.Events.{again_tells, none_tells}
use Rattle.gd_top.proofs.RunLemmas.Equations.{as_is, event_is, order_is, show_is}
use Rattle.gd_top.proofs.RunLemmas.Standings.{open_stand}

module _ {V : Type 0} (M : Machine V) (B : Blocks) (lap : ℕ) (v : V) (s : Standing V) (x : Later V) where
  -- an event
  pub asked_tells : (item : Item) (e : Numbered) → IsAsked M v item e → item_meaning M B item (at (open_stand v lap s) x) ≡ event_meaning M B e (at (open_stand v lap s) x)
  asked_tells (Item.Event event) e is = let u = at (open_stand v lap s) x in event_is M B event u ∙ ap (λ (n : Numbered). event_meaning M B n u) (sym is)
  asked_tells (Item.OrderEvent kind order) e is = let u = at (open_stand v lap s) x in order_is M B kind order u ∙ ap (λ (n : Numbered). event_meaning M B n u) (sym is)
  asked_tells (Item.Again device) e is = again_tells M B lap v device e is.0 is.1 is.2 s x
  asked_tells (Item.As number event) e is = let u = at (open_stand v lap s) x in as_is M B number event u ∙ ap (λ (n : Numbered). event_meaning M B n u) (sym is)
  asked_tells Item.Off e is = absurd is
  asked_tells Item.On e is = absurd is
  asked_tells (Item.Cut unit count torn) e is = absurd is
  asked_tells (Item.Alter side place mask) e is = absurd is
  asked_tells Item.Clear e is = absurd is
  asked_tells (Item.Show what) e is = absurd is
  asked_tells Item.Skip e is = absurd is

  -- a text
  pub text_tells : (item : Item) (text : List ℕ) → IsTextAsked M v item text → item_meaning M B item (at (open_stand v lap s) x) ≡ prints text (at (open_stand v lap s) x)
  text_tells (Item.Event event) text is = absurd is
  text_tells (Item.OrderEvent kind order) text is = absurd is
  text_tells (Item.Again device) text is = let u = at (open_stand v lap s) x in none_tells M B lap v device is.0 s x ∙ ap (λ (bytes : List ℕ). prints bytes u) (sym is.1)
  text_tells (Item.As number event) text is = absurd is
  text_tells Item.Off text is = absurd is
  text_tells Item.On text is = absurd is
  text_tells (Item.Cut unit count torn) text is = absurd is
  text_tells (Item.Alter side place mask) text is = absurd is
  text_tells Item.Clear text is = absurd is
  text_tells (Item.Show what) text is = let u = at (open_stand v lap s) x in show_is M B what u ∙ ap (λ (bytes : List ℕ). prints bytes u) (sym is)
  text_tells Item.Skip text is = absurd is
