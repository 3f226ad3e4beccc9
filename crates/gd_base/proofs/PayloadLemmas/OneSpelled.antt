-- What a payload spells under a setup is one thing.
use Rattle.std.proofs.Common.{◌≡◌, ℕ, List, ap, sym, ◌∙◌, refl}
use Rattle.gd_base.specs.declared.setup.Setup.{Setup}
use Rattle.gd_base.specs.Laws.OneView.{HasOneView, SpellsOneThing}
use Rattle.gd_base.specs.Payloads.Spelled.{Spelled, Shows, Foreign, Unreadable}
use Rattle.gd_base.specs.Payloads.Spelling.{Spells, SpelledBy}
use Rattle.gd_base.specs.Histories.View.{View}
use Rattle.gd_base.proofs.PayloadLemmas.OneView.{one_view, spells_one}

pub has_one_view : HasOneView
has_one_view = one_view

-- whatever spells at most one view spells one thing under a setup
pub spelled_once : (S : View → Type 0) → ((v w : View) → S v → S w → v ≡ w) → (setup : Setup) (digest : List ℕ) (s t : Spelled View) → SpelledBy S setup digest s → SpelledBy S setup digest t → s ≡ t
spelled_once S one setup digest (Shows v) (Shows w) p q = ap (λ (x : View). let s : Spelled View = Shows x in s) (one v w p.0 q.0)
spelled_once S one setup digest (Shows v) (Foreign kept) p q = absurd (q.2 (ap (λ (x : View). x.digest) (one q.0 v q.1 p.0) ∙ p.1))
spelled_once S one setup digest (Shows v) Unreadable p q = absurd ((q v p.0).0 (p.1, p.2))
spelled_once S one setup digest (Foreign kept) (Shows w) p q = absurd (p.2 (ap (λ (x : View). x.digest) (one p.0 w p.1 q.0) ∙ q.1))
spelled_once S one setup digest (Foreign kept) (Foreign other) p q = ap (λ (x : List ℕ). let s : Spelled View = Foreign x in s) (sym p.3 ∙ ap (λ (x : View). x.digest) (one p.0 q.0 p.1 q.1) ∙ q.3)
spelled_once S one setup digest (Foreign kept) Unreadable p q = absurd ((q p.0 p.1).1 p.2)
spelled_once S one setup digest Unreadable (Shows w) p q = absurd ((p w q.0).0 (q.1, q.2))
spelled_once S one setup digest Unreadable (Foreign kept) p q = absurd ((p q.0 q.1).1 q.2)
spelled_once S one setup digest Unreadable Unreadable p q = refl

pub spells_one_thing : SpellsOneThing
spells_one_thing setup digest payload = spelled_once (Spells payload) (spells_one payload) setup digest
