-- The view that moves entry by entry is the view of the whole history, as sums, the latest and the last n.
use Rattle.std.specs.Prelude.{◌≡◌, ℕ, List, [], ◌∷◌, refl}
use Rattle.std.proofs.Common.{ap, sym, ◌∙◌}
use Rattle.gd_base.specs.declared.setup.Setup.{Setup}
use Rattle.gd_base.specs.Histories.Entry.{Entry}
use Rattle.gd_base.specs.Judging.Legal.{view_over}
use Rattle.gd_base.specs.Payloads.Spelled.{Spelled}
use Rattle.gd_base.specs.Judging.Product.{machine}
use Rattle.gd_base.specs.Histories.View.{View}
use Rattle.gd_base.specs.Histories.ViewOf.{view_after, from_view, with_entry, empty_view, IsItself}
use Rattle.gd_base.proofs.HistoryLemmas.OneStep.{view_after-one_more}

-- after one entry and more, over any view
pub view_over-some : (setup : Setup) (digest : List ℕ) (spelled : List ℕ → Spelled View) (v : View) (e : Entry) (past : List Entry)
    → view_over (machine setup digest spelled) v (e ∷ past) ≡ view_after (from_view setup v) (e ∷ past)
view_over-some setup digest spelled v e [] = refl
view_over-some setup digest spelled v e (d ∷ past) =
    ap (λ (w : View). with_entry setup w e) (view_over-some setup digest spelled v d past) ∙ view_after-one_more (from_view setup v) e (d ∷ past)

-- and after any number, over a view that is itself
pub view_over-is : (setup : Setup) (digest : List ℕ) (spelled : List ℕ → Spelled View) (v : View) (past : List Entry) → IsItself setup v
    → view_over (machine setup digest spelled) v past ≡ view_after (from_view setup v) past
view_over-is setup digest spelled v [] itself = sym itself
view_over-is setup digest spelled v (e ∷ past) itself = view_over-some setup digest spelled v e past

pub empty-itself : (setup : Setup) (digest : List ℕ) → IsItself setup (empty_view digest)
empty-itself setup digest = refl
