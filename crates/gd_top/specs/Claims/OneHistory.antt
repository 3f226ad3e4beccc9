-- One legal history, in every run.
use Rattle.std.specs.Prelude.{◌≡◌, ℕ, List, Option}
use Rattle.gd_base.specs.Judging.Legal.{IsLegal, view_over}
use Rattle.gd_base.specs.Judging.Machine.{Machine, Blocks}
use Rattle.gd_script.specs.declared.item.Item.{Item}
use Rattle.gd_top.specs.Run.Life.{trial_meaning, image_meaning}
use Rattle.gd_top.specs.Run.State.{Start, State}

-- what is promised of the history in every state of a run
pub record HasLegalHistory {V : Type 0} (M : Machine V) (blocks : Blocks) (s : State V) : Type 0 where
  pub legal : IsLegal M blocks s.lap s.opening s.history
  pub seen : s.view ≡ view_over M s.opening s.history

-- in every trial, whatever was found and wherever the power fell
abbrev pub OneLegalHistory : {V : Type 0} → Machine V → Blocks → Type 0
OneLegalHistory {V} M blocks =
    (lines : List (Option Item)) (falls : List ℕ) (starts : List (Start V)) (broken_at : Option ℕ)
    → HasLegalHistory M blocks (trial_meaning M blocks lines falls starts broken_at).state

-- and in every run over an image
abbrev pub OneLegalHistoryOverImages : {V : Type 0} → Machine V → Blocks → Type 0
OneLegalHistoryOverImages {V} M blocks =
    (lines : List (Option Item)) (image : Start V) (broken_at : Option ℕ) → HasLegalHistory M blocks (image_meaning M blocks lines image broken_at).state

-- In every trial the history began with the empty view, at first and after each clearing, unless a view was found that no order
-- of writing explains.
abbrev pub BeginsEmpty : {V : Type 0} → Machine V → Blocks → Type 0
BeginsEmpty {V} M blocks =
    (lines : List (Option Item)) (falls : List ℕ) (starts : List (Start V)) (broken_at : Option ℕ)
    → (let s = (trial_meaning M blocks lines falls starts broken_at).state in s.other_views ≡ 0 → s.opening ≡ M.empty)
