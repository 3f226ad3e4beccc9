-- No block is used twice: the index of the next block never falls, and rises at each taken play and each start.
use Rattle.std.specs.Prelude.{◌≡◌, ℕ, ◌+◌, ◌<◌, ◌≤◌, List, [], ◌∷◌, ◌++◌, Some}
use Rattle.gd_base.specs.declared.event.Event.{Event}
use Rattle.gd_base.specs.declared.game.Game.{Game}
use Rattle.gd_base.specs.declared.refusal.Reply.{Reply}
use Rattle.gd_base.specs.declared.setup.Setup.{Setup}
use Rattle.gd_base.specs.Judging.Draws.{next_index}
use Rattle.gd_base.specs.Histories.Entry.{Entry}
use Rattle.gd_base.specs.Judging.Legal.{IsLegal}
use Rattle.gd_base.specs.Judging.Machine.{Machine, Blocks}
use Rattle.gd_base.specs.Payloads.Spelled.{Spelled}
use Rattle.gd_base.specs.Judging.Product.{machine}
use Rattle.gd_base.specs.Histories.View.{View}
use Rattle.gd_base.specs.Histories.ViewOf.{with_entry}

-- what an entry does to the index of the next block
pub record MovesIndex (setup : Setup) (v : View) (e : Entry) : Type 0 where
  pub never_falls : next_index v ≤ next_index (with_entry setup v e)
  pub at_play : (game : Game) (bet : ℕ) → e.event ≡ Event.Play game bet → e.reply ≡ Reply.Taken → next_index (with_entry setup v e) ≡ next_index v + 1
  pub at_start : e.event ≡ Event.Start → e.reply ≡ Reply.Taken → next_index (with_entry setup v e) ≡ next_index v + 1

-- in a legal history of a machine a later play has a greater index
abbrev pub RiseIn : Machine View → Type 0
RiseIn M =
    (blocks : Blocks) (lap : ℕ) (opening : View) (d : Entry) (between : List Entry) (e : Entry) (past : List Entry) (later earlier : ℕ × List ℕ)
    → IsLegal M blocks lap opening (d ∷ (between ++ (e ∷ past))) → d.draw ≡ Some later → e.draw ≡ Some earlier
    → earlier.0 < later.0

-- and in one over the empty view that begins with a start no index is 0
abbrev pub NoneIsZeroIn : Machine View → Type 0
NoneIsZeroIn M =
    (blocks : Blocks) (lap : ℕ) (d : Entry) (between : List Entry) (start : Entry) (draw : ℕ × List ℕ)
    → IsLegal M blocks lap M.empty (d ∷ (between ++ (start ∷ []))) → start.event ≡ Event.Start → d.draw ≡ Some draw
    → 1 ≤ draw.0

-- so it is in the machine under any setup
abbrev pub RiseStrictly : Type 0
RiseStrictly = (setup : Setup) (digest : List ℕ) (spelled : List ℕ → Spelled View) → RiseIn (machine setup digest spelled)

abbrev pub NoneIsZero : Type 0
NoneIsZero = (setup : Setup) (digest : List ℕ) (spelled : List ℕ → Spelled View) → NoneIsZeroIn (machine setup digest spelled)
