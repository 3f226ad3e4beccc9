-- A machine as a run, a cabinet and a session see it: by its view alone. A toy can stand in its place.
use Rattle.std.specs.Prelude.{◌≡◌, ℕ, ◌+◌, Bool, true, List}
use Rattle.gd_base.specs.declared.device.Device.{Device}
use Rattle.gd_base.specs.declared.event.Event.{Event}
use Rattle.gd_base.specs.declared.refusal.Reply.{Reply}
use Rattle.gd_base.specs.declared.step.What.{What}
use Rattle.gd_base.specs.Histories.Entry.{Entry}
use Rattle.gd_base.specs.Payloads.Spelled.{Spelled}

-- the block of a lap and an index
abbrev pub Blocks : Type 0
Blocks = ℕ → ℕ → List ℕ

pub record Machine (V : Type 0) : Type 0 where
  pub digest : List ℕ  -- of its setup
  pub empty : V  -- the view of the empty history
  pub effect : V → Entry → V  -- the view after one entry more
  pub same : V → V → Bool  -- whether two views are one
  pub count : V → ℕ  -- entries so far
  pub last : V → Device → ℕ  -- a device's last number
  pub kept : V → Device → Reply  -- and the reply to it
  pub rule : V → Event → Reply
  pub is_drawn : V → Event → Bool  -- whether the event is a play that is taken
  pub index : V → ℕ  -- of the next play's block
  pub open_order : V → ℕ  -- the open order's number, or 0
  pub text : What → V → List ℕ
  pub credit : V → ℕ
  pub spelled : List ℕ → Spelled V  -- what a payload spells
  -- these hold of each machine: a history begins with no entry, each entry is one more, and a view is the same as itself
  pub count_empty : count empty ≡ 0
  pub count_effect : (v : V) (e : Entry) → count (effect v e) ≡ count v + 1
  pub same_itself : (v : V) → same v v ≡ true
