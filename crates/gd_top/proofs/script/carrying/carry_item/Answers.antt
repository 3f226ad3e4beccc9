use Rattle.std.proofs.Common.{◌≡◌, refl, ℕ, false}
use Rattle.gd_disk.specs.declared.disk.CutUnit.{CutUnit}
use Rattle.gd_script.specs.declared.item.Item.{Item}
use Rattle.gd_top.specs.Code.Memory.{moment}
use Rattle.gd_script.specs.Items.{is_cut}
use Rattle.gd_top.proofs.ItemLemmas.Lines.{item_by}
use Rattle.gd_top.proofs.script.carrying.carry_item.Goals as goal

-- an item that was no cut at the match
no_cut : (item : Item) → ((unit : CutUnit) (count torn : ℕ) → item ≡ Item.Cut unit count torn → ⊥) → is_cut item ≡ false
no_cut (Item.Event event) other = refl
no_cut (Item.OrderEvent kind order) other = refl
no_cut (Item.Again device) other = refl
no_cut (Item.As number event) other = refl
no_cut Item.Off other = refl
no_cut Item.On other = refl
no_cut (Item.Cut unit count torn) other = absurd (other unit count torn refl)
no_cut (Item.Alter side at mask) other = refl
no_cut Item.Clear other = refl
no_cut (Item.Show what) other = refl
no_cut Item.Skip other = refl

pub returns-in-Cut-clause-does : goal.returns-in-Cut-clause-does
returns-in-Cut-clause-does g c =
    let now = moment g.C.Core.meaning g.C.Core.view g.L.Disk.state g.W.Draws.block_of g.K.Sink.taken g.K.Sink.faults c.arm.result.0 c.arm.new.counts c.arm.new.output in
    item_by (λ memory. moment g.C.Core.meaning g.C.Core.view g.L.Disk.state g.W.Draws.block_of g.K.Sink.taken g.K.Sink.faults memory c.args.counts.now c.args.output.now) c.args.memory c.args.memory refl c.arm.result.1 now c.args.item
    (Item.Cut c.in-Cut.unit c.in-Cut.count c.in-Cut.torn) c.in-Cut.is c.arm.ensures.does

pub carry_in_phase-requires-clause-no_cut : goal.carry_in_phase-requires-clause-no_cut
carry_in_phase-requires-clause-no_cut g c = no_cut c.args.item c.in_default.not-Cut
