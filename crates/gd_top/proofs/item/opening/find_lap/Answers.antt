use Rattle.std.proofs.Common.{◌≡◌, sym, subst, ℕ, List}
use Rattle.gd_base.specs.Payloads.Spelled.{Shows}
use Rattle.gd_store.specs.Room.{room_payload}
use Rattle.gd_top.proofs.ItemLemmas.Emptiness.{lap_kept, lap_raised}
use Rattle.gd_top.proofs.item.opening.find_lap.Goals.{else-sequence-eq0-via-then-sequence-eq0+else-is_empty, else-sequence-eq0-via-else-sequence-eq0}
use Rattle.gd_top.proofs.item.opening.find_lap.Goals as goal

pub returns-then-is_empty-clause-lap : goal.returns-then-is_empty-clause-lap
returns-then-is_empty-clause-lap g c =
    lap_raised (g.C.Core.meaning c.args.parts.now.core) c.in-Ready.sequence (room_payload c.boot.new.room) c.in-Ready.found (g.L.Disk.state c.args.parts.now.disk) c.args.is_making c.args.counts.now.lap
    c.if-not-is_making.false c.in-Ready.ensures.what c.if-sequence-eq0.true
    (λ tells. subst (λ (p : List ℕ). (g.C.Core.meaning c.args.parts.now.core).spelled p ≡ Shows (g.C.Core.meaning c.args.parts.now.core).empty) c.payload.ensures.value (c.is_empty.ensures.yes c.if-is_empty.true tells))

pub returns-else-sequence-eq0-clause-lap : goal.returns-else-sequence-eq0-clause-lap
returns-else-sequence-eq0-clause-lap g c =
    lap_kept (g.C.Core.meaning c.args.parts.now.core) c.in-Ready.sequence (room_payload c.boot.new.room) c.in-Ready.found (g.L.Disk.state c.args.parts.now.disk) c.args.is_making c.args.counts.now.lap
    c.if-not-is_making.false c.in-Ready.ensures.what
    (elim c.else-sequence-eq0.branch [
      | else-sequence-eq0-via-then-sequence-eq0+else-is_empty w ↦
          (λ zero spelled. w.is_empty.ensures.no w.if-is_empty.false (subst (λ (p : List ℕ). (g.C.Core.meaning c.args.parts.now.core).spelled p ≡ Shows (g.C.Core.meaning c.args.parts.now.core).empty) (sym w.payload.ensures.value) spelled))
      | else-sequence-eq0-via-else-sequence-eq0 w ↦ (λ zero spelled. w.if-sequence-eq0.false zero)
    ])
