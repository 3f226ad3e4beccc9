use Rattle.std.proofs.Common.{◌∷◌, length, arith}
use Rattle.std.proofs.lemmas.Result.{on_ok_weaker}
use Rattle.gd_store.proofs.Commit.{opened}
use Rattle.gd_store.proofs.RepairMoments.{moments, holds, side_within}
use Rattle.gd_store.proofs.opening.repair_side.Goals as goal

pub write_copy-requires-clause-within : goal.write_copy-requires-clause-within
write_copy-requires-clause-within g c =
    side_within c.args.layout c.args.side c.gate_of.result (g.D.Disk.state c.args.disk.now).size (length c.seal_body.new.body) c.requires.within c.gate_of.ensures (omega (arith, c.seal_body.auto.body, c.requires.body))

pub returns-clause-holds : goal.returns-clause-holds
returns-clause-holds g c =
    on_ok_weaker c.write_copy.result
    (holds c.args.layout c.args.sequence c.args.payload.now (0xA5 ∷ c.seal_body.new.body) (omega arith) c.requires.payload (opened c.args.layout c.args.sequence c.args.payload.now c.seal_body.new.body c.seal_body.ensures)
    (g.D.Disk.state c.args.disk.now) (g.D.Disk.state c.write_copy.new.disk) c.requires.within c.requires.synced c.args.side c.gate_of.result c.gate_of.ensures c.requires.booted)
    c.write_copy.ensures.seen

pub returns-clause-any_moment : goal.returns-clause-any_moment
returns-clause-any_moment g c =
    moments c.args.layout c.args.sequence c.args.payload.now (0xA5 ∷ c.seal_body.new.body) (omega arith) c.requires.payload (opened c.args.layout c.args.sequence c.args.payload.now c.seal_body.new.body c.seal_body.ensures)
    (g.D.Disk.state c.args.disk.now) (g.D.Disk.state c.write_copy.new.disk) c.requires.within c.requires.synced c.args.side c.gate_of.result c.gate_of.ensures c.requires.booted c.write_copy.ensures.any_moment
