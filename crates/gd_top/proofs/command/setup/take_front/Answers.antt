use Rattle.std.proofs.Common.{◌++◌, take, arith}
use Rattle.std.proofs.KnownBytes.{Consumes-trans}
use Rattle.gd_top.proofs.SetupLemmas.{longer}
use Rattle.gd_top.proofs.command.setup.take_front.Goals as goal

pub returns-then-is_err-clause-few : goal.returns-then-is_err-clause-few
returns-then-is_err-clause-few g c =
    let piece = take c.in-Ok.count c.take.new.into in (
      c.loop-piece.bytes.items ++ piece,
      Consumes-trans _ _ _ c.loop-piece.bytes.items piece c.loop-piece.invariant.taken c.in-Ok.ensures.bytes.0,
      longer c.loop-piece.bytes.items piece c.in-Ok.count c.in-Ok.ensures.bound.1 (grind arith),
    )
