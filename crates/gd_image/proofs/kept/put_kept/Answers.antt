use Rattle.std.proofs.Common.{◌∙◌, ◌+◌, ◌*◌, ◌<◌, length, arith, None}
use Rattle.gd_base.specs.declared.layout.TheConstants.{KEPT_LEN}
use Rattle.gd_base.specs.Payloads.Bytes.{kept_bytes}
use Rattle.gd_recall.proofs.PutPieces.{row_more}
use Rattle.gd_recall.specs.Pieces.{put_at}
use Rattle.gd_image.proofs.Rows.{kept_long}
use Rattle.gd_image.proofs.kept.put_kept.Goals as goal

pub loop-i-preserved : goal.loop-i-preserved
loop-i-preserved c =
    let i = c.loop-i.i in
    let kept = c.args.kept.now in
    let within : i < length kept = omega (arith, c.loop-i-test.true) in
    c.put_bytes.ensures ∙ (λ j. put_at (c.args.place + KEPT_LEN * i) (c.kept_image.ensures j) (c.loop-i.invariant j))
    ∙ row_more kept_bytes KEPT_LEN kept_long c.args.place i kept (0, None) c.args.into.now within c.requires
