use Rattle.std.proofs.Common.{◌∙◌, ap, ◌+◌, ◌*◌, ◌<◌, List, ℕ, get_or, length, arith}
use Rattle.gd_base.specs.Payloads.Bytes.{eight}
use Rattle.gd_recall.specs.Pieces.{put_at}
use Rattle.gd_base.proofs.PayloadLemmas.Lengths.{eight_long}
use Rattle.gd_recall.proofs.PutPieces.{row_more}
use Rattle.gd_image.proofs.numbers.put_numbers.Goals as goal

pub loop-i-preserved : goal.loop-i-preserved
loop-i-preserved c =
    let i = c.loop-i.i in
    let numbers = c.args.numbers.now in
    let within : i < length numbers = omega (arith, c.loop-i-test.true) in
    c.put_number.ensures ∙ ap (λ (x : List ℕ). put_at (c.args.place + 8 * i) (eight (get_or numbers i 0)) x) c.loop-i.invariant
    ∙ row_more eight 8 eight_long c.args.place i numbers 0 c.args.into.now within c.requires
