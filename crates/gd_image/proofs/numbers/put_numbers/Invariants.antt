use Rattle.std.proofs.Common.{◌≡◌, take}
use Rattle.std.specs.List.{flat_map}
use Rattle.gd_base.specs.Payloads.Bytes.{eight}
use Rattle.gd_recall.specs.Pieces.{put_at}
use Rattle.gd_image.proofs.numbers.put_numbers.Given as goal

abbrev pub invariant-loop-i : goal.invariant-loop-i
invariant-loop-i l = l.into ≡ put_at l.place (flat_map eight (take l.i l.numbers)) l.fn.into
