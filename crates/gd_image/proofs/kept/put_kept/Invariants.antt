use Rattle.std.proofs.Common.{◌≡◌, take}
use Rattle.std.specs.List.{flat_map}
use Rattle.gd_base.specs.Payloads.Bytes.{kept_bytes}
use Rattle.gd_recall.specs.Pieces.{put_at}
use Rattle.gd_image.proofs.kept.put_kept.Given as goal

abbrev pub invariant-loop-i : goal.invariant-loop-i
invariant-loop-i l = l.into ≡ put_at l.place (flat_map kept_bytes (take l.i l.kept)) l.fn.into
