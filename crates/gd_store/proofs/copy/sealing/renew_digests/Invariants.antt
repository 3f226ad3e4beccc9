use Rattle.std.proofs.Common.{◌≡◌, ◌*◌, take}
use Rattle.gd_store.specs.Copy.{digests}
use Rattle.gd_disk.specs.declared.lengths.TheConstants.{DIGEST_LEN}
use Rattle.gd_store.proofs.copy.sealing.renew_digests.Given as goal

abbrev pub invariant-loop-i : goal.invariant-loop-i
invariant-loop-i l = take (DIGEST_LEN * l.i) l.into ≡ digests l.i l.payload
