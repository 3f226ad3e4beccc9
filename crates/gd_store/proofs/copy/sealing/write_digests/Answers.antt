use Rattle.std.proofs.Common.{◌≡◌, ◌+◌, ◌*◌, ◌-◌, ◌∙◌, ℕ, take, drop, arith, ap}
use Rattle.sha2.specs.Sha256.{sha256}
use Rattle.gd_store.specs.Copy.{page}
use Rattle.gd_store.proofs.Assembled.{no_digests, digests_more}
use Rattle.gd_disk.specs.declared.lengths.TheConstants.{PAGE_LEN}
use Rattle.gd_store.proofs.copy.sealing.write_digests.Goals as goal

pub loop-i-init : goal.loop-i-init
loop-i-init c = no_digests c.args.payload.now

pub loop-i-preserved : goal.loop-i-preserved
loop-i-preserved c =
    let sums : PAGE_LEN * c.loop-i.i + PAGE_LEN - PAGE_LEN * c.loop-i.i ≡ PAGE_LEN = omega arith in
    let is : c.copy_from_slice.new.self ≡ sha256 (page c.loop-i.i c.args.payload.now) =
    c.copy_from_slice.ensures.after ∙ c.digest-digest.ensures ∙ ap (λ (k : ℕ). sha256 (take k (drop (PAGE_LEN * c.loop-i.i) c.args.payload.now))) sums in
    digests_more c.loop-i.i _ c.args.payload.now c.loop-i.into c.copy_from_slice.new.self c.loop-i.invariant is (omega (arith, c.loop-i.auto.into, c.requires.room))
