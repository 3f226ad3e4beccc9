use Rattle.std.proofs.Common.{◌≡◌, ◌∙◌, arith, ap}
use Rattle.sha2.specs.Sha256.{sha256}
use Rattle.gd_store.specs.Copy.{page}
use Rattle.gd_store.proofs.Assembled.{no_digests, digests_more}
use Rattle.gd_store.proofs.PageMoments.{slice_page}
use Rattle.gd_store.proofs.copy.sealing.renew_digests.Goals as goal

pub loop-i-init : goal.loop-i-init
loop-i-init c = no_digests c.args.payload.now

pub loop-i-preserved : goal.loop-i-preserved
loop-i-preserved c =
    let is : c.renew_digest.new.into ≡ sha256 (page c.loop-i.i c.args.payload.now) = c.renew_digest.ensures ∙ ap sha256 (slice_page c.loop-i.i c.args.payload.now) in
    digests_more c.loop-i.i _ c.args.payload.now c.loop-i.into c.renew_digest.new.into c.loop-i.invariant is (omega (arith, c.loop-i.auto.into, c.requires.room, c.loop-i-test.true))
