use Rattle.std.proofs.Common.{◌≡◌, ◌+◌, ◌*◌, ◌∙◌, length, arith, ap, refl}
use Rattle.gd_store.specs.Copy.{header_start}
use Rattle.gd_store.proofs.Sealed.{length-digests}
use Rattle.gd_store.proofs.Assembled.{assembled}
use Rattle.gd_disk.specs.declared.lengths.TheConstants.{DIGEST_LEN, HEADER_LEN, PAGE_LEN}
use Rattle.gd_store.proofs.copy.sealing.seal_body.Goals as goal

pub returns : goal.returns
unfolding header_start
returns c =
    let room : length c.args.body.now ≡ HEADER_LEN + DIGEST_LEN + DIGEST_LEN * c.args.layout.pages + PAGE_LEN * c.args.layout.pages = omega (arith, c.requires.body) in
    let h_is = c.copy_from_slice.ensures.after ∙ c.header.ensures in
    let h_16 : length c.copy_from_slice.new.self ≡ HEADER_LEN = ap length h_is ∙ refl in
    assembled c.args.layout c.args.sequence c.args.payload.now c.args.body.now c.copy_from_slice.new.self c.write_digests.new.into c.copy_from_slice-2.new.self c.copy_from_slice-3.new.self
    h_is h_16 c.write_digests.ensures (ap length c.write_digests.ensures ∙ length-digests c.args.layout.pages c.args.payload.now) room c.requires.payload c.copy_from_slice-3.ensures.after
    _ _ (omega arith) (omega arith) (c.copy_from_slice-2.ensures.after ∙ c.digest-seal.ensures) _ refl
