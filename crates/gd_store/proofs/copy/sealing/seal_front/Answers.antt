use Rattle.std.proofs.Common.{◌≡◌, ◌∙◌, ap, length, arith, refl}
use Rattle.gd_disk.specs.declared.lengths.TheConstants.{HEADER_LEN}
use Rattle.gd_store.specs.Copy.{digests, header_start}
use Rattle.gd_store.proofs.Fronts.{front_assembled}
use Rattle.gd_store.proofs.copy.sealing.seal_front.Goals as goal

pub returns : goal.returns
unfolding header_start
returns c =
    let h_is = c.copy_from_slice.ensures.after ∙ c.header.ensures in
    let h_16 : length c.copy_from_slice.new.self ≡ HEADER_LEN = ap length h_is ∙ refl in
    front_assembled c.args.layout c.args.sequence c.args.payload.now c.args.front.now c.copy_from_slice.new.self c.renew_digests.new.into c.copy_from_slice-2.new.self
    h_is h_16 (c.renew_digests.ensures ∙ ap (λ n. digests n c.args.payload.now) c.requires.changed) c.requires.front
    _ (omega arith) (c.copy_from_slice-2.ensures.after ∙ c.digest-seal.ensures) _ refl
