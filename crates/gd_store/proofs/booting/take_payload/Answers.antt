use Rattle.std.proofs.Common.{rules, ◌≡◌, ◌∙◌, ap, ◌+◌, ◌*◌, ◌-◌, ℕ, List, length, take, drop}
use Rattle.gd_store.specs.Copy.{stored_payload}
use Rattle.gd_store.specs.declared.copy.layout.TheConstants.{LAYOUT}
use Rattle.gd_store.proofs.Pages.{slice_payload}
use Rattle.gd_disk.specs.declared.lengths.TheConstants.{DIGEST_LEN, FRAME_LEN}
use Rattle.gd_store.proofs.booting.take_payload.Goals as goal

pub returns-in-CopyA-clause-booted : goal.returns-in-CopyA-clause-booted
returns-in-CopyA-clause-booted c =
    let room = c.args.room.now in
    let part = slice_payload LAYOUT room.a.items room.a_len in
    let copied : c.copy_from_slice.new.self.items ≡ stored_payload LAYOUT room.a.items = c.copy_from_slice.ensures.items ∙ ap (λ (x : List ℕ). take (length x - (FRAME_LEN + DIGEST_LEN * LAYOUT.pages)) (drop (FRAME_LEN + DIGEST_LEN * LAYOUT.pages) x)) c.deref.ensures.value ∙ part in
    rw copied (rw c.in-CopyA.is (search rules))

pub returns-in-CopyB-clause-booted : goal.returns-in-CopyB-clause-booted
returns-in-CopyB-clause-booted c =
    let room = c.args.room.now in
    let part = slice_payload LAYOUT room.b.items room.b_len in
    let copied : c.copy_from_slice-in-CopyB.new.self.items ≡ stored_payload LAYOUT room.b.items = c.copy_from_slice-in-CopyB.ensures.items ∙ ap (λ (x : List ℕ). take (length x - (FRAME_LEN + DIGEST_LEN * LAYOUT.pages)) (drop (FRAME_LEN + DIGEST_LEN * LAYOUT.pages) x)) c.deref-in-CopyB.ensures.value ∙ part in
    rw copied (rw c.in-CopyB.is (search rules))
