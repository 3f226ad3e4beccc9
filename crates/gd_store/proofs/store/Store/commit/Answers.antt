use Rattle.std.proofs.Common.{◌∙◌, ◌+◌, ◌*◌, ℕ, List, ap, sym}
use Rattle.gd_disk.specs.declared.lengths.TheConstants.{DIGEST_LEN, HEADER_LEN, PAGE_COUNT}
use Rattle.gd_store.specs.Copy.{digests, part}
use Rattle.gd_store.specs.declared.copy.layout.TheConstants.{LAYOUT}
use Rattle.gd_store.proofs.Fronts.{front_digests}
use Rattle.gd_store.proofs.store.Store.commit.Goals as goal

pub invariant_of-self-in-Ok-2-clause-are_kept : goal.invariant_of-self-in-Ok-2-clause-are_kept
invariant_of-self-in-Ok-2-clause-are_kept g c =
    c.copy_from_slice.ensures.after
    ∙ ap (λ (x : List ℕ). part HEADER_LEN (DIGEST_LEN * PAGE_COUNT) x) c.write_both.ensures.front
    ∙ front_digests LAYOUT (c.args.self.now.sequence + 1) c.args.payload.now
    ∙ ap (λ (x : List ℕ). digests PAGE_COUNT x) (sym c.copy_from_slice-in-Ok.ensures.items)
