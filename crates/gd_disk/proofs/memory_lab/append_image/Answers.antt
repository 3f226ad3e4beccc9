use Rattle.std.proofs.Common.{◌≡◌, ◌∙◌, ◌+◌, ◌++◌, ap, arith, length, List, ℕ, rules}
use Rattle.gd_disk.specs.Image.{images_of}
use Rattle.gd_disk.proofs.Lab.{one_more_image}
use Rattle.gd_disk.proofs.memory_lab.append_image.Goals as goal

pub returns-clause-kept : goal.returns-clause-kept
returns-clause-kept c =
    let now_is : c.extend_from_slice.new.self.items ≡ c.args.images.now.items ++ c.args.image.now = search rules in
    ap (λ (r : List ℕ). images_of (length c.args.image.now) (c.args.n + 1) r) now_is ∙ one_more_image c.args.n c.args.images.now.items c.args.image.now (omega arith)
