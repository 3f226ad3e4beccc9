use Rattle.std.proofs.Common.{◌∙◌, ap, sym, ℕ, ◌==◌, ◌&&◌}
use Rattle.std.proofs.lemmas.List.Sums.{sum-map}
use Rattle.gd_image.proofs.Testing.{two_hold}
use Rattle.gd_image.proofs.counts.are_numbered.Goals as goal

pub returns : goal.returns
returns c =
    let total = c.add_up.ensures ∙ ap (λ (n : ℕ). n == c.args.count) (sym (sum-map (λ k. k.0) c.args.kept.now)) in
    c.all_of.ensures ∙ two_hold c.add_up.result c.are_flagged.result ∙ (λ i. total i && c.are_flagged.ensures i)
