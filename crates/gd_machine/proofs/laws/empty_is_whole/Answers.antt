use Rattle.std.proofs.Common.{◌∙◌, ap, sym, refl, ℕ, List, nat_lt, length}
use Rattle.std.specs.List.{list_all}
use Rattle.gd_base.specs.Histories.ViewOf.{empty_view}
use Rattle.gd_games.specs.Digest.{digest_of}
use Rattle.gd_machine.proofs.Empty.{whole_of}
use Rattle.gd_machine.proofs.laws.empty_is_whole.Goals as goal

pub returns : goal.returns
returns c =
    let setup = c.args.setup.now in
    let told = sym c.setup_digest.ensures.digest in
    whole_of setup (digest_of setup) (empty_view (digest_of setup)) refl
    (ap (λ (d : List ℕ). length d) told ∙ c.digest_fits.ensures.long)
    (ap (λ (d : List ℕ). list_all (λ b. nat_lt b 256) d) told ∙ c.digest_fits.ensures.bytes)
