use Rattle.std.proofs.Common.{◌≡◌, ◌++◌, ◌∙◌, ap, ℕ, List, Some}
use Rattle.gd_store.specs.Copy.{boots}
use Rattle.gd_store.specs.Lost.{IsLost}
use Rattle.gd_store.specs.Room.{room_payload}
use Rattle.gd_store.specs.declared.copy.layout.TheConstants.{LAYOUT}
use Rattle.gd_top.specs.Claims.Images.{copies_text}
use Rattle.gd_top.proofs.ImageLemmas.{told_found}
use Rattle.gd_top.proofs.command.check.read_states.Goals as goal

pub returns-in-Ready : goal.returns-in-Ready
returns-in-Ready g c =
    let found = c.in-Ready.found in (
      found,
      c.push_copies.ensures.bytes ∙ ap (λ (b : List ℕ). b ++ copies_text found) c.clear.ensures,
      told_found (g.D.Disk.state c.args.disk.now).seen found (λ image. boots LAYOUT image ≡ Some (c.in-Ready.sequence, room_payload c.boot.new.room)) (λ image. IsLost LAYOUT image → ⊥) c.in-Ready.ensures.what c.in-Ready.ensures.lost,
      record { unwritten = record { images = c.boot.ensures.any_moment; syncs = c.boot.ensures.syncs }; seen = c.in-Ready.ensures.seen },
    )
