use Rattle.std.proofs.Common.{◌≡◌, ◌++◌, ◌∙◌, inr, sym, ap, ℕ, List, None, codes, false, arith}
use Rattle.gd_base.specs.Payloads.Spelled.{Shows}
use Rattle.gd_cabinet.proofs.Showing.{as_found, told_maps}
use Rattle.gd_store.specs.Booting.{IsFound}
use Rattle.gd_store.specs.Copy.{boots, found_in, HoldsBoth}
use Rattle.gd_store.specs.Room.{room_payload}
use Rattle.gd_store.specs.declared.copy.layout.TheConstants.{LAYOUT}
use Rattle.gd_top.specs.Claims.Images.{has_sound}
use Rattle.gd_top.proofs.ImageLemmas.{made_over}
use Rattle.gd_top.proofs.ItemLemmas.Images.{told_at}
use Rattle.gd_top.proofs.command.init.make_first.Goals as goal

pub returns-in-Done : goal.returns-in-Done
returns-in-Done g c =
    let payload = room_payload c.fill.new.room in (
      c.push_str-in-Done.ensures.bytes ∙ ap (λ (b : List ℕ). b ++ codes "made\n") c.clear.ensures,
      told_maps (g.D.Disk.state c.args.disk).seen (λ image. IsFound LAYOUT c.in-Lost.found image × (boots LAYOUT image ≡ None)) (λ image. has_sound (found_in LAYOUT image) ≡ false)
          (λ image is. ap has_sound (sym (as_found LAYOUT c.in-Lost.found image is.0)) ∙ sym c.has_sound.ensures ∙ c.if-has_sound.false) c.in-Lost.ensures.what,
      λ image now. record {
        payload = payload;
        spelled = c.fill.ensures ∙ ap Shows c.requires.empty;
        both = told_at (g.D.Disk.state c.in-Done.disk).seen image (HoldsBoth LAYOUT 0 payload) (c.in-Done.ensures.synced image now) c.in-Done.ensures.done;
      },
    )

pub returns : goal.returns
returns g c =
    let payload = room_payload c.fill.new.room in (
      record {
        told = c.push_str-in-Off-make.ensures.bytes ∙ ap (λ (b : List ℕ). b ++ codes "disk fault\n") c.clear.ensures;
        cause = omega (arith, c.in-Off-make.ensures.answer.stop, c.in-Lost.ensures.answer.no_stop);
      },
      inr (record {
        payload = payload;
        spelled = c.fill.ensures ∙ ap Shows c.requires.empty;
        images = made_over LAYOUT payload (g.D.Disk.state c.args.disk) (g.D.Disk.state c.boot.new.disk) (g.D.Disk.state c.in-Off-make.disk) c.boot.ensures.any_moment c.in-Lost.ensures.seen c.in-Off-make.ensures.waiting;
      }),
    )
