use Rattle.std.proofs.Common.{ap, arith, ℕ, Option}
use Rattle.gd_base.specs.declared.refusal.Reply.{Reply}
use Rattle.gd_base.specs.Histories.Numbers.{device_place}
use Rattle.gd_image.specs.Words.{platform_setup, platform_view}
use Rattle.gd_image.proofs.Restored.{last_within}
use Rattle.gd_image.proofs.calls.PlatformCore.last.Goals as goal

pub returns-clause-most : goal.returns-clause-most
returns-clause-most c =
    let p = c.args.self.now in
    let last = ap (λ (k : ℕ × Option Reply). k.0) c.kept.ensures in
    omega (arith, last, last_within (platform_setup p) (platform_view p) p.whole (device_place c.args.device))
