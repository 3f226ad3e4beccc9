use Rattle.std.proofs.Common.{◌≡◌, ◌∙◌, ap, sym, subst, refl, inr, ℕ, List, ◌++◌}
use Rattle.gd_base.specs.declared.step.What.{What}
use Rattle.gd_image.specs.Words.{platform_setup, platform_view}
use Rattle.gd_machine.specs.Meaning.{the_machine}
use Rattle.gd_top.specs.Claims.Runs.{GivesLast}
use Rattle.gd_top.specs.Code.Parts.{GivesText}
use Rattle.gd_top.specs.Report.Lines.{totals_line}
use Rattle.gd_top.specs.declared.status.Status.{Status}
use Rattle.gd_top.proofs.LineLemmas.Counted.{front_longer}
use Rattle.gd_top.proofs.RunLemmas.Said.{unwritten_of, written_of}
use Rattle.gd_top.proofs.SoakLemmas.Told.{last_then}
use Rattle.gd_top.proofs.command.soak.tell_summary.Goals as goal

pub returns-then-is_err-clause-last : goal.returns-then-is_err-clause-last
returns-then-is_err-clause-last g c =
    let M = the_machine (platform_setup c.args.core.now) in
    let v = platform_view c.args.core.now in
    let line = totals_line c.args.items (M.count v) c.args.power_ons (M.credit v) in
    let text : c.push_totals_line.new.text.bytes ≡ line = c.push_totals_line.ensures.bytes ∙ ap (λ (bytes : List ℕ). bytes ++ totals_line c.args.items c.count.result c.args.power_ons c.credit.result) c.requires ∙ (λ i. totals_line c.args.items (c.count.ensures.value i) c.args.power_ons (c.credit.ensures i)) in
    let gave = subst (λ (bytes : List ℕ). GivesText c.give_text.result (g.K.Sink.taken c.args.output.now) (g.K.Sink.taken c.give_text.new.output) bytes) text c.give_text.ensures.given in
    inr (
      refl,
      front_longer (g.K.Sink.taken c.args.output.now) (g.K.Sink.taken c.give_text.new.output) line (M.text What.Meters v)
          (unwritten_of c.give_text.result (g.K.Sink.taken c.args.output.now) (g.K.Sink.taken c.give_text.new.output) line (sym c.is_err.ensures.value ∙ c.if-is_err.true) gave).1,
    )

pub returns-clause-last : goal.returns-clause-last
returns-clause-last g c =
    let M = the_machine (platform_setup c.args.core.now) in
    let v = platform_view c.args.core.now in
    let line = totals_line c.args.items (M.count v) c.args.power_ons (M.credit v) in
    let text : c.push_totals_line.new.text.bytes ≡ line = c.push_totals_line.ensures.bytes ∙ ap (λ (bytes : List ℕ). bytes ++ totals_line c.args.items c.count.result c.args.power_ons c.credit.result) c.requires ∙ (λ i. totals_line c.args.items (c.count.ensures.value i) c.args.power_ons (c.credit.ensures i)) in
    let gave = subst (λ (bytes : List ℕ). GivesText c.give_text.result (g.K.Sink.taken c.args.output.now) (g.K.Sink.taken c.give_text.new.output) bytes) text c.give_text.ensures.given in
    let meters = subst (λ (bytes : List ℕ). GivesLast Status.Done c.tell.result (g.K.Sink.taken c.give_text.new.output) (g.K.Sink.taken c.tell.new.output) bytes) c.show.ensures c.tell.ensures.given in
    last_then Status.Done c.tell.result (g.K.Sink.taken c.args.output.now) (g.K.Sink.taken c.give_text.new.output) (g.K.Sink.taken c.tell.new.output) line (M.text What.Meters v)
    (written_of c.give_text.result (g.K.Sink.taken c.args.output.now) (g.K.Sink.taken c.give_text.new.output) line (sym c.is_err.ensures.value ∙ c.if-is_err.false) gave) meters
