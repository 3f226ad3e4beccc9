use Rattle.std.proofs.Common.{rules, ◌≡◌, ◌∙◌, ap, ℕ, ◌-◌, ◌++◌, length, replicate, arith, length-append}
use Rattle.gd_base.specs.declared.layout.TheConstants.{LISTS_AT, LISTS_LEN, OPEN_AT, OPEN_PLAY_LEN, PLAYS_AT}
use Rattle.gd_base.specs.Payloads.ListsIn.{outside}
use Rattle.gd_base.proofs.PayloadLemmas.Parts.{outside_is}
use Rattle.gd_image.proofs.Rows.{five_grouped}
use Rattle.gd_image.proofs.fields.Fields.write.Goals as goal

pub returns-clause-written : goal.returns-clause-written
returns-clause-written c =
    let a = c.write_head.new.head in
    let n = c.split_at_mut-numbers.result.0.now in
    let z = c.fill.new.self in
    let o = c.write_open.new.into in
    let r = c.split_at_mut-open.result.1.now in
    let a_long : length a ≡ LISTS_AT = search rules in
    let n_long : length n ≡ LISTS_LEN = search rules in
    let z_long : length z ≡ OPEN_AT - LISTS_AT - LISTS_LEN = search rules in
    let o_long : length o ≡ OPEN_PLAY_LEN = search rules in
    let zo_long : length (z ++ o) ≡ PLAYS_AT - LISTS_AT - LISTS_LEN = omega (arith, z_long, o_long, length-append z o) in
    let zeros = c.fill.ensures.after (λ y e. e) ∙ ap (λ (k : ℕ). replicate k 0) c.split_at_mut-zeros.ensures.front_len in
    ap outside (five_grouped a n z o r) ∙ outside_is a n (z ++ o) r a_long n_long zo_long
    ∙ (λ i. c.write_head.ensures i ++ (zeros i ++ c.write_open.ensures i))
