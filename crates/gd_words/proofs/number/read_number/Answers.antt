use Rattle.std.proofs.Common.{◌≡◌, ◌∙◌, sym, true}
use Rattle.gd_words.proofs.Numbers.{not_plain, parsed, round_trip}
use Rattle.gd_words.proofs.number.read_number.Goals as goal

pub returns-then-not-starts_plainly-clause-value :
    goal.returns-then-not-starts_plainly-clause-value
returns-then-not-starts_plainly-clause-value c = not_plain c.args.text.now (λ plain. let h : c.starts_plainly.result ≡ true = c.starts_plainly.ensures.1 plain in cc)

pub returns-then-not-starts_plainly-clause-exact :
    goal.returns-then-not-starts_plainly-clause-exact
returns-then-not-starts_plainly-clause-exact c =
    let none = not_plain c.args.text.now (λ plain. let h : c.starts_plainly.result ≡ true = c.starts_plainly.ensures.1 plain in cc) in
    λ n. let trip = round_trip c.args.text.now n in (λ e. trip.0 (sym none ∙ e), λ w. none ∙ trip.1 w)

pub returns-clause-value : goal.returns-clause-value
returns-clause-value c =
    c.ok.ensures.value ∙ parsed c.args.text.now c.parse.result (c.starts_plainly.ensures.0 c.if-not-starts_plainly.false) c.parse.ensures.value.0

pub returns-clause-exact : goal.returns-clause-exact
returns-clause-exact c =
    let value = c.ok.ensures.value ∙ parsed c.args.text.now c.parse.result (c.starts_plainly.ensures.0 c.if-not-starts_plainly.false) c.parse.ensures.value.0 in
    λ n. let trip = round_trip c.args.text.now n in (λ e. trip.0 (sym value ∙ e), λ w. value ∙ trip.1 w)
