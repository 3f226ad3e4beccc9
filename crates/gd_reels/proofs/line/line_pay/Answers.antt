use Rattle.std.proofs.Common.{◌≡◌, ◌<◌, [], length, get_or, take, max, arith, ◌∙◌, ap, sym}
use Rattle.std.proofs.Math.Seq.{take-length}
use Rattle.gd_base.specs.Games.Chance.{greatest, pays_on, pay_of_run}
use Rattle.gd_base.specs.declared.tables.TheConstants.{SYMBOLS}
use Rattle.gd_reels.proofs.Greatest.{length-pays_on, pays_on-at, greatest-more, small_at}
use Rattle.gd_reels.proofs.line.line_pay.Goals as goal

pub pay_of_run-requires-clause-small : goal.pay_of_run-requires-clause-small
pay_of_run-requires-clause-small c =
    let within : c.loop-place.place < length c.args.setup.now.reel_pays = omega arith in
    small_at c.args.setup.now.reel_pays c.loop-place.place within c.args.setup.now.has_pays

pub loop-place-preserved : goal.loop-place-preserved
loop-place-preserved c =
    let line = c.letters_on-letters.result in
    let pays = c.args.setup.now.reel_pays in
    let seven : length SYMBOLS ≡ length pays = omega arith in
    let within : c.loop-place.place < length SYMBOLS = omega arith in
    let room : c.loop-place.place < length (pays_on line SYMBOLS pays) = omega (arith, length-pays_on line SYMBOLS pays seven) in
    let own = pays_on-at line SYMBOLS pays c.loop-place.place seven within in
    let more = greatest-more (pays_on line SYMBOLS pays) c.loop-place.place c.loop-place.best room c.loop-place.invariant.pay in
    let paid = c.pay_of_run.ensures.pay ∙ ap (λ n. pay_of_run (get_or pays c.loop-place.place []) n) c.run_length-run.ensures.length in
    record {
      pay = c.max-best.ensures ∙ ap (max c.loop-place.best) (paid ∙ sym own) ∙ more;
      most = omega (arith, c.pay_of_run.ensures.most, c.loop-place.invariant.most);
    }

pub returns-clause-pay : goal.returns-clause-pay
returns-clause-pay c =
    let line = c.letters_on-letters.result in
    let pays = c.args.setup.now.reel_pays in
    let seven : length SYMBOLS ≡ length pays = omega arith in
    let all : c.loop-place.place ≡ length (pays_on line SYMBOLS pays) = omega (arith, length-pays_on line SYMBOLS pays seven) in
    c.from.ensures ∙ c.loop-place.invariant.pay
    ∙ ap (λ n. greatest (take n (pays_on line SYMBOLS pays))) all
    ∙ ap greatest (take-length (pays_on line SYMBOLS pays))
    ∙ ap (λ l. greatest (pays_on l SYMBOLS pays)) c.letters_on-letters.ensures
