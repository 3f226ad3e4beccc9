-- The view of each legal history from nothing keeps all rules of a view, and its payload spells it. So it is with the empty view.
use Rattle.std.proofs.Common.{◌≡◌, refl, List, [], ◌∷◌}
use Rattle.gd_base.specs.declared.setup.Setup.{Setup}
use Rattle.gd_base.specs.Histories.Entry.{Entry}
use Rattle.gd_base.specs.Histories.View.{View}
use Rattle.gd_base.specs.Histories.ViewOf.{empty_view}
use Rattle.gd_base.specs.Judging.Legal.{view_over}
use Rattle.gd_base.specs.Laws.TellsViews.{HasPayload}
use Rattle.gd_base.specs.Payloads.Bytes.{payload_of}
use Rattle.gd_base.specs.Payloads.Lists.{lists_of}
use Rattle.gd_base.specs.Payloads.Loading.{spelled}
use Rattle.gd_base.proofs.PayloadLemmas.ListsHad.{has_them}
use Rattle.gd_base.proofs.PayloadLemmas.ListsOfViews.{has_its_lists}
use Rattle.gd_base.proofs.PayloadLemmas.Telling.{by_parts}
use Rattle.gd_base.proofs.PreservedLemmas.Preserved.{keeps_all_rules_over}
use Rattle.gd_games.specs.Digest.{digest_of}
use Rattle.gd_machine.specs.Meaning.{the_machine}
use Rattle.gd_machine.specs.Words.{IsWhole}
use Rattle.gd_top.specs.Claims.AllRules.{SpellsEachHistory}

-- no entry changes the digest
same_digest : (setup : Setup) (opening : View) (past : List Entry) → (view_over (the_machine setup) opening past).digest ≡ opening.digest
same_digest setup opening [] = refl
same_digest setup opening (e ∷ past) = same_digest setup opening past

pub spells_each : (setup : Setup) → IsWhole setup (empty_view (digest_of setup)) → SpellsEachHistory setup
spells_each setup whole = λ blocks lap past are widths legal.
    let digest = digest_of setup in
    let opening = empty_view digest in
    let v = view_over (the_machine setup) opening past in
    let kept = keeps_all_rules_over setup digest (spelled setup digest) blocks lap opening past are widths whole.possible whole.under legal in
    record {
      possible = kept.0;
      under = kept.1;
      spelled = by_parts setup digest (payload_of v) v kept.0 kept.1 (same_digest setup opening past) refl (has_them (payload_of v) (lists_of v) (has_its_lists v kept.0));
    }

-- a payload spells the empty view
pub spells_empty : (setup : Setup) → IsWhole setup (the_machine setup).empty → HasPayload (the_machine setup) (the_machine setup).empty
spells_empty setup whole =
    let v = empty_view (digest_of setup) in
    (payload_of v, by_parts setup (digest_of setup) (payload_of v) v whole.possible whole.under refl refl (has_them (payload_of v) (lists_of v) (has_its_lists v whole.possible)))
