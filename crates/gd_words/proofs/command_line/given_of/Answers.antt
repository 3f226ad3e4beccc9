use Rattle.std.proofs.Common.{◌≡◌, ◌∙◌, codes, option_map}
use Rattle.clap.specs.Words.{first_of, found_of, rows_of}
use Rattle.clap.proofs.WalkLemmas.{first_value-rows}
use Rattle.gd_words.proofs.command_line.given_of.Goals as goal

pub returns : goal.returns
returns c =
    let found = found_of c.args.matches.now in
    let command : option_map (λ w. w.now) c.get_str-command.result ≡ first_of (codes "command") (rows_of found) =
    c.get_str-command.ensures ∙ first_value-rows found (codes "command") in
    let x : option_map (λ w. w.now) c.get_str-x.result ≡ first_of (codes "x") (rows_of found) =
    c.get_str-x.ensures ∙ first_value-rows found (codes "x") in
    let y : option_map (λ w. w.now) c.get_str-y.result ≡ first_of (codes "y") (rows_of found) =
    c.get_str-y.ensures ∙ first_value-rows found (codes "y") in
    let setup : option_map (λ w. w.now) c.get_str-setup.result ≡ first_of (codes "setup") (rows_of found) =
    c.get_str-setup.ensures ∙ first_value-rows found (codes "setup") in
    let seed : option_map (λ w. w.now) c.get_str-seed.result ≡ first_of (codes "seed") (rows_of found) =
    c.get_str-seed.ensures ∙ first_value-rows found (codes "seed") in
    cc
