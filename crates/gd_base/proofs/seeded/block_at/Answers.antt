use Rattle.std.proofs.Common.{rules, ◌≡◌, ℕ, ◌+◌, ◌*◌, ◌<◌, List, [], ◌∷◌, ◌++◌, length, map, ap, ◌∙◌, sym, arith}
use Rattle.std.proofs.lemmas.List.{take_more_set}
use Rattle.rand_core.specs.Steps.{u64_via_u32}
use Rattle.rand_chacha.specs.ChaCha.{ChaCha, next_word}
use Rattle.gd_base.specs.Outside.KeyStream.{seeded_word}
use Rattle.gd_base.specs.Setups.Tables.{numbers}
use Rattle.gd_base.proofs.OutsideLemmas.KeyStream.{placed, placed-next, map-more}
use Rattle.gd_base.proofs.seeded.block_at.Goals as goal

pub loop-i-preserved : goal.loop-i-preserved
loop-i-preserved c =
    let i = c.loop-i.i in
    let at = 32 * c.args.index + 2 * i in
    let own = seeded_word c.args.seed c.args.lap c.args.index in
    let both = c.next_u64_via_u32.ensures ∙ ap (u64_via_u32 (next_word 10)) c.loop-i.invariant.rng ∙ placed-next c.args.seed c.args.lap at in
    let word = ap (λ (p : ℕ × ChaCha). p.0) both in
    let after = ap (λ (p : ℕ × ChaCha). p.1) both in
    let moved : at + 2 ≡ 32 * c.args.index + 2 * (i + 1) = omega arith in
    let room : i < length c.loop-i.words = omega (arith, c.loop-i.invariant.length, c.loop-i-test.true) in
    record {
      rng = after ∙ ap (placed c.args.seed c.args.lap) moved;
      length = search rules;
      words = take_more_set c.loop-i.words i c.next_u64_via_u32.result room
          ∙ ap (λ (ws : List ℕ). ws ++ c.next_u64_via_u32.result ∷ []) c.loop-i.invariant.words
          ∙ ap (λ (w : ℕ). map own (numbers 0 i) ++ w ∷ []) word
          ∙ sym (map-more own i);
    }
