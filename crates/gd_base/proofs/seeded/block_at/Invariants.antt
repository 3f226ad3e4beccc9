use Rattle.std.proofs.Common.{◌≡◌, ◌+◌, ◌*◌, length, take, map}
use Rattle.gd_base.specs.Outside.KeyStream.{seeded_word}
use Rattle.gd_base.specs.Setups.Tables.{numbers}
use Rattle.gd_base.proofs.OutsideLemmas.KeyStream.{placed}
use Rattle.gd_base.proofs.seeded.block_at.Given as goal

-- the generator stands before word i, and the words so far are written
abbrev pub invariant-loop-i : goal.invariant-loop-i
invariant-loop-i l = record {
  rng : l.rng ≡ placed l.seed l.lap (32 * l.index + 2 * l.i);
  length : length l.words ≡ 16;
  words : take l.i l.words ≡ map (seeded_word l.seed l.lap l.index) (numbers 0 l.i);
}
