use Rattle.std.proofs.Common.{◌≡◌, ◌≢◌, ◌∙◌, sym, Bool, false, ◌==◌, ℕ, if◌then◌else◌, arith}
use Rattle.std.proofs.lemmas.Bool.Decides.{nat_tests}
use Rattle.gd_base.specs.declared.game.Rank.{Rank}
use Rattle.gd_base.specs.Games.Chance.{groups}
use Rattle.gd_base.specs.Setups.Tables.{ranks}
use Rattle.gd_cards.proofs.ranking.rank.Goals as goal

not_one : (n r : ℕ) → r ≡ n → r ≢ 1 → (n == 1) ≡ false
not_one n r is other = grind (arith, nat_tests, is, other)

-- the first four tests fail
past : (a b c d : Bool) (x : Rank) → a ≡ false → b ≡ false → c ≡ false → d ≡ false
    → x ≡ (if a then Rank.RoyalFlush else if b then Rank.StraightFlush else if c then Rank.Four else if d then Rank.FullHouse else x)
past a b c d x p q r s =
    λ j. if sym p j then Rank.RoyalFlush else if sym q j then Rank.StraightFlush else if sym r j then Rank.Four else if sym s j then Rank.FullHouse else x

pub returns-else-is_full_house : goal.returns-else-is_full_house
returns-else-is_full_house c =
    let cards = c.args.hand.now.cards in
    let four : (groups 4 cards ranks == 1) ≡ false = not_one (groups 4 cards ranks) c.groups.result c.groups.ensures c.if-groups-eq1.false in
    record {
      rank =
          c.middle_hand.ensures.rank
          ∙ past _ _ _ _ _ (sym c.is_royal.ensures ∙ c.if-is_royal.false) (sym c.is_straight_flush.ensures ∙ c.if-is_straight_flush.false) four (sym c.is_full_house.ensures ∙ c.if-is_full_house.false);
    }
