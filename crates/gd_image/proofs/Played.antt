-- What is told of a play by its stages, and the rules of a setup by those of each play.
use Rattle.std.proofs.Common.{◌≡◌, ◌∙◌, ap, refl, Bool, true, false, not, ◌&&◌, ◌||◌, if◌then◌else◌, List, [], ◌∷◌, Option, Some, None}
use Rattle.std.specs.List.{list_all}
use Rattle.gd_base.specs.declared.play.PlayRecord.{PlayRecord}
use Rattle.gd_base.specs.declared.play.StageOpen.{StageOpen}
use Rattle.gd_base.specs.declared.setup.Setup.{Setup}
use Rattle.gd_base.specs.Games.Stage.{is_stage}
use Rattle.gd_base.specs.Payloads.ViewRules.{is_finished, is_in, is_open_as, is_played}
use Rattle.gd_games.specs.Plays.{phase_if_played, play_stage}
use Rattle.gd_image.specs.Plays.{goes_on, has_ended}

told_if : (test : StageOpen → Bool) (b : Bool) (shown at : StageOpen) → Some at ≡ (if b then Some shown else None) → test at ≡ (b && test shown)
told_if test true shown at told = ap test (cc told)
told_if test false shown at told = absurd (cc told)

none_if : (test : StageOpen → Bool) (b : Bool) (shown : StageOpen) → None ≡ (if b then Some shown else None) → false ≡ (b && test shown)
none_if test true shown told = absurd (cc told)
none_if test false shown told = refl

pub ended_is : (setup : Setup) (p : PlayRecord) (at : StageOpen) → Some at ≡ phase_if_played setup p → (is_stage at StageOpen.Ended || is_stage at StageOpen.Gamble) ≡ has_ended setup p
ended_is setup p at told = told_if (λ s. is_stage s StageOpen.Ended || is_stage s StageOpen.Gamble) (is_played setup p) (play_stage setup p).phase at told

pub not_ended : (setup : Setup) (p : PlayRecord) → None ≡ phase_if_played setup p → false ≡ has_ended setup p
not_ended setup p told = none_if (λ s. is_stage s StageOpen.Ended || is_stage s StageOpen.Gamble) (is_played setup p) (play_stage setup p).phase told

pub going_is : (setup : Setup) (p : PlayRecord) (at : StageOpen) → Some at ≡ phase_if_played setup p → not (is_stage at StageOpen.Ended) ≡ goes_on setup p
going_is setup p at told = told_if (λ s. not (is_stage s StageOpen.Ended)) (is_played setup p) (play_stage setup p).phase at told

pub not_going : (setup : Setup) (p : PlayRecord) → None ≡ phase_if_played setup p → false ≡ goes_on setup p
not_going setup p told = none_if (λ s. not (is_stage s StageOpen.Ended)) (is_played setup p) (play_stage setup p).phase told

-- ================ all plays

swapped : (a b s t : Bool) → (a && b && (s && t)) ≡ (a && s && (b && t))
swapped true b true t = refl
swapped true true false t = refl
swapped true false false t = refl
swapped false b s t = refl

both_all : {A : Type 0} (f g : A → Bool) (xs : List A) → list_all (λ x. f x && g x) xs ≡ (list_all f xs && list_all g xs)
both_all f g [] = refl
both_all f g (x ∷ xs) = ap (λ (b : Bool). f x && g x && b) (both_all f g xs) ∙ swapped (f x) (g x) (list_all f xs) (list_all g xs)

both_open : (f g : PlayRecord → Bool) (play : Option PlayRecord) → is_open_as (λ p. f p && g p) play ≡ (is_open_as f play && is_open_as g play)
both_open f g None = refl
both_open f g (Some p) = refl

ordered : (coins plays finished play going : Bool) → (coins && ((plays && finished) && ((play && going) && true))) ≡ (coins && (plays && (play && (finished && (going && true)))))
ordered true true true play true = ends play
  where
    ends : (b : Bool) → ((b && true) && true) ≡ (b && (true && (true && true)))
    ends true = refl
    ends false = refl
ordered true true true true false = refl
ordered true true true false false = refl
ordered true true false true going = refl
ordered true true false false going = refl
ordered true false finished play going = refl
ordered false plays finished play going = refl

pub rules_are : (setup : Setup) (coins : Bool) (plays : List PlayRecord) (play : Option PlayRecord)
    → (coins && (list_all (has_ended setup) plays && (is_open_as (goes_on setup) play && true)))
    ≡ (coins && (list_all (is_played setup) plays && (is_open_as (is_played setup) play && (list_all (is_finished setup) plays && (is_open_as (λ p. not (is_in setup p StageOpen.Ended)) play && true)))))
rules_are setup coins plays play =
    (λ i. coins && (both_all (is_played setup) (is_finished setup) plays i && (both_open (is_played setup) (λ p. not (is_in setup p StageOpen.Ended)) play i && true)))
    ∙ ordered coins (list_all (is_played setup) plays) (list_all (is_finished setup) plays) (is_open_as (is_played setup) play) (is_open_as (λ p. not (is_in setup p StageOpen.Ended)) play)
