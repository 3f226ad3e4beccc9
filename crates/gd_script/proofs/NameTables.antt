-- Names: each word names at most one value, and each value is found by its name.
use Rattle.std.proofs.Common.{◌≡◌, ◌≢◌, ℕ, Bool, true, false, cond, List, [], ◌∷◌, find, Option, Some, refl, sym, subst}
use Rattle.std.proofs.lemmas.Slice.Eq.{bytes_eq-Decides}
use Rattle.std.specs.Str.{bytes_eq}
use Rattle.gd_base.specs.declared.device.Device.{Device}
use Rattle.gd_base.specs.declared.condition.Door.{Door}
use Rattle.gd_base.specs.declared.game.Game.{Game}
use Rattle.gd_base.specs.declared.condition.Tilt.{Tilt}
use Rattle.gd_base.specs.declared.step.What.{What}
use Rattle.gd_base.specs.Texts.Names.{device_name, game_name}
use Rattle.gd_disk.specs.declared.disk.CutUnit.{CutUnit}
use Rattle.gd_disk.specs.declared.side.Side.{Side}
use Rattle.gd_script.specs.declared.keyword.Keyword.{Keyword}
use Rattle.gd_script.specs.declared.keyword.TheConstants.{KEYWORDS}
use Rattle.gd_script.specs.declared.tables.TheConstants.{DEVICES, DOORS, GAMES, SHOWN, SIDES, TILTS, UNITS}
use Rattle.gd_base.specs.Texts.Names.{door_name, tilt_name}
use Rattle.gd_script.specs.Names.{side_name, unit_name, what_name}
use Rattle.gd_script.specs.Reading.{keyword_name, keyword_of, value_named}

-- what is found has the name, and what all of the values have
chosen : {T : Type 0} (P : T → Type 0) (x : T) (b : Bool) (o : Option T) (t : T) → (b ≡ true → P x) → (o ≡ Some t → P t) → cond b (Some x) o ≡ Some t → P t
chosen P x true o t f g h = let e : x ≡ t = cc in subst P e (f refl)
chosen P x false o t f g h = g h

pub named_says : {T : Type 0} (name : T → List ℕ) (all : List T) (word : List ℕ) (t : T) → value_named name all word ≡ Some t → word ≡ name t
unfolding value_named
named_says name [] word t h = absurd (cc)
named_says name (x ∷ xs) word t h =
    chosen (λ y. word ≡ name y) x (bytes_eq (name x) word) (find (λ one. bytes_eq (name one) word) xs) t (λ e. sym ((bytes_eq-Decides (name x) word).0 e)) (named_says name xs word t) h

abbrev pub Each : {T : Type 0} → (T → Type 0) → List T → Type 0
Each P [] = Unit {0}
Each P (x ∷ xs) = P x × Each P xs

pub named_holds : {T : Type 0} (P : T → Type 0) (name : T → List ℕ) (all : List T) (word : List ℕ) (t : T) → Each P all → value_named name all word ≡ Some t → P t
unfolding value_named
named_holds P name [] word t p h = absurd (cc)
named_holds P name (x ∷ xs) word t p h =
    chosen P x (bytes_eq (name x) word) (find (λ one. bytes_eq (name one) word) xs) t (λ e. p.0) (named_holds P name xs word t p.1) h

pub keyword_says : (word : List ℕ) (k : Keyword) → keyword_of word ≡ Some k → word ≡ keyword_name k
unfolding keyword_of
keyword_says word k h = named_says keyword_name KEYWORDS word k h

-- ================ each value by its name

pub door_found : (door : Door) → value_named door_name DOORS (door_name door) ≡ Some door
unfolding value_named
door_found Door.Logic = refl
door_found _ = refl

pub tilt_found : (tilt : Tilt) → value_named tilt_name TILTS (tilt_name tilt) ≡ Some tilt
unfolding value_named
tilt_found Tilt.BillJam = refl
tilt_found _ = refl

pub game_found : (game : Game) → value_named game_name GAMES (game_name game) ≡ Some game
unfolding value_named
game_found Game.Reels = refl
game_found Game.Poker = refl

pub unit_found : (unit : CutUnit) → value_named unit_name UNITS (unit_name unit) ≡ Some unit
unfolding value_named
unit_found CutUnit.Call = refl
unit_found CutUnit.Sync = refl

pub side_found : (side : Side) → value_named side_name SIDES (side_name side) ≡ Some side
unfolding value_named
side_found Side.A = refl
side_found Side.B = refl

pub device_found : (device : Device) → device ≢ Device.Power → value_named device_name DEVICES (device_name device) ≡ Some device
unfolding value_named
device_found Device.Power h = absurd (h refl)
device_found _ h = refl

pub what_found : (what : What) → what ≢ What.Order → value_named what_name SHOWN (what_name what) ≡ Some what
unfolding value_named
what_found What.Order h = absurd (h refl)
what_found _ h = refl

pub no_power : (word : List ℕ) (device : Device) → value_named device_name DEVICES word ≡ Some device → device ≢ Device.Power
no_power word device h = named_holds (λ d. d ≢ Device.Power) device_name DEVICES word device (λ e. cc, (λ e. cc, (λ e. cc, (λ e. cc, (λ e. cc, (λ e. cc, (λ e. cc, (λ e. cc, tt)))))))) h
