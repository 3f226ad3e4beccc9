-- The lines of a report.
use Rattle.std.specs.Prelude.{ℕ, ◌+◌, ◌/◌, ◌%◌, nat_le, nat_lt, ◌||◌, Bool, true, false, if◌then◌else◌, List, [], ◌∷◌, ◌++◌, codes, decimal, flat_map}
use Rattle.gd_base.specs.declared.device.Device.{Device}
use Rattle.gd_base.specs.declared.limits.TheConstants.{MOST_ENTRIES}
use Rattle.gd_base.specs.declared.refusal.Reply.{Reply}
use Rattle.gd_base.specs.Texts.Names.{device_name, reply_text}
use Rattle.gd_disk.specs.declared.side.Side.{Side}
use Rattle.gd_store.specs.declared.copy.states.Found.{Found}
use Rattle.gd_store.specs.declared.copy.states.CopyState.{CopyState}
use Rattle.gd_store.specs.declared.copy.states.Why.{Why}
use Rattle.gd_store.specs.Repair.{Repair, NoRepair, RepairA, RepairB}

abbrev pub copy_text : CopyState → List ℕ
copy_text (CopyState.Sound n) = codes "sound " ++ decimal n
copy_text (CopyState.Bad Why.Shut) = codes "shut"
copy_text (CopyState.Bad Why.BadHeader) = codes "header"
copy_text (CopyState.Bad Why.BadRoot) = codes "root"
copy_text (CopyState.Bad (Why.BadPage n)) = codes "page " ++ decimal n

abbrev pub power_line : ℕ → Found → List ℕ
power_line k found = codes "power " ++ decimal k ++ codes ": a " ++ copy_text found.a ++ codes ", b " ++ copy_text found.b ++ codes "\n"

abbrev pub repair_text : Repair → List ℕ
repair_text NoRepair = []
repair_text RepairA = codes " repaired a"
repair_text RepairB = codes " repaired b"

abbrev pub start_line : ℕ → Repair → List ℕ
start_line n repair = codes "start at " ++ decimal n ++ repair_text repair ++ codes "\n"

-- the sequence of a full history, in a copy and in the two that were found
abbrev pub is_copy_full : CopyState → Bool
is_copy_full (CopyState.Sound n) = nat_le MOST_ENTRIES n
is_copy_full (CopyState.Bad why) = false

abbrev pub is_found_full : Found → Bool
is_found_full found = is_copy_full found.a || is_copy_full found.b

-- there is no start where the history was full
abbrev pub start_text : Bool → ℕ → Repair → List ℕ
start_text true n repair = []
start_text false n repair = start_line n repair

-- `ack DEVICE NUMBER REPLY at N`, and `again` so too
abbrev pub answer_line : List ℕ → Device → ℕ → Reply → ℕ → List ℕ
answer_line word device number reply n =
    word ++ codes " " ++ device_name device ++ codes " " ++ decimal number ++ codes " " ++ reply_text reply ++ codes " at " ++ decimal n ++ codes "\n"

abbrev pub step_line : Device → ℕ → List ℕ
step_line device expected = codes "step " ++ device_name device ++ codes " expected " ++ decimal expected ++ codes "\n"

abbrev pub full_line : Device → List ℕ
full_line device = codes "full " ++ device_name device ++ codes "\n"

abbrev pub none_line : Device → List ℕ
none_line device = codes "none " ++ device_name device ++ codes "\n"

abbrev pub side_name : Side → List ℕ
side_name Side.A = codes "a"
side_name Side.B = codes "b"

abbrev pub altered_line : Side → ℕ → List ℕ
altered_line side place = codes "altered " ++ side_name side ++ codes " " ++ decimal place ++ codes "\n"

abbrev pub locked_line : List ℕ
locked_line = codes "locked\n"

-- bytes in hexadecimal, two digits each
abbrev pub hex_digit : ℕ → ℕ
hex_digit n = if nat_lt n 10 then 48 + n else 87 + n

abbrev pub hex : List ℕ → List ℕ
hex bytes = flat_map (λ b. hex_digit (b / 16) ∷ hex_digit (b % 16) ∷ []) bytes

abbrev pub differs_line : List ℕ → List ℕ → List ℕ
differs_line kept given = codes "differs kept " ++ hex kept ++ codes " given " ++ hex given ++ codes "\n"

-- the first line of a soak's summary: the items, the entries recorded, the power-ons, and the balance in cents
abbrev pub totals_line : (items n power_ons credit : ℕ) → List ℕ
totals_line items n power_ons credit =
    codes "soak " ++ decimal items ++ codes " entries " ++ decimal n ++ codes " power " ++ decimal power_ons ++ codes " credit " ++ decimal credit ++ codes "\n"
