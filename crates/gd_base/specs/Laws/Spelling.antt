-- What is known of the function that tells what a payload spells.
use Rattle.std.specs.Prelude.{◌≡◌, ℕ, IsTrue, List, Some}
use Rattle.gd_base.specs.declared.setup.Setup.{Setup}
use Rattle.gd_base.specs.Payloads.Bytes.{payload_of}
use Rattle.gd_base.specs.Payloads.Lists.{lists_of}
use Rattle.gd_base.specs.Payloads.ListsIn.{lists_in, outside}
use Rattle.gd_base.specs.Payloads.Loading.{view_read, spelled}
use Rattle.gd_base.specs.Payloads.Spelled.{Shows}
use Rattle.gd_base.specs.Payloads.Spelling.{SpelledAs}
use Rattle.gd_base.specs.Payloads.ViewRules.{is_possible, is_possible_under}
use Rattle.gd_base.specs.Histories.View.{View}

-- a view that keeps the rules of a view is read from its payload
abbrev pub ReadsBack : Type 0
ReadsBack = (v : View) → IsTrue (is_possible v) → view_read (payload_of v) ≡ v

-- the function tells just what is spelled, of whatever bytes
abbrev pub IsSpelling : Type 0
IsSpelling = (setup : Setup) (digest payload : List ℕ) → SpelledAs setup digest payload (spelled setup digest payload)

-- whatever has the lists of such a view, and outside of them what stands in the view's payload, shows that view
abbrev pub ShowsByParts : Type 0
ShowsByParts =
    (setup : Setup) (digest payload : List ℕ) (v : View) → IsTrue (is_possible v) → IsTrue (is_possible_under setup v) → v.digest ≡ digest
    → outside payload ≡ outside (payload_of v) → lists_in payload ≡ Some (lists_of v) → spelled setup digest payload ≡ Shows v
