-- Which lists a payload has, and that of a view.
use Rattle.std.specs.Prelude.{◌≡◌, ℕ, IsTrue, List, Some}
use Rattle.gd_base.specs.Histories.View.{View}
use Rattle.gd_base.specs.Payloads.Bytes.{payload_of}
use Rattle.gd_base.specs.Payloads.ViewRules.{is_possible}
use Rattle.gd_base.specs.Payloads.ListsIn.{lists_in, outside, HasLists}
use Rattle.gd_base.specs.Payloads.Lists.{Lists, lists_of}
use Rattle.gd_base.specs.Payloads.Recorded.{are_recorded}

-- the lists that a payload has are those that are read
abbrev pub ReadsItsLists : Type 0
ReadsItsLists = (payload : List ℕ) (l : Lists) → HasLists payload l → lists_in payload ≡ Some l

-- and lists that are read are had
abbrev pub HasReadLists : Type 0
HasReadLists = (payload : List ℕ) (l : Lists) → lists_in payload ≡ Some l → HasLists payload l

-- the lists of a view that keeps the rules of a view are such as can be recorded
abbrev pub RecordsLists : Type 0
RecordsLists = (v : View) → IsTrue (is_possible v) → IsTrue (are_recorded (lists_of v))

-- and its payload has them
abbrev pub SpellsLists : Type 0
SpellsLists = (v : View) → IsTrue (is_possible v) → lists_in (payload_of v) ≡ Some (lists_of v)

-- a payload with the lists of such a view, and outside of them what stands in the view's payload, is that payload
abbrev pub IsToldByParts : Type 0
IsToldByParts =
    (payload : List ℕ) (v : View) → IsTrue (is_possible v) → outside payload ≡ outside (payload_of v) → lists_in payload ≡ Some (lists_of v)
    → payload ≡ payload_of v
