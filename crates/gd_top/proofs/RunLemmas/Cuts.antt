-- What an offer under armed cuts is told to be, by what its run of disk calls did, and the cuts after it.
use Rattle.std.proofs.Common.{◌≡◌, ◌∙◌, sym, ap, subst, refl, ⊎_elim, ℕ, ◌+◌, ◌-◌, ◌<◌, ◌≤◌, ◌==◌, nat_le, if◌then◌else◌, Bool, true, false, List, [], ◌∷◌, ◌++◌, drop, length, map, arith}
use Rattle.std.proofs.lemmas.Bool.{cases_lt}
use Rattle.std.proofs.lemmas.Bool.Decides.{nat_tests}
use Rattle.std.proofs.lemmas.List.{length-map}
use Rattle.gd_disk.specs.CutRuns.{ComesBehind, FirstComes, IsCompleteRun, IsCutOff, IsFaulted}
use Rattle.gd_disk.specs.Disk.{DiskState, later_cuts}
use Rattle.gd_disk.specs.Runs.{CutsLeft, IsLeft}
use Rattle.gd_disk.specs.declared.disk.ArmedCut.{ArmedCut}
use Rattle.gd_disk.specs.declared.disk.CutUnit.{CutUnit}
use Rattle.gd_disk.specs.declared.disk.CutUnit.TheVariants.{Call, Sync}
use Rattle.gd_disk.proofs.WholeRuns.{fault_keeps}
use Rattle.gd_top.specs.Code.Falls.{IsWaiting, AreWaiting, spent_by, spent, fall_by, fall_of, falls_by, counts_calls, AreCalls}
use Rattle.gd_top.specs.Run.Offers.{Whole, Fell, Offer, is_head, tail, fallen, under_unit, under_cuts, Rise, IsStill, AreArmed}
use Rattle.gd_top.specs.Run.State.{State}

-- no later fall has the number of this offer
later_head : (n : ℕ) (falls : List ℕ) → Rise n falls → is_head falls n ≡ false
later_head n [] rise = refl
later_head n (m ∷ ms) rise = grind (arith, nat_tests, rise.0)

same_head : (n : ℕ) → (n == n) ≡ true
same_head n = grind (arith, nat_tests)

too_few : (m n : ℕ) → n < m → nat_le m n ≡ false
too_few m n lt = grind (arith, nat_tests, lt)

enough : (m n : ℕ) → m ≤ n → nat_le m n ≡ true
enough m n le = grind (arith, nat_tests, le)

abbrev cut_of : CutUnit → ℕ → ℕ → ArmedCut
cut_of unit count torn = record { unit = unit; count = count; torn = torn }

-- ================ a whole offer

module _ {V : Type 0} where
  whole_unit : (unit : CutUnit) (said now torn next : ℕ) (cuts : List ArmedCut) (syncs : ℕ) (s : State V) → s.armed ≡ cut_of unit said torn ∷ cuts → IsStill unit said now → IsWaiting unit now → IsLeft syncs unit now next → Rise s.offers s.falls
      → under_unit unit (cut_of unit said torn) cuts syncs s ≡ record { fate = Whole; state = record s { armed = spent_by unit syncs (cut_of unit said torn) ∷ cuts } }
  whole_unit Sync said now torn next cuts syncs s is still waits left rise =
      let lt : syncs < said = ⊎_elim (λ some. omega (arith, still, left.0, left.1 some)) (λ none. omega (arith, still, waits, none)) (cases_lt 0 syncs) in
      ap (λ (b : Bool). let o : Offer V = if b then fallen cuts s else record { fate = Whole; state = record s { armed = cut_of Sync (said - syncs) torn ∷ cuts } } in o) (too_few said syncs lt)
  whole_unit Call said now torn next cuts syncs s is still waits left rise =
      ap (λ (b : Bool). let o : Offer V = if b then fallen cuts (record s { falls = tail s.falls }) else record { fate = Whole; state = s } in o) (later_head s.offers s.falls rise)
      ∙ ap (λ (cuts : List ArmedCut). let o : Offer V = record { fate = Whole; state = record s { armed = cuts } } in o) is

  whole_cuts : (said old new : List ArmedCut) (syncs : ℕ) (s : State V) → s.armed ≡ said → AreArmed said old → AreWaiting old → CutsLeft syncs old new → Rise s.offers s.falls
      → under_cuts said syncs s ≡ record { fate = Whole; state = record s { armed = spent syncs said } }
  whole_cuts [] old new syncs s is told waits left rise = ap (λ (cuts : List ArmedCut). let o : Offer V = record { fate = Whole; state = record s { armed = cuts } } in o) is
  whole_cuts (cut ∷ cuts) old new syncs s is told waits left rise =
      let first = subst AreWaiting told.1 waits in
      let rest = subst (λ (a : List ArmedCut). CutsLeft syncs a new) told.1 left in
      whole_unit cut.unit cut.count told.0 cut.torn rest.0 cuts syncs s is told.2 first.0 rest.2 rise

  -- where the run was complete the offer is told whole, whatever falls come later
  pub under_whole : (syncs : ℕ) (s : State V) (old new : DiskState) → AreArmed s.armed old.armed → AreWaiting old.armed → IsCompleteRun syncs old new → Rise s.offers s.falls
      → under_cuts s.armed syncs s ≡ record { fate = Whole; state = record s { armed = spent syncs s.armed } }
  under_whole syncs s old new told waits run rise = whole_cuts s.armed old.armed new.armed syncs s refl told waits run.left rise

  -- ================ a fall

  fell_unit : (unit : CutUnit) (said now torn done : ℕ) (cuts : List ArmedCut) (syncs : ℕ) (later : List ℕ) (s : State V) → IsStill unit said now → ComesBehind done syncs unit now
      → under_unit unit (cut_of unit said torn) cuts syncs (record s { falls = fall_by unit s.offers ++ later }) ≡ record { fate = Fell; state = record s { armed = cuts; fell = s.fell + 1; falls = later } }
  fell_unit Sync said now torn done cuts syncs later s still came =
      let le : said ≤ syncs = omega (arith, still, came.0, came.1) in
      ap (λ (b : Bool). let o : Offer V = if b then fallen cuts (record s { falls = later }) else record { fate = Whole; state = record s { armed = cut_of Sync (said - syncs) torn ∷ cuts; falls = later } } in o) (enough said syncs le)
  fell_unit Call said now torn done cuts syncs later s still came =
      ap (λ (b : Bool). let o : Offer V = if b then fallen cuts (record s { falls = later }) else record { fate = Whole; state = record s { falls = s.offers ∷ later } } in o) (same_head s.offers)

  fell_cuts : (said old : List ArmedCut) (done syncs : ℕ) (later : List ℕ) (s : State V) → AreArmed said old → FirstComes done syncs old
      → under_cuts said syncs (record s { falls = fall_of said s.offers ++ later }) ≡ record { fate = Fell; state = record s { armed = later_cuts said; fell = s.fell + 1; falls = later } }
  fell_cuts [] old done syncs later s told came = absurd (subst (λ (a : List ArmedCut). FirstComes done syncs a) told came)
  fell_cuts (cut ∷ cuts) old done syncs later s told came =
      let first = subst (λ (a : List ArmedCut). FirstComes done syncs a) told.1 came in
      fell_unit cut.unit cut.count told.0 cut.torn done cuts syncs later s told.2 first

  -- where a cut ended the run the offer is told fallen, with what the fall adds to the falls
  pub under_fell : (syncs : ℕ) (later : List ℕ) (s : State V) (old new : DiskState) → AreArmed s.armed old.armed → IsCutOff syncs old new
      → under_cuts s.armed syncs (record s { falls = fall_of s.armed s.offers ++ later }) ≡ record { fate = Fell; state = record s { armed = later_cuts s.armed; fell = s.fell + 1; falls = later } }
  under_fell syncs later s old new told cut = fell_cuts s.armed old.armed cut.done syncs later s told cut.came

-- ================ the cuts after it

still_unit : (unit : CutUnit) (said now torn next : ℕ) (later : List ArmedCut) (syncs : ℕ) → IsStill unit said now → IsLeft syncs unit now next → AreArmed (spent_by unit syncs (cut_of unit said torn) ∷ later) (cut_of unit next torn ∷ later)
still_unit Sync said now torn next later syncs still left = (next, refl, omega (arith, still, left.0))
still_unit Call said now torn next later syncs still left = (next, refl, omega (arith, still, left))

whole_armed : (said old new : List ArmedCut) (syncs : ℕ) → AreArmed said old → CutsLeft syncs old new → AreArmed (spent syncs said) new
whole_armed [] old new syncs told left = subst (λ (a : List ArmedCut). CutsLeft syncs a new) told left
whole_armed (cut ∷ cuts) old new syncs told left =
    let rest = subst (λ (a : List ArmedCut). CutsLeft syncs a new) told.1 left in
    subst (AreArmed (spent_by cut.unit syncs cut ∷ cuts)) (sym rest.1) (still_unit cut.unit cut.count told.0 cut.torn rest.0 cuts syncs told.2 rest.2)

-- after a complete run
pub armed_whole : (syncs : ℕ) (said : List ArmedCut) (old new : DiskState) → AreArmed said old.armed → IsCompleteRun syncs old new → AreArmed (spent syncs said) new.armed
armed_whole syncs said old new told run = whole_armed said old.armed new.armed syncs told run.left

spent_unit : (unit : CutUnit) (count torn : ℕ) → spent_by unit 0 (cut_of unit count torn) ≡ cut_of unit count torn
spent_unit Sync count torn = let same : count - 0 ≡ count = omega arith in ap (λ (n : ℕ). cut_of Sync n torn) same
spent_unit Call count torn = refl

spent_none : (said : List ArmedCut) → spent 0 said ≡ said
spent_none [] = refl
spent_none (cut ∷ cuts) = ap (λ (first : ArmedCut). first ∷ cuts) (spent_unit cut.unit cut.count cut.torn)

-- after a complete run that made no sync and is no offer, as of an event that isn't new
pub armed_still : (said : List ArmedCut) (old new : DiskState) → AreArmed said old.armed → IsCompleteRun 0 old new → AreArmed said new.armed
armed_still said old new told run = subst (λ (a : List ArmedCut). AreArmed a new.armed) (spent_none said) (armed_whole 0 said old new told run)

itself_unit : (unit : CutUnit) (n : ℕ) → IsStill unit n n
itself_unit Sync n = refl
itself_unit Call n = omega arith

-- a cut that waits is told as it was armed
pub armed_itself : (cuts : List ArmedCut) → AreArmed cuts cuts
armed_itself [] = refl
armed_itself (cut ∷ cuts) = (cut.count, refl, itself_unit cut.unit cut.count)

used_armed : (said old new : List ArmedCut) → AreArmed said old → new ≡ later_cuts old → AreArmed (later_cuts said) new
used_armed [] old new told is = is ∙ ap later_cuts told
used_armed (cut ∷ cuts) old new told is = subst (AreArmed cuts) (sym (is ∙ ap later_cuts told.1)) (armed_itself cuts)

-- after a cut, which is used up
pub armed_used : (syncs : ℕ) (said : List ArmedCut) (old new : DiskState) → AreArmed said old.armed → IsCutOff syncs old new → AreArmed (later_cuts said) new.armed
armed_used syncs said old new told cut = used_armed said old.armed new.armed told cut.used

-- as many are armed as are told
pub armed_length : (said now : List ArmedCut) → AreArmed said now → length now ≡ length said
armed_length [] now told = ap length told
armed_length (cut ∷ cuts) now told = ap length told.1

-- so too after a fault
pub armed_faulted : (syncs : ℕ) (said : List ArmedCut) (old new : DiskState) → AreArmed said old.armed → IsFaulted syncs old new → length new.armed ≡ length said
armed_faulted syncs said old new told fault = fault_keeps syncs old new fault ∙ armed_length said old.armed told

waits_unit : (unit : CutUnit) (syncs now next : ℕ) → IsWaiting unit now → IsLeft syncs unit now next → IsWaiting unit next
waits_unit Sync syncs now next waits left = ⊎_elim (λ some. left.1 some) (λ none. omega (arith, left.0, waits, none)) (cases_lt 0 syncs)
waits_unit Call syncs now next waits left = tt

whole_waiting : (old new : List ArmedCut) (syncs : ℕ) → AreWaiting old → CutsLeft syncs old new → AreWaiting new
whole_waiting [] new syncs waits left = subst AreWaiting (sym left) tt
whole_waiting (cut ∷ cuts) new syncs waits left = subst AreWaiting (sym left.1) (waits_unit cut.unit syncs cut.count left.0 waits.0 left.2, waits.1)

used_waiting : (old : List ArmedCut) → AreWaiting old → AreWaiting (later_cuts old)
used_waiting [] waits = tt
used_waiting (cut ∷ cuts) waits = waits.1

-- a cut by syncs has still one to count at least
pub waiting_whole : (syncs : ℕ) (old new : DiskState) → AreWaiting old.armed → IsCompleteRun syncs old new → AreWaiting new.armed
waiting_whole syncs old new waits run = whole_waiting old.armed new.armed syncs waits run.left

pub waiting_used : (syncs : ℕ) (old new : DiskState) → AreWaiting old.armed → IsCutOff syncs old new → AreWaiting new.armed
waiting_used syncs old new waits cut = subst AreWaiting (sym cut.used) (used_waiting old.armed waits)

-- ================ the units of the cuts

-- ================ what the code keeps of them

whole_calls : (old new : List ArmedCut) (syncs : ℕ) → CutsLeft syncs old new → map (λ cut. counts_calls cut.unit) new ≡ map (λ cut. counts_calls cut.unit) old
whole_calls [] new syncs left = ap (map (λ cut. counts_calls cut.unit)) left
whole_calls (cut ∷ cuts) new syncs left = ap (map (λ cut. counts_calls cut.unit)) left.1

pub calls_whole : (syncs : ℕ) (calls : List Bool) (old new : DiskState) → AreCalls calls old.armed → IsCompleteRun syncs old new → AreCalls calls new.armed
calls_whole syncs calls old new are run = are ∙ sym (whole_calls old.armed new.armed syncs run.left)

later_calls : (cuts : List ArmedCut) → drop 1 (map (λ cut. counts_calls cut.unit) cuts) ≡ map (λ cut. counts_calls cut.unit) (later_cuts cuts)
later_calls [] = refl
later_calls (cut ∷ cuts) = refl

-- with a cut the first leaves
pub calls_used : (syncs : ℕ) (calls : List Bool) (old new : DiskState) → AreCalls calls old.armed → IsCutOff syncs old new → AreCalls (drop 1 calls) new.armed
calls_used syncs calls old new are cut = ap (drop 1) are ∙ later_calls old.armed ∙ ap (map (λ cut. counts_calls cut.unit)) (sym cut.used)

fall_unit : (unit : CutUnit) (later : List Bool) (offer : ℕ) → falls_by (counts_calls unit ∷ later) offer ≡ fall_by unit offer
fall_unit Sync later offer = refl
fall_unit Call later offer = refl

-- and it says what the fall adds to the falls
pub falls_are : (calls : List Bool) (said now : List ArmedCut) (offer : ℕ) → AreCalls calls now → AreArmed said now → falls_by calls offer ≡ fall_of said offer
falls_are calls [] now offer are told = ap (λ (bs : List Bool). falls_by bs offer) (are ∙ ap (map (λ cut. counts_calls cut.unit)) told)
falls_are calls (cut ∷ cuts) now offer are told =
    ap (λ (bs : List Bool). falls_by bs offer) (are ∙ ap (map (λ cut. counts_calls cut.unit)) told.1)
    ∙ fall_unit cut.unit (map (λ cut. counts_calls cut.unit) cuts) offer

-- as many
pub calls_many : (calls : List Bool) (cuts : List ArmedCut) → AreCalls calls cuts → length calls ≡ length cuts
calls_many calls cuts are = ap length are ∙ length-map cuts (λ (cut : ArmedCut). counts_calls cut.unit)
