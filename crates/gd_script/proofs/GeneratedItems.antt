-- What comes among the items of a soak run.
use Rattle.std.proofs.Common.{◌≡◌, ◌∙◌, ap, sym, subst, refl, ℕ, zero, suc, add-one, ◌+◌, ◌/◌, ◌%◌, ◌≤◌, ◌==◌, nat_le, Bool, true, false, not, if◌then◌else◌, cond, arith, None}
use Rattle.std.proofs.lemmas.Bool.Decides.{nat_tests}
use Rattle.std.proofs.lemmas.List.FromFn.{sum_by-map-range_with_len_more}
use Rattle.std.specs.List.{count_by}
use Rattle.gd_base.specs.declared.condition.Door.{Door}
use Rattle.gd_base.specs.declared.condition.Tilt.{Tilt}
use Rattle.gd_base.specs.declared.event.Event.{Event}
use Rattle.gd_script.specs.declared.item.Item.{Item}
use Rattle.gd_script.specs.declared.item.OrderWord.{OrderWord}
use Rattle.gd_script.specs.declared.limits.TheConstants.{MOST_GENERATED}
use Rattle.gd_script.specs.Generated.{attendance_by, cut_by, cuts_generated, door_by, generated, is_soak_item, is_start, item_by_kind, items_generated, random_word}
use Rattle.gd_script.specs.Items.{is_cut}

-- what holds of both holds of the one that is taken
either : {A : Type 0} (P : A → Type 0) (b : Bool) (x y : A) → P x → P y → P (if b then x else y)
either P true x y p q = p
either P false x y p q = q

-- ================ kinds

no_start_door : (rest : ℕ) → is_start (door_by rest) ≡ false
no_start_door rest = either (λ (e : Event). is_start e ≡ false) (rest % 2 == 0) (Event.DoorOpen Door.Main) (Event.DoorShut Door.Main) refl refl

no_start_attendance : (rest : ℕ) → is_start (attendance_by rest) ≡ false
no_start_attendance rest =
    either (λ (e : Event). is_start e ≡ false) (rest % 3 == 0) Event.BillJam (if rest % 3 == 1 then Event.ClearTilt Tilt.BillJam else Event.HandpayDone) refl
    (either (λ (e : Event). is_start e ≡ false) (rest % 3 == 1) (Event.ClearTilt Tilt.BillJam) Event.HandpayDone refl refl)

-- an item by its kind is an event other than a start, or one of an order
module _ (P : Item → Type 0) (event : (e : Event) → is_start e ≡ false → P (Item.Event e)) (order : (word : OrderWord) → P (Item.OrderEvent word None)) where
  by_kind : (k kind rest : ℕ) → P (item_by_kind k kind rest)
  unfolding item_by_kind
  by_kind k kind rest =
      either P (nat_le kind 5) _ _ (event _ refl)
      (either P (nat_le kind 6) _ _ (event _ refl)
      (either P (nat_le kind 7) _ _ (event _ refl)
      (either P (nat_le kind 13) _ _ (event _ refl)
      (either P (nat_le kind 17) _ _ (event _ refl)
      (either P (nat_le kind 20) _ _ (event _ refl)
      (either P (nat_le kind 22) _ _ (event _ refl)
      (either P (nat_le kind 23) _ _ (event _ refl)
      (either P (nat_le kind 24) _ _ (event _ refl)
      (either P (nat_le kind 26) _ _ (event _ refl)
      (either P (nat_le kind 27) _ _ (event _ refl)
      (either P (nat_le kind 28) _ _ (order _)
      (either P (nat_le kind 29) _ _ (order _)
      (either P (nat_le kind 30) _ _ (event _ (no_start_door rest)) (event _ (no_start_attendance rest)))))))))))))))

-- each is an event other than a start, an event of an order, or a cut
pub generated_kind : (seed k : ℕ) → is_soak_item (generated seed k) ≡ true
unfolding generated
generated_kind seed k =
    either (λ (item : Item). is_soak_item item ≡ true) (k % 500 == 250) (cut_by (random_word seed k / 32)) (item_by_kind k (random_word seed k % 32) (random_word seed k / 32)) refl
    (by_kind (λ (item : Item). is_soak_item item ≡ true) (λ e no_start. ap not no_start) (λ word. refl) k (random_word seed k % 32) (random_word seed k / 32))

-- ================ cuts

cut_or : (b : Bool) (x y : Item) → is_cut x ≡ true → is_cut y ≡ false → is_cut (if b then x else y) ≡ b
cut_or true x y p q = p
cut_or false x y p q = q

-- a cut comes in the middle of each 500, and nowhere else
pub generated_cut : (seed k : ℕ) → is_cut (generated seed k) ≡ (k % 500 == 250)
unfolding generated
generated_cut seed k =
    cut_or (k % 500 == 250) (cut_by (random_word seed k / 32)) (item_by_kind k (random_word seed k % 32) (random_word seed k / 32)) refl
    (by_kind (λ (item : Item). is_cut item ≡ false) (λ e no_start. refl) (λ word. refl) k (random_word seed k % 32) (random_word seed k / 32))

-- one place more
cuts_by : (b : Bool) (k : ℕ) → (k % 500 == 250) ≡ b → cuts_generated (k + 1) ≡ cuts_generated k + cond b 1 0
cuts_by true k is = grind (arith, nat_tests, is)
cuts_by false k is = grind (arith, nat_tests, is)

pub cuts_more : (seed k : ℕ) → cuts_generated (k + 1) ≡ cuts_generated k + cond (is_cut (generated seed k)) 1 0
cuts_more seed k = cuts_by (is_cut (generated seed k)) k (sym (generated_cut seed k))

-- of the first n items
CutsAmong : (seed n : ℕ) → Type 0
CutsAmong seed n = count_by is_cut (items_generated seed n) ≡ cuts_generated n

one_place_more : (seed n : ℕ) → CutsAmong seed n → CutsAmong seed (n + 1)
unfolding CutsAmong
one_place_more seed n so_far =
    sum_by-map-range_with_len_more (λ (item : Item). cond (is_cut item) 1 0) (generated seed) 0 n n (omega arith)
    ∙ (ap (λ (c : ℕ). c + cond (is_cut (generated seed n)) 1 0) so_far ∙ sym (cuts_more seed n))

cuts_so_far : (seed n : ℕ) → CutsAmong seed n
unfolding CutsAmong
cuts_so_far seed zero = refl
cuts_so_far seed (suc n) = subst (CutsAmong seed) (add-one n) (one_place_more seed n (cuts_so_far seed n))

pub cuts_among : (seed n : ℕ) → count_by is_cut (items_generated seed n) ≡ cuts_generated n
unfolding CutsAmong
cuts_among seed n = cuts_so_far seed n

-- of as many as a run can have
pub cuts_few : (n : ℕ) → n ≤ MOST_GENERATED → cuts_generated n ≤ 200
cuts_few n few = omega (arith, few)
