-- The machine of the product, as a core, a cabinet and a run see it.
use Rattle.std.specs.Prelude.{◌≡◌, ℕ, Bool, true, false, ◌&&◌, ◌==◌, List, [], ◌∷◌, unwrap_or, Option, Some, None, refl}
use Rattle.std.proofs.lemmas.Bool.{eq-eqb}
use Rattle.gd_base.specs.declared.refusal.Reply.{Reply}
use Rattle.gd_base.specs.declared.payout.Order.{Order}
use Rattle.gd_base.specs.declared.setup.Setup.{Setup}
use Rattle.gd_base.specs.declared.step.What.{What}
use Rattle.gd_base.specs.Histories.Devices.{kept_at}
use Rattle.gd_base.specs.Judging.Draws.{is_drawn, next_index}
use Rattle.gd_base.specs.Histories.Numbers.{device_place}
use Rattle.gd_base.specs.Judging.Machine.{Machine}
use Rattle.gd_base.specs.Payloads.Bytes.{payload_of}
use Rattle.gd_base.specs.Judging.Rule.{rule}
use Rattle.gd_base.specs.Payloads.Spelled.{Spelled}
use Rattle.gd_base.specs.Texts.OfViews.{meters_text, state_text, recall_text, events_text, order_text}
use Rattle.gd_base.specs.Histories.View.{View}
use Rattle.gd_base.specs.Histories.ViewOf.{with_entry, empty_view}

abbrev pub text : Setup → What → View → List ℕ
text setup What.Meters v = meters_text v
text setup What.State v = state_text setup v
text setup What.Recall v = recall_text setup v
text setup What.Events v = events_text v
text setup What.Order v = order_text setup v

abbrev pub open_order_number : Option Order → ℕ
open_order_number None = 0
open_order_number (Some order) = order.number

abbrev pub same_numbers : List ℕ → List ℕ → Bool
same_numbers [] [] = true
same_numbers [] (y ∷ ys) = false
same_numbers (x ∷ xs) [] = false
same_numbers (x ∷ xs) (y ∷ ys) = (x == y) && same_numbers xs ys

-- a number, and so a list of them, is the same as itself
pub number_itself : (n : ℕ) → (n == n) ≡ true
number_itself n = eq-eqb n n refl

pub both_hold : (a b : Bool) → a ≡ true → b ≡ true → (a && b) ≡ true
both_hold true b p q = q
both_hold false b p q = p

pub numbers_themselves : (xs : List ℕ) → same_numbers xs xs ≡ true
numbers_themselves [] = refl
numbers_themselves (x ∷ xs) = both_hold (x == x) (same_numbers xs xs) (number_itself x) (numbers_themselves xs)

-- Under a setup whose digest is this, and payloads that spell this. Two views are one where they have one payload.
abbrev pub machine : Setup → List ℕ → (List ℕ → Spelled View) → Machine View
machine setup digest spelled = record {
  digest = digest;
  empty = empty_view digest;
  effect = with_entry setup;
  same = λ v w. same_numbers (payload_of v) (payload_of w);
  count = λ v. v.count;
  last = λ v d. (kept_at v.kept (device_place d)).0;
  kept = λ v d. unwrap_or (kept_at v.kept (device_place d)).1 Reply.Taken;
  rule = rule setup;
  is_drawn = is_drawn setup;
  index = next_index;
  open_order = λ v. open_order_number v.order;
  text = text setup;
  credit = λ v. v.balance;
  spelled = spelled;
  count_empty = refl;
  count_effect = λ v e. refl;
  same_itself = λ v. numbers_themselves (payload_of v);
}
