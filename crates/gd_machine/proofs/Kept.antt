-- What is kept of the devices.
use Rattle.std.proofs.Common.{◌≡◌, refl, ℕ, zero, suc, ◌+◌, ◌≤◌, ◌==◌, List, [], ◌∷◌, length, map, sum, slice_set, arith, Bor, is_some, option_copied, Option, Some, None}
use Rattle.std.specs.List.{list_all, slice_index_or}
use Rattle.gd_base.specs.declared.device.Device.{Device}
use Rattle.gd_base.specs.declared.refusal.Reply.{Reply}
use Rattle.gd_base.specs.Histories.Devices.{kept_at, with_reply}
use Rattle.gd_base.specs.Histories.Numbers.{device_place}
use Rattle.gd_base.specs.Histories.View.{View}
use Rattle.gd_base.specs.Payloads.ViewRules.{is_flagged_last}
use Rattle.gd_base.proofs.BoolTests.{both, is_so}
use Rattle.gd_base.proofs.ViewFacts.{Possible}

abbrev pub LastKept : Type 0
LastKept = ℕ × Option Reply

pub kept_is : (ks : List LastKept) (n : ℕ) → slice_index_or ks n (0, None) ≡ kept_at ks n
kept_is [] n = refl
kept_is (k ∷ ks) zero = refl
kept_is (k ∷ ks) (suc n) = kept_is ks n

-- what is borrowed is there where it is
pub copied_some : {T : Type 0} (r : Option (Bor T)) → is_some r ≡ is_some (option_copied r)
copied_some None = refl
copied_some (Some x) = refl

none_more : (n : ℕ) → n ≡ n + 0
none_more n = omega arith

-- the reply to the next number is kept at the device's place
pub kept_set : (d : Device) (reply : Reply) (kept : List LastKept) (number : ℕ) → length kept ≡ 9 → number ≡ (kept_at kept (device_place d)).0 + 1
    → slice_set kept (device_place d) (number, Some reply) ≡ with_reply d reply kept
kept_set Device.Bill r (a ∷ b ∷ c ∷ d ∷ e ∷ f ∷ g ∷ h ∷ i ∷ []) n len next =
    λ x. (next x, Some r) ∷ (none_more b.0 x, b.1) ∷ (none_more c.0 x, c.1) ∷ (none_more d.0 x, d.1) ∷ (none_more e.0 x, e.1) ∷ (none_more f.0 x, f.1) ∷ (none_more g.0 x, g.1) ∷ (none_more h.0 x, h.1) ∷ (none_more i.0 x, i.1) ∷ []
kept_set Device.Coin r (a ∷ b ∷ c ∷ d ∷ e ∷ f ∷ g ∷ h ∷ i ∷ []) n len next =
    λ x. (none_more a.0 x, a.1) ∷ (next x, Some r) ∷ (none_more c.0 x, c.1) ∷ (none_more d.0 x, d.1) ∷ (none_more e.0 x, e.1) ∷ (none_more f.0 x, f.1) ∷ (none_more g.0 x, g.1) ∷ (none_more h.0 x, h.1) ∷ (none_more i.0 x, i.1) ∷ []
kept_set Device.Reader r (a ∷ b ∷ c ∷ d ∷ e ∷ f ∷ g ∷ h ∷ i ∷ []) n len next =
    λ x. (none_more a.0 x, a.1) ∷ (none_more b.0 x, b.1) ∷ (next x, Some r) ∷ (none_more d.0 x, d.1) ∷ (none_more e.0 x, e.1) ∷ (none_more f.0 x, f.1) ∷ (none_more g.0 x, g.1) ∷ (none_more h.0 x, h.1) ∷ (none_more i.0 x, i.1) ∷ []
kept_set Device.Printer r (a ∷ b ∷ c ∷ d ∷ e ∷ f ∷ g ∷ h ∷ i ∷ []) n len next =
    λ x. (none_more a.0 x, a.1) ∷ (none_more b.0 x, b.1) ∷ (none_more c.0 x, c.1) ∷ (next x, Some r) ∷ (none_more e.0 x, e.1) ∷ (none_more f.0 x, f.1) ∷ (none_more g.0 x, g.1) ∷ (none_more h.0 x, h.1) ∷ (none_more i.0 x, i.1) ∷ []
kept_set Device.Hopper r (a ∷ b ∷ c ∷ d ∷ e ∷ f ∷ g ∷ h ∷ i ∷ []) n len next =
    λ x. (none_more a.0 x, a.1) ∷ (none_more b.0 x, b.1) ∷ (none_more c.0 x, c.1) ∷ (none_more d.0 x, d.1) ∷ (next x, Some r) ∷ (none_more f.0 x, f.1) ∷ (none_more g.0 x, g.1) ∷ (none_more h.0 x, h.1) ∷ (none_more i.0 x, i.1) ∷ []
kept_set Device.Doors r (a ∷ b ∷ c ∷ d ∷ e ∷ f ∷ g ∷ h ∷ i ∷ []) n len next =
    λ x. (none_more a.0 x, a.1) ∷ (none_more b.0 x, b.1) ∷ (none_more c.0 x, c.1) ∷ (none_more d.0 x, d.1) ∷ (none_more e.0 x, e.1) ∷ (next x, Some r) ∷ (none_more g.0 x, g.1) ∷ (none_more h.0 x, h.1) ∷ (none_more i.0 x, i.1) ∷ []
kept_set Device.Player r (a ∷ b ∷ c ∷ d ∷ e ∷ f ∷ g ∷ h ∷ i ∷ []) n len next =
    λ x. (none_more a.0 x, a.1) ∷ (none_more b.0 x, b.1) ∷ (none_more c.0 x, c.1) ∷ (none_more d.0 x, d.1) ∷ (none_more e.0 x, e.1) ∷ (none_more f.0 x, f.1) ∷ (next x, Some r) ∷ (none_more h.0 x, h.1) ∷ (none_more i.0 x, i.1) ∷ []
kept_set Device.Attendant r (a ∷ b ∷ c ∷ d ∷ e ∷ f ∷ g ∷ h ∷ i ∷ []) n len next =
    λ x. (none_more a.0 x, a.1) ∷ (none_more b.0 x, b.1) ∷ (none_more c.0 x, c.1) ∷ (none_more d.0 x, d.1) ∷ (none_more e.0 x, e.1) ∷ (none_more f.0 x, f.1) ∷ (none_more g.0 x, g.1) ∷ (next x, Some r) ∷ (none_more i.0 x, i.1) ∷ []
kept_set Device.Power r (a ∷ b ∷ c ∷ d ∷ e ∷ f ∷ g ∷ h ∷ i ∷ []) n len next =
    λ x. (none_more a.0 x, a.1) ∷ (none_more b.0 x, b.1) ∷ (none_more c.0 x, c.1) ∷ (none_more d.0 x, d.1) ∷ (none_more e.0 x, e.1) ∷ (none_more f.0 x, f.1) ∷ (none_more g.0 x, g.1) ∷ (none_more h.0 x, h.1) ∷ (next x, Some r) ∷ []
kept_set _ r _ n len next = absurd (omega (arith, len))

-- no device's last number is above the count
below_sum : (d : Device) (kept : List LastKept) → length kept ≡ 9 → (kept_at kept (device_place d)).0 ≤ sum (map (λ k. k.0) kept)
below_sum Device.Bill (a ∷ b ∷ c ∷ d ∷ e ∷ f ∷ g ∷ h ∷ i ∷ []) len = omega arith
below_sum Device.Coin (a ∷ b ∷ c ∷ d ∷ e ∷ f ∷ g ∷ h ∷ i ∷ []) len = omega arith
below_sum Device.Reader (a ∷ b ∷ c ∷ d ∷ e ∷ f ∷ g ∷ h ∷ i ∷ []) len = omega arith
below_sum Device.Printer (a ∷ b ∷ c ∷ d ∷ e ∷ f ∷ g ∷ h ∷ i ∷ []) len = omega arith
below_sum Device.Hopper (a ∷ b ∷ c ∷ d ∷ e ∷ f ∷ g ∷ h ∷ i ∷ []) len = omega arith
below_sum Device.Doors (a ∷ b ∷ c ∷ d ∷ e ∷ f ∷ g ∷ h ∷ i ∷ []) len = omega arith
below_sum Device.Player (a ∷ b ∷ c ∷ d ∷ e ∷ f ∷ g ∷ h ∷ i ∷ []) len = omega arith
below_sum Device.Attendant (a ∷ b ∷ c ∷ d ∷ e ∷ f ∷ g ∷ h ∷ i ∷ []) len = omega arith
below_sum Device.Power (a ∷ b ∷ c ∷ d ∷ e ∷ f ∷ g ∷ h ∷ i ∷ []) len = omega arith
below_sum _ _ len = absurd (omega (arith, len))

-- so it is at most the count
pub last_within : (v : View) (d : Device) → Possible v → (kept_at v.kept (device_place d)).0 ≤ v.count
last_within v d r =
    let all = is_so (sum (map (λ x. x.0) v.kept)) v.count (both (sum (map (λ x. x.0) v.kept) == v.count) (list_all is_flagged_last v.kept) r.numbered).0 in
    omega (arith, all, below_sum d v.kept r.devices)
