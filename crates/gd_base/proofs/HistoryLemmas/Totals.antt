-- What a taken entry makes of the totals: its additions, one after another. This is what code that keeps totals does.
use Rattle.std.specs.Prelude.{◌<◌, ◌++◌, length, slice_index, slice_set, ◌≡◌, ℕ, ◌+◌, List, [], ◌∷◌, map, sum_by, Option, refl}
use Rattle.std.proofs.Common.{ap, sym, ◌∙◌, add-zero, add_assoc}
use Rattle.std.proofs.lemmas.List.{get_or_append_left, set-append_left}
use Rattle.std.proofs.lemmas.List.Sums.{sum_by-cons}
use Rattle.gd_base.specs.declared.event.Event.{Event}
use Rattle.gd_base.specs.declared.meter.Meter.{Meter}
use Rattle.gd_base.specs.declared.refusal.Reply.{Reply}
use Rattle.gd_base.specs.Histories.Entry.{Entry}
use Rattle.gd_base.specs.Histories.History.{Origin}
use Rattle.gd_base.specs.Histories.Meters.{Addition, meters, meter, additions, share, with_one, with_additions}
use Rattle.gd_base.specs.Histories.Numbers.{meter_place}
use Rattle.gd_base.specs.Histories.Rounds.{posted_win}

one_more : (f : Meter → ℕ) (m : Meter) (amount : ℕ) → with_one m amount (map f meters) ≡ map (λ n. f n + share n (m, amount)) meters
one_more f Meter.BillIn amount = simp add-zero refl
one_more f _ amount = simp add-zero refl

none_more : (f : Meter → ℕ) → map f meters ≡ map (λ n. f n + 0) meters
none_more f = simp add-zero refl

pub with_additions-map : (additions : List Addition) (f : Meter → ℕ) → with_additions additions (map f meters) ≡ map (λ m. f m + sum_by (share m) additions) meters
with_additions-map [] f = none_more f
with_additions-map (a ∷ others) f =
    ap (with_additions others) (one_more f a.0 a.1)
    ∙ with_additions-map others (λ n. f n + share n a)
    ∙ (λ i. map (λ m. add_assoc (f m) (share m a) (sum_by (share m) others) i) meters)
    ∙ (λ i. map (λ m. f m + sym (sum_by-cons (share m) a others) i) meters)

abbrev taken : ℕ → Event → Option (ℕ × List ℕ) → Entry
taken number event draw = record { number = number; event = event; draw = draw; reply = Reply.Taken }

-- after a taken entry the totals are those before it with its additions
pub totals-taken : (o : Origin) (number : ℕ) (event : Event) (draw : Option (ℕ × List ℕ)) (past : List Entry)
    → map (λ m. meter o m (taken number event draw ∷ past)) meters
    ≡ with_additions (additions o past (posted_win o (taken number event draw) past) event) (map (λ m. meter o m past) meters)
totals-taken o number event draw past =
    sym (with_additions-map (additions o past (posted_win o (taken number event draw) past) event) (λ m. meter o m past))

-- totals that are kept in two arrays: an amount more in the first
pub with_one-append : (amounts counts : List ℕ) (m : Meter) (amount : ℕ) → meter_place m < length amounts
    → with_one m amount (amounts ++ counts) ≡ slice_set amounts (meter_place m) (slice_index amounts (meter_place m) + amount) ++ counts
with_one-append amounts counts m amount is_first =
    ap (λ n. slice_set (amounts ++ counts) (meter_place m) (n + amount)) (get_or_append_left amounts counts 0 (meter_place m) is_first)
    ∙ set-append_left amounts counts (meter_place m) (slice_index amounts (meter_place m) + amount) is_first
