-- The event that the words of a line say.
use Rattle.std.proofs.Common.{◌≡◌, ℕ, List, [], ◌∷◌, codes, decimal, option_map, Option, None, Some, refl, ap, subst, ◌∙◌, arith}
use Rattle.gd_base.specs.declared.game.Colour.{Colour}
use Rattle.gd_base.specs.declared.event.Event.{Event}
use Rattle.gd_base.specs.Texts.Names.{game_name}
use Rattle.gd_script.specs.declared.keyword.Keyword.{Keyword}
use Rattle.gd_base.specs.declared.limits.TheConstants.{MOST_AMOUNT, MOST_PICK}
use Rattle.gd_script.specs.declared.limits.TheConstants.{MOST_BET, MOST_NUMBER}
use Rattle.gd_script.specs.declared.tables.TheConstants.{DOORS, GAMES, TILTS}
use Rattle.gd_script.specs.Grammar.{event_words, IsLineEvent, NamesNoOrder}
use Rattle.gd_base.specs.Texts.Names.{door_name, tilt_name}
use Rattle.gd_script.specs.Reading.{amount_in_word, bare_event, event_by, event_of, event_with, hold_of, keyword_name, keyword_of, value_named, number_in, number_of, word_pair, play_of, voucher_of}
use Rattle.gd_script.proofs.HoldBits.{hold_read, hold_said}
use Rattle.gd_script.proofs.NameTables.{door_found, game_found, keyword_says, named_says, tilt_found}
use Rattle.gd_script.proofs.Numbers.{number_in_decimal}
use Rattle.gd_script.proofs.OneField.{amount_read, combine, combined, number_read, number_says, one_field}

-- which events a keyword can make
abbrev pub LeavesOrders : Keyword → Event → Type 0
LeavesOrders Keyword.Printed e = Unit {0}
LeavesOrders Keyword.PrintFail e = Unit {0}
LeavesOrders Keyword.CoinPaid e = Unit {0}
LeavesOrders Keyword.HopperEmpty e = Unit {0}
LeavesOrders _ e = NamesNoOrder e

abbrev pub SaysEvent : Keyword → List (List ℕ) → Event → Type 0
SaysEvent keyword words e = (words ≡ event_words e) × IsLineEvent e × LeavesOrders keyword e

-- ================ from words

bare : (keyword : Keyword) (e f : Event) → SaysEvent keyword (keyword_name keyword ∷ []) e → Some e ≡ Some f → SaysEvent keyword (keyword_name keyword ∷ []) f
bare keyword e f s h = let i : e ≡ f = cc in subst (SaysEvent keyword (keyword_name keyword ∷ [])) i s

pub bare_event_said : (keyword : Keyword) (e : Event) → bare_event keyword ≡ Some e → SaysEvent keyword (keyword_name keyword ∷ []) e
unfolding bare_event
bare_event_said Keyword.BillJam e h = bare Keyword.BillJam Event.BillJam e (refl, tt, tt) h
bare_event_said Keyword.StackerFull e h = bare Keyword.StackerFull Event.StackerFull e (refl, tt, tt) h
bare_event_said Keyword.CoinJam e h = bare Keyword.CoinJam Event.CoinJam e (refl, tt, tt) h
bare_event_said Keyword.PaperOut e h = bare Keyword.PaperOut Event.PaperOut e (refl, tt, tt) h
bare_event_said Keyword.Red e h = bare Keyword.Red (Event.Gamble Colour.Red) e (refl, tt, tt) h
bare_event_said Keyword.Black e h = bare Keyword.Black (Event.Gamble Colour.Black) e (refl, tt, tt) h
bare_event_said Keyword.Take e h = bare Keyword.Take Event.Take e (refl, tt, tt) h
bare_event_said Keyword.CashOut e h = bare Keyword.CashOut Event.CashOut e (refl, tt, tt) h
bare_event_said Keyword.Handpay e h = bare Keyword.Handpay Event.HandpayDone e (refl, tt, tt) h
bare_event_said _ e h = absurd (cc)

-- two words, the second of which is told
second : (first : List ℕ) {word text : List ℕ} → word ≡ text → first ∷ word ∷ [] ≡ first ∷ text ∷ []
second first {word} {text} e = ap (λ (w : List ℕ). first ∷ w ∷ []) e

third : (first : List ℕ) {v w s t : List ℕ} → v ≡ s → w ≡ t → first ∷ v ∷ w ∷ [] ≡ first ∷ s ∷ t ∷ []
third first e f = cc

voucher_said : (fields : List (List ℕ)) (e : Event) → voucher_of (word_pair fields) ≡ Some e → SaysEvent Keyword.Voucher (codes "voucher" ∷ fields) e
voucher_said (a ∷ b ∷ []) e h =
    let c = combined Event.VoucherIn (number_of a) (amount_in_word b) e h in
    let id = number_says 0 MOST_NUMBER a c.0 c.2 in
    let amount = number_says 0 MOST_AMOUNT b c.1 c.3 in
    subst (SaysEvent Keyword.Voucher (codes "voucher" ∷ a ∷ b ∷ [])) c.4 (third (codes "voucher") id.0 amount.0, (id.2, amount.2), tt)
voucher_said _ e h = absurd (cc)

play_said : (fields : List (List ℕ)) (e : Event) → play_of (word_pair fields) ≡ Some e → SaysEvent Keyword.Play (codes "play" ∷ fields) e
play_said (a ∷ b ∷ []) e h =
    let c = combined Event.Play (value_named game_name GAMES a) (number_in 0 MOST_BET b) e h in
    let bet = number_says 0 MOST_BET b c.1 c.3 in
    subst (SaysEvent Keyword.Play (codes "play" ∷ a ∷ b ∷ [])) c.4 (third (codes "play") (named_says game_name GAMES a c.0 c.2) bet.0, bet.2, tt)
play_said _ e h = absurd (cc)

pub with_said : (keyword : Keyword) (fields : List (List ℕ)) (e : Event) → event_with keyword fields ≡ Some e → SaysEvent keyword (keyword_name keyword ∷ fields) e
unfolding event_with
with_said Keyword.Bill fields e h =
    one_field (SaysEvent Keyword.Bill) amount_in_word Event.Bill (codes "bill") fields e (λ w n r. let s = number_says 0 MOST_AMOUNT w n r in (second (codes "bill") s.0, s.2, tt)) h
with_said Keyword.Coin fields e h =
    one_field (SaysEvent Keyword.Coin) amount_in_word Event.Coin (codes "coin") fields e (λ w n r. let s = number_says 0 MOST_AMOUNT w n r in (second (codes "coin") s.0, s.2, tt)) h
with_said Keyword.Voucher fields e h = voucher_said fields e h
with_said Keyword.Printed fields e h =
    one_field (SaysEvent Keyword.Printed) number_of Event.Printed (codes "printed") fields e (λ w n r. let s = number_says 0 MOST_NUMBER w n r in (second (codes "printed") s.0, s.2, tt)) h
with_said Keyword.PrintFail fields e h =
    one_field (SaysEvent Keyword.PrintFail) number_of Event.PrintFail (codes "print-fail") fields e (λ w n r. let s = number_says 0 MOST_NUMBER w n r in (second (codes "print-fail") s.0, s.2, tt)) h
with_said Keyword.CoinPaid fields e h =
    one_field (SaysEvent Keyword.CoinPaid) number_of Event.CoinPaid (codes "coin-paid") fields e (λ w n r. let s = number_says 0 MOST_NUMBER w n r in (second (codes "coin-paid") s.0, s.2, tt)) h
with_said Keyword.HopperEmpty fields e h =
    one_field (SaysEvent Keyword.HopperEmpty) number_of Event.HopperEmpty (codes "hopper-empty") fields e (λ w n r. let s = number_says 0 MOST_NUMBER w n r in (second (codes "hopper-empty") s.0, s.2, tt)) h
with_said Keyword.Open fields e h =
    one_field (SaysEvent Keyword.Open) (value_named door_name DOORS) Event.DoorOpen (codes "open") fields e (λ w d r. (second (codes "open") (named_says door_name DOORS w d r), tt, tt)) h
with_said Keyword.Shut fields e h =
    one_field (SaysEvent Keyword.Shut) (value_named door_name DOORS) Event.DoorShut (codes "shut") fields e (λ w d r. (second (codes "shut") (named_says door_name DOORS w d r), tt, tt)) h
with_said Keyword.Play fields e h = play_said fields e h
with_said Keyword.Pick fields e h =
    one_field (SaysEvent Keyword.Pick) (number_in 1 MOST_PICK) Event.Pick (codes "pick") fields e (λ w n r. let s = number_says 1 MOST_PICK w n r in (second (codes "pick") s.0, (s.1, s.2), tt)) h
with_said Keyword.Hold fields e h =
    one_field (SaysEvent Keyword.Hold) hold_of Event.Hold (codes "hold") fields e (λ w m r. let s = hold_said w m r in (second (codes "hold") s.1, s.0, tt)) h
with_said Keyword.ClearTilt fields e h =
    one_field (SaysEvent Keyword.ClearTilt) (value_named tilt_name TILTS) Event.ClearTilt (codes "clear-tilt") fields e (λ w t r. (second (codes "clear-tilt") (named_says tilt_name TILTS w t r), tt, tt)) h
with_said _ fields e h = absurd (cc)

by_said : (o : Option Keyword) (first : List ℕ) (fields : List (List ℕ)) (e : Event) → ((k : Keyword) → o ≡ Some k → first ≡ keyword_name k) → event_by o fields ≡ Some e
    → (first ∷ fields ≡ event_words e) × IsLineEvent e
by_said None first fields e f h = absurd (cc)
by_said (Some k) first [] e f h = let s = bare_event_said k e h in (ap (λ (w : List ℕ). w ∷ []) (f k refl) ∙ s.0, s.1)
by_said (Some k) first (field ∷ fields) e f h = let s = with_said k (field ∷ fields) e h in (ap (λ (w : List ℕ). w ∷ field ∷ fields) (f k refl) ∙ s.0, s.1)

pub event_said : (words : List (List ℕ)) (e : Event) → event_of words ≡ Some e → (words ≡ event_words e) × IsLineEvent e
unfolding event_of
event_said [] e h = absurd (cc)
event_said (first ∷ fields) e h = by_said (keyword_of first) first fields e (keyword_says first) h

-- ================ to words

pub event_read : (e : Event) → IsLineEvent e → event_of (event_words e) ≡ Some e
unfolding event_of bare_event event_with keyword_of value_named
event_read (Event.Bill value) h = ap (option_map Event.Bill) (amount_read value h)
event_read (Event.Coin value) h = ap (option_map Event.Coin) (amount_read value h)
event_read (Event.VoucherIn id value) h = combine Event.VoucherIn (number_of (decimal id)) (amount_in_word (decimal value)) id value (number_read id h.0) (amount_read value h.1)
event_read (Event.Printed order) h = ap (option_map Event.Printed) (number_read order h)
event_read (Event.PrintFail order) h = ap (option_map Event.PrintFail) (number_read order h)
event_read (Event.CoinPaid order) h = ap (option_map Event.CoinPaid) (number_read order h)
event_read (Event.HopperEmpty order) h = ap (option_map Event.HopperEmpty) (number_read order h)
event_read (Event.DoorOpen door) h = ap (option_map Event.DoorOpen) (door_found door)
event_read (Event.DoorShut door) h = ap (option_map Event.DoorShut) (door_found door)
event_read (Event.Play game bet) h =
    combine Event.Play (value_named game_name GAMES (game_name game)) (number_in 0 MOST_BET (decimal bet)) game bet (game_found game) (number_in_decimal 0 MOST_BET bet (omega arith) (omega arith) h)
event_read (Event.Pick door) h = ap (option_map Event.Pick) (number_in_decimal 1 MOST_PICK door (omega arith) h.0 h.1)
event_read (Event.Hold mask) h = ap (option_map Event.Hold) (hold_read mask h)
event_read (Event.Gamble Colour.Red) h = refl
event_read (Event.Gamble Colour.Black) h = refl
event_read (Event.ClearTilt tilt) h = ap (option_map Event.ClearTilt) (tilt_found tilt)
event_read Event.Start h = absurd h
event_read _ h = refl
