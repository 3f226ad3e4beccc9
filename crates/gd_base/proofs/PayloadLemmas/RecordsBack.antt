-- The bytes of each record are read as the record.
use Rattle.std.proofs.Common.{◌≡◌, ◌∙◌, refl, ℕ, ◌+◌, ◌-◌, ◌<◌, ◌^◌, ◌==◌, nat_le, nat_lt, List, [], ◌∷◌, ◌++◌, true, false, ◌&&◌, ◌||◌, if◌then◌else◌, length, arith, Option, Some, None}
use Rattle.std.proofs.lemmas.Bool.Decides.{nat_tests}
use Rattle.std.proofs.lemmas.Nat.{from_be_bytes-to_be_bytes_4, from_be_bytes-to_be_bytes_8}
use Rattle.gd_base.specs.declared.game.Game.{Game}
use Rattle.gd_base.specs.declared.layout.TheConstants.{PLAY_LEN}
use Rattle.gd_base.specs.declared.play.PlayRecord.{PlayRecord}
use Rattle.gd_base.specs.declared.records.BillRecord.{BillRecord}
use Rattle.gd_base.specs.declared.records.EventRecord.{EventRecord}
use Rattle.gd_base.specs.declared.records.VoucherRecord.{VoucherRecord}
use Rattle.gd_base.specs.Histories.Numbers.{game_number}
use Rattle.gd_base.specs.Payloads.Bytes.{choice_code, play_bytes, event_bytes, bill_bytes, voucher_bytes}
use Rattle.gd_base.specs.Payloads.Reading.{number_at, short_at, sixteen_at, play_read, game_of, choice_of, event_read, bill_read, voucher_read}
use Rattle.gd_base.specs.Payloads.ViewRules.{all_true, is_play_record, is_choice_value, is_bill_record, is_voucher}
use Rattle.gd_base.proofs.BoolTests.{all_told, both, is_so, is_less}
use Rattle.gd_base.proofs.PayloadLemmas.Fields.{Each, each_passed}
use Rattle.gd_base.proofs.PayloadLemmas.Records.{Placed, PlayWidths}
use Rattle.gd_base.specs.Payloads.Recorded.{recorded_play_rules, is_recorded_play, is_recorded_event}

abbrev pub Short : ℕ → Type 0
Short n = n < 2 ^ 64

-- ================ events, bills, vouchers

pub event_back : (e : EventRecord) → Placed (λ r. r.place) is_recorded_event e → event_read (event_bytes e) ≡ e
unfolding number_at
event_back e ok =
    let place = from_be_bytes-to_be_bytes_8 e.place ok.1 in
    let detail = from_be_bytes-to_be_bytes_8 e.detail (is_less e.detail (2 ^ 64) (both (nat_le 1 e.code && nat_le e.code 8) (nat_lt e.detail (2 ^ 64)) ok.0).1) in
    λ i. record { place = place i; code = e.code; detail = detail i }

pub bill_back : (b : BillRecord) → Placed (λ r. r.place) is_bill_record b → bill_read (bill_bytes b) ≡ b
unfolding number_at short_at
bill_back b ok =
    let place = from_be_bytes-to_be_bytes_8 b.place ok.1 in
    let value = from_be_bytes-to_be_bytes_4 b.value (is_less b.value (2 ^ 32) ok.0) in
    λ i. record { place = place i; value = value i }

pub voucher_back : (v : VoucherRecord) → Placed (λ r. r.place) is_voucher v → voucher_read (voucher_bytes v) ≡ v
unfolding number_at short_at
voucher_back v ok =
    let t = both (((v.kind == 1) || (v.kind == 2)) && nat_lt v.id (2 ^ 64)) (nat_lt v.value (2 ^ 32)) ok.0 in
    let u = both ((v.kind == 1) || (v.kind == 2)) (nat_lt v.id (2 ^ 64)) t.0 in
    let place = from_be_bytes-to_be_bytes_8 v.place ok.1 in
    let id = from_be_bytes-to_be_bytes_8 v.id (is_less v.id (2 ^ 64) u.1) in
    let value = from_be_bytes-to_be_bytes_4 v.value (is_less v.value (2 ^ 32) t.1) in
    λ i. record { place = place i; kind = v.kind; id = id i; value = value i }

-- ================ plays

-- what is asked of a play in a view is more than of a recorded one
pub play_kept : (p : PlayRecord) → is_play_record p ≡ true → is_recorded_play p ≡ true
play_kept p h = (both _ (all_true (recorded_play_rules p)) h).1

game_back : (g : Game) → game_of (game_number g) ≡ g
game_back Game.Reels = refl
game_back Game.Poker = refl

door_back : (door : ℕ) → nat_le 1 door && nat_le door 5 ≡ true → choice_of door ≡ Some door
door_back door h =
    let some : (door == 0) ≡ false = grind (arith, nat_tests, h) in
    let below : nat_lt door 32 ≡ true = grind (arith, nat_tests, h) in
    (λ j. if some j then None else Some (if nat_lt door 32 then door else door - 32)) ∙ (λ j. Some (if below j then door else door - 32))

mask_back : (mask : ℕ) → choice_of (32 + mask) ≡ Some mask
mask_back mask =
    let some : (32 + mask == 0) ≡ false = grind (arith, nat_tests) in
    let above : nat_lt (32 + mask) 32 ≡ false = grind (arith, nat_tests) in
    let less : 32 + mask - 32 ≡ mask = omega arith in
    (λ j. if some j then None else Some (if nat_lt (32 + mask) 32 then 32 + mask else 32 + mask - 32)) ∙ (λ j. Some (if above j then 32 + mask else less j))

choice_back : (g : Game) (x : Option ℕ) → is_choice_value g x ≡ true → choice_of (choice_code g x) ≡ x
choice_back g None h = refl
choice_back Game.Reels (Some door) h = door_back door h
choice_back Game.Poker (Some mask) h = mask_back mask

widths : (p : PlayRecord) → is_recorded_play p ≡ true → PlayWidths p
widths p h =
    let t = all_told (recorded_play_rules p) h in
    record {
      choice = t.0;
      number = is_less p.number (2 ^ 64) t.1.1.1.0;
      index = is_less p.index (2 ^ 64) t.1.1.1.1.0;
      sixteen = is_so (length p.words) 16 t.1.1.1.1.1.0;
      words = each_passed (λ w. nat_lt w (2 ^ 64)) Short (λ w k. is_less w (2 ^ 64) k) p.words t.1.1.1.1.1.1.0;
      wager = is_less p.wager (2 ^ 32) t.1.1.1.1.1.1.1.0;
      win = is_less p.win (2 ^ 64) t.1.1.1.1.1.1.1.1.0;
      before = is_less p.before (2 ^ 64) t.1.1.1.1.1.1.1.1.1.0;
      after = is_less p.after (2 ^ 64) t.1.1.1.1.1.1.1.1.1.1.0;
    }

abbrev pub sixteen : (a b c d e f g h i j k l m n o p : ℕ) → List ℕ
sixteen a b c d e f g h i j k l m n o p = a ∷ b ∷ c ∷ d ∷ e ∷ f ∷ g ∷ h ∷ i ∷ j ∷ k ∷ l ∷ m ∷ n ∷ o ∷ p ∷ []

module _ (p : PlayRecord) (a b c d e f g h i j k l m n o q : ℕ) (rest : List ℕ) where
  abbrev it : PlayRecord
  it = record p { words = sixteen a b c d e f g h i j k l m n o q }

  abbrev there : List ℕ
  there = play_bytes it ++ rest

  words_back : Each Short (sixteen a b c d e f g h i j k l m n o q) → sixteen_at 16 there ≡ sixteen a b c d e f g h i j k l m n o q
  unfolding number_at
  words_back s =
      let n0 = from_be_bytes-to_be_bytes_8 a s.0 in
      let n1 = from_be_bytes-to_be_bytes_8 b s.1.0 in
      let n2 = from_be_bytes-to_be_bytes_8 c s.1.1.0 in
      let n3 = from_be_bytes-to_be_bytes_8 d s.1.1.1.0 in
      let n4 = from_be_bytes-to_be_bytes_8 e s.1.1.1.1.0 in
      let n5 = from_be_bytes-to_be_bytes_8 f s.1.1.1.1.1.0 in
      let n6 = from_be_bytes-to_be_bytes_8 g s.1.1.1.1.1.1.0 in
      let n7 = from_be_bytes-to_be_bytes_8 h s.1.1.1.1.1.1.1.0 in
      let n8 = from_be_bytes-to_be_bytes_8 i s.1.1.1.1.1.1.1.1.0 in
      let n9 = from_be_bytes-to_be_bytes_8 j s.1.1.1.1.1.1.1.1.1.0 in
      let na = from_be_bytes-to_be_bytes_8 k s.1.1.1.1.1.1.1.1.1.1.0 in
      let nb = from_be_bytes-to_be_bytes_8 l s.1.1.1.1.1.1.1.1.1.1.1.0 in
      let nc = from_be_bytes-to_be_bytes_8 m s.1.1.1.1.1.1.1.1.1.1.1.1.0 in
      let nd = from_be_bytes-to_be_bytes_8 n s.1.1.1.1.1.1.1.1.1.1.1.1.1.0 in
      let ne = from_be_bytes-to_be_bytes_8 o s.1.1.1.1.1.1.1.1.1.1.1.1.1.1.0 in
      let nf = from_be_bytes-to_be_bytes_8 q s.1.1.1.1.1.1.1.1.1.1.1.1.1.1.1.0 in
      λ z. sixteen (n0 z) (n1 z) (n2 z) (n3 z) (n4 z) (n5 z) (n6 z) (n7 z) (n8 z) (n9 z) (na z) (nb z) (nc z) (nd z) (ne z) (nf z)

  fields_back : PlayWidths it → Short p.place → play_read 0 there ≡ it
  unfolding number_at short_at
  fields_back w short =
      let words = words_back w.words in
      let number = from_be_bytes-to_be_bytes_8 p.number w.number in
      let index = from_be_bytes-to_be_bytes_8 p.index w.index in
      let wager = from_be_bytes-to_be_bytes_4 p.wager w.wager in
      let win = from_be_bytes-to_be_bytes_8 p.win w.win in
      let before = from_be_bytes-to_be_bytes_8 p.before w.before in
      let after = from_be_bytes-to_be_bytes_8 p.after w.after in
      let place = from_be_bytes-to_be_bytes_8 p.place short in
      let game = game_back p.game in
      let choice = choice_back p.game p.choice w.choice in
      λ z. record {
        number = number z;
        index = index z;
        words = words z;
        game = game z;
        bet = p.bet;
        wager = wager z;
        choice = choice z;
        turns = p.turns;
        colours = p.colours;
        win = win z;
        before = before z;
        after = after z;
        place = place z;
      }

-- such a play is read from its bytes with others behind them, and from these alone, of which there are so many
record IsRead (p : PlayRecord) (rest : List ℕ) : Type 0 where
  pub before : play_read 0 (play_bytes p ++ rest) ≡ p
  pub alone : play_read 0 (play_bytes p) ≡ p
  pub long : length (play_bytes p) ≡ PLAY_LEN

of_words : (p : PlayRecord) (words rest : List ℕ) → PlayWidths (record p { words = words }) → Short p.place → IsRead (record p { words = words }) rest
of_words p (a ∷ b ∷ c ∷ d ∷ e ∷ f ∷ g ∷ h ∷ i ∷ j ∷ k ∷ l ∷ m ∷ n ∷ o ∷ q ∷ []) rest w short = record {
  before = fields_back p a b c d e f g h i j k l m n o q rest w short;
  alone = fields_back p a b c d e f g h i j k l m n o q [] w short;
  long = refl;
}
of_words p _ rest w short = absurd (omega (arith, w.sixteen))

is_read : (p : PlayRecord) (rest : List ℕ) → Placed (λ r. r.place) is_recorded_play p → IsRead p rest
is_read p rest ok = of_words p p.words rest (widths p ok.0) ok.1

pub play_before : (p : PlayRecord) (rest : List ℕ) → Placed (λ r. r.place) is_recorded_play p → play_read 0 (play_bytes p ++ rest) ≡ p
play_before p rest ok = (is_read p rest ok).before

pub play_back : (p : PlayRecord) → Placed (λ r. r.place) is_recorded_play p → play_read 0 (play_bytes p) ≡ p
play_back p ok = (is_read p [] ok).alone

pub play_long : (p : PlayRecord) → Placed (λ r. r.place) is_recorded_play p → length (play_bytes p) ≡ PLAY_LEN
play_long p ok = (is_read p [] ok).long
