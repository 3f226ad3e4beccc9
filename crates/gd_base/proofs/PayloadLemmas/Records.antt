-- The bytes of each record tell the record.
use Rattle.std.specs.Prelude.{◌≡◌, ℕ, ◌<◌, ◌^◌, ◌==◌, Bool, true, false, ◌&&◌, ◌||◌, nat_le, nat_lt, if◌then◌else◌, List, [], ◌∷◌, ◌++◌, length, flat_map, Option, Some, None, refl}
use Rattle.std.proofs.Common.{ap, sym, ◌∙◌, arith, append_assoc}
use Rattle.std.proofs.lemmas.Bool.Decides.{nat_tests}
use Rattle.gd_base.specs.declared.game.Game.{Game}
use Rattle.gd_base.specs.declared.refusal.Reply.{Reply}
use Rattle.gd_base.specs.declared.payout.Handpay.{Handpay}
use Rattle.gd_base.specs.declared.payout.Order.{Order}
use Rattle.gd_base.specs.declared.payout.OrderKind.{OrderKind}
use Rattle.gd_base.specs.declared.play.PlayRecord.{PlayRecord}
use Rattle.gd_base.specs.declared.records.VoucherRecord.{VoucherRecord}
use Rattle.gd_base.specs.Payloads.Bytes.{four, eight, choice_code, play_bytes, event_bytes, bill_bytes, voucher_bytes, reply_bytes, kept_bytes, handpay_bytes, kind_code}
use Rattle.gd_base.specs.Histories.Credit.{order_amount}
use Rattle.gd_base.specs.Histories.Numbers.{game_number, kind_number}
use Rattle.gd_base.specs.Payloads.ViewRules.{is_choice_value, is_bill_record, is_event, is_voucher, record_rules, is_play_record}
use Rattle.gd_base.proofs.PayloadLemmas.Fields.{Reads, Each, cons_reads, eight_reads, four_reads, reply_reads, list_reads, each_passed}
use Rattle.gd_base.proofs.BoolTests.{all_told, both, is_so}

-- ================ bills, vouchers, events

abbrev pub Placed : {A : Type 0} → (A → ℕ) → (A → Bool) → A → Type 0
Placed place test x = (test x ≡ true) × (place x < 2 ^ 64)

is_below : (n limit : ℕ) → nat_lt n limit ≡ true → n < limit
is_below n limit h = grind (arith, nat_tests, h)

pub bill_reads : Reads bill_bytes (Placed (λ b. b.place) is_bill_record)
bill_reads x y c d p q e =
    let a = eight_reads x.place y.place (four x.value ++ c) (four y.value ++ d) p.1 q.1 e in
    let b = four_reads x.value y.value c d (is_below x.value (2 ^ 32) p.0) (is_below y.value (2 ^ 32) q.0) a.1 in
    ((λ i. record { place = a.0 i; value = b.0 i }), b.1)

pub record VoucherWidths (r : VoucherRecord) : Type 0 where
  pub id : r.id < 2 ^ 64
  pub value : r.value < 2 ^ 32

voucher_widths : (r : VoucherRecord) → is_voucher r ≡ true → VoucherWidths r
voucher_widths r h =
    let t = both (((r.kind == 1) || (r.kind == 2)) && nat_lt r.id (2 ^ 64)) (nat_lt r.value (2 ^ 32)) h in
    let u = both ((r.kind == 1) || (r.kind == 2)) (nat_lt r.id (2 ^ 64)) t.0 in
    record { id = is_below r.id (2 ^ 64) u.1; value = is_below r.value (2 ^ 32) t.1 }

pub voucher_reads : Reads voucher_bytes (Placed (λ r. r.place) is_voucher)
voucher_reads x y c d p q e =
    let wx = voucher_widths x p.0 in
    let wy = voucher_widths y q.0 in
    let a = eight_reads x.place y.place (x.kind ∷ (eight x.id ++ (four x.value ++ c))) (y.kind ∷ (eight y.id ++ (four y.value ++ d))) p.1 q.1 e in
    let b = cons_reads x.kind y.kind (eight x.id ++ (four x.value ++ c)) (eight y.id ++ (four y.value ++ d)) a.1 in
    let f = eight_reads x.id y.id (four x.value ++ c) (four y.value ++ d) wx.id wy.id b.1 in
    let g = four_reads x.value y.value c d wx.value wy.value f.1 in
    ((λ i. record { place = a.0 i; kind = b.0 i; id = f.0 i; value = g.0 i }), g.1)

-- a detail is short, by its code
small : (n k : ℕ) → k < 2 ^ 64 → nat_le n k ≡ true → n < 2 ^ 64
small n k l h = grind (arith, nat_tests, l, h)

detail_by : (a b c : Bool) (code detail : ℕ)
    → (if a then detail == 0 else if b then nat_le 2 code && nat_le 1 detail && nat_le detail 4 else if c then nat_le 5 detail && nat_le detail 10 else nat_le code 8 && nat_lt detail (2 ^ 64)) ≡ true
    → detail < 2 ^ 64
detail_by true b c code detail h = grind (arith, nat_tests, h)
detail_by false true c code detail h = small detail 4 (omega arith) (both (nat_le 2 code && nat_le 1 detail) (nat_le detail 4) h).1
detail_by false false true code detail h = small detail 10 (omega arith) (both (nat_le 5 detail) (nat_le detail 10) h).1
detail_by false false false code detail h = is_below detail (2 ^ 64) (both (nat_le code 8) (nat_lt detail (2 ^ 64)) h).1

pub event_reads : Reads event_bytes (Placed (λ r. r.place) is_event)
event_reads x y c d p q e =
    let wx = detail_by (x.code == 1) (nat_lt x.code 4) (nat_lt x.code 6) x.code x.detail p.0 in
    let wy = detail_by (y.code == 1) (nat_lt y.code 4) (nat_lt y.code 6) y.code y.detail q.0 in
    let a = eight_reads x.place y.place (x.code ∷ (eight x.detail ++ c)) (y.code ∷ (eight y.detail ++ d)) p.1 q.1 e in
    let b = cons_reads x.code y.code (eight x.detail ++ c) (eight y.detail ++ d) a.1 in
    let f = eight_reads x.detail y.detail c d wx wy b.1 in
    ((λ i. record { place = a.0 i; code = b.0 i; detail = f.0 i }), f.1)

-- ================ plays

game_one : (g h : Game) → game_number g ≡ game_number h → g ≡ h
game_one Game.Reels Game.Reels e = refl
game_one Game.Reels Game.Poker e = absurd (omega (arith, e))
game_one Game.Poker Game.Reels e = absurd (omega (arith, e))
game_one Game.Poker Game.Poker e = refl

door_some : (door : ℕ) → nat_le 1 door && nat_le door 5 ≡ true → door ≡ 0 → ⊥
door_some door h e = grind (arith, nat_tests, h, e)

choice_one : (g : Game) (x y : Option ℕ) → is_choice_value g x ≡ true → is_choice_value g y ≡ true → choice_code g x ≡ choice_code g y → x ≡ y
choice_one g None None p q e = refl
choice_one Game.Reels None (Some door) p q e = absurd (door_some door q (sym e))
choice_one Game.Reels (Some door) None p q e = absurd (door_some door p e)
choice_one Game.Reels (Some m) (Some n) p q e = ap (λ (k : ℕ). let x : Option ℕ = Some k in x) e
choice_one Game.Poker None (Some mask) p q e = absurd (omega (arith, e))
choice_one Game.Poker (Some mask) None p q e = absurd (omega (arith, e))
choice_one Game.Poker (Some m) (Some n) p q e = let same : m ≡ n = omega (arith, e) in ap (λ (k : ℕ). let x : Option ℕ = Some k in x) same

-- with a game that is known to be the same
choice_same : (g h : Game) (x y : Option ℕ) → g ≡ h → is_choice_value g x ≡ true → is_choice_value h y ≡ true → choice_code g x ≡ choice_code h y → x ≡ y
choice_same g h x y same p q e =
    choice_one g x y p (ap (λ (k : Game). is_choice_value k y) same ∙ q) (e ∙ ap (λ (k : Game). choice_code k y) (sym same))

pub record PlayWidths (p : PlayRecord) : Type 0 where
  pub choice : is_choice_value p.game p.choice ≡ true
  pub number : p.number < 2 ^ 64
  pub index : p.index < 2 ^ 64
  pub sixteen : length p.words ≡ 16
  pub words : Each (λ w. w < 2 ^ 64) p.words
  pub wager : p.wager < 2 ^ 32
  pub win : p.win < 2 ^ 64
  pub before : p.before < 2 ^ 64
  pub after : p.after < 2 ^ 64

pub play_widths : (p : PlayRecord) → is_play_record p ≡ true → PlayWidths p
play_widths p h =
    let t = all_told (record_rules p) h in
    record {
      choice = t.1.0;
      number = is_below p.number (2 ^ 64) t.1.1.1.1.0;
      index = is_below p.index (2 ^ 64) t.1.1.1.1.1.0;
      sixteen = is_so (length p.words) 16 t.1.1.1.1.1.1.0;
      words = each_passed (λ w. nat_lt w (2 ^ 64)) (λ w. w < 2 ^ 64) (λ w k. is_below w (2 ^ 64) k) p.words t.1.1.1.1.1.1.1.0;
      wager = is_below p.wager (2 ^ 32) t.1.1.1.1.1.1.1.1.0;
      win = is_below p.win (2 ^ 64) t.1.1.1.1.1.1.1.1.1.0;
      before = is_below p.before (2 ^ 64) t.1.1.1.1.1.1.1.1.1.1.0;
      after = is_below p.after (2 ^ 64) t.1.1.1.1.1.1.1.1.1.1.1.0;
    }

-- the parts of a play in a row, with what stands behind it
seven : (w a b x y z u c : List ℕ) → w ++ a ++ b ++ x ++ y ++ z ++ u ++ c ≡ w ++ (a ++ (b ++ (x ++ (y ++ (z ++ (u ++ c))))))
seven w a b x y z u c = simp append_assoc

abbrev behind_words : PlayRecord → List ℕ → List ℕ
behind_words p c =
    game_number p.game ∷ p.bet ∷ (four p.wager ++ (choice_code p.game p.choice ∷ p.turns ∷ p.colours ∷ 0 ∷ (eight p.win ++ (eight p.before ++ (eight p.after ++ (eight p.place ++ c))))))

play_row : (p : PlayRecord) (c : List ℕ) → play_bytes p ++ c ≡ eight p.number ++ (eight p.index ++ (flat_map eight p.words ++ behind_words p c))
play_row p c =
    ap (λ (t : List ℕ). eight p.number ++ (eight p.index ++ t))
    (seven (flat_map eight p.words) (game_number p.game ∷ p.bet ∷ four p.wager) (choice_code p.game p.choice ∷ p.turns ∷ p.colours ∷ 0 ∷ []) (eight p.win) (eight p.before) (eight p.after) (eight p.place) c)

pub play_reads : Reads play_bytes (Placed (λ p. p.place) is_play_record)
play_reads x y c d p q e =
    let wx = play_widths x p.0 in
    let wy = play_widths y q.0 in
    let number = eight_reads x.number y.number (eight x.index ++ (flat_map eight x.words ++ behind_words x c)) (eight y.index ++ (flat_map eight y.words ++ behind_words y d)) wx.number wy.number
    (sym (play_row x c) ∙ e ∙ play_row y d) in
    let index = eight_reads x.index y.index (flat_map eight x.words ++ behind_words x c) (flat_map eight y.words ++ behind_words y d) wx.index wy.index number.1 in
    let words = list_reads eight (λ w. w < 2 ^ 64) eight_reads x.words y.words (behind_words x c) (behind_words y d) wx.words wy.words (wx.sixteen ∙ sym wy.sixteen) index.1 in
    let game = cons_reads (game_number x.game) (game_number y.game) _ _ words.1 in
    let same = game_one x.game y.game game.0 in
    let bet = cons_reads x.bet y.bet _ _ game.1 in
    let wager = four_reads x.wager y.wager _ _ wx.wager wy.wager bet.1 in
    let choice = cons_reads (choice_code x.game x.choice) (choice_code y.game y.choice) _ _ wager.1 in
    let turns = cons_reads x.turns y.turns _ _ choice.1 in
    let colours = cons_reads x.colours y.colours _ _ turns.1 in
    let none = cons_reads 0 0 _ _ colours.1 in
    let win = eight_reads x.win y.win _ _ wx.win wy.win none.1 in
    let before = eight_reads x.before y.before _ _ wx.before wy.before win.1 in
    let after = eight_reads x.after y.after _ _ wx.after wy.after before.1 in
    let place = eight_reads x.place y.place c d p.1 q.1 after.1 in
    let chosen = choice_same x.game y.game x.choice y.choice same wx.choice wy.choice choice.0 in (
      (λ i. record {
        number = number.0 i;
        index = index.0 i;
        words = words.0 i;
        game = same i;
        bet = bet.0 i;
        wager = wager.0 i;
        choice = chosen i;
        turns = turns.0 i;
        colours = colours.0 i;
        win = win.0 i;
        before = before.0 i;
        after = after.0 i;
        place = place.0 i;
      }),
      place.1,
    )

-- ================ what is kept of a device, an order, a handpay

pub kept_reads : Reads kept_bytes (λ k. k.0 < 2 ^ 64)
kept_reads x y c d p q e =
    let row : (k : ℕ × Option Reply) (t : List ℕ) → kept_bytes k ++ t ≡ eight k.0 ++ (reply_bytes k.1 ++ (0 ∷ t)) = λ k t. ap (λ (u : List ℕ). eight k.0 ++ u) (append_assoc (reply_bytes k.1) (0 ∷ []) t) in
    let number = eight_reads x.0 y.0 (reply_bytes x.1 ++ (0 ∷ c)) (reply_bytes y.1 ++ (0 ∷ d)) p q (sym (row x c) ∙ e ∙ row y d) in
    let reply = reply_reads x.1 y.1 (0 ∷ c) (0 ∷ d) tt tt number.1 in
    let end = cons_reads 0 0 c d reply.1 in
    ((λ i. (number.0 i, reply.0 i)), end.1)

abbrev pub IsAmount : Option Handpay → Type 0
IsAmount None = Unit {0}
IsAmount (Some h) = h.amount < 2 ^ 64

abbrev win_code : Bool → ℕ
win_code b = if b then 1 else 2

win_one : (b c : Bool) → win_code b ≡ win_code c → b ≡ c
win_one true true e = refl
win_one true false e = absurd (omega (arith, e))
win_one false true e = absurd (omega (arith, e))
win_one false false e = refl

none_win : (b : Bool) → win_code b ≡ 0 → ⊥
none_win true e = omega (arith, e)
none_win false e = omega (arith, e)

pub handpay_reads : Reads handpay_bytes IsAmount
handpay_reads None None c d p q e = let t = eight_reads 0 0 c d (omega arith) (omega arith) (cons_reads 0 0 _ _ (cons_reads 0 0 _ _ e).1).1 in (refl, t.1)
handpay_reads None (Some h) c d p q e = absurd (none_win h.win (sym (cons_reads 0 (win_code h.win) _ _ e).0))
handpay_reads (Some h) None c d p q e = absurd (none_win h.win (cons_reads (win_code h.win) 0 _ _ e).0)
handpay_reads (Some h) (Some k) c d p q e =
    let win = cons_reads (win_code h.win) (win_code k.win) _ _ e in
    let none = cons_reads 0 0 _ _ win.1 in
    let amount = eight_reads h.amount k.amount c d p q none.1 in
    let is_win = win_one h.win k.win win.0 in
    ((λ i. Some (record { win = is_win i; amount = amount.0 i })), amount.1)

kind_one : (k l : OrderKind) → kind_number k ≡ kind_number l → k ≡ l
kind_one OrderKind.Printer OrderKind.Printer e = refl
kind_one OrderKind.Printer OrderKind.Hopper e = absurd (omega (arith, e))
kind_one OrderKind.Hopper OrderKind.Printer e = absurd (omega (arith, e))
kind_one OrderKind.Hopper OrderKind.Hopper e = refl

none_kind : (k : OrderKind) → 0 ≡ kind_number k → ⊥
none_kind OrderKind.Printer e = omega (arith, e)
none_kind OrderKind.Hopper e = omega (arith, e)

abbrev pub IsNumbered : ℕ → Option Order → Type 0
IsNumbered n None = Unit {0}
IsNumbered n (Some o) = o.number ≡ n

pub order_one : (m n : ℕ) (x y : Option Order) → IsNumbered m x → IsNumbered n y → m ≡ n → kind_code x ≡ kind_code y → order_amount x ≡ order_amount y → x ≡ y
order_one m n None None p q same kind left = refl
order_one m n None (Some o) p q same kind left = absurd (none_kind o.kind kind)
order_one m n (Some o) None p q same kind left = absurd (none_kind o.kind (sym kind))
order_one m n (Some o) (Some r) p q same kind left =
    let number = p ∙ same ∙ sym q in
    let is_kind = kind_one o.kind r.kind kind in
    λ i. Some (record { number = number i; kind = is_kind i; amount = left i })
