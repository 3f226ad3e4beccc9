-- A view is data: a code by which a proof tells two views apart.
use Rattle.std.specs.Prelude.{◌≡◌, refl, ℕ, if◌then◌else◌, Bool, true, false, List, Option, Some, None}
use Rattle.std.specs.Coded.{Coded, code_by, coded×, coded_bool, coded_list, coded_option, coded_ℕ}
use Rattle.gd_base.specs.declared.condition.Condition.{Condition}
use Rattle.gd_base.specs.declared.game.Game.{Game}
use Rattle.gd_base.specs.declared.refusal.Refusal.{Refusal}
use Rattle.gd_base.specs.declared.refusal.Reply.{Reply}
use Rattle.gd_base.specs.declared.records.BillRecord.{BillRecord}
use Rattle.gd_base.specs.declared.records.EventRecord.{EventRecord}
use Rattle.gd_base.specs.declared.payout.Handpay.{Handpay}
use Rattle.gd_base.specs.declared.payout.Order.{Order}
use Rattle.gd_base.specs.declared.payout.OrderKind.{OrderKind}
use Rattle.gd_base.specs.declared.play.PlayRecord.{PlayRecord}
use Rattle.gd_base.specs.declared.records.VoucherRecord.{VoucherRecord}
use Rattle.gd_base.specs.Payloads.Bytes.{reply_kind, reply_refusal, reply_condition}
use Rattle.gd_base.specs.Payloads.Reading.{reply_of}
use Rattle.gd_base.specs.Histories.View.{View}

-- the three numbers of a reply are those of that reply
pub reply_back : (r : Option Reply) → reply_of (reply_kind r) (reply_refusal r) (reply_condition r) ≡ r
unfolding reply_of
reply_back None = refl
reply_back (Some Reply.Taken) = refl
reply_back (Some (Reply.Refused (Refusal.LockedUp Condition.LogicDoor))) = refl
reply_back (Some (Reply.Refused (Refusal.LockedUp _))) = refl
reply_back (Some (Reply.Refused _)) = refl

abbrev pub coded_reply : Coded (Option Reply)
coded_reply =
    code_by (ℕ × (ℕ × ℕ)) (coded× coded_ℕ (coded× coded_ℕ coded_ℕ)) (λ r. (reply_kind r, (reply_refusal r, reply_condition r)))
    (λ p. reply_of p.0 p.1.0 p.1.1) reply_back

abbrev is_reels : Game → Bool
is_reels Game.Reels = true
is_reels Game.Poker = false

pub game_back : (g : Game) → (if is_reels g then Game.Reels else Game.Poker) ≡ g
game_back Game.Reels = refl
game_back Game.Poker = refl

abbrev pub coded_game : Coded Game
coded_game = code_by Bool coded_bool is_reels (λ b. if b then Game.Reels else Game.Poker) game_back

abbrev is_printed : OrderKind → Bool
is_printed OrderKind.Printer = true
is_printed OrderKind.Hopper = false

pub kind_back : (k : OrderKind) → (if is_printed k then OrderKind.Printer else OrderKind.Hopper) ≡ k
kind_back OrderKind.Printer = refl
kind_back OrderKind.Hopper = refl

abbrev pub coded_kind : Coded OrderKind
coded_kind = code_by Bool coded_bool is_printed (λ b. if b then OrderKind.Printer else OrderKind.Hopper) kind_back

abbrev pub coded_order : Coded Order
coded_order =
    code_by (ℕ × (OrderKind × ℕ)) (coded× coded_ℕ (coded× coded_kind coded_ℕ)) (λ o. (o.number, (o.kind, o.amount)))
    (λ p. record { number = p.0; kind = p.1.0; amount = p.1.1 }) (λ _. refl)

abbrev pub coded_handpay : Coded Handpay
coded_handpay = code_by (Bool × ℕ) (coded× coded_bool coded_ℕ) (λ h. (h.win, h.amount)) (λ p. record { win = p.0; amount = p.1 }) (λ _. refl)

abbrev PlayParts : Type 0
PlayParts = List ℕ × (Game × (Option ℕ × (ℕ × (ℕ × (ℕ × (ℕ × (ℕ × (ℕ × (ℕ × (ℕ × (ℕ × ℕ)))))))))))

abbrev pub coded_play : Coded PlayRecord
coded_play =
    code_by PlayParts
    (coded× (coded_list coded_ℕ) (coded× coded_game (coded× (coded_option coded_ℕ) (coded× coded_ℕ (coded× coded_ℕ (coded× coded_ℕ
    (coded× coded_ℕ (coded× coded_ℕ (coded× coded_ℕ (coded× coded_ℕ (coded× coded_ℕ (coded× coded_ℕ coded_ℕ))))))))))))
    (λ p. (p.words, (p.game, (p.choice, (p.number, (p.index, (p.bet, (p.wager, (p.turns, (p.colours, (p.win, (p.before, (p.after, p.place)))))))))))))
    (λ p. record {
      words = p.0;
      game = p.1.0;
      choice = p.1.1.0;
      number = p.1.1.1.0;
      index = p.1.1.1.1.0;
      bet = p.1.1.1.1.1.0;
      wager = p.1.1.1.1.1.1.0;
      turns = p.1.1.1.1.1.1.1.0;
      colours = p.1.1.1.1.1.1.1.1.0;
      win = p.1.1.1.1.1.1.1.1.1.0;
      before = p.1.1.1.1.1.1.1.1.1.1.0;
      after = p.1.1.1.1.1.1.1.1.1.1.1.0;
      place = p.1.1.1.1.1.1.1.1.1.1.1.1;
    })
    (λ _. refl)

abbrev pub coded_event : Coded EventRecord
coded_event =
    code_by (ℕ × (ℕ × ℕ)) (coded× coded_ℕ (coded× coded_ℕ coded_ℕ)) (λ e. (e.place, (e.code, e.detail)))
    (λ p. record { place = p.0; code = p.1.0; detail = p.1.1 }) (λ _. refl)

abbrev pub coded_bill : Coded BillRecord
coded_bill = code_by (ℕ × ℕ) (coded× coded_ℕ coded_ℕ) (λ b. (b.place, b.value)) (λ p. record { place = p.0; value = p.1 }) (λ _. refl)

abbrev pub coded_voucher : Coded VoucherRecord
coded_voucher =
    code_by (ℕ × (ℕ × (ℕ × ℕ))) (coded× coded_ℕ (coded× coded_ℕ (coded× coded_ℕ coded_ℕ))) (λ v. (v.place, (v.kind, (v.id, v.value))))
    (λ p. record { place = p.0; kind = p.1.0; id = p.1.1.0; value = p.1.1.1 }) (λ _. refl)

-- the money, the flags, what is open, and the lists
abbrev ViewParts : Type 0
ViewParts =
    (List ℕ × (ℕ × (ℕ × List ℕ))) × ((List Bool × List Bool) × ((Option PlayRecord × (ℕ × (Option Order × Option Handpay)))
    × (List (ℕ × Option Reply) × (List PlayRecord × (List EventRecord × (List BillRecord × List VoucherRecord))))))

abbrev pub coded_view : Coded View
coded_view =
    code_by ViewParts
    (coded× (coded× (coded_list coded_ℕ) (coded× coded_ℕ (coded× coded_ℕ (coded_list coded_ℕ))))
    (coded× (coded× (coded_list coded_bool) (coded_list coded_bool))
    (coded× (coded× (coded_option coded_play) (coded× coded_ℕ (coded× (coded_option coded_order) (coded_option coded_handpay))))
    (coded× (coded_list (coded× coded_ℕ coded_reply))
    (coded× (coded_list coded_play) (coded× (coded_list coded_event) (coded× (coded_list coded_bill) (coded_list coded_voucher))))))))
    (λ v. (
      (v.digest, (v.count, (v.balance, v.totals))),
      (
        (v.doors, v.tilts),
        (
          (v.play, (v.orders, (v.order, v.handpay))),
          (v.kept, (v.plays, (v.events, (v.bills, v.vouchers)))),
        ),
      ),
    ))
    (λ p. record {
      digest = p.0.0;
      count = p.0.1.0;
      balance = p.0.1.1.0;
      totals = p.0.1.1.1;
      doors = p.1.0.0;
      tilts = p.1.0.1;
      play = p.1.1.0.0;
      orders = p.1.1.0.1.0;
      order = p.1.1.0.1.1.0;
      handpay = p.1.1.0.1.1.1;
      kept = p.1.1.1.0;
      plays = p.1.1.1.1.0;
      events = p.1.1.1.1.1.0;
      bills = p.1.1.1.1.1.1.0;
      vouchers = p.1.1.1.1.1.1.1;
    })
    (λ _. refl)
