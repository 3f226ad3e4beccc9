-- A machine that takes bills of 500 alone, to try the definition of a run on.
use Rattle.std.specs.Prelude.{◌≡◌, refl, ℕ, ◌+◌, ◌==◌, ◌&&◌, true, false, if◌then◌else◌, ◌++◌, codes, decimal, replicate}
use Rattle.gd_base.specs.declared.device.Device.{Device}
use Rattle.gd_base.specs.declared.event.Event.{Event}
use Rattle.gd_base.specs.declared.refusal.Refusal.{Refusal}
use Rattle.gd_base.specs.declared.refusal.Reply.{Reply}
use Rattle.gd_base.specs.Judging.Machine.{Machine, Blocks}
use Rattle.gd_base.specs.Payloads.Spelled.{Unreadable}
use Rattle.gd_base.specs.Judging.Product.{number_itself, both_hold}

pub record View : Type 0 where
  pub count : ℕ
  pub credit : ℕ
  pub bills : ℕ  -- last number of the bill validator
  pub starts : ℕ
  pub kept : Reply  -- the reply to the last bill

-- what a bill adds to the credit, by its reply
abbrev pub credited : Reply → ℕ → ℕ
credited Reply.Taken x = x
credited (Reply.Refused why) x = 0

-- the view after an event: a bill, or else a start
abbrev pub after : Reply → Event → View → View
after reply (Event.Bill x) v = record v { credit = v.credit + credited reply x; bills = v.bills + 1; count = v.count + 1; kept = reply }
after reply _ v = record v { starts = v.starts + 1; count = v.count + 1 }

-- the reply to an event
abbrev pub rule : View → Event → Reply
rule v (Event.Bill x) = if x == 500 then Reply.Taken else Reply.Refused Refusal.ValueNotEnabled
rule v _ = Reply.Taken

-- the last number of a device
abbrev pub last : View → Device → ℕ
last v Device.Bill = v.bills
last v Device.Power = v.starts
last v _ = 0

pub count_after : (reply : Reply) (event : Event) (v : View) → (after reply event v).count ≡ v.count + 1
count_after reply (Event.Bill x) v = refl
count_after reply _ v = refl

pub itself : (v : View) → ((v.count == v.count) && (v.credit == v.credit) && (v.bills == v.bills) && (v.starts == v.starts)) ≡ true
itself v =
    both_hold ((v.count == v.count) && (v.credit == v.credit) && (v.bills == v.bills)) (v.starts == v.starts)
    (both_hold ((v.count == v.count) && (v.credit == v.credit)) (v.bills == v.bills)
    (both_hold (v.count == v.count) (v.credit == v.credit) (number_itself v.count) (number_itself v.credit)) (number_itself v.bills)) (number_itself v.starts)

-- the machine
abbrev pub toy : Machine View
toy = record {
  digest = replicate 32 0;
  empty = record { count = 0; credit = 0; bills = 0; starts = 0; kept = Reply.Taken };
  effect = λ v e. after e.reply e.event v;
  same = λ v w. (v.count == w.count) && (v.credit == w.credit) && (v.bills == w.bills) && (v.starts == w.starts);
  count = λ v. v.count;
  last = last;
  kept = λ v d. v.kept;
  rule = rule;
  is_drawn = λ v e. false;
  index = λ v. v.starts;
  open_order = λ v. 0;
  text = λ w v. codes "BillIn " ++ decimal v.credit ++ codes "\n";
  credit = λ v. v.credit;
  spelled = λ payload. Unreadable;
  count_empty = refl;
  count_effect = λ v e. count_after e.reply e.event v;
  same_itself = itself;
}

-- it draws nothing
abbrev pub zeros : Blocks
zeros l i = replicate 16 0
