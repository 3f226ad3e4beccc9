-- The machine tells views apart.
use Rattle.std.proofs.Common.{◌≡◌, ◌∙◌, ap, sym, subst, refl, ℕ, ◌++◌, List, [], ◌∷◌, Bool, true, false, cond, codes, decimal, length, replicate, ◌==◌, arith, Option, Some, None, append_assoc}
use Rattle.std.proofs.lemmas.List.{append_cancel_left}
use Rattle.std.specs.List.{find}
use Rattle.gd_base.specs.declared.condition.Condition.{Condition}
use Rattle.gd_base.specs.declared.setup.Setup.{Setup}
use Rattle.gd_base.specs.declared.step.What.{What}
use Rattle.gd_base.specs.Histories.Conditions.{conditions, flag_at, holds, lock}
use Rattle.gd_base.specs.Histories.View.{View}
use Rattle.gd_base.specs.Histories.ViewOf.{empty_view}
use Rattle.gd_base.specs.Laws.TellsViews.{TellsViews}
use Rattle.gd_base.specs.Payloads.Loading.{spelled}
use Rattle.gd_base.specs.Payloads.Spelled.{Shows}
use Rattle.gd_base.specs.Payloads.Spelling.{SpelledAs}
use Rattle.gd_base.specs.Payloads.ViewRules.{is_possible}
use Rattle.gd_base.specs.Texts.Names.{condition_name}
use Rattle.gd_base.specs.Texts.OfViews.{condition_text, order_text}
use Rattle.gd_base.proofs.PayloadLemmas.EmptyView.{bare, IsBare}
use Rattle.gd_base.proofs.PayloadLemmas.Same.{same-one}
use Rattle.gd_base.proofs.PayloadLemmas.Telling.{is_spelling}
use Rattle.gd_base.proofs.ViewFacts.{rules_of}
use Rattle.gd_games.specs.Digest.{digest_of}
use Rattle.gd_machine.specs.Meaning.{the_machine}

-- ================ what is spelled

shown : (setup : Setup) (digest payload : List ℕ) (v : View) → spelled setup digest payload ≡ Shows v → SpelledAs setup digest payload (Shows v)
shown setup digest payload v h = subst (SpelledAs setup digest payload) h (is_spelling setup digest payload)

-- ================ no condition stands

first_none : (b : Bool) (c : Condition) (x : Option Condition) → cond b (Some c) x ≡ None → (b ≡ false) × (x ≡ None)
first_none true c x h = absurd (cc h)
first_none false c x h = (refl, h)

abbrev AllFalse : (Condition → Bool) → List Condition → Type 0
AllFalse p [] = Unit {0}
AllFalse p (c ∷ cs) = (p c ≡ false) × AllFalse p cs

all_false : (p : Condition → Bool) (cs : List Condition) → find p cs ≡ None → AllFalse p cs
all_false p [] h = tt
all_false p (c ∷ cs) h =
    let both : (p c ≡ false) × (find p cs ≡ None) = first_none (p c) c (find p cs) h in
    (both.0, all_false p cs both.1)

-- a row of bytes that begins otherwise than an other
abbrev begins : List ℕ → Bool
begins [] = false
begins (x ∷ xs) = x == 110

unlike : (xs ys : List ℕ) → xs ≡ ys → begins xs ≡ false → begins ys ≡ true → ⊥
unlike xs ys same other is = cc (sym other ∙ ap begins same ∙ is)

-- no name of a condition begins as that of none does
named_none : (x : Option Condition) (rest : List ℕ) → condition_text x ++ rest ≡ codes "none" ++ rest → x ≡ None
named_none None rest h = refl
named_none (Some Condition.LogicDoor) rest h = absurd (unlike (condition_name Condition.LogicDoor ++ rest) (codes "none" ++ rest) h refl refl)
named_none (Some Condition.MainDoor) rest h = absurd (unlike (condition_name Condition.MainDoor ++ rest) (codes "none" ++ rest) h refl refl)
named_none (Some Condition.CashboxDoor) rest h = absurd (unlike (condition_name Condition.CashboxDoor ++ rest) (codes "none" ++ rest) h refl refl)
named_none (Some Condition.DropDoor) rest h = absurd (unlike (condition_name Condition.DropDoor ++ rest) (codes "none" ++ rest) h refl refl)
named_none (Some Condition.BillJam) rest h = absurd (unlike (condition_name Condition.BillJam ++ rest) (codes "none" ++ rest) h refl refl)
named_none (Some Condition.CoinJam) rest h = absurd (unlike (condition_name Condition.CoinJam ++ rest) (codes "none" ++ rest) h refl refl)
named_none (Some Condition.StackerFull) rest h = absurd (unlike (condition_name Condition.StackerFull ++ rest) (codes "none" ++ rest) h refl refl)
named_none (Some Condition.PaperOut) rest h = absurd (unlike (condition_name Condition.PaperOut ++ rest) (codes "none" ++ rest) h refl refl)
named_none (Some Condition.PrintFail) rest h = absurd (unlike (condition_name Condition.PrintFail ++ rest) (codes "none" ++ rest) h refl refl)
named_none (Some Condition.HopperEmpty) rest h = absurd (unlike (condition_name Condition.HopperEmpty ++ rest) (codes "none" ++ rest) h refl refl)
named_none (Some Condition.Handpay) rest h = absurd (unlike (condition_name Condition.Handpay ++ rest) (codes "none" ++ rest) h refl refl)

four_false : (flags : List Bool) → length flags ≡ 4 → flag_at flags 0 ≡ false → flag_at flags 1 ≡ false → flag_at flags 2 ≡ false → flag_at flags 3 ≡ false
    → flags ≡ replicate 4 false
four_false (a ∷ b ∷ c ∷ d ∷ []) len p q r s = λ x. p x ∷ q x ∷ r x ∷ s x ∷ []
four_false _ len p q r s = absurd (omega (arith, len))

six_false : (flags : List Bool) → length flags ≡ 6 → flag_at flags 0 ≡ false → flag_at flags 1 ≡ false → flag_at flags 2 ≡ false → flag_at flags 3 ≡ false
    → flag_at flags 4 ≡ false → flag_at flags 5 ≡ false → flags ≡ replicate 6 false
six_false (a ∷ b ∷ c ∷ d ∷ e ∷ f ∷ []) len p q r s t u = λ x. p x ∷ q x ∷ r x ∷ s x ∷ t x ∷ u x ∷ []
six_false _ len p q r s t u = absurd (omega (arith, len))

-- ================ the empty view

-- a bare view, but for its doors and tilts
abbrev with_flags : List ℕ → List Bool → List Bool → View
with_flags digest doors tilts = record (empty_view digest) { doors = doors; tilts = tilts }

bare_is : (digest : List ℕ) (v : View) → v.digest ≡ digest → v.count ≡ 0 → IsBare v → v ≡ with_flags digest v.doors v.tilts
bare_is digest v same none b = λ x. record v {
  digest = same x;
  count = none x;
  balance = b.balance x;
  totals = b.totals x;
  play = b.play x;
  orders = b.orders x;
  order = b.order x;
  handpay = b.handpay x;
  kept = b.kept x;
  plays = b.plays x;
  events = b.events x;
  bills = b.bills x;
  vouchers = b.vouchers x;
}

regroup : (a b c d x e f g h i j : List ℕ) → a ++ b ++ c ++ d ++ x ++ e ++ f ++ g ++ h ++ i ++ j ≡ (a ++ b ++ c ++ d) ++ (x ++ (e ++ f ++ g ++ h ++ i ++ j))
regroup a b c d x e f g h i j = simp append_assoc

-- by its text nothing locks it up
unlocked : (setup : Setup) (digest : List ℕ) (doors tilts : List Bool)
    → (the_machine setup).text What.State (with_flags digest doors tilts) ≡ (the_machine setup).text What.State (empty_view digest)
    → lock (with_flags digest doors tilts) ≡ None
unlocked setup digest doors tilts same =
    let w = with_flags digest doors tilts in
    let before = codes "credit " ++ decimal 0 ++ codes "\n" ++ codes "condition " in
    let rest = codes "\n" ++ order_text setup w ++ codes "handpay " ++ codes "none" ++ codes "\n" ++ codes "play none\n" in
    let split : List ℕ → Type 0 = λ x. codes "credit " ++ decimal 0 ++ codes "\n" ++ codes "condition " ++ x ++ codes "\n" ++ order_text setup w ++ codes "handpay " ++ codes "none" ++ codes "\n" ++ codes "play none\n" ≡ before ++ (x ++ rest) in
    let at : (x : List ℕ) → split x = λ x. regroup (codes "credit ") (decimal 0) (codes "\n") (codes "condition ") x (codes "\n") (order_text setup w) (codes "handpay ") (codes "none") (codes "\n") (codes "play none\n") in
    named_none (lock w) rest (append_cancel_left before (condition_text (lock w) ++ rest) (codes "none" ++ rest) (sym (at (condition_text (lock w))) ∙ same ∙ at (codes "none")))

empty_is : (setup : Setup) (digest : List ℕ) (v : View) → is_possible v ≡ true → v.digest ≡ digest → v.count ≡ 0
    → (the_machine setup).text What.State v ≡ (the_machine setup).text What.State (empty_view digest) → v ≡ empty_view digest
empty_is setup digest v possible same none told =
    let r = rules_of v possible in
    let b = bare v possible none in
    let is = bare_is digest v same none b in
    let free = unlocked setup digest v.doors v.tilts (sym (ap (λ (w : View). (the_machine setup).text What.State w) is) ∙ told) in
    let f = all_false (holds (with_flags digest v.doors v.tilts)) conditions free in
    let doors = four_false v.doors r.doors f.0 f.1.0 f.1.1.0 f.1.1.1.0 in
    let tilts = six_false v.tilts r.tilts f.1.1.1.1.0 f.1.1.1.1.1.0 f.1.1.1.1.1.1.0 f.1.1.1.1.1.1.1.0 f.1.1.1.1.1.1.1.1.0 f.1.1.1.1.1.1.1.1.1.0 in
    is ∙ (λ x. with_flags digest (doors x) (tilts x))

pub machine_tells : (setup : Setup) → TellsViews (the_machine setup)
machine_tells setup = record {
  same_is = λ v w p q e.
      same-one setup (digest_of setup) (spelled setup (digest_of setup)) v w (shown setup (digest_of setup) p.0 v p.1).0.0 (shown setup (digest_of setup) q.0 w q.1).0.0 e;
  empty_is = λ v p none told.
      let s = shown setup (digest_of setup) p.0 v p.1 in
      empty_is setup (digest_of setup) v s.0.0 s.1 none told;
}
