-- The item that the words of a line say.
use Rattle.std.proofs.Common.{◌≡◌, ℕ, ◌≤◌, Bool, true, false, if◌then◌else◌, List, [], ◌∷◌, codes, decimal, option_and_then, option_map, Option, None, Some, refl, sym, ap, subst, ◌∙◌, arith}
use Rattle.std.proofs.lemmas.Slice.Eq.{bytes_eq-Decides}
use Rattle.std.specs.Str.{bytes_eq}
use Rattle.gd_base.specs.declared.game.Colour.{Colour}
use Rattle.gd_base.specs.declared.event.Event.{Event}
use Rattle.gd_base.specs.declared.step.What.{What}
use Rattle.gd_base.specs.Texts.Names.{device_name}
use Rattle.gd_disk.specs.declared.disk.CutUnit.{CutUnit}
use Rattle.gd_script.specs.declared.item.Item.{Item}
use Rattle.gd_script.specs.declared.item.OrderWord.{OrderWord}
use Rattle.gd_disk.specs.declared.side.Side.{Side}
use Rattle.gd_script.specs.declared.keyword.Keyword.{Keyword}
use Rattle.gd_disk.specs.declared.limits.TheConstants.{MOST_TORN}
use Rattle.gd_script.specs.declared.limits.TheConstants.{LAST_PLACE, MOST_CUT, MOST_MASK, MOST_NUMBER}
use Rattle.gd_script.specs.declared.tables.TheConstants.{DEVICES, SHOWN, SIDES, UNITS}
use Rattle.gd_script.specs.Grammar.{event_words, InGrammar, IsLineEvent, IsOrderNumber, item_words, NamesNoOrder, order_number, show_words}
use Rattle.gd_script.specs.Names.{order_name, side_name, unit_name, what_name}
use Rattle.gd_script.specs.Reading.{alter_item, alter_of, bare_event, bare_item, option_map_both, cut_item, cut_of, event_of, event_with, item_by, item_of_words, item_with, keyword_name, keyword_of, value_named, number_in, number_of, numbered_item, only_word, order_of, word_pair}
use Rattle.gd_script.proofs.EventLines.{bare_event_said, event_read, event_said, LeavesOrders, with_said}
use Rattle.gd_script.proofs.NameTables.{device_found, keyword_says, named_holds, named_says, no_power}
use Rattle.gd_script.proofs.Numbers.{not_decimal, number_in_decimal}
use Rattle.gd_script.proofs.OneField.{combine, combined, mapped, number_read, number_says, one_field}

-- the words of an item's line, which is no comment
abbrev pub SaysItem : List (List ℕ) → Item → Type 0
SaysItem words Item.Skip = ⊥
SaysItem words item = (words ≡ item_words item) × InGrammar item

-- ================ orders

-- the text of an order's number, and its range
IsOrder : List ℕ → Option ℕ → Type 0
IsOrder word order = (word ≡ order_number order) × IsOrderNumber order

order_tested : (word : List ℕ) (b : Bool) (order : Option ℕ) → (b ≡ true → word ≡ codes "open") → (if b then Some None else option_map Some (number_of word)) ≡ Some order → IsOrder word order
unfolding IsOrder
order_tested word true order f h = let i : None ≡ order = cc in subst (λ (o : Option ℕ). (word ≡ order_number o) × IsOrderNumber o) i (f refl, tt)
order_tested word false order f h =
    let m = mapped Some (number_of word) order h in let s = number_says 0 MOST_NUMBER word m.0 m.1 in subst (λ (o : Option ℕ). (word ≡ order_number o) × IsOrderNumber o) m.2 (s.0, s.2)

order_says : (word : List ℕ) (order : Option ℕ) → order_of word ≡ Some order → (word ≡ order_number order) × IsOrderNumber order
unfolding order_of IsOrder
order_says word order h = order_tested word (bytes_eq word (codes "open")) order (bytes_eq-Decides word (codes "open")).0 h

-- a number is not the word `open`
no_open : (n : ℕ) → n ≤ MOST_NUMBER → bytes_eq (decimal n) (codes "open") ≡ false
no_open n h = not_decimal n (codes "open") (omega arith) refl

order_read : (order : Option ℕ) → IsOrderNumber order → order_of (order_number order) ≡ Some order
unfolding order_of
order_read None h = refl
order_read (Some n) h = ap (λ (b : Bool). if b then Some None else option_map Some (number_of (decimal n))) (no_open n h) ∙ ap (option_map Some) (number_read n h)

-- ================ from words

second : (first : List ℕ) {word text : List ℕ} → word ≡ text → first ∷ word ∷ [] ≡ first ∷ text ∷ []
second first {word} {text} e = ap (λ (w : List ℕ). first ∷ w ∷ []) e

bare : (keyword : Keyword) (i j : Item) → SaysItem (keyword_name keyword ∷ []) i → Some i ≡ Some j → SaysItem (keyword_name keyword ∷ []) j
bare keyword i j s h = let e : i ≡ j = cc in subst (SaysItem (keyword_name keyword ∷ [])) e s

event_item : (keyword : Keyword) (fields : List (List ℕ)) (item : Item) → ((e : Event) → LeavesOrders keyword e → NamesNoOrder e) → option_map Item.Event (event_with keyword fields) ≡ Some item
    → SaysItem (keyword_name keyword ∷ fields) item
event_item keyword fields item f h =
    let m = mapped Item.Event (event_with keyword fields) item h in
    let s = with_said keyword fields m.0 m.1 in
    subst (SaysItem (keyword_name keyword ∷ fields)) m.2 (s.0, (s.1, f m.0 s.2))

bare_said : (keyword : Keyword) (item : Item) → bare_item keyword ≡ Some item → SaysItem (keyword_name keyword ∷ []) item
unfolding bare_item bare_event
bare_said Keyword.Off item h = bare Keyword.Off Item.Off item (refl, tt) h
bare_said Keyword.On item h = bare Keyword.On Item.On item (refl, tt) h
bare_said Keyword.Clear item h = bare Keyword.Clear Item.Clear item (refl, tt) h
bare_said Keyword.Order item h = bare Keyword.Order (Item.Show What.Order) item (refl, tt) h
bare_said Keyword.Printed item h = absurd (cc)
bare_said Keyword.PrintFail item h = absurd (cc)
bare_said Keyword.CoinPaid item h = absurd (cc)
bare_said Keyword.HopperEmpty item h = absurd (cc)
bare_said keyword item h =
    let m = mapped Item.Event (bare_event keyword) item h in let s = bare_event_said keyword m.0 m.1 in subst (SaysItem (keyword_name keyword ∷ [])) m.2 (s.0, (s.1, s.2))

order_item : (kind : OrderWord) (fields : List (List ℕ)) (item : Item) → option_map (Item.OrderEvent kind) (option_and_then order_of (only_word fields)) ≡ Some item → SaysItem (order_name kind ∷ fields) item
order_item kind fields item h =
    one_field SaysItem order_of (Item.OrderEvent kind) (order_name kind) fields item (λ w o r. let s = order_says w o r in (second (order_name kind) s.0, s.1)) h

numbered_said : (fields : List (List ℕ)) (item : Item) → numbered_item fields ≡ Some item → SaysItem (codes "as" ∷ fields) item
numbered_said [] item h = absurd (cc)
numbered_said (number ∷ event) item h =
    let c = combined Item.As (number_of number) (event_of event) item h in
    let n = number_says 0 MOST_NUMBER number c.0 c.2 in
    let s = event_said event c.1 c.3 in
    let same : codes "as" ∷ number ∷ event ≡ codes "as" ∷ decimal c.0 ∷ event_words c.1 = cc (n.0, s.0) in
    subst (SaysItem (codes "as" ∷ number ∷ event)) c.4 (same, (n.2, s.1))

cut_said : (o : Option CutUnit) (unit : List ℕ) (fields : List (List ℕ)) (item : Item) → ((u : CutUnit) → o ≡ Some u → unit ≡ unit_name u) → cut_of o (word_pair fields) ≡ Some item
    → SaysItem (codes "cut" ∷ unit ∷ fields) item
cut_said (Some u) unit (a ∷ b ∷ []) item f h =
    let c = combined (Item.Cut u) (number_in 1 MOST_CUT a) (number_in 0 MOST_TORN b) item h in
    let count = number_says 1 MOST_CUT a c.0 c.2 in let torn = number_says 0 MOST_TORN b c.1 c.3 in let name = f u refl in
    let same : codes "cut" ∷ unit ∷ a ∷ b ∷ [] ≡ codes "cut" ∷ unit_name u ∷ decimal c.0 ∷ decimal c.1 ∷ [] = cc (count.0, torn.0) in
    subst (SaysItem (codes "cut" ∷ unit ∷ a ∷ b ∷ [])) c.4 (same, (count.1, count.2, torn.2))
cut_said (Some u) unit _ item f h = absurd (cc)
cut_said None unit _ item f h = absurd (cc)

alter_said : (o : Option Side) (side : List ℕ) (fields : List (List ℕ)) (item : Item) → ((s : Side) → o ≡ Some s → side ≡ side_name s) → alter_of o (word_pair fields) ≡ Some item
    → SaysItem (codes "alter" ∷ side ∷ fields) item
alter_said (Some s) side (a ∷ b ∷ []) item f h =
    let c = combined (Item.Alter s) (number_in 0 LAST_PLACE a) (number_in 0 MOST_MASK b) item h in
    let at = number_says 0 LAST_PLACE a c.0 c.2 in let mask = number_says 0 MOST_MASK b c.1 c.3 in let name = f s refl in
    let same : codes "alter" ∷ side ∷ a ∷ b ∷ [] ≡ codes "alter" ∷ side_name s ∷ decimal c.0 ∷ decimal c.1 ∷ [] = cc (at.0, mask.0) in
    subst (SaysItem (codes "alter" ∷ side ∷ a ∷ b ∷ [])) c.4 (same, (at.2, mask.2))
alter_said (Some s) side _ item f h = absurd (cc)
alter_said None side _ item f h = absurd (cc)

cut_words_said : (fields : List (List ℕ)) (item : Item) → cut_item fields ≡ Some item → SaysItem (codes "cut" ∷ fields) item
cut_words_said [] item h = absurd (cc)
cut_words_said (unit ∷ fields) item h = cut_said (value_named unit_name UNITS unit) unit fields item (named_says unit_name UNITS unit) h

alter_words_said : (fields : List (List ℕ)) (item : Item) → alter_item fields ≡ Some item → SaysItem (codes "alter" ∷ fields) item
alter_words_said [] item h = absurd (cc)
alter_words_said (side ∷ fields) item h = alter_said (value_named side_name SIDES side) side fields item (named_says side_name SIDES side) h

-- what `show` shows is no line of its own
shown_says : (word : List ℕ) (what : What) → value_named what_name SHOWN word ≡ Some what → codes "show" ∷ word ∷ [] ≡ show_words what
shown_says word what h =
    second (codes "show") (named_says what_name SHOWN word what h)
    ∙ named_holds (λ w. codes "show" ∷ what_name w ∷ [] ≡ show_words w) what_name SHOWN word what (refl, (refl, (refl, (refl, tt)))) h

pub with_item : (keyword : Keyword) (fields : List (List ℕ)) (item : Item) → item_with keyword fields ≡ Some item → SaysItem (keyword_name keyword ∷ fields) item
unfolding item_with
with_item Keyword.Printed fields item h = order_item OrderWord.Printed fields item h
with_item Keyword.PrintFail fields item h = order_item OrderWord.PrintFail fields item h
with_item Keyword.CoinPaid fields item h = order_item OrderWord.CoinPaid fields item h
with_item Keyword.HopperEmpty fields item h = order_item OrderWord.HopperEmpty fields item h
with_item Keyword.Again fields item h =
    one_field SaysItem (value_named device_name DEVICES) Item.Again (codes "again") fields item (λ w d r. (second (codes "again") (named_says device_name DEVICES w d r), no_power w d r)) h
with_item Keyword.As fields item h = numbered_said fields item h
with_item Keyword.Cut fields item h = cut_words_said fields item h
with_item Keyword.Alter fields item h = alter_words_said fields item h
with_item Keyword.Show fields item h = one_field SaysItem (value_named what_name SHOWN) Item.Show (codes "show") fields item (λ w s r. (shown_says w s r, tt)) h
with_item keyword fields item h = event_item keyword fields item (λ e n. n) h

by_said : (o : Option Keyword) (first : List ℕ) (fields : List (List ℕ)) (item : Item) → ((k : Keyword) → o ≡ Some k → first ≡ keyword_name k) → item_by o fields ≡ Some item → SaysItem (first ∷ fields) item
by_said None first fields item f h = absurd (cc)
by_said (Some k) first [] item f h = subst (λ (w : List ℕ). SaysItem (w ∷ []) item) (sym (f k refl)) (bare_said k item h)
by_said (Some k) first (field ∷ fields) item f h = subst (λ (w : List ℕ). SaysItem (w ∷ field ∷ fields) item) (sym (f k refl)) (with_item k (field ∷ fields) item h)

pub item_said : (words : List (List ℕ)) (item : Item) → item_of_words words ≡ Some item → SaysItem words item
unfolding item_of_words
item_said [] item h = absurd (cc)
item_said (first ∷ fields) item h = by_said (keyword_of first) first fields item (keyword_says first) h

-- ================ to words

event_line_read : (e : Event) → IsLineEvent e → NamesNoOrder e → item_of_words (event_words e) ≡ Some (Item.Event e)
unfolding item_of_words item_with bare_item event_of bare_event event_with keyword_of value_named
event_line_read Event.Start h n = absurd h
event_line_read (Event.Printed order) h n = absurd n
event_line_read (Event.PrintFail order) h n = absurd n
event_line_read (Event.CoinPaid order) h n = absurd n
event_line_read (Event.HopperEmpty order) h n = absurd n
event_line_read (Event.Gamble Colour.Red) h n = refl
event_line_read (Event.Gamble Colour.Black) h n = refl
event_line_read e h n = ap (option_map Item.Event) (event_read e h)

order_line_read : (kind : OrderWord) (order : Option ℕ) → IsOrderNumber order → item_of_words (order_name kind ∷ order_number order ∷ []) ≡ Some (Item.OrderEvent kind order)
unfolding item_of_words item_with keyword_of value_named
order_line_read OrderWord.Printed order h = ap (option_map (Item.OrderEvent OrderWord.Printed)) (order_read order h)
order_line_read OrderWord.PrintFail order h = ap (option_map (Item.OrderEvent OrderWord.PrintFail)) (order_read order h)
order_line_read OrderWord.CoinPaid order h = ap (option_map (Item.OrderEvent OrderWord.CoinPaid)) (order_read order h)
order_line_read OrderWord.HopperEmpty order h = ap (option_map (Item.OrderEvent OrderWord.HopperEmpty)) (order_read order h)

show_line_read : (what : What) → item_of_words (show_words what) ≡ Some (Item.Show what)
unfolding item_of_words item_with bare_item keyword_of value_named
show_line_read What.Order = refl
show_line_read _ = refl

cut_read : (unit : CutUnit) (count torn : ℕ) → (1 ≤ count) × (count ≤ MOST_CUT) × (torn ≤ MOST_TORN) → option_map_both (Item.Cut unit) (number_in 1 MOST_CUT (decimal count)) (number_in 0 MOST_TORN (decimal torn)) ≡ Some (Item.Cut unit count torn)
cut_read unit count torn h =
    combine (Item.Cut unit) _ _ count torn (number_in_decimal 1 MOST_CUT count (omega arith) h.0 h.1) (number_in_decimal 0 MOST_TORN torn (omega arith) (omega arith) h.2)

alter_read : (side : Side) (at mask : ℕ) → (at ≤ LAST_PLACE) × (mask ≤ MOST_MASK) → option_map_both (Item.Alter side) (number_in 0 LAST_PLACE (decimal at)) (number_in 0 MOST_MASK (decimal mask)) ≡ Some (Item.Alter side at mask)
alter_read side at mask h =
    combine (Item.Alter side) _ _ at mask (number_in_decimal 0 LAST_PLACE at (omega arith) (omega arith) h.0) (number_in_decimal 0 MOST_MASK mask (omega arith) (omega arith) h.1)

pub item_read : (item : Item) → SaysItem (item_words item) item → item_of_words (item_words item) ≡ Some item
unfolding item_of_words item_with bare_item keyword_of value_named
item_read (Item.Event e) h = event_line_read e h.1.0 h.1.1
item_read (Item.OrderEvent kind order) h = order_line_read kind order h.1
item_read (Item.Again device) h = ap (option_map Item.Again) (device_found device h.1)
item_read (Item.As number e) h = combine Item.As (number_of (decimal number)) (event_of (event_words e)) number e (number_read number h.1.0) (event_read e h.1.1)
item_read (Item.Cut CutUnit.Call count torn) h = cut_read CutUnit.Call count torn h.1
item_read (Item.Cut CutUnit.Sync count torn) h = cut_read CutUnit.Sync count torn h.1
item_read (Item.Alter Side.A at mask) h = alter_read Side.A at mask h.1
item_read (Item.Alter Side.B at mask) h = alter_read Side.B at mask h.1
item_read (Item.Show what) h = show_line_read what
item_read Item.Skip h = absurd h
item_read _ h = refl
