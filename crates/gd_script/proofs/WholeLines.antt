-- The grammar: a line is read as an item exactly where it says that item.
use Rattle.std.proofs.Common.{◌≡◌, ◌≢◌, ◌↔◌, ℕ, ◌<◌, ◌≤◌, ◌==◌, nat_le, Bool, true, false, if◌then◌else◌, List, [], ◌∷◌, All, get_or, length, Option, None, Some, IfOk, Ok, Err, Result, ok_or, refl, sym, ap, subst, ◌∙◌, arith}
use Rattle.std.proofs.lemmas.Bool.Decides.{nat_tests}
use Rattle.std.proofs.lemmas.List.Elements.{All-cons, All-from_get_or, All-get_or}
use Rattle.std.proofs.lemmas.List.Splits.{join_with_byte-slice_split}
use Rattle.std.proofs.lemmas.List.Sums.{AllPass-from_list_all, list_all-from_AllPass}
use Rattle.std.specs.List.{join_with_byte, list_all}
use Rattle.gd_base.specs.declared.game.Colour.{Colour}
use Rattle.gd_base.specs.declared.event.Event.{Event}
use Rattle.gd_base.specs.declared.step.What.{What}
use Rattle.gd_script.specs.declared.item.Item.{Item}
use Rattle.gd_script.specs.declared.item.LineFault.{LineFault}
use Rattle.gd_script.specs.declared.item.OrderWord.{OrderWord}
use Rattle.gd_script.specs.declared.limits.TheConstants.{LINE_LEN}
use Rattle.gd_script.specs.Grammar.{event_words, InGrammar, IsComment, IsLineEvent, IsPrintable, item_words, line_text, Says}
use Rattle.gd_script.specs.Reading.{is_comment, is_printable, item_of, item_of_words, read_of, words}
use Rattle.gd_script.proofs.ItemLines.{item_read, item_said, SaysItem}
use Rattle.gd_script.proofs.Numbers.{at_most, both, both_true, false_from, from_at_most}
use Rattle.gd_script.proofs.TextOfWords.{item_has_words, item_of_its_words, line_printable, line_short, words_found}

-- ================ comments

printable : (b : ℕ) → is_printable b ≡ true → IsPrintable b
printable b e = let t = both (nat_le 32 b) (nat_le b 126) e in (from_at_most 32 b t.0, from_at_most b 126 t.1)

is_printable_byte : (b : ℕ) → IsPrintable b → is_printable b ≡ true
is_printable_byte b h = both_true (nat_le 32 b) (nat_le b 126) (at_most 32 b h.0) (at_most b 126 h.1)

hash : (b : ℕ) → (b == 35) ≡ true → b ≡ 35
hash b e = grind (arith, nat_tests)

is_hash : (b : ℕ) → b ≡ 35 → (b == 35) ≡ true
is_hash b e = grind (arith, nat_tests)

comment_said : (line : List ℕ) → is_comment line ≡ true → IsComment line
comment_said [] e = tt
comment_said (b ∷ bytes) e =
    let t = both (b == 35) (list_all is_printable bytes) e in
    let pass = AllPass-from_list_all is_printable bytes t.1 in
    (hash b t.0, All-from_get_or IsPrintable bytes 0 (λ i lt. printable (get_or bytes i 0) (All-get_or (λ x. is_printable x ≡ true) bytes i 0 lt pass)))

comment_read : (line : List ℕ) → IsComment line → is_comment line ≡ true
comment_read [] h = refl
comment_read (b ∷ bytes) h =
    both_true (b == 35) (list_all is_printable bytes) (is_hash b h.0)
    (list_all-from_AllPass is_printable bytes (All-from_get_or (λ x. is_printable x ≡ true) bytes 0 (λ i lt. is_printable_byte (get_or bytes i 0) (All-get_or IsPrintable bytes i 0 lt h.1))))

event_no_comment : (e : Event) → IsLineEvent e → is_comment (join_with_byte 32 (event_words e)) ≡ false
event_no_comment Event.Start h = absurd h
event_no_comment (Event.Gamble Colour.Red) h = refl
event_no_comment (Event.Gamble Colour.Black) h = refl
event_no_comment e h = refl

no_comment : (item : Item) → SaysItem (item_words item) item → is_comment (line_text item) ≡ false
no_comment (Item.Event e) h = event_no_comment e h.1.0
no_comment (Item.OrderEvent OrderWord.Printed order) h = refl
no_comment (Item.OrderEvent kind order) h = refl
no_comment (Item.Show What.Order) h = refl
no_comment (Item.Show what) h = refl
no_comment Item.Skip h = absurd h
no_comment item h = refl

-- ================ lines

said_by : (line : List ℕ) (item : Item) → SaysItem (words line) item → Says line item
said_by line Item.Skip h = absurd h
said_by line item h = (sym (join_with_byte-slice_split 32 line) ∙ ap (join_with_byte 32) h.0, h.1)

tested : (line : List ℕ) (item : Item) (b : Bool) → is_comment line ≡ b → (if b then Some Item.Skip else item_of_words (words line)) ≡ Some item → Says line item
tested line item true c e = let i : Item.Skip ≡ item = cc in subst (Says line) i (comment_said line c)
tested line item false c e = said_by line item (item_said (words line) item e)

pub line_said : (line : List ℕ) (item : Item) → item_of line ≡ Some item → Says line item
unfolding item_of
line_said line item e = tested line item (is_comment line) refl e

in_grammar : (item : Item) → SaysItem (item_words item) item → InGrammar item
in_grammar Item.Skip h = absurd h
in_grammar item h = h.1

words_of_text : (item : Item) → InGrammar item → words (line_text item) ≡ item_words item
words_of_text item h = words_found (item_words item) (item_has_words item h).0 (item_of_its_words item h)

text_read : (item : Item) → SaysItem (item_words item) item → item_of (line_text item) ≡ Some item
unfolding item_of
text_read item h =
    ap (λ (b : Bool). if b then Some Item.Skip else item_of_words (words (line_text item))) (no_comment item h)
    ∙ ap item_of_words (words_of_text item (in_grammar item h)) ∙ item_read item h

-- another line is read by its words
pub no_comment_line : (line : List ℕ) → is_comment line ≡ false → item_of_words (words line) ≡ item_of line
unfolding item_of
no_comment_line line e = sym (ap (λ (b : Bool). if b then Some Item.Skip else item_of_words (words line)) e)

comment_line : (line : List ℕ) → IsComment line → item_of line ≡ Some Item.Skip
unfolding item_of
comment_line line h = ap (λ (b : Bool). if b then Some Item.Skip else item_of_words (words line)) (comment_read line h)

pub line_read : (line : List ℕ) (item : Item) → Says line item → item_of line ≡ Some item
line_read line Item.Skip h = comment_line line h
line_read line item h = ap item_of h.0 ∙ text_read item (refl, h.1)

says_in_grammar : (line : List ℕ) (item : Item) → Says line item → InGrammar item
says_in_grammar line Item.Skip h = tt
says_in_grammar line item h = h.1

comment_printable : (line : List ℕ) → IsComment line → All IsPrintable line
comment_printable [] h = All-from_get_or IsPrintable [] 0 (λ i lt. absurd (omega arith))
comment_printable (b ∷ bytes) h = All-cons IsPrintable b bytes (omega (arith, h.0), omega (arith, h.0)) h.1

pub line_is_printable : (line : List ℕ) (item : Item) → Says line item → All IsPrintable line
line_is_printable line Item.Skip h = comment_printable line h
line_is_printable line item h = subst (All IsPrintable) (sym h.0) (line_printable (item_words item) (item_of_its_words item h.1))

-- ================ printed

pub text_says : (item : Item) → InGrammar item → Says (line_text item) item
text_says Item.Skip h = (refl, All-from_get_or IsPrintable [] 0 (λ i lt. absurd (omega arith)))
text_says item h = (refl, h)

pub text_short : (item : Item) → InGrammar item → length (line_text item) ≤ LINE_LEN
text_short item h = omega (arith, line_short (item_words item) (item_of_its_words item h), (item_has_words item h).1)

-- ================ what reading answers

whole : (line : List ℕ) → length line ≤ LINE_LEN → read_of line ≡ ok_or (item_of line) LineFault.NotALine
unfolding read_of
whole line h = ap (λ (b : Bool). if b then ok_or (item_of line) LineFault.NotALine else Err LineFault.TooLong) (at_most (length line) LINE_LEN h)

pub long : (line : List ℕ) → LINE_LEN < length line → read_of line ≡ Err LineFault.TooLong
unfolding read_of
long line h =
    ap (λ (b : Bool). if b then ok_or (item_of line) LineFault.NotALine else Err LineFault.TooLong) (false_from _ (λ e. let le : length line ≤ LINE_LEN = from_at_most (length line) LINE_LEN e in omega arith))

pub read_whole : (line : List ℕ) → length line ≤ LINE_LEN → ok_or (item_of line) LineFault.NotALine ≡ read_of line
read_whole line h = sym (whole line h)

pub read_text : (item : Item) → InGrammar item → read_of (line_text item) ≡ Ok item
read_text item h = whole (line_text item) (text_short item h) ∙ ap (λ (o : Option Item). ok_or o LineFault.NotALine) (line_read (line_text item) item (text_says item h))

is_ok : (o : Option Item) (item : Item) → ok_or o LineFault.NotALine ≡ Ok item → o ≡ Some item
is_ok None item e = absurd (cc)
is_ok (Some x) item e = cc

is_none : (o : Option Item) → ok_or o LineFault.NotALine ≡ Err LineFault.NotALine → o ≡ None
is_none None e = refl
is_none (Some x) e = absurd (cc)

above : (m n : ℕ) → nat_le m n ≡ false → n < m
above m n e = grind (arith, nat_tests)

-- a line of another answer is not too long
fits_by : (line : List ℕ) (r : Result Item LineFault) (b : Bool) → nat_le (length line) LINE_LEN ≡ b → read_of line ≡ r → r ≢ Err LineFault.TooLong → length line ≤ LINE_LEN
fits_by line r true t e n = from_at_most (length line) LINE_LEN t
fits_by line r false t e n = absurd (n (sym e ∙ long line (above (length line) LINE_LEN t)))

fits : (line : List ℕ) (r : Result Item LineFault) → read_of line ≡ r → r ≢ Err LineFault.TooLong → length line ≤ LINE_LEN
fits line r e n = fits_by line r (nat_le (length line) LINE_LEN) refl e n

ok_said : (line : List ℕ) (item : Item) → read_of line ≡ Ok item → (length line ≤ LINE_LEN) × Says line item
ok_said line item e = let h = fits line (Ok item) e (λ f. cc) in (h, line_said line item (is_ok (item_of line) item (sym (whole line h) ∙ e)))

said_ok : (line : List ℕ) (item : Item) → (length line ≤ LINE_LEN) × Says line item → read_of line ≡ Ok item
said_ok line item h = whole line h.0 ∙ ap (λ (o : Option Item). ok_or o LineFault.NotALine) (line_read line item h.1)

-- an item exactly where the line isn't too long and says it
pub ok_exactly : (line : List ℕ) (r : Result Item LineFault) → r ≡ read_of line → (item : Item) → (r ≡ Ok item) ↔ ((length line ≤ LINE_LEN) × Says line item)
ok_exactly line r is item = (λ e. ok_said line item (sym is ∙ e), λ h. is ∙ said_ok line item h)

not_a_line_said : (line : List ℕ) → read_of line ≡ Err LineFault.NotALine → (length line ≤ LINE_LEN) × ((i : Item) → ¬ Says line i)
not_a_line_said line e =
    let h = fits line (Err LineFault.NotALine) e (λ f. cc) in
    let none : item_of line ≡ None = is_none (item_of line) (sym (whole line h) ∙ e) in
    (h, λ i s. let some = line_read line i s in cc)

no_item : (line : List ℕ) (o : Option Item) → item_of line ≡ o → ((i : Item) → ¬ Says line i) → item_of line ≡ None
no_item line None e n = e
no_item line (Some i) e n = absurd (n i (line_said line i e))

said_not_a_line : (line : List ℕ) → (length line ≤ LINE_LEN) × ((i : Item) → ¬ Says line i) → read_of line ≡ Err LineFault.NotALine
said_not_a_line line h = whole line h.0 ∙ ap (λ (o : Option Item). ok_or o LineFault.NotALine) (no_item line (item_of line) refl h.1)

-- and no item exactly where it isn't too long and says none
pub not_a_line_exactly : (line : List ℕ) (r : Result Item LineFault) → r ≡ read_of line → (r ≡ Err LineFault.NotALine) ↔ ((length line ≤ LINE_LEN) × ((i : Item) → ¬ Says line i))
not_a_line_exactly line r is = (λ e. not_a_line_said line (sym is ∙ e), λ h. is ∙ said_not_a_line line h)

if_ok : (r : Result Item LineFault) → ((item : Item) → r ≡ Ok item → InGrammar item) → IfOk r InGrammar
if_ok (Ok item) f = f item refl
if_ok (Err e) f = tt

-- what was read can be printed
pub ok_in_grammar : (line : List ℕ) (r : Result Item LineFault) → r ≡ read_of line → IfOk r InGrammar
ok_in_grammar line r is = if_ok r (λ item e. says_in_grammar line item (ok_said line item (sym is ∙ e)).1)
