-- The rows of the table are those that are read.
use Rattle.std.proofs.Common.{◌≡◌, ℕ, ◌<◌, ◌≤◌, ◌^◌, nat_le, Bool, true, false, ◌&&◌, if◌then◌else◌, List, [], ◌∷◌, decimal, find, slice_get, option_and_then, option_map, Option, None, Some, refl, ap, ap₂, subst, sym, ◌∙◌, arith}
use Rattle.std.proofs.lemmas.Bool.Decides.{nat_tests}
use Rattle.std.proofs.lemmas.Slice.Eq.{bytes_eq-Decides}
use Rattle.std.specs.Str.{bytes_eq}
use Rattle.gd_base.specs.declared.step.What.{What}
use Rattle.gd_words.specs.CommandLine.{IsTaken, places}
use Rattle.gd_words.specs.Meaning.{said, seed_of, words_of}
use Rattle.gd_words.specs.Names.{keyword_of, keyword_word, what_of, what_word}
use Rattle.gd_words.specs.Numbers.{items_number, items_of, number_of}
use Rattle.gd_words.specs.Rows.{command_of, option_map_both, row_of}
use Rattle.gd_words.specs.Table.{GivesSeed, InRange, Says, row}
use Rattle.gd_words.specs.declared.keyword.Keyword.{Keyword}
use Rattle.gd_words.specs.declared.keyword.TheConstants.{KEYWORDS, SHOWN}
use Rattle.gd_words.specs.declared.limits.TheConstants.{LEAST_ITEMS, MOST_ITEMS}
use Rattle.gd_words.specs.declared.words.Command.{Command}
use Rattle.gd_words.specs.declared.words.Words.{Words}
use Rattle.gd_words.proofs.Meanings.{taken_say}
use Rattle.gd_words.proofs.Numbers.{round_trip}

-- ================ options

never : {A : Type 0} {P : Type 0} (a : A) → None ≡ Some a → P
never a e = absurd (cc)

some_is : {A : Type 0} (a b : A) → Some a ≡ Some b → a ≡ b
some_is a b e = cc

mapped : {A B : Type 0} (f : A → B) (o : Option A) (b : B) → option_map f o ≡ Some b → (a : A) × (o ≡ Some a) × (f a ≡ b)
mapped f None b e = never b e
mapped f (Some a) b e = (a, refl, cc)

mapped_both : {A B C : Type 0} (f : A → B → C) (o : Option A) (p : Option B) (c : C) → option_map_both f o p ≡ Some c
    → (a : A) × (b : B) × (o ≡ Some a) × (p ≡ Some b) × (f a b ≡ c)
mapped_both f None p c e = never c e
mapped_both f (Some a) None c e = never c e
mapped_both f (Some a) (Some b) c e = (a, b, refl, refl, cc)

followed : {A B : Type 0} (f : A → Option B) (o : Option A) (b : B) → option_and_then f o ≡ Some b → (a : A) × (o ≡ Some a) × (f a ≡ Some b)
followed f None b e = never b e
followed f (Some a) b e = (a, refl, e)

found_passes : {A : Type 0} (p : A → Bool) (all : List A) (a : A) → find p all ≡ Some a → p a ≡ true
found_passes p [] a e = never a e
found_passes p (x ∷ rest) a e = go (p x) refl (found_passes p rest a) e
  where
    go : (b : Bool) → b ≡ p x → (find p rest ≡ Some a → p a ≡ true) → (if b then Some x else find p rest) ≡ Some a → p a ≡ true
    go true is later f = let same : x ≡ a = some_is x a f in subst (λ z. p z ≡ true) same (sym is)
    go false is later f = later f

-- ================ names and numbers

keyword_said : (word : List ℕ) (k : Keyword) → keyword_of word ≡ Some k → keyword_word k ≡ word
keyword_said word k e = (bytes_eq-Decides (keyword_word k) word).0 (found_passes (λ x. bytes_eq (keyword_word x) word) KEYWORDS k e)

what_said : (word : List ℕ) (w : What) → what_of word ≡ Some w → word ≡ what_word w
what_said word w e = sym ((bytes_eq-Decides (what_word w) word).0 (found_passes (λ x. bytes_eq (what_word x) word) SHOWN w e))

what_read : (w : What) → what_of (what_word w) ≡ Some w
what_read What.Meters = refl
what_read What.State = refl
what_read What.Recall = refl
what_read What.Events = refl
what_read What.Order = refl

items_within : (n m : ℕ) → items_number n ≡ Some m → (n ≡ m) × (LEAST_ITEMS ≤ n) × (n ≤ MOST_ITEMS)
items_within n m e = go (nat_le LEAST_ITEMS n) (nat_le n MOST_ITEMS) refl refl e
  where
    go : (a b : Bool) → a ≡ nat_le LEAST_ITEMS n → b ≡ nat_le n MOST_ITEMS → (if a && b then Some n else None) ≡ Some m → (n ≡ m) × (LEAST_ITEMS ≤ n) × (n ≤ MOST_ITEMS)
    go true true low high e = (cc, grind (arith, nat_tests), grind (arith, nat_tests))
    go true false low high e = never m e
    go false b low high e = never m e

items_pass : (n : ℕ) → LEAST_ITEMS ≤ n → n ≤ MOST_ITEMS → items_number n ≡ Some n
items_pass n low high =
    let a : nat_le LEAST_ITEMS n ≡ true = grind (arith, nat_tests) in
    let b : nat_le n MOST_ITEMS ≡ true = grind (arith, nat_tests) in
    ap₂ (λ (x y : Bool). if x && y then Some n else None) a b

-- ================ rows

-- the positionals are those of the command's row, and its numbers in their ranges
abbrev Row : Option (List ℕ) → Option (List ℕ) → Option (List ℕ) → Command → Type 0
Row word x y c = (word ≡ slice_get (row c) 0) × (x ≡ slice_get (row c) 1) × (y ≡ slice_get (row c) 2) × InRange c

row_at : (word x y : Option (List ℕ)) (b c : Command) → b ≡ c → Row word x y b → Row word x y c
row_at word x y b c e r = subst (Row word x y) e r

row_said : (k : Keyword) (x y : Option (List ℕ)) (c : Command) → row_of k x y ≡ Some c → Row (Some (keyword_word k)) x y c
row_said Keyword.Trial None None c e = row_at _ _ _ Command.Trial c (some_is _ _ e) (refl, refl, refl, tt)
row_said Keyword.Init None None c e = never c e
row_said Keyword.Run None None c e = never c e
row_said Keyword.Show None None c e = never c e
row_said Keyword.Check None None c e = never c e
row_said Keyword.Soak None None c e = never c e
row_said Keyword.Init (Some x) None c e = row_at _ _ _ (Command.Init x) c (some_is _ _ e) (refl, refl, refl, tt)
row_said Keyword.Run (Some x) None c e = row_at _ _ _ (Command.Run x) c (some_is _ _ e) (refl, refl, refl, tt)
row_said Keyword.Check (Some x) None c e = row_at _ _ _ (Command.Check x) c (some_is _ _ e) (refl, refl, refl, tt)
row_said Keyword.Trial (Some x) None c e = never c e
row_said Keyword.Show (Some x) None c e = never c e
row_said Keyword.Soak (Some x) None c e = never c e
row_said Keyword.Show (Some x) (Some y) c e =
    let what = mapped (λ w. Command.Show w y) (what_of x) c e in
    row_at _ _ _ (Command.Show what.0 y) c what.2 (refl, ap Some (what_said x what.0 what.1), refl, tt)
row_said Keyword.Soak (Some x) (Some y) c e =
    let both = mapped_both Command.Soak (items_of x) (number_of y) c e in
    let items = followed items_number (number_of x) both.0 both.2 in
    let within = items_within items.0 both.0 items.2 in
    let count = (round_trip x items.0).0 items.1 in
    let seed = (round_trip y both.1).0 both.3 in
    row_at _ _ _ (Command.Soak both.0 both.1) c both.4
    (refl, ap Some (count.1 ∙ ap decimal within.0), ap Some seed.1, (omega (arith, within.0, within.1), omega (arith, within.0, within.2), seed.0))
row_said Keyword.Init (Some x) (Some y) c e = never c e
row_said Keyword.Trial (Some x) (Some y) c e = never c e
row_said Keyword.Run (Some x) (Some y) c e = never c e
row_said Keyword.Check (Some x) (Some y) c e = never c e
row_said k None (Some y) c e = never c e

command_said : (word x y : Option (List ℕ)) (c : Command) → command_of word x y ≡ Some c → Row word x y c
command_said None x y c e = never c e
command_said (Some word) x y c e =
    let k = followed (λ keyword. row_of keyword x y) (keyword_of word) c e in
    subst (λ (text : List ℕ). Row (Some text) x y c) (keyword_said word k.0 k.1) (row_said k.0 x y c k.2)

number_read : (n : ℕ) → n < 2 ^ 64 → number_of (decimal n) ≡ Some n
number_read n h = (round_trip (decimal n) n).1 (h, refl)

at_row : (c : Command) → InRange c → command_of (slice_get (row c) 0) (slice_get (row c) 1) (slice_get (row c) 2) ≡ Some c
at_row (Command.Init image) r = refl
at_row Command.Trial r = refl
at_row (Command.Run image) r = refl
at_row (Command.Show what image) r = ap (option_map (λ w. Command.Show w image)) (what_read what)
at_row (Command.Check image) r = refl
at_row (Command.Soak count seed) r =
    let items : items_of (decimal count) ≡ Some count = ap (option_and_then items_number) (number_read count (omega arith)) ∙ items_pass count r.0 r.1 in
    ap₂ (option_map_both Command.Soak) items (number_read seed r.2)

command_read : (word x y : Option (List ℕ)) (c : Command) → Row word x y c → command_of word x y ≡ Some c
command_read word x y c r =
    ap (λ w. command_of w x y) r.0 ∙ ap (λ w. command_of (slice_get (row c) 0) w y) r.1
    ∙ ap (λ w. command_of (slice_get (row c) 0) (slice_get (row c) 1) w) r.2 ∙ at_row c r.3

-- ================ seeds

seed_said : (text : Option (List ℕ)) (n : ℕ) → seed_of text ≡ Some n → GivesSeed text n
seed_said None n e = sym (some_is _ _ e)
seed_said (Some text) n e = (round_trip text n).0 e

seed_read : (text : Option (List ℕ)) (n : ℕ) → GivesSeed text n → seed_of text ≡ Some n
seed_read None n g = ap Some (sym g)
seed_read (Some text) n g = (round_trip text n).1 g

-- ================ words

-- what is read is what the table says
pub said_as : (words : List (List ℕ)) (w : Words) → IsTaken words → words_of words ≡ Some w → Says words w
unfolding said
said_as words w taken e =
    let p = places words in
    let parts = mapped_both (λ (command : Command) (seed : ℕ). record { command = command; setup = p.setup; seed = seed }) (command_of p.command p.x p.y) (seed_of p.seed) w
    (taken_say words p taken refl ∙ e) in
    let r = command_said p.command p.x p.y parts.0 parts.2 in
    subst (Says words) parts.4 (record {
      taken = taken;
      positionals = (r.0, r.1, r.2);
      range = r.3;
      setup_file = refl;
      random_seed = seed_said p.seed parts.1 parts.3;
    })

-- and what the table says is read
pub read_as : (words : List (List ℕ)) (w : Words) → Says words w → words_of words ≡ Some w
unfolding said
read_as words w s =
    let p = places words in
    sym (taken_say words p s.taken refl)
    ∙ ap₂ (option_map_both (λ (command : Command) (seed : ℕ). record { command = command; setup = p.setup; seed = seed }))
    (command_read p.command p.x p.y w.command (s.positionals.0, s.positionals.1, s.positionals.2, s.range))
    (seed_read p.seed w.seed s.random_seed)
    ∙ ap (λ (setup : Option (List ℕ)). Some (record { command = w.command; setup = setup; seed = w.seed })) (sym s.setup_file)

-- where nothing is read, the table says nothing
pub nothing_said : (words : List (List ℕ)) → words_of words ≡ None → (w : Words) → Says words w → ⊥
nothing_said words e w s = let both : None ≡ Some w = sym e ∙ read_as words w s in absurd (cc)
