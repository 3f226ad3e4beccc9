-- When bytes are a document.
use Rattle.std.proofs.Common.{◌≡◌, ◌∙◌, ap, refl, ℕ, ◌<◌, ◌≤◌, nat_le, Bool, true, false, ◌&&◌, List, length, Option, Some, None, if◌then◌else◌, arith}
use Rattle.std.proofs.lemmas.Bool.Decides.{nat_tests}
use Rattle.std.proofs.lemmas.Str.{IsUtf8-from_is_utf8, is_utf8-from_IsUtf8}
use Rattle.std.specs.Prelude.{Result, Ok, Err, IfOk, IfErr}
use Rattle.std.specs.Str.{IsUtf8, is_utf8}
use Rattle.toml.specs.Data.{Members}
use Rattle.toml.specs.Parse.{parse_document}
use Rattle.gd_base.proofs.BoolTests.{is_within}
use Rattle.gd_base.specs.Judging.Product.{both_hold}
use Rattle.gd_games.specs.declared.limits.TheConstants.{MOST_FILE_LEN}
use Rattle.gd_games.specs.File.{document}

by_tests : (short utf8 : Bool) (d : Option Members) → short && utf8 ≡ false → (if short && utf8 then d else None) ≡ None
by_tests short utf8 d h = ap (λ (b : Bool). if b then d else None) h

never : (a b : Bool) → a ≡ false → a && b ≡ false
never true b h = absurd (cc h)
never false b h = refl

last : (a b : Bool) → b ≡ false → a && b ≡ false
last true b h = h
last false b h = refl

pub too_long : (text : List ℕ) → MOST_FILE_LEN < length text → document text ≡ None
unfolding document
too_long text h =
    let long : nat_le (length text) MOST_FILE_LEN ≡ false = grind (arith, nat_tests, h) in
    by_tests (nat_le (length text) MOST_FILE_LEN) (is_utf8 text) (parse_document text) (never (nat_le (length text) MOST_FILE_LEN) (is_utf8 text) long)

not_true : (b : Bool) → (b ≡ true → ⊥) → b ≡ false
not_true true h = absurd (h refl)
not_true false h = refl

pub not_utf8 : (text : List ℕ) → (IsUtf8 text → ⊥) → document text ≡ None
unfolding document
not_utf8 text h =
    let wrong = not_true (is_utf8 text) (λ e. h (IsUtf8-from_is_utf8 text e)) in
    by_tests (nat_le (length text) MOST_FILE_LEN) (is_utf8 text) (parse_document text) (last (nat_le (length text) MOST_FILE_LEN) (is_utf8 text) wrong)

either : (b : Bool) (d : Option Members) → d ≡ None → (if b then d else None) ≡ None
either true d h = h
either false d h = refl

pub not_toml : (text : List ℕ) → parse_document text ≡ None → document text ≡ None
unfolding document
not_toml text h = either (nat_le (length text) MOST_FILE_LEN && is_utf8 text) (parse_document text) h

pub is_document : (text : List ℕ) (ms : Members) → length text ≤ MOST_FILE_LEN → IsUtf8 text → parse_document text ≡ Some ms → document text ≡ Some ms
unfolding document
is_document text ms short utf8 toml =
    let tests = both_hold (nat_le (length text) MOST_FILE_LEN) (is_utf8 text) (is_within (length text) MOST_FILE_LEN short) (is_utf8-from_IsUtf8 text utf8) in
    ap (λ (b : Bool). if b then parse_document text else None) tests ∙ toml

-- ================ what is said of a result

pub if_ok : {A E : Type 0} (r : Result A E) (P Q : A → Type 0) → ((x : A) → P x → Q x) → IfOk r P → IfOk r Q
if_ok (Ok x) P Q f told = f x told
if_ok (Err e) P Q f told = tt

pub if_err : {A E : Type 0} (r : Result A E) (P Q : E → Type 0) → ((e : E) → P e → Q e) → IfErr r P → IfErr r Q
if_err (Ok x) P Q f told = tt
if_err (Err e) P Q f told = f e told
