use Rattle.std.proofs.Common.{◌≡◌, ◌∙◌, ◌+◌, ◌/◌, ◌%◌, ◌<◌, ◌++◌, [], ◌∷◌, ℕ, List, length, take, get_or, arith, ap, sym, refl, append_assoc}
use Rattle.std.proofs.lemmas.List.{flat_map_more, take_more}
use Rattle.gd_top.specs.Report.Lines.{hex, hex_digit}
use Rattle.gd_top.proofs.report.lines.push_digest.Goals as goal

abbrev digits : ℕ → List ℕ
digits b = hex_digit (b / 16) ∷ hex_digit (b % 16) ∷ []

-- the digits of one byte more
byte_more : (text after bytes : List ℕ) (i b : ℕ) → i < length bytes → after ≡ text ++ hex (take i bytes) → get_or {A = ℕ} bytes i 0 ≡ b
    → (after ++ hex_digit (b / 16) ∷ []) ++ hex_digit (b % 16) ∷ [] ≡ text ++ hex (take (i + 1) bytes)
byte_more text after bytes i b lt so_far is =
    append_assoc after (hex_digit (b / 16) ∷ []) (hex_digit (b % 16) ∷ [])
    ∙ ap (λ (xs : List ℕ). xs ++ digits b) so_far
    ∙ flat_map_more digits text (take i bytes) b
    ∙ ap (λ (xs : List ℕ). text ++ hex xs) (ap (λ (x : ℕ). take i bytes ++ x ∷ []) (sym is) ∙ sym (take_more bytes i 0 lt))

pub loop-place-preserved : goal.loop-place-preserved
loop-place-preserved c = record {
  bytes = c.push_hex_digit-in-loop-place.ensures.bytes
      ∙ ap (λ (xs : List ℕ). xs ++ hex_digit (get_or c.args.digest.now c.loop-place.place 0 % 16) ∷ []) c.push_hex_digit.ensures.bytes
      ∙ byte_more c.args.text.now.bytes c.loop-place.text.bytes c.args.digest.now c.loop-place.place (get_or c.args.digest.now c.loop-place.place 0) (omega (arith, c.told-digest, c.loop-place-test.true)) c.loop-place.invariant.bytes refl;
  room = omega arith;
}
