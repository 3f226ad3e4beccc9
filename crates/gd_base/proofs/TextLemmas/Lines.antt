-- The lines of the meters, one line more.
use Rattle.std.proofs.Common.{◌≡◌, ◌+◌, ◌<◌, ◌++◌, ℕ, zero, suc, List, [], ◌∷◌, length, take, arith, ap, sym, ◌∙◌, append_assoc, append-nil}
use Rattle.std.specs.List.{slice_index_or}
use Rattle.gd_base.specs.declared.meter.Meter.{Meter}
use Rattle.gd_base.specs.Texts.OfViews.{meter_line, meter_lines}

one_line_more : (ms : List Meter) (totals : List ℕ) (i : ℕ) (m : Meter) → i < length ms → i < length totals
    → meter_lines (take (suc i) ms) totals ≡ meter_lines (take i ms) totals ++ meter_line (slice_index_or ms i m) (slice_index_or totals i 0)
one_line_more [] totals i m h k = absurd (omega (arith, h))
one_line_more (first ∷ ms) [] i m h k = absurd (omega (arith, k))
one_line_more (first ∷ ms) (total ∷ totals) zero m h k = append-nil (meter_line first total)
one_line_more (first ∷ ms) (total ∷ totals) (suc i) m h k =
    ap (λ (lines : List ℕ). meter_line first total ++ lines) (one_line_more ms totals i m (omega (arith, h)) (omega (arith, k)))
    ∙ sym (append_assoc (meter_line first total) (meter_lines (take i ms) totals) (meter_line (slice_index_or ms i m) (slice_index_or totals i 0)))

one_more : (i : ℕ) → i + 1 ≡ suc i
one_more i = omega arith

pub next_line : (ms : List Meter) (totals : List ℕ) (i : ℕ) (m : Meter) → i < length ms → i < length totals
    → meter_lines (take (i + 1) ms) totals ≡ meter_lines (take i ms) totals ++ meter_line (slice_index_or ms i m) (slice_index_or totals i 0)
next_line ms totals i m h k = ap (λ (n : ℕ). meter_lines (take n ms) totals) (one_more i) ∙ one_line_more ms totals i m h k

pub grown : (before lines line after more : List ℕ) → after ≡ before ++ lines → more ≡ lines ++ line → after ++ line ≡ before ++ more
grown before lines line after more h k =
    ap (λ (xs : List ℕ). xs ++ line) h ∙ append_assoc before lines line ∙ sym (ap (λ (xs : List ℕ). before ++ xs) k)
