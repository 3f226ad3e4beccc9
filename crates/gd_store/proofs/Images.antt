-- Parts of an image that a write leaves alone.
use Rattle.std.proofs.Common.{◌≡◌, ℕ, ◌+◌, ◌-◌, ◌<◌, ◌≤◌, List, get_or, take, drop, sym, ◌∙◌, ap, arith}
use Rattle.std.proofs.lemmas.List.{take-take, drop-drop, drop-take, get_or-take, get_or-drop}
use Rattle.gd_disk.specs.Disk.{Torn}
use Rattle.gd_store.specs.Copy.{part}

-- a part before the range, and one behind it
pub part_before : (at n b l : ℕ) (old new : List ℕ) → b + l ≤ at → Torn at n old new → part b l new ≡ part b l old
part_before at n b l old new le torn =
    sym (drop-take b l new)
    ∙ ap (λ (x : List ℕ). drop b x) (sym (take-take (b + l) at new le) ∙ ap (λ (x : List ℕ). take (b + l) x) torn.before ∙ take-take (b + l) at old le)
    ∙ drop-take b l old

pub part_behind : (at n b l : ℕ) (old new : List ℕ) → at + n ≤ b → Torn at n old new → part b l new ≡ part b l old
part_behind at n b l old new le torn = ap (λ (x : List ℕ). take l x) (sym (further new) ∙ ap (λ (x : List ℕ). drop (b - (at + n)) x) torn.after ∙ further old)
  where
    sums : at + n + (b - (at + n)) ≡ b
    sums = omega (arith, le)

    further : (x : List ℕ) → drop (b - (at + n)) (drop (at + n) x) ≡ drop b x
    further x = drop-drop (b - (at + n)) (at + n) x ∙ ap (λ (k : ℕ). drop k x) sums

-- the first byte of a part is the one at its place
pub first_of : (at n : ℕ) (image : List ℕ) → 0 < n → get_or (part at n image) 0 0 ≡ get_or image at 0
first_of at n image lt = get_or-take n (drop at image) 0 0 lt ∙ get_or-drop at image 0 0 ∙ ap (λ (k : ℕ). get_or image k 0) (omega arith)
