-- What a laboratory in memory keeps inside, and what each call does to it.
use Rattle.std.specs.Prelude.{ℕ, ◌-◌, ◌/◌, ◌==◌, nat_le, Bool, true, false, ◌&&◌, if◌then◌else◌, List, [], ◌∷◌, ◌++◌, length, replicate, Option, Some, None, unwrap_or}
use Rattle.gd_disk.specs.Disk.{counts, with_bytes, with_mask}
use Rattle.gd_disk.specs.Plan.{Plan, next_call}
use Rattle.gd_disk.specs.declared.disk.ArmedCut.{ArmedCut}
use Rattle.gd_disk.specs.declared.limits.TheConstants.{TORN_BYTE}
use Rattle.gd_disk.specs.declared.medium.TheConstants.{UNMARKED, FIRST_HALF, SECOND_HALF}

-- what it keeps beside what it shows as a disk
pub record Inside : Type 0 where
  -- at each place the byte of the last good sync, the byte now, and a mark where it was written since
  pub durable : List ℕ
  pub current : List ℕ
  pub marks : List ℕ
  -- the kind of the latest loss
  pub torn : ℕ
  -- how its calls are counted, and which is the fault
  pub plan : Plan

-- a laboratory of n zeros at its start, with this call for its fault
abbrev pub inside_at_start : ℕ → Option ℕ → Inside
inside_at_start n fail_at = record {
  durable = replicate n 0;
  current = replicate n 0;
  marks = replicate n UNMARKED;
  torn = 0;
  plan = record { fail_at = fail_at; calls = 0 };
}

-- ==== which bytes a loss leaves

-- the marks of a write of n bytes: those of its first half, rounded down, and those of its second half
abbrev pub halves : ℕ → List ℕ
halves n = replicate (n / 2) FIRST_HALF ++ replicate (n - n / 2) SECOND_HALF

-- a byte that was written: by the kind 0 the old one, 1 the new one, 2 the new one in a first half, and 3 neither
abbrev pub left_of_written : ℕ → ℕ → ℕ → ℕ → ℕ
left_of_written torn old new mark =
    if torn == 0 then old
    else if torn == 1 then new
    else if torn == 2 then (if mark == FIRST_HALF then new else old)
    else TORN_BYTE

-- a byte by its mark: with none the old one
abbrev pub left_of : ℕ → ℕ → ℕ → ℕ → ℕ
left_of torn old new mark = if mark == UNMARKED then old else left_of_written torn old new mark

-- the same at each place
abbrev pub torn_image : ℕ → List ℕ → List ℕ → List ℕ → List ℕ
torn_image torn (old ∷ durable) (new ∷ current) (mark ∷ marks) =
    left_of torn old new mark ∷ torn_image torn durable current marks
torn_image torn durable current marks = []

-- ==== where a loss comes

-- the kind of the first armed cut, where it comes at this call
abbrev pub cut_at : Bool → List ArmedCut → Option ℕ
cut_at is_sync [] = None
cut_at is_sync (cut ∷ later) = if counts is_sync cut.unit && nat_le cut.count 1 then Some cut.torn else None

-- the kind of the loss at a call, where one comes: with the power on that of a fault, which is 0, or else that of a cut
abbrev pub loss_at : Bool → Bool → Option ℕ → Option ℕ
loss_at false is_fault cut = None
loss_at true true cut = Some 0
loss_at true false cut = cut

-- ==== what each call does

-- a call is counted, and the kind of a loss at it is kept
abbrev pub after_call : Option ℕ → Inside → Inside
after_call loss lab = record lab { torn = unwrap_or loss lab.torn; plan = next_call lab.plan }

-- bytes are written at a place, and marked
abbrev pub after_write : ℕ → List ℕ → Inside → Inside
after_write at bytes lab = record lab {
  current = with_bytes at bytes lab.current;
  marks = with_bytes at (halves (length bytes)) lab.marks;
}

-- the bytes now are durable, and none is marked
abbrev pub after_sync : Inside → Inside
after_sync lab = record lab { durable = lab.current; marks = replicate (length lab.current) UNMARKED }

-- what the latest loss left is there, and durable
abbrev pub after_loss : Inside → Inside
after_loss lab = after_sync (record lab { current = torn_image lab.torn lab.durable lab.current lab.marks })

-- the power was turned off, which leaves the old bytes
abbrev pub after_power_off : Inside → Inside
after_power_off lab = record lab { torn = 0 }

-- a byte is combined with a mask
abbrev pub after_alter : ℕ → ℕ → Inside → Inside
after_alter at mask lab = record lab { durable = with_mask at mask lab.durable; current = with_mask at mask lab.current }
