-- The same machine and the same blocks, after some lines.
use Rattle.std.proofs.Common.{◌≡◌, subst, ℕ, Result}
use Rattle.gd_base.specs.Judging.Machine.{Machine, Blocks}
use Rattle.gd_disk.specs.Disk.{DiskState}
use Rattle.gd_top.specs.Code.Parts.{Outside, CarriesBy, Pending}
use Rattle.gd_top.specs.Code.Standing.{Standing}
use Rattle.gd_top.specs.Run.State.{State, Part}
use Rattle.gd_top.specs.declared.halt.Halt.{Halt}

-- blocks that agree at each lap and index are the same
pub blocks_are : (A B : Blocks) → ((lap index : ℕ) → A lap index ≡ B lap index) → A ≡ B
blocks_are A B same i lap index = same lap index i

pub alike_by : {V : Type 0} (M N : Machine V) (B A : Blocks) (tell : Machine V → Blocks → State V → Part V) (r : Result (Unit {0}) Halt) (a b : Standing V) (u v : Outside) (disk : DiskState)
    → N ≡ M → ((lap index : ℕ) → A lap index ≡ B lap index) → CarriesBy r N (tell N A) a b u v disk → CarriesBy r M (tell M B) a b u v disk
alike_by {V} M N B A tell r a b u v disk m same h =
    subst (λ (D : Blocks). CarriesBy r M (tell M D) a b u v disk) (blocks_are A B same) (subst (λ (O : Machine V). CarriesBy r O (tell O A) a b u v disk) m h)

pub pending_alike : {V : Type 0} (M N : Machine V) (B A : Blocks) (tell rest : Machine V → Blocks → State V → Part V) (a b : Standing V) (u v : Outside)
    → N ≡ M → ((lap index : ℕ) → A lap index ≡ B lap index) → Pending N (tell N A) (rest N A) a b u v → Pending M (tell M B) (rest M B) a b u v
pending_alike {V} M N B A tell rest a b u v m same h =
    subst (λ (D : Blocks). Pending M (tell M D) (rest M D) a b u v) (blocks_are A B same) (subst (λ (O : Machine V). Pending O (tell O A) (rest O A) a b u v) m h)
