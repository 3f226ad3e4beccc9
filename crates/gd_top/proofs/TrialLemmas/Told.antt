-- What a run did, by how its lines ended and by what was given of its last line.
use Rattle.std.proofs.Common.{◌≡◌, ◌⊎◌, inl, inr, ◌∙◌, ap, sym, subst, refl, ℕ, ◌+◌, ◌<◌, List, [], ◌∷◌, ◌++◌, length, codes, decimal, Option, None, Result, Ok, Err}
use Rattle.std.specs.Io.KnownBytes.{Appends, IsAtEnd}
use Rattle.gd_base.specs.Outside.Causes.{AppendsFront, Rose}
use Rattle.gd_base.specs.Judging.Machine.{Machine}
use Rattle.gd_store.specs.Masks.{Mask}
use Rattle.gd_top.specs.Claims.MemoryLeft.{IsAtRest, IsLeft, IsLeftIn, first_syncs}
use Rattle.gd_top.specs.Claims.Runs.{Outer, Beginning, GivesLast, RunTold, TrialDone, WroteReport, last_text, status_after, trial_beginning}
use Rattle.gd_top.specs.Code.LinesDone.{EndedBefore, RunBy, RunDone, made_outside}
use Rattle.gd_top.specs.Code.Memory.{Moment, Fits, IsKnownIn, Leaves, Serves, Sits, outside}
use Rattle.gd_top.specs.Code.Parts.{Outside}
use Rattle.gd_top.specs.Code.Standing.{Standing, at, only, first_standing}
use Rattle.gd_top.specs.Run.Life.{end_line, end_status}
use Rattle.gd_top.specs.Run.Offers.{AreArmed}
use Rattle.gd_top.specs.Run.State.{Phase, On, Off, Locked, Goes, Stops, Differs, is_powered}
use Rattle.gd_top.specs.declared.halt.Halt.{Halt}
use Rattle.gd_top.specs.declared.status.Status.{Status}
use Rattle.gd_top.proofs.RunLemmas.Cuts.{armed_length}
use Rattle.gd_top.proofs.TrialLemmas.WholeRun.{BeginsAt, begun_outside, trial_begins, wrote_report, front_report, wrote_to_fault, front_to_fault, wrote_broken, front_broken, front_opening, front_line, wrote_unmade, front_unmade}

nothing_more : (taken gave : Option (List ℕ)) (front rest : List ℕ) → front ++ rest ≡ [] → Appends taken gave front → Appends taken gave []
nothing_more taken gave [] rest e p = p
nothing_more taken gave (x ∷ xs) rest e p = absurd (never e)
  where
    never : x ∷ (xs ++ rest) ≡ [] → ⊥
    never is = cc is

-- where there is no last line, nothing more was given
nothing_given : (s status : Status) (taken gave : Option (List ℕ)) → GivesLast s status taken gave [] → Appends taken gave []
nothing_given s status taken gave (inl h) = h.1
nothing_given s status taken gave (inr h) = nothing_more taken gave h.1.front h.1.rest h.1.whole h.1.appended

write_fault : (status : Status) (taken gave : Option (List ℕ)) (text : List ℕ) → GivesLast Status.WriteFault status taken gave text → status ≡ Status.WriteFault
write_fault status taken gave text (inl h) = h.0
write_fault status taken gave text (inr h) = h.0

-- the last line is that of the phase, and with the power on that of the view
line_by : {V : Type 0} (M : Machine V) (phase : Phase) (view : V) (masks : List Mask) (v : V) → IsKnownIn phase view masks v → end_line M phase v ≡ end_line M phase view
line_by M On view masks v known = ap (end_line M On) (sym known.0)
line_by M Off view masks v known = refl
line_by M Locked view masks v known = refl

-- The outside from which a run is told, before its first opening: nothing was found and nothing fell yet.
pub record IsBegun {V : Type 0} (begin : Beginning V) (was : Moment V) (begun : Outside) : Type 0 where
  pub found : begun.found ≡ []
  pub taken : begun.taken ≡ was.taken
  pub falls : begun.falls ≡ []
  pub synced : begun.syncs ≡ was.disk.syncs + begin.syncs

module _ {V : Type 0} (was now : Moment V) (left rest gave : Option (List ℕ)) (r0 r1 w2 : ℕ) where
  abbrev M : Machine V
  M = was.machine

  abbrev old : Outer
  old = record { left = left; read_faults = r0; taken = was.taken; write_faults = was.faults; disk = was.disk }

  abbrev new : Outer
  new = record { left = rest; read_faults = r1; taken = gave; write_faults = w2; disk = now.disk }

  abbrev falls : List ℕ
  falls = now.counts.falls.items

  -- ================ a memory that stands

  module _ (t : Standing V) (fits : Fits t now) (sits : Sits now) (same : now.machine ≡ was.machine) (rested : IsAtRest now.phase now.disk) where
    armed : AreArmed t.armed now.disk.armed
    armed = fits.armed

    as_many : length now.disk.armed ≡ length t.armed
    as_many = armed_length t.armed now.disk.armed fits.armed

    holds : IsLeftIn M t.phase t.view t.masks now.disk
    holds =
        subst (λ (phase : Phase). IsLeftIn M phase t.view t.masks now.disk) (sym fits.phase)
        (subst (λ (O : Machine V). IsLeftIn O now.phase t.view t.masks now.disk) same fits.holds)

    pub is_left : IsLeft M (at t (only [] [] None)) now.disk
    is_left = record { power = sits.power ∙ ap is_powered (sym fits.phase); holds = holds; at_rest = subst (λ (phase : Phase). IsAtRest phase now.disk) (sym fits.phase) rested }

    end_is : end_line now.machine now.phase now.view ≡ end_line M t.phase t.view
    end_is = line_by now.machine now.phase t.view t.masks now.view fits.known ∙ (λ i. end_line (same i) (sym fits.phase i) t.view)

    fault_is : codes "line " ++ decimal (now.counts.lines + 1) ++ codes "\n" ≡ codes "line " ++ decimal (t.lines + 1) ++ codes "\n"
    fault_is = ap (λ (n : ℕ). codes "line " ++ decimal (n + 1) ++ codes "\n") (sym fits.lines)

    status_is : end_status t.phase ≡ end_status now.phase
    status_is = ap end_status fits.phase

  -- ================ from a beginning

  module _ (begin : Beginning V) (first : Standing V) (b : BeginsAt begin M was.blocks first) where
    by_status : (s status : Status) → status ≡ s → RunTold begin M was.blocks s falls old new → RunTold begin M was.blocks status falls old new
    by_status s status is h = subst (λ (q : Status). RunTold begin M was.blocks q falls old new) (sym is) h

    -- a run to the end of its input, over an open memory, a closed one or a locked one
    ended_by : (phase : Phase) → (end_status phase ≡ Status.Done) ⊎ (end_status phase ≡ Status.Locked)
    ended_by On = inl refl
    ended_by Off = inl refl
    ended_by Locked = inr refl

    by_end : (s : Status) → (s ≡ Status.Done) ⊎ (s ≡ Status.Locked) → WroteReport begin M was.blocks s falls old new → IsAtEnd rest → RunTold begin M was.blocks s falls old new
    by_end s (inl is) h end = by_status Status.Done s is (subst (λ (q : Status). WroteReport begin M was.blocks q falls old new) is h, end)
    by_end s (inr is) h end = by_status Status.Locked s is (subst (λ (q : Status). WroteReport begin M was.blocks q falls old new) is h, end)

    -- ================ by how the lines ended

    done_by : (r : Result (Unit {0}) Halt) (t : Standing V) (status : Status) → RunBy M was.blocks r first t (begun_outside begin old) (outside now) now.disk left rest → (Serves r → Fits t now) → (Serves r → Sits now)
        → (Serves r → IsAtRest now.phase now.disk) → now.machine ≡ was.machine → (r ≡ Err Halt.ReadFault → Rose r0 r1) → (r ≡ Err Halt.DiskFault → Rose was.disk.faults now.disk.faults)
        → GivesLast (status_after r now.phase) status now.taken gave (last_text now.machine r now.phase now.view now.counts.lines) → RunTold begin M was.blocks status falls old new
    done_by (Ok u) t status k fits sits rested same read broke (inl last) =
        let f = fits tt in
        let s = sits tt in
        let d = rested tt in
        by_status (end_status now.phase) status last.0
        (by_end (end_status now.phase) (ended_by now.phase)
        (wrote_report begin M was.blocks first b old new now.taken falls Goes t k.0.source k.0.carried (armed t f s same d) f.explained (end_status now.phase) (status_is t f s same d)
        (subst (Appends now.taken gave) (end_is t f s same d) last.1) (is_left t f s same d)) k.1)
    done_by (Ok u) t status k fits sits rested same read broke (inr last) =
        let f = fits tt in
        let s = sits tt in
        let d = rested tt in
        by_status Status.WriteFault status last.0
        (front_report begin M was.blocks first b old new now.taken falls Goes t k.0.source k.0.carried (armed t f s same d) f.explained (as_many t f s same d) (λ is. cc is)
        (subst (AppendsFront now.taken gave) (end_is t f s same d) last.1) (holds t f s same d))
    done_by (Err Halt.ScriptFault) t status k fits sits rested same read broke (inl last) =
        let f = fits tt in
        let s = sits tt in
        let d = rested tt in
        by_status Status.ScriptFault status last.0
        (wrote_report begin M was.blocks first b old new now.taken falls Stops t k.source k.carried (armed t f s same d) f.explained Status.ScriptFault refl
        (subst (Appends now.taken gave) (fault_is t f s same d) last.1) (is_left t f s same d))
    done_by (Err Halt.ScriptFault) t status k fits sits rested same read broke (inr last) =
        let f = fits tt in
        let s = sits tt in
        let d = rested tt in
        by_status Status.WriteFault status last.0
        (front_report begin M was.blocks first b old new now.taken falls Stops t k.source k.carried (armed t f s same d) f.explained (as_many t f s same d) (λ is. cc is)
        (subst (AppendsFront now.taken gave) (fault_is t f s same d) last.1) (holds t f s same d))
    done_by (Err Halt.ReadFault) t status k fits sits rested same read broke (inl last) =
        let f = fits tt in
        let s = sits tt in
        let d = rested tt in
        by_status Status.ReadFault status last.0 (wrote_to_fault begin M was.blocks first b old new now.taken falls t k f.explained (armed t f s same d) last.1 (is_left t f s same d))
    done_by (Err Halt.ReadFault) t status k fits sits rested same read broke (inr last) =
        let f = fits tt in
        let s = sits tt in
        let d = rested tt in
        by_status Status.WriteFault status last.0
        (front_to_fault begin M was.blocks first b old new now.taken falls t k f.explained (as_many t f s same d) (read refl) last.1 (holds t f s same d))
    done_by (Err Halt.DiskFault) t status k fits sits rested same read broke (inl last) = by_status Status.DiskFault status last.0 (wrote_broken begin M was.blocks first b old new now.taken falls k last.1)
    done_by (Err Halt.DiskFault) t status k fits sits rested same read broke (inr last) = by_status Status.WriteFault status last.0 (front_broken begin M was.blocks first b old new now.taken falls k (broke refl) last.1)
    done_by (Err Halt.SetupDiffers) t status k fits sits rested same read broke (inl last) =
        let d = k.differing in
        by_status Status.SetupDiffers status last.0 (wrote_report begin M was.blocks first b old new now.taken falls Differs t k.source d.carried d.armed d.explained Status.SetupDiffers refl last.1 d.left)
    done_by (Err Halt.SetupDiffers) t status k fits sits rested same read broke (inr last) =
        let d = k.differing in
        by_status Status.WriteFault status last.0
        (front_report begin M was.blocks first b old new now.taken falls Differs t k.source d.carried d.armed d.explained (armed_length t.armed now.disk.armed d.armed) (λ is. cc is) last.1 d.left)
    done_by (Err Halt.WriteFault) t status (inl k) fits sits rested same read broke last =
        by_status Status.WriteFault status (write_fault status now.taken gave [] last) (front_opening begin M was.blocks first b old new now.taken falls k (nothing_given Status.WriteFault status now.taken gave last))
    done_by (Err Halt.WriteFault) t status (inr k) fits sits rested same read broke last =
        by_status Status.WriteFault status (write_fault status now.taken gave [] last) (front_line begin M was.blocks first b old new now.taken falls k (nothing_given Status.WriteFault status now.taken gave last))

    -- the run ended before its first opening
    unmade_by : (status : Status) → now.disk.found ≡ [] → begin.IsUnopened old new → now.disk.armed ≡ [] → now.taken ≡ was.taken → falls ≡ [] → Rose was.disk.faults now.disk.faults
        → GivesLast Status.DiskFault status now.taken gave (codes "disk fault\n") → RunTold begin M was.blocks status falls old new
    unmade_by status found unopened unarmed printed unfallen rose (inl last) = by_status Status.DiskFault status last.0 (wrote_unmade begin M was.blocks first b old new now.taken falls found unopened unarmed printed unfallen last.1)
    unmade_by status found unopened unarmed printed unfallen rose (inr last) = by_status Status.WriteFault status last.0 (front_unmade begin M was.blocks first b old new now.taken falls found unopened unarmed printed unfallen rose last.1)

    -- ================ the whole

    outside_is : (begun : Outside) → IsBegun begin was begun → begun ≡ begun_outside begin old
    outside_is begun is = λ i. record { found = is.found i; taken = is.taken i; falls = is.falls i; syncs = is.synced i }

    -- a run that is told from such an outside, or that ended before its first opening
    pub run_told : (begun : Outside) → IsBegun begin was begun → (Left : Type 0) (r : Result (Unit {0}) Halt) (status : Status) → (EndedBefore Left r was now → begin.IsUnopened old new)
        → EndedBefore Left r was now ⊎ ((t : Standing V) × (Serves r → Fits t now) × RunBy M was.blocks r first t begun (outside now) now.disk left rest)
        → Leaves r was now → (Serves r → IsAtRest now.phase now.disk) → (r ≡ Err Halt.ReadFault → Rose r0 r1)
        → GivesLast (status_after r now.phase) status now.taken gave (last_text now.machine r now.phase now.view now.counts.lines) → RunTold begin M was.blocks status falls old new
    run_told begun is Left r status unopened (inl k) leaves rested read last =
        unmade_by status k.found (unopened k) k.armed k.printed k.falls (leaves.disk_fault k.fault)
        (subst (λ (q : Result (Unit {0}) Halt). GivesLast (status_after q now.phase) status now.taken gave (last_text now.machine q now.phase now.view now.counts.lines)) k.fault last)
    run_told begun is Left r status unopened (inr k) leaves rested read last =
        done_by r k.0 status (subst (λ (o : Outside). RunBy M was.blocks r first k.0 o (outside now) now.disk left rest) (outside_is begun is) k.2) k.1 leaves.sits rested leaves.machine read
        leaves.disk_fault last

  -- of a trial
  pub trial_done : (r : Result (Unit {0}) Halt) (status : Status) → RunDone r was now left rest → Leaves r was now → (Serves r → IsAtRest now.phase now.disk)
      → (r ≡ Err Halt.ReadFault → Rose r0 r1) → GivesLast (status_after r now.phase) status now.taken gave (last_text now.machine r now.phase now.view now.counts.lines) → TrialDone M was.blocks status falls old new
  trial_done r status =
      run_told (trial_beginning M) (first_standing M) (trial_begins M was.blocks) (made_outside was) (record { found = refl; taken = refl; falls = refl; synced = refl })
      (now.disk.syncs < was.disk.syncs + first_syncs) r status (λ k. (k.found, k.left))
