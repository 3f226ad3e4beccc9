-- One step of the loop over lines: a line is carried out, behind the lines so far.
use Rattle.std.proofs.Common.{◌≡◌, ◌∙◌, ap, sym, subst, refl, ℕ, ◌+◌, ◌<◌, List, [], ◌∷◌, ◌++◌, Bool, true, false, arith, Option, Result, Ok, Err, is_err}
use Rattle.std.specs.Io.KnownBytes.{Consumes}
use Rattle.gd_base.specs.Outside.Causes.{Rose}
use Rattle.gd_top.specs.Code.LinesDone.{LinesSoFar, LinesDone}
use Rattle.gd_top.specs.Code.Memory.{Moment, Fits, Leaves, CarriesOut, outside}
use Rattle.gd_top.specs.Code.Parts.{CarriesBy}
use Rattle.gd_top.specs.Code.Standing.{Standing}
use Rattle.gd_top.specs.Run.Items.{line_meaning, lines_meaning}
use Rattle.gd_top.specs.Script.Kinds.{line_alone}
use Rattle.gd_top.specs.Script.LineTaken.{TakesEnd, TakesLine}
use Rattle.gd_top.specs.Script.Lines.{HasNoEnd, line_of}
use Rattle.gd_top.specs.declared.halt.Halt.{Halt}
use Rattle.gd_top.specs.declared.script.reader.TheConstants.{MOST_LINES}
use Rattle.gd_top.proofs.LineLemmas.Alike.{alike_by}
use Rattle.gd_top.proofs.LineLemmas.Counted.{after_line, counted_line}
use Rattle.gd_top.proofs.LineLemmas.Exits.{line_ends, lines_on}
use Rattle.gd_top.proofs.RunLemmas.Said.{err_is}

pub went_on : (r : Result (Unit {0}) Halt) → is_err r ≡ false → r ≡ Ok tt
went_on (Ok done) e = refl
went_on (Err halt) e = absurd (cc e)

-- a line that was taken whole
pub taken_whole : (old new : Option (List ℕ)) (line : List ℕ) (b : Bool) → b ≡ true → TakesLine old new line (Ok b) → Consumes old new (line ++ 10 ∷ [])
taken_whole old new line b e t = subst (λ (q : Bool). TakesLine old new line (Ok q)) e t

pub taken_none : (old new : Option (List ℕ)) (line : List ℕ) (b : Bool) → b ≡ false → TakesLine old new line (Ok b) → TakesLine old new line (Ok false)
taken_none old new line b e t = subst (λ (q : Bool). TakesLine old new line (Ok q)) e t

module _ {V : Type 0} where
  -- the lines that came so far were carried out
  abbrev pub SoFar : (was now : Moment V) → (left rest : Option (List ℕ)) → Type 0
  SoFar was now left rest = (s : Standing V) → Fits s was
      → (t : Standing V) × Fits t now × LinesSoFar was.machine (lines_meaning was.machine was.blocks) s t (outside was) (outside now) left rest

  pub err_line : (r : Result (Unit {0}) Halt) (s : Standing V) → is_err r ≡ true → after_line r s ≡ s
  err_line (Ok done) s e = absurd (cc e)
  err_line (Err halt) s e = refl

  -- a line over the machine and the blocks of before, with its place
  step : (was mid next : Moment V) (r : Result (Unit {0}) Halt) (line bytes : List ℕ) (t u : Standing V) → Leaves (Ok tt) was mid → t.lines < MOST_LINES → bytes ≡ line
      → CarriesBy r mid.machine (line_alone mid.machine mid.blocks (line_of bytes)) t u (outside mid) (outside next) next.disk
      → CarriesBy r was.machine (line_meaning was.machine was.blocks (line_of line)) t (after_line r u) (outside mid) (outside next) next.disk
  step was mid next r line bytes t u left few is q =
      counted_line was.machine was.blocks r (line_of line) t u (outside mid) (outside next) next.disk few
      (alike_by was.machine mid.machine was.blocks mid.blocks (λ M B. line_alone M B (line_of line)) r t u (outside mid) (outside next) next.disk left.machine left.blocks
      (subst (λ (bs : List ℕ). CarriesBy r mid.machine (line_alone mid.machine mid.blocks (line_of bs)) t u (outside mid) (outside next) next.disk) is q))

  pub line_halts : (was mid next : Moment V) (r : Result (Unit {0}) Halt) (left ahead later rest : Option (List ℕ)) (line bytes : List ℕ) → SoFar was mid left ahead → Leaves (Ok tt) was mid
      → mid.counts.lines < MOST_LINES → bytes ≡ line → HasNoEnd line → Consumes ahead later (line ++ 10 ∷ []) → is_err r ≡ true → CarriesOut (λ M B. line_alone M B (line_of bytes)) r mid next
      → LinesDone r was next left rest
  line_halts was mid next r left ahead later rest line bytes so_far leaves few is no_end taken err out s fits =
      let k = so_far s fits in
      let t = k.0 in
      let q = out t k.1 in
      let u = q.0 in
      let lines : t.lines < MOST_LINES = subst (λ (n : ℕ). n < MOST_LINES) (sym k.1.lines) few in
      let by = step was mid next r line bytes t u leaves lines is q.2 in
      let by_u = subst (λ (z : Standing V). CarriesBy r was.machine (line_meaning was.machine was.blocks (line_of line)) t z (outside mid) (outside next) next.disk) (err_line r u err) by in
      (u, q.1, line_ends was.machine was.blocks s t (outside was) (outside mid) left ahead later k.2 r u (outside next) next.disk rest line err no_end taken by_u)

  pub line_goes : (was mid next : Moment V) (r : Result (Unit {0}) Halt) (left ahead later : Option (List ℕ)) (line bytes : List ℕ) → SoFar was mid left ahead → Leaves (Ok tt) was mid
      → mid.counts.lines < MOST_LINES → bytes ≡ line → HasNoEnd line → Consumes ahead later (line ++ 10 ∷ []) → r ≡ Ok tt → CarriesOut (λ M B. line_alone M B (line_of bytes)) r mid next
      → SoFar was (record next { counts = record next.counts { lines = next.counts.lines + 1 } }) left later
  line_goes was mid next r left ahead later line bytes so_far leaves few is no_end taken went out s fits =
      let k = so_far s fits in
      let t = k.0 in
      let q = subst (λ (z : Result (Unit {0}) Halt). CarriesOut (λ M B. line_alone M B (line_of bytes)) z mid next) went out t k.1 in
      let u = q.0 in
      let f = q.1 tt in
      let lines : t.lines < MOST_LINES = subst (λ (n : ℕ). n < MOST_LINES) (sym k.1.lines) few in
      let by = step was mid next (Ok tt) line bytes t u leaves lines is q.2 in (
        record u { lines = u.lines + 1 },
        record { phase = f.phase; trial = f.trial; known = f.known; lines = ap (λ (n : ℕ). n + 1) f.lines; power_ons = f.power_ons; lap = f.lap; offers = f.offers; armed = f.armed; spelled = f.spelled; holds = f.holds; bad = f.bad; explained = f.explained },
        lines_on was.machine was.blocks s t (record u { lines = u.lines + 1 }) (outside was) (outside mid) (outside next) next.disk left ahead later line no_end k.2 taken by,
      )

  -- what two parts leave
  pub leaves_then : (a b c : Moment V) (r : Result (Unit {0}) Halt) → Leaves (Ok tt) a b → Leaves r b c → Leaves r a c
  leaves_then a b c r p q = record {
    sits = q.sits;
    no_fault = λ serves. q.no_fault serves ∙ p.no_fault tt;
    disk_fault = λ is. subst (λ (n : ℕ). Rose n c.disk.faults) (p.no_fault tt) (q.disk_fault is);
    later = omega (arith, p.later, q.later);
    write_fault = λ is. omega (arith, p.later, q.write_fault is);
    machine = q.machine ∙ p.machine;
    blocks = λ lap index. q.blocks lap index ∙ p.blocks lap index;
  }

  -- neither the disk nor the sink failed
  pub leaves_as : (a b : Moment V) (r : Result (Unit {0}) Halt) → (r ≡ Err Halt.DiskFault → ⊥) → (r ≡ Err Halt.WriteFault → ⊥) → Leaves (Ok tt) a b → Leaves r a b
  leaves_as a b r disk write p = record {
    sits = λ serves. p.sits tt;
    no_fault = λ serves. p.no_fault tt;
    disk_fault = λ is. absurd (disk is);
    later = p.later;
    write_fault = λ is. absurd (write is);
    machine = p.machine;
    blocks = p.blocks;
  }

  pub leaves_at_line : (a b : Moment V) (h : Halt) (old new : Option (List ℕ)) (line : List ℕ) → TakesLine old new line (Err h) → Leaves (Ok tt) a b → Leaves (Err h) a b
  leaves_at_line a b h old new line taken p =
      leaves_as a b (Err h) (λ is. subst (λ (k : Halt). TakesLine old new line (Err k)) (err_is h Halt.DiskFault is) taken) (λ is. subst (λ (k : Halt). TakesLine old new line (Err k)) (err_is h Halt.WriteFault is) taken) p

  pub leaves_at_end : (a b : Moment V) (r : Result (Unit {0}) Halt) (old new : Option (List ℕ)) → TakesEnd old new r → Leaves (Ok tt) a b → Leaves r a b
  leaves_at_end a b r old new taken p =
      leaves_as a b r (λ is. subst (λ (q : Result (Unit {0}) Halt). TakesEnd old new q) is taken) (λ is. subst (λ (q : Result (Unit {0}) Halt). TakesEnd old new q) is taken) p

  -- the count of lines is no part of it
  pub recounted : (a b : Moment V) (r : Result (Unit {0}) Halt) (n : ℕ) → Leaves r a b → Leaves r a (record b { counts = record b.counts { lines = n } })
  recounted a b r n p = record {
    sits = λ serves.
        let s = p.sits serves in
        record { tells = s.tells; given = s.given; size = s.size; power = s.power; runs = s.runs; same_lap = s.same_lap; laps = s.laps; falls = s.falls; counted = record { calls = s.counted.calls; waiting = s.counted.waiting; room = s.counted.room }; settled = s.settled; synced = s.synced };
    no_fault = p.no_fault;
    disk_fault = p.disk_fault;
    later = p.later;
    write_fault = p.write_fault;
    machine = p.machine;
    blocks = p.blocks;
  }
