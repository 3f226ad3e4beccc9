-- Parts in which nothing was found and no cut came.
use Rattle.std.proofs.Common.{◌≡◌, ◌∙◌, ap, sym, subst, refl, ℕ, ◌+◌, ◌≤◌, List, [], ◌∷◌, length, append-nil, arith, Option, None, Bool, true, false, Result, Ok, Err, OnErr, OnOk, is_err}
use Rattle.std.proofs.KnownBytes.{Appends-nil}
use Rattle.std.specs.Io.KnownBytes.{Appends}
use Rattle.gd_base.specs.Judging.Machine.{Machine}
use Rattle.gd_base.specs.Outside.Causes.{AppendsFront}
use Rattle.gd_disk.specs.Disk.{DiskState}
use Rattle.gd_top.specs.Claims.MemoryLeft.{IsLeftIn}
use Rattle.gd_top.specs.Code.Parts.{Outside, Moves, Pending, Carries, CarriesBy, Differing, FoundSince, Ending, Broken, Unwritten, GivesText}
use Rattle.gd_top.specs.Code.Standing.{Standing, Later, EndsInNone, at, finds, only}
use Rattle.gd_top.specs.Run.Offers.{Rise}
use Rattle.gd_top.specs.Run.Starts.{starts_in}
use Rattle.gd_top.specs.Run.State.{State, Part, Outcome, Goes, Stops, prints, ends, before}
use Rattle.gd_top.specs.declared.halt.Halt.{Halt}

rise_from : (m n : ℕ) (later : List ℕ) → m ≤ n → Rise n later → Rise m later
rise_from m n [] le rise = tt
rise_from m n (k ∷ ks) le rise = (omega (arith, le, rise.0), rise.1)

pub ends_nowhere : (n : ℕ) → EndsInNone None n
ends_nowhere n m le = refl

-- ================ how giving a text ends

pub gives_no_disk_fault : (r : Result (Unit {0}) Halt) (u v : Option (List ℕ)) (text : List ℕ) → GivesText r u v text → r ≡ Err Halt.DiskFault → ⊥
gives_no_disk_fault r u v text gives is = subst (λ (q : Result (Unit {0}) Halt). GivesText q u v text) is gives

pub gives_no_read_fault : (r : Result (Unit {0}) Halt) (u v : Option (List ℕ)) (text : List ℕ) → GivesText r u v text → r ≡ Err Halt.ReadFault → ⊥
gives_no_read_fault r u v text gives is = subst (λ (q : Result (Unit {0}) Halt). GivesText q u v text) is gives

-- a text that was not given whole, and one that was
pub unwritten_of : (r : Result (Unit {0}) Halt) (u v : Option (List ℕ)) (text : List ℕ) → is_err r ≡ true → GivesText r u v text → (r ≡ Err Halt.WriteFault) × AppendsFront u v text
unwritten_of (Ok done) u v text e gives = absurd (cc e)
unwritten_of (Err Halt.ScriptFault) u v text e gives = absurd gives
unwritten_of (Err Halt.ReadFault) u v text e gives = absurd gives
unwritten_of (Err Halt.DiskFault) u v text e gives = absurd gives
unwritten_of (Err Halt.WriteFault) u v text e gives = (refl, gives)
unwritten_of (Err Halt.SetupDiffers) u v text e gives = absurd gives

pub written_of : (r : Result (Unit {0}) Halt) (u v : Option (List ℕ)) (text : List ℕ) → is_err r ≡ false → GivesText r u v text → Appends u v text
written_of (Ok done) u v text e gives = gives
written_of (Err halt) u v text e gives = absurd (cc e)

pub on_err_at : (r : Result (Unit {0}) Halt) (h : Halt) (P : Type 0) → OnErr r P → r ≡ Err h → P
on_err_at r h P p is = subst (λ (q : Result (Unit {0}) Halt). OnErr q P) is p

pub err_is : {T : Type 0} (h k : Halt) → (let r : Result T Halt = Err h in r) ≡ Err k → h ≡ k
err_is h k e = cc e

-- a result that was tested
pub err_of : {T E : Type 0} (r : Result T E) (P : Type 0) → is_err r ≡ true → OnErr r P → P
err_of (Ok x) P e p = absurd (cc e)
err_of (Err x) P e p = p

pub ok_of : {T E : Type 0} (r : Result T E) (P : Type 0) → is_err r ≡ false → OnOk r P → P
ok_of (Ok x) P e p = p
ok_of (Err x) P e p = absurd (cc e)

pub not_true : (b : Bool) → (b ≡ true → ⊥) → b ≡ false
not_true false never = refl
not_true true never = absurd (never refl)

-- a text, with nothing behind it
pub nothing_behind : {V : Type 0} (text : List ℕ) (s : State V) (o : Outcome)
    → (let t : Part V = record { report = text; state = s; outcome = o } in t) ≡ before text (record { report = []; state = s; outcome = o })
nothing_behind {V} text s o = ap (λ (r : List ℕ). let t : Part V = record { report = r; state = s; outcome = o } in t) (sym (append-nil text))

module _ {V : Type 0} where
  -- the counts of a part without a fall
  pub moves_on : (a b : Standing V) (u v : Outside) → a.offers ≤ b.offers → a.fell ≤ b.fell → v.syncs + a.syncs ≡ u.syncs + b.syncs → Moves a b u v []
  moves_on a b u v offers falls syncs = record { offers = offers; falls = falls; rising = λ later rise. rise_from a.offers b.offers later offers rise; synced = λ same. syncs }

  pub moves_not : (a : Standing V) (u : Outside) → Moves a a u u []
  moves_not a u = moves_on a a u u (omega arith) (omega arith) refl

module _ {V : Type 0} (M : Machine V) where
  -- no image was found
  abbrev pub found_none : (a b : List (List ℕ)) → b ≡ a → FoundSince M a b
  found_none a b e = record { since = []; listed = e ∙ sym (append-nil a); used = []; unread = []; read = refl; few = omega arith }

  -- a part without a fault of the disk or of the sink
  pub carries_text : (tell : State V → Part V) (o : Outcome) (a b : Standing V) (u v : Outside) (text : List ℕ) → v.found ≡ u.found → v.falls ≡ u.falls → Moves a b u v []
      → ((x : Later V) → EndsInNone x.broken_at b.offers → tell (at a x) ≡ record { report = text; state = at b x; outcome = o }) → Appends u.taken v.taken text → Carries M tell o a b u v
  carries_text tell o a b u v text found falls moves tells printed = record {
    since = [];
    listed = found ∙ sym (append-nil u.found);
    fell = [];
    fallen = falls ∙ sym (append-nil u.falls);
    report = text;
    printed = printed;
    moves = moves;
    tells = λ x whole rise. tells x whole ∙ nothing_behind text (at b x) o;
  }

  -- a text was given, or a front of it, in an offer, which is whole where no later fall has its number
  pub said_whole : (r : Result (Unit {0}) Halt) (tell : State V → Part V) (a b : Standing V) (u v : Outside) (disk : DiskState) (text : List ℕ) → v.found ≡ u.found → v.falls ≡ u.falls → Moves a b u v []
      → ((x : Later V) → EndsInNone x.broken_at b.offers → Rise b.offers x.falls → tell (at a x) ≡ prints text (at b x))
      → (b.forged ≡ 0 → (b.other_views ≡ 0) × (b.other_locks ≡ 0)) → length disk.armed ≡ length b.armed → IsLeftIn M b.phase b.view b.masks disk
      → GivesText r u.taken v.taken text → CarriesBy r M tell a b u v disk
  said_whole (Ok done) tell a b u v disk text found falls moves tells clear armed left gives = record {
    since = [];
    listed = found ∙ sym (append-nil u.found);
    fell = [];
    fallen = falls ∙ sym (append-nil u.falls);
    report = text;
    printed = gives;
    moves = moves;
    tells = λ x whole rise. tells x whole rise ∙ nothing_behind text (at b x) Goes;
  }
  said_whole (Err Halt.ScriptFault) tell a b u v disk text found falls moves tells clear armed left gives = absurd gives
  said_whole (Err Halt.ReadFault) tell a b u v disk text found falls moves tells clear armed left gives = absurd gives
  said_whole (Err Halt.DiskFault) tell a b u v disk text found falls moves tells clear armed left gives = absurd gives
  said_whole (Err Halt.SetupDiffers) tell a b u v disk text found falls moves tells clear armed left gives = absurd gives
  said_whole (Err Halt.WriteFault) tell a b u v disk text found falls moves tells clear armed left gives = record {
    ending = record {
      found = found_none u.found v.found found;
      fell = [];
      fallen = falls ∙ sym (append-nil u.falls);
      rising = tt;
      broken_at = None;
      late = ends_nowhere a.offers;
      end = prints text (at b (only [] [] None));
      tells = tells (only [] [] None) (ends_nowhere b.offers) tt;
      used_up = (refl, refl);
      explained = clear;
    };
    printed = gives;
    armed = armed;
    left = left;
  }

  -- and in no offer
  pub said : (r : Result (Unit {0}) Halt) (tell : State V → Part V) (a b : Standing V) (u v : Outside) (disk : DiskState) (text : List ℕ) → v.found ≡ u.found → v.falls ≡ u.falls → Moves a b u v []
      → ((x : Later V) → EndsInNone x.broken_at b.offers → tell (at a x) ≡ prints text (at b x))
      → (b.forged ≡ 0 → (b.other_views ≡ 0) × (b.other_locks ≡ 0)) → length disk.armed ≡ length b.armed → IsLeftIn M b.phase b.view b.masks disk
      → GivesText r u.taken v.taken text → CarriesBy r M tell a b u v disk
  said r tell a b u v disk text found falls moves tells clear armed left gives = said_whole r tell a b u v disk text found falls moves (λ x whole rise. tells x whole) clear armed left gives

  -- a script fault
  pub stops_here : (tell : State V → Part V) (a : Standing V) (u : Outside) → ((x : Later V) → tell (at a x) ≡ ends Stops [] (at a x)) → Carries M tell Stops a a u u
  stops_here tell a u tells = carries_text tell Stops a a u u [] refl refl (moves_not a u) (λ x whole. tells x) (Appends-nil u.taken)

  -- nothing to do
  pub goes_here : (tell : State V → Part V) (a : Standing V) (u : Outside) → ((x : Later V) → tell (at a x) ≡ prints [] (at a x)) → Carries M tell Goes a a u u
  goes_here tell a u tells = carries_text tell Goes a a u u [] refl refl (moves_not a u) (λ x whole. tells x) (Appends-nil u.taken)

  -- ================ told alike in the states that come

  pub pending_at : (f g h : State V → Part V) (a b : Standing V) (u v : Outside) → ((x : Later V) → g (at a x) ≡ f (at a x)) → Pending M f h a b u v → Pending M g h a b u v
  pending_at f g h a b u v same p = record {
    since = p.since;
    listed = p.listed;
    fell = p.fell;
    fallen = p.fallen;
    report = p.report;
    printed = p.printed;
    moves = p.moves;
    tells = λ x whole rise. same (finds (starts_in M p.since) p.fell x) ∙ p.tells x whole rise;
  }

  -- and what is still to be told
  pub pending_rest : (f h k : State V → Part V) (a b : Standing V) (u v : Outside) → ((x : Later V) → h (at b x) ≡ k (at b x)) → Pending M f h a b u v → Pending M f k a b u v
  pending_rest f h k a b u v same p = record {
    since = p.since;
    listed = p.listed;
    fell = p.fell;
    fallen = p.fallen;
    report = p.report;
    printed = p.printed;
    moves = p.moves;
    tells = λ x whole rise. p.tells x whole rise ∙ ap (before p.report) (same x);
  }

  abbrev pub ending_at : (f g : State V → Part V) (a : Standing V) (u v : Outside) → ((x : Later V) → g (at a x) ≡ f (at a x)) → Ending M f a u v → Ending M g a u v
  ending_at f g a u v same k = record {
    found = k.found;
    fell = k.fell;
    fallen = k.fallen;
    rising = k.rising;
    broken_at = k.broken_at;
    late = k.late;
    end = k.end;
    tells = same (only k.found.used k.fell k.broken_at) ∙ k.tells;
    used_up = k.used_up;
    explained = k.explained;
  }

  pub broken_at : (f g : State V → Part V) (a : Standing V) (u v : Outside) (disk : DiskState) → ((x : Later V) → g (at a x) ≡ f (at a x)) → Broken M f a u v disk → Broken M g a u v disk
  broken_at f g a u v disk same k = record { ending = ending_at f g a u v same k.ending; breaks = k.breaks; printed = k.printed; armed = k.armed; left = k.left }

  pub differing_at : (f g : State V → Part V) (a b : Standing V) (u v : Outside) (disk : DiskState) → ((x : Later V) → g (at a x) ≡ f (at a x)) → Differing M f a b u v disk → Differing M g a b u v disk
  differing_at f g a b u v disk same k = record { carried = pending_at f g _ a b u v same k.carried; armed = k.armed; explained = k.explained; left = k.left }

  pub unwritten_at : (f g : State V → Part V) (a : Standing V) (u v : Outside) (disk : DiskState) → ((x : Later V) → g (at a x) ≡ f (at a x)) → Unwritten M f a u v disk → Unwritten M g a u v disk
  unwritten_at f g a u v disk same k = record { ending = ending_at f g a u v same k.ending; printed = k.printed; armed = k.armed; left = k.left }

  pub as_at : (r : Result (Unit {0}) Halt) (f g : State V → Part V) (a b : Standing V) (u v : Outside) (disk : DiskState) → ((x : Later V) → g (at a x) ≡ f (at a x)) → CarriesBy r M f a b u v disk → CarriesBy r M g a b u v disk
  as_at (Ok done) f g a b u v disk same h = pending_at f g _ a b u v same h
  as_at (Err Halt.ScriptFault) f g a b u v disk same h = pending_at f g _ a b u v same h
  as_at (Err Halt.ReadFault) f g a b u v disk same h = absurd h
  as_at (Err Halt.DiskFault) f g a b u v disk same h = broken_at f g a u v disk same h
  as_at (Err Halt.WriteFault) f g a b u v disk same h = unwritten_at f g a u v disk same h
  as_at (Err Halt.SetupDiffers) f g a b u v disk same h = differing_at f g a b u v disk same h
