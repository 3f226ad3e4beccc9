-- Parts of the code that were carried out one after another.
use Rattle.std.proofs.Common.{◌≡◌, ◌∙◌, ap, sym, subst, refl, ℕ, ◌≤◌, List, [], ◌∷◌, ◌++◌, append_assoc, append-nil, arith, Option, Result, Ok, Err}
use Rattle.std.proofs.KnownBytes.{Appends-trans}
use Rattle.std.specs.Io.KnownBytes.{Appends}
use Rattle.gd_base.specs.Outside.Causes.{AppendsFront}
use Rattle.gd_base.specs.Judging.Machine.{Machine}
use Rattle.gd_disk.specs.Disk.{DiskState}
use Rattle.gd_top.specs.declared.halt.Halt.{Halt}
use Rattle.gd_top.specs.Code.Parts.{Outside, Moves, Pending, Carries, CarriesBy, Differing, FoundSince, Ending, Broken, Unwritten}
use Rattle.gd_top.specs.Code.Standing.{Standing, Later, EndsInNone, at, finds, only}
use Rattle.gd_top.specs.Run.Offers.{Rise}
use Rattle.gd_top.specs.Run.Starts.{start_in, starts_in}
use Rattle.gd_top.specs.Run.State.{Start, State, Part, Outcome, Goes, Differs, before, followed_by, goes_on}
use Rattle.gd_top.proofs.RunLemmas.Joins.{before_before}

pub fewer : (b : Option ℕ) (m n : ℕ) → m ≤ n → EndsInNone b n → EndsInNone b m
fewer b m n le whole k kle = whole k (omega (arith, le, kle))

pub front_then : (a b c : Option (List ℕ)) (p q : List ℕ) → Appends a b p → AppendsFront b c q → AppendsFront a c (p ++ q)
front_then a b c p q h k = record {
  front = p ++ k.front;
  rest = k.rest;
  whole = append_assoc p k.front k.rest ∙ ap (λ (u : List ℕ). p ++ u) k.whole;
  appended = Appends-trans a b c p k.front h k.appended;
}

pub listed_then : {A : Type 0} (a b c xs ys : List A) → b ≡ a ++ xs → c ≡ b ++ ys → c ≡ a ++ (xs ++ ys)
listed_then {A} a b c xs ys e f = f ∙ ap (λ (u : List A). u ++ ys) e ∙ append_assoc a xs ys

module _ {V : Type 0} (M : Machine V) where
  pub starts_append : (xs ys : List (List ℕ)) → starts_in M (xs ++ ys) ≡ starts_in M xs ++ starts_in M ys
  starts_append [] ys = refl
  starts_append (x ∷ xs) ys = ap (λ (zs : List (Start V)). start_in M x ∷ zs) (starts_append xs ys)

  finds_both : (xs ys : List (List ℕ)) (f g : List ℕ) (x : Later V) → finds (starts_in M (xs ++ ys)) (f ++ g) x ≡ finds (starts_in M xs) f (finds (starts_in M ys) g x)
  finds_both xs ys f g x =
      let starts = ap (λ (ss : List (Start V)). ss ++ x.starts) (starts_append xs ys) ∙ append_assoc (starts_in M xs) (starts_in M ys) x.starts in
      let falls = append_assoc f g x.falls in
      λ i. record { starts = starts i; falls = falls i; broken_at = x.broken_at }

  moves_then : (a b c : Standing V) (u v w : Outside) (f g : List ℕ) → Moves a b u v f → Moves b c v w g → Moves a c u w (f ++ g)
  moves_then a b c u v w f g p q = record {
    offers = omega (arith, p.offers, q.offers);
    falls = omega (arith, p.falls, q.falls);
    rising = λ later rise. subst (Rise a.offers) (sym (append_assoc f g later)) (p.rising (g ++ later) (q.rising later rise));
    synced = λ none.
        let first : b.fell ≡ a.fell = omega (arith, p.falls, q.falls, none) in
        omega (arith, p.synced first, q.synced (omega (arith, none, first)));
  }

  pub pending_then : (f g h : State V → Part V) (a b c : Standing V) (u v w : Outside) → Pending M f g a b u v → Pending M g h b c v w → Pending M f h a c u w
  pending_then f g h a b c u v w p q = record {
    since = p.since ++ q.since;
    listed = listed_then u.found v.found w.found p.since q.since p.listed q.listed;
    fell = p.fell ++ q.fell;
    fallen = listed_then u.falls v.falls w.falls p.fell q.fell p.fallen q.fallen;
    report = p.report ++ q.report;
    printed = Appends-trans u.taken v.taken w.taken p.report q.report p.printed q.printed;
    moves = moves_then a b c u v w p.fell q.fell p.moves q.moves;
    tells = λ x whole rise.
        let y = finds (starts_in M q.since) q.fell x in
        ap (λ (z : Later V). f (at a z)) (finds_both p.since q.since p.fell q.fell x)
        ∙ p.tells y (fewer x.broken_at b.offers c.offers q.moves.offers whole) (q.moves.rising x.falls rise)
        ∙ ap (before p.report) (q.tells x whole rise)
        ∙ before_before p.report q.report (h (at c x));
  }

  abbrev pub found_then : (a b c : List (List ℕ)) (xs : List (List ℕ)) → b ≡ a ++ xs → FoundSince M b c → FoundSince M a c
  found_then a b c xs e k = record {
    since = xs ++ k.since;
    listed = listed_then a b c xs k.since e k.listed;
    used = starts_in M xs ++ k.used;
    unread = k.unread;
    read = starts_append xs k.since ∙ ap (λ (ss : List (Start V)). starts_in M xs ++ ss) k.read ∙ sym (append_assoc (starts_in M xs) k.used k.unread);
    few = k.few;
  }

  abbrev pub ending_then : (f g : State V → Part V) (a b : Standing V) (u v w : Outside) → Pending M f g a b u v → Ending M g b v w → Ending M f a u w
  ending_then f g a b u v w p k = record {
    found = found_then u.found v.found w.found p.since p.listed k.found;
    fell = p.fell ++ k.fell;
    fallen = listed_then u.falls v.falls w.falls p.fell k.fell p.fallen k.fallen;
    rising = p.moves.rising k.fell k.rising;
    broken_at = k.broken_at;
    late = fewer k.broken_at a.offers b.offers p.moves.offers k.late;
    end = before p.report k.end;
    tells = p.tells (only k.found.used k.fell k.broken_at) k.late k.rising ∙ ap (before p.report) k.tells;
    used_up = k.used_up;
    explained = k.explained;
  }

  pub broken_then : (f g : State V → Part V) (a b : Standing V) (u v w : Outside) (disk : DiskState) → Pending M f g a b u v → Broken M g b v w disk → Broken M f a u w disk
  broken_then f g a b u v w disk p k = record {
    ending = ending_then f g a b u v w p k.ending;
    breaks = k.breaks;
    printed = Appends-trans u.taken v.taken w.taken p.report k.ending.end.report p.printed k.printed;
    armed = k.armed;
    left = k.left;
  }

  pub differing_then : (f g : State V → Part V) (a b c : Standing V) (u v w : Outside) (disk : DiskState) → Pending M f g a b u v → Differing M g b c v w disk → Differing M f a c u w disk
  differing_then f g a b c u v w disk p k = record { carried = pending_then f g _ a b c u v w p k.carried; armed = k.armed; explained = k.explained; left = k.left }

  pub unwritten_then : (f g : State V → Part V) (a b : Standing V) (u v w : Outside) (disk : DiskState) → Pending M f g a b u v → Unwritten M g b v w disk → Unwritten M f a u w disk
  unwritten_then f g a b u v w disk p k = record {
    ending = ending_then f g a b u v w p k.ending;
    printed = front_then u.taken v.taken w.taken p.report k.ending.end.report p.printed k.printed;
    armed = k.armed;
    left = k.left;
  }

  pub then_by : (r : Result (Unit {0}) Halt) (f g : State V → Part V) (a b c : Standing V) (u v w : Outside) (disk : DiskState) → Pending M f g a b u v → CarriesBy r M g b c v w disk → CarriesBy r M f a c u w disk
  then_by (Ok done) f g a b c u v w disk p k = pending_then f g _ a b c u v w p k
  then_by (Err Halt.ScriptFault) f g a b c u v w disk p k = pending_then f g _ a b c u v w p k
  then_by (Err Halt.ReadFault) f g a b c u v w disk p k = absurd k
  then_by (Err Halt.DiskFault) f g a b c u v w disk p k = broken_then f g a b u v w disk p k
  then_by (Err Halt.WriteFault) f g a b c u v w disk p k = unwritten_then f g a b u v w disk p k
  then_by (Err Halt.SetupDiffers) f g a b c u v w disk p k = differing_then f g a b c u v w disk p k

  -- a part that ended the run, whatever follows it
  pub ended_of : (o : Outcome) → ((t : Part V) (next : State V → Part V) → goes_on o t next ≡ t) → (f g : State V → Part V) (a b : Standing V) (u v : Outside) → Carries M f o a b u v → Carries M (λ s. followed_by (f s) g) o a b u v
  ended_of o stays f g a b u v p = record {
    since = p.since;
    listed = p.listed;
    fell = p.fell;
    fallen = p.fallen;
    report = p.report;
    printed = p.printed;
    moves = p.moves;
    tells = λ x whole rise. ap (λ (t : Part V). followed_by t g) (p.tells x whole rise) ∙ stays (before p.report (record { report = []; state = at b x; outcome = o })) g;
  }

  -- where a memory of another setup was found
  pub differing_of : (f g : State V → Part V) (a b : Standing V) (u v : Outside) (disk : DiskState) → Differing M f a b u v disk → Differing M (λ s. followed_by (f s) g) a b u v disk
  differing_of f g a b u v disk k = record { carried = ended_of Differs (λ t next. refl) f g a b u v k.carried; armed = k.armed; explained = k.explained; left = k.left }

  -- a part that went on, and then what follows it
  abbrev pub pending_of : (f g : State V → Part V) (a b : Standing V) (u v : Outside) → Carries M f Goes a b u v → Pending M (λ s. followed_by (f s) g) g a b u v
  pending_of f g a b u v p = record {
    since = p.since;
    listed = p.listed;
    fell = p.fell;
    fallen = p.fallen;
    report = p.report;
    printed = p.printed;
    moves = p.moves;
    tells = λ x whole rise.
        let nothing : before p.report (record { report = []; state = at b x; outcome = Goes }) ≡ record { report = p.report; state = at b x; outcome = Goes } =
        ap (λ (r : List ℕ). let t : Part V = record { report = r; state = at b x; outcome = Goes } in t) (append-nil p.report) in
        ap (λ (t : Part V). followed_by t g) (p.tells x whole rise ∙ nothing);
  }
