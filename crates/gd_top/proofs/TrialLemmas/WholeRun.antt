-- A whole run as it is told, from what was carried out and what the sink took.
use Rattle.std.proofs.Common.{◌≡◌, inl, inr, ◌∙◌, ap, sym, subst, refl, ℕ, ◌+◌, List, [], ◌∷◌, ◌++◌, length, append-nil, arith, codes, Option, None, Some, IfSome}
use Rattle.std.proofs.KnownBytes.{Appends-trans}
use Rattle.std.specs.Io.KnownBytes.{Appends, Consumes}
use Rattle.gd_base.specs.Outside.Causes.{AppendsFront, Rose}
use Rattle.gd_base.specs.Judging.Machine.{Machine, Blocks}
use Rattle.gd_script.specs.declared.item.Item.{Item}
use Rattle.gd_top.specs.Claims.MemoryLeft.{IsExplained, IsLeft, IsLeftAfter, IsLeftAt}
use Rattle.gd_top.specs.Claims.OneHistory.{HasLegalHistory}
use Rattle.gd_top.specs.Claims.Runs.{Outer, Beginning, IsWhole, WroteReport, WroteToFault, FirstLines, WroteBroken, WroteFront, IsLastLine, trial_beginning}
use Rattle.gd_top.specs.Code.LinesDone.{ScriptOf, CarriedTaken, BrokenIn, UnwrittenIn}
use Rattle.gd_top.specs.Code.Parts.{Outside, Carries, Ending, Unwritten}
use Rattle.gd_top.specs.Code.Standing.{Standing, at, only, first_standing}
use Rattle.gd_top.specs.Run.Items.{line_meaning, lines_meaning}
use Rattle.gd_top.specs.Run.Life.{run_meaning, status_of, last_line}
use Rattle.gd_top.specs.Run.Offers.{AreArmed}
use Rattle.gd_top.specs.Run.Openings.{Done, power_on}
use Rattle.gd_top.specs.Run.Starts.{starts_in}
use Rattle.gd_top.specs.Run.State.{Nothing, Start, State, Part, Outcome, Goes, Breaks, ends, followed_by}
use Rattle.gd_top.specs.Script.Lines.{script_of, whole_lines}
use Rattle.gd_top.specs.declared.status.Status.{Status}
use Rattle.gd_top.proofs.RunLemmas.Equations.{no_start}
use Rattle.gd_top.proofs.RunLemmas.Joins.{run_append, goes_on_nothing}
use Rattle.gd_top.proofs.RunLemmas.Legal.{one_legal_history}
use Rattle.gd_top.proofs.RunLemmas.Parts.{pending_of, ending_then, front_then}
use Rattle.gd_top.proofs.RunLemmas.Said.{nothing_behind, ends_nowhere, ending_at}

-- ================ bytes

-- what goes on with nothing more
front_still : (a b c : Option (List ℕ)) (text : List ℕ) → AppendsFront a b text → Appends b c [] → AppendsFront a c text
front_still a b c text p q = record {
  front = p.front;
  rest = p.rest;
  whole = p.whole;
  appended = subst (λ (xs : List ℕ). Appends a c xs) (append-nil p.front) (Appends-trans a b c p.front [] p.appended q);
}

-- a script whose first bytes came
came_of : (left rest : Option (List ℕ)) (came : List ℕ) → Consumes left rest came → (more : List ℕ) × IfSome left (λ bytes. bytes ≡ came ++ more)
came_of None rest came t = ([], tt)
came_of (Some bytes) None came t = absurd t
came_of (Some bytes) (Some more) came t = (more, t)

-- the script of a source, or an empty one where it tells none
abbrev source_of : (left : Option (List ℕ)) → ScriptOf left
source_of None = record { script = []; of_source = tt }
source_of (Some bytes) = record { script = bytes; of_source = refl }

-- ================ how a run begins

-- A beginning, by the standing before the first opening: nothing is armed, no sync of an offer was made and no fall came. Runs from
-- there have one legal history.
pub record BeginsAt {V : Type 0} (begin : Beginning V) (M : Machine V) (B : Blocks) (first : Standing V) : Type 0 where
  pub is_first : (falls : List ℕ) (starts : List (Start V)) (broken_at : Option ℕ) → begin.state falls starts broken_at ≡ at first (only starts falls broken_at)
  pub legal : (lines : List (Option Item)) (falls : List ℕ) (starts : List (Start V)) (broken_at : Option ℕ)
      → HasLegalHistory M B (run_meaning M B lines (begin.state falls starts broken_at)).state
  pub unarmed : first.armed ≡ []
  pub unfallen : first.fell ≡ 0
  pub unsynced : first.syncs ≡ 0
  pub explained : IsExplained (at first (only [] [] None))

-- a trial begins so, once its memory was made
abbrev pub trial_begins : {V : Type 0} (M : Machine V) (B : Blocks) → BeginsAt (trial_beginning M) M B (first_standing M)
trial_begins M B = record {
  is_first = λ falls starts broken_at. refl;
  legal = one_legal_history M B;
  unarmed = refl;
  unfallen = refl;
  unsynced = refl;
  explained = λ none. (refl, refl);
}

-- the outside before the first opening
abbrev pub begun_outside : {V : Type 0} → Beginning V → Outer → Outside
begun_outside begin was = record { found = []; taken = was.taken; falls = []; syncs = was.disk.syncs + begin.syncs }

-- ================ runs

module _ {V : Type 0} (begin : Beginning V) (M : Machine V) (B : Blocks) (first : Standing V) (b : BeginsAt begin M B first) where
  -- a line alone
  one_line : (line : Option Item) (s : State V) → lines_meaning M B (line ∷ []) s ≡ line_meaning M B line s
  one_line line s = goes_on_nothing (line_meaning M B line s)

  opening_alone : (s : State V) → run_meaning M B [] s ≡ power_on M B Nothing Done s
  opening_alone s = goes_on_nothing (power_on M B Nothing Done s)

  -- what is told of a run, from its beginning
  abbrev pub told : (lines : List (Option Item)) (falls : List ℕ) (starts : List (Start V)) (ends_at : Option ℕ) → Part V
  told lines falls starts ends_at = run_meaning M B lines (begin.state falls starts ends_at)

  pub told_at : (lines : List (Option Item)) (falls : List ℕ) (starts : List (Start V)) (ends_at : Option ℕ)
      → run_meaning M B lines (at first (only starts falls ends_at)) ≡ told lines falls starts ends_at
  told_at lines falls starts ends_at = ap (λ (s : State V). run_meaning M B lines s) (sym (b.is_first falls starts ends_at))

  pub legal_at : (run : Part V) (lines : List (Option Item)) (falls : List ℕ) (starts : List (Start V)) (ends_at : Option ℕ) → run ≡ told lines falls starts ends_at
      → HasLegalHistory M B run.state
  legal_at run lines falls starts ends_at is = subst (λ (t : Part V). HasLegalHistory M B t.state) (sym is) (b.legal lines falls starts ends_at)

  -- `mid` is what the sink had taken before the last line of the report, and `falls` are those that are given back
  module _ (was now : Outer) (mid : Option (List ℕ)) (falls : List ℕ) where
    abbrev pub made : Outside
    made = begun_outside begin was

    abbrev pub ended : Outside
    ended = record { found = now.disk.found; taken = mid; falls = falls; syncs = now.disk.syncs }

    -- ================ lines that were carried out

    module _ (o : Outcome) (lines : List (Option Item)) (t : Standing V) (k : Carries M (run_meaning M B lines) o first t made ended) where
      abbrev pub run : Part V
      run = record { report = k.report; state = at t (only [] [] None); outcome = o }

      pub run_is : run ≡ told lines falls (starts_in M now.disk.found) None
      run_is =
          nothing_behind k.report (at t (only [] [] None)) o
          ∙ sym (k.tells (only [] [] None) (ends_nowhere t.offers) tt)
          ∙ ap (λ (ss : List (Start V)). run_meaning M B lines (at first (only ss (k.fell ++ []) None))) (append-nil (starts_in M k.since))
          ∙ ap (λ (fs : List ℕ). run_meaning M B lines (at first (only (starts_in M k.since) fs None))) (append-nil k.fell ∙ sym k.fallen)
          ∙ ap (λ (images : List (List ℕ)). run_meaning M B lines (at first (only (starts_in M images) falls None))) (sym k.listed)
          ∙ told_at lines falls (starts_in M now.disk.found) None

      pub whole : AreArmed t.armed now.disk.armed → (t.forged ≡ 0 → (t.other_views ≡ 0) × (t.other_locks ≡ 0)) → IsLeftAfter M o (at t (only [] [] None)) now.disk → IsWhole begin M B run was now
      whole armed explained left = record {
        legal = legal_at run lines falls (starts_in M now.disk.found) None run_is;
        used_up = (refl, refl);
        armed = armed;
        synced = λ none. omega (arith, k.moves.synced (none ∙ sym b.unfallen), b.unsynced);
        explained = explained;
        left = left;
      }

      abbrev first_lines : (all : List (Option Item)) → (others : List (Option Item)) × (all ≡ lines ++ others) → length now.disk.armed ≡ length t.armed
          → (t.forged ≡ 0 → (t.other_views ≡ 0) × (t.other_locks ≡ 0)) → FirstLines begin M B all falls was now
      first_lines all begins armed explained = record {
        lines = lines;
        begins = begins;
        starts = starts_in M now.disk.found;
        unread = [];
        of_found = sym (append-nil (starts_in M now.disk.found));
        few = omega arith;
        ends_at = None;
        run = run;
        is_run = run_is;
        legal = legal_at run lines falls (starts_in M now.disk.found) None run_is;
        used_up = (refl, refl);
        armed = armed;
        explained = explained;
      }

      -- with a text behind it
      with_text : (text : List ℕ) → Appends mid now.taken text → Appends was.taken now.taken (k.report ++ text)
      with_text text p = Appends-trans was.taken mid now.taken k.report text k.printed p

      -- a front of its last line was given
      front_of : (source : ScriptOf was.left) (begins : (others : List (Option Item)) × (script_of source.script ≡ lines ++ others)) (armed : length now.disk.armed ≡ length t.armed)
          (explained : t.forged ≡ 0 → (t.other_views ≡ 0) × (t.other_locks ≡ 0)) (text : List ℕ) → IsLastLine begin M B (first_lines (script_of source.script) begins armed explained) text → AppendsFront mid now.taken text
          → IsLeftAt M run now.disk → WroteFront begin M B falls was now
      front_of source begins armed explained text last p left = record {
        script = source.script;
        of_source = source.of_source;
        first = first_lines (script_of source.script) begins armed explained;
        written = inl (text, last, p.front, with_text p.front p.appended, p.rest, p.whole);
        left = inr left;
      }

    -- ================ a whole script

    module _ (o : Outcome) (t : Standing V) (source : ScriptOf was.left) (k : Carries M (run_meaning M B (script_of source.script)) o first t made ended)
        (armed : AreArmed t.armed now.disk.armed) (explained : t.forged ≡ 0 → (t.other_views ≡ 0) × (t.other_locks ≡ 0)) where
      pub wrote_report : (status : Status) → status_of o (at t (only [] [] None)) ≡ status → Appends mid now.taken (last_line M o (at t (only [] [] None))) → IsLeftAfter M o (at t (only [] [] None)) now.disk
          → WroteReport begin M B status falls was now
      wrote_report status is last left = record {
        script = source.script;
        of_source = source.of_source;
        run = run o (script_of source.script) t k;
        is_run = run_is o (script_of source.script) t k;
        ended = is;
        written = with_text o (script_of source.script) t k (last_line M o (at t (only [] [] None))) last;
        whole = whole o (script_of source.script) t k armed explained left;
      }

      pub front_report : length now.disk.armed ≡ length t.armed → (o ≡ Breaks → ⊥) → AppendsFront mid now.taken (last_line M o (at t (only [] [] None))) → IsLeftAt M (run o (script_of source.script) t k) now.disk
          → WroteFront begin M B falls was now
      front_report same unbroken last left =
          front_of o (script_of source.script) t k source ([], sym (append-nil (script_of source.script))) same explained (last_line M o (at t (only [] [] None))) (inl (refl, unbroken, refl)) last left

    -- ================ the source failed

    module _ (t : Standing V) (k : CarriedTaken M (run_meaning M B) first t made ended was.left now.left) (explained : t.forged ≡ 0 → (t.other_views ≡ 0) × (t.other_locks ≡ 0)) where
      pub wrote_to_fault : AreArmed t.armed now.disk.armed → Appends mid now.taken (codes "read fault\n") → IsLeft M (at t (only [] [] None)) now.disk → WroteToFault begin M B falls was now
      wrote_to_fault armed last left = record {
        came = k.came;
        consumed = k.consumed;
        begins = k.begins;
        run = run Goes (whole_lines k.came) t k.carried;
        is_run = run_is Goes (whole_lines k.came) t k.carried;
        goes = refl;
        faultless = k.faultless;
        written = with_text Goes (whole_lines k.came) t k.carried (codes "read fault\n") last;
        whole = whole Goes (whole_lines k.came) t k.carried armed explained left;
      }

      pub front_to_fault : length now.disk.armed ≡ length t.armed → Rose was.read_faults now.read_faults → AppendsFront mid now.taken (codes "read fault\n") → IsLeftAt M (run Goes (whole_lines k.came) t k.carried) now.disk
          → WroteFront begin M B falls was now
      front_to_fault same rose last left =
          let source = came_of was.left now.left k.came k.consumed in
          front_of Goes (whole_lines k.came) t k.carried (record { script = k.came ++ source.0; of_source = source.1 }) (k.begins source.0) same explained (codes "read fault\n") (inr (inr (refl, refl, rose))) last left

    -- ================ a run that ended in one of these lines

    abbrev pub ending_first : (all lines : List (Option Item)) (k : Ending M (run_meaning M B lines) first made ended)
        → (others : List (Option Item)) × (all ≡ lines ++ others) → length now.disk.armed ≡ length k.end.state.armed → FirstLines begin M B all falls was now
    ending_first all lines k begins armed =
        let is : k.end ≡ told lines falls k.found.used k.broken_at =
        sym k.tells ∙ ap (λ (fs : List ℕ). run_meaning M B lines (at first (only k.found.used fs k.broken_at))) (sym k.fallen) ∙ told_at lines falls k.found.used k.broken_at in
        record {
          lines = lines;
          begins = begins;
          starts = k.found.used;
          unread = k.found.unread;
          of_found = ap (starts_in M) k.found.listed ∙ k.found.read;
          few = k.found.few;
          ends_at = k.broken_at;
          run = k.end;
          is_run = is;
          legal = legal_at k.end lines falls k.found.used k.broken_at is;
          used_up = k.used_up;
          armed = armed;
          explained = k.explained;
        }

    -- the disk failed
    pub wrote_broken : BrokenIn M (run_meaning M B) first made ended now.disk was.left → Appends mid now.taken (codes "disk fault\n") → WroteBroken begin M B falls was now
    wrote_broken k last =
        let end = k.broken.ending.end in
        record {
          script = k.source.script;
          of_source = k.source.of_source;
          first = ending_first (script_of k.source.script) k.lines k.broken.ending k.begins k.broken.armed;
          breaks = k.broken.breaks;
          written = subst (λ (o : Outcome). Appends was.taken now.taken (end.report ++ last_line M o end.state)) (sym k.broken.breaks)
              (Appends-trans was.taken mid now.taken end.report (codes "disk fault\n") k.broken.printed last);
          left = inr k.broken.left;
        }

    pub front_broken : BrokenIn M (run_meaning M B) first made ended now.disk was.left → Rose was.disk.faults now.disk.faults → AppendsFront mid now.taken (codes "disk fault\n") → WroteFront begin M B falls was now
    front_broken k rose p =
        let end = k.broken.ending.end in
        record {
          script = k.source.script;
          of_source = k.source.of_source;
          first = ending_first (script_of k.source.script) k.lines k.broken.ending k.begins k.broken.armed;
          written = inl (codes "disk fault\n", inr (inl (refl, k.broken.breaks, rose)), p.front, Appends-trans was.taken mid now.taken end.report p.front k.broken.printed p.appended, p.rest, p.whole);
          left = inr (subst (λ (o : Outcome). IsLeftAt M (record { report = end.report; state = end.state; outcome = o }) now.disk) (sym k.broken.breaks) k.broken.left);
        }

    -- the sink failed in the lines of the opening
    pub front_opening : Unwritten M (power_on M B Nothing Done) first made ended now.disk → Appends mid now.taken [] → WroteFront begin M B falls was now
    front_opening k nothing =
        let source = source_of was.left in
        record {
          script = source.script;
          of_source = source.of_source;
          first = ending_first (script_of source.script) [] (ending_at M (power_on M B Nothing Done) (run_meaning M B []) first made ended (λ x. opening_alone (at first x)) k.ending) (script_of source.script, refl) k.armed;
          written = inr (front_still was.taken mid now.taken k.ending.end.report k.printed nothing, inl refl);
          left = inr k.left;
        }

    -- or in what a line prints
    module _ (k : UnwrittenIn M B (run_meaning M B) first made ended now.disk was.left) where
      abbrev here : Ending M (line_meaning M B k.line) k.stands k.between ended
      here = k.unwritten.ending

      abbrev joined : Ending M (run_meaning M B (k.earlier ++ k.line ∷ [])) first made ended
      joined =
          ending_at M (λ s. followed_by (run_meaning M B k.earlier s) (λ u. lines_meaning M B (k.line ∷ []) u)) (run_meaning M B (k.earlier ++ k.line ∷ [])) first made ended
          (λ x. run_append M B k.earlier (k.line ∷ []) (at first x))
          (ending_then M (λ s. followed_by (run_meaning M B k.earlier s) (λ u. lines_meaning M B (k.line ∷ []) u)) (λ u. lines_meaning M B (k.line ∷ []) u) first k.stands made k.between ended
          (pending_of M (run_meaning M B k.earlier) (λ u. lines_meaning M B (k.line ∷ []) u) first k.stands made k.between k.carried)
          (ending_at M (line_meaning M B k.line) (λ u. lines_meaning M B (k.line ∷ []) u) k.stands k.between ended (λ x. one_line k.line (at k.stands x)) here))

      -- what the lines before it print
      earlier_told : (told k.earlier falls (starts_in M k.carried.since ++ here.found.used) here.broken_at).report ≡ k.carried.report
      earlier_told =
          ap (λ (p : Part V). p.report) (sym (told_at k.earlier falls (starts_in M k.carried.since ++ here.found.used) here.broken_at))
          ∙ ap (λ (fs : List ℕ). (run_meaning M B k.earlier (at first (only (starts_in M k.carried.since ++ here.found.used) fs here.broken_at))).report) joined.fallen
          ∙ ap (λ (p : Part V). p.report) (k.carried.tells (only here.found.used here.fell here.broken_at) here.late here.rising)
          ∙ append-nil k.carried.report

      pub front_line : Appends mid now.taken [] → WroteFront begin M B falls was now
      front_line nothing =
          let p = front_still k.between.taken mid now.taken here.end.report k.unwritten.printed nothing in
          record {
            script = k.source.script;
            of_source = k.source.of_source;
            first = ending_first (script_of k.source.script) (k.earlier ++ k.line ∷ []) joined k.begins k.unwritten.armed;
            written = inr (
              front_then was.taken k.between.taken now.taken k.carried.report here.end.report k.carried.printed p,
              inr (
                k.earlier,
                k.line,
                refl,
                p.front,
                subst (λ (r : List ℕ). Appends was.taken now.taken (r ++ p.front)) (sym earlier_told)
                    (Appends-trans was.taken k.between.taken now.taken k.carried.report p.front k.carried.printed p.appended),
              ),
            );
            left = inr k.unwritten.left;
          }

    -- ================ the run ended before its first opening

    module _ (found : now.disk.found ≡ []) (unopened : begin.IsUnopened was now) (unarmed : now.disk.armed ≡ []) (printed : mid ≡ was.taken) (unfallen : falls ≡ []) where
      abbrev pub unmade : Part V
      unmade = ends Breaks [] (at first (only [] [] None))

      pub unmade_is : unmade ≡ told [] falls [] None
      unmade_is =
          sym (ap (λ (t : Part V). followed_by t (λ u. lines_meaning M B [] u)) (no_start M B Nothing Done (at first (only [] [] None))))
          ∙ ap (λ (fs : List ℕ). run_meaning M B [] (at first (only [] fs None))) (sym unfallen)
          ∙ told_at [] falls [] None

      abbrev pub unmade_first : (all : List (Option Item)) → FirstLines begin M B all falls was now
      unmade_first all = record {
        lines = [];
        begins = (all, refl);
        starts = [];
        unread = [];
        of_found = ap (starts_in M) found;
        few = omega arith;
        ends_at = None;
        run = unmade;
        is_run = unmade_is;
        legal = legal_at unmade [] falls [] None unmade_is;
        used_up = (refl, refl);
        armed = ap length unarmed ∙ ap length (sym b.unarmed);
        explained = b.explained;
      }

      pub wrote_unmade : Appends mid now.taken (codes "disk fault\n") → WroteBroken begin M B falls was now
      wrote_unmade last =
          let source = source_of was.left in
          record {
            script = source.script;
            of_source = source.of_source;
            first = unmade_first (script_of source.script);
            breaks = refl;
            written = subst (λ (taken : Option (List ℕ)). Appends taken now.taken (codes "disk fault\n")) printed last;
            left = inl unopened;
          }

      pub front_unmade : Rose was.disk.faults now.disk.faults → AppendsFront mid now.taken (codes "disk fault\n") → WroteFront begin M B falls was now
      front_unmade rose p =
          let source = source_of was.left in
          record {
            script = source.script;
            of_source = source.of_source;
            first = unmade_first (script_of source.script);
            written = inl (codes "disk fault\n", inr (inl (refl, refl, rose)), p.front, subst (λ (taken : Option (List ℕ)). Appends taken now.taken p.front) printed p.appended, p.rest, p.whole);
            left = inl unopened;
          }
