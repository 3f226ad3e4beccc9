-- How the lines end.
use Rattle.std.proofs.Common.{◌≡◌, ◌≢◌, ◌⊎◌, inl, inr, ℕ, ◌<◌, ◌≤◌, nat_lt, ◌==◌, List, [], ◌∷◌, ◌++◌, None, Some, Option, Bool, true, false, refl, sym, ap, subst, ◌∙◌, append-nil, append_assoc, map, length, arith, length-append, if◌then◌else◌, Result, Ok, Err, is_err}
use Rattle.std.proofs.lemmas.List.Elements.{All-append, All-cons, All-nil}
use Rattle.std.proofs.lemmas.Bool.Decides.{nat_tests}
use Rattle.std.proofs.KnownBytes.{Consumes-trans}
use Rattle.std.specs.Io.KnownBytes.{Consumes, IsAtEnd, prepend_known}
use Rattle.gd_base.specs.Judging.Machine.{Machine, Blocks}
use Rattle.gd_disk.specs.Disk.{DiskState}
use Rattle.gd_script.specs.declared.item.Item.{Item}
use Rattle.gd_script.specs.declared.limits.TheConstants.{LINE_LEN}
use Rattle.gd_top.specs.Code.LinesDone.{LinesSoFar, ScriptOf, CarriedScript, CarriedTaken, DoneBy}
use Rattle.gd_top.specs.Code.Parts.{Outside, Carries, CarriesBy}
use Rattle.gd_top.specs.Code.Standing.{Standing, Later, at}
use Rattle.gd_top.specs.Run.Items.{item_meaning, line_meaning, lines_meaning, one_more}
use Rattle.gd_top.specs.Run.State.{State, Part, Outcome, Goes, Stops, Differs, ends, followed_by, goes_on}
use Rattle.gd_top.specs.Script.LineTaken.{TakesLine, TakesEnd}
use Rattle.gd_top.specs.Script.Lines.{Pieces, pieces_of, put_onto, put_by, HasNoEnd, line_of, rest_lines, lines_of_pieces, script_of, whole_lines, ShowsNoFault}
use Rattle.gd_top.specs.declared.halt.Halt.{Halt}
use Rattle.gd_top.specs.declared.script.reader.TheConstants.{MOST_LINES}
use Rattle.gd_top.proofs.RunLemmas.Joins.{lines_append, goes_on_nothing}
use Rattle.gd_top.proofs.RunLemmas.Parts.{ended_of, pending_of, pending_then, then_by}
use Rattle.gd_top.proofs.RunLemmas.Said.{as_at, pending_at, goes_here, stops_here}
use Rattle.gd_top.proofs.ScriptLemmas.Reading.{nothing_waits, none_consumed, source_at_end}
use Rattle.gd_top.proofs.ScriptLemmas.Scripts.{script_append, script_whole, script_line, script_cut, script_long, one_line_more, still_whole, still_rest, no_line_more}

-- ================ scripts

-- a script that begins with what was consumed
pub record Beginning (left : Option (List ℕ)) (bytes : List ℕ) : Type 0 where
  pub source : ScriptOf left
  pub rest : List ℕ
  pub whole : source.script ≡ bytes ++ rest

pub begun : (left later : Option (List ℕ)) (bytes : List ℕ) → Consumes left later bytes → Beginning left bytes
begun None later bytes t = record { source = record { script = bytes; of_source = tt }; rest = []; whole = sym (append-nil bytes) }
begun (Some x) None bytes t = absurd t
begun (Some x) (Some y) bytes t = record { source = record { script = x; of_source = refl }; rest = y; whole = t }

-- one that is all that was consumed, at the end
pub ended : (left later : Option (List ℕ)) (bytes : List ℕ) → Consumes left later bytes → IsAtEnd later → (source : ScriptOf left) × (source.script ≡ bytes)
ended None later bytes t e = (record { script = bytes; of_source = tt }, refl)
ended (Some x) None bytes t e = absurd t
ended (Some x) (Some y) bytes t e = (record { script = x; of_source = refl }, t ∙ (ap (λ (r : List ℕ). bytes ++ r) e ∙ append-nil bytes))

-- what stands behind whole lines is the beginning of a line
room_by : (lines : ℕ) (rest line : List ℕ) → rest ≡ line → (lines < MOST_LINES) ⊎ (line ≡ []) → (lines < MOST_LINES) ⊎ (rest ≡ [])
room_by lines rest line is (inl few) = inl few
room_by lines rest line is (inr none) = inr (is ∙ none)

rest_faultless : (came line : List ℕ) (lines : ℕ) → (pieces_of (came ++ line)).rest ≡ line → length line ≤ LINE_LEN → (lines < MOST_LINES) ⊎ (line ≡ []) → ShowsNoFault (came ++ line) lines
rest_faultless came line lines is short room = record {
  short = subst (λ (bytes : List ℕ). length bytes ≤ LINE_LEN) (sym is) short;
  room = room_by lines (pieces_of (came ++ line)).rest line is room;
}

module _ {V : Type 0} (M : Machine V) (B : Blocks) where
  -- ================ one line more

  pub one_line : (l : Option Item) (s : State V) → lines_meaning M B (l ∷ []) s ≡ line_meaning M B l s
  one_line l s = goes_on_nothing (line_meaning M B l s)

  -- some lines, and then one more, however it ended
  pub line_then : (r : Result (Unit {0}) Halt) (a b c : Standing V) (u v w : Outside) (disk : DiskState) (lines : List (Option Item)) (l : Option Item)
      → Carries M (lines_meaning M B lines) Goes a b u v → CarriesBy r M (line_meaning M B l) b c v w disk → CarriesBy r M (lines_meaning M B (lines ++ l ∷ [])) a c u w disk
  line_then r a b c u v w disk lines l k q =
      as_at M r (λ s. followed_by (lines_meaning M B lines s) (λ s. lines_meaning M B (l ∷ []) s)) (lines_meaning M B (lines ++ l ∷ [])) a c u w disk
      (λ x. lines_append M B lines (l ∷ []) (at a x))
      (then_by M r (λ s. followed_by (lines_meaning M B lines s) (λ s. lines_meaning M B (l ∷ []) s)) (λ s. lines_meaning M B (l ∷ []) s) a b c u v w disk
      (pending_of M (lines_meaning M B lines) (λ s. lines_meaning M B (l ∷ []) s) a b u v k)
      (as_at M r (line_meaning M B l) (λ s. lines_meaning M B (l ∷ []) s) b c v w disk (λ x. one_line l (at b x)) q))

  pub lines_on : (a b c : Standing V) (u v w : Outside) (disk : DiskState) (left ahead later : Option (List ℕ)) (line : List ℕ)
      → HasNoEnd line → LinesSoFar M (lines_meaning M B) a b u v left ahead → Consumes ahead later (line ++ 10 ∷ [])
      → Carries M (line_meaning M B (line_of line)) Goes b c v w → LinesSoFar M (lines_meaning M B) a c u w left later
  lines_on a b c u v w disk left ahead later line h k t q = record {
    came = k.came ++ (line ++ 10 ∷ []);
    consumed = Consumes-trans left ahead later k.came (line ++ 10 ∷ []) k.consumed t;
    whole = still_whole k.came line k.whole h;
    carried = subst (λ (ls : List (Option Item)). Carries M (lines_meaning M B ls) Goes a c u w) (sym (one_line_more k.came line k.whole h))
        (line_then (Ok tt) a b c u v w disk (whole_lines k.came) (line_of line) k.carried q);
  }

  -- before the first line
  pub lines_none : (a : Standing V) (u : Outside) (left : Option (List ℕ)) (waits : List ℕ) → waits ≡ [] → LinesSoFar M (lines_meaning M B) a a u u left (prepend_known waits left)
  lines_none a u left waits e = record { came = []; consumed = none_consumed waits left e; whole = refl; carried = goes_here M (lines_meaning M B []) a u (λ x. refl) }

  -- ================ a line stops the run

  -- the script goes on with it, whatever stands behind
  ended_at : (o : Outcome) → ((t : Part V) (next : State V → Part V) → goes_on o t next ≡ t) → (a b c : Standing V) (u v w : Outside) (lines : List (Option Item)) (script : List ℕ) (l : Option Item) (tail : List (Option Item))
      → script_of script ≡ lines ++ (l ∷ tail) → Carries M (lines_meaning M B lines) Goes a b u v → Carries M (line_meaning M B l) o b c v w → Carries M (lines_meaning M B (script_of script)) o a c u w
  ended_at o stays a b c u v w lines script l tail e h q =
      pending_at M (λ s. followed_by (lines_meaning M B lines s) (λ s. lines_meaning M B (l ∷ tail) s)) (lines_meaning M B (script_of script)) _ a c u w
      (λ x. ap (λ (ls : List (Option Item)). lines_meaning M B ls (at a x)) e ∙ lines_append M B lines (l ∷ tail) (at a x))
      (pending_then M (λ s. followed_by (lines_meaning M B lines s) (λ s. lines_meaning M B (l ∷ tail) s)) (λ s. lines_meaning M B (l ∷ tail) s) _ a b c u v w
      (pending_of M (lines_meaning M B lines) (λ s. lines_meaning M B (l ∷ tail) s) a b u v h) (ended_of M o stays (line_meaning M B l) (λ s. lines_meaning M B tail s) b c v w q))

  stopped_at : (a b c : Standing V) (u v w : Outside) (lines : List (Option Item)) (script : List ℕ) (l : Option Item) (tail : List (Option Item))
      → script_of script ≡ lines ++ (l ∷ tail) → Carries M (lines_meaning M B lines) Goes a b u v → Carries M (line_meaning M B l) Stops b c v w → Carries M (lines_meaning M B (script_of script)) Stops a c u w
  stopped_at a b c u v w lines script l tail e h q = ended_at Stops (λ t next. refl) a b c u v w lines script l tail e h q

  fault_here : (a : Standing V) (u : Outside) → Carries M (line_meaning M B None) Stops a a u u
  fault_here a u = stops_here M (line_meaning M B None) a u (λ x. refl)

  -- ================ exits

  module _ (a b : Standing V) (u v : Outside) (left ahead later : Option (List ℕ)) (k : LinesSoFar M (lines_meaning M B) a b u v left ahead) where
    -- the script, with the line that came last
    with_line : (script rest line : List ℕ) → HasNoEnd line → script ≡ (k.came ++ (line ++ 10 ∷ [])) ++ rest → script_of script ≡ whole_lines k.came ++ (line_of line ∷ script_of rest)
    with_line script rest line h is =
        ap script_of (is ∙ (append_assoc k.came (line ++ 10 ∷ []) rest ∙ ap (λ (bs : List ℕ). k.came ++ bs) (append_assoc line (10 ∷ []) rest)))
        ∙ (script_append k.came (line ++ 10 ∷ rest) k.whole ∙ ap (λ (ls : List (Option Item)). whole_lines k.came ++ ls) (script_line line rest h))

    -- a line ended the run
    pub line_ends : (r : Result (Unit {0}) Halt) (c : Standing V) (w : Outside) (disk : DiskState) (rest : Option (List ℕ)) (line : List ℕ) → is_err r ≡ true → HasNoEnd line → Consumes ahead later (line ++ 10 ∷ [])
        → CarriesBy r M (line_meaning M B (line_of line)) b c v w disk → DoneBy M B (lines_meaning M B) r a c u w disk left rest
    line_ends (Ok done) c w disk rest line err h t q = absurd (cc err)
    line_ends (Err Halt.ReadFault) c w disk rest line err h t q = absurd q
    line_ends (Err Halt.ScriptFault) c w disk rest line err h t q =
        let f = begun left later (k.came ++ (line ++ 10 ∷ [])) (Consumes-trans left ahead later k.came (line ++ 10 ∷ []) k.consumed t) in
        record { source = f.source; carried = stopped_at a b c u v w (whole_lines k.came) f.source.script (line_of line) (script_of f.rest) (with_line f.source.script f.rest line h f.whole) k.carried q }
    line_ends (Err Halt.SetupDiffers) c w disk rest line err h t q =
        let f = begun left later (k.came ++ (line ++ 10 ∷ [])) (Consumes-trans left ahead later k.came (line ++ 10 ∷ []) k.consumed t) in
        record {
          source = f.source;
          differing = record {
            carried = ended_at Differs (λ t next. refl) a b c u v w (whole_lines k.came) f.source.script (line_of line) (script_of f.rest) (with_line f.source.script f.rest line h f.whole) k.carried q.carried;
            armed = q.armed;
            explained = q.explained;
            left = q.left;
          };
        }
    line_ends (Err Halt.DiskFault) c w disk rest line err h t q =
        let f = begun left later (k.came ++ (line ++ 10 ∷ [])) (Consumes-trans left ahead later k.came (line ++ 10 ∷ []) k.consumed t) in
        record {
          source = f.source;
          lines = whole_lines k.came ++ line_of line ∷ [];
          begins = (script_of f.rest, begins f.source.script f.rest line h f.whole);
          broken = line_then (Err Halt.DiskFault) a b c u v w disk (whole_lines k.came) (line_of line) k.carried q;
        }
      where
        begins : (script rest line : List ℕ) → HasNoEnd line → script ≡ (k.came ++ (line ++ 10 ∷ [])) ++ rest → script_of script ≡ (whole_lines k.came ++ line_of line ∷ []) ++ script_of rest
        begins script rest line h is =
            ap script_of is ∙ (script_append (k.came ++ (line ++ 10 ∷ [])) rest (still_whole k.came line k.whole h)
            ∙ ap (λ (ls : List (Option Item)). ls ++ script_of rest) (one_line_more k.came line k.whole h))
    line_ends (Err Halt.WriteFault) c w disk rest line err h t q =
        let f = begun left later (k.came ++ (line ++ 10 ∷ [])) (Consumes-trans left ahead later k.came (line ++ 10 ∷ []) k.consumed t) in
        record {
          source = f.source;
          earlier = whole_lines k.came;
          line = line_of line;
          begins = (script_of f.rest, begins f.source.script f.rest line h f.whole);
          stands = b;
          between = v;
          carried = k.carried;
          unwritten = q;
        }
      where
        begins : (script rest line : List ℕ) → HasNoEnd line → script ≡ (k.came ++ (line ++ 10 ∷ [])) ++ rest → script_of script ≡ (whole_lines k.came ++ line_of line ∷ []) ++ script_of rest
        begins script rest line h is =
            ap script_of is ∙ (script_append (k.came ++ (line ++ 10 ∷ [])) rest (still_whole k.came line k.whole h)
            ∙ ap (λ (ls : List (Option Item)). ls ++ script_of rest) (one_line_more k.came line k.whole h))

    -- the end, after whole lines
    pub lines_end : (line : List ℕ) → line ≡ [] → Consumes ahead later line → IsAtEnd later → CarriedScript M (lines_meaning M B) Goes a b u v left
    lines_end line none t e =
        let f = ended left later (k.came ++ line) (Consumes-trans left ahead later k.came line k.consumed t) e in
        let is : f.0.script ≡ k.came = f.1 ∙ (ap (λ (l : List ℕ). k.came ++ l) none ∙ append-nil k.came) in
        record {
          source = f.0;
          carried = subst (λ (ls : List (Option Item)). Carries M (lines_meaning M B ls) Goes a b u v) (sym (ap script_of is ∙ script_whole k.came k.whole)) k.carried;
        }

    -- the end, within a line
    lines_cut : (line : List ℕ) → HasNoEnd line → line ≢ [] → Consumes ahead later line → IsAtEnd later → CarriedScript M (lines_meaning M B) Stops a b u v left
    lines_cut line h some t e =
        let f = ended left later (k.came ++ line) (Consumes-trans left ahead later k.came line k.consumed t) e in
        record {
          source = f.0;
          carried = stopped_at a b b u v v (whole_lines k.came) f.0.script None []
              (ap script_of f.1 ∙ (script_append k.came line k.whole ∙ ap (λ (ls : List (Option Item)). whole_lines k.came ++ ls) (script_cut line h some))) k.carried (fault_here b v);
        }

    -- a line that is too long
    lines_long : (line : List ℕ) (x : ℕ) → HasNoEnd line → x ≢ 10 → length line ≡ LINE_LEN → Consumes ahead later (line ++ x ∷ []) → CarriedScript M (lines_meaning M B) Stops a b u v left
    lines_long line x h other len t =
        let bytes = line ++ x ∷ [] in
        let no_end : HasNoEnd bytes = All-append (λ (c : ℕ). c ≢ 10) line (x ∷ []) h (All-cons (λ (c : ℕ). c ≢ 10) x [] other (All-nil (λ (c : ℕ). c ≢ 10))) in
        let long : LINE_LEN < length bytes = omega (arith, length-append line (x ∷ []), len) in
        let f = begun left later (k.came ++ bytes) (Consumes-trans left ahead later k.came bytes k.consumed t) in
        let found = script_long bytes f.rest no_end long in
        record {
          source = f.source;
          carried = stopped_at a b b u v v (whole_lines k.came) f.source.script None found.0
              (ap script_of (f.whole ∙ append_assoc k.came bytes f.rest) ∙ (script_append k.came (bytes ++ f.rest) k.whole ∙ ap (λ (ls : List (Option Item)). whole_lines k.came ++ ls) found.1))
              k.carried (fault_here b v);
        }

    long_or_cut : (line : List ℕ) → HasNoEnd line → TakesLine ahead later line (Err Halt.ScriptFault) → CarriedScript M (lines_meaning M B) Stops a b u v left
    long_or_cut line h (inl long) = lines_long line long.0 h long.1 long.2 long.3
    long_or_cut line h (inr cut) = lines_cut line h cut.0 cut.1 cut.2

  -- the source failed: what came since the last LF is no line
  pub lines_unread : (a b : Standing V) (u v : Outside) (left ahead rest : Option (List ℕ)) (waits line : List ℕ) → LinesSoFar M (lines_meaning M B) a b u v left ahead
      → HasNoEnd line → length line ≤ LINE_LEN → (b.lines < MOST_LINES) ⊎ (line ≡ []) → waits ≡ [] → Consumes ahead (prepend_known waits rest) line → CarriedTaken M (lines_meaning M B) a b u v left rest
  lines_unread a b u v left ahead rest waits line k h short room none t = record {
    came = k.came ++ line;
    consumed = nothing_waits waits rest left (k.came ++ line) none (Consumes-trans left ahead (prepend_known waits rest) k.came line k.consumed t);
    begins = λ more. (
      script_of (line ++ more),
      ap script_of (append_assoc k.came line more) ∙ (script_append k.came (line ++ more) k.whole ∙ ap (λ (ls : List (Option Item)). ls ++ script_of (line ++ more)) (sym (no_line_more k.came line k.whole h))),
    );
    faultless = rest_faultless k.came line b.lines (still_rest k.came line k.whole h) short room;
    carried = subst (λ (ls : List (Option Item)). Carries M (lines_meaning M B ls) Goes a b u v) (sym (no_line_more k.came line k.whole h)) k.carried;
  }

  -- the next line could not be taken
  pub lines_halt : (halt : Halt) (a b : Standing V) (u v : Outside) (disk : DiskState) (left ahead rest : Option (List ℕ)) (waits line : List ℕ) → LinesSoFar M (lines_meaning M B) a b u v left ahead
      → HasNoEnd line → length line ≤ LINE_LEN → b.lines < MOST_LINES → (halt ≡ Halt.ReadFault → waits ≡ []) → TakesLine ahead (prepend_known waits rest) line (Err halt)
      → DoneBy M B (lines_meaning M B) (Err halt) a b u v disk left rest
  lines_halt Halt.ScriptFault a b u v disk left ahead rest waits line k h short few empty t = long_or_cut a b u v left ahead (prepend_known waits rest) k line h t
  lines_halt Halt.ReadFault a b u v disk left ahead rest waits line k h short few empty t = lines_unread a b u v left ahead rest waits line k h short (inl few) (empty refl) t
  lines_halt Halt.DiskFault a b u v disk left ahead rest waits line k h short few empty t = absurd t
  lines_halt Halt.WriteFault a b u v disk left ahead rest waits line k h short few empty t = absurd t
  lines_halt Halt.SetupDiffers a b u v disk left ahead rest waits line k h short few empty t = absurd t

  -- ================ past the last line that is allowed

  past_by : (l : Option Item) (a : Standing V) (x : Later V) → nat_lt a.lines MOST_LINES ≡ false → line_meaning M B l (at a x) ≡ ends Stops [] (at a x)
  past_by None a x full = refl
  past_by (Some item) a x full = ap (λ (b : Bool). if b then followed_by (item_meaning M B item (at a x)) one_more else ends Stops [] (at a x)) full

  some_lines : (b : ℕ) (lines : List (List ℕ)) (rest : List ℕ) → (l : Option Item) × ((tail : List (Option Item)) × (lines_of_pieces (put_onto b lines rest) ≡ l ∷ tail))
  some_lines b [] rest = (None, ([], refl))
  some_lines b (line ∷ lines) rest = (line_of (b ∷ line), (map line_of lines ++ rest_lines rest, refl))

  some_line_by : (is_end : Bool) (b : ℕ) (p : Pieces) → (l : Option Item) × ((tail : List (Option Item)) × (lines_of_pieces (put_by is_end b p) ≡ l ∷ tail))
  some_line_by true b p = (line_of [], (map line_of p.lines ++ rest_lines p.rest, refl))
  some_line_by false b p = some_lines b p.lines p.rest

  full_at : (n : ℕ) → n ≡ MOST_LINES → nat_lt n MOST_LINES ≡ false
  full_at n is = grind (arith, nat_tests, is)

  pub lines_past : (r : Result (Unit {0}) Halt) (a b : Standing V) (u v : Outside) (disk : DiskState) (left ahead rest : Option (List ℕ)) (waits : List ℕ) → LinesSoFar M (lines_meaning M B) a b u v left ahead
      → b.lines ≡ MOST_LINES → (r ≡ Err Halt.ReadFault → waits ≡ []) → TakesEnd ahead (prepend_known waits rest) r → DoneBy M B (lines_meaning M B) r a b u v disk left rest
  lines_past (Ok done) a b u v disk left ahead rest waits k full empty t = (lines_end a b u v left ahead (prepend_known waits rest) k [] refl t.0 t.1, source_at_end waits rest t.1)
  lines_past (Err Halt.ScriptFault) a b u v disk left ahead rest waits k full empty t =
      let later = prepend_known waits rest in
      let f = begun left later (k.came ++ t.0 ∷ []) (Consumes-trans left ahead later k.came (t.0 ∷ []) k.consumed t.1) in
      let one = some_line_by (t.0 == 10) t.0 (pieces_of f.rest) in
      record {
        source = f.source;
        carried = stopped_at a b b u v v (whole_lines k.came) f.source.script one.0 one.1.0
            (ap script_of (f.whole ∙ append_assoc k.came (t.0 ∷ []) f.rest) ∙ (script_append k.came (t.0 ∷ f.rest) k.whole ∙ ap (λ (ls : List (Option Item)). whole_lines k.came ++ ls) one.1.1))
            k.carried (stops_here M (line_meaning M B one.0) b v (λ x. past_by one.0 b x (full_at b.lines full)));
      }
  lines_past (Err Halt.ReadFault) a b u v disk left ahead rest waits k full empty t = lines_unread a b u v left ahead rest waits [] k (All-nil (λ (c : ℕ). c ≢ 10)) (omega arith) (inr refl) (empty refl) t
  lines_past (Err Halt.DiskFault) a b u v disk left ahead rest waits k full empty t = absurd t
  lines_past (Err Halt.WriteFault) a b u v disk left ahead rest waits k full empty t = absurd t
  lines_past (Err Halt.SetupDiffers) a b u v disk left ahead rest waits k full empty t = absurd t
