-- A line has its place among the lines.
use Rattle.std.proofs.Common.{◌≡◌, ◌∙◌, ap, sym, subst, refl, ℕ, ◌+◌, ◌<◌, nat_lt, Bool, true, List, [], ◌++◌, append_assoc, length, arith, if◌then◌else◌, Option, None, Some, Result, Ok, Err}
use Rattle.std.proofs.lemmas.Bool.Decides.{nat_tests}
use Rattle.std.proofs.KnownBytes.{Appends-nil}
use Rattle.gd_base.specs.Outside.Causes.{AppendsFront}
use Rattle.gd_base.specs.Judging.Machine.{Machine, Blocks}
use Rattle.gd_disk.specs.Disk.{DiskState}
use Rattle.gd_script.specs.declared.item.Item.{Item}
use Rattle.gd_top.specs.Claims.MemoryLeft.{IsLeftBy}
use Rattle.gd_top.specs.Code.Parts.{Outside, Carries, CarriesBy}
use Rattle.gd_top.specs.Code.Standing.{Standing, at, only}
use Rattle.gd_top.specs.Run.Items.{item_meaning, line_meaning, one_more}
use Rattle.gd_top.specs.Run.State.{State, Part, Outcome, Goes, Stops, Differs, Breaks, ends, goes_on, followed_by}
use Rattle.gd_top.specs.Script.Kinds.{line_alone}
use Rattle.gd_top.specs.declared.halt.Halt.{Halt}
use Rattle.gd_top.specs.declared.script.reader.TheConstants.{MOST_LINES}
use Rattle.gd_top.proofs.RunLemmas.Parts.{differing_of, ended_of, pending_of, pending_then}
use Rattle.gd_top.proofs.RunLemmas.Said.{carries_text, moves_on, as_at, ends_nowhere}

-- a line more, where it was carried out
abbrev pub after_line : {V : Type 0} → Result (Unit {0}) Halt → Standing V → Standing V
after_line (Ok done) s = record s { lines = s.lines + 1 }
after_line (Err halt) s = s

-- a front of a text is a front of a longer one
pub front_longer : (taken given : Option (List ℕ)) (text more : List ℕ) → AppendsFront taken given text → AppendsFront taken given (text ++ more)
front_longer taken given text more p = record {
  front = p.front;
  rest = p.rest ++ more;
  whole = sym (append_assoc p.front p.rest more) ∙ ap (λ (xs : List ℕ). xs ++ more) p.whole;
  appended = p.appended;
}

below : (n limit : ℕ) → n < limit → nat_lt n limit ≡ true
below n limit lt = grind (arith, nat_tests, lt)

module _ {V : Type 0} (M : Machine V) where
  ends_stay : (t : Part V) (next : State V → Part V) → t.outcome ≡ Breaks → followed_by t next ≡ t
  ends_stay t next is = ap (λ (o : Outcome). goes_on o t next) is

  -- one more changes neither what is still to come nor what is left of the memory
  still_used : (o : Outcome) (t : Part V) → (t.state.starts ≡ []) × (t.state.falls ≡ []) → ((goes_on o t one_more).state.starts ≡ []) × ((goes_on o t one_more).state.falls ≡ [])
  still_used Goes t h = h
  still_used Stops t h = h
  still_used Differs t h = h
  still_used Breaks t h = h

  still_clear : (o : Outcome) (t : Part V) → (t.state.forged ≡ 0 → (t.state.other_views ≡ 0) × (t.state.other_locks ≡ 0))
      → (let u = goes_on o t one_more in u.state.forged ≡ 0 → (u.state.other_views ≡ 0) × (u.state.other_locks ≡ 0))
  still_clear Goes t h = h
  still_clear Stops t h = h
  still_clear Differs t h = h
  still_clear Breaks t h = h

  still_armed : (o : Outcome) (t : Part V) (n : ℕ) → n ≡ length t.state.armed → n ≡ length (goes_on o t one_more).state.armed
  still_armed Goes t n h = h
  still_armed Stops t n h = h
  still_armed Differs t n h = h
  still_armed Breaks t n h = h

  still_left : (o : Outcome) (t : Part V) (disk : DiskState) → t.outcome ≡ o → IsLeftBy M o t.state disk → (let u = goes_on o t one_more in IsLeftBy M u.outcome u.state disk)
  still_left Goes t disk is h = h
  still_left Stops t disk is h = subst (λ (o : Outcome). IsLeftBy M o t.state disk) (sym is) h
  still_left Differs t disk is h = subst (λ (o : Outcome). IsLeftBy M o t.state disk) (sym is) h
  still_left Breaks t disk is h = subst (λ (o : Outcome). IsLeftBy M o t.state disk) (sym is) h

  still_front : (taken given : Option (List ℕ)) (o : Outcome) (t : Part V) → AppendsFront taken given t.report → AppendsFront taken given (goes_on o t one_more).report
  still_front taken given Goes t p = front_longer taken given t.report [] p
  still_front taken given Stops t p = p
  still_front taken given Differs t p = p
  still_front taken given Breaks t p = p

  counts_one : (s : Standing V) (u : Outside) → Carries M one_more Goes s (record s { lines = s.lines + 1 }) u u
  counts_one s u =
      let t = record s { lines = s.lines + 1 } in
      carries_text M one_more Goes s t u u [] refl refl (moves_on s t u u (omega arith) (omega arith) refl) (λ x whole. refl) (Appends-nil u.taken)

  -- an item, and then a line more
  with_one_more : (r : Result (Unit {0}) Halt) (f : State V → Part V) (a b : Standing V) (u v : Outside) (disk : DiskState) → CarriesBy r M f a b u v disk
      → CarriesBy r M (λ s. followed_by (f s) one_more) a (after_line r b) u v disk
  with_one_more (Ok done) f a b u v disk h =
      pending_then M (λ s. followed_by (f s) one_more) one_more _ a b (record b { lines = b.lines + 1 }) u v v (pending_of M f one_more a b u v h) (counts_one b v)
  with_one_more (Err Halt.ScriptFault) f a b u v disk h = ended_of M Stops (λ t next. refl) f one_more a b u v h
  with_one_more (Err Halt.SetupDiffers) f a b u v disk h = differing_of M f one_more a b u v disk h
  with_one_more (Err Halt.ReadFault) f a b u v disk h = absurd h
  with_one_more (Err Halt.DiskFault) f a b u v disk h =
      let k = h.ending in
      record {
        ending = record {
          found = k.found;
          fell = k.fell;
          fallen = k.fallen;
          rising = k.rising;
          broken_at = k.broken_at;
          late = k.late;
          end = k.end;
          tells = ap (λ (t : Part V). followed_by t one_more) k.tells ∙ ends_stay k.end one_more h.breaks;
          used_up = k.used_up;
          explained = k.explained;
        };
        breaks = h.breaks;
        printed = h.printed;
        armed = h.armed;
        left = h.left;
      }
  with_one_more (Err Halt.WriteFault) f a b u v disk h =
      let k = h.ending in
      record {
        ending = record {
          found = k.found;
          fell = k.fell;
          fallen = k.fallen;
          rising = k.rising;
          broken_at = k.broken_at;
          late = k.late;
          end = followed_by k.end one_more;
          tells = ap (λ (t : Part V). followed_by t one_more) k.tells;
          used_up = still_used k.end.outcome k.end k.used_up;
          explained = still_clear k.end.outcome k.end k.explained;
        };
        printed = still_front u.taken v.taken k.end.outcome k.end h.printed;
        armed = still_armed k.end.outcome k.end (length disk.armed) h.armed;
        left = still_left k.end.outcome k.end disk refl h.left;
      }

module _ {V : Type 0} (M : Machine V) (B : Blocks) where
  -- a line that is no item doesn't go on
  no_item_stops : (a b : Standing V) (u v : Outside) → Carries M (line_alone M B None) Goes a b u v → ⊥
  no_item_stops a b u v h = never (ap (λ (t : Part V). t.outcome) (h.tells (only [] [] None) (ends_nowhere b.offers) tt))
    where
      never : Stops ≡ Goes → ⊥
      never e = cc e

  -- a line, with its place among the lines
  pub counted_line : (r : Result (Unit {0}) Halt) (l : Option Item) (a b : Standing V) (u v : Outside) (disk : DiskState) → a.lines < MOST_LINES
      → CarriesBy r M (line_alone M B l) a b u v disk → CarriesBy r M (line_meaning M B l) a (after_line r b) u v disk
  counted_line (Ok done) None a b u v disk few h = absurd (no_item_stops a b u v h)
  counted_line (Err Halt.ScriptFault) None a b u v disk few h = h
  counted_line (Err Halt.ReadFault) None a b u v disk few h = absurd h
  counted_line (Err Halt.DiskFault) None a b u v disk few h = h
  counted_line (Err Halt.WriteFault) None a b u v disk few h = h
  counted_line (Err Halt.SetupDiffers) None a b u v disk few h = h
  counted_line r (Some item) a b u v disk few h =
      as_at M r (λ s. followed_by (item_meaning M B item s) one_more) (line_meaning M B (Some item)) a (after_line r b) u v disk
      (λ x. ap (λ (b : Bool). if b then followed_by (item_meaning M B item (at a x)) one_more else ends Stops [] (at a x)) (below a.lines MOST_LINES few))
      (with_one_more M r (item_meaning M B item) a b u v disk h)
