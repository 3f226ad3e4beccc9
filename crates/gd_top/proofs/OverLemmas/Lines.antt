-- Lines that are carried out one after another over an image.
use Rattle.std.proofs.Common.{◌≡◌, ◌∙◌, sym, subst, refl, ℕ, ◌+◌, ◌<◌, List, [], ◌∷◌, ◌++◌, true, arith, Option, None, Some, Result, Ok, Err, is_err}
use Rattle.std.specs.Io.KnownBytes.{Consumes}
use Rattle.gd_base.specs.Judging.Machine.{Machine}
use Rattle.gd_base.specs.Outside.Causes.{Rose}
use Rattle.gd_script.specs.declared.item.Item.{Item}
use Rattle.gd_top.specs.Claims.ImageRuns.{WasOpened}
use Rattle.gd_top.specs.Code.LinesDone.{LinesDone}
use Rattle.gd_top.specs.Code.Memory.{Moment, Leaves, Serves}
use Rattle.gd_top.specs.Code.OverImage.{DoesOver, Ends, LinesOver, Rests, Stands, over}
use Rattle.gd_top.specs.Script.Kinds.{line_alone}
use Rattle.gd_top.specs.Script.Lines.{HasNoEnd, line_of}
use Rattle.gd_top.specs.declared.halt.Halt.{Halt}
use Rattle.gd_top.specs.declared.script.reader.TheConstants.{MOST_LINES}
use Rattle.gd_top.proofs.ItemLemmas.Lines.{comment_out, no_item}
use Rattle.gd_top.proofs.LineLemmas.Steps.{SoFar, leaves_as, leaves_then, line_goes, line_halts, recounted}
use Rattle.gd_top.proofs.OverLemmas.Items.{opened_of}

module _ {V : Type 0} where
  -- one line more was counted
  abbrev pub one_line : Moment V → Moment V
  one_line m = record m { counts = record m.counts { lines = m.counts.lines + 1 } }

  -- the lines that came so far were carried out
  abbrev pub SoFarOver : (T : Type 0) → (was mid : Moment V) → (left rest : Option (List ℕ)) → Type 0
  SoFarOver T was mid left rest = T → (image : List ℕ) (images : List (List ℕ)) → Stands image images was
      → (later : List (List ℕ)) × Stands image later mid × SoFar (over images was) (over later mid) left rest × Leaves (Ok tt) (over images was) (over later mid)

  pub stands_on : (image : List ℕ) (images : List (List ℕ)) (m : Moment V) → Stands image images m → (Leaves (Ok tt) (over images m) (over images m) → Leaves (Ok tt) (over images m) (over images (one_line m))) → Stands image images (one_line m)
  stands_on image images m stands more = record { opened = stands.opened; as_many = stands.as_many; falls = stands.falls; sits = (more (leaves_here image images m stands)).sits tt }
    where
      leaves_here : (image : List ℕ) (images : List (List ℕ)) (m : Moment V) → Stands image images m → Leaves (Ok tt) (over images m) (over images m)
      leaves_here image images m stands = record {
        sits = λ serves. stands.sits;
        no_fault = λ serves. refl;
        disk_fault = λ is. absurd (cc is);
        later = omega arith;
        write_fault = λ is. absurd (cc is);
        machine = refl;
        blocks = λ lap index. refl;
      }

  -- ================ what holds over any disk

  pub ends_then : (a b c : Moment V) (r : Result (Unit {0}) Halt) → Ends (Ok tt) a b → Ends r b c → Ends r a c
  ends_then a b c r p q = record {
    rests = q.rests;
    no_stop = λ serves. q.no_stop serves ∙ p.no_stop tt;
    disk_fault = λ is. subst (λ (n : ℕ). Rose n c.disk.stops) (p.no_stop tt) (q.disk_fault is);
    later = omega (arith, p.later, q.later);
    write_fault = λ is. omega (arith, p.later, q.write_fault is);
    machine = q.machine ∙ p.machine;
    blocks = λ lap index. q.blocks lap index ∙ p.blocks lap index;
    falls = q.falls ∙ p.falls;
  }

  pub ends_as : (a b : Moment V) (r : Result (Unit {0}) Halt) → (r ≡ Err Halt.DiskFault → ⊥) → (r ≡ Err Halt.WriteFault → ⊥) → Ends (Ok tt) a b → Ends r a b
  ends_as a b r disk write p = record {
    rests = λ serves. p.rests tt;
    no_stop = λ serves. p.no_stop tt;
    disk_fault = λ is. absurd (disk is);
    later = p.later;
    write_fault = λ is. absurd (write is);
    machine = p.machine;
    blocks = p.blocks;
    falls = p.falls;
  }

  pub ends_here : (a : Moment V) → Rests a → Ends (Ok tt) a a
  ends_here a rests = record {
    rests = λ serves. rests;
    no_stop = λ serves. refl;
    disk_fault = λ is. absurd (cc is);
    later = omega arith;
    write_fault = λ is. absurd (cc is);
    machine = refl;
    blocks = λ lap index. refl;
    falls = refl;
  }

  pub ends_on : (a b : Moment V) → Ends (Ok tt) a b → Ends (Ok tt) a (one_line b)
  ends_on a b p = record {
    rests = λ serves. let s = p.rests serves in record { size = s.size; powered = s.powered; runs = s.runs };
    no_stop = p.no_stop;
    disk_fault = p.disk_fault;
    later = p.later;
    write_fault = p.write_fault;
    machine = p.machine;
    blocks = p.blocks;
    falls = p.falls;
  }

  -- ================ a line

  -- the line halted the run
  pub over_halts : (T : Type 0) (was mid next : Moment V) (r : Result (Unit {0}) Halt) (left ahead later rest : Option (List ℕ)) (line bytes : List ℕ) → SoFarOver T was mid left ahead
      → mid.counts.lines < MOST_LINES → bytes ≡ line → HasNoEnd line → Consumes ahead later (line ++ 10 ∷ []) → is_err r ≡ true → DoesOver T (λ M B. line_alone M B (line_of bytes)) r mid next
      → LinesOver T r was next left rest
  over_halts T was mid next r left ahead later rest line bytes so_far few is no_end taken err does told image images stands =
      let k = so_far told image images stands in
      let q = does.does told image k.0 k.1 in (
        q.0,
        subst (λ (O : Machine V). WasOpened O image q.0) k.3.machine q.1,
        q.2,
        line_halts (over images was) (over k.0 mid) (over q.0 next) r left ahead later rest line bytes k.2 k.3 few is no_end taken err q.3.carried,
        leaves_then (over images was) (over k.0 mid) (over q.0 next) r k.3 q.3.leaves,
      )

  -- the run goes on behind it
  pub over_goes : (T : Type 0) (was mid next : Moment V) (r : Result (Unit {0}) Halt) (left ahead later : Option (List ℕ)) (line bytes : List ℕ) → SoFarOver T was mid left ahead
      → mid.counts.lines < MOST_LINES → bytes ≡ line → HasNoEnd line → Consumes ahead later (line ++ 10 ∷ []) → r ≡ Ok tt → DoesOver T (λ M B. line_alone M B (line_of bytes)) r mid next
      → SoFarOver T was (one_line next) left later
  over_goes T was mid next r left ahead later line bytes so_far few is no_end taken went does told image images stands =
      let k = so_far told image images stands in
      let q = does.does told image k.0 k.1 in
      let d = subst (λ (z : Result (Unit {0}) Halt). Leaves z (over k.0 mid) (over q.0 next)) went q.3.leaves in (
        q.0,
        stands_on image q.0 next (q.2 (subst Serves (sym went) tt)) (λ p. recounted (over q.0 next) (over q.0 next) (Ok tt) _ p),
        line_goes (over images was) (over k.0 mid) (over q.0 next) r left ahead later line bytes k.2 k.3 few is no_end taken went q.3.carried,
        recounted (over images was) (over q.0 next) (Ok tt) _ (leaves_then (over images was) (over k.0 mid) (over q.0 next) (Ok tt) k.3 d),
      )

  -- a comment, and a line that is no item
  pub comment_over : (T : Type 0) (mid : Moment V) → Rests mid → (line : Option Item) (item : Item) → Some item ≡ line → item ≡ Item.Skip → DoesOver T (λ M B. line_alone M B line) (Ok tt) mid mid
  comment_over T mid rests line item says is = record {
    does = λ told image images stands. (
      images,
      opened_of mid.machine image mid.phase images stands.opened,
      (λ serves. stands),
      record {
        carried = comment_out (over images mid) line item says is;
        leaves = record {
          sits = λ serves. stands.sits;
          no_fault = λ serves. refl;
          disk_fault = λ e. absurd (cc e);
          later = omega arith;
          write_fault = λ e. absurd (cc e);
          machine = refl;
          blocks = λ lap index. refl;
        };
        reads_nothing = λ e. absurd (cc e);
      },
    );
    ends = ends_here mid rests;
    reads_nothing = λ e. absurd (cc e);
  }

  pub no_item_over : (T : Type 0) (mid : Moment V) → Rests mid → (line : Option Item) → None ≡ line → DoesOver T (λ M B. line_alone M B line) (Err Halt.ScriptFault) mid mid
  no_item_over T mid rests line says = record {
    does = λ told image images stands. (
      images,
      opened_of mid.machine image mid.phase images stands.opened,
      (λ serves. stands),
      record {
        carried = no_item (over images mid) line says;
        leaves = record {
          sits = λ serves. stands.sits;
          no_fault = λ serves. refl;
          disk_fault = λ e. absurd (cc e);
          later = omega arith;
          write_fault = λ e. absurd (cc e);
          machine = refl;
          blocks = λ lap index. refl;
        };
        reads_nothing = λ e. absurd (cc e);
      },
    );
    ends = ends_as mid mid (Err Halt.ScriptFault) (λ e. cc e) (λ e. cc e) (ends_here mid rests);
    reads_nothing = λ e. absurd (cc e);
  }

  -- the input ended, or failed, or has no line here
  pub over_ends : (T : Type 0) (was mid : Moment V) (r : Result (Unit {0}) Halt) (left ahead rest : Option (List ℕ)) → SoFarOver T was mid left ahead → (r ≡ Err Halt.DiskFault → ⊥) → (r ≡ Err Halt.WriteFault → ⊥)
      → ((images later : List (List ℕ)) → SoFar (over images was) (over later mid) left ahead → LinesDone r (over images was) (over later mid) left rest) → LinesOver T r was mid left rest
  over_ends T was mid r left ahead rest so_far disk write done told image images stands =
      let k = so_far told image images stands in (
        k.0,
        subst (λ (O : Machine V). WasOpened O image k.0) k.3.machine (opened_of mid.machine image mid.phase k.0 k.1.opened),
        (λ serves. k.1),
        done images k.0 k.2,
        leaves_as (over images was) (over k.0 mid) r disk write k.3,
      )
