-- A line, by the power and by its item.
use Rattle.std.proofs.Common.{◌≡◌, ◌∙◌, sym, subst, Option, Some, None, refl, ap, ℕ, ◌+◌, ◌≤◌, List, [], length, arith, Result, Ok, Err, OnErr, true}
use Rattle.gd_base.specs.Judging.Machine.{Machine, Blocks}
use Rattle.gd_base.specs.Outside.Causes.{Rose}
use Rattle.gd_script.specs.declared.item.Item.{Item}
use Rattle.gd_top.specs.Code.Memory.{Moment, CarriesOut, Does, Fits, Leaves, Sits}
use Rattle.gd_top.specs.Claims.MemoryLeft.{IsLeftIn}
use Rattle.gd_top.specs.Code.Memory.{outside}
use Rattle.gd_top.specs.Code.Parts.{GivesText}
use Rattle.gd_top.specs.Code.Standing.{Standing, Later, at}
use Rattle.gd_top.specs.Run.Items.{item_meaning}
use Rattle.gd_top.specs.Run.State.{State, Part, Phase, Stops, ends, prints}
use Rattle.gd_top.specs.Script.Kinds.{line_alone, is_comment}
use Rattle.gd_top.specs.declared.halt.Halt.{Halt}
use Rattle.gd_top.proofs.RunLemmas.Cuts.{armed_length, calls_many}
use Rattle.gd_top.proofs.RunLemmas.Equations.{skip_is}
use Rattle.gd_top.proofs.RunLemmas.Said.{goes_here, gives_no_disk_fault, gives_no_read_fault, moves_on, on_err_at, said, stops_here}
use Rattle.gd_top.proofs.RunLemmas.Standings.{stand, from_stand}

-- an item that a line said, over the memory that was found
pub item_by : {V A : Type 0} (moment_at : A → Moment V) (memory found : A) (is : memory ≡ found) (r : Result (Unit {0}) Halt) (now : Moment V) (item said : Item) → item ≡ said
    → Does (λ M B. item_meaning M B said) r (moment_at found) now → Does (λ M B. item_meaning M B item) r (moment_at memory) now
item_by {A = A} moment_at memory found is r now item said says h =
    subst (λ (m : A). Does (λ M B. item_meaning M B item) r (moment_at m) now) (sym is)
    (subst (λ (i : Item). Does (λ M B. item_meaning M B i) r (moment_at found) now) (sym says) h)

-- and what stands there
pub moved_by : {V A : Type 0} (moment_at : A → Moment V) (memory found : A) → memory ≡ found → Sits (moment_at memory) → Sits (moment_at found)
moved_by moment_at memory found is h = subst (λ m. Sits (moment_at m)) is h

module _ {V : Type 0} (was : Moment V) where
  -- what is told of the limit is what is kept of it
  pub limit_is : (s : Standing V) → Sits was → Fits s was → s.power_ons + length s.armed ≡ was.counts.power_ons + length was.counts.calls.items
  limit_is s sits fits = omega (arith, fits.power_ons, armed_length s.armed was.disk.armed fits.armed, calls_many was.counts.calls.items was.disk.armed sits.counted.calls)

  -- nothing was done
  pub stays : Sits was → Leaves (Err Halt.ScriptFault) was was
  stays sits = record {
    sits = λ serves. sits;
    no_fault = λ serves. refl;
    disk_fault = λ is. absurd (cc is);
    later = omega arith;
    write_fault = λ is. absurd (cc is);
    machine = refl;
    blocks = λ lap index. refl;
  }

  -- an item that has no place here, or isn't built
  pub stops_does : Sits was → (item : Item) → ((s : Standing V) (x : Later V) → item_meaning was.machine was.blocks item (at (stand s was) x) ≡ ends Stops [] (at (stand s was) x))
      → Does (λ M B. item_meaning M B item) (Err Halt.ScriptFault) was was
  stops_does sits item tells = record {
    carried = from_stand (λ M B. item_meaning M B item) (Err Halt.ScriptFault) was was
        (λ s fits. (stand s was, (λ serves. fits), stops_here was.machine (item_meaning was.machine was.blocks item) (stand s was) (outside was) (tells s)));
    leaves = stays sits;
    reads_nothing = λ is. absurd (cc is);
  }

  -- a text was given, or a front of it, and nothing else was done
  pub says_here : (tell : Machine V → Blocks → State V → Part V) (r : Result (Unit {0}) Halt) (taken : Option (List ℕ)) (faults : ℕ) (text : List ℕ) → Sits was
      → ((s : Standing V) (x : Later V) → tell was.machine was.blocks (at (stand s was) x) ≡ prints text (at (stand s was) x)) → GivesText r was.taken taken text → was.faults ≤ faults → OnErr r (Rose was.faults faults)
      → Does tell r was (record was { taken = taken; faults = faults })
  says_here tell r taken faults text sits tells gives later cause =
      let now : Moment V = record was { taken = taken; faults = faults } in
      record {
        carried = from_stand tell r was now
            (λ s fits.
            let a = stand s was in (
              a,
              (λ serves. record {
                phase = fits.phase;
                trial = fits.trial;
                known = fits.known;
                lines = fits.lines;
                power_ons = fits.power_ons;
                lap = fits.lap;
                offers = fits.offers;
                armed = fits.armed;
                spelled = fits.spelled;
                holds = fits.holds;
                bad = fits.bad;
                explained = fits.explained;
              }),
              said was.machine r (tell was.machine was.blocks) a a (outside was) (outside now) was.disk text refl refl (moves_on a a (outside was) (outside now) (omega arith) (omega arith) refl) (λ x whole. tells s x)
                  fits.explained (armed_length a.armed was.disk.armed fits.armed) (subst (λ (phase : Phase). IsLeftIn was.machine phase a.view a.masks was.disk) (sym fits.phase) fits.holds) gives,
            ));
        leaves = record {
          sits = λ serves. record {
            tells = sits.tells;
            given = sits.given;
            size = sits.size;
            power = sits.power;
            runs = sits.runs;
            same_lap = sits.same_lap;
            laps = sits.laps;
            falls = sits.falls;
            counted = sits.counted;
            settled = sits.settled;
            synced = sits.synced;
          };
          no_fault = λ serves. refl;
          disk_fault = λ is. absurd (gives_no_disk_fault r _ _ _ gives is);
          later = later;
          write_fault = λ is. on_err_at r _ _ cause is;
          machine = refl;
          blocks = λ lap index. refl;
        };
        reads_nothing = λ is. gives_no_read_fault r _ _ _ gives is;
      }

  -- a comment
  pub comment_out : (line : Option Item) (item : Item) → Some item ≡ line → item ≡ Item.Skip → CarriesOut (λ M B. line_alone M B line) (Ok tt) was was
  comment_out line item says is =
      from_stand (λ M B. line_alone M B line) (Ok tt) was was
      (λ s fits. (
        stand s was,
        (λ serves. fits),
        goes_here was.machine (line_alone was.machine was.blocks line) (stand s was) (outside was)
            (λ x. ap (λ l. line_alone was.machine was.blocks l (at (stand s was) x)) (sym (ap (λ (i : Item). Some i) (sym is) ∙ says)) ∙ skip_is was.machine was.blocks (at (stand s was) x)),
      ))

  -- a line that is no item, or one that isn't built
  pub no_item : (line : Option Item) → None ≡ line → CarriesOut (λ M B. line_alone M B line) (Err Halt.ScriptFault) was was
  no_item line says =
      from_stand (λ M B. line_alone M B line) (Err Halt.ScriptFault) was was
      (λ s fits. (
        stand s was,
        (λ serves. fits),
        stops_here was.machine (line_alone was.machine was.blocks line) (stand s was) (outside was) (λ x. ap (λ l. line_alone was.machine was.blocks l (at (stand s was) x)) (sym says)),
      ))

-- an item of which the test says so
pub comment_is : (item : Item) → is_comment item ≡ true → item ≡ Item.Skip
comment_is Item.Skip e = refl
comment_is (Item.Event event) e = absurd (cc e)
comment_is (Item.OrderEvent kind order) e = absurd (cc e)
comment_is (Item.Again device) e = absurd (cc e)
comment_is (Item.As number event) e = absurd (cc e)
comment_is Item.Off e = absurd (cc e)
comment_is Item.On e = absurd (cc e)
comment_is (Item.Cut unit count torn) e = absurd (cc e)
comment_is (Item.Alter side at mask) e = absurd (cc e)
comment_is Item.Clear e = absurd (cc e)
comment_is (Item.Show what) e = absurd (cc e)
