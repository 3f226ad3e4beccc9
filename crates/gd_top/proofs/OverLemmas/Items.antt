-- An item over an image.
use Rattle.std.proofs.Common.{◌≡◌, inl, inr, sym, subst, refl, ◌≤◌, ℕ, List, [], Option, arith, Result, Err, OnErr}
use Rattle.gd_base.specs.Judging.Machine.{Machine, Blocks}
use Rattle.gd_base.specs.Outside.Causes.{Rose}
use Rattle.gd_script.specs.declared.item.Item.{Item}
use Rattle.gd_top.specs.Claims.ImageRuns.{WasOpened}
use Rattle.gd_top.specs.Code.Memory.{Moment}
use Rattle.gd_top.specs.Code.OverImage.{AreOpenedIn, DoesOver, Rests, over}
use Rattle.gd_top.specs.Code.Parts.{GivesText}
use Rattle.gd_top.specs.Code.Standing.{Standing, Later, at}
use Rattle.gd_top.specs.Run.Items.{item_meaning}
use Rattle.gd_top.specs.Run.State.{State, Part, Phase, On, Off, Locked, Stops, ends, prints}
use Rattle.gd_top.specs.declared.halt.Halt.{Halt}
use Rattle.gd_top.proofs.ItemLemmas.Lines.{says_here, stops_does}
use Rattle.gd_top.proofs.OverLemmas.Parts.{ends_given}
use Rattle.gd_top.proofs.RunLemmas.Said.{gives_no_read_fault}
use Rattle.gd_top.proofs.RunLemmas.Standings.{stand, does_as}

pub opened_of : {V : Type 0} (M : Machine V) (image : List ℕ) (p : Phase) (images : List (List ℕ)) → AreOpenedIn M image p images → WasOpened M image images
opened_of M image On images h = h
opened_of M image Off images h = absurd h
opened_of M image Locked images h = inr (inl h)

-- an item that a line said, over the memory that was found
pub over_by : {V A : Type 0} (T : Type 0) (moment_at : A → Moment V) (memory found : A) (is : memory ≡ found) (r : Result (Unit {0}) Halt) (now : Moment V) (item said : Item) → item ≡ said
    → DoesOver T (λ M B. item_meaning M B said) r (moment_at found) now → DoesOver T (λ M B. item_meaning M B item) r (moment_at memory) now
over_by {A = A} T moment_at memory found is r now item said says h =
    subst (λ (m : A). DoesOver T (λ M B. item_meaning M B item) r (moment_at m) now) (sym is)
    (subst (λ (i : Item). DoesOver T (λ M B. item_meaning M B i) r (moment_at found) now) (sym says) h)

module _ {V : Type 0} (T : Type 0) (was : Moment V) where
  -- told alike
  pub over_as : (f g : Machine V → Blocks → State V → Part V) (r : Result (Unit {0}) Halt) (now : Moment V)
      → ((images : List (List ℕ)) (s : Standing V) (x : Later V) → g was.machine was.blocks (at (stand s (over images was)) x) ≡ f was.machine was.blocks (at (stand s (over images was)) x))
      → DoesOver T f r was now → DoesOver T g r was now
  over_as f g r now same h = record {
    does = λ told image images stands.
        let k = h.does told image images stands in
        (k.0, k.1, k.2, does_as f g r (over images was) (over k.0 now) (same images) k.3);
    ends = h.ends;
    reads_nothing = h.reads_nothing;
  }

  -- an item that has no place here
  pub stops_over : Rests was → (item : Item) → ((images : List (List ℕ)) (s : Standing V) (x : Later V) → item_meaning was.machine was.blocks item (at (stand s (over images was)) x) ≡ ends Stops [] (at (stand s (over images was)) x))
      → DoesOver T (λ M B. item_meaning M B item) (Err Halt.ScriptFault) was was
  stops_over rests item tells = record {
    does = λ told image images stands. (images, opened_of was.machine image was.phase images stands.opened, (λ serves. stands), stops_does (over images was) stands.sits item (tells images));
    ends = record {
      rests = λ serves. rests;
      no_stop = λ serves. refl;
      disk_fault = λ is. absurd (cc is);
      later = omega arith;
      write_fault = λ is. absurd (cc is);
      machine = refl;
      blocks = λ lap index. refl;
      falls = refl;
    };
    reads_nothing = λ is. absurd (cc is);
  }

  -- a text was given, or a front of it, and nothing else was done
  pub says_over : Rests was → (tell : Machine V → Blocks → State V → Part V) (r : Result (Unit {0}) Halt) (taken : Option (List ℕ)) (faults : ℕ) (text : List ℕ)
      → ((images : List (List ℕ)) (s : Standing V) (x : Later V) → tell was.machine was.blocks (at (stand s (over images was)) x) ≡ prints text (at (stand s (over images was)) x))
      → GivesText r was.taken taken text → was.faults ≤ faults → OnErr r (Rose was.faults faults) → DoesOver T tell r was (record was { taken = taken; faults = faults })
  says_over rests tell r taken faults text tells gives later cause = record {
    does = λ told image images stands.
        let d = says_here (over images was) tell r taken faults text stands.sits (tells images) gives later cause in
        (images, opened_of was.machine image was.phase images stands.opened, (λ serves. record { opened = stands.opened; as_many = stands.as_many; falls = stands.falls; sits = d.leaves.sits serves }), d);
    ends = ends_given was (record was { taken = taken; faults = faults }) refl (λ lap index. refl) refl r text gives later cause (λ serves. record { size = rests.size; powered = rests.powered; runs = rests.runs }) refl;
    reads_nothing = λ is. gives_no_read_fault r _ _ _ gives is;
  }
