-- The lines `on`, `off` and `alter`, what a lock tells, and lines that have no place with the power as it is.
use Rattle.std.proofs.Common.{◌≡◌, ◌∙◌, ap, sym, refl, ℕ, ◌+◌, nat_le, ◌&&◌, Bool, true, false, [], ◌∷◌, ◌++◌, length, if◌then◌else◌, codes}
use Rattle.gd_base.specs.Judging.Machine.{Machine, Blocks}
use Rattle.gd_disk.specs.declared.disk.ArmedCut.{ArmedCut}
use Rattle.gd_disk.specs.declared.side.Side.{Side}
use Rattle.gd_script.specs.Items.{is_cut}
use Rattle.gd_script.specs.declared.item.Item.{Item}
use Rattle.gd_store.specs.Masks.{Mask}
use Rattle.gd_top.specs.Code.Standing.{Standing, Later, at}
use Rattle.gd_top.specs.Run.Items.{alter_meaning, below_limit, in_trial, item_meaning, off_meaning, on_meaning}
use Rattle.gd_top.specs.Report.Lines.{altered_line, locked_line}
use Rattle.gd_top.specs.Script.Kinds.{is_comment, needs_memory}
use Rattle.gd_top.specs.Run.State.{State, Part, Off, Stops, prints, ends}
use Rattle.gd_top.specs.declared.memory.TheConstants.{MOST_POWER_ONS}
use Rattle.gd_top.proofs.RunLemmas.Equations.{on_is, off_is, cut_is, alter_is, clear_is}
use Rattle.gd_top.proofs.RunLemmas.Standings.{open_stand, closed_stand, locked_stand}

module _ {V : Type 0} where
  -- a line that is only for trials, in a trial
  pub of_trial : (u : State V) (t : Part V) → u.is_trial ≡ true → in_trial u t ≡ t
  of_trial u t trial = ap (λ (b : Bool). if b then t else ends Stops [] u) trial

  -- and one that has no place in a trial either
  pub no_trial : (u : State V) → in_trial u (ends Stops [] u) ≡ ends Stops [] u
  no_trial u = either u.is_trial
    where
      either : (b : Bool) → (if b then ends Stops [] u else ends Stops [] u) ≡ ends Stops [] u
      either true = refl
      either false = refl

  -- the limit of a trial
  pub limit_of : (u : State V) (t : Part V) → u.is_trial ≡ true → below_limit u t ≡ (if nat_le MOST_POWER_ONS (u.power_ons + length u.armed) then ends Stops [] u else t)
  limit_of u t trial = ap (λ (b : Bool). if b && nat_le MOST_POWER_ONS (u.power_ons + length u.armed) then ends Stops [] u else t) trial

  pub with_limit : (u : State V) (t : Part V) → u.is_trial ≡ true → in_trial u (below_limit u t) ≡ (if nat_le MOST_POWER_ONS (u.power_ons + length u.armed) then ends Stops [] u else t)
  with_limit u t trial = of_trial u (below_limit u t) trial ∙ limit_of u t trial

module _ {V : Type 0} (M : Machine V) (B : Blocks) (lap : ℕ) where
  -- one cut more, in any phase
  abbrev pub armed_after : ArmedCut → Standing V → Standing V
  armed_after cut s = record s { armed = s.armed ++ cut ∷ [] }

  pub cut_tells : (cut : ArmedCut) (s : Standing V) (x : Later V) → s.is_trial ≡ true → nat_le MOST_POWER_ONS (s.power_ons + length s.armed) ≡ false
      → item_meaning M B (Item.Cut cut.unit cut.count cut.torn) (at s x) ≡ prints (codes "armed\n") (at (armed_after cut s) x)
  cut_tells cut s x trial below =
      let u = at s x in
      let t = prints (codes "armed\n") (at (armed_after cut s) x) in
      cut_is M B cut.unit cut.count cut.torn u ∙ with_limit u t trial ∙ ap (λ (b : Bool). if b then ends Stops [] u else t) below

  pub cut_stops : (cut : ArmedCut) (s : Standing V) (x : Later V) → s.is_trial ≡ true → nat_le MOST_POWER_ONS (s.power_ons + length s.armed) ≡ true
      → item_meaning M B (Item.Cut cut.unit cut.count cut.torn) (at s x) ≡ ends Stops [] (at s x)
  cut_stops cut s x trial limit =
      let u = at s x in
      let t = prints (codes "armed\n") (at (armed_after cut s) x) in
      cut_is M B cut.unit cut.count cut.torn u ∙ with_limit u t trial ∙ ap (λ (b : Bool). if b then ends Stops [] u else t) limit

  -- the power is off, with the view that was open, and nothing altered
  abbrev pub off_after : V → Standing V → Standing V
  off_after v s = record s { view = v; phase = Off; lap = lap; masks = [] }

  pub off_tells : (v w : V) (s : Standing V) (x : Later V) → s.is_trial ≡ true → w ≡ v → item_meaning M B Item.Off (at (open_stand v lap s) x) ≡ prints (codes "off\n") (at (off_after w s) x)
  off_tells v w s x trial is = off_is M B (at (open_stand v lap s) x) ∙ of_trial (at (open_stand v lap s) x) (prints (codes "off\n") (at (off_after v s) x)) trial ∙ ap (λ (u : V). prints (codes "off\n") (at (off_after u s) x)) (sym is)

  -- one alteration more
  abbrev pub altered_after : Mask → Standing V → Standing V
  altered_after m s = record s { phase = Off; lap = lap; masks = m ∷ s.masks }

  pub alter_tells : (m : Mask) (s : Standing V) (x : Later V) → s.is_trial ≡ true → item_meaning M B (Item.Alter m.side m.place m.mask) (at (closed_stand lap s) x) ≡ prints (altered_line m.side m.place) (at (altered_after m s) x)
  alter_tells m s x trial =
      let u = at (closed_stand lap s) x in
      alter_is M B m.side m.place m.mask u ∙ of_trial u (prints (altered_line m.side m.place) (at (altered_after m s) x)) trial

  -- over a locked memory a line about the machine tells that
  pub lock_tells : (item : Item) → needs_memory item ≡ true → (s : Standing V) (x : Later V) → item_meaning M B item (at (locked_stand lap s) x) ≡ prints locked_line (at (locked_stand lap s) x)
  unfolding item_meaning
  lock_tells (Item.Event event) needs s x = refl
  lock_tells (Item.OrderEvent kind order) needs s x = refl
  lock_tells (Item.Again device) needs s x = refl
  lock_tells (Item.As number event) needs s x = refl
  lock_tells Item.Off needs s x = absurd (cc needs)
  lock_tells Item.On needs s x = absurd (cc needs)
  lock_tells (Item.Cut unit count torn) needs s x = absurd (cc needs)
  lock_tells (Item.Alter side at mask) needs s x = absurd (cc needs)
  lock_tells Item.Clear needs s x = absurd (cc needs)
  lock_tells (Item.Show what) needs s x = refl
  lock_tells Item.Skip needs s x = absurd (cc needs)

  -- ================ lines that have no place

  -- `on`, `alter` and `clear`
  pub no_place_on : (item : Item) → needs_memory item ≡ false → (item ≡ Item.Off → ⊥) → is_comment item ≡ false → is_cut item ≡ false
      → (v : V) (s : Standing V) (x : Later V) → item_meaning M B item (at (open_stand v lap s) x) ≡ ends Stops [] (at (open_stand v lap s) x)
  no_place_on Item.On needs off skip cut v s x = on_is M B (at (open_stand v lap s) x) ∙ no_trial (at (open_stand v lap s) x)
  no_place_on (Item.Event event) needs off skip cut v s x = absurd (cc needs)
  no_place_on (Item.OrderEvent kind order) needs off skip cut v s x = absurd (cc needs)
  no_place_on (Item.Again device) needs off skip cut v s x = absurd (cc needs)
  no_place_on (Item.As number event) needs off skip cut v s x = absurd (cc needs)
  no_place_on Item.Off needs off skip cut v s x = absurd (off refl)
  no_place_on (Item.Cut unit count torn) needs off skip cut v s x = absurd (cc cut)
  no_place_on (Item.Alter side place mask) needs off skip cut v s x = alter_is M B side place mask (at (open_stand v lap s) x) ∙ no_trial (at (open_stand v lap s) x)
  no_place_on Item.Clear needs off skip cut v s x = clear_is M B _
  no_place_on (Item.Show what) needs off skip cut v s x = absurd (cc needs)
  no_place_on Item.Skip needs off skip cut v s x = absurd (cc skip)

  -- all but `on`, `alter` and comments
  pub no_place_off : (item : Item) → (item ≡ Item.On → ⊥) → ((side : Side) (at mask : ℕ) → item ≡ Item.Alter side at mask → ⊥) → is_comment item ≡ false → is_cut item ≡ false
      → (s : Standing V) (x : Later V) → item_meaning M B item (at (closed_stand lap s) x) ≡ ends Stops [] (at (closed_stand lap s) x)
  unfolding item_meaning
  no_place_off (Item.Event event) on alter skip cut s x = refl
  no_place_off (Item.OrderEvent kind order) on alter skip cut s x = refl
  no_place_off (Item.Again device) on alter skip cut s x = refl
  no_place_off (Item.As number event) on alter skip cut s x = refl
  no_place_off Item.Off on alter skip cut s x = no_trial (at (closed_stand lap s) x)
  no_place_off Item.On on alter skip cut s x = absurd (on refl)
  no_place_off (Item.Cut unit count torn) on alter skip cut s x = absurd (cc cut)
  no_place_off (Item.Alter side at mask) on alter skip cut s x = absurd (alter side at mask refl)
  no_place_off Item.Clear on alter skip cut s x = refl
  no_place_off (Item.Show what) on alter skip cut s x = refl
  no_place_off Item.Skip on alter skip cut s x = absurd (cc skip)

  -- over a locked memory: `on`, `off` and `alter`
  pub no_place_locked : (item : Item) → needs_memory item ≡ false → (item ≡ Item.Clear → ⊥) → is_comment item ≡ false → is_cut item ≡ false
      → (s : Standing V) (x : Later V) → item_meaning M B item (at (locked_stand lap s) x) ≡ ends Stops [] (at (locked_stand lap s) x)
  unfolding item_meaning
  no_place_locked (Item.Event event) needs clear skip cut s x = absurd (cc needs)
  no_place_locked (Item.OrderEvent kind order) needs clear skip cut s x = absurd (cc needs)
  no_place_locked (Item.Again device) needs clear skip cut s x = absurd (cc needs)
  no_place_locked (Item.As number event) needs clear skip cut s x = absurd (cc needs)
  no_place_locked Item.Off needs clear skip cut s x = no_trial (at (locked_stand lap s) x)
  no_place_locked Item.On needs clear skip cut s x = no_trial (at (locked_stand lap s) x)
  no_place_locked (Item.Cut unit count torn) needs clear skip cut s x = absurd (cc cut)
  no_place_locked (Item.Alter side place mask) needs clear skip cut s x = no_trial (at (locked_stand lap s) x)
  no_place_locked Item.Clear needs clear skip cut s x = absurd (clear refl)
  no_place_locked (Item.Show what) needs clear skip cut s x = absurd (cc needs)
  no_place_locked Item.Skip needs clear skip cut s x = absurd (cc skip)

  -- ================ lines that have no place over an image

  -- a line that is only for trials, in a run over an image
  out_of_trial : (u : State V) (t : Part V) → u.is_trial ≡ false → in_trial u t ≡ ends Stops [] u
  out_of_trial u t image = ap (λ (b : Bool). if b then t else ends Stops [] u) image

  -- all but those about the machine
  pub no_place_over : (item : Item) → needs_memory item ≡ false → is_comment item ≡ false → (v : V) (s : Standing V) (x : Later V) → s.is_trial ≡ false
      → item_meaning M B item (at (open_stand v lap s) x) ≡ ends Stops [] (at (open_stand v lap s) x)
  no_place_over (Item.Event event) needs skip v s x image = absurd (cc needs)
  no_place_over (Item.OrderEvent kind order) needs skip v s x image = absurd (cc needs)
  no_place_over (Item.Again device) needs skip v s x image = absurd (cc needs)
  no_place_over (Item.As number event) needs skip v s x image = absurd (cc needs)
  no_place_over Item.Off needs skip v s x image = let u = at (open_stand v lap s) x in off_is M B u ∙ out_of_trial u (off_meaning u.phase u) image
  no_place_over Item.On needs skip v s x image = let u = at (open_stand v lap s) x in on_is M B u ∙ out_of_trial u (on_meaning M B u.phase u) image
  no_place_over (Item.Cut unit count torn) needs skip v s x image = let u = at (open_stand v lap s) x in cut_is M B unit count torn u ∙ out_of_trial u _ image
  no_place_over (Item.Alter side place mask) needs skip v s x image = let u = at (open_stand v lap s) x in alter_is M B side place mask u ∙ out_of_trial u (alter_meaning (record { side = side; place = place; mask = mask }) u.phase u) image
  no_place_over Item.Clear needs skip v s x image = clear_is M B (at (open_stand v lap s) x)
  no_place_over (Item.Show what) needs skip v s x image = absurd (cc needs)
  no_place_over Item.Skip needs skip v s x image = absurd (cc skip)

  -- over a locked one all but those and `clear`
  pub no_place_shut : (item : Item) → needs_memory item ≡ false → (item ≡ Item.Clear → ⊥) → is_comment item ≡ false → (s : Standing V) (x : Later V) → s.is_trial ≡ false
      → item_meaning M B item (at (locked_stand lap s) x) ≡ ends Stops [] (at (locked_stand lap s) x)
  no_place_shut (Item.Event event) needs clear skip s x image = absurd (cc needs)
  no_place_shut (Item.OrderEvent kind order) needs clear skip s x image = absurd (cc needs)
  no_place_shut (Item.Again device) needs clear skip s x image = absurd (cc needs)
  no_place_shut (Item.As number event) needs clear skip s x image = absurd (cc needs)
  no_place_shut Item.Off needs clear skip s x image = let u = at (locked_stand lap s) x in off_is M B u ∙ out_of_trial u (off_meaning u.phase u) image
  no_place_shut Item.On needs clear skip s x image = let u = at (locked_stand lap s) x in on_is M B u ∙ out_of_trial u (on_meaning M B u.phase u) image
  no_place_shut (Item.Cut unit count torn) needs clear skip s x image = let u = at (locked_stand lap s) x in cut_is M B unit count torn u ∙ out_of_trial u _ image
  no_place_shut (Item.Alter side place mask) needs clear skip s x image = let u = at (locked_stand lap s) x in alter_is M B side place mask u ∙ out_of_trial u (alter_meaning (record { side = side; place = place; mask = mask }) u.phase u) image
  no_place_shut Item.Clear needs clear skip s x image = absurd (clear refl)
  no_place_shut (Item.Show what) needs clear skip s x image = absurd (cc needs)
  no_place_shut Item.Skip needs clear skip s x image = absurd (cc skip)
