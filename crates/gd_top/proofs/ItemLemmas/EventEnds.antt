-- One offer of an event, from the moment before it to the one after it: it is answered, the disk fails in it, or a cut comes in it.
use Rattle.std.proofs.Common.{◌≡◌, ◌∙◌, ap, sym, subst, refl, ℕ, ◌+◌, ◌≤◌, ◌++◌, true, false, Bool, List, [], ◌∷◌, append-nil, length, arith, drop, Option, Some, Result, Err, OnErr}
use Rattle.std.proofs.lemmas.List.{length-append}
use Rattle.std.proofs.KnownBytes.{Appends-nil}
use Rattle.std.specs.Io.KnownBytes.{Appends}
use Rattle.gd_base.specs.declared.refusal.Reply.{Reply}
use Rattle.gd_base.specs.declared.step.Numbered.{Numbered}
use Rattle.gd_base.specs.declared.step.Stepped.{Stepped}
use Rattle.gd_base.specs.Histories.Entry.{Entry}
use Rattle.gd_base.specs.Judging.Answer.{answer, after_answer, entry_of, is_new}
use Rattle.gd_base.specs.Judging.Legal.{draw_of}
use Rattle.gd_base.specs.Judging.Machine.{Machine, Blocks}
use Rattle.gd_base.specs.Laws.TellsViews.{HasPayload, TellsViews}
use Rattle.gd_base.specs.Outside.Causes.{Rose}
use Rattle.gd_cabinet.specs.Answers.{view_offered, syncs_of, event_syncs}
use Rattle.gd_cabinet.specs.Shown.{IsInBoth, ShowsEither}
use Rattle.gd_disk.specs.CutRuns.{IsCompleteRun, IsCutOff, IsFaulted, RunOf}
use Rattle.gd_disk.specs.Disk.{DiskState}
use Rattle.gd_disk.specs.Runs.{LeavesOnly}
use Rattle.gd_disk.proofs.Runs.{at_end}
use Rattle.gd_disk.proofs.WholeRuns.{cut_lowers}
use Rattle.gd_store.specs.Writing.{MadeSyncs}
use Rattle.gd_top.specs.Code.Falls.{AreCalls, falls_by, fall_of}
use Rattle.gd_top.specs.Code.Memory.{Moment, Fits, FitsDown, Sits, IsDown, Does, Leaves, outside}
use Rattle.gd_top.specs.Code.Parts.{GivesText, Pending}
use Rattle.gd_top.specs.Code.Standing.{Standing, Later, at, only}
use Rattle.gd_top.specs.Report.AnswerText.{answer_text}
use Rattle.gd_top.specs.Run.Items.{event_meaning, with_power}
use Rattle.gd_top.specs.Run.Offers.{syncs_of_event}
use Rattle.gd_top.specs.Run.Openings.{Answer, answered, power_on}
use Rattle.gd_top.specs.Run.State.{State, Part, Phase, Recording, On, prints, breaks}
use Rattle.gd_top.specs.declared.halt.Halt.{Halt}
use Rattle.gd_top.proofs.ItemLemmas.EventOffers.{offered_is, event_recorded, event_whole, event_fell, event_broke}
use Rattle.gd_top.proofs.ItemLemmas.Events.{ends_next, failed_new, is_next, new_reply}
use Rattle.gd_top.proofs.ItemLemmas.Images.{both_alike}
use Rattle.gd_top.proofs.RunLemmas.Cuts.{armed_whole, armed_still, armed_used, armed_length, armed_faulted, calls_whole, calls_used, calls_many, falls_are, waiting_whole, waiting_used}
use Rattle.gd_top.proofs.RunLemmas.Equations.{answered_again, answered_step, answered_full}
use Rattle.gd_top.proofs.RunLemmas.OffersAt.{after_offer, after_fall, fall_moves}
use Rattle.gd_top.proofs.RunLemmas.Said.{found_none, gives_no_disk_fault, gives_no_read_fault, moves_on, on_err_at, said, said_whole}
use Rattle.gd_top.proofs.RunLemmas.Standings.{CarriesFrom, stand, stand_is, from_stand}

-- a moment with the memory open
abbrev pub on_at : {V : Type 0} → Moment V → Moment V
on_at m = record m { phase = On }

-- with so many offers
abbrev pub offers_at : {V : Type 0} → Moment V → ℕ → Moment V → Moment V
offers_at m offers n = record n { phase = On; counts = record m.counts { offers = offers } }

-- ================ an answer

-- The event was answered: its run was complete.
pub record IsAnswered {V : Type 0} (e : Numbered) (m n : Moment V) : Type 0 where
  pub run : IsCompleteRun (event_syncs m.machine m.view e) m.disk n.disk
  pub view : n.view ≡ view_offered m.machine m.blocks m.counts.lap m.view e
  pub both : (image : List ℕ) → n.disk.may_find image → IsInBoth m.machine n.view image
  pub spelled : HasPayload n.machine n.view
  pub size : n.disk.size ≡ m.disk.size
  pub is_on : n.disk.is_on ≡ true
  pub runs : n.is_stopped ≡ false
  pub lap : n.lap ≡ m.lap
  pub trial : n.is_trial ≡ m.is_trial
  pub found : n.disk.found ≡ m.disk.found
  pub machine : n.machine ≡ m.machine
  pub blocks : (lap index : ℕ) → n.blocks lap index ≡ m.blocks lap index

module _ {V : Type 0} (e : Numbered) (m n : Moment V) (h : IsAnswered e m n) where
  abbrev tell : Machine V → Blocks → State V → Part V
  tell M B = event_meaning M B e

  module _ (sits : Sits (on_at m)) where
    sits_then : (offers : ℕ) → Sits (offers_at m offers n)
    sits_then offers =
        let syncs = event_syncs m.machine m.view e in
        let calls = calls_whole syncs m.counts.calls.items m.disk n.disk sits.counted.calls h.run in
        let many : length n.disk.armed ≡ length m.disk.armed = sym (calls_many m.counts.calls.items n.disk.armed calls) ∙ calls_many m.counts.calls.items m.disk.armed sits.counted.calls in
        record {
          tells = subst TellsViews (sym h.machine) sits.tells;
          given = sits.given ∙ ap (λ (O : Machine V). O.digest) (sym h.machine);
          size = h.size ∙ sits.size;
          power = h.is_on;
          runs = h.runs;
          same_lap = λ is. h.lap ∙ sits.same_lap refl;
          laps = sits.laps;
          falls = sits.falls;
          counted = record { calls = calls; waiting = waiting_whole syncs m.disk n.disk sits.counted.waiting h.run; room = omega (arith, many, sits.counted.room) };
          settled = λ is. absurd (cc is);
          synced = λ is. absurd (cc is);
        }

    module _ (r : Result (Unit {0}) Halt) (gives : GivesText r m.taken n.taken (answer_text e (answer m.machine m.view e) (m.machine.count n.view))) (later : m.faults ≤ n.faults) (cause : OnErr r (Rose m.faults n.faults)) where
      leaves_then : (offers : ℕ) → Leaves r (on_at m) (offers_at m offers n)
      leaves_then offers = record {
        sits = λ serves. sits_then offers;
        no_fault = λ serves. h.run.no_fault;
        disk_fault = λ is. absurd (gives_no_disk_fault r _ _ _ gives is);
        later = later;
        write_fault = λ is. on_err_at r _ _ cause is;
        machine = h.machine;
        blocks = h.blocks;
      }

      -- a new event: one offer more
      new_from : (reply : Reply) → answer m.machine m.view e ≡ Stepped.New reply → (s : Standing V) → Fits (stand s (on_at m)) (on_at m) → CarriesFrom tell r (on_at m) (offers_at m (m.counts.offers + 1) n) (stand s (on_at m))
      new_from reply new s fits =
          let M = m.machine in
          let B = m.blocks in
          let a = stand s (on_at m) in
          let to : Standing V = event_recorded M B (power_on M B) e reply a new in
          let b : Standing V = record to { view = n.view } in
          let now = offers_at m (m.counts.offers + 1) n in
          let run : IsCompleteRun syncs_of_event m.disk n.disk = subst (λ (x : Stepped). IsCompleteRun (syncs_of (is_new x)) m.disk n.disk) new h.run in
          let armed = armed_whole syncs_of_event s.armed m.disk n.disk fits.armed run in
          let view : to.view ≡ n.view = sym (h.view ∙ offered_is M B (power_on M B) e reply a new) in (
            b,
            (λ serves. record {
              phase = refl;
              trial = sym h.trial;
              known = (refl, refl);
              lines = refl;
              power_ons = refl;
              lap = refl;
              offers = refl;
              armed = armed;
              spelled = h.spelled;
              holds = both_alike n.machine M n.view n.view n.disk (sym h.machine) refl h.both;
              bad = λ is. absurd (cc is);
              explained = fits.explained;
            }),
            said_whole M r (event_meaning M B e) a b (outside (on_at m)) (outside now) n.disk (answer_text e (answer M m.view e) (M.count n.view)) h.found refl
                (moves_on a b (outside (on_at m)) (outside now) (omega arith) (omega arith) (omega (arith, run.made)))
                (λ x whole rise.
                event_whole M B (power_on M B) e reply a new m.disk n.disk fits.armed sits.counted.waiting run x whole rise
                ∙ ap (λ (u : V). prints (answer_text e (Stepped.New reply) (M.count u)) (at (record to { view = u }) x)) view
                ∙ ap (λ (y : Stepped). prints (answer_text e y (M.count n.view)) (at b x)) (sym new))
                fits.explained (armed_length b.armed n.disk.armed armed) h.both gives,
          )

      -- any other: no offer
      still_from : (a : Stepped) → answer m.machine m.view e ≡ a → is_new a ≡ false
          → ((u : State V) → u.view ≡ m.view → u.phase ≡ On → event_meaning m.machine m.blocks e u ≡ prints (answer_text e a (m.machine.count m.view)) u)
          → after_answer m.machine m.view e (draw_of m.machine m.blocks m.counts.lap m.view e.event) a ≡ m.view
          → (s : Standing V) → Fits (stand s (on_at m)) (on_at m) → CarriesFrom tell r (on_at m) (offers_at m m.counts.offers n) (stand s (on_at m))
      still_from answered is old tells after s fits =
          let M = m.machine in
          let B = m.blocks in
          let a = stand s (on_at m) in
          let b : Standing V = record a { view = n.view } in
          let now = offers_at m m.counts.offers n in
          let none : is_new (answer M m.view e) ≡ false = ap is_new is ∙ old in
          let run : IsCompleteRun 0 m.disk n.disk = subst (λ (x : Bool). IsCompleteRun (syncs_of x) m.disk n.disk) none h.run in
          let armed = armed_still s.armed m.disk n.disk fits.armed run in
          let view : m.view ≡ n.view = sym (h.view ∙ ap (λ (x : Stepped). after_answer M m.view e (draw_of M B m.counts.lap m.view e.event) x) is ∙ after) in (
            b,
            (λ serves. record {
              phase = refl;
              trial = sym h.trial;
              known = (refl, refl);
              lines = refl;
              power_ons = refl;
              lap = refl;
              offers = refl;
              armed = armed;
              spelled = h.spelled;
              holds = both_alike n.machine M n.view n.view n.disk (sym h.machine) refl h.both;
              bad = λ is. absurd (cc is);
              explained = fits.explained;
            }),
            said M r (event_meaning M B e) a b (outside (on_at m)) (outside now) n.disk (answer_text e (answer M m.view e) (M.count n.view)) h.found refl
                (moves_on a b (outside (on_at m)) (outside now) (omega arith) (omega arith) (omega (arith, run.made)))
                (λ x whole.
                tells (at a x) refl refl
                ∙ ap (λ (u : V). prints (answer_text e answered (M.count u)) (at (record a { view = u }) x)) view
                ∙ ap (λ (y : Stepped). prints (answer_text e y (M.count n.view)) (at b x)) (sym is))
                fits.explained (armed_length b.armed n.disk.armed armed) h.both gives,
          )

      -- the event itself, with the power on
      by_power : (u : State V) → u.phase ≡ On → (text : List ℕ) → answered m.machine m.blocks (power_on m.machine m.blocks) e u ≡ prints text u → event_meaning m.machine m.blocks e u ≡ prints text u
      by_power u on text is = ap (λ (p : Phase). with_power p u (answered m.machine m.blocks (power_on m.machine m.blocks) e u)) on ∙ is

      -- by the answer
      still_by : (a : Stepped) → answer m.machine m.view e ≡ a → is_new a ≡ false → (s : Standing V) → Fits (stand s (on_at m)) (on_at m) → CarriesFrom tell r (on_at m) (offers_at m m.counts.offers n) (stand s (on_at m))
      still_by (Stepped.New reply) is old s fits = absurd (cc old)
      still_by (Stepped.Again reply) is old s fits =
          still_from (Stepped.Again reply) is old
          (λ u view on. by_power u on (answer_text e (Stepped.Again reply) (m.machine.count m.view)) (answered_again m.machine m.blocks (power_on m.machine m.blocks) e u reply (ap (λ (v : V). answer m.machine v e) view ∙ is)
          ∙ ap (λ (v : V). prints (answer_text e (Stepped.Again reply) (m.machine.count v)) u) view))
          refl s fits
      still_by (Stepped.OutOfStep expected) is old s fits =
          still_from (Stepped.OutOfStep expected) is old
          (λ u view on. by_power u on (answer_text e (Stepped.OutOfStep expected) (m.machine.count m.view)) (answered_step m.machine m.blocks (power_on m.machine m.blocks) e u expected (ap (λ (v : V). answer m.machine v e) view ∙ is)))
          refl s fits
      still_by Stepped.HistoryFull is old s fits =
          still_from Stepped.HistoryFull is old
          (λ u view on. by_power u on (answer_text e Stepped.HistoryFull (m.machine.count m.view)) (answered_full m.machine m.blocks (power_on m.machine m.blocks) e u (ap (λ (v : V). answer m.machine v e) view ∙ is)))
          refl s fits

      pub answers_new : is_new (answer m.machine m.view e) ≡ true → Does tell r (on_at m) (offers_at m (m.counts.offers + 1) n)
      answers_new new =
          let k = new_reply (answer m.machine m.view e) new in
          record {
            carried = from_stand tell r (on_at m) (offers_at m (m.counts.offers + 1) n) (λ s fits. new_from k.0 k.1 s fits);
            leaves = leaves_then (m.counts.offers + 1);
            reads_nothing = λ is. gives_no_read_fault r _ _ _ gives is;
          }

      pub answers_still : is_new (answer m.machine m.view e) ≡ false → Does tell r (on_at m) (offers_at m m.counts.offers n)
      answers_still old = record {
        carried = from_stand tell r (on_at m) (offers_at m m.counts.offers n) (λ s fits. still_by (answer m.machine m.view e) refl old s fits);
        leaves = leaves_then m.counts.offers;
        reads_nothing = λ is. gives_no_read_fault r _ _ _ gives is;
      }

-- ================ a failure

-- The event is a new one, and a call of the disk failed in it: its images show the view, or the view with the event.
pub record IsFailed {V : Type 0} (e : Numbered) (m n : Moment V) : Type 0 where
  pub reply : Reply
  pub is_new : answer m.machine m.view e ≡ Stepped.New reply
  pub near : (image : List ℕ) → n.disk.may_find image → ShowsEither m.machine m.view (view_offered m.machine m.blocks m.counts.lap m.view e) image
  pub found : n.disk.found ≡ m.disk.found
  pub taken : n.taken ≡ m.taken
  pub faults : n.faults ≡ m.faults
  pub machine : n.machine ≡ m.machine
  pub blocks : (lap index : ℕ) → n.blocks lap index ≡ m.blocks lap index

-- from what a submission leaves that failed
pub failed_event : {V T E : Type 0} (e : Numbered) (m n : Moment V) → Sits (on_at m) → (stop : E) → MadeSyncs {T = T} (event_syncs m.machine m.view e) (Err stop) m.disk n.disk → RunOf {T = T} (event_syncs m.machine m.view e) (Err stop) m.disk n.disk
    → LeavesOnly m.disk n.disk (ShowsEither m.machine m.view (view_offered m.machine m.blocks m.lap m.view e)) → n.disk.found ≡ m.disk.found → n.taken ≡ m.taken → n.faults ≡ m.faults → n.machine ≡ m.machine
    → ((lap index : ℕ) → n.blocks lap index ≡ m.blocks lap index) → IsFailed e m n × RunOf {T = T} syncs_of_event (Err stop) m.disk n.disk
failed_event {V} {T} {E} e m n sits stop syncs run any found taken faults machine blocks =
    let new = new_reply (answer m.machine m.view e) (failed_new (answer m.machine m.view e) _ _ syncs.fewer syncs.no_less) in (
      record {
        reply = new.0;
        is_new = new.1;
        near = λ image may.
            subst (λ (lap : ℕ). ShowsEither m.machine m.view (view_offered m.machine m.blocks lap m.view e) image) (sits.same_lap refl)
            (at_end m.disk n.disk (ShowsEither m.machine m.view (view_offered m.machine m.blocks m.lap m.view e)) any image may);
        found = found;
        taken = taken;
        faults = faults;
        machine = machine;
        blocks = blocks;
      },
      subst (λ (a : Stepped). RunOf {T = T} {E = E} (syncs_of (is_new a)) (Err stop) m.disk n.disk) new.1 run,
    )

-- the same once the cabinet was closed
pub failed_closed : {V : Type 0} (e : Numbered) (m n d : Moment V) → IsFailed e m n → d.disk ≡ n.disk → d.taken ≡ n.taken → d.faults ≡ n.faults → d.machine ≡ n.machine
    → ((lap index : ℕ) → d.blocks lap index ≡ n.blocks lap index) → IsFailed e m d
failed_closed e m n d h disk taken faults machine blocks = record {
  reply = h.reply;
  is_new = h.is_new;
  near = subst (λ (x : DiskState). (image : List ℕ) → x.may_find image → ShowsEither m.machine m.view (view_offered m.machine m.blocks m.counts.lap m.view e) image) (sym disk) h.near;
  found = ap (λ (x : DiskState). x.found) disk ∙ h.found;
  taken = taken ∙ h.taken;
  faults = faults ∙ h.faults;
  machine = machine ∙ h.machine;
  blocks = λ lap index. blocks lap index ∙ h.blocks lap index;
}

-- what a part keeps in which neither the disk nor the sink failed
pub record Keeps {V : Type 0} (a b : Moment V) : Type 0 where
  pub no_fault : b.disk.faults ≡ a.disk.faults
  pub later : a.faults ≤ b.faults
  pub machine : b.machine ≡ a.machine
  pub blocks : (lap index : ℕ) → b.blocks lap index ≡ a.blocks lap index

-- A cut came in the event: the power is off, with its entry in flight.
pub record EventFell {V : Type 0} (e : Numbered) (m n : Moment V) : Type 0 where
  pub fell : (s : Standing V) → Fits s m
      → (entry : Entry) × (t : Standing V) × FitsDown (Recording entry) t n
      × Pending m.machine (event_meaning m.machine m.blocks e) (power_on m.machine m.blocks (Recording entry) (Answer e)) s t (outside m) (outside n)
  pub keeps : Keeps m n
  pub offers : n.counts.offers ≡ m.counts.offers + 1
  pub power_ons : n.counts.power_ons ≡ m.counts.power_ons
  pub lines : n.counts.lines ≡ m.counts.lines

module _ {V : Type 0} (e : Numbered) (m n : Moment V) (h : IsFailed e m n) where
  nothing_printed : Appends m.taken n.taken []
  nothing_printed = subst (λ (taken : Option (List ℕ)). Appends m.taken taken []) (sym h.taken) (Appends-nil m.taken)

  either : (s : Standing V) (new : answer m.machine m.view e ≡ Stepped.New h.reply) (image : List ℕ) → n.disk.may_find image
      → ShowsEither m.machine m.view (m.machine.effect m.view (entry_of m.machine m.blocks m.counts.lap m.view e)) image
  either s new image may =
      subst (λ (w : V). ShowsEither m.machine m.view w image) (offered_is m.machine m.blocks (power_on m.machine m.blocks) e h.reply (stand s (on_at m)) new) (h.near image may)

  -- the disk failed in it
  pub event_faulted : IsFaulted syncs_of_event m.disk n.disk → n.counts.falls.items ≡ m.counts.falls.items → Does (λ M B. event_meaning M B e) (Err Halt.DiskFault) (on_at m) n
  event_faulted fault falls =
      let M = m.machine in
      let B = m.blocks in
      record {
        carried = from_stand (λ M B. event_meaning M B e) (Err Halt.DiskFault) (on_at m) n
            (λ s fits.
            let a = stand s (on_at m) in
            let x : Later V = only [] [] (Some (a.offers + 1)) in (
              a,
              (λ serves. absurd serves),
              record {
                ending = record {
                  found = found_none M m.disk.found n.disk.found h.found;
                  fell = [];
                  fallen = falls ∙ sym (append-nil m.counts.falls.items);
                  rising = tt;
                  broken_at = Some (a.offers + 1);
                  late = ends_next a.offers;
                  end = breaks (Recording (entry_of M B a.lap a.view e)) (at (after_offer syncs_of_event a) x);
                  tells = event_broke M B (power_on M B) e h.reply a h.is_new x (is_next a.offers);
                  used_up = (refl, refl);
                  explained = fits.explained;
                };
                breaks = refl;
                printed = nothing_printed;
                armed = armed_faulted syncs_of_event a.armed m.disk n.disk fits.armed fault;
                left = either s h.is_new;
              },
            ));
        leaves = record {
          sits = λ serves. absurd serves;
          no_fault = λ serves. absurd serves;
          disk_fault = λ is. fault.fault;
          later = omega (arith, h.faults);
          write_fault = λ is. absurd (cc is);
          machine = h.machine;
          blocks = h.blocks;
        };
        reads_nothing = λ is. absurd (cc is);
      }

-- a cut came in it, and was counted
pub record IsCounted {V : Type 0} (m n : Moment V) : Type 0 where
  pub trial : n.is_trial ≡ m.is_trial
  pub offers : n.counts.offers ≡ m.counts.offers + 1
  pub power_ons : n.counts.power_ons ≡ m.counts.power_ons
  pub lines : n.counts.lines ≡ m.counts.lines
  pub lap : n.counts.lap ≡ m.counts.lap
  pub given : n.counts.given ≡ m.counts.given
  pub calls : n.counts.calls.items ≡ drop 1 m.counts.calls.items
  pub falls : n.counts.falls.items ≡ m.counts.falls.items ++ falls_by m.counts.calls.items (m.counts.offers + 1)

module _ {V : Type 0} (m n : Moment V) (sits : Sits (on_at m)) (cut : IsCutOff syncs_of_event m.disk n.disk) (k : IsCounted m n) where
  -- the power is off, and there is room for one power-on more
  pub event_down : n.machine ≡ m.machine → n.disk.size ≡ m.disk.size → n.disk.is_on ≡ false → IsDown n
  event_down machine size off = record {
    tells = subst TellsViews (sym machine) sits.tells;
    given = k.given ∙ sits.given ∙ ap (λ (O : Machine V). O.digest) (sym machine);
    size = size ∙ sits.size;
    is_off = off;
    laps = omega (arith, sits.laps, k.lap, k.power_ons);
    falls = omega (arith, sits.falls, few m.counts.calls.items, length_falls, k.power_ons);
    calls = subst (λ (calls : List Bool). AreCalls calls n.disk.armed) (sym k.calls) (calls_used syncs_of_event m.counts.calls.items m.disk n.disk sits.counted.calls cut);
    waiting = waiting_used syncs_of_event m.disk n.disk sits.counted.waiting cut;
    room = omega (arith, cut_lowers syncs_of_event m.disk n.disk cut, sits.counted.room, k.power_ons);
  }
    where
      few : (calls : List Bool) → length (falls_by calls (m.counts.offers + 1)) ≤ 1
      few [] = omega arith
      few (true ∷ later) = omega arith
      few (false ∷ later) = omega arith

      length_falls : length n.counts.falls.items ≡ length m.counts.falls.items + length (falls_by m.counts.calls.items (m.counts.offers + 1))
      length_falls = ap length k.falls ∙ length-append m.counts.falls.items (falls_by m.counts.calls.items (m.counts.offers + 1))

  module _ (e : Numbered) (h : IsFailed e m n) where
    abbrev FellFrom : Standing V → Type 0
    FellFrom s = (entry : Entry) × (t : Standing V) × FitsDown (Recording entry) t n
        × Pending m.machine (event_meaning m.machine m.blocks e) (power_on m.machine m.blocks (Recording entry) (Answer e)) s t (outside (on_at m)) (outside n)

    fell_from : (s : Standing V) → Fits (stand s (on_at m)) (on_at m) → FellFrom (stand s (on_at m))
    fell_from s fits =
        let M = m.machine in
        let B = m.blocks in
        let a = stand s (on_at m) in
        let t : Standing V = after_fall syncs_of_event a in
        let entry = entry_of M B a.lap a.view e in
        let near = either e m n h s h.is_new in (
          entry,
          t,
          record {
            trial = sym k.trial;
            lines = sym k.lines;
            power_ons = sym k.power_ons;
            lap = sym k.lap;
            offers = sym k.offers;
            armed = armed_used syncs_of_event a.armed m.disk n.disk fits.armed cut;
            within = tt;
            spelled = subst (λ (N : Machine V). HasPayload N m.view) (sym h.machine) fits.spelled;
            near = λ image may. subst (λ (N : Machine V). ShowsEither N m.view (N.effect m.view entry) image) (sym h.machine) (near image may);
            fallen = λ image may. refl;
            explained = fits.explained;
          },
          record {
            since = [];
            listed = h.found ∙ sym (append-nil m.disk.found);
            fell = fall_of a.armed (a.offers + 1);
            fallen = k.falls ∙ ap (λ (falls : List ℕ). m.counts.falls.items ++ falls) (falls_are m.counts.calls.items a.armed m.disk.armed (a.offers + 1) sits.counted.calls fits.armed);
            report = [];
            printed = nothing_printed e m n h;
            moves = fall_moves a.armed a t (outside (on_at m)) (outside n) refl refl;
            tells = λ x whole rise. event_fell M B (power_on M B) e h.reply a h.is_new m.disk n.disk fits.armed cut x whole;
          },
        )

    pub event_fallen : EventFell e (on_at m) n
    event_fallen = record {
      fell = λ s fits.
          let is = stand_is s (on_at m) fits in
          subst FellFrom (sym is) (fell_from s (subst (λ (z : Standing V). Fits z (on_at m)) is fits));
      keeps = record { no_fault = cut.no_fault; later = omega (arith, h.faults); machine = h.machine; blocks = h.blocks };
      offers = k.offers;
      power_ons = k.power_ons;
      lines = k.lines;
    }
