-- What a new event tells, where its offer was whole, where a cut came in it, and where the disk failed in it. An opening comes
-- behind a cut.
use Rattle.std.proofs.Common.{◌≡◌, ◌∙◌, ap, ◌+◌, [], ◌∷◌, codes, arith, true}
use Rattle.gd_base.specs.declared.refusal.Reply.{Reply}
use Rattle.gd_base.specs.declared.step.Numbered.{Numbered}
use Rattle.gd_base.specs.declared.step.Stepped.{Stepped}
use Rattle.gd_base.specs.Histories.Entry.{device_of}
use Rattle.gd_base.specs.Judging.Answer.{answer, after_answer, entry_of}
use Rattle.gd_base.specs.Judging.Legal.{draw_of}
use Rattle.gd_base.specs.Judging.Machine.{Machine, Blocks}
use Rattle.gd_base.proofs.AnswerLemmas.Answer.{new_event}
use Rattle.gd_cabinet.specs.Answers.{view_offered}
use Rattle.gd_disk.specs.CutRuns.{IsCompleteRun, IsCutOff}
use Rattle.gd_disk.specs.Disk.{DiskState}
use Rattle.gd_top.specs.Code.Falls.{AreWaiting, fall_of}
use Rattle.gd_top.specs.Code.Standing.{Standing, Later, EndsInNone, at, finds}
use Rattle.gd_top.specs.Report.AnswerText.{answer_text}
use Rattle.gd_top.specs.Report.Lines.{answer_line}
use Rattle.gd_top.specs.Run.Offers.{Offer, is_broken, syncs_of_event, Rise, AreArmed}
use Rattle.gd_top.specs.Run.Openings.{Reopening, Answer, answered, recorded}
use Rattle.gd_top.specs.Run.State.{Recording, prints, breaks}
use Rattle.gd_top.proofs.RunLemmas.Equations.{answered_new}
use Rattle.gd_top.proofs.RunLemmas.OffersAt.{after_offer, after_whole, after_fall, offer_whole, offer_fell, offer_broke}

module _ {V : Type 0} (M : Machine V) (B : Blocks) (again : Reopening V) (e : Numbered) (reply : Reply) (s : Standing V) (new : answer M s.view e ≡ Stepped.New reply) where
  -- the view with the entry is the one that the cabinet has
  pub offered_is : view_offered M B s.lap s.view e ≡ M.effect s.view (entry_of M B s.lap s.view e)
  offered_is = ap (λ (a : Stepped). after_answer M s.view e (draw_of M B s.lap s.view e.event) a) new

  -- after a whole offer: the entry is recorded
  abbrev pub event_recorded : Standing V
  event_recorded =
      let entry = entry_of M B s.lap s.view e in
      record (after_whole syncs_of_event s) { view = M.effect s.view entry; history = entry ∷ s.history }

  pub event_whole : (old now : DiskState) → AreArmed s.armed old.armed → AreWaiting old.armed → IsCompleteRun syncs_of_event old now
      → (x : Later V) → EndsInNone x.broken_at (s.offers + 1) → Rise (s.offers + 1) x.falls
      → answered M B again e (at s x) ≡ prints (answer_text e (Stepped.New reply) (M.count event_recorded.view)) (at event_recorded x)
  event_whole old now told waits run x whole rise =
      let entry = entry_of M B s.lap s.view e in
      answered_new M B again e (at s x) reply new
      ∙ ap (λ (o : Offer V). recorded M again entry o.fate o.state) (offer_whole syncs_of_event s x old now (whole (s.offers + 1) (omega arith)) told waits run rise)
      ∙ ap (λ (r : Reply). prints (answer_line (codes "ack") (device_of e.event) e.number r (M.count event_recorded.view)) (at event_recorded x)) (new_event M s.view e reply new).judged

  -- with a cut in it: the entry is in flight, and the event is wanted again
  pub event_fell : (old now : DiskState) → AreArmed s.armed old.armed → IsCutOff syncs_of_event old now → (x : Later V) → EndsInNone x.broken_at (s.offers + 1)
      → answered M B again e (at s (finds [] (fall_of s.armed (s.offers + 1)) x)) ≡ again (Recording (entry_of M B s.lap s.view e)) (Answer e) (at (after_fall syncs_of_event s) x)
  event_fell old now told cut x whole =
      let entry = entry_of M B s.lap s.view e in
      answered_new M B again e (at s (finds [] (fall_of s.armed (s.offers + 1)) x)) reply new
      ∙ ap (λ (o : Offer V). recorded M again entry o.fate o.state) (offer_fell syncs_of_event s x old now (whole (s.offers + 1) (omega arith)) told cut)

  -- with a failure of the disk in it: the run ends with the entry in flight
  pub event_broke : (x : Later V) → is_broken x.broken_at (s.offers + 1) ≡ true
      → answered M B again e (at s x) ≡ breaks (Recording (entry_of M B s.lap s.view e)) (at (after_offer syncs_of_event s) x)
  event_broke x broken =
      let entry = entry_of M B s.lap s.view e in
      answered_new M B again e (at s x) reply new
      ∙ ap (λ (o : Offer V). recorded M again entry o.fate o.state) (offer_broke syncs_of_event s x broken)
