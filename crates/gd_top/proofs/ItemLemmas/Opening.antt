-- What an opening tells: what was found, the start over it, or that the memory is locked.
use Rattle.std.proofs.Common.{◌≡◌, ◌∙◌, ap, refl, ℕ, ◌+◌, ◌<◌, ◌≤◌, ◌^◌, Bool, true, false, List, arith}
use Rattle.std.proofs.lemmas.Bool.Decides.{nat_tests}
use Rattle.gd_base.specs.declared.event.Event.{Event}
use Rattle.gd_base.specs.Judging.Answer.{after_answer, is_full, is_new}
use Rattle.gd_base.specs.Judging.Legal.{draw_of, next_entry}
use Rattle.gd_base.specs.Judging.Machine.{Machine, Blocks}
use Rattle.gd_base.specs.Payloads.Spelled.{Spelled, Shows}
use Rattle.gd_base.proofs.AnswerLemmas.Answer.{answer_new, answer_full}
use Rattle.gd_cabinet.specs.OpenMoments.{opening_syncs, start_of, start_syncs, view_started}
use Rattle.gd_cabinet.specs.Answers.{event_syncs, syncs_of}
use Rattle.gd_cabinet.specs.Shown.{shows}
use Rattle.gd_store.specs.Copy.{found_in}
use Rattle.gd_store.specs.Repair.{Repair, NoRepair, repair_needed, syncs_of_repair}
use Rattle.gd_store.specs.declared.copy.layout.TheConstants.{LAYOUT}
use Rattle.gd_top.specs.Run.Offers.{syncs_of_event}

module _ {V : Type 0} (M : Machine V) (B : Blocks) (lap : ℕ) where
  room_left : (v : V) → is_full M v ≡ false → M.count v < 2 ^ 36
  room_left v e = grind (arith, nat_tests, e)

  no_room : (v : V) → is_full M v ≡ true → 2 ^ 36 ≤ M.count v
  no_room v e = grind (arith, nat_tests, e)

  -- the view after the start, by whether the history was full
  abbrev view_by : Bool → V → V
  view_by true v = v
  view_by false v = M.effect v (next_entry M B lap v Event.Start)

  -- it is the view that the cabinet has
  start_by : (full : Bool) (v : V) → is_full M v ≡ full → view_started M B lap v ≡ view_by full v
  start_by true v e =
      let s = start_of M v in
      ap (λ a. after_answer M v s (draw_of M B lap v s.event) a) (answer_full M v s refl (no_room v e))
  start_by false v e =
      let s = start_of M v in
      ap (λ a. after_answer M v s (draw_of M B lap v s.event) a) (answer_new M v s refl (room_left v e))

  -- how many syncs the opening makes, by whether the history was full
  abbrev pub syncs_by : Bool → Repair → ℕ
  syncs_by true repair = syncs_of_repair repair
  syncs_by false repair = syncs_of_repair repair + syncs_of_event

  event_by_full : (full : Bool) (v : V) → is_full M v ≡ full → event_syncs M v (start_of M v) ≡ syncs_by full NoRepair
  event_by_full true v e = ap (λ a. syncs_of (is_new a)) (answer_full M v (start_of M v) refl (no_room v e))
  event_by_full false v e = ap (λ a. syncs_of (is_new a)) (answer_new M v (start_of M v) refl (room_left v e))

  both_syncs : (full : Bool) (repair : Repair) (n : ℕ) → n ≡ syncs_by full NoRepair → syncs_of_repair repair + n ≡ syncs_by full repair
  both_syncs true repair n e = omega (arith, e)
  both_syncs false repair n e = omega (arith, e)

  -- as many as the cabinet says
  pub opening_syncs_are : (v : V) (image : List ℕ) → shows M image ≡ Shows v → opening_syncs M image ≡ syncs_by (is_full M v) (repair_needed (found_in LAYOUT image))
  opening_syncs_are v image shown =
      let repair = repair_needed (found_in LAYOUT image) in
      ap (λ (spelled : Spelled V). syncs_of_repair repair + start_syncs M spelled) shown
      ∙ both_syncs (is_full M v) repair (event_syncs M v (start_of M v)) (event_by_full (is_full M v) v refl)
