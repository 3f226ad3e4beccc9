-- The line of an event ends with its answer, and what was acknowledged is in the history then.
use Rattle.std.proofs.Common.{◌≡◌, ◌∙◌, inl, inr, ℕ, ◌+◌, List, [], ◌∷◌, ◌++◌, append_assoc, Bool, true, false, refl, sym, ap, if◌then◌else◌}
use Rattle.gd_base.specs.declared.step.Numbered.{Numbered}
use Rattle.gd_base.specs.declared.step.Stepped.{Stepped}
use Rattle.gd_base.specs.Judging.Answer.{answer, entry_of, is_full, is_new}
use Rattle.gd_base.specs.Judging.Machine.{Machine, Blocks}
use Rattle.gd_base.specs.Payloads.LoadedView.{opens}
use Rattle.gd_base.specs.Payloads.Spelled.{Spelled, Shows, Foreign, Unreadable}
use Rattle.gd_store.specs.declared.copy.states.Found.{Found}
use Rattle.gd_store.specs.Repair.{Repair, repair_needed, syncs_of_repair}
use Rattle.gd_top.specs.Claims.NothingLost.{Acknowledged, IsAnswered}
use Rattle.gd_top.specs.Report.AnswerText.{answer_text}
use Rattle.gd_top.specs.Report.Lines.{power_line, start_line}
use Rattle.gd_top.specs.Run.Items.{with_power}
use Rattle.gd_top.specs.Run.Offers.{Fate, Whole, Fell, Broke, offer, syncs_of_event}
use Rattle.gd_top.specs.Run.Openings.{Answer, Reopening, answered, answered_by, found_open, opened, opened_full, power_on, powered, recorded, reopen, resolved, start_entry, started, turned_on}
use Rattle.gd_top.specs.Run.State.{Start, State, Flight, Nothing, Recording, Phase, On, Off, Locked, Goes, Part, before, prints, with_entry}

module _ {V : Type 0} (M : Machine V) (B : Blocks) (e : Numbered) where
  -- a part that goes on with the memory open ends with the answer
  abbrev Ends : Part V → Type 0
  Ends t = t.outcome ≡ Goes → t.state.phase ≡ On → IsAnswered M e t

  -- with a text before it
  ends_behind : (text : List ℕ) (t : Part V) → Ends t → Ends (before text t)
  ends_behind text t h goes on = by_answer (h goes on)
    where
      by_answer : IsAnswered M e t → IsAnswered M e (before text t)
      by_answer (inl taken) = inl (record {
        before = text ++ taken.before;
        entry = taken.entry;
        earlier = taken.earlier;
        number = taken.number;
        event = taken.event;
        newest = taken.newest;
        last = ap (λ (r : List ℕ). text ++ r) taken.last ∙ sym (append_assoc text taken.before _);
      })
      by_answer (inr told) = inr (record {
        before = text ++ told.before;
        nothing_new = told.nothing_new;
        last = ap (λ (r : List ℕ). text ++ r) told.last ∙ sym (append_assoc text told.before _);
      })

  -- an answer that is no new one changes nothing
  told : (a : Stepped) (s : State V) → answer M s.view e ≡ a → is_new a ≡ false → Ends (prints (answer_text e a (M.count s.view)) s)
  told a s is none goes on = inr (record {
    before = [];
    nothing_new = ap is_new is ∙ none;
    last = ap (λ (b : Stepped). answer_text e b (M.count s.view)) (sym is);
  })

  module _ (again : Reopening V) (K : (flight : Flight) (s : State V) → Ends (again flight (Answer e) s)) where
    recorded_ends : (lap : ℕ) (v : V) (fate : Fate) (s : State V) → Ends (recorded M again (entry_of M B lap v e) fate s)
    recorded_ends lap v Whole s = λ goes on. inl (record {
      before = [];
      entry = entry_of M B lap v e;
      earlier = s.history;
      number = refl;
      event = refl;
      newest = refl;
      last = refl;
    })
    recorded_ends lap v Fell s = K (Recording (entry_of M B lap v e)) s
    recorded_ends lap v Broke s = λ goes on. absurd (cc goes)

    answered_by_ends : (a : Stepped) (s : State V) → answer M s.view e ≡ a → Ends (answered_by M B again e a s)
    answered_by_ends (Stepped.New reply) s is = let o = offer syncs_of_event s in recorded_ends s.lap s.view o.fate o.state
    answered_by_ends (Stepped.Again reply) s is = told (Stepped.Again reply) s is refl
    answered_by_ends (Stepped.OutOfStep expected) s is = told (Stepped.OutOfStep expected) s is refl
    answered_by_ends Stepped.HistoryFull s is = told Stepped.HistoryFull s is refl

    answered_ends : (s : State V) → Ends (answered M B again e s)
    unfolding answered
    answered_ends s = answered_by_ends (answer M s.view e) s refl

    started_ends : (repair : Repair) (fate : Fate) (s : State V) → Ends (started M B again repair (Answer e) fate s)
    started_ends repair Whole s =
        let on = with_entry M s (start_entry M B s) in
        ends_behind (start_line (M.count on.view) repair) (answered M B again e on) (answered_ends on)
    started_ends repair Fell s = K (Recording (start_entry M B s)) s
    started_ends repair Broke s = λ goes on. absurd (cc goes)

    full_ends : (fate : Fate) (s : State V) → Ends (opened_full M B again (Answer e) fate s)
    full_ends Whole s = answered_ends s
    full_ends Fell s = K Nothing s
    full_ends Broke s = λ goes on. absurd (cc goes)

    by_full : (full : Bool) (a b : Part V) → Ends a → Ends b → Ends (if full then a else b)
    by_full true a b f g = f
    by_full false a b f g = g

    opened_ends : (repair : Repair) (s : State V) → Ends (opened M B again repair (Answer e) s)
    unfolding opened
    opened_ends repair s =
        by_full (is_full M s.view) _ _
        (let o = offer (syncs_of_repair repair) s in full_ends o.fate o.state)
        (let o = offer (syncs_of_repair repair + syncs_of_event) s in started_ends repair o.fate o.state)

    found_ends : (spelled : Spelled V) (found : Found) (flight : Flight) (s : State V) → Ends (found_open M B again spelled found flight (Answer e) s)
    found_ends Unreadable found flight s = λ goes on. absurd (cc on)
    found_ends (Foreign kept) found flight s = λ goes on. absurd (cc goes)
    found_ends (Shows v) found flight s = opened_ends (repair_needed found) (resolved M flight v (turned_on s))

  reopen_ends : (starts : List (Start V)) (flight : Flight) (s : State V) → Ends (reopen M B starts flight (Answer e) s)
  unfolding reopen
  reopen_ends [] flight s = λ goes on. absurd (cc goes)
  reopen_ends (start ∷ starts) flight s =
      let u = powered start starts s in
      ends_behind (power_line (s.power_ons + 1) start.found) (found_open M B (reopen M B starts) (opens M start.boots) start.found flight (Answer e) u)
      (found_ends (reopen M B starts) (λ flight s. reopen_ends starts flight s) (opens M start.boots) start.found flight u)

  power_ends : (phase : Phase) (s : State V) → s.phase ≡ phase → Ends (with_power phase s (answered M B (power_on M B) e s))
  power_ends On s is = answered_ends (power_on M B) (λ flight s. reopen_ends s.starts flight s) s
  power_ends Off s is = λ goes on. absurd (cc goes)
  power_ends Locked s is = λ goes on. absurd (cc (sym is ∙ on))

pub acknowledged : {V : Type 0} (M : Machine V) (B : Blocks) → Acknowledged M B
acknowledged M B e s = power_ends M B e s.phase s refl
