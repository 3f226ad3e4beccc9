-- What was recorded stays recorded, and what was acknowledged is recorded.
use Rattle.std.specs.Prelude.{◌≡◌, ◌≤◌, ◌⊎◌, ℕ, false, List, ◌∷◌, ◌++◌, Option}
use Rattle.gd_base.specs.declared.step.Numbered.{Numbered}
use Rattle.gd_base.specs.declared.step.Stepped.{Stepped}
use Rattle.gd_base.specs.Histories.Entry.{Entry}
use Rattle.gd_base.specs.Judging.Answer.{answer, is_new}
use Rattle.gd_base.specs.Judging.Machine.{Machine, Blocks}
use Rattle.gd_script.specs.declared.item.Item.{Item}
use Rattle.gd_top.specs.Report.AnswerText.{answer_text}
use Rattle.gd_top.specs.Run.Items.{event_meaning}
use Rattle.gd_top.specs.Run.Life.{trial_meaning}
use Rattle.gd_top.specs.Run.State.{Start, State, Part, On, Goes}

-- What the first state has recorded stands in the second, unless a memory was cleared between them, or a view was found
-- that no order of writing explains. Both are counted, and no count falls.
pub record StaysRecorded {V : Type 0} (s t : State V) : Type 0 where
  pub views : s.other_views ≤ t.other_views
  pub laps : s.lap ≤ t.lap
  pub history : t.other_views ≡ s.other_views → t.lap ≡ s.lap → (more : List Entry) × (t.history ≡ more ++ s.history)

-- In every trial, whatever is found and wherever the power falls, this holds between any two of its lines.
abbrev pub NothingLost : {V : Type 0} → Machine V → Blocks → Type 0
NothingLost {V} M blocks =
    (earlier later : List (Option Item)) (falls : List ℕ) (starts : List (Start V)) (broken_at : Option ℕ)
    → (trial_meaning M blocks earlier falls starts broken_at).outcome ≡ Goes
    → StaysRecorded (trial_meaning M blocks earlier falls starts broken_at).state (trial_meaning M blocks (earlier ++ later) falls starts broken_at).state

-- ================ what was acknowledged

-- the last that was printed is that the event was taken or refused, and its entry is the newest of the history
pub record IsAcknowledged {V : Type 0} (M : Machine V) (e : Numbered) (t : Part V) : Type 0 where
  pub before : List ℕ
  pub entry : Entry
  pub earlier : List Entry
  pub number : entry.number ≡ e.number
  pub event : entry.event ≡ e.event
  pub newest : t.state.history ≡ entry ∷ earlier
  pub last : t.report ≡ before ++ answer_text e (Stepped.New entry.reply) (M.count t.state.view)

-- or it is what the view says of the event, which isn't new: a repeat, out of step, or over a full history
pub record IsNothingNew {V : Type 0} (M : Machine V) (e : Numbered) (t : Part V) : Type 0 where
  pub before : List ℕ
  pub nothing_new : is_new (answer M t.state.view e) ≡ false
  pub last : t.report ≡ before ++ answer_text e (answer M t.state.view e) (M.count t.state.view)

abbrev pub IsAnswered : {V : Type 0} → Machine V → Numbered → Part V → Type 0
IsAnswered M e t = IsAcknowledged M e t ⊎ IsNothingNew M e t

-- From whatever state, the line of an event that leaves the memory open ends with its answer: so what was acknowledged is
-- recorded at the end of its line, and stays so.
abbrev pub Acknowledged : {V : Type 0} → Machine V → Blocks → Type 0
Acknowledged {V} M blocks = (e : Numbered) (s : State V) → (let t = event_meaning M blocks e s in t.outcome ≡ Goes → t.state.phase ≡ On → IsAnswered M e t)
