-- What a view that is found says of the history, by what was in flight.
use Rattle.std.proofs.Common.{◌≡◌, ◌∙◌, ap, sym, refl, ◌+◌, Bool, true, false, if◌then◌else◌, arith}
use Rattle.gd_base.specs.Histories.Entry.{Entry}
use Rattle.gd_base.specs.Judging.Machine.{Machine}
use Rattle.gd_base.specs.Laws.TellsViews.{HasPayload, TellsViews}
use Rattle.gd_top.specs.Run.Openings.{resolved, unexplained, cleared}
use Rattle.gd_top.specs.Run.State.{State, Recording, Making, with_entry}

module _ {V : Type 0} (M : Machine V) where
  itself : (v w : V) → v ≡ w → M.same v w ≡ true
  itself v w is = ap (λ (u : V). M.same u w) is ∙ M.same_itself w

  -- what was in flight was not done
  pub found_undone : (e : Entry) (v : V) (s : State V) → v ≡ s.view → resolved M (Recording e) v s ≡ s
  unfolding resolved
  found_undone e v s is = ap (λ (b : Bool). if b then s else (if M.same v (M.effect s.view e) then with_entry M s e else unexplained v s)) (itself v s.view is)

  -- a making that was cut was done
  pub found_empty : (v : V) (s : State V) → v ≡ M.empty → resolved M Making v s ≡ cleared M s
  unfolding resolved
  found_empty v s is = ap (λ (b : Bool). if b then cleared M s else (if M.same v s.view then s else unexplained v s)) (itself v M.empty is)

  module _ (tells : TellsViews M) where
    -- a view is told from another
    differs : (v w : V) → HasPayload M v → HasPayload M w → (v ≡ w → ⊥) → (b : Bool) → M.same v w ≡ b → b ≡ false
    differs v w p q not false test = refl
    differs v w p q not true test = absurd (not (tells.same_is v w p q test))

    -- the view after one entry more is another
    one_more : (e : Entry) (v : V) (s : State V) → v ≡ M.effect s.view e → v ≡ s.view → ⊥
    one_more e v s is same =
        let counts : M.count s.view ≡ M.count s.view + 1 = ap M.count (sym same) ∙ ap M.count is ∙ M.count_effect s.view e in
        omega (arith, counts)

    -- what was in flight was done
    pub found_done : (e : Entry) (v : V) (s : State V) → v ≡ M.effect s.view e → HasPayload M v → HasPayload M s.view → resolved M (Recording e) v s ≡ with_entry M s e
    unfolding resolved
    found_done e v s is p q =
        ap (λ (b : Bool). if b then s else (if M.same v (M.effect s.view e) then with_entry M s e else unexplained v s)) (differs v s.view p q (one_more e v s is) (M.same v s.view) refl)
        ∙ ap (λ (b : Bool). if b then with_entry M s e else unexplained v s) (itself v (M.effect s.view e) is)

    -- a making that was cut was not done: another view than the empty one is judged as with nothing in flight
    pub found_nonempty : (v : V) (s : State V) → (v ≡ M.empty → ⊥) → HasPayload M v → HasPayload M M.empty → resolved M Making v s ≡ (if M.same v s.view then s else unexplained v s)
    unfolding resolved
    found_nonempty v s not p q =
        ap (λ (b : Bool). if b then cleared M s else (if M.same v s.view then s else unexplained v s)) (differs v M.empty p q not (M.same v M.empty) refl)
