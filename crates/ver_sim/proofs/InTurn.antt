-- Turns, one more, and tasks that show their values, one more.
use Rattle.std.proofs.Common.{◌≡◌, ℕ, ◌+◌, ◌<◌, ◌≤◌, ◌⊎◌, List, [], drop, length, get_or, refl, sym, ap, ◌∙◌, inl, inr, Bool, true, false, arith, length-set}
use Rattle.std.specs.Prelude.{Option, Some, None, not, slice_get, slice_index, unwrap_or}
use Rattle.std.specs.Option.{option_eq}
use Rattle.std.proofs.Math.Dec.{eqb}
use Rattle.std.proofs.lemmas.Bool.{cases_lt, eqb-true}
use Rattle.std.proofs.lemmas.List.{at_drop_more}
use Rattle.std.proofs.lemmas.Option.{get_or_from_slice_get}
use Rattle.ver_sim.specs.declared.task.Task.{Task}
use Rattle.ver_sim.specs.working.Works.{work_number}
use Rattle.ver_sim.specs.working.Turns.{turn, turn_of, turns, ShowFirst}

pub turns_next : (tasks : List Task) (state order : List ℕ) (i : ℕ) (values new start : List ℕ) → i < length order
    → turns tasks state (drop i order) values ≡ start → new ≡ turn tasks state values (get_or order i 0) → turns tasks state (drop (i + 1) order) new ≡ start
unfolding turns
turns_next tasks state order i values new start lt h n =
    ap (turns tasks state (drop (i + 1) order)) n ∙ sym (at_drop_more (λ l. turns tasks state l values) order i 0 lt) ∙ h

pub turn_long : (tasks : List Task) (state : List ℕ) (k : ℕ) (values : List ℕ) → length (turn tasks state values k) ≡ length values
turn_long tasks state k values = by (slice_get tasks k)
  where
    by : (o : Option Task) → length (turn_of state values o) ≡ length values
    by None = refl
    by (Some t) = length-set values t.target (unwrap_or (work_number t.work state values) 0)

pub turns_none : (tasks : List Task) (state values : List ℕ) → turns tasks state [] values ≡ values
unfolding turns
turns_none tasks state values = refl

pub same_option : (o : Option ℕ) (x : ℕ) → not (option_eq eqb o (Some x)) ≡ false → o ≡ Some x
same_option None x h = absurd (let no-such : true ≡ false = h in cc)
same_option (Some y) x h = by (eqb y x) refl h
  where
    by : (b : Bool) → eqb y x ≡ b → not b ≡ false → Some y ≡ Some x
    by true e k = ap Some (eqb-true y x e)
    by false e k = absurd (let no-such : true ≡ false = k in cc)

pub shown_more : (tasks : List Task) (state values : List ℕ) (n : ℕ) (d : Task) (wanted : Option ℕ) (shown : ℕ) → d ≡ get_or tasks n d
    → ShowFirst tasks state values n → wanted ≡ work_number d.work state values → shown ≡ slice_index values d.target → wanted ≡ Some shown
    → ShowFirst tasks state values (n + 1)
shown_more tasks state values n d wanted shown is before w s same k t lt at = by (cases_lt k n)
  where
    here : k ≡ n → work_number t.work state values ≡ Some (slice_index values t.target)
    here e =
        let one : d ≡ t = is ∙ ap (λ (j : ℕ). get_or tasks j d) (sym e) ∙ get_or_from_slice_get tasks k t d at in
        ap (λ (u : Task). work_number u.work state values) (sym one) ∙ sym w ∙ same ∙ ap Some s ∙ ap (λ (u : Task). Some (slice_index values u.target)) one

    by : (k < n) ⊎ (n ≤ k) → work_number t.work state values ≡ Some (slice_index values t.target)
    by (inl h) = before k t h at
    by (inr h) = here (omega (arith, h, lt))
