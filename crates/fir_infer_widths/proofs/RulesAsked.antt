-- What an arena keeps when a rule is asked for.
use Rattle.std.proofs.Common.{◌≡◌, ℕ, List, [], ◌∷◌, ◌++◌, Bool, true, false, Some, refl, sym, ap, ◌∙◌, subst, inl, inr, ◌⊎◌}
use Rattle.std.specs.Prelude.{slice_get, option_map, unwrap_or}
use Rattle.std.proofs.lemmas.List.{append-nil}
use Rattle.std.proofs.lemmas.Option.{slice_get-map}
use Rattle.fir_base.specs.Lists.{In}
use Rattle.fir_base.proofs.Members.{in_left, in_right, in_either}
use Rattle.fir_meaning.specs.WidthExpressions.{Width, known, unknown, single, pair, greater, guarded, Rule}
use Rattle.fir_meaning.specs.WidthRules.{bound}
use Rattle.fir_least_widths.specs.declared.bound.Term.TheVariants.{Same}
use Rattle.fir_least_widths.specs.declared.bound.Bound.{Bound}
use Rattle.fir_infer_widths.specs.declared.arena.Arena.{Arena}
use Rattle.fir_infer_widths.specs.working.Numbered.{IsAsked, Makes, Asks, AreBoundsOf, Keeps, is_written}
use Rattle.fir_width.specs.working.StandingWidths.{Has}
use Rattle.fir_infer_widths.proofs.ArenaGrows.{made_stays, asked_stays, only_stays}

-- the mark of a number
mark_at : (meant : List Width) (rules : List Rule) (arena : Arena) → Keeps meant rules arena → (number : ℕ) (e : Width) → Has meant number e
    → slice_get arena.written.items number ≡ Some (is_written e)
mark_at meant rules arena k number e h = ap (λ l. slice_get l number) k.marks ∙ slice_get-map is_written meant number ∙ ap (option_map is_written) h

-- a width that is written asks for nothing
nothing_asked : (v w : Width) → is_written v ≡ true → bound v w ≡ []
nothing_asked (unknown k) w h = absurd (let c : false ≡ true = h in cc)
nothing_asked (known n) w h = refl
nothing_asked (single op signed a n m) w h = refl
nothing_asked (pair op signed a c) w h = refl
nothing_asked (greater a c) w h = refl
nothing_asked (guarded a c) w h = refl

keeps_nothing : (meant : List Width) (rules : List Rule) (arena : Arena) (v w : Width) → Keeps meant rules arena → bound v w ≡ []
    → Keeps meant (rules ++ bound v w) arena
keeps_nothing meant rules arena v w k none = subst (λ rs. Keeps meant rs arena) (sym (ap (λ asked. rules ++ asked) none ∙ append-nil rules)) k

-- one rule more, with its bound
one_asked : (meant : List Width) (rules : List Rule) (bounds : List Bound) (driven driver : ℕ) (w : Width) → AreBoundsOf meant rules bounds
    → Has meant driven (unknown driven) → Has meant driver w
    → AreBoundsOf meant (rules ++ record { number = driven; at_least = w } ∷ []) (bounds ++ record { unknown = driven; term = Same driver } ∷ [])
one_asked meant rules bounds driven driver w are own gives = record {
  made = λ number e h. made_stays meant meant (λ n x g. g) bounds (new ∷ []) number e (are.made number e h);
  asked = λ r at. asked r (in_either rules (rule ∷ []) r at);
  only = λ b at. only b (in_either bounds (new ∷ []) b at);
}
  where
    new : Bound
    new = record { unknown = driven; term = Same driver }

    rule : Rule
    rule = record { number = driven; at_least = w }

    asked : (r : Rule) → In rules r ⊎ In (rule ∷ []) r → IsAsked meant (bounds ++ new ∷ []) r
    asked r (inl at) = asked_stays meant meant (λ n x g. g) bounds (new ∷ []) r (are.asked r at)
    asked r (inr (inl e)) =
        subst (λ s. IsAsked meant (bounds ++ new ∷ []) s) e
        (record { giver = driver; gives = gives; own = own; bound = in_right bounds (new ∷ []) new (inl refl) })
    asked r (inr (inr n)) = absurd n

    only : (b : Bound) → In bounds b ⊎ In (new ∷ []) b → Makes meant b ⊎ Asks meant (rules ++ rule ∷ []) b
    only b (inl at) = only_stays meant meant (λ n x g. g) rules (rules ++ rule ∷ []) (λ r h. in_left rules (rule ∷ []) r h) b (are.only b at)
    only b (inr (inl e)) =
        inr (subst (λ c. Asks meant (rules ++ rule ∷ []) c) e
        (record { giver = driver; at_least = w; gives = gives; term = refl; rule = in_right rules (rule ∷ []) rule (inl refl); own = own }))
    only b (inr (inr n)) = absurd n

-- where the driven number is written
pub keeps_as_it_is : (meant : List Width) (rules : List Rule) (arena : Arena) (driven driver : ℕ) (v w : Width) → Keeps meant rules arena → Has meant driven v
    → unwrap_or (slice_get arena.written.items driven) true ≡ true → Keeps meant (rules ++ bound v w) arena
keeps_as_it_is meant rules arena driven driver v w k h written = by v (mark_at meant rules arena k driven v h)
  where
    by : (x : Width) → slice_get arena.written.items driven ≡ Some (is_written x) → Keeps meant (rules ++ bound x w) arena
    by (unknown j) e = absurd (let c : false ≡ true = sym (ap (λ o. unwrap_or o true) e) ∙ written in cc)
    by (known n) e = keeps_nothing meant rules arena (known n) w k refl
    by (single op signed a n m) e = keeps_nothing meant rules arena (single op signed a n m) w k refl
    by (pair op signed a c) e = keeps_nothing meant rules arena (pair op signed a c) w k refl
    by (greater a c) e = keeps_nothing meant rules arena (greater a c) w k refl
    by (guarded a c) e = keeps_nothing meant rules arena (guarded a c) w k refl

-- where it is not
pub keeps_asked : (meant : List Width) (rules : List Rule) (old new : Arena) (driven driver : ℕ) (v w : Width) → Keeps meant rules old → Has meant driven v
    → Has meant driver w → unwrap_or (slice_get old.written.items driven) true ≡ false → new.written.items ≡ old.written.items
    → new.bounds.items ≡ old.bounds.items ++ record { unknown = driven; term = Same driver } ∷ [] → Keeps meant (rules ++ bound v w) new
keeps_asked meant rules old new driven driver v w k h gives mark written same = by v h
  where
    known_too : (b : Bool) → slice_get old.written.items driven ≡ Some b → b ≡ false
    known_too b e = sym (ap (λ o. unwrap_or o true) e) ∙ mark

    by : (x : Width) → Has meant driven x → Keeps meant (rules ++ bound x w) new
    by (unknown j) has =
        let own : driven ≡ j = k.bounds.made driven (unknown j) has in
        let has_own : Has meant driven (unknown driven) = subst (λ n. Has meant driven (unknown n)) (sym own) has in
        subst (λ n. Keeps meant (rules ++ bound (unknown n) w) new) own
        (record {
          marks = written ∙ k.marks;
          bounds =
              subst (λ bs. AreBoundsOf meant (rules ++ record { number = driven; at_least = w } ∷ []) bs) (sym same)
              (one_asked meant rules old.bounds.items driven driver w k.bounds has_own gives);
        })
    by (known n) has = absurd (let c : true ≡ false = known_too true (mark_at meant rules old k driven (known n) has) in cc)
    by (single op signed a n m) has = absurd (let c : true ≡ false = known_too true (mark_at meant rules old k driven (single op signed a n m) has) in cc)
    by (pair op signed a c) has = absurd (let d : true ≡ false = known_too true (mark_at meant rules old k driven (pair op signed a c) has) in cc)
    by (greater a c) has = absurd (let d : true ≡ false = known_too true (mark_at meant rules old k driven (greater a c) has) in cc)
    by (guarded a c) has = absurd (let d : true ≡ false = known_too true (mark_at meant rules old k driven (guarded a c) has) in cc)
