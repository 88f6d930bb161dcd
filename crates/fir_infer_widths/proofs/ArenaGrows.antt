-- What an arena keeps when an expression comes behind, or a rule does.
use Rattle.std.proofs.Common.{◌≡◌, ℕ, List, [], ◌∷◌, ◌++◌, length, map, Bool, true, false, refl, sym, ap, ◌∙◌, subst, inl, inr, ◌⊎◌}
use Rattle.std.proofs.lemmas.List.{map-append, length-map, append-nil}
use Rattle.fir_base.specs.Lists.{In}
use Rattle.fir_base.proofs.Members.{in_left, in_right, in_either}
use Rattle.fir_base.proofs.Writes.{PushedOr, push_cases, push_end}
use Rattle.fir_meaning.specs.WidthExpressions.{Width, known, unknown, single, pair, greater, guarded, Rule}
use Rattle.fir_least_widths.specs.declared.bound.Term.{Term}
use Rattle.fir_least_widths.specs.declared.bound.Term.TheVariants.{Same}
use Rattle.fir_least_widths.specs.declared.bound.Bound.{Bound}
use Rattle.fir_infer_widths.specs.declared.arena.Arena.{Arena}
use Rattle.fir_infer_widths.specs.working.Numbered.{IsTermOf, IsMade, IsAsked, Makes, Asks, AreBoundsOf, Keeps, is_written}
use Rattle.fir_width.specs.working.StandingWidths.{Has}
use Rattle.fir_width.proofs.StandingWidths.{has_more}

-- where numbers keep what they mean, and bounds and rules stay
module _ (meant all : List Width) (keeps : (number : ℕ) (e : Width) → Has meant number e → Has all number e) where
  term_stays : (e : Width) (t : Term) → IsTermOf meant e t → IsTermOf all e t
  term_stays (known n) t h = h
  term_stays (unknown k) t h = h
  term_stays (single op signed a n m) t (i, is, has) = (i, is, keeps i a has)
  term_stays (pair op signed a b) t (i, j, is, one, other) = (i, j, is, keeps i a one, keeps j b other)
  term_stays (greater a b) t (i, j, is, one, other) = (i, j, is, keeps i a one, keeps j b other)
  term_stays (guarded c a) t (i, j, is, one, other) = (i, j, is, keeps i c one, keeps j a other)

  pub made_stays : (bounds news : List Bound) (number : ℕ) (e : Width) → IsMade meant bounds number e → IsMade all (bounds ++ news) number e
  made_stays bounds news number (unknown k) h = h
  made_stays bounds news number (known n) (b, at, own, is) = (b, in_left bounds news b at, own, term_stays (known n) b.term is)
  made_stays bounds news number (single op signed a n m) (b, at, own, is) = (b, in_left bounds news b at, own, term_stays (single op signed a n m) b.term is)
  made_stays bounds news number (pair op signed a c) (b, at, own, is) = (b, in_left bounds news b at, own, term_stays (pair op signed a c) b.term is)
  made_stays bounds news number (greater a c) (b, at, own, is) = (b, in_left bounds news b at, own, term_stays (greater a c) b.term is)
  made_stays bounds news number (guarded a c) (b, at, own, is) = (b, in_left bounds news b at, own, term_stays (guarded a c) b.term is)

  pub asked_stays : (bounds news : List Bound) (r : Rule) → IsAsked meant bounds r → IsAsked all (bounds ++ news) r
  asked_stays bounds news r h = record {
    giver = h.giver;
    gives = keeps h.giver r.at_least h.gives;
    own = keeps r.number (unknown r.number) h.own;
    bound = in_left bounds news (record { unknown = r.number; term = Same h.giver }) h.bound;
  }

  pub only_stays : (rules more : List Rule) → ((r : Rule) → In rules r → In more r) → (b : Bound) → Makes meant b ⊎ Asks meant rules b
      → Makes all b ⊎ Asks all more b
  only_stays rules more stay b (inl h) = inl (record { made = h.made; has = keeps b.unknown h.made h.has; term = term_stays h.made b.term h.term })
  only_stays rules more stay b (inr h) = inr (record {
    giver = h.giver;
    at_least = h.at_least;
    gives = keeps h.giver h.at_least h.gives;
    term = h.term;
    rule = stay (record { number = b.unknown; at_least = h.at_least }) h.rule;
    own = keeps b.unknown (unknown b.unknown) h.own;
  })

-- an expression comes behind, with the bounds that make it
module _ (meant : List Width) (rules : List Rule) (bounds news : List Bound) (e : Width) (are : AreBoundsOf meant rules bounds) where
  pub pushed : IsMade (meant ++ e ∷ []) (bounds ++ news) (length meant) e → ((b : Bound) → In news b → Makes (meant ++ e ∷ []) b)
      → AreBoundsOf (meant ++ e ∷ []) rules (bounds ++ news)
  pushed own makes = record {
    made = λ number x h. made number x (push_cases meant e number x h);
    asked = λ r at. asked_stays meant (meant ++ e ∷ []) (has_more meant (e ∷ [])) bounds news r (are.asked r at);
    only = λ b at. only b (in_either bounds news b at);
  }
    where
      made : (number : ℕ) (x : Width) → PushedOr meant e number x → IsMade (meant ++ e ∷ []) (bounds ++ news) number x
      made number x (inl h) = made_stays meant (meant ++ e ∷ []) (has_more meant (e ∷ [])) bounds news number x (are.made number x h)
      made number x (inr (at, is)) =
          subst (λ y. IsMade (meant ++ e ∷ []) (bounds ++ news) number y) is (subst (λ k. IsMade (meant ++ e ∷ []) (bounds ++ news) k e) (sym at) own)

      only : (b : Bound) → In bounds b ⊎ In news b → Makes (meant ++ e ∷ []) b ⊎ Asks (meant ++ e ∷ []) rules b
      only b (inl at) = only_stays meant (meant ++ e ∷ []) (has_more meant (e ∷ [])) rules rules (λ r h. h) b (are.only b at)
      only b (inr at) = inl (makes b at)

-- a made expression has its bound
made_of : (meant : List Width) (bounds : List Bound) (b : Bound) (e : Width) → In bounds b → IsTermOf meant e b.term → IsMade meant bounds b.unknown e
made_of meant bounds b (unknown k) at is = absurd is
made_of meant bounds b (known n) at is = (b, at, refl, is)
made_of meant bounds b (single op signed a n m) at is = (b, at, refl, is)
made_of meant bounds b (pair op signed a c) at is = (b, at, refl, is)
made_of meant bounds b (greater a c) at is = (b, at, refl, is)
made_of meant bounds b (guarded a c) at is = (b, at, refl, is)

written_of : (meant : List Width) (e : Width) (t : Term) → IsTermOf meant e t → is_written e ≡ true
written_of meant (unknown k) t h = absurd h
written_of meant (known n) t h = refl
written_of meant (single op signed a n m) t h = refl
written_of meant (pair op signed a c) t h = refl
written_of meant (greater a c) t h = refl
written_of meant (guarded a c) t h = refl

-- there are as many marks as expressions
pub marks_long : (meant : List Width) (marks : List Bool) → marks ≡ map is_written meant → length marks ≡ length meant
marks_long meant marks h = ap length h ∙ length-map meant is_written

marks_pushed : (meant : List Width) (marks : List Bool) (e : Width) (b : Bool) → marks ≡ map is_written meant → is_written e ≡ b
    → marks ++ b ∷ [] ≡ map is_written (meant ++ e ∷ [])
marks_pushed meant marks e b h is = ap (λ l. l ++ b ∷ []) h ∙ ap (λ x. map is_written meant ++ x ∷ []) (sym is) ∙ sym (map-append is_written meant (e ∷ []))

-- an unknown is pushed
pub keeps_unknown : (meant : List Width) (rules : List Rule) (old new : Arena) → Keeps meant rules old → new.written.items ≡ old.written.items ++ false ∷ []
    → new.bounds.items ≡ old.bounds.items → Keeps (meant ++ unknown (length meant) ∷ []) rules new
keeps_unknown meant rules old new k written same = record {
  marks = written ∙ marks_pushed meant old.written.items (unknown (length meant)) false k.marks refl;
  bounds =
      subst (λ bs. AreBoundsOf (meant ++ unknown (length meant) ∷ []) rules bs) (append-nil old.bounds.items ∙ sym same)
      (pushed meant rules old.bounds.items [] (unknown (length meant)) k.bounds refl (λ b at. absurd at));
}

-- an expression is pushed with its bound
pub keeps_made : (meant : List Width) (rules : List Rule) (old new : Arena) (e : Width) (t : Term) → Keeps meant rules old → IsTermOf meant e t
    → new.written.items ≡ old.written.items ++ true ∷ [] → new.bounds.items ≡ old.bounds.items ++ record { unknown = length old.written.items; term = t } ∷ []
    → Keeps (meant ++ e ∷ []) rules new
keeps_made meant rules old new e t k is written same = record {
  marks = written ∙ marks_pushed meant old.written.items e true k.marks (written_of meant e t is);
  bounds = subst (λ bs. AreBoundsOf (meant ++ e ∷ []) rules bs) (sym there) (pushed meant rules old.bounds.items (own ∷ []) e k.bounds made makes);
}
  where
    own : Bound
    own = record { unknown = length meant; term = t }

    there : new.bounds.items ≡ old.bounds.items ++ own ∷ []
    there = same ∙ ap (λ n. old.bounds.items ++ record { unknown = n; term = t } ∷ []) (marks_long meant old.written.items k.marks)

    term : IsTermOf (meant ++ e ∷ []) e t
    term = term_stays meant (meant ++ e ∷ []) (has_more meant (e ∷ [])) e t is

    made : IsMade (meant ++ e ∷ []) (old.bounds.items ++ own ∷ []) (length meant) e
    made = made_of (meant ++ e ∷ []) (old.bounds.items ++ own ∷ []) own e (in_right old.bounds.items (own ∷ []) own (inl refl)) term

    makes : (b : Bound) → In (own ∷ []) b → Makes (meant ++ e ∷ []) b
    makes b (inl h) = subst (λ c. Makes (meant ++ e ∷ []) c) h (record { made = e; has = push_end meant e; term = term })
    makes b (inr h) = absurd h
