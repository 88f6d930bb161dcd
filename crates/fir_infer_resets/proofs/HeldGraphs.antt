-- The graph as the code has it, with an end more that is no Reset, and with two that are joined more.
use Rattle.std.proofs.Common.{append_assoc, ◌≡◌, ℕ, suc, List, [], ◌∷◌, ◌++◌, map, Some, length, refl, sym, ap, ◌∙◌, subst, inl, inr, ◌⊎◌, Vec, Global}
use Rattle.std.specs.Prelude.{slice_get}
use Rattle.std.proofs.lemmas.List.{append-nil, map-append}
use Rattle.fir_base.proofs.Writes.{PushedOr, push_left, push_end, push_cases}
use Rattle.fir_ast.specs.Circuits.{CircuitTree}
use Rattle.fir_infer_resets.specs.declared.graph.Kind.{Kind}
use Rattle.fir_infer_resets.specs.declared.item.End.{End as EndOfCode}
use Rattle.fir_infer_resets.specs.declared.joined.Joined.{Joined}
use Rattle.fir_meaning.specs.ResetItems.{End}
use Rattle.fir_meaning.specs.ResetJoins.{Join}
use Rattle.fir_meaning.specs.ResetWalks.{IsReset, Joined as AreJoined}
use Rattle.fir_infer_resets.specs.working.BuiltGraphs.{IsBuilt}
use Rattle.fir_reset.specs.working.LeafClasses.{Class}
use Rattle.fir_infer_resets.specs.working.Holding.{IsEnd, AreEnds, reset_end, under_key, HasFirst, Holds, HasNumber, IsJoinedIn}
use Rattle.fir_infer_resets.specs.working.Adding.{AddsBoth, AddsEnd}
use Rattle.fir_infer_resets.proofs.ConnectedEnds.{connects_more}
use Rattle.fir_infer_resets.proofs.PartlyBuilt.{partly, built_whole, edge_kept, partly_pushed, partly_joined, joined_one}

pub ends_as_many : (owns : List EndOfCode) (es : List End) → AreEnds owns es → length owns ≡ length es
ends_as_many [] [] h = refl
ends_as_many [] (e ∷ es) h = absurd h
ends_as_many (own ∷ owns) [] h = absurd h
ends_as_many (own ∷ owns) (e ∷ es) h = ap suc (ends_as_many owns es h.1)

pub ends_more : (owns : List EndOfCode) (es : List End) (own : EndOfCode) (e : End) → AreEnds owns es → IsEnd own e → AreEnds (owns ++ own ∷ []) (es ++ e ∷ [])
ends_more [] [] own e h i = (i, tt)
ends_more [] (f ∷ es) own e h i = absurd h
ends_more (o ∷ owns) [] own e h i = absurd h
ends_more (o ∷ owns) (f ∷ es) own e h i = (h.0, ends_more owns es own e h.1 i)

pub kinds_more : (owns : List EndOfCode) (own : EndOfCode) (kinds : List Kind) → map (λ e. e.kind) owns ≡ kinds → map (λ e. e.kind) (owns ++ own ∷ []) ≡ kinds ++ own.kind ∷ []
kinds_more owns own kinds h = map-append (λ (e : EndOfCode). e.kind) owns (own ∷ []) ∙ ap (λ ks. ks ++ own.kind ∷ []) h

-- the first of a class, where there are more ends
pub has_first_more : (c : CircuitTree) (ends : List End) (e : End) (k : Class) → HasFirst c ends k → HasFirst c (ends ++ e ∷ []) k
has_first_more c ends e k h = record {
  first = h.first;
  number = h.number;
  path = h.path;
  place = h.place;
  is = push_left ends (e ∷ []) h.first (reset_end h.number h.path h.place) h.is;
  firsts = h.firsts;
  no_instance = h.no_instance;
  class = h.class;
}

module _ (c : CircuitTree) (js : List Join) (old : Joined) (before : Holds c js old) where
  pub as_many : length old.ends.items ≡ length before.ends
  as_many = ends_as_many old.ends.items before.ends before.are

  -- an end more that is no Reset
  module _ (new : Joined) (own : EndOfCode) (e : End) (is : IsEnd own e) (none : IsReset e → ⊥) (a : AddsEnd old new own) where
    no_reset : (x : ℕ) (f : End) → IsReset f → PushedOr before.ends e x f → slice_get before.ends x ≡ Some f
    no_reset x f r (inl h) = h
    no_reset x f r (inr (h, same)) = absurd (none (subst IsReset (sym same) r))

    old_reset : (x : ℕ) (f : End) → IsReset f → slice_get (before.ends ++ e ∷ []) x ≡ Some f → slice_get before.ends x ≡ Some f
    old_reset x f r h = no_reset x f r (push_cases before.ends e x f h)

    built : IsBuilt c js (before.ends ++ e ∷ []) new.graph.items new.kinds.items
    built =
        subst (λ g. IsBuilt c js (before.ends ++ e ∷ []) g new.kinds.items) (sym a.graph)
        (subst (IsBuilt c js (before.ends ++ e ∷ []) (old.graph.items ++ a.list ∷ [])) (sym a.kinds)
        (built_whole c js (before.ends ++ e ∷ []) (old.graph.items ++ a.list ∷ []) (old.kinds.items ++ own.kind ∷ [])
        (partly_pushed c js before.ends old.graph.items old.kinds.items (partly c js before.ends old.graph.items old.kinds.items before.built) e own.kind a.list a.empty is.kind
        (λ r. absurd (none r)) (λ x r h. none r))
        (λ x y f g h i r s class.
        connects_more old.graph.items (old.graph.items ++ a.list ∷ []) old.kinds.items (old.kinds.items ++ own.kind ∷ [])
        (edge_kept c js before.ends old.graph.items old.kinds.items (partly c js before.ends old.graph.items old.kinds.items before.built) e own.kind a.list a.empty)
        (λ z k l. push_left old.kinds.items (own.kind ∷ []) z k l) x y
        (before.built.classes x y f g (old_reset x f r h) (old_reset y g s i) r s class))))

    pub contacted : HasNumber before e new (length old.ends.items)
    contacted = record {
      holds = record {
        ends = before.ends ++ e ∷ [];
        are = subst (λ owns. AreEnds owns (before.ends ++ e ∷ [])) (sym a.ends) (ends_more old.ends.items before.ends own e before.are is);
        same_kinds = ap (map (λ (o : EndOfCode). o.kind)) a.ends ∙ kinds_more old.ends.items own old.kinds.items before.same_kinds ∙ sym a.kinds;
        built = built;
        known = λ number x leaf h.
            let r = before.known number x leaf (subst (λ t. under_key (record old { numbers = t }) number leaf ≡ Some x) a.numbers h) in
            (r.0, push_left before.ends (e ∷ []) x (reset_end number leaf r.0) r.1);
        all = λ number x leaf p h.
            subst (λ t. under_key (record old { numbers = t }) number leaf ≡ Some x) (sym a.numbers)
            (before.all number x leaf p (old_reset x (reset_end number leaf p) refl h));
        classes = λ x f k h r class. has_first_more c before.ends e k (before.classes x f k (old_reset x f r h) r class);
      };
      extends = (e ∷ [], refl);
      is = ap (slice_get (before.ends ++ e ∷ [])) as_many ∙ push_end before.ends e;
    }

  -- two that are joined more
  module _ (graph : Vec (Vec ℕ Global) Global) (one other : ℕ) (e f : End) (a : AddsBoth old.graph.items graph.items one other) where
    pub joined_more : slice_get before.ends one ≡ Some e → slice_get before.ends other ≡ Some f → AreJoined c e f → IsReset e ⊎ IsReset f
        → IsJoinedIn before one other (record old { graph = graph })
    joined_more h i m r =
        let old_built = partly c js before.ends old.graph.items old.kinds.items before.built in
        record {
          holds = record {
            ends = before.ends;
            are = before.are;
            same_kinds = before.same_kinds;
            built =
                built_whole c js before.ends graph.items old.kinds.items
                (partly_joined c js before.ends old.graph.items old.kinds.items old_built graph.items one other a e f h i m r)
                (λ x y g k p q s t class.
                connects_more old.graph.items graph.items old.kinds.items old.kinds.items a.kept (λ z l n. n) x y (before.built.classes x y g k p q s t class));
            known = before.known;
            all = before.all;
            classes = before.classes;
          };
          same = refl;
          kept = a.kept;
          joined = joined_one c js before.ends old.graph.items old.kinds.items old_built graph.items one other a e f h i;
        }

-- a number that is there already
pub still_there : (c : CircuitTree) (js : List Join) (old : Joined) (before : Holds c js old) (e : End) (x : ℕ) → slice_get before.ends x ≡ Some e → HasNumber before e old x
still_there c js old before e x h = record { holds = before; extends = ([], sym (append-nil before.ends)); is = h }

-- a number in a graph that has grown twice
pub number_through : (c : CircuitTree) (js : List Join) (old middle new : Joined) (before : Holds c js old) (e f : End) (x y : ℕ) (h : HasNumber before e middle x) → HasNumber h.holds f new y → HasNumber before f new y
number_through c js old middle new before e f x y h k = record {
  holds = k.holds;
  extends = (h.extends.0 ++ k.extends.0, k.extends.1 ∙ ap (λ es. es ++ k.extends.0) h.extends.1 ∙ append_assoc before.ends h.extends.0 k.extends.0);
  is = k.is;
}
