-- Two ground types that meet: nothing is joined where neither is a Reset, or one has no end; else their ends are joined.
use Rattle.std.proofs.Common.{◌≡◌, ℕ, List, [], ◌∷◌, ◌++◌, flat_map, Bool, true, false, Option, Some, None, map, refl, inl, inr, ◌⊎◌, ⊎_elim, ◌<◌, sym, ap, ◌∙◌, subst}
use Rattle.std.specs.Prelude.{slice_get}
use Rattle.std.proofs.lemmas.Option.{slice_get_within}
use Rattle.std.proofs.lemmas.List.{append-nil}
use Rattle.fir_base.specs.Lists.{In}
use Rattle.fir_base.proofs.Elements.{there}
use Rattle.fir_base.proofs.Members.{in_map_from, in_flat_map_from}
use Rattle.fir_base.proofs.Writes.{push_left}
use Rattle.fir_ast.specs.declared.place.Place.{Place}
use Rattle.fir_ast.specs.Types.{DataType}
use Rattle.fir_ast.specs.Circuits.{CircuitTree}
use Rattle.fir_meaning.specs.LeafPaths.{LeafPath}
use Rattle.fir_infer_resets.specs.declared.graph.Kind.{Kind}
use Rattle.fir_infer_resets.specs.declared.graph.Kind.TheVariants as kind
use Rattle.fir_infer_resets.specs.declared.joined.Joined.{Joined as JoinedOfCode}
use Rattle.fir_infer_resets.specs.declared.root.Access.{Access}
use Rattle.fir_infer_resets.specs.declared.root.Access.TheVariants as access
use Rattle.fir_infer_resets.specs.declared.root.Root.{Root}
use Rattle.fir_infer_resets.specs.declared.root.Root.TheVariants as root
use Rattle.fir_meaning.specs.ResetItems.{End, is_reset}
use Rattle.fir_meaning.specs.ResetJoins.{Join, each_with_each}
use Rattle.fir_meaning.specs.ResetWalks.{IsReset, Joined}
use Rattle.fir_infer_resets.specs.working.BuiltGraphs.{Stands}
use Rattle.fir_infer_resets.specs.working.ResetGraphs.{IsJoined}
use Rattle.fir_infer_resets.specs.working.Holding.{path_of, Extends, Holds, HasNumber, IsJoinedIn, HoldsMore}
use Rattle.fir_infer_resets.specs.working.FirstPairs.{Met, kind_of_type}
use Rattle.fir_infer_resets.specs.working.FirstEnds.{AreLeaves, end_of_leaf, end_of_value, first_ends, HasEnd, joins_where, JoinsMet}
use Rattle.fir_infer_resets.proofs.FirstEndNumbers.{kind_reset, kind_other, unlike_reset}
use Rattle.fir_infer_resets.proofs.MetSteps.{stand_already, extends_through}

-- each end below a root has the ground type
leaf_ground : (number : ℕ) (path : LeafPath) (p : Place) (a : Access) (b : Bool) (t : DataType) (e : End) → In (end_of_leaf number path p a b t) e → e.ground_type ≡ t
leaf_ground number path p access.Fixed b t e (inl h) = ap (λ (x : End). x.ground_type) (sym h)
leaf_ground number path p (access.Picks q) true t e (inl h) = ap (λ (x : End). x.ground_type) (sym h)
leaf_ground number path p (access.Picks q) false t e (inl h) = ap (λ (x : End). x.ground_type) (sym h)
leaf_ground number path p (access.Empty q) true t e h = absurd h
leaf_ground number path p (access.Empty q) false t e (inl h) = ap (λ (x : End). x.ground_type) (sym h)
leaf_ground number path p access.Fixed b t e (inr h) = absurd h
leaf_ground number path p (access.Picks q) true t e (inr h) = absurd h
leaf_ground number path p (access.Picks q) false t e (inr h) = absurd h
leaf_ground number path p (access.Empty q) false t e (inr h) = absurd h

value_ground : (p : Place) (b : Bool) (t : DataType) (e : End) → In (end_of_value p b t) e → e.ground_type ≡ t
value_ground p true t e h = absurd h
value_ground p false t e (inl h) = ap (λ (x : End). x.ground_type) (sym h)
value_ground p false t e (inr h) = absurd h

pub first_ground : (number : ℕ) (own : Root) (steps : LeafPath) (t : DataType) (e : End) → In (first_ends number own steps t) e → e.ground_type ≡ t
first_ground number (root.Leaf path p a) steps t e h = leaf_ground number (path_of path.items ++ steps) p a (is_reset t) t e h
first_ground number (root.Value p) steps t e h = value_ground p (is_reset t) t e h

-- what is joined, each with each
pub record IsOfBoth (ones others : List End) (j : Join) : Type 0 where
  pub one : In ones j.one
  pub other : In others j.other

pub of_both : (ones others : List End) (j : Join) → In (each_with_each ones others) j → IsOfBoth ones others j
of_both ones others j h =
    let r = in_flat_map_from (λ a. map (λ b. record { one = a; other = b }) others) ones j h in
    let s = in_map_from (λ b. record { one = r.0; other = b }) others j r.2 in
    record { one = subst (λ (x : Join). In ones x.one) s.2 r.1; other = subst (λ (x : Join). In others x.other) s.2 s.1 }

module _ (c : CircuitTree) (number : ℕ) (left right : Root) (steps : LeafPath) (t u : DataType) where
  abbrev met_here : Met
  met_here = record { path = steps; one = t; other = u }

  abbrev ones : List End
  ones = first_ends number left steps t

  abbrev others : List End
  others = first_ends number right steps u

  -- what is joined is of these
  joined_here : (j : Join) → In (flat_map (joins_where number left right) (met_here ∷ [])) j → IsOfBoth ones others j
  joined_here j h = of_both ones others j (subst (λ l. In l j) (append-nil (each_with_each ones others)) h)

  pub no_reset_met : (one other : Kind) (old : JoinedOfCode) → kind_of_type t ≡ Some one → kind_of_type u ≡ Some other → ((one ≡ kind.Reset) ⊎ (other ≡ kind.Reset) → ⊥)
      → JoinsMet c number left right (met_here ∷ []) old old
  no_reset_met one other old e f none =
      record {
        more = λ js before may.
            stand_already c js old before (flat_map (joins_where number left right) (met_here ∷ []))
            (λ j i r.
            let w = joined_here j i in
            absurd
            (⊎_elim
            (λ (k : IsReset j.one). unlike_reset t (kind_other t one e (λ h. none (inl h))) (sym (first_ground number left steps t j.one w.one) ∙ k))
            (λ (k : IsReset j.other). unlike_reset u (kind_other u other f (λ h. none (inr h))) (sym (first_ground number right steps u j.other w.other) ∙ k))
            r));
      }

  -- both ends are joined
  stands_here : (js : List Join) (new : JoinedOfCode) (h : Holds c js new) (x y : ℕ) (e f : End) → slice_get h.ends x ≡ Some e → slice_get h.ends y ≡ Some f
      → IsJoined new.graph.items x y → Stands c h.ends new.graph.items new.kinds.items (record { one = e; other = f })
  stands_here js new h x y e f at at_other joined =
      let k = kind_at js new h x e at in
      let l = kind_at js new h y f at_other in
      record {
        x = x;
        y = y;
        e = e;
        f = f;
        one_kind = k.0;
        other_kind = l.0;
        has_x = at;
        has_y = at_other;
        kind_x = k.1;
        kind_y = l.1;
        one = record { one = h.built.kind x e k.0 at k.1; other = h.built.kind x e k.0 at k.1; class = λ r. refl };
        other = record { one = h.built.kind y f l.0 at_other l.1; other = h.built.kind y f l.0 at_other l.1; class = λ r. refl };
        joined = joined;
      }
    where
      kind_at : (is : List Join) (g : JoinedOfCode) (i : Holds c is g) (z : ℕ) (d : End) → slice_get i.ends z ≡ Some d → (m : Kind) × (slice_get g.kinds.items z ≡ Some m)
      kind_at is g i z d p =
          let within = slice_get_within i.ends z d p in there g.kinds.items z (subst (λ n. z < n) i.built.long within)

  only_one : (es fs : List End) (e f : End) (j : Join) → es ≡ e ∷ [] → fs ≡ f ∷ [] → IsOfBoth es fs j → record { one = e; other = f } ≡ j
  only_one es fs e f j a b w = both_ways (subst (λ l. In l j.one) a w.one) (subst (λ l. In l j.other) b w.other)
    where
      both_ways : In (e ∷ []) j.one → In (f ∷ []) j.other → record { one = e; other = f } ≡ j
      both_ways (inl h) (inl i) = ap (λ z. record { one = z; other = f }) h ∙ ap (λ z. record { one = j.one; other = z }) i
      both_ways (inl h) (inr i) = absurd i
      both_ways (inr h) i = absurd h

  joined_ends : (js : List Join) (old first second new : JoinedOfCode) (before : Holds c js old) (x y : ℕ) (e f : End) → ones ≡ e ∷ [] → others ≡ f ∷ []
      → (one : HasNumber before e first x) (other : HasNumber one.holds f second y) → IsJoinedIn other.holds x y new
      → HoldsMore before (flat_map (joins_where number left right) (met_here ∷ [])) new
  joined_ends js old first second new before x y e f a b one other met =
      let at : slice_get met.holds.ends x ≡ Some e =
      ap (λ l. slice_get l x) (met.same ∙ other.extends.1) ∙ push_left one.holds.ends other.extends.0 x e one.is in
      let at_other : slice_get met.holds.ends y ≡ Some f = ap (λ l. slice_get l y) met.same ∙ other.is in
      let stands = stands_here js new met.holds x y e f at at_other met.joined in
      let more = stand_already c js new met.holds (flat_map (joins_where number left right) (met_here ∷ []))
      (λ j i r. subst (Stands c met.holds.ends new.graph.items new.kinds.items) (only_one ones others e f j a b (joined_here j i)) stands) in
      let through = extends_through before.ends one.holds.ends other.holds.ends one.extends other.extends in
      record {
        holds = more.holds;
        extends =
            extends_through before.ends met.holds.ends more.holds.ends (subst (Extends before.ends) (sym met.same) through) more.extends;
      }

  abbrev all_joins : List Join
  all_joins = flat_map (joins_where number left right) (met_here ∷ [])

  -- the left side has no end
  pub no_left_met : (old new : JoinedOfCode) (x : Option ℕ) → x ≡ None → ((js : List Join) (before : Holds c js old) → AreLeaves c ones → HasEnd before ones new x)
      → JoinsMet c number left right (met_here ∷ []) old new
  no_left_met old new x none has =
      record {
        more = λ js before may.
            let is = subst (HasEnd before ones new) none (has js before (may met_here (inl refl)).one) in
            subst (HoldsMore before all_joins) (sym is.1)
            (stand_already c js old before all_joins (λ j i r. absurd (subst (λ l. In l j.one) is.0 (joined_here j i).one)));
      }

  -- or the right one has none
  pub no_right_met : (old first new : JoinedOfCode) (x y : Option ℕ) (n : ℕ) → x ≡ Some n → y ≡ None
      → ((js : List Join) (before : Holds c js old) → AreLeaves c ones → HasEnd before ones first x)
      → ((js : List Join) (before : Holds c js first) → AreLeaves c others → HasEnd before others new y) → JoinsMet c number left right (met_here ∷ []) old new
  no_right_met old first new x y n some none has then_has =
      record {
        more = λ js before may.
            let ends = may met_here (inl refl) in
            let one = subst (HasEnd before ones first) some (has js before ends.one) in
            let is = subst (HasEnd one.2.holds others new) none (then_has js one.2.holds ends.other) in
            let more = stand_already c js first one.2.holds all_joins (λ j i r. absurd (subst (λ l. In l j.other) is.0 (joined_here j i).other)) in
            subst (HoldsMore before all_joins) (sym is.1)
            (record { holds = more.holds; extends = extends_through before.ends one.2.holds.ends more.holds.ends one.2.extends more.extends });
      }

  pub both_met : (one other : Kind) (old first second new : JoinedOfCode) (x y : Option ℕ) (n k : ℕ) → kind_of_type t ≡ Some one → kind_of_type u ≡ Some other
      → (one ≡ kind.Reset) ⊎ (other ≡ kind.Reset) → x ≡ Some n → y ≡ Some k
      → ((js : List Join) (before : Holds c js old) → AreLeaves c ones → HasEnd before ones first x)
      → ((js : List Join) (before : Holds c js first) → AreLeaves c others → HasEnd before others second y)
      → ((js : List Join) (before : Holds c js second) (e f : End) → slice_get before.ends n ≡ Some e → slice_get before.ends k ≡ Some f → Joined c e f → IsReset e ⊎ IsReset f
      → IsJoinedIn before n k new)
      → JoinsMet c number left right (met_here ∷ []) old new
  both_met one other old first second new x y n k is_one is_other resets some_x some_y has then_has join =
      record {
        more = λ js before may.
            let ends = may met_here (inl refl) in
            let h = subst (HasEnd before ones first) some_x (has js before ends.one) in
            let i = subst (HasEnd h.2.holds others second) some_y (then_has js h.2.holds ends.other) in
            let e = h.0 in
            let f = i.0 in
            let here : In ones e = subst (λ l. In l e) (sym h.1) (inl refl) in
            let there : In others f = subst (λ l. In l f) (sym i.1) (inl refl) in
            let at : slice_get i.2.holds.ends n ≡ Some e =
            ap (λ l. slice_get l n) i.2.extends.1 ∙ push_left h.2.holds.ends i.2.extends.0 n e h.2.is in
            let reset_end : IsReset e ⊎ IsReset f =
            ⊎_elim
            (λ (r : one ≡ kind.Reset). inl (first_ground number left steps t e here ∙ kind_reset t (is_one ∙ ap Some r)))
            (λ (r : other ≡ kind.Reset). inr (first_ground number right steps u f there ∙ kind_reset u (is_other ∙ ap Some r)))
            resets in
            joined_ends js old first second new before n k e f h.1 i.1 h.2 i.2 (join js i.2.holds e f at i.2.is (ends.joined e f here there) reset_end);
      }
