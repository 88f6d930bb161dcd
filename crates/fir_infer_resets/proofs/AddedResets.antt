-- The graph as the code has it, with a Reset more that is joined to another of its class.
use Rattle.std.proofs.Common.{◌≡◌, ℕ, List, [], ◌∷◌, ◌++◌, map, Some, None, length, refl, sym, ap, ◌∙◌, subst, inl, inr, ◌⊎◌, Vec, Global}
use Rattle.std.specs.Prelude.{slice_get}
use Rattle.std.proofs.lemmas.Option.{none-some}
use Rattle.fir_base.proofs.Writes.{PushedOr, push_left, push_end, push_cases}
use Rattle.fir_ast.specs.declared.place.Place.{Place}
use Rattle.fir_ast.specs.Circuits.{CircuitTree}
use Rattle.fir_meaning.specs.LeafPaths.{LeafPath}
use Rattle.fir_infer_resets.specs.declared.graph.Kind.{Kind}
use Rattle.fir_infer_resets.specs.declared.graph.Kind.TheVariants.{Reset}
use Rattle.fir_infer_resets.specs.declared.item.End.{End as EndOfCode}
use Rattle.fir_infer_resets.specs.declared.joined.Joined.{Joined}
use Rattle.fir_meaning.specs.ResetItems.{End, leaf_item}
use Rattle.fir_meaning.specs.ResetJoins.{Join}
use Rattle.fir_meaning.specs.ResetWalks.{IsReset, IsLeafOf, Joined as AreJoined}
use Rattle.fir_infer_resets.specs.working.ResetGraphs.{IsJoined}
use Rattle.fir_infer_resets.specs.working.BuiltGraphs.{HasKind, Connects, here, along}
use Rattle.fir_reset.specs.working.LeafClasses.{Class, class_of}
use Rattle.fir_infer_resets.specs.working.PathKeys.{path_key}
use Rattle.fir_infer_resets.specs.working.Holding.{IsEnd, AreEnds, reset_end, under_key, HasFirst, Holds, HasNumber}
use Rattle.fir_infer_resets.specs.working.Adding.{AddsBoth, AddsReset}
use Rattle.fir_infer_resets.proofs.ConnectedEnds.{connects_through, connects_more}
use Rattle.fir_infer_resets.proofs.PartlyBuilt.{IsPartlyBuilt, ConnectsClasses, partly, built_whole, edge_kept, partly_pushed, partly_joined, reset_at, joined_one, joined_other}
use Rattle.fir_infer_resets.proofs.HeldGraphs.{as_many, ends_more, kinds_more, has_first_more}
use Rattle.fir_infer_resets.proofs.KeyTables.{table_here, table_cases, table_kept}
use Rattle.fir_infer_resets.proofs.Keys.{one_path}

pub same_leaf : (number other : ℕ) (p q : LeafPath) → leaf_item number p ≡ leaf_item other q → (number ≡ other) × (p ≡ q)
same_leaf number other p q h =
    let one : number ≡ other = cc in
    let two : p ≡ q = cc in (one, two)

same_key : (number other : ℕ) (p q : LeafPath) → number ≡ other → p ≡ q → path_key number p ≡ path_key other q
same_key number other p q h k = ap (λ n. path_key n p) h ∙ ap (path_key other) k

pub same_reset : (number other : ℕ) (p q : LeafPath) (place : Place) → number ≡ other → p ≡ q → reset_end number p place ≡ reset_end other q place
same_reset number other p q place h k = ap (λ n. reset_end n p place) h ∙ ap (λ l. reset_end other l place) k

-- a Reset more, that the table of numbers knows
module _ (c : CircuitTree) (js : List Join) (old : Joined) (before : Holds c js old) (middle : Joined) (number : ℕ) (leaf : LeafPath) (place : Place)
    (a : AddsReset old middle number leaf place) (l : IsLeafOf c (reset_end number leaf place)) (fresh : under_key old number leaf ≡ None) where
  abbrev pub new_end : End
  new_end = reset_end number leaf place

  abbrev pub new_number : ℕ
  new_number = length old.ends.items

  own_is : IsEnd a.own new_end
  own_is = record { item = a.item; kind = subst (HasKind new_end) (sym a.kind) refl; place = a.at }

  not_there : (x : ℕ) → slice_get before.ends x ≡ Some new_end → ⊥
  not_there x h = none-some x (sym fresh ∙ before.all number x leaf place h)

  pub ends_now : AreEnds middle.ends.items (before.ends ++ new_end ∷ [])
  ends_now = subst (λ owns. AreEnds owns (before.ends ++ new_end ∷ [])) (sym a.ends) (ends_more old.ends.items before.ends a.own new_end before.are own_is)

  pub kinds_now : map (λ e. e.kind) middle.ends.items ≡ middle.kinds.items
  kinds_now = ap (map (λ (o : EndOfCode). o.kind)) a.ends ∙ kinds_more old.ends.items a.own old.kinds.items before.same_kinds ∙ sym a.kinds

  old_built : IsPartlyBuilt c js before.ends old.graph.items old.kinds.items
  old_built = partly c js before.ends old.graph.items old.kinds.items before.built

  pub partly_now : IsPartlyBuilt c js (before.ends ++ new_end ∷ []) middle.graph.items middle.kinds.items
  partly_now =
      subst (λ g. IsPartlyBuilt c js (before.ends ++ new_end ∷ []) g middle.kinds.items) (sym a.graph)
      (subst (IsPartlyBuilt c js (before.ends ++ new_end ∷ []) (old.graph.items ++ a.list ∷ [])) (sym a.kinds)
      (partly_pushed c js before.ends old.graph.items old.kinds.items old_built new_end a.own.kind a.list a.empty own_is.kind (λ r. l) (λ x r h. not_there x h)))

  pub edges_kept : (x y : ℕ) → IsJoined old.graph.items x y → IsJoined middle.graph.items x y
  edges_kept x y j = subst (λ g. IsJoined g x y) (sym a.graph) (edge_kept c js before.ends old.graph.items old.kinds.items old_built new_end a.own.kind a.list a.empty x y j)

  pub kinds_kept : (x : ℕ) (k : Kind) → slice_get old.kinds.items x ≡ Some k → slice_get middle.kinds.items x ≡ Some k
  kinds_kept x k h = subst (λ ks. slice_get ks x ≡ Some k) (sym a.kinds) (push_left old.kinds.items (a.own.kind ∷ []) x k h)

  pub at_end : slice_get (before.ends ++ new_end ∷ []) new_number ≡ Some new_end
  at_end = ap (slice_get (before.ends ++ new_end ∷ [])) (as_many c js old before) ∙ push_end before.ends new_end

  pub known_now : (n x : ℕ) (p : LeafPath) → under_key middle n p ≡ Some x → (q : Place) × (slice_get (before.ends ++ new_end ∷ []) x ≡ Some (reset_end n p q))
  known_now n x p h = by (table_cases old.numbers middle.numbers (path_key number leaf) new_number a.numbers (path_key n p) x h)
    where
      by : ((path_key number leaf ≡ path_key n p) × (new_number ≡ x)) ⊎ (under_key old n p ≡ Some x)
          → (q : Place) × (slice_get (before.ends ++ new_end ∷ []) x ≡ Some (reset_end n p q))
      by (inl (key, same)) =
          let one = one_path number n leaf p key in
          (place, ap (slice_get (before.ends ++ new_end ∷ [])) (sym same) ∙ at_end ∙ ap (λ (e : End). Some e) (same_reset number n leaf p place one.0 one.1))
      by (inr old_key) = let r = before.known n x p old_key in (r.0, push_left before.ends (new_end ∷ []) x (reset_end n p r.0) r.1)

  pub all_now : (n x : ℕ) (p : LeafPath) (q : Place) → slice_get (before.ends ++ new_end ∷ []) x ≡ Some (reset_end n p q) → under_key middle n p ≡ Some x
  all_now n x p q h = by (push_cases before.ends new_end x (reset_end n p q) h)
    where
      by : PushedOr before.ends new_end x (reset_end n p q) → under_key middle n p ≡ Some x
      by (inl i) = table_kept old.numbers middle.numbers (path_key number leaf) new_number a.numbers fresh (path_key n p) x (before.all n x p q i)
      by (inr (at, same)) =
          let one = same_leaf number n leaf p (ap (λ (e : End). e.item) same) in
          ap (λ k. under_key middle n k) (sym one.1) ∙ ap (λ k. under_key middle k leaf) (sym one.0)
          ∙ table_here old.numbers middle.numbers (path_key number leaf) new_number a.numbers ∙ ap (λ (i : ℕ). Some i) (as_many c js old before ∙ sym at)

  -- joined to another of its class
  module _ (graph : Vec (Vec ℕ Global) Global) (other : ℕ) (f : End) (b : AddsBoth middle.graph.items graph.items new_number other) (h : slice_get before.ends other ≡ Some f) (r : IsReset f)
      (class : class_of c new_end.item ≡ class_of c f.item) (m : AreJoined c new_end f) where
    there : slice_get (before.ends ++ new_end ∷ []) other ≡ Some f
    there = push_left before.ends (new_end ∷ []) other f h

    new_kind : slice_get middle.kinds.items new_number ≡ Some Reset
    new_kind = reset_at c js (before.ends ++ new_end ∷ []) middle.graph.items middle.kinds.items partly_now new_number new_end at_end refl

    other_kind : slice_get middle.kinds.items other ≡ Some Reset
    other_kind = reset_at c js (before.ends ++ new_end ∷ []) middle.graph.items middle.kinds.items partly_now other f there r

    abbrev Connected : ℕ → ℕ → Type 0
    Connected x y = Connects graph.items middle.kinds.items x y

    connected_still : (x y : ℕ) → Connects old.graph.items old.kinds.items x y → Connected x y
    connected_still x y k = connects_more old.graph.items graph.items old.kinds.items middle.kinds.items (λ u v j. b.kept u v (edges_kept u v j)) kinds_kept x y k

    to_new : (x : ℕ) (g : End) → slice_get before.ends x ≡ Some g → IsReset g → class_of c g.item ≡ class_of c new_end.item → Connected x new_number
    to_new x g i s k =
        connects_through graph.items middle.kinds.items x other new_number (connected_still x other (before.built.classes x other g f i h s r (k ∙ class)))
        (along other new_number new_number new_kind
        (joined_other c js (before.ends ++ new_end ∷ []) middle.graph.items middle.kinds.items partly_now graph.items new_number other b new_end f at_end there) (here new_number))

    from_new : (x : ℕ) (g : End) → slice_get before.ends x ≡ Some g → IsReset g → class_of c new_end.item ≡ class_of c g.item → Connected new_number x
    from_new x g i s k =
        along new_number other x other_kind
        (joined_one c js (before.ends ++ new_end ∷ []) middle.graph.items middle.kinds.items partly_now graph.items new_number other b new_end f at_end there)
        (connected_still other x (before.built.classes other x f g h i r s (sym class ∙ k)))

    is_new : (x : ℕ) → x ≡ length before.ends → new_number ≡ x
    is_new x at = as_many c js old before ∙ sym at

    connected_now : ConnectsClasses c (before.ends ++ new_end ∷ []) graph.items middle.kinds.items
    connected_now x y g k i j s t same = by (push_cases before.ends new_end x g i) (push_cases before.ends new_end y k j)
      where
        by : PushedOr before.ends new_end x g → PushedOr before.ends new_end y k → Connected x y
        by (inl p) (inl q) = connected_still x y (before.built.classes x y g k p q s t same)
        by (inl p) (inr (at, is)) = subst (Connected x) (is_new y at) (to_new x g p s (same ∙ ap (λ (e : End). class_of c e.item) (sym is)))
        by (inr (at, is)) (inl q) = subst (λ z. Connected z y) (is_new x at) (from_new y k q t (ap (λ (e : End). class_of c e.item) is ∙ same))
        by (inr (at, is)) (inr (at_too, is_too)) = subst (Connected x) (at ∙ sym at_too) (here x)

    has_first_now : (x : ℕ) (g : End) (k : Class) → IsReset g → class_of c g.item ≡ Some k → PushedOr before.ends new_end x g → HasFirst c (before.ends ++ new_end ∷ []) k
    has_first_now x g k s i (inl p) = has_first_more c before.ends new_end k (before.classes x g k p s i)
    has_first_now x g k s i (inr (at, is)) = has_first_more c before.ends new_end k (before.classes other f k h r (sym class ∙ ap (λ (e : End). class_of c e.item) is ∙ i))

    pub beside : HasNumber before new_end (record middle { graph = graph }) new_number
    beside = record {
      holds = record {
        ends = before.ends ++ new_end ∷ [];
        are = ends_now;
        same_kinds = kinds_now;
        built =
            built_whole c js (before.ends ++ new_end ∷ []) graph.items middle.kinds.items
            (partly_joined c js (before.ends ++ new_end ∷ []) middle.graph.items middle.kinds.items partly_now graph.items new_number other b new_end f at_end there m (inl refl))
            connected_now;
        known = known_now;
        all = all_now;
        classes = λ x g k i s q. has_first_now x g k s q (push_cases before.ends new_end x g i);
      };
      extends = (new_end ∷ [], refl);
      is = at_end;
    }
