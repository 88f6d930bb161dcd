-- The sides of what meets in a module: what their names stand for is declared in it, and their roots stand for them.
use Rattle.std.proofs.Common.{◌≡◌, ℕ, List, [], ◌∷◌, ◌++◌, Bool, true, false, if◌then◌else◌, map, Some, refl, inl, inr, ⊎_elim, sym, ap, ◌∙◌, subst}
use Rattle.std.specs.Prelude.{not, ◌&&◌}
use Rattle.std.specs.Str.{bytes_eq}
use Rattle.std.proofs.lemmas.Option.{same_Some, none-some}
use Rattle.fir_base.specs.Lists.{In}
use Rattle.fir_base.proofs.Elements.{get_in}
use Rattle.fir_base.proofs.Members.{in_left, in_right}
use Rattle.fir_base.proofs.SameNames.{name_is}
use Rattle.fir_base.proofs.Tests.{chosen}
use Rattle.fir_ast.specs.declared.place.Place.{Place}
use Rattle.fir_ast.specs.Types.{DataType}
use Rattle.fir_ast.specs.Expressions.{Expression}
use Rattle.fir_ast.specs.Statements.{PlacedName, SinkReference}
use Rattle.fir_ast.specs.Circuits.{ModuleTree, CircuitTree}
use Rattle.fir_meaning.specs.LeafPaths.{LeafPath, named}
use Rattle.fir_meaning.specs.TypeLeaves.{TypeLeaf}
use Rattle.fir_meaning.specs.Components.{Declaration, Declarations, find}
use Rattle.fir_meaning.specs.Components as component
use Rattle.fir_meaning.specs.Visibility.{declaration_at, declarations}
use Rattle.fir_meaning.specs.working.NameGroups.{HasNames}
use Rattle.fir_meaning.specs.TypeGroup.{scope_at}
use Rattle.fir_meaning.specs.TypedScopes.{Known, TypedScope, known}
use Rattle.fir_meaning.specs.Reaching.{Reached}
use Rattle.fir_meaning.specs.ComponentTypes.{known_as, typed_behind, typed_scope}
use Rattle.fir_meaning.specs.working.WellTyped.{HasType, Reaches}
use Rattle.fir_meaning.specs.SizedScopes.{sink_expression}
use Rattle.fir_meaning.proofs.FoundDeclarations.{once_found}
use Rattle.fir_meaning.proofs.FoundTypes.{found_type}
use Rattle.fir_meaning.proofs.KnownNames.{typed_more}
use Rattle.fir_types.specs.declared.findings.Findings.{Findings}
use Rattle.fir_types.specs.working.Seen.{steps_of}
use Rattle.fir_types.specs.working.Walked.{Begins}
use Rattle.fir_types.proofs.KnownScopes.{Heads, heads_of}
use Rattle.fir_infer_resets.specs.declared.root.Access.{Access}
use Rattle.fir_infer_resets.specs.declared.root.Access.TheVariants as access
use Rattle.fir_infer_resets.specs.declared.root.Root.{Root}
use Rattle.fir_infer_resets.specs.declared.root.Root.TheVariants as root
use Rattle.fir_meaning.specs.ResetItems.{End, leaf_item, paths_along, has_access, is_reset, declared_at, value_end, leaf_end}
use Rattle.fir_reset.specs.working.ElementPaths.{any_element}
use Rattle.fir_meaning.specs.ResetJoins.{type_of_known, types_where, ends_of}
use Rattle.fir_meaning.specs.ResetWalks.{IsLeafOf}
use Rattle.fir_infer_resets.specs.working.Meetings.{Meeting}
use Rattle.fir_infer_resets.specs.working.Resolved.{StandsIn}
use Rattle.fir_infer_resets.specs.working.FirstEnds.{access_behind, IsReferenceRoot, IsNodeRoot}
use Rattle.fir_reset.proofs.FreshScopes.{sound}
use Rattle.fir_infer_resets.proofs.SidesMeet.{IsSide}
use Rattle.fir_reset.proofs.ReferencePaths.{leaf_behind, paths_alike, AllSome, lengths_along, first_path, path_some, no_access, some_access}
use Rattle.fir_infer_resets.proofs.ReferenceSides.{Picked, fixed, picks, empty, picked, AreOfCircuit, Fits, fits_fixed, fits_picks, fits_empty, leaf_side}
use Rattle.fir_infer_resets.proofs.ReferenceRanges.{IsKnownAs}
use Rattle.fir_infer_resets.proofs.ReferenceRanges as ranges

-- what is known stands in the scope under its name, and is declared
pub known_in : (ks : TypedScope) (n : List ℕ) (k : Known) → known ks n ≡ Some k → In ks k × (k.name ≡ n)
known_in [] n k h = absurd (none-some k h)
known_in (x ∷ ks) n k h =
    ⊎_elim
    (λ (c : (bytes_eq x.name n ≡ true) × (Some x ≡ Some k)).
    let e : x ≡ k = same_Some x k c.1 in (inl e, subst (λ (y : Known). y.name ≡ n) e (name_is x.name n c.0)))
    (λ (c : (bytes_eq x.name n ≡ false) × (known ks n ≡ Some k)). let r = known_in ks n k c.1 in (inr r.0, r.1))
    (chosen (bytes_eq x.name n) (Some x) (known ks n) (Some k) h)

known_declared : (ds : Declarations) (ks : TypedScope) (n : List ℕ) (k : Known) → Heads ds ks → known ks n ≡ Some k → (d : Declaration) × (find ds n ≡ Some d)
known_declared [] [] n k h e = absurd (none-some k e)
known_declared (d ∷ ds) (x ∷ ks) n k h e = by (bytes_eq d.named.name n) (bytes_eq x.name n) (ap (λ z. bytes_eq z n) (sym h.0)) e (λ i. known_declared ds ks n k h.2 i)
  where
    by : (a b : Bool) → a ≡ b → (if b then Some x else known ks n) ≡ Some k → (known ks n ≡ Some k → (y : Declaration) × (find ds n ≡ Some y))
        → (y : Declaration) × ((if a then Some d else find ds n) ≡ Some y)
    by true b s i later = (d, refl)
    by false true s i later = cc
    by false false s i later = later i
known_declared [] (x ∷ ks) n k h e = absurd h
known_declared (d ∷ ds) [] n k h e = absurd h

find_front : (ds rest : Declarations) (n : List ℕ) (d : Declaration) → find ds n ≡ Some d → find (ds ++ rest) n ≡ Some d
find_front [] rest n d h = absurd (none-some d h)
find_front (x ∷ ds) rest n d h = by (bytes_eq x.named.name n) h (λ i. find_front ds rest n d i)
  where
    by : (b : Bool) → (if b then Some x else find ds n) ≡ Some d → (find ds n ≡ Some d → find (ds ++ rest) n ≡ Some d) → (if b then Some x else find (ds ++ rest) n) ≡ Some d
    by true i later = i
    by false i later = later i

in_behind : (modules : List ModuleTree) (ks : TypedScope) (ds : Declarations) (k : Known) → In ks k → In (typed_behind modules ks ds) k
in_behind modules ks [] k h = h
in_behind modules ks (d ∷ ds) k h = in_behind modules (ks ++ known_as modules ks d ∷ []) ds k (in_left ks (known_as modules ks d ∷ []) k h)

behind_more : (modules : List ModuleTree) (ks : TypedScope) (ds es : Declarations) → typed_behind modules ks (ds ++ es) ≡ typed_behind modules (typed_behind modules ks ds) es
behind_more modules ks [] es = refl
behind_more modules ks (d ∷ ds) es = behind_more modules (ks ++ known_as modules ks d ∷ []) ds es

-- what is known before a place is known in the whole
in_whole : (modules : List ModuleTree) (ds whole : Declarations) (k : Known) → Begins ds whole → In (typed_scope modules ds) k → In (typed_scope modules whole) k
in_whole modules ds whole k b h =
    subst (λ l. In (typed_scope modules l) k) (sym b.1)
    (subst (λ l. In l k) (sym (behind_more modules [] ds b.0)) (in_behind modules (typed_scope modules ds) b.0 k h))

module _ (c : CircuitTree) (names : HasNames c) (findings : Findings) (number : ℕ) (x : Meeting) (stands : StandsIn c findings number x) where
  abbrev pub scope : TypedScope
  scope = scope_at x.inside.modules x.before

  module _ (sink : SinkReference) (s : Reached) (h : Reaches scope sink s) (lengths : List ℕ) (same : lengths ≡ lengths_along h.0.data_type sink.parts) (own : Root)
      (is : IsReferenceRoot c number sink lengths own) where
    abbrev begun : DataType
    begun = h.0.data_type

    abbrev paths : List LeafPath
    paths = paths_along (named sink.name ∷ []) begun sink.parts

    abbrev first : LeafPath
    first = named sink.name ∷ steps_of sink.parts

    known_here : IsKnownAs scope sink.name h.0
    known_here = ranges.known_as scope sink.name h.0 h.1

    declared_here : (d : Declaration) × (find x.before.declared sink.name ≡ Some d)
    declared_here = known_declared x.before.declared scope sink.name known_here.found (heads_of x.inside.modules x.before.declared) known_here.is

    abbrev place_here : Place
    place_here = declared_here.0.named.place

    found_whole : find (declarations x.inside.inside) sink.name ≡ Some declared_here.0
    found_whole =
        ap (λ ds. find ds sink.name) stands.begins.1 ∙ find_front x.before.declared stands.begins.0 sink.name declared_here.0 declared_here.1

    of_circuit : AreOfCircuit c names number s.data_type place_here paths first
    of_circuit =
        record {
          each = λ q i l m.
              let b = leaf_behind scope h.0 s sink.parts h.2 (named sink.name ∷ []) q i l m in
              let k = known_in scope sink.name known_here.found known_here.is in
              record {
                number = number;
                inside = x.inside.inside;
                is_module = stands.inside;
                declared = known_here.found;
                is_declared =
                    subst (λ ms. In (typed_scope ms (declarations x.inside.inside)) known_here.found) stands.modules
                    (in_whole x.inside.modules x.before.declared (declarations x.inside.inside) known_here.found stands.begins k.0);
                data_type = begun;
                has_type = known_here.data_type;
                leaf = b.leaf;
                is_leaf = b.among;
                item = ap (leaf_item number) (b.path_is ∙ ap (λ z. named z ∷ b.leaf.path) (sym k.1));
                ground_type = sym b.ground_type;
                place = sym (ap (declared_at place_here) (ap (find (declarations x.inside.inside)) k.1 ∙ found_whole));
              };
          alike = λ q i. paths_alike sink.parts begun (named sink.name ∷ []) q i;
        }

    abbrev ends_here : TypeLeaf → List End
    ends_here = ends_of x.inside x.before (sink_expression sink)

    ends_are : (l : TypeLeaf) → ends_here l ≡ map (λ path. leaf_end number place_here (path ++ l.path) l.ground_type) paths
        ++ (if has_access sink.parts && not (is_reset l.ground_type) then value_end sink.place l.ground_type ∷ [] else [])
    ends_are l =
        let values = if has_access sink.parts && not (is_reset l.ground_type) then value_end sink.place l.ground_type ∷ [] else [] in
        let leaves : ℕ → Place → DataType → List End = λ n p t.
        map (λ path. leaf_end n p (path ++ l.path) l.ground_type) (paths_along (named sink.name ∷ []) t sink.parts) in
        let place = declared_at sink.place (find x.before.declared sink.name) in
        let type : type_of_known (known scope sink.name) ≡ Some begun = ap type_of_known known_here.is ∙ known_here.data_type in
        ap (λ o. types_where o (leaves x.inside.number place) ++ values) type
        ∙ ap (λ n. leaves n place begun ++ values) stands.number_is
        ∙ ap (λ o. leaves number (declared_at sink.place o) begun ++ values) declared_here.1

    abbrev FitsHere : Access → Type 0
    FitsHere = Fits c names number s.data_type place_here paths first of_circuit ends_here (has_access sink.parts) sink.place ends_are

    fits_here : (a : Access) → Picked lengths sink.place a → FitsHere a
    fits_here a (fixed e is_fixed) =
        let none = sym same ∙ e in
        fits_fixed (no_access sink.parts begun none) (first_path sink.parts begun (named sink.name ∷ []) (subst AllSome (sym none) tt)) is_fixed
    fits_here a (picks n ns e all is_picks) =
        fits_picks (some_access sink.parts begun n ns (sym same ∙ e)) (first_path sink.parts begun (named sink.name ∷ []) (subst AllSome same all)) is_picks
    fits_here a (empty n ns e none is_empty) =
        fits_empty (some_access sink.parts begun n ns (sym same ∙ e))
        (λ q i. none (subst AllSome (sym same) (path_some sink.parts begun (named sink.name ∷ []) q i))) is_empty

    pub reference_side : IsSide c number s.data_type ends_here own
    reference_side =
        let a = access_behind sink.place access.Fixed lengths in
        let place : is.place ≡ place_here = is.declared x.inside.inside stands.inside ∙ ap (declared_at sink.place) found_whole in
        leaf_side c names number s.data_type place_here paths first of_circuit ends_here (has_access sink.parts) sink.place ends_are own is.path a
        (is.is ∙ ap (λ p. root.Leaf is.path p a) place) is.steps (fits_here a (picked sink.place lengths))

  module _ (n : PlacedName) (e : Expression) (t : DataType) (has : HasType scope e t) (b : Begins (x.before.declared ++ declaration_at x.before n (component.node e) ∷ []) (declarations x.inside.inside))
      (own : Root) (is : IsNodeRoot n own) where
    abbrev node_here : Declaration
    node_here = declaration_at x.before n (component.node e)

    abbrev known_node : Known
    known_node = known_as x.inside.modules scope node_here

    among_known : In (typed_scope c.modules (declarations x.inside.inside)) known_node
    among_known =
        subst (λ ms. In (typed_scope ms (declarations x.inside.inside)) known_node) stands.modules
        (in_whole x.inside.modules (x.before.declared ++ node_here ∷ []) (declarations x.inside.inside) known_node b
        (subst (λ l. In l known_node) (sym (typed_more x.inside.modules [] x.before.declared node_here)) (in_right scope (known_node ∷ []) known_node (inl refl))))

    among_declared : In (declarations x.inside.inside) node_here
    among_declared =
        subst (λ l. In l node_here) (sym b.1)
        (in_left (x.before.declared ++ node_here ∷ []) b.0 node_here (in_right x.before.declared (node_here ∷ []) node_here (inl refl)))

    found_node : find (declarations x.inside.inside) n.name ≡ Some node_here
    found_node = once_found (declarations x.inside.inside) (sound c names x.inside.inside (get_in c.modules number x.inside.inside stands.inside)).once node_here among_declared

    abbrev node_path : LeafPath
    node_path = named n.name ∷ []

    abbrev node_ends : TypeLeaf → List End
    node_ends l = leaf_end number n.place (named n.name ∷ l.path) l.ground_type ∷ []

    node_circuit : AreOfCircuit c names number t n.place (node_path ∷ []) node_path
    node_circuit =
        record {
          each = λ q i l m.
              let same : node_path ≡ q = only q i in
              subst (λ z. IsLeafOf c (leaf_end number n.place (z ++ l.path) l.ground_type)) same
              (record {
                number = number;
                inside = x.inside.inside;
                is_module = stands.inside;
                declared = known_node;
                is_declared = among_known;
                data_type = t;
                has_type = ap (λ z. z.has) (found_type scope e t has);
                leaf = l;
                is_leaf = m;
                item = refl;
                ground_type = refl;
                place = sym (ap (declared_at n.place) found_node);
              });
          alike = λ q i. ap (map any_element) (sym (only q i));
        }
      where
        only : (q : LeafPath) → In (node_path ∷ []) q → node_path ≡ q
        only q (inl z) = z
        only q (inr f) = absurd f

    pub node_side : IsSide c number t node_ends own
    node_side =
        leaf_side c names number t n.place (node_path ∷ []) node_path node_circuit node_ends false n.place (λ l. refl) own is.path access.Fixed is.is is.steps
        (fits_fixed refl (inl refl) refl)
