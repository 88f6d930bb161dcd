-- A connect of two UInts joins no Reset.
use Rattle.std.proofs.Common.{◌≡◌, ℕ, List, [], ◌∷◌, ◌++◌, map, Bool, true, false, if◌then◌else◌, not, ◌&&◌, Option, Some, None, sym, ap, ◌∙◌, inl, inr, ⊎_elim, subst}
use Rattle.fir_base.specs.Lists.{In}
use Rattle.fir_base.proofs.Members.{in_either, in_flat_map_from, in_map_from}
use Rattle.fir_ast.specs.declared.place.Place.{Place}
use Rattle.fir_ast.specs.Types.{DataType, uint, reset}
use Rattle.fir_ast.specs.Expressions.{Expression, reference, literal, operation, mux, validif}
use Rattle.fir_ast.specs.Statements.{SinkReference}
use Rattle.fir_meaning.specs.LeafPaths.{LeafPath, named}
use Rattle.fir_meaning.specs.TypeLeaves.{TypeLeaf}
use Rattle.fir_meaning.specs.ConnectPairs.{pairs}
use Rattle.fir_meaning.specs.ExpressionPlaces.{place_of}
use Rattle.fir_meaning.specs.Components.{find}
use Rattle.fir_meaning.specs.Visibility.{Before, behind}
use Rattle.fir_meaning.specs.TypedScopes.{known}
use Rattle.fir_meaning.specs.TypeGroup.{scope_at}
use Rattle.fir_meaning.specs.ResetItems.{End, declared_at, has_access, is_reset, leaf_end, paths_along, value_end}
use Rattle.fir_meaning.specs.ResetJoins.{Join, ResetModule, connect_joins, each_with_each, ends_of, type_of_known, types_where}
use Rattle.fir_meaning.specs.ResetWalks.{IsReset}
use Rattle.fir_meaning.specs.SizedScopes.{sink_expression}

value_ground : (p : Place) (t : DataType) (e : End) → In (value_end p t ∷ []) e → e.ground_type ≡ t
value_ground p t e (inl same) = ap (λ (x : End). x.ground_type) (sym same)
value_ground p t e (inr m) = absurd m

picked_ground : (b : Bool) (p : Place) (t : DataType) (e : End) → In (if b then value_end p t ∷ [] else []) e → e.ground_type ≡ t
picked_ground true p t e m = value_ground p t e m
picked_ground false p t e m = absurd m

leaf_ground : (number : ℕ) (p : Place) (behind : LeafPath) (t : DataType) (paths : List LeafPath) (e : End)
    → In (map (λ path. leaf_end number p (path ++ behind) t) paths) e → e.ground_type ≡ t
leaf_ground number p behind t paths e m =
    let from = in_map_from (λ path. leaf_end number p (path ++ behind) t) paths e m in ap (λ (x : End). x.ground_type) (sym from.2)

typed_ground : (found : Option DataType) (t : DataType) (f : DataType → List End) → ((u : DataType) (e : End) → In (f u) e → e.ground_type ≡ t) → (e : End)
    → In (types_where found f) e → e.ground_type ≡ t
typed_ground None t f each e m = absurd m
typed_ground (Some u) t f each e m = each u e m

-- an end of an expression for a leaf has the leaf's type
ends_ground : (m : ResetModule) (before : Before) (x : Expression) (l : TypeLeaf) (e : End) → In (ends_of m before x l) e → e.ground_type ≡ l.ground_type
ends_ground m before (reference p n ps) l e i =
    let place = declared_at p (find before.declared n) in
    let found = type_of_known (known (scope_at m.modules before) n) in
    let leaves = λ (t : DataType). map (λ path. leaf_end m.number place (path ++ l.path) l.ground_type) (paths_along (named n ∷ []) t ps) in
    let picked = has_access ps && not (is_reset l.ground_type) in
    ⊎_elim
    (typed_ground found l.ground_type leaves (λ t. leaf_ground m.number place l.path l.ground_type (paths_along (named n ∷ []) t ps)) e)
    (picked_ground picked p l.ground_type e)
    (in_either (types_where found leaves) (if picked then value_end p l.ground_type ∷ [] else []) e i)
ends_ground m before (literal x) l e i = value_ground (place_of (literal x)) l.ground_type e i
ends_ground m before (operation p op es ks) l e i = value_ground p l.ground_type e i
ends_ground m before (mux p c a b) l e i = value_ground p l.ground_type e i
ends_ground m before (validif p c a) l e i = value_ground p l.ground_type e i

pub record NoReset (j : Join) : Type 0 where
  pub one : IsReset j.one → ⊥
  pub other : IsReset j.other → ⊥

-- a join of two lists has an end of each
of_both : (ones others : List End) (j : Join) → In (each_with_each ones others) j → In ones j.one × In others j.other
of_both ones others j m =
    let outer = in_flat_map_from (λ a. map (λ b. record { one = a; other = b }) others) ones j m in
    let inner = in_map_from (λ b. record { one = outer.0; other = b }) others j outer.2 in
    (subst (λ (k : Join). In ones k.one) inner.2 outer.1, subst (λ (k : Join). In others k.other) inner.2 inner.1)

no_reset : (t u : Option ℕ) (j : Join) → j.one.ground_type ≡ uint t → j.other.ground_type ≡ uint u → NoReset j
no_reset t u j one other = record {
  one = λ is. let f : uint t ≡ reset = sym one ∙ is in cc;
  other = λ is. let f : uint u ≡ reset = sym other ∙ is in cc;
}

-- a connect of two UInts
pub connect_apart : (m : ResetModule) (before : Before) (s : SinkReference) (e : Expression) (left right : Option DataType) (t u : Option ℕ)
    → left ≡ Some (uint t) → right ≡ Some (uint u) → (j : Join) → In (connect_joins pairs m before s e left right) j → NoReset j
connect_apart m before s e left right t u l r j i =
    let h : In (connect_joins pairs m before s e (Some (uint t)) (Some (uint u))) j =
    subst (λ o. In (connect_joins pairs m before s e o (Some (uint u))) j) l (subst (λ o. In (connect_joins pairs m before s e left o) j) r i) in
    let of_left : TypeLeaf = record { path = []; flip = false; ground_type = uint t } in
    let of_right : TypeLeaf = record { path = []; flip = false; ground_type = uint u } in
    let ones = ends_of m before (sink_expression s) of_left in
    let others = ends_of m before e of_right in
    let own : In (each_with_each ones others) j = only (each_with_each ones others) h in
    let parts = of_both ones others j own in
    no_reset t u j (ends_ground m before (sink_expression s) of_left j.one parts.0) (ends_ground m before e of_right j.other parts.1)
  where
    only : (xs : List Join) → In (xs ++ []) j → In xs j
    only xs k = ⊎_elim (λ (n : In xs j). n) (λ (n : ⊥). absurd n) (in_either xs [] j k)

abbrev pub AreApart : List Join → Type 0
AreApart js = (j : Join) → In js j → NoReset j

pub joined_apart : (xs ys : List Join) → AreApart xs → AreApart ys → AreApart (xs ++ ys)
joined_apart xs ys h g j m = ⊎_elim (h j) (g j) (in_either xs ys j m)

pub none_apart : AreApart []
none_apart j m = absurd m
