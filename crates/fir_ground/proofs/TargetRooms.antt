-- What a reference names: its type is what it reaches, and its leaves are leaves of the module.
use Rattle.std.proofs.Common.{◌≡◌, ℕ, ◌+◌, ◌*◌, ◌<◌, ◌≤◌, List, [], ◌∷◌, Bool, true, false, Option, Some, None, refl, sym, ap, ◌∙◌, subst, arith}
use Rattle.std.specs.Prelude.{nat_lt, option_map, if◌then◌else◌}
use Rattle.std.specs.Str.{bytes_eq}
use Rattle.fir_ast.specs.declared.place.Place.{Place}
use Rattle.fir_ast.specs.Types.{DataType, uint, sint, clock, reset, async_reset, bundle, vector}
use Rattle.fir_ast.specs.Expressions.{Expression, reference, literal, operation, mux, validif, Parts, no_parts, subfield, subindex, subaccess}
use Rattle.fir_ast.specs.Statements.{SinkReference}
use Rattle.fir_meaning.specs.CostGroup.{cost_limit}
use Rattle.fir_meaning.specs.Costs.{leaves_where}
use Rattle.fir_meaning.specs.ExpressionPlaces.{place_of}
use Rattle.fir_meaning.specs.LeafPaths.{named}
use Rattle.fir_meaning.specs.Reaching.{Reached, at_field, at_element, at_any, field_of_type, vector_of_type, known_reached}
use Rattle.fir_meaning.specs.ResetJoins.{type_of_known}
use Rattle.fir_meaning.specs.TypeKinds.{FieldFound}
use Rattle.fir_meaning.specs.TypeLeaves.{leaf_count}
use Rattle.fir_meaning.specs.TypedScopes.{Known, TypedScope, known}
use Rattle.fir_meaning.specs.working.WellTyped.{HasType, Leads, Reaches}
use Rattle.fir_meaning.specs.working.FieldSizes.{leaves_before}
use Rattle.fir_meaning.specs.working.Leafed.{first_term, target_along, target_of, target_read, terms}
use Rattle.fir_meaning.specs.working.Targets.{Target, element_target, element_target_at, field_target, field_target_at, further, leaves_ahead, leaves_so_far, picked_target, picked_target_at, whole_target, named_target}
use Rattle.fir_meaning.specs.working.Terms.{Term}
use Rattle.fir_leaf_pairs.specs.working.Reads.{IsWithin, IsWithinCost}
use Rattle.fir_leaf_pairs.proofs.PairNumbers.{field_before}

-- the target has that type, and its leaves are among so many
pub record Aims (x : Target) (t : DataType) : Type 0 where
  pub same : x.data_type ≡ t
  pub room : IsWithin x.base (leaf_count t)

pub within_cost : (x : Target) (t : DataType) → Aims x t → IsWithinCost x
within_cost x t a = subst (λ u. IsWithin x.base (leaf_count u)) (sym a.same) a.room

-- a part of what is within, so many leaves further
further_within : (o : Option ℕ) (k n m : ℕ) → k + n ≤ m → IsWithin o m → IsWithin (further k o) n
further_within None k n m le h = tt
further_within (Some b) k n m le h = omega arith

field_room : (x : List ℕ) (t : DataType) (f : FieldFound) → field_of_type x t ≡ Some f → leaves_before x t + leaf_count f.data_type ≤ leaf_count t
field_room x (bundle fs) f e = field_before x fs f e
field_room x (vector t n) f e = absurd (cc)
field_room x (uint w) f e = absurd (cc)
field_room x (sint w) f e = absurd (cc)
field_room x clock f e = absurd (cc)
field_room x reset f e = absurd (cc)
field_room x async_reset f e = absurd (cc)

abbrev elements_in : Option (DataType × ℕ) → DataType → ℕ → DataType × ℕ
elements_in None s m = (s, m)
elements_in (Some v) s m = v

vector_count : (u t : DataType) (n : ℕ) → vector_of_type u ≡ Some (t, n) → leaf_count u ≡ n * leaf_count t
vector_count (vector s m) t n e =
    let one : s ≡ t = ap (λ o. (elements_in o s m).0) e in
    let other : m ≡ n = ap (λ o. (elements_in o s m).1) e in
    ap (λ k. k * leaf_count s) other ∙ ap (λ v. n * leaf_count v) one
vector_count (bundle fs) t n e = absurd (cc)
vector_count (uint w) t n e = absurd (cc)
vector_count (sint w) t n e = absurd (cc)
vector_count clock t n e = absurd (cc)
vector_count reset t n e = absurd (cc)
vector_count async_reset t n e = absurd (cc)

element_room : (i n a : ℕ) → i < n → i * a + a ≤ n * a
element_room i n a less = grind arith

aims_field : (x : Target) (r : Reached) (name : List ℕ) (f : FieldFound) → field_of_type name r.data_type ≡ Some f → Aims x r.data_type
    → Aims (field_target name x) f.data_type
aims_field x r name f found a =
    let here : field_of_type name x.data_type ≡ Some f = ap (field_of_type name) a.same ∙ found in
    let room : leaves_before name x.data_type + leaf_count f.data_type ≤ leaf_count x.data_type = field_room name x.data_type f here in
    subst (λ o. Aims (field_target_at name x o) f.data_type) (sym here)
    (record {
      same = refl;
      room = further_within x.base (leaves_before name x.data_type) (leaf_count f.data_type) (leaf_count x.data_type) room
          (within_cost x r.data_type a);
    })

aims_element : (x : Target) (r : Reached) (i n : ℕ) (t : DataType) → vector_of_type r.data_type ≡ Some (t, n) → i < n → Aims x r.data_type
    → Aims (element_target i x) t
aims_element x r i n t found less a =
    let here : vector_of_type x.data_type ≡ Some (t, n) = ap vector_of_type a.same ∙ found in
    let count : leaf_count x.data_type ≡ n * leaf_count t = vector_count x.data_type t n here in
    let room : i * leaf_count t + leaf_count t ≤ leaf_count x.data_type = subst (λ k. i * leaf_count t + leaf_count t ≤ k) (sym count)
    (element_room i n (leaf_count t) less) in
    subst (λ o. Aims (element_target_at i x o) t) (sym here)
    (record { same = refl; room = further_within x.base (i * leaf_count t) (leaf_count t) (leaf_count x.data_type) room (within_cost x r.data_type a) })

first_by : (b : Bool) (o : Option ℕ) (n a m : ℕ) → m ≡ n * a → (b ≡ true → 1 ≤ n) → IsWithin o m → IsWithin (if b then o else None) a
first_by false o n a m e some h = tt
first_by true None n a m e some h = tt
first_by true (Some k) n a m e some h = let least : a ≤ n * a = one_each n a (some refl) in omega arith
  where
    one_each : (n a : ℕ) → 1 ≤ n → a ≤ n * a
    one_each n a h = grind arith

some_below : (n : ℕ) → nat_lt 0 n ≡ true → 1 ≤ n
some_below n e = grind arith

first_element : (o : Option ℕ) (n a m : ℕ) → m ≡ n * a → IsWithin o m → IsWithin (if nat_lt 0 n then o else None) a
first_element o n a m e h = first_by (nat_lt 0 n) o n a m e (some_below n) h

aims_picked : (x : Target) (r : Reached) (p : Place) (index : Term) (n : ℕ) (t : DataType) → vector_of_type r.data_type ≡ Some (t, n) → Aims x r.data_type
    → Aims (picked_target p index x) t
aims_picked x r p index n t found a =
    let here : vector_of_type x.data_type ≡ Some (t, n) = ap vector_of_type a.same ∙ found in
    let count : leaf_count x.data_type ≡ n * leaf_count t = vector_count x.data_type t n here in
    subst (λ o. Aims (picked_target_at p index x o) t) (sym here)
    (record { same = refl; room = first_element x.base n (leaf_count t) (leaf_count x.data_type) count (within_cost x r.data_type a) })

module _ (typed : TypedScope) where
  aims_along : (ps : Parts) (x : Target) (r s : Reached) → Aims x r.data_type → Leads typed r ps s → Aims (target_along typed x ps) s.data_type
  aims_along no_parts x r s a h = subst (λ (u : Reached). Aims x u.data_type) (sym h) a
  aims_along (subfield first p n rest) x r s a h =
      aims_along rest (field_target n x) (at_field n r h.0) s (aims_field x r n h.0 h.1 a) h.2
  aims_along (subindex first p i rest) x r s a h =
      aims_along rest (element_target i x) (at_element i r h.0) s (aims_element x r i h.1 h.0 h.2 h.3 a) h.4
  aims_along (subaccess first e rest) x r s a h =
      aims_along rest (picked_target (place_of e) (first_term (terms typed e)) x) (at_any r (h.1, h.2)) s
      (aims_picked x r (place_of e) (first_term (terms typed e)) h.2 h.1 h.4 a) h.5

-- the leaves of a name are declared
ahead_room : (typed : TypedScope) (n : List ℕ) (k : Known) (t : DataType) → known typed n ≡ Some k → k.data_type ≡ Some t
    → leaves_ahead typed n + leaf_count t ≤ leaves_so_far typed
ahead_room [] n k t e is = absurd (cc)
ahead_room (x ∷ xs) n k t e is = either (bytes_eq x.name n) (λ h. ahead_room xs n k t h is) e
  where
    either : (b : Bool) → (known xs n ≡ Some k → leaves_ahead xs n + leaf_count t ≤ leaves_so_far xs) → (if b then Some x else known xs n) ≡ Some k
        → (if b then 0 else leaves_where x.data_type + leaves_ahead xs n) + leaf_count t ≤ leaves_where x.data_type + leaves_so_far xs
    either true later e =
        let same : x ≡ k = cc in
        let count : leaves_where x.data_type ≡ leaf_count t = ap (λ (y : Known). leaves_where y.data_type) same ∙ ap leaves_where is in
        omega arith
    either false later e = let h = later e in omega arith

abbrev reached_type : DataType → Option Reached → DataType
reached_type t None = t
reached_type t (Some r) = r.data_type

aims_known : (typed : TypedScope) (n : List ℕ) (o : Option Known) (begins : Reached) → known typed n ≡ o → leaves_so_far typed ≤ cost_limit
    → known_reached o ≡ Some begins → Aims (whole_target (leaves_ahead typed n) (type_of_known o)) begins.data_type
aims_known typed n None begins found small e = absurd (cc)
aims_known typed n (Some k) begins found small e = typed_as k.data_type refl e
  where
    typed_as : (o : Option DataType) → k.data_type ≡ o → option_map (λ t. record { data_type = t; flow = k.flow; path = Some (named k.name ∷ []) }) o ≡ Some
        begins
        → Aims (whole_target (leaves_ahead typed n) o) begins.data_type
    typed_as None is e = absurd (cc)
    typed_as (Some t) is e =
        let same : t ≡ begins.data_type = ap (λ (o : Option Reached). reached_type t o) e in
        let room : leaves_ahead typed n + leaf_count t ≤ cost_limit = let h = ahead_room typed n k t found is in omega arith in
        subst (λ u. Aims (whole_target (leaves_ahead typed n) (Some t)) u) same (record { same = refl; room = room })

pub aims_sink : (typed : TypedScope) (s : SinkReference) (r : Reached) → leaves_so_far typed ≤ cost_limit → Reaches typed s r → Aims (target_of typed s) r.data_type
aims_sink typed s r small h =
    aims_along typed s.parts (named_target typed s.name) h.0 r (aims_known typed s.name (known typed s.name) h.0 refl small h.1) h.2

-- an expression that is a reference
pub aims_read : (typed : TypedScope) (e : Expression) (t : DataType) (x : Target) → leaves_so_far typed ≤ cost_limit → HasType typed e t
    → target_read typed e ≡ Some x → Aims x t
aims_read typed (reference p n ps) t x small h is =
    let r = h.1 in
    let own : Aims (target_of typed (record { place = p; name = n; parts = ps })) r.data_type =
    aims_sink typed (record { place = p; name = n; parts = ps }) r small (h.0, h.2, h.3) in
    let same : target_of typed (record { place = p; name = n; parts = ps }) ≡ x = cc in
    subst (λ y. Aims y t) same (subst (Aims (target_of typed (record { place = p; name = n; parts = ps }))) (sym h.4) own)
aims_read typed (literal l) t x small h is = absurd (cc)
aims_read typed (operation p op es ks) t x small h is = absurd (cc)
aims_read typed (mux p c a b) t x small h is = absurd (cc)
aims_read typed (validif p c a) t x small h is = absurd (cc)
