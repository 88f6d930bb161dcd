-- What is declared at a place of a module has the type that is found, and stands from its first number on.
use Rattle.std.proofs.Common.{◌≡◌, ℕ, suc, ◌+◌, List, [], ◌∷◌, ◌++◌, length, Option, Some, None, refl, sym, ap, ◌∙◌, append_assoc, arith}
use Rattle.std.specs.Prelude.{slice_get}
use Rattle.std.proofs.lemmas.List.{length-append}
use Rattle.std.proofs.lemmas.Option.{none-some, same_Some}
use Rattle.fir_base.proofs.Elements.{beside, get_behind}
use Rattle.fir_base.proofs.Writes.{push_left}
use Rattle.fir_ast.specs.Types.{DataType}
use Rattle.fir_ast.specs.Statements.{PlacedName}
use Rattle.fir_ast.specs.Circuits.{ModuleTree, CircuitTree}
use Rattle.fir_meaning.specs.Components.{Component, Declaration, Declarations}
use Rattle.fir_meaning.specs.ComponentTypes.{known_as, typed_behind, typed_scope}
use Rattle.fir_meaning.specs.TypeGroup.{scope_at}
use Rattle.fir_meaning.specs.TypeKinds.{bare}
use Rattle.fir_meaning.specs.TypedScopes.{Known, TypedScope}
use Rattle.fir_meaning.specs.Visibility.{Before, declaration_at, declarations, with_declaration}
use Rattle.fir_meaning.specs.SizedDeclarations.{NumberedModule, Numbering, numbers_at, sized_declared}
use Rattle.fir_meaning.specs.SizedScopes.{SizedName, SizedScope}
use Rattle.fir_meaning.specs.WidthExpressions.{Rule, Width}
use Rattle.fir_types.specs.declared.found.Found.{Found}
use Rattle.fir_types.specs.working.Notes.{Note}
use Rattle.fir_types.specs.working.Seen.{found_type, seen}
use Rattle.fir_types.proofs.GrownScopes.{scope_more}
use Rattle.fir_infer_widths.specs.declared.ground.Ground.{Ground}
use Rattle.fir_infer_widths.specs.declared.walk.Walk.{Walk}
use Rattle.fir_infer_widths.specs.working.Scenes.{AllStand, StandsFor}
use Rattle.fir_width.specs.working.Sides.{IsSide}
use Rattle.fir_infer_widths.specs.working.Walks.{Declares, types_in}
use Rattle.fir_width.proofs.DeclaredScopes.{numbered_more}

-- as many names are known as stand before
known_long : (modules : List ModuleTree) (ks : TypedScope) (ds : Declarations) → length (typed_behind modules ks ds) ≡ length ks + length ds
known_long modules ks [] = let e : length ks ≡ length ks + 0 = omega arith in e
known_long modules ks (d ∷ ds) =
    known_long modules (ks ++ known_as modules ks d ∷ []) ds
    ∙ (let both = length-append ks (known_as modules ks d ∷ []) in let e : length (ks ++ known_as modules ks d ∷ []) + length ds ≡ length ks + suc (length ds) = omega (arith, both) in e)

pub scope_long : (modules : List ModuleTree) (before : Before) → length (scope_at modules before) ≡ length before.declared
scope_long modules before = known_long modules [] before.declared ∙ (let e : 0 + length before.declared ≡ length before.declared = omega arith in e)

-- what is known stays so
known_stays : (modules : List ModuleTree) (ks : TypedScope) (ds : Declarations) (i : ℕ) (k : Known) → slice_get ks i ≡ Some k → slice_get (typed_behind modules ks ds) i ≡ Some k
known_stays modules ks [] i k is = is
known_stays modules ks (d ∷ ds) i k is = known_stays modules (ks ++ known_as modules ks d ∷ []) ds i k (push_left ks (known_as modules ks d ∷ []) i k is)

known_joined : (modules : List ModuleTree) (ks : TypedScope) (ds es : Declarations) → typed_behind modules ks (ds ++ es) ≡ typed_behind modules (typed_behind modules ks ds) es
known_joined modules ks [] es = refl
known_joined modules ks (d ∷ ds) es = known_joined modules (ks ++ known_as modules ks d ∷ []) ds es

known_at : (modules : List ModuleTree) (before : Before) (d : Declaration) (rest : Declarations)
    → slice_get (typed_scope modules (before.declared ++ d ∷ rest)) (length before.declared) ≡ Some (known_as modules (scope_at modules before) d)
known_at modules before d rest =
    let ks = scope_at modules before in
    ap (λ l. slice_get l (length before.declared)) (known_joined modules [] before.declared (d ∷ rest))
    ∙ known_stays modules (ks ++ known_as modules ks d ∷ []) rest (length before.declared) (known_as modules ks d)
    (ap (slice_get (ks ++ known_as modules ks d ∷ [])) (sym (scope_long modules before)) ∙ get_behind ks [] (known_as modules ks d))

-- the last of what stands
pub record LastStands (meant : List Width) (firsts : List ℕ) (position : ℕ) (k : Known) (s : SizedName) : Type 0 where
  pub first : ℕ
  pub at : slice_get firsts position ≡ Some first
  pub stands : StandsFor meant first k s

no_name_left : (meant : List Width) (firsts : List ℕ) (ss : SizedScope) (s : SizedName) → AllStand meant firsts [] (ss ++ s ∷ []) → ⊥
no_name_left meant [] [] s h = h
no_name_left meant [] (r ∷ ss) s h = h
no_name_left meant (first ∷ firsts) [] s h = h
no_name_left meant (first ∷ firsts) (r ∷ ss) s h = h

no_type_left : (meant : List Width) (firsts : List ℕ) (ks : TypedScope) (k : Known) → AllStand meant firsts (ks ++ k ∷ []) [] → ⊥
no_type_left meant [] [] k h = h
no_type_left meant [] (l ∷ ks) k h = h
no_type_left meant (first ∷ firsts) [] k h = h
no_type_left meant (first ∷ firsts) (l ∷ ks) k h = h

last_stands : (meant : List Width) (firsts : List ℕ) (ks : TypedScope) (ss : SizedScope) (k : Known) (s : SizedName)
    → AllStand meant firsts (ks ++ k ∷ []) (ss ++ s ∷ []) → LastStands meant firsts (length ks) k s
last_stands meant (first ∷ firsts) [] [] k s h = record { first = first; at = refl; stands = h.0 }
last_stands meant (first ∷ firsts) (l ∷ ks) (r ∷ ss) k s h =
    let last = last_stands meant firsts ks ss k s h.1 in record { first = last.first; at = last.at; stands = last.stands }
last_stands meant (first ∷ firsts) [] (r ∷ ss) k s h = absurd (no_name_left meant firsts ss s h.1)
last_stands meant (first ∷ firsts) (l ∷ ks) [] k s h = absurd (no_type_left meant firsts ks k h.1)
last_stands meant [] [] [] k s h = absurd h
last_stands meant [] [] (r ∷ ss) k s h = absurd h
last_stands meant [] (l ∷ ks) [] k s h = absurd h
last_stands meant [] (l ∷ ks) (r ∷ ss) k s h = absurd h

-- the side of what is declared
pub record DeclaredSide (c : CircuitTree) (ground : Ground) (m : NumberedModule) (before : Before) (n : PlacedName) (component : Component) (t : DataType) (meant : List Width) : Type 0 where
  pub found : Found
  pub first : ℕ
  pub at : slice_get ground.declared.now (length before.declared) ≡ Some (Some found)
  pub from : slice_get ground.first_leaves.now (length before.declared) ≡ Some first
  pub type : found_type (types_in ground) found ≡ t
  pub is : IsSide (types_in ground) meant (record { found = found; first = first }) (sized_declared m before n component)

-- a type that is found
pub record FoundAt (ts : List DataType) (declared : List (Option Found)) (position : ℕ) (t : DataType) : Type 0 where
  pub found : Found
  pub at : slice_get declared position ≡ Some (Some found)
  pub type : found_type ts found ≡ t

is_found : (ts : List DataType) (declared : List (Option Found)) (position : ℕ) (t : DataType) (x : Option Found) → slice_get declared position ≡ Some x → seen ts x ≡ Some t
    → FoundAt ts declared position t
is_found ts declared position t None at is = absurd (none-some t is)
is_found ts declared position t (Some found) at is = record { found = found; at = at; type = same_Some (found_type ts found) t is }

pub declared_side : (c : CircuitTree) (ground : Ground) (m : NumberedModule) (before : Before) (n : PlacedName) (component : Component) (t : DataType) (meant : List Width) (rules : List Rule)
    (rest : List Note) (walk : Walk) → Declares c ground m before n component t meant rules rest walk → DeclaredSide c ground m before n component t meant
declared_side c ground m before n component t meant rules rest walk h =
    let d = declaration_at before n component in
    let ts = types_in ground in
    let whole = declarations m.inside in
    let ks = scope_at m.modules before in
    let numbers = numbers_at m before in
    let split : whole ≡ before.declared ++ d ∷ h.begins.0 = h.begins.1 ∙ append_assoc before.declared (d ∷ []) h.begins.0 in
    let known : slice_get (typed_scope m.modules whole) (length before.declared) ≡ Some (known_as m.modules ks d) =
    ap (λ ds. slice_get (typed_scope m.modules ds) (length before.declared)) split ∙ known_at m.modules before d h.begins.0 in
    let one = beside (seen ts) (λ (k : Known). k.data_type) ground.declared.now (typed_scope m.modules whole) h.enters.types (length before.declared) (known_as m.modules ks d) known in
    let found = is_found ts ground.declared.now (length before.declared) t one.0 one.1 (one.2 ∙ h.is) in
    let all : AllStand meant ground.first_leaves.now (ks ++ known_as m.modules ks d ∷ []) (numbers.scope ++ record { name = n.name; sized = sized_declared m before n component } ∷ []) =
    rw (← scope_more m.modules before.declared d, ← ap (λ (x : Numbering). x.scope) (numbered_more m.modules m.start before.declared d)) (h.enters.stand (with_declaration before n component) h.begins) in
    let last = last_stands meant ground.first_leaves.now ks numbers.scope (known_as m.modules ks d) (record { name = n.name; sized = sized_declared m before n component }) all in
    record {
      found = found.found;
      first = last.first;
      at = found.at;
      from = ap (slice_get ground.first_leaves.now) (sym (scope_long m.modules before)) ∙ last.at;
      type = found.type;
      is = record { shape = last.stands.shape t h.is ∙ ap bare (sym found.type); stands = last.stands.stands t h.is };
    }
