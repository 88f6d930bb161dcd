-- The walk goes on where the table grows and where one more is declared.
use Rattle.std.proofs.Common.{◌≡◌, ℕ, List, [], ◌∷◌, ◌++◌, map, Option, Some, None, refl, sym, ap, ◌∙◌, append_assoc, arith}
use Rattle.std.specs.Prelude.{slice_get, unwrap_or}
use Rattle.std.specs.List.{AllByRecursion}
use Rattle.std.proofs.lemmas.List.{length-append, map-append}
use Rattle.std.proofs.lemmas.Option.{slice_get_within}
use Rattle.fir_base.proofs.Each.{all_joined}
use Rattle.fir_base.proofs.Elements.{get_left}
use Rattle.fir_ast.specs.Types.{DataType, uint}
use Rattle.fir_ast.specs.Statements.{PlacedName}
use Rattle.fir_ast.specs.Circuits.{ModuleTree}
use Rattle.fir_meaning.specs.Components.{Component, Declaration, Declarations}
use Rattle.fir_meaning.specs.Visibility.{Before, declaration_at, with_declaration}
use Rattle.fir_meaning.specs.TypedScopes.{TypedScope}
use Rattle.fir_meaning.specs.ComponentTypes.{component_type, instance_bundle, known_as, typed_behind, typed_scope}
use Rattle.fir_meaning.specs.TypeGroup.{scope_at}
use Rattle.fir_type_table.specs.declared.kind.TypeId.{TypeId}
use Rattle.fir_type_table.specs.working.Tables.{types_of, shown}
use Rattle.fir_types.specs.declared.found.Found.{Found}
use Rattle.fir_types.specs.declared.found.Found.TheVariants as found
use Rattle.fir_types.specs.declared.scope.Scope.{Scope}
use Rattle.fir_types.specs.working.Seen.{seen}
use Rattle.fir_types.specs.working.Walked.{Declared, DeclaredFound, GoesOnWith, HoldsBundles, IsHeld, Walks}

scope_behind_more : (modules : List ModuleTree) (ks : TypedScope) (ds : Declarations) (d : Declaration)
    → typed_behind modules ks (ds ++ d ∷ []) ≡ typed_behind modules ks ds ++ known_as modules (typed_behind modules ks ds) d ∷ []
scope_behind_more modules ks [] d = refl
scope_behind_more modules ks (e ∷ es) d = scope_behind_more modules (ks ++ known_as modules ks e ∷ []) es d

-- one more declaration is known by what stands before it
pub scope_more : (modules : List ModuleTree) (ds : Declarations) (d : Declaration)
    → typed_scope modules (ds ++ d ∷ []) ≡ typed_scope modules ds ++ known_as modules (typed_scope modules ds) d ∷ []
scope_more modules ds d = scope_behind_more modules [] ds d

pub append_none : {A : Type 0} (xs : List A) → xs ≡ xs ++ []
append_none [] = refl
append_none (x ∷ xs) = ap (λ ys. x ∷ ys) (append_none xs)

-- a table that stays has grown, and so has one that has grown once and once more
pub goes_still : (old new : Scope) → new.table ≡ old.table → GoesOnWith (types_of old.table) new
goes_still old new same = record { more = []; grown = ap types_of same ∙ append_none (types_of old.table) }

pub goes_twice : (ts : List DataType) (next new : Scope) → GoesOnWith ts next → GoesOnWith (types_of next.table) new → GoesOnWith ts new
goes_twice ts next new one two =
    record { more = one.more ++ two.more; grown = two.grown ∙ ap (λ xs. xs ++ two.more) one.grown ∙ append_assoc ts one.more two.more }

-- what is held stays, and is of the same type
pub held_grown : (ts more : List DataType) (x : Option Found) → IsHeld ts x → IsHeld (ts ++ more) x
held_grown ts more None h = tt
held_grown ts more (Some (found.Number signed width)) h = tt
held_grown ts more (Some found.AsyncReset) h = tt
held_grown ts more (Some (found.Type id is_bare)) h = let both = length-append ts more in omega (arith, both, h)

pub seen_grown : (ts more : List DataType) (x : Option Found) → IsHeld ts x → seen (ts ++ more) x ≡ seen ts x
seen_grown ts more None h = refl
seen_grown ts more (Some (found.Number signed width)) h = refl
seen_grown ts more (Some found.AsyncReset) h = refl
seen_grown ts more (Some (found.Type id is_bare)) h = ap (λ o. Some (shown is_bare (unwrap_or o (uint None)))) (get_left ts more id.number h)

pub all_held : (ts more : List DataType) (xs : List (Option Found)) → AllByRecursion (IsHeld ts) xs → AllByRecursion (IsHeld (ts ++ more)) xs
all_held ts more [] h = tt
all_held ts more (x ∷ xs) h = (held_grown ts more x h.0, all_held ts more xs h.1)

pub all_seen : (ts more : List DataType) (xs : List (Option Found)) → AllByRecursion (IsHeld ts) xs → map (seen (ts ++ more)) xs ≡ map (seen ts) xs
all_seen ts more [] h = refl
all_seen ts more (x ∷ xs) h = ap (λ y. y ∷ map (seen (ts ++ more)) xs) (seen_grown ts more x h.0) ∙ ap (λ ys. seen ts x ∷ ys) (all_seen ts more xs h.1)

pub bundles_grown : (ts more : List DataType) (ids : List TypeId) (ms : List ModuleTree) → HoldsBundles ts ids ms → HoldsBundles (ts ++ more) ids ms
bundles_grown ts more [] [] h = tt
bundles_grown ts more (id ∷ ids) (m ∷ ms) h = (got ts more id.number (instance_bundle m) h.0, bundles_grown ts more ids ms h.1)
  where
    got : (xs ys : List DataType) (k : ℕ) (t : DataType) → slice_get xs k ≡ Some t → slice_get (xs ++ ys) k ≡ Some t
    got xs ys k t h = get_left xs ys k (slice_get_within xs k t h) ∙ h
bundles_grown ts more [] (m ∷ ms) h = absurd h
bundles_grown ts more (id ∷ ids) [] h = absurd h

-- more types stand in the table
pub walks_grown : (modules : List ModuleTree) (bundles : List TypeId) (old new : Scope) (before : Before) (more : List DataType)
    → Walks modules bundles old before → new.declared.items ≡ old.declared.items → types_of new.table ≡ types_of old.table ++ more
    → Walks modules bundles new before
walks_grown modules bundles old new before more w same grown = record {
  types =
      ap (λ ts. map (seen ts) new.declared.items) grown ∙ ap (map (seen (types_of old.table ++ more))) same
      ∙ all_seen (types_of old.table) more old.declared.items w.held ∙ w.types;
  held = rw (grown, same) (all_held (types_of old.table) more old.declared.items w.held);
  holds = rw grown (bundles_grown (types_of old.table) more bundles modules w.holds);
}

-- one more is declared, of the type of its component
pub walks_more : (modules : List ModuleTree) (bundles : List TypeId) (old new : Scope) (before : Before) (n : PlacedName) (c : Component) (more : List DataType) (x : Option Found)
    → Walks modules bundles old before → new.declared.items ≡ old.declared.items ++ x ∷ [] → types_of new.table ≡ types_of old.table ++ more
    → IsHeld (types_of new.table) x → seen (types_of new.table) x ≡ component_type modules (scope_at modules before) n.place c
    → Walks modules bundles new (with_declaration before n c)
walks_more modules bundles old new before n c more x w pushed grown held is =
    let d = declaration_at before n c in
    let scope = scope_at modules before in
    record {
      types =
          ap (map (seen (types_of new.table))) pushed ∙ map-append (seen (types_of new.table)) old.declared.items (x ∷ [])
          ∙ ap (λ ys. ys ++ seen (types_of new.table) x ∷ []) (ap (λ ts. map (seen ts) old.declared.items) grown ∙ all_seen (types_of old.table) more old.declared.items w.held ∙ w.types)
          ∙ ap (λ y. map (λ k. k.data_type) scope ++ y ∷ []) is
          ∙ sym (map-append (λ k. k.data_type) scope (known_as modules scope d ∷ []))
          ∙ sym (ap (map (λ k. k.data_type)) (scope_more modules before.declared d));
      held =
          rw pushed (all_joined (IsHeld (types_of new.table)) old.declared.items (x ∷ []) (rw grown (all_held (types_of old.table) more old.declared.items w.held)) (held, tt));
      holds = rw grown (bundles_grown (types_of old.table) more bundles modules w.holds);
    }

-- of a type that is written
pub walks_declared : (modules : List ModuleTree) (bundles : List TypeId) (old new : Scope) (before : Before) (n : PlacedName) (c : Component) (t : DataType)
    → Walks modules bundles old before → Declared old new t → component_type modules (scope_at modules before) n.place c ≡ Some t
    → Walks modules bundles new (with_declaration before n c)
walks_declared modules bundles old new before n c t w d is =
    walks_more modules bundles old new before n c d.more (Some d.found) w d.declared d.grown d.held (ap Some d.is ∙ sym is)

-- of a type that is found, if of any
pub walks_found : (modules : List ModuleTree) (bundles : List TypeId) (old new : Scope) (before : Before) (n : PlacedName) (c : Component) (t : Option DataType)
    → Walks modules bundles old before → DeclaredFound old new t → component_type modules (scope_at modules before) n.place c ≡ t
    → Walks modules bundles new (with_declaration before n c)
walks_found modules bundles old new before n c t w d is =
    walks_more modules bundles old new before n c [] d.found w d.declared (ap types_of d.table ∙ append_none (types_of old.table)) (rw d.table d.held) (rw d.table d.is ∙ sym is)
