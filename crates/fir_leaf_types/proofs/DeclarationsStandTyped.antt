-- The scopes behind declarations: all names stand with their sized types, and what their leaves hold goes on in order.
use Rattle.std.proofs.Common.{◌≡◌, ℕ, ◌+◌, List, [], ◌∷◌, ◌++◌, length, slice_get, Some, refl, sym, ap, ◌∙◌, subst, arith, append_assoc, length-append}
use Rattle.std.proofs.lemmas.List.{append-nil}
use Rattle.fir_ast.specs.Circuits.{ModuleTree}
use Rattle.fir_meaning.specs.Components.{Declaration, Declarations}
use Rattle.fir_meaning.specs.ComponentTypes.{component_type, known_as, typed_behind, typed_scope}
use Rattle.fir_meaning.specs.TypedScopes.{TypedScope}
use Rattle.fir_meaning.specs.WidthExpressions.{Widths}
use Rattle.fir_meaning.specs.SizedScopes.{SizedName}
use Rattle.fir_meaning.specs.SizedDeclarations.{Numbering, sized_component, numbered_with, numbered_behind}
use Rattle.fir_meaning.proofs.KnownNames.{typed_more}
use Rattle.fir_meaning.specs.LeafTypes.{LeafType}
use Rattle.fir_leaf.proofs.LeafPlaces.{get_left}
use Rattle.fir_leaf_types.proofs.ScopesStandTyped.{ScopeStands, held_where, held_along, scope_more, held_more, declaration_stands}

pub numbered_more : (modules : List ModuleTree) (start : Numbering) (ds : Declarations) (d : Declaration)
    → numbered_behind modules start (ds ++ d ∷ []) ≡ numbered_with modules (numbered_behind modules start ds) d
numbered_more modules start [] d = refl
numbered_more modules start (x ∷ ds) d = numbered_more modules (numbered_with modules start x) ds d

-- as many names as declarations
typed_counted : (modules : List ModuleTree) (scope : TypedScope) (ds : Declarations) → length (typed_behind modules scope ds) ≡ length scope + length ds
typed_counted modules scope [] = omega arith
typed_counted modules scope (d ∷ ds) =
    omega (arith, typed_counted modules (scope ++ known_as modules scope d ∷ []) ds, length-append scope (known_as modules scope d ∷ []))

sized_counted : (modules : List ModuleTree) (start : Numbering) (ds : Declarations)
    → length (numbered_behind modules start ds).scope ≡ length start.scope + length ds
sized_counted modules start [] = omega arith
sized_counted modules start (d ∷ ds) =
    let last : SizedName = record { name = d.named.name; sized = sized_component modules start d.named.place d.component } in
    omega (arith, sized_counted modules (numbered_with modules start d) ds, length-append start.scope (last ∷ []))

module _ (w : Widths) (modules : List ModuleTree) (start : Numbering) (none : start.scope ≡ []) where
  abbrev pub held_of : Declarations → List LeafType
  held_of ds = held_along w (typed_scope modules ds) (numbered_behind modules start ds).scope

  abbrev pub StandsAt : Declarations → Type 0
  StandsAt ds = ScopeStands w (typed_scope modules ds) (numbered_behind modules start ds).scope

  abbrev held_by : Declarations → Declaration → List LeafType
  held_by ds d =
      held_where w (component_type modules (typed_scope modules ds) d.named.place d.component)
      (sized_component modules (numbered_behind modules start ds) d.named.place d.component)

  pub held_one : (ds : Declarations) (d : Declaration)
      → held_along w (typed_scope modules (ds ++ d ∷ [])) (numbered_behind modules start (ds ++ d ∷ [])).scope
      ≡ held_along w (typed_scope modules ds) (numbered_behind modules start ds).scope
      ++ held_where w (component_type modules (typed_scope modules ds) d.named.place d.component)
      (sized_component modules (numbered_behind modules start ds) d.named.place d.component)
  held_one ds d =
      let k = known_as modules (typed_scope modules ds) d in
      let s : SizedName =
      record { name = d.named.name; sized = sized_component modules (numbered_behind modules start ds) d.named.place d.component } in
      ap (λ ks. held_along w ks (numbered_behind modules start (ds ++ d ∷ [])).scope) (typed_more modules [] ds d)
      ∙ ap (λ (n : Numbering). held_along w (typed_scope modules ds ++ k ∷ []) n.scope) (numbered_more modules start ds d)
      ∙ held_more w (typed_scope modules ds) (numbered_behind modules start ds).scope k s
      (typed_counted modules [] ds ∙ ap (λ l. length l + length ds) (sym none) ∙ sym (sized_counted modules start ds))

  stands_more : (ds : Declarations) (d : Declaration) → StandsAt ds → StandsAt (ds ++ d ∷ [])
  stands_more ds d h =
      let k = known_as modules (typed_scope modules ds) d in
      let s : SizedName =
      record { name = d.named.name; sized = sized_component modules (numbered_behind modules start ds) d.named.place d.component } in
      subst (λ ks. ScopeStands w ks (numbered_behind modules start (ds ++ d ∷ [])).scope) (sym (typed_more modules [] ds d))
      (subst (λ (n : Numbering). ScopeStands w (typed_scope modules ds ++ k ∷ []) n.scope) (sym (numbered_more modules start ds d))
      (scope_more w (typed_scope modules ds) (numbered_behind modules start ds).scope k s h (declaration_stands w modules start none ds d)))

  stands_from : (ds more : Declarations) → StandsAt ds → StandsAt (ds ++ more)
  stands_from ds [] h = subst StandsAt (sym (append-nil ds)) h
  stands_from ds (d ∷ more) h = subst StandsAt (append_assoc ds (d ∷ []) more) (stands_from (ds ++ d ∷ []) more (stands_more ds d h))

  pub stands_behind : (ds : Declarations) → ScopeStands w (typed_scope modules ds) (numbered_behind modules start ds).scope
  stands_behind ds = stands_from [] ds (subst (ScopeStands w []) (sym none) tt)

  pub held_longer : (ds more : Declarations) (x : ℕ) (h : LeafType)
      → slice_get (held_along w (typed_scope modules ds) (numbered_behind modules start ds).scope) x ≡ Some h
      → slice_get (held_along w (typed_scope modules (ds ++ more)) (numbered_behind modules start (ds ++ more)).scope) x ≡ Some h
  held_longer ds [] x h e = subst (λ l. slice_get (held_of l) x ≡ Some h) (sym (append-nil ds)) e
  held_longer ds (d ∷ more) x h e =
      subst (λ l. slice_get (held_of l) x ≡ Some h) (append_assoc ds (d ∷ []) more)
      (held_longer (ds ++ d ∷ []) more x h
      (subst (λ l. slice_get l x ≡ Some h) (sym (held_one ds d)) (get_left (held_of ds) (held_by ds d) x h e)))
