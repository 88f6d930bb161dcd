-- What a module declares beside what is known of it, and the class of a leaf by the place of its declaration.
use Rattle.std.proofs.Common.{◌≡◌, ℕ, zero, suc, ◌+◌, List, [], ◌∷◌, ◌++◌, map, Some, refl, inl, inr, ap, sym, ◌∙◌, subst, arith, append_assoc}
use Rattle.std.specs.Prelude.{slice_get}
use Rattle.std.proofs.lemmas.List.{append-nil}
use Rattle.std.proofs.lemmas.Option.{same_Some, none-some}
use Rattle.fir_base.specs.Lists.{In, Distinct}
use Rattle.fir_base.proofs.Elements.{get_in}
use Rattle.fir_base.proofs.Members.{in_map}
use Rattle.fir_base.proofs.SameNames.{name_same, name_other}
use Rattle.fir_ast.specs.Circuits.{ModuleTree}
use Rattle.fir_meaning.specs.LeafPaths.{LeafPath, named}
use Rattle.fir_meaning.specs.Components.{Declaration, Declarations}
use Rattle.fir_meaning.specs.Visibility.{declarations}
use Rattle.fir_meaning.specs.TypedScopes.{Known, TypedScope}
use Rattle.fir_meaning.specs.ComponentTypes.{known_as, typed_behind, typed_scope}
use Rattle.fir_meaning.proofs.FoundDeclarations.{Once}
use Rattle.fir_reset.specs.working.LeafClasses.{class_there, offset_where, port_count, class_among, class_in}

-- a declaration as it is known in some scope
pub record IsKnown (modules : List ModuleTree) (d : Declaration) (k : Known) : Type 0 where
  pub scope : TypedScope
  pub is : k ≡ known_as modules scope d

-- declaration by declaration
abbrev pub EachKnown : List ModuleTree → Declarations → TypedScope → Type 0
EachKnown modules [] [] = Unit {0}
EachKnown modules (d ∷ ds) (k ∷ ks) = IsKnown modules d k × EachKnown modules ds ks
EachKnown modules _ _ = ⊥

known_more : (modules : List ModuleTree) (ds : Declarations) (ks : TypedScope) (d : Declaration) (k : Known) → EachKnown modules ds ks → IsKnown modules d k
    → EachKnown modules (ds ++ d ∷ []) (ks ++ k ∷ [])
known_more modules [] [] d k h i = (i, tt)
known_more modules (x ∷ ds) (y ∷ ks) d k h i = (h.0, known_more modules ds ks d k h.1 i)
known_more modules [] (y ∷ ks) d k h i = absurd h
known_more modules (x ∷ ds) [] d k h i = absurd h

each_behind : (modules : List ModuleTree) (before : Declarations) (scope : TypedScope) (ds : Declarations) → EachKnown modules before scope
    → EachKnown modules (before ++ ds) (typed_behind modules scope ds)
each_behind modules before scope [] h = subst (λ l. EachKnown modules l scope) (sym (append-nil before)) h
each_behind modules before scope (d ∷ ds) h =
    let here : IsKnown modules d (known_as modules scope d) = record { scope = scope; is = refl } in
    subst (λ l. EachKnown modules l (typed_behind modules (scope ++ known_as modules scope d ∷ []) ds)) (append_assoc before (d ∷ []) ds)
    (each_behind modules (before ++ d ∷ []) (scope ++ known_as modules scope d ∷ []) ds (known_more modules before scope d (known_as modules scope d) h here))

pub each_known : (modules : List ModuleTree) (ds : Declarations) → EachKnown modules ds (typed_scope modules ds)
each_known modules ds = each_behind modules [] [] ds tt

-- a declaration and what is known of it, at one place of both lists
pub record Stands (modules : List ModuleTree) (ds : Declarations) (ks : TypedScope) (d : Declaration) (k : Known) : Type 0 where
  pub place : ℕ
  pub declared : slice_get ds place ≡ Some d
  pub known : slice_get ks place ≡ Some k
  pub is : IsKnown modules d k

beside_known : (modules : List ModuleTree) (ds : Declarations) (ks : TypedScope) → EachKnown modules ds ks → (k : Known) → In ks k
    → (d : Declaration) × Stands modules ds ks d k
beside_known modules [] [] h k m = absurd m
beside_known modules (d ∷ ds) (x ∷ ks) h k (inl e) = (d, record { place = 0; declared = refl; known = ap Some e; is = subst (IsKnown modules d) e h.0 })
beside_known modules (d ∷ ds) (x ∷ ks) h k (inr m) =
    let r = beside_known modules ds ks h.1 k m in
    let s = r.1 in (r.0, record { place = suc s.place; declared = s.declared; known = s.known; is = s.is })
beside_known modules [] (x ∷ ks) h k m = absurd h
beside_known modules (d ∷ ds) [] h k m = absurd h

beside_declared : (modules : List ModuleTree) (ds : Declarations) (ks : TypedScope) → EachKnown modules ds ks → (d : Declaration) → In ds d
    → (k : Known) × Stands modules ds ks d k
beside_declared modules [] [] h d m = absurd m
beside_declared modules (x ∷ ds) (k ∷ ks) h d (inl e) =
    (k, record { place = 0; declared = ap Some e; known = refl; is = subst (λ (y : Declaration). IsKnown modules y k) e h.0 })
beside_declared modules (x ∷ ds) (k ∷ ks) h d (inr m) =
    let r = beside_declared modules ds ks h.1 d m in
    let s = r.1 in (r.0, record { place = suc s.place; declared = s.declared; known = s.known; is = s.is })
beside_declared modules [] (k ∷ ks) h d m = absurd h
beside_declared modules (x ∷ ds) [] h d m = absurd h

module _ (modules : List ModuleTree) (m : ModuleTree) where
  pub stands_known : (k : Known) → In (typed_scope modules (declarations m)) k → (d : Declaration) × Stands modules (declarations m) (typed_scope modules (declarations m)) d k
  stands_known k i = beside_known modules (declarations m) (typed_scope modules (declarations m)) (each_known modules (declarations m)) k i

  pub stands_declared : (d : Declaration) → In (declarations m) d → (k : Known) × Stands modules (declarations m) (typed_scope modules (declarations m)) d k
  stands_declared d i = beside_declared modules (declarations m) (typed_scope modules (declarations m)) (each_known modules (declarations m)) d i

-- the class of a leaf of the declaration at a place, where so many leaves of ports stand before it
pub record ClassAt (number : ℕ) (modules : List ModuleTree) (position before : ℕ) (ds : Declarations) (ks : TypedScope) (place : ℕ) (d : Declaration) (k : Known) : Type 0 where
  pub ports : ℕ
  pub is : (path : LeafPath) → class_among number modules position before ds ks d.named.name path
      ≡ class_there number modules (position + place) ports d.component (offset_where k.data_type path)

class_found : (number : ℕ) (modules : List ModuleTree) (position before : ℕ) (ds : Declarations) (ks : TypedScope) (place : ℕ) (d : Declaration) (k : Known)
    → Distinct (map (λ y. y.named.name) ds) → slice_get ds place ≡ Some d → slice_get ks place ≡ Some k → ClassAt number modules position before ds ks place d k
class_found number modules position before [] ks place d k once h i = absurd (none-some d h)
class_found number modules position before (x ∷ ds) [] place d k once h i = absurd (none-some k i)
class_found number modules position before (x ∷ ds) (y ∷ ks) zero d k once h i =
    let one : x ≡ d = same_Some x d h in
    let other : y ≡ k = same_Some y k i in
    let number_same : position + 0 ≡ position = omega arith in
    record { ports = before; is = λ path. rw (← one, ← other, name_same x.named.name, number_same) refl }
class_found number modules position before (x ∷ ds) (y ∷ ks) (suc place) d k once h i =
    let rest = class_found number modules (suc position) (before + port_count x.component) ds ks place d k once.1 h i in
    let apart = name_other x.named.name d.named.name (λ e. once.0 (subst (In (map (λ y. y.named.name) ds)) (sym e) (in_map (λ y. y.named.name) ds d (get_in ds place d h)))) in
    let further : position + suc place ≡ suc position + place = omega arith in
    record { ports = rest.ports; is = λ path. rw (apart, further) (rest.is path) }

module _ (number : ℕ) (modules : List ModuleTree) (m : ModuleTree) (once : Once (declarations m)) where
  pub class_standing : (d : Declaration) (k : Known) (s : Stands modules (declarations m) (typed_scope modules (declarations m)) d k)
      → (ports : ℕ) × ((path : LeafPath) → class_in number modules (Some m) (named d.named.name ∷ path) ≡ class_there number modules s.place ports d.component (offset_where k.data_type path))
  class_standing d k s =
      let r = class_found number modules 0 0 (declarations m) (typed_scope modules (declarations m)) s.place d k once.once s.declared s.known in
      let zero_more : 0 + s.place ≡ s.place = omega arith in
      (r.ports, λ path. rw zero_more at (r.is path))

-- of two declarations of one name there is one place, and of one place one declaration
place_once : (ds : Declarations) (i j : ℕ) (d e : Declaration) → Distinct (map (λ y. y.named.name) ds) → slice_get ds i ≡ Some d → slice_get ds j ≡ Some e
    → d.named.name ≡ e.named.name → i ≡ j
place_once [] i j d e once h g same = absurd (none-some d h)
place_once (x ∷ ds) zero zero d e once h g same = refl
place_once (x ∷ ds) zero (suc j) d e once h g same =
    let one : x ≡ d = same_Some x d h in
    absurd (once.0 (subst (In (map (λ y. y.named.name) ds)) (sym same ∙ ap (λ (y : Declaration). y.named.name) (sym one)) (in_map (λ y. y.named.name) ds e (get_in ds j e g))))
place_once (x ∷ ds) (suc i) zero d e once h g same =
    let one : x ≡ e = same_Some x e g in
    absurd (once.0 (subst (In (map (λ y. y.named.name) ds)) (same ∙ ap (λ (y : Declaration). y.named.name) (sym one)) (in_map (λ y. y.named.name) ds d (get_in ds i d h))))
place_once (x ∷ ds) (suc i) (suc j) d e once h g same = ap suc (place_once ds i j d e once.1 h g same)

module _ (modules : List ModuleTree) (ds : Declarations) (ks : TypedScope) (d e : Declaration) (k l : Known) (s : Stands modules ds ks d k) (t : Stands modules ds ks e l) where
  pub same_place : s.place ≡ t.place → (d ≡ e) × (k ≡ l)
  same_place h = (
    same_Some d e (sym s.declared ∙ ap (slice_get ds) h ∙ t.declared),
    same_Some k l (sym s.known ∙ ap (slice_get ks) h ∙ t.known),
  )

  pub same_name : Once ds → d.named.name ≡ e.named.name → (d ≡ e) × (k ≡ l)
  same_name once h = same_place (place_once ds s.place t.place d e once.once s.declared t.declared h)
