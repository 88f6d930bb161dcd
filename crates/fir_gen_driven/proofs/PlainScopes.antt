-- Scopes in which all that is known is a number without a sign or a clock: what a name stands for there, and that no reset is asynchronous.
use Rattle.std.proofs.Common.{◌≡◌, ℕ, List, [], ◌∷◌, ◌++◌, Bool, true, false, Option, Some, None, option_map, refl, sym, inl, subst, ⊎_elim}
use Rattle.std.specs.Prelude.{codes}
use Rattle.std.specs.Str.{bytes_eq}
use Rattle.std.specs.List.{AllByRecursion}
use Rattle.fir_base.proofs.Each.{all_joined}
use Rattle.fir_base.proofs.Members.{in_right}
use Rattle.fir_base.proofs.Tests.{chosen}
use Rattle.fir_ast.specs.declared.place.Place.{Place}
use Rattle.fir_ast.specs.Types.{DataType, clock, uint}
use Rattle.fir_ast.specs.Expressions.{no_parts}
use Rattle.fir_ast.specs.Statements.{PlacedName}
use Rattle.fir_ast.specs.Circuits.{ModuleTree}
use Rattle.fir_meaning.specs.AsyncResets.{async_by, is_async_reset}
use Rattle.fir_meaning.specs.Components as component
use Rattle.fir_meaning.specs.Components.{Declaration}
use Rattle.fir_meaning.specs.ComponentTypes.{known_as}
use Rattle.fir_meaning.specs.Flows.{Flow}
use Rattle.fir_meaning.specs.LeafPaths.{LeafPath, named}
use Rattle.fir_meaning.specs.Reaching.{Reached, known_reached}
use Rattle.fir_meaning.specs.SourceDrives.{type_here}
use Rattle.fir_meaning.specs.SourceReads.{leaves_named}
use Rattle.fir_meaning.specs.TypedScopes.{Known, TypedScope, known}
use Rattle.fir_meaning.specs.TypeGroup.{scope_at}
use Rattle.fir_meaning.specs.Visibility.{Before, declaration_at, with_declaration}
use Rattle.fir_meaning.proofs.KnownNames.{known_each, known_front, typed_more}
use Rattle.fir_gen.specs.working.GenTree.{plain, word_type}

-- a number without a sign, or a clock
abbrev pub IsPlain : Option DataType → Type 0
IsPlain (Some (uint w)) = Unit {0}
IsPlain (Some clock) = Unit {0}
IsPlain _ = ⊥

abbrev pub AllPlain : TypedScope → Type 0
AllPlain scope = AllByRecursion (λ (k : Known). IsPlain k.data_type) scope

abbrev pub IsKnown : TypedScope → List ℕ → Type 0
IsKnown scope n = (k : Known) × (known scope n ≡ Some k)

plain_known : (scope : TypedScope) (n : List ℕ) (k : Known) → AllPlain scope → known scope n ≡ Some k → IsPlain k.data_type
plain_known [] n k all h = cc
plain_known (x ∷ scope) n k all h =
    ⊎_elim
    (λ (c : (bytes_eq x.name n ≡ true) × (Some x ≡ Some k)). let e : x ≡ k = cc in subst (λ (y : Known). IsPlain y.data_type) e all.0)
    (λ (c : (bytes_eq x.name n ≡ false) × (known scope n ≡ Some k)). plain_known scope n k all.1 c.1)
    (chosen (bytes_eq x.name n) (Some x) (known scope n) (Some k) h)

-- what a name stands for that is known
pub record StandsFor (scope : TypedScope) (n : List ℕ) : Type 0 where
  pub data_type : DataType
  pub is_plain : IsPlain (Some data_type)
  pub typed : (p : Place) → type_here scope (plain p n) ≡ data_type
  pub leaves : leaves_named scope n no_parts [] ≡ (named n ∷ []) ∷ []

pub stands_for : (scope : TypedScope) (n : List ℕ) → AllPlain scope → IsKnown scope n → StandsFor scope n
stands_for scope n all (k, h) = by k.data_type refl (plain_known scope n k all h)
  where
    by : (o : Option DataType) → k.data_type ≡ o → IsPlain o → StandsFor scope n
    by None e fine = absurd fine
    by (Some t) e fine = record { data_type = t; is_plain = fine; typed = λ p. rw h (rw e refl); leaves = rw h (rw e refl) }

module _ (is_async : LeafPath → Bool) (scope : TypedScope) (all : AllPlain scope) (n : List ℕ) where
  async_typed : (flow : Flow) (path : Option LeafPath) (o : Option DataType) → IsPlain o
      → async_by is_async (option_map (λ (t : DataType). record { data_type = t; flow = flow; path = path }) o)
      (option_map (λ (r : Reached). r.data_type) (option_map (λ (t : DataType). record { data_type = t; flow = flow; path = path }) o)) ≡ false
  async_typed flow path (Some (uint w)) fine = refl
  async_typed flow path (Some clock) fine = refl
  async_typed flow path o fine = absurd fine

  async_known : (o : Option Known) → known scope n ≡ o
      → async_by is_async (known_reached o) (option_map (λ (r : Reached). r.data_type) (known_reached o)) ≡ false
  async_known None h = refl
  async_known (Some k) h = async_typed k.flow (Some (named k.name ∷ [])) k.data_type (plain_known scope n k all h)

  pub not_async : (p : Place) → is_async_reset is_async scope (plain p n) ≡ false
  not_async p = async_known (known scope n) refl

-- what is known before a place: the output, and a register of a name
pub record IsReady (modules : List ModuleTree) (before : Before) (name : List ℕ) : Type 0 where
  pub all : AllPlain (scope_at modules before)
  pub output : IsKnown (scope_at modules before) (codes "y")
  pub last : IsKnown (scope_at modules before) name

pub ready_behind : (modules : List ModuleTree) (before : Before) (old : List ℕ) (n : PlacedName) → IsReady modules before old
    → IsReady modules (with_declaration before n (component.register word_type)) n.name
ready_behind modules before old n ready =
    let d : Declaration = declaration_at before n (component.register word_type) in
    let scope = scope_at modules before in
    let more = known_as modules scope d ∷ [] in
    let grown = sym (typed_more modules [] before.declared d) in
    record {
      all = subst AllPlain grown (all_joined (λ (k : Known). IsPlain k.data_type) scope more ready.all (tt, tt));
      output = subst (λ (sc : TypedScope). IsKnown sc (codes "y")) grown (ready.output.0, known_front scope more (codes "y") ready.output.0 ready.output.1);
      last = known_each modules [] (before.declared ++ d ∷ []) d (in_right before.declared (d ∷ []) d (inl refl));
    }
