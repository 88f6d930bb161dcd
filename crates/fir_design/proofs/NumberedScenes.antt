-- The scenes of a circuit by the numbers of their modules.
use Rattle.std.proofs.Common.{◌≡◌, ℕ, suc, ◌+◌, List, [], ◌∷◌, map, slice_get, Bool, true, false, if◌then◌else◌, Option, Some, None, option_map, unwrap_or, refl, sym, ap, ◌∙◌, subst, map-id, arith}
use Rattle.std.specs.Str.{bytes_eq}
use Rattle.std.proofs.lemmas.Option.{same_Some, none-some, slice_get-map, unwrap_or-slice_get}
use Rattle.std.proofs.lemmas.Simd.{map-map}
use Rattle.fir_base.specs.Lists.{In}
use Rattle.fir_base.proofs.Elements.{beside}
use Rattle.fir_base.proofs.Members.{in_map}
use Rattle.fir_ast.specs.Circuits.{ModuleTree, CircuitTree}
use Rattle.fir_meaning.specs.ComponentTypes.{find_module}
use Rattle.fir_meaning.specs.Mentions.{module_names}
use Rattle.fir_meaning.specs.ResetJoins.{numbered_module}
use Rattle.fir_meaning.specs.SizedDeclarations.{Numbering, NumberedModule, behind_module, modules_from, first_numbers, numbered_modules}
use Rattle.fir_names.specs.working.ModuleOrder.{find_number}
use Rattle.fir_meaning.specs.working.Designs.{empty_module, module_of}
use Rattle.fir_meaning.specs.working.LeafModules.{LeafModule}
use Rattle.fir_meaning.specs.ModuleScenes.{Scene}
use Rattle.fir_meaning.specs.working.LeafedModules.{leafed_module}
use Rattle.fir_leaf.proofs.DeclaredLeaves.{IsOwn, own_module}
use Rattle.fir_meaning.specs.Elaborated.{AreScenes}
use Rattle.fir_meaning.specs.working.Elaborated.{views}

-- the first module of a name: which it is, by its number, and what number the name has
pub record IsNumbered (modules : List ModuleTree) (name : List ℕ) (from : ℕ) (child : ℕ × ModuleTree) : Type 0 where
  pub found : find_module modules name ≡ Some child.1
  pub behind : ℕ
  pub there : slice_get modules behind ≡ Some child.1
  pub called : find_number (map (λ (m : ModuleTree). m.named) modules) name ≡ Some behind
  pub number : from + behind ≡ child.0

is_numbered : (from : ℕ) (ms : List ModuleTree) (name : List ℕ) (child : ℕ × ModuleTree) → numbered_module from ms name ≡ Some child
    → IsNumbered ms name from child
is_numbered from [] name child e = absurd (none-some child e)
is_numbered from (m ∷ ms) name child e = by (bytes_eq m.named.name name) refl e (is_numbered (suc from) ms name child)
  where
    by : (b : Bool) → bytes_eq m.named.name name ≡ b → (if b then Some (from, m) else numbered_module (suc from) ms name) ≡ Some child
        → (numbered_module (suc from) ms name ≡ Some child → IsNumbered ms name (suc from) child) → IsNumbered (m ∷ ms) name from child
    by true t e rest =
        let same : (from, m) ≡ child = same_Some (from, m) child e in
        let here : m ≡ child.1 = ap (λ (x : ℕ × ModuleTree). x.1) same in
        let first : from ≡ child.0 = ap (λ (x : ℕ × ModuleTree). x.0) same in
        record { found = rw (t, here) refl; behind = 0; there = ap Some here; called = rw t refl; number = omega (arith, first) }
    by false t e rest =
        let r = rest e in
        let next : r.behind + 1 ≡ suc r.behind = omega arith in
        record {
          found = rw t r.found;
          behind = suc r.behind;
          there = r.there;
          called = rw t (ap (option_map (λ k. k + 1)) r.called ∙ ap Some next);
          number = omega (arith, r.number);
        }

-- a module that is found has the number of its place
pub record IsChild (c : CircuitTree) (name : List ℕ) (number : ℕ) (child : ModuleTree) : Type 0 where
  pub found : find_module c.modules name ≡ Some child
  pub there : slice_get c.modules number ≡ Some child
  pub called : find_number (module_names c) name ≡ Some number

pub child_numbered : (c : CircuitTree) (name : List ℕ) (number : ℕ) (child : ModuleTree)
    → numbered_module 0 c.modules name ≡ Some (number, child)
    → IsChild c name number child
child_numbered c name number child e =
    let r = is_numbered 0 c.modules name (number, child) e in
    let same : r.behind ≡ number = omega (arith, r.number) in
    record { found = r.found; there = ap (slice_get c.modules) (sym same) ∙ r.there; called = r.called ∙ ap Some same }

inside_from : (modules : List ModuleTree) (numbers : Numbering) (ms : List ModuleTree)
    → map (λ (m : NumberedModule). m.inside) (modules_from modules numbers ms) ≡ ms
inside_from modules numbers [] = refl
inside_from modules numbers (m ∷ ms) = ap (λ rest. m ∷ rest) (inside_from modules (behind_module modules numbers m) ms)

abbrev pub inside_of : Scene → ModuleTree
inside_of s = s.own.inside

view_is : (scenes : List Scene) (number : ℕ)
    → module_of (views scenes) number ≡ unwrap_or (option_map leafed_module (slice_get scenes number)) empty_module
view_is scenes number =
    sym (unwrap_or-slice_get (views scenes) number empty_module)
    ∙ ap (λ o. unwrap_or o empty_module) (slice_get-map leafed_module scenes number)

pub view_at : (scenes : List Scene) (number : ℕ) (s : Scene) → slice_get scenes number ≡ Some s
    → module_of (views scenes) number ≡ leafed_module s
view_at scenes number s e = view_is scenes number ∙ ap (λ o. unwrap_or (option_map leafed_module o) empty_module) e

-- what holds of the views, and of a module with nothing in it, holds of each number
pub each_view : (scenes : List Scene) (P : ℕ → LeafModule → Type 0) → ((x : ℕ) → P x empty_module)
    → ((x : ℕ) (s : Scene) → slice_get scenes x ≡ Some s → P x (leafed_module s)) → (x : ℕ) → P x (module_of (views scenes) x)
each_view scenes P none some x = subst (P x) (sym (view_is scenes x)) (by (slice_get scenes x) refl)
  where
    by : (o : Option Scene) → slice_get scenes x ≡ o → P x (unwrap_or (option_map leafed_module o) empty_module)
    by None e = none x
    by (Some s) e = some x s e

module _ (c : CircuitTree) (scenes : List Scene) (are : AreScenes c scenes) where
  insides : map inside_of scenes ≡ c.modules
  insides =
      sym (map-map (λ (m : NumberedModule). m.inside) (λ (s : Scene). s.own) scenes) ∙ ap (map (λ (m : NumberedModule). m.inside)) are
      ∙ inside_from c.modules (first_numbers c.modules) c.modules

  pub scene_own : (s : Scene) → In scenes s → IsOwn c.modules s.own
  scene_own s i = own_module c s.own (subst (λ ms. In ms s.own) are (in_map (λ (x : Scene). x.own) scenes s i))

  pub scene_numbered : (s : Scene) → In scenes s → In (numbered_modules c) s.own
  scene_numbered s i = subst (λ ms. In ms s.own) are (in_map (λ (x : Scene). x.own) scenes s i)

  -- the module of a scene's number
  pub module_there : (number : ℕ) (s : Scene) → slice_get scenes number ≡ Some s → slice_get c.modules number ≡ Some s.own.inside
  module_there number s e =
      ap (λ ms. slice_get ms number) (sym insides) ∙ slice_get-map inside_of scenes number ∙ ap (option_map inside_of) e

  -- and the scene of a module's number
  pub scene_there : (number : ℕ) (m : ModuleTree) → slice_get c.modules number ≡ Some m
      → (s : Scene) × (slice_get scenes number ≡ Some s) × (s.own.inside ≡ m)
  scene_there number m e = beside inside_of (λ (x : ModuleTree). x) scenes c.modules (insides ∙ sym (map-id c.modules)) number m e
