-- Modules that each have a scene have a list of scenes, in their order.
use Rattle.std.proofs.Common.{◌≡◌, ℕ, zero, suc, ◌<◌, List, [], ◌∷◌, map, length, Some, refl, ap, subst, sym, ◌∙◌, arith, inl, inr}
use Rattle.std.specs.Prelude.{slice_get}
use Rattle.std.proofs.lemmas.Option.{none-some, same_Some}
use Rattle.fir_base.specs.Lists.{In}
use Rattle.fir_ast.specs.Circuits.{CircuitTree, ModuleTree}
use Rattle.fir_meaning.specs.ModuleScenes.{Scene}
use Rattle.fir_meaning.specs.working.Scenes.{HasScenes}
use Rattle.fir_meaning.specs.Scenes.{IsSceneOf}
use Rattle.fir_meaning.specs.SizedDeclarations.{NumberedModule, Numbering, behind_module, first_numbers, modules_from, numbered_modules}
use Rattle.fir_design.specs.working.CircuitMeanings.{HasAllScenes}

-- scenes of these modules, of which something holds by their numbers
record Collected (ms : List NumberedModule) (P : ℕ → Scene → Type 0) : Type 0 where
  scenes : List Scene
  own : map (λ (s : Scene). s.own) scenes ≡ ms
  each : (k : ℕ) (s : Scene) → slice_get scenes k ≡ Some s → P k s

record Has (ms : List NumberedModule) (P : ℕ → Scene → Type 0) (k : ℕ) : Type 0 where
  scene : Scene
  own : slice_get ms k ≡ Some scene.own
  holds : P k scene

later : (m : NumberedModule) (ms : List NumberedModule) (P : ℕ → Scene → Type 0) → ((k : ℕ) → k < length (m ∷ ms) → Has (m ∷ ms) P k)
    → (k : ℕ) → k < length ms → Has ms (λ i s. P (suc i) s) k
later m ms P f k within = let h = f (suc k) (omega (arith, within)) in record { scene = h.scene; own = h.own; holds = h.holds }

joined : (m : NumberedModule) (ms : List NumberedModule) (P : ℕ → Scene → Type 0) → Has (m ∷ ms) P 0 → Collected ms (λ i s. P (suc i) s) → Collected (m ∷ ms) P
joined m ms P h r = record { scenes = h.scene ∷ r.scenes; own = rw (r.own, sym (same_Some m h.scene.own h.own)) refl; each = by }
  where
    by : (k : ℕ) (s : Scene) → slice_get (h.scene ∷ r.scenes) k ≡ Some s → P k s
    by zero s e = subst (λ t. P 0 t) (same_Some h.scene s e) h.holds
    by (suc k) s e = r.each k s e

collected : (ms : List NumberedModule) (P : ℕ → Scene → Type 0) → ((k : ℕ) → k < length ms → Has ms P k) → Collected ms P
collected [] P f = record { scenes = []; own = refl; each = λ k s e. absurd (none-some s e) }
collected (m ∷ ms) P f = joined m ms P (f 0 (omega arith)) (collected ms (λ i s. P (suc i) s) (later m ms P f))

as_many : (modules : List ModuleTree) (numbers : Numbering) (ms : List ModuleTree) → length (modules_from modules numbers ms) ≡ length ms
as_many modules numbers [] = refl
as_many modules numbers (m ∷ ms) = ap suc (as_many modules (behind_module modules numbers m) ms)

pub all_scenes : (c : CircuitTree) → HasScenes c → HasAllScenes c
all_scenes c has =
    let found = collected (numbered_modules c) (IsSceneOf c) of in
    record { scenes = found.scenes; are = found.own; each = found.each }
  where
    of : (k : ℕ) → k < length (numbered_modules c) → Has (numbered_modules c) (IsSceneOf c) k
    of k within =
        let h = has k (subst (λ n. k < n) (as_many c.modules (first_numbers c.modules) c.modules) within) in
        record { scene = h.0; own = h.1.own; holds = h.1 }

-- the scene of a number
pub record SceneAt (c : CircuitTree) (scenes : List Scene) (k : ℕ) : Type 0 where
  pub scene : Scene
  pub is : slice_get scenes k ≡ Some scene
  pub among : In scenes scene

found_at : (scenes : List Scene) (k : ℕ) → k < length scenes → (s : Scene) × (slice_get scenes k ≡ Some s) × In scenes s
found_at [] k within = absurd (omega (arith, within))
found_at (s ∷ more) zero within = (s, refl, inl refl)
found_at (s ∷ more) (suc k) within = let h = found_at more k (omega (arith, within)) in (h.0, h.1, inr h.2)

own_length : (scenes : List Scene) → length (map (λ (s : Scene). s.own) scenes) ≡ length scenes
own_length [] = refl
own_length (s ∷ more) = ap suc (own_length more)

pub scene_at : (c : CircuitTree) (all : HasAllScenes c) (k : ℕ) → k < length c.modules → SceneAt c all.scenes k
scene_at c all k within =
    let count : length c.modules ≡ length all.scenes =
    sym (as_many c.modules (first_numbers c.modules) c.modules) ∙ sym (ap length all.are) ∙ own_length all.scenes in
    let h = found_at all.scenes k (subst (λ n. k < n) count within) in
    record { scene = h.0; is = h.1; among = h.2 }
