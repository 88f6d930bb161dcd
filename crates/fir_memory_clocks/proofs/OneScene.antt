-- A module of a circuit has one scene at most: its widths are the least, and the circuit says which of its Resets are asynchronous. So its modules have one
-- list of scenes, and the main module has one scene.
use Rattle.std.proofs.Common.{◌≡◌, ℕ, suc, List, [], ◌∷◌, map, slice_get, Some, refl, sym, ap, ap₂, ◌∙◌}
use Rattle.std.proofs.Math.Path.{fun_ext}
use Rattle.std.proofs.lemmas.Bool.Decides.{same_from_decides}
use Rattle.std.proofs.lemmas.Option.{same_Some}
use Rattle.fir_ast.specs.Circuits.{CircuitTree}
use Rattle.fir_meaning.specs.Elaborated.{AreScenes, HasMain}
use Rattle.fir_meaning.specs.LeafPaths.{LeafPath}
use Rattle.fir_meaning.specs.ModuleScenes.{Scene}
use Rattle.fir_meaning.specs.ResetJoins.{numbered_module}
use Rattle.fir_meaning.specs.Scenes.{IsSceneOf}
use Rattle.fir_meaning.specs.SourceDesigns.{scene_where}
use Rattle.fir_meaning.proofs.InferredCircuits.{same_widths}

pub one_scene : (c : CircuitTree) (k : ℕ) (s t : Scene) → IsSceneOf c k s → IsSceneOf c k t → s ≡ t
one_scene c k s t p q =
    let own : s.own ≡ t.own = same_Some s.own t.own (sym p.own ∙ q.own) in
    let widths : s.widths ≡ t.widths = same_widths c s.widths t.widths p.widths q.widths in
    let resets : s.is_async ≡ t.is_async =
    fun_ext (λ (x : LeafPath). same_from_decides (s.is_async x) (t.is_async x) (p.resets x) (q.resets x)) in
    λ i. record { own = own i; widths = widths i; is_async = resets i }

-- scenes of as many modules of which something holds by their numbers, that holds of one at most
one_each : (P : ℕ → Scene → Type 0) → ((k : ℕ) (s t : Scene) → P k s → P k t → s ≡ t) → (xs ys : List Scene)
    → map (λ (s : Scene). s.own) xs ≡ map (λ (s : Scene). s.own) ys → ((k : ℕ) (s : Scene) → slice_get xs k ≡ Some s → P k s)
    → ((k : ℕ) (s : Scene) → slice_get ys k ≡ Some s → P k s) → xs ≡ ys
one_each P one [] [] e p q = refl
one_each P one [] (y ∷ ys) e p q = cc
one_each P one (x ∷ xs) [] e p q = cc
one_each P one (x ∷ xs) (y ∷ ys) e p q =
    let rest : map (λ (s : Scene). s.own) xs ≡ map (λ (s : Scene). s.own) ys = cc in
    ap₂ (λ z zs. z ∷ zs) (one 0 x y (p 0 x refl) (q 0 y refl))
    (one_each (λ k s. P (suc k) s) (λ k s t. one (suc k) s t) xs ys rest (λ k s. p (suc k) s) (λ k s. q (suc k) s))

pub scenes_once : (c : CircuitTree) (xs ys : List Scene) → AreScenes c xs → AreScenes c ys → ((k : ℕ) (s : Scene) → slice_get xs k ≡ Some s → IsSceneOf c k s)
    → ((k : ℕ) (s : Scene) → slice_get ys k ≡ Some s → IsSceneOf c k s) → xs ≡ ys
scenes_once c xs ys p q each others = one_each (IsSceneOf c) (one_scene c) xs ys (p ∙ sym q) each others

pub one_list : (c : CircuitTree) (xs ys : List Scene) (x y : Scene) → HasMain c xs x → HasMain c ys y → xs ≡ ys
one_list c xs ys x y p q = scenes_once c xs ys p.are q.are p.each q.each

pub one_main : (c : CircuitTree) (xs ys : List Scene) (x y : Scene) → HasMain c xs x → HasMain c ys y → x ≡ y
one_main c xs ys x y p q =
    same_Some x y
    (sym p.is_main ∙ ap (λ zs. scene_where zs (numbered_module 0 c.modules c.named.name)) (one_list c xs ys x y p q) ∙ q.is_main)
