-- What connects leave in the statements of a whole module, and in the whole tree.
use Rattle.std.proofs.Common.{◌≡◌, ℕ, List, [], ◌∷◌, ◌++◌, Bool, true, false, if◌then◌else◌, Some, None, unwrap_or, refl, ap, ◌∙◌, arith}
use Rattle.std.specs.Str.{bytes_eq}
use Rattle.std.proofs.lemmas.List.{append-nil}
use Rattle.fir_meaning.specs.LeafPaths.{LeafPath, named}
use Rattle.fir_meaning.specs.TypeGroup.{scope_at}
use Rattle.fir_meaning.specs.TreeValues.{TypesByPath, ValuesByPath, aim_of, leaf_where}
use Rattle.fir_meaning.specs.PathStores.{DesignStore, nothing_kept}
use Rattle.fir_meaning.specs.ModuleScenes.{behind_all_ports}
use Rattle.fir_meaning.specs.SourceDesigns.{Instances, SourceDesign, held, made_of, no_instances}
use Rattle.fir_meaning.specs.SourceStores.{Gifts, below, exec_design, exec_instances, exec_source_all, number_gifts}
use Rattle.fir_meaning.specs.SourceValues.{number_stored, source_holds}
use Rattle.fir_source_laws.specs.working.ConnectLaws.{LastGroundConnect, SparedInTrees, SparedInTreesOf, SparedStays, SparedStaysOf, UndrivenKeeps}
use Rattle.fir_source_laws.specs.working.SparedLeaves.{InstanceSpares, SparedBy, TreeSpares, chosen_of}
use Rattle.fir_source_laws.proofs.LastConnects.{last_connect_of}
use Rattle.fir_source_laws.proofs.SparedStores.{spared_block, spares_through}

stays_of : {V : Type 0} → SparedStaysOf V
stays_of s holds env gifts path child before b taken store x h = spared_block s holds env gifts path child x b before taken store h

pub spared_stays : SparedStays
spared_stays = (stays_of, stays_of)

module _ {V : Type 0} (holds : TypesByPath) (env : ValuesByPath) (gifts : LeafPath → Gifts V) (x : LeafPath) where
  chosen_spared : (b : Bool) (A B : Type 0) (p q store : DesignStore V) → chosen_of b A B → (A → p x ≡ store x) → (B → q x ≡ store x)
      → (if b then p else q) x ≡ store x
  chosen_spared true A B p q store h one other = one h
  chosen_spared false A B p q store h one other = other h

  mutual
    tree_spared : (at : LeafPath) (d : SourceDesign) (store : DesignStore V) → TreeSpares holds env x at d → exec_design holds env gifts at d store x ≡ store x
    tree_spared at (made_of s is) store h =
        spared_block s (below at holds) (below at env) (gifts at) at (exec_instances holds env gifts at is) x s.own.inside.body
        (behind_all_ports s.own.inside) [] store
        (spares_through s (below at holds) (below at env) at x (InstanceSpares holds env x at is) (SparedBy (exec_instances holds env gifts at is) x)
        (λ name spares other. instance_spared at is name other spares) s.own.inside.body (behind_all_ports s.own.inside) [] h)

    pub instance_spared : (at : LeafPath) (is : Instances) (name : List ℕ) (store : DesignStore V) → InstanceSpares holds env x at is name
        → exec_instances holds env gifts at is name store x ≡ store x
    instance_spared at no_instances name store h = refl
    instance_spared at (held y d rest) name store h =
        chosen_spared (bytes_eq y name) (TreeSpares holds env x (at ++ named y ∷ []) d) (InstanceSpares holds env x at rest name)
        (exec_design holds env gifts (at ++ named y ∷ []) d store) (exec_instances holds env gifts at rest name store) store h
        (λ one. tree_spared (at ++ named y ∷ []) d store one) (λ other. instance_spared at rest name store other)

spared_in : {V : Type 0} → SparedInTreesOf V
spared_in holds env gifts at d store x h = tree_spared holds env gifts x at d store h

pub spared_in_trees : SparedInTrees
spared_in_trees = (spared_in, spared_in)

pub undriven_keeps : UndrivenKeeps
undriven_keeps t state edges env x h =
    let holds = source_holds t in
    let none : number_stored t env x ≡ None =
    tree_spared holds env.numbers (number_gifts holds env.numbers) x [] t nothing_kept h in
    (none, ap (λ o. unwrap_or o (env.numbers x)) none)

pub last_ground_connect : LastGroundConnect
last_ground_connect holds env path s is store place earlier later p sink e t u x body at_place ground at spared =
    let scope = scope_at s.own.modules place in
    let child = exec_instances holds env (number_gifts holds env) path is in
    let there : leaf_where (aim_of scope (below path holds) (below path env) sink).at [] ≡ Some x = rw at (ap Some (append-nil x)) in
    ap (λ b. exec_source_all s (below path holds) (below path env) (number_gifts holds env path) path child (behind_all_ports s.own.inside) b [] store
    (path ++ x)) body
    ∙ last_connect_of s (below path holds) (below path env) (number_gifts holds env path) path child (behind_all_ports s.own.inside) place earlier later
    p sink e [] store [] [] _ x at_place ground there (λ q m. absurd m)
    (spares_through s (below path holds) (below path env) path (path ++ x) (InstanceSpares holds env (path ++ x) path is) (SparedBy child (path ++ x))
    (λ name h other. instance_spared holds env (number_gifts holds env) (path ++ x) path is name other h) later place [] spared)
    (omega arith)
