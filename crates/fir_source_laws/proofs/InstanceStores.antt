-- What the statements of an instance store, and where.
use Rattle.std.proofs.Common.{◌≡◌, ℕ, List, [], ◌∷◌, ◌++◌, Bool, true, false, if◌then◌else◌, Option, Some, None, refl, sym, subst}
use Rattle.std.specs.Str.{bytes_eq}
use Rattle.fir_base.proofs.SameNames.{name_is}
use Rattle.fir_ast.specs.Statements.{Statement, wire, register, node, instance, memory, when, connect, partial_connect, invalid, skip, Block, done, then}
use Rattle.fir_meaning.specs.LeafPaths.{LeafPath, named}
use Rattle.fir_meaning.specs.TypeGroup.{scope_at}
use Rattle.fir_meaning.specs.Visibility.{Before, behind, behind_block, opened, reopened}
use Rattle.fir_meaning.specs.PathStores.{DesignStore}
use Rattle.fir_meaning.specs.ModuleScenes.{Scene, behind_all_ports}
use Rattle.fir_meaning.specs.TreeValues.{TypesByPath, ValuesByPath, aim_of, leaf_where}
use Rattle.fir_meaning.specs.SourceDesigns.{Instances, SourceDesign, held, made_of, no_instances}
use Rattle.fir_meaning.specs.SourceStores.{Gifts, below, exec_design, exec_instances}
use Rattle.fir_source_laws.specs.working.InstanceLaws.{InstancesCountNoWhen, InstancesCountNoWhenOf, InstancesStoreBelow, InstancesStoreBelowOf, InstancesTellByLeaf, InstancesTellByLeafOf, design_named}
use Rattle.fir_source_laws.specs.working.TreeStatements.{IsBelow}
use Rattle.fir_source_laws.specs.working.SparedLeaves.{Spares, SparesAll, SparesAt, SparedBy, driven}
use Rattle.fir_source_laws.proofs.OwnPaths.{below_joined, either_way}
use Rattle.fir_source_laws.proofs.RunBranches.{alike_block}
use Rattle.fir_source_laws.proofs.SparedStores.{spared_block}

-- the statements of a module spare what is not below its path
module _ {V : Type 0} (s : Scene) (holds : TypesByPath) (env : ValuesByPath) (path : LeafPath) (child : List ℕ → DesignStore V → DesignStore V)
    (x : LeafPath) (outside : IsBelow path x → ⊥) (inside : (name : List ℕ) → SparedBy child x name) where
  outside_at : (taken : List Bool) (o : Option LeafPath) → SparesAt s holds env path x taken o
  outside_at taken None = tt
  outside_at taken (Some y) = λ same. absurd (outside (y, sym same))

  mutual
    outside_statement : (y : Statement) (before : Before) (taken : List Bool) → Spares s holds env path x (SparedBy child x) before y taken
    outside_statement (connect p sink e) before taken = λ pair m. outside_at taken (driven holds env (scope_at s.own.modules before) sink e pair)
    outside_statement (partial_connect p sink e) before taken = λ pair m. outside_at taken (driven holds env (scope_at s.own.modules before) sink e pair)
    outside_statement (invalid p sink) before taken =
        λ l m may. outside_at taken (leaf_where (aim_of (scope_at s.own.modules before) holds env sink).at l.path)
    outside_statement (when p c a b) before taken = (
      outside_block a (opened before) _,
      outside_block b (reopened before (behind_block (opened before) a)) _,
    )
    outside_statement (instance p n other) before taken = inside n.name
    outside_statement (wire p n begins t) before taken = tt
    outside_statement (register p n begins t c r) before taken = tt
    outside_statement (node p n e) before taken = tt
    outside_statement (memory p n parts) before taken = tt
    outside_statement (skip p) before taken = tt

    pub outside_block : (b : Block) (before : Before) (taken : List Bool) → SparesAll s holds env path x (SparedBy child x) before b taken
    outside_block done before taken = tt
    outside_block ((then) y b) before taken = (outside_statement y before taken, outside_block b (behind before y) taken)

module _ {V : Type 0} (holds : TypesByPath) (env : ValuesByPath) (gifts : LeafPath → Gifts V) (x : LeafPath) where
  mutual
    pub design_spares : (at : LeafPath) (d : SourceDesign) (store : DesignStore V) → (IsBelow at x → ⊥)
        → exec_design holds env gifts at d store x ≡ store x
    design_spares at (made_of s is) store outside =
        spared_block s (below at holds) (below at env) (gifts at) at (exec_instances holds env gifts at is) x s.own.inside.body
        (behind_all_ports s.own.inside) [] store
        (outside_block s (below at holds) (below at env) at (exec_instances holds env gifts at is) x outside
        (λ name other. instance_spares at is name other outside) s.own.inside.body (behind_all_ports s.own.inside) [])

    instance_spares : (at : LeafPath) (is : Instances) (name : List ℕ) (store : DesignStore V) → (IsBelow at x → ⊥)
        → exec_instances holds env gifts at is name store x ≡ store x
    instance_spares at no_instances name store outside = refl
    instance_spares at (held y d rest) name store outside =
        either_way (λ (after : DesignStore V). after x ≡ store x) (bytes_eq y name) (exec_design holds env gifts (at ++ named y ∷ []) d store)
        (exec_instances holds env gifts at rest name store)
        (design_spares (at ++ named y ∷ []) d store (λ h. outside (below_joined at (named y ∷ []) x h)))
        (instance_spares at rest name store outside)

  -- the instance of a name stores below that name
  module _ (at : LeafPath) (name : List ℕ) (store : DesignStore V) (outside : IsBelow (at ++ named name ∷ []) x → ⊥) where
    one_spares : (y : List ℕ) (d : SourceDesign) (rest : Instances) (is_so : Bool) → bytes_eq y name ≡ is_so
        → exec_instances holds env gifts at rest name store x ≡ store x
        → (if is_so then exec_design holds env gifts (at ++ named y ∷ []) d store else exec_instances holds env gifts at rest name store) x ≡ store x
    one_spares y d rest false t further = further
    one_spares y d rest true t further =
        design_spares (at ++ named y ∷ []) d store (λ h. outside (subst (λ n. IsBelow (at ++ named n ∷ []) x) (name_is y name t) h))

    pub named_spares : (is : Instances) → exec_instances holds env gifts at is name store x ≡ store x
    named_spares no_instances = refl
    named_spares (held y d rest) = one_spares y d rest (bytes_eq y name) refl (named_spares rest)

store_below : {V : Type 0} → InstancesStoreBelowOf V
store_below holds env gifts at store x = (
  λ d outside. design_spares holds env gifts x at d store outside,
  λ is name outside. named_spares holds env gifts x at name store outside is,
)

pub instances_store_below : InstancesStoreBelow
instances_store_below = (store_below, store_below)

module _ {V : Type 0} (holds : TypesByPath) (env : ValuesByPath) (gifts : LeafPath → Gifts V) (path : LeafPath) (name : List ℕ) (d : SourceDesign)
    (store : DesignStore V) where
  one_of : (is_so : Bool) (x : List ℕ) (e : SourceDesign) (rest : Instances) → bytes_eq x name ≡ is_so
      → (design_named rest name ≡ Some d → exec_instances holds env gifts path rest name store ≡ exec_design holds env gifts (path ++ named name ∷ []) d store)
      → (if is_so then Some e else design_named rest name) ≡ Some d
      → (if is_so then exec_design holds env gifts (path ++ named x ∷ []) e store else exec_instances holds env gifts path rest name store)
      ≡ exec_design holds env gifts (path ++ named name ∷ []) d store
  one_of true x e rest t further h =
      let same : x ≡ name = name_is x name t in
      let one : e ≡ d = cc in
      rw (same, one) refl
  one_of false x e rest t further h = further h

  named_runs : (is : Instances) → design_named is name ≡ Some d
      → exec_instances holds env gifts path is name store ≡ exec_design holds env gifts (path ++ named name ∷ []) d store
  named_runs no_instances h = absurd (cc)
  named_runs (held x e rest) h = one_of (bytes_eq x name) x e rest refl (named_runs rest) h

count_no_when : {V : Type 0} → InstancesCountNoWhenOf V
count_no_when s holds env gifts path is before p n other taken store d found = named_runs holds env gifts path n.name d store is found

pub instances_count_no_when : InstancesCountNoWhen
instances_count_no_when = (count_no_when, count_no_when)

-- what is stored at a leaf is told by what was stored there
module _ {V : Type 0} (holds : TypesByPath) (env : ValuesByPath) (gifts : LeafPath → Gifts V) (x : LeafPath) where
  both_ways : (b : Bool) (p q r t : DesignStore V) → p x ≡ r x → q x ≡ t x → (if b then p else q) x ≡ (if b then r else t) x
  both_ways true p q r t h k = h
  both_ways false p q r t h k = k

  mutual
    design_tells : (at : LeafPath) (d : SourceDesign) (one other : DesignStore V) → one x ≡ other x
        → exec_design holds env gifts at d one x ≡ exec_design holds env gifts at d other x
    design_tells at (made_of s is) one other same =
        alike_block s (below at holds) (below at env) (gifts at) at (exec_instances holds env gifts at is) x s.own.inside.body
        (behind_all_ports s.own.inside) [] [] one other (λ y e. record { alike = λ more. refl }) same
        (λ i m a b e. instance_tells at is i.named.name a b e)

    pub instance_tells : (at : LeafPath) (is : Instances) (name : List ℕ) (one other : DesignStore V) → one x ≡ other x
        → exec_instances holds env gifts at is name one x ≡ exec_instances holds env gifts at is name other x
    instance_tells at no_instances name one other same = same
    instance_tells at (held y d rest) name one other same =
        both_ways (bytes_eq y name) (exec_design holds env gifts (at ++ named y ∷ []) d one) (exec_instances holds env gifts at rest name one)
        (exec_design holds env gifts (at ++ named y ∷ []) d other) (exec_instances holds env gifts at rest name other)
        (design_tells (at ++ named y ∷ []) d one other same) (instance_tells at rest name one other same)

tell_by_leaf : {V : Type 0} → InstancesTellByLeafOf V
tell_by_leaf holds env gifts at = (
  λ d one other x same. design_tells holds env gifts x at d one other same,
  λ is name one other x same. instance_tells holds env gifts x at is name one other same,
)

pub instances_tell_by_leaf : InstancesTellByLeaf
instances_tell_by_leaf = (tell_by_leaf, tell_by_leaf)
