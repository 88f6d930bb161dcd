-- A when runs one of its blocks, and leaves that are declared within whens count none of them.
use Rattle.std.proofs.Common.{◌≡◌, ℕ, ◌≤◌, List, [], ◌∷◌, ◌++◌, length, Bool, true, false, not, if◌then◌else◌, refl, sym, subst, append_assoc, ◌∙◌}
use Rattle.std.proofs.lemmas.List.{append_cancel_left}
use Rattle.fir_base.specs.Lists.{In}
use Rattle.fir_base.proofs.Members.{in_left, in_right}
use Rattle.fir_ast.specs.declared.place.Place.{Place}
use Rattle.fir_ast.specs.Expressions.{Expression}
use Rattle.fir_ast.specs.Statements.{Block, when}
use Rattle.fir_meaning.specs.LeafPaths.{LeafPath, named}
use Rattle.fir_meaning.specs.TypeGroup.{scope_at}
use Rattle.fir_meaning.specs.Visibility.{Before, opened, reopened, behind_block}
use Rattle.fir_meaning.specs.PathStores.{DesignStore}
use Rattle.fir_meaning.specs.ModuleScenes.{Scene}
use Rattle.fir_meaning.specs.TreeValues.{TypesByPath, ValuesByPath}
use Rattle.fir_meaning.specs.SourceDesigns.{InstanceOf, instances_of, instances_of_block}
use Rattle.fir_meaning.specs.SourceFacts.{source_depth}
use Rattle.fir_meaning.specs.SourceStores.{Gifts, below, exec_instances, exec_source, exec_source_all}
use Rattle.fir_source_laws.specs.working.SparedLeaves.{SparedBy, is_one}
use Rattle.fir_source_laws.specs.working.WhenLaws.{InnerLeavesCountNone, InnerLeavesCountNoneOf, WhenRunsOne, WhenRunsOneOf}
use Rattle.fir_source_laws.proofs.InstanceStores.{instance_tells, named_spares}
use Rattle.fir_source_laws.proofs.RunBranches.{AlikeAt, CountAlike, IsBlocked, TellsAt, alike_block, blocked_block, outer_alike, taken_alike, untaken_blocked}
use Rattle.fir_source_laws.proofs.SparedStores.{spared_block}

module _ {V : Type 0} (s : Scene) (holds : TypesByPath) (env : ValuesByPath) (gifts : Gifts V) (path : LeafPath)
    (child : List ℕ → DesignStore V → DesignStore V) (x : LeafPath) where
  here_alike : (one other : List Bool) → CountAlike (source_depth s x) one other → AlikeAt s holds env gifts path child (path ++ x) one other
  here_alike one other h y same = subst (λ z. CountAlike (source_depth s z) one other) (sym (append_cancel_left path y x same)) h

-- with any function for what the instances store
abbrev RunsOne : Type 0 → Type 0
RunsOne V =
    (s : Scene) (holds : TypesByPath) (env : ValuesByPath) (gifts : Gifts V) (path : LeafPath) (child : List ℕ → DesignStore V → DesignStore V)
    (before : Before) (p : Place) (c : Expression) (a b : Block) (taken : List Bool) (store : DesignStore V) (x : LeafPath)
    → source_depth s x ≤ length taken
    → ((i : InstanceOf) → In (instances_of (when p c a b)) i → SparedBy child (path ++ x) i.named.name)
    → exec_source s holds env gifts path child before (when p c a b) taken store (path ++ x)
    ≡ (if is_one holds env (scope_at s.own.modules before) c
    then exec_source_all s holds env gifts path child (opened before) a taken store (path ++ x)
    else exec_source_all s holds env gifts path child (reopened before (behind_block (opened before) a)) b taken store (path ++ x))

runs_one : {V : Type 0} → RunsOne V
runs_one {V} s holds env gifts path child before p c a b taken store x outer spared = by (is_one holds env (scope_at s.own.modules before) c)
  where
    alike : AlikeAt s holds env gifts path child (path ++ x) (taken ++ true ∷ []) taken
    alike = here_alike s holds env gifts path child x (taken ++ true ∷ []) taken (taken_alike (source_depth s x) taken outer)

    blocked : IsBlocked (source_depth s x) (taken ++ false ∷ [])
    blocked = untaken_blocked (source_depth s x) taken outer

    in_a : (i : InstanceOf) → In (instances_of_block a) i → SparedBy child (path ++ x) i.named.name
    in_a i m = spared i (in_left (instances_of_block a) (instances_of_block b) i m)

    in_b : (i : InstanceOf) → In (instances_of_block b) i → SparedBy child (path ++ x) i.named.name
    in_b i m = spared i (in_right (instances_of_block a) (instances_of_block b) i m)

    tells : (i : InstanceOf) → SparedBy child (path ++ x) i.named.name → TellsAt s holds env gifts path child (path ++ x) i.named.name
    tells i same one other e = same one ∙ e ∙ sym (same other)

    by : (high : Bool)
        → exec_source_all s holds env gifts path child (reopened before (behind_block (opened before) a)) b (taken ++ not high ∷ [])
        (exec_source_all s holds env gifts path child (opened before) a (taken ++ high ∷ []) store) (path ++ x)
        ≡ (if high
        then exec_source_all s holds env gifts path child (opened before) a taken store (path ++ x)
        else exec_source_all s holds env gifts path child (reopened before (behind_block (opened before) a)) b taken store (path ++ x))
    by true =
        spared_block s holds env gifts path child (path ++ x) b (reopened before (behind_block (opened before) a)) (taken ++ false ∷ [])
        (exec_source_all s holds env gifts path child (opened before) a (taken ++ true ∷ []) store)
        (blocked_block s holds env path child x b (reopened before (behind_block (opened before) a)) (taken ++ false ∷ []) blocked in_b)
        ∙ alike_block s holds env gifts path child (path ++ x) a (opened before) (taken ++ true ∷ []) taken store store alike refl (λ i m. tells i (in_a i m))
    by false =
        alike_block s holds env gifts path child (path ++ x) b (reopened before (behind_block (opened before) a)) (taken ++ true ∷ []) taken
        (exec_source_all s holds env gifts path child (opened before) a (taken ++ false ∷ []) store) store alike
        (spared_block s holds env gifts path child (path ++ x) a (opened before) (taken ++ false ∷ []) store
        (blocked_block s holds env path child x a (opened before) (taken ++ false ∷ []) blocked in_a))
        (λ i m. tells i (in_b i m))

runs_one_in : {V : Type 0} → WhenRunsOneOf V
runs_one_in s holds env gifts path is before p c a b taken store x outer apart =
    runs_one s (below path holds) (below path env) (gifts path) path (exec_instances holds env gifts path is) before p c a b taken store x outer
    (λ i m other.
    named_spares holds env gifts (path ++ x) path i.named.name other
    (λ h. apart i m (h.0, append_cancel_left path x (named i.named.name ∷ h.0) (h.1 ∙ append_assoc path (named i.named.name ∷ []) h.0))) is)

pub when_runs_one : WhenRunsOne
when_runs_one = (runs_one_in, runs_one_in)

inner_none : {V : Type 0} → InnerLeavesCountNoneOf V
inner_none s holds env gifts path is before b outer other inner store x within as_many =
    alike_block s (below path holds) (below path env) (gifts path) path (exec_instances holds env gifts path is) (path ++ x) b before
    (outer ++ inner) (other ++ inner) store store
    (here_alike s (below path holds) (below path env) (gifts path) path (exec_instances holds env gifts path is) x (outer ++ inner) (other ++ inner)
    (outer_alike (source_depth s x) outer other inner within as_many)) refl
    (λ i m one two e. instance_tells holds env gifts (path ++ x) path is i.named.name one two e)

pub inner_leaves_count_none : InnerLeavesCountNone
inner_leaves_count_none = (inner_none, inner_none)
