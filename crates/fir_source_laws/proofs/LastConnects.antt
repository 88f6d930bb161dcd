-- The last connect that drives a leaf gives what is stored there.
use Rattle.std.proofs.Common.{◌≡◌, ℕ, zero, suc, ◌≤◌, List, [], ◌∷◌, ◌++◌, length, Bool, true, refl, sym, ap, ◌∙◌, arith}
use Rattle.fir_ast.specs.declared.place.Place.{Place}
use Rattle.fir_ast.specs.Types.{DataType}
use Rattle.fir_ast.specs.Expressions.{Expression}
use Rattle.fir_ast.specs.Statements.{SinkReference, Statement, connect, partial_connect, Block, done, then}
use Rattle.fir_meaning.specs.ConnectPairs.{Pair, pairs, partial_pairs}
use Rattle.fir_meaning.specs.LeafPaths.{LeafPath}
use Rattle.fir_meaning.specs.TypeGroup.{scope_at}
use Rattle.fir_meaning.specs.Visibility.{Before, behind, behind_block}
use Rattle.fir_meaning.specs.PathStores.{DesignStore}
use Rattle.fir_meaning.specs.CountedWhens.{counts}
use Rattle.fir_meaning.specs.ModuleScenes.{Scene}
use Rattle.fir_meaning.specs.TreeValues.{TypesByPath, ValuesByPath}
use Rattle.fir_meaning.specs.SourceFacts.{source_depth}
use Rattle.fir_meaning.specs.SourceStores.{Gifts, exec_source, exec_source_all, source_pair, source_pairs}
use Rattle.fir_source_laws.specs.working.ConnectLaws.{LastConnect, LastConnectOf, LastPartialConnect}
use Rattle.fir_source_laws.specs.working.SparedLeaves.{followed, gift, pairs_between}
use Rattle.fir_source_laws.proofs.SparedStores.{kept_at_leaf, pair_kept, pairs_joined, spared_block, spared_pairs}

-- a leaf that is declared within all whens counts none
pub inner_counts : (depth : ℕ) (taken : List Bool) → length taken ≤ depth → counts depth taken ≡ true
inner_counts zero [] h = refl
inner_counts zero (b ∷ bs) h = absurd (omega (arith, h))
inner_counts (suc n) [] h = refl
inner_counts (suc n) (b ∷ bs) h = inner_counts n bs (omega (arith, h))

module _ {V : Type 0} (s : Scene) (holds : TypesByPath) (env : ValuesByPath) (gifts : Gifts V) (path : LeafPath)
    (child : List ℕ → DesignStore V → DesignStore V) where
  pub followed_run : (a b : Block) (before : Before) (taken : List Bool) (store : DesignStore V)
      → exec_source_all s holds env gifts path child before (followed a b) taken store
      ≡ exec_source_all s holds env gifts path child (behind_block before a) b taken
      (exec_source_all s holds env gifts path child before a taken store)
  followed_run done b before taken store = refl
  followed_run ((then) y a) b before taken store =
      followed_run a b (behind before y) taken (exec_source s holds env gifts path child before y taken store)

last_of : {V : Type 0} (statement : Place → SinkReference → Expression → Statement) (pairs_of : DataType → DataType → List Pair)
    → ((s : Scene) (holds : TypesByPath) (env : ValuesByPath) (gifts : Gifts V) (path : LeafPath) (child : List ℕ → DesignStore V → DesignStore V)
    (place : Before) (p : Place) (sink : SinkReference) (e : Expression) (taken : List Bool) (store : DesignStore V)
    → exec_source s holds env gifts path child place (statement p sink e) taken store
    ≡ source_pairs s holds env gifts path child (scope_at s.own.modules place) sink e taken
    (pairs_between holds env pairs_of (scope_at s.own.modules place) sink e) store)
    → LastConnectOf V statement pairs_of
last_of statement pairs_of runs s holds env gifts path child before place earlier later p sink e taken store first rest pair x at_place split drives spared after inner =
    let scope = scope_at s.own.modules place in
    let was = exec_source_all s holds env gifts path child before earlier taken store in
    let front = source_pairs s holds env gifts path child scope sink e taken first was in
    ap (λ run. run (path ++ x)) (followed_run s holds env gifts path child earlier ((then) (statement p sink e) later) before taken store)
    ∙ ap (λ b. exec_source_all s holds env gifts path child b ((then) (statement p sink e) later) taken was (path ++ x)) (sym at_place)
    ∙ spared_block s holds env gifts path child (path ++ x) later (behind place (statement p sink e)) taken
    (exec_source s holds env gifts path child place (statement p sink e) taken was) after
    ∙ ap (λ run. run (path ++ x))
    (runs s holds env gifts path child place p sink e taken was
    ∙ ap (λ ps. source_pairs s holds env gifts path child scope sink e taken ps was) split
    ∙ pairs_joined s holds env gifts path child scope sink e taken first (pair ∷ rest) was)
    ∙ spared_pairs s holds env gifts path child (path ++ x) scope sink e taken rest
    (source_pair s holds env gifts path child scope sink e taken pair front) spared
    ∙ ap (λ run. run (path ++ x)) (pair_kept s holds env gifts path child scope sink e taken pair front)
    ∙ rw drives
    (kept_at_leaf s holds env gifts path child x (gift gifts scope sink e pair) taken front (inner_counts (source_depth s x) taken inner))

pub last_connect_of : {V : Type 0} → LastConnectOf V connect pairs
last_connect_of = last_of connect pairs (λ s holds env gifts path child place p sink e taken store. refl)

last_partial_of : {V : Type 0} → LastConnectOf V partial_connect partial_pairs
last_partial_of = last_of partial_connect partial_pairs (λ s holds env gifts path child place p sink e taken store. refl)

pub last_connect : LastConnect
last_connect = (last_connect_of, last_connect_of)

pub last_partial_connect : LastPartialConnect
last_partial_connect = (last_partial_of, last_partial_of)
