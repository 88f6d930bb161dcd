-- The walk over statements, one after another.
use Rattle.std.proofs.Common.{◌≡◌, ℕ, ◌+◌, ◌<◌, ◌≤◌, List, [], ◌∷◌, ◌++◌, length, map, take, drop, get_or, refl, sym, ap, ◌∙◌, subst}
use Rattle.std.proofs.lemmas.List.{drop_all, drop_more, map_more, take_all}
use Rattle.fir_meaning.specs.working.LeafBlocks.{LeafStatement, LeafBlock, done, then}
use Rattle.fir_meaning.specs.LeafTypes.{LeafType}
use Rattle.fir_meaning.specs.working.TermValues.{Holds}
use Rattle.fir_leaf.specs.declared.node.Node.{Node as LeafNode}
use Rattle.fir_leaf.specs.declared.statement.Drive.{Drive}
use Rattle.fir_leaf.specs.declared.statement.LeafStmt.{LeafStmt}
use Rattle.fir_leaf.specs.declared.statement.LeafStmt.TheVariants as code
use Rattle.fir_leaf.specs.working.NodeBlocks.{block_in, block_of, statement_in}
use Rattle.fir_leaf_types.specs.working.TypedBlocks.{AreTyped}
use Rattle.fir_driven.specs.working.Covering.{depth_in}
use Rattle.fir_driven.proofs.LeafViews.{drive_view}
use Rattle.fir_net.specs.declared.node.Node.{Node}
use Rattle.fir_connect.specs.working.Drivers.{driver, driver_all}
use Rattle.fir_connect.specs.working.LoweredLaws.{types_of}
use Rattle.fir_connect.specs.working.NetTerms.{NetTerm}
use Rattle.fir_merge.specs.declared.bound.Bound.{Bound}
use Rattle.fir_merge.specs.working.NodeTerms.{Grows}
use Rattle.fir_drivers.specs.declared.setting.Setting.{Setting}
use Rattle.fir_drivers.specs.working.Slots.{SlotStands}
use Rattle.fir_drivers.specs.working.TargetLists.{StacksBlock, StacksStatement}
use Rattle.fir_drivers.specs.working.Walks.{DrivesLeaves, IsSet, Walks, WalksBlock, WalksStatement}
use Rattle.fir_drivers.proofs.LaterSettings.{set_later}

-- a statement that takes no list
pub drive_walks : (s : Setting) (d : Drive) (k : ℕ) (net new : List Node) (old later : List Bound) (lists : List (List ℕ))
    → DrivesLeaves s (statement_in s.nodes.now (code.Drive d)) net new old later
    → WalksStatement s (statement_in s.nodes.now (code.Drive d)) k net new old later lists lists
drive_walks s d k net new old later lists drives = λ held rest set typed long stacks.
    (subst (λ (z : LeafStatement). StacksStatement s.depths.now z k rest lists) (drive_view s.nodes.now d) stacks, drives held k set typed)

driver_push : (holds : Holds) (depth x : ℕ) (ss : List LeafStatement) (s : LeafStatement) (k : ℕ) (old : NetTerm)
    → driver_all holds depth x (block_of (ss ++ s ∷ [])) k old ≡ driver holds depth x s k (driver_all holds depth x (block_of ss) k old)
driver_push holds depth x [] s k old = refl
driver_push holds depth x (z ∷ ss) s k old = driver_push holds depth x ss s k (driver holds depth x z k old)

driver_more : (holds : Holds) (depth x : ℕ) (nodes : List LeafNode) (ss : List LeafStmt) (i : ℕ) (s : LeafStmt) (k : ℕ) (old : NetTerm) → i < length ss
    → s ≡ get_or ss i s
    → driver holds depth x (statement_in nodes s) k (driver_all holds depth x (block_in nodes (take i ss)) k old)
    ≡ driver_all holds depth x (block_in nodes (take (i + 1) ss)) k old
driver_more holds depth x nodes ss i s k old lt is =
    let so_far = driver_all holds depth x (block_in nodes (take i ss)) k old in
    ap (λ z. driver holds depth x (statement_in nodes z) k so_far) is
    ∙ sym (driver_push holds depth x (map (statement_in nodes) (take i ss)) (statement_in nodes (get_or ss i s)) k old)
    ∙ sym (ap (λ b. driver_all holds depth x (block_of b) k old) (map_more (statement_in nodes) ss i s lt))

-- the statements so far are walked, and the others are typed and have the lists that are left
pub record WalkedSoFar (held : ℕ → LeafType) (s : Setting) (body : List LeafStmt) (i depth : ℕ) (rest : List (List ℕ)) (net_old net : List Node)
    (old slots : List Bound) (lists : List (List ℕ)) : Type 0 where
  pub typed : AreTyped held (block_in s.nodes.now (drop i body))
  pub stacks : StacksBlock s.depths.now (block_in s.nodes.now (drop i body)) depth rest lists
  pub walks : Walks (types_of held) net_old net old slots
      (λ y t. driver_all (types_of held) (depth_in s.depths.now y) y (block_in s.nodes.now (take i body)) depth t)

abbrev pub WalksSoFar : Setting → List LeafStmt → ℕ → ℕ → List Node → List Node → List Bound → List Bound → List (List ℕ) → List (List ℕ) → Type 0
WalksSoFar s body i depth net_old net old slots lists_old lists =
    (held : ℕ → LeafType) (rest : List (List ℕ)) → IsSet held s net_old → AreTyped held (block_in s.nodes.now body) → length old ≡ length s.depths.now
    → StacksBlock s.depths.now (block_in s.nodes.now body) depth rest lists_old → WalkedSoFar held s body i depth rest net_old net old slots lists

pub walks_more : (s : Setting) (body : List LeafStmt) (i depth : ℕ) (z : LeafStmt) (net middle new : List Node) (old slots later : List Bound)
    (lists_old lists lists_new : List (List ℕ)) → i < length body → z ≡ get_or body i z → Grows net middle
    → WalksSoFar s body i depth net middle old slots lists_old lists
    → WalksStatement s (statement_in s.nodes.now z) depth middle new slots later lists lists_new
    → WalksSoFar s body (i + 1) depth net new old later lists_old lists_new
walks_more s body i depth z net middle new old slots later lists_old lists lists_new lt is grows walked step = λ held rest set typed long stacks.
    let nodes = s.nodes.now in
    let before = walked held rest set typed long stacks in
    let next : block_in nodes (drop i body) ≡ (then) (statement_in nodes z) (block_in nodes (drop (i + 1) body)) =
    ap (block_in nodes) (drop_more body i z lt) ∙ ap (λ m. (then) (statement_in nodes m) (block_in nodes (drop (i + 1) body))) (sym is) in
    let types = subst (AreTyped held) next before.typed in
    let stacked = subst (λ (b : LeafBlock). StacksBlock s.depths.now b depth rest lists) next before.stacks in
    let walk = step held stacked.0 (set_later held s net middle grows set) types.0 (before.walks.same_length ∙ long) stacked.2 in
    record {
      typed = types.1;
      stacks = subst (λ (l : List (List ℕ)). StacksBlock s.depths.now (block_in nodes (drop (i + 1) body)) depth rest l) (sym walk.0) stacked.1;
      walks = record {
        same_length = walk.1.same_length ∙ before.walks.same_length;
        each = λ x t h.
            subst (SlotStands (types_of held) new later x) (driver_more (types_of held) (depth_in s.depths.now x) x nodes body i z depth t lt is)
            (walk.1.each x _ (before.walks.each x t h));
      };
    }

pub walks_end : (s : Setting) (body : List LeafStmt) (i depth : ℕ) (net new : List Node) (old slots : List Bound) (lists_old lists : List (List ℕ))
    → length body ≤ i → WalksSoFar s body i depth net new old slots lists_old lists
    → WalksBlock s (block_in s.nodes.now body) depth net new old slots lists_old lists
walks_end s body i depth net new old slots lists_old lists le walked = λ held rest set typed long stacks.
    let all = walked held rest set typed long stacks in
    let left : block_in s.nodes.now (drop i body) ≡ done = ap (block_in s.nodes.now) (drop_all i body le) in
    let none = subst (λ (b : LeafBlock). StacksBlock s.depths.now b depth rest lists) left all.stacks in (
      none,
      subst
          (λ (ss : List LeafStmt).
          Walks (types_of held) net new old slots (λ y t. driver_all (types_of held) (depth_in s.depths.now y) y (block_in s.nodes.now ss) depth t))
          (take_all i body le) all.walks,
    )
