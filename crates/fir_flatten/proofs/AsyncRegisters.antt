-- A register of a flat net has a reset exactly where that of the tree has an asynchronous one.
use Rattle.std.proofs.Common.{◌≡◌, ◌↔◌, true, Option, Some, None, refl, sym, ◌∙◌}
use Rattle.std.specs.Prelude.{IsSome, IsTrue}
use Rattle.fir_meaning.specs.LeafPaths.{LeafPath}
use Rattle.fir_meaning.specs.SourceRoles.{SourceReset, SourceRole}
use Rattle.fir_meaning.specs.SourceRoles as source
use Rattle.fir_meaning.specs.working.LeafCircuits.{LeafCircuit}
use Rattle.fir_meaning.specs.working.LeafModules.{LeafReset, register}
use Rattle.fir_meaning.specs.working.Terms.{Term}
use Rattle.fir_design.proofs.InStep.{MaySameResetBelow, SameRoleBelow}
use Rattle.fir_net.specs.declared.leaf.Reset.{Reset}
use Rattle.fir_flatten.specs.BlockWords.{is_async, is_reset_at_once}
use Rattle.fir_flatten.specs.working.FlatDesigns.{is_some}
use Rattle.fir_flatten.proofs.LeafRoles.{is_reset_async}

pub some_there : {A : Type 0} → (o : Option A) → IsSome o → is_some o ≡ true
some_there (Some x) some = refl
some_there None some = cc

pub there_some : {A : Type 0} → (o : Option A) → is_some o ≡ true → IsSome o
there_some (Some x) there = refl
there_some None there = cc

-- in the circuit as in the tree
async_alike : (c : LeafCircuit) (at : LeafPath) (r : Option LeafReset) (q : Option SourceReset) (path : LeafPath) → MaySameResetBelow c at r q path
    → is_reset_async r ≡ is_async q
async_alike c at None None path same = refl
async_alike c at None (Some q) path same = absurd same
async_alike c at (Some r) None path same = absurd same
async_alike c at (Some r) (Some q) path same = same.is_async

pub reset_alike : (c : LeafCircuit) (at : LeafPath) (clock : Term) (r : Option LeafReset) (own : Option Reset) → is_some own ≡ is_reset_async r
    → (q : SourceRole) → SameRoleBelow c at (register clock r) q → IsSome own ↔ IsTrue (is_reset_at_once q)
reset_alike c at clock r own there (source.register scope e q path) same =
    let both : is_some own ≡ is_async q = there ∙ async_alike c at r q path same.1 in
    (λ some. sym both ∙ some_there own some, λ once. there_some own (both ∙ once))
reset_alike c at clock r own there q same = absurd same
