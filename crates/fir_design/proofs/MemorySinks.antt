-- The leaves of a memory's ports that statements drive are sinks, by numbers and by paths.
use Rattle.std.proofs.Common.{◌≡◌, ℕ, zero, suc, ◌+◌, ◌*◌, List, [], ◌∷◌, ◌++◌, map, length, ap, ◌∙◌, arith}
use Rattle.std.proofs.lemmas.List.{map-append}
use Rattle.fir_meaning.specs.LeafPaths.{LeafPath, named}
use Rattle.fir_meaning.specs.working.LeafMemories.{sinks}
use Rattle.fir_meaning.specs.working.LeafModules.{LeafArray, LeafDeclared, Role, sink}
use Rattle.fir_meaning.specs.SourceRoles as tree
use Rattle.fir_meaning.specs.SourceRoles.{SourceRole}
use Rattle.fir_design.proofs.MemoryPortPaths.{behind_field}
use Rattle.fir_design.proofs.RolesInOrder.{SameInOrder, roles_joined}

-- as many as in their parts
pub sinks_joined : (a b : ℕ) → sinks (a + b) ≡ sinks a ++ sinks b
sinks_joined zero b = let none : 0 + b ≡ b = omega arith in ap sinks none
sinks_joined (suc a) b = let one : suc a + b ≡ suc (a + b) = omega arith in ap sinks one ∙ ap (λ rs. sink ∷ rs) (sinks_joined a b)

module _ (leaves : List LeafDeclared) (arrays : List LeafArray) where
  -- the controls of a port
  pub controls_same : (rs : List Role) (ts : List SourceRole) → SameInOrder leaves arrays rs ts
      → SameInOrder leaves arrays (sink ∷ sink ∷ sink ∷ rs) (tree.sink ∷ tree.sink ∷ tree.sink ∷ ts)
  controls_same rs ts h = (tt, (tt, (tt, h)))

  -- a field of data, and two
  field_sinks : (f : LeafPath → SourceRole) (x : List ℕ) (qs : List LeafPath) (d : ℕ) → length qs ≡ d
      → ((q : LeafPath) → f (named x ∷ q) ≡ tree.sink) → SameInOrder leaves arrays (sinks d) (map f (behind_field x qs))
  field_sinks f x [] zero e h = tt
  field_sinks f x [] (suc d) e h = absurd (omega (arith, e))
  field_sinks f x (q ∷ qs) zero e h = absurd (omega (arith, e))
  field_sinks f x (q ∷ qs) (suc d) e h = rw (h q) (tt, field_sinks f x qs d (omega (arith, e)) h)

  pub two_sinks : (f : LeafPath → SourceRole) (x y : List ℕ) (qs : List LeafPath) (d : ℕ) → length qs ≡ d
      → ((q : LeafPath) → f (named x ∷ q) ≡ tree.sink) → ((q : LeafPath) → f (named y ∷ q) ≡ tree.sink)
      → SameInOrder leaves arrays (sinks (2 * d)) (map f (behind_field x qs ++ behind_field y qs))
  two_sinks f x y qs d e h k =
      let twice : 2 * d ≡ d + d = omega arith in
      rw (twice, sinks_joined d d, map-append f (behind_field x qs) (behind_field y qs))
      (roles_joined leaves arrays (sinks d) (sinks d) (map f (behind_field x qs)) (map f (behind_field y qs)) (field_sinks f x qs d e h)
      (field_sinks f y qs d e k))
