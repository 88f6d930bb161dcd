-- Where the leaves of a port of a memory stand, field by field, among the leaves of its module.
use Rattle.std.proofs.Common.{◌≡◌, ℕ, ◌+◌, List, [], ◌∷◌, ◌++◌, length, slice_get, Some, refl, ◌∙◌}
use Rattle.std.specs.Prelude.{codes}
use Rattle.std.proofs.lemmas.List.{length-map}
use Rattle.fir_meaning.specs.LeafPaths.{LeafPath, named}
use Rattle.fir_meaning.proofs.LeafSteps.{behind_step}
use Rattle.fir_meaning.specs.MemoryPorts.{MemoryPortKind, reads_and_writes}
use Rattle.fir_meaning.specs.working.LeafMemories.{mode}
use Rattle.fir_meaning.specs.working.LeafModules.{LeafDeclared}
use Rattle.fir_leaf.proofs.LeafPlaces.{get_mapped}
use Rattle.fir_design.specs.working.SameRoles.{path_at}
use Rattle.fir_meaning.specs.SourceRoles.{port_field}
use Rattle.fir_design.proofs.MemoryPortPaths.{behind_field, control_paths, data_paths, kind_paths}
use Rattle.fir_design.proofs.StandingLists.{Stands, stands_first, stands_left, stands_right}

module _ (leaves : List LeafDeclared) (name port : List ℕ) where
  abbrev pub of_port : LeafPath → LeafPath
  of_port q = named name ∷ named port ∷ q

  -- these are there from a number on
  abbrev pub AtPort : ℕ → List LeafPath → Type 0
  AtPort b ps = Stands (path_at leaves) of_port b ps

  module _ (qs : List LeafPath) (d : ℕ) (long : length qs ≡ d) where
    module _ (kind : MemoryPortKind) (b : ℕ) (h : AtPort b (kind_paths qs kind)) where
      pub address_there : path_at leaves b ≡ port_field name port (codes "addr")
      address_there = stands_first (path_at leaves) of_port b (named (codes "addr") ∷ []) _ h

      pub enable_there : path_at leaves (b + 1) ≡ port_field name port (codes "en")
      enable_there = h.each 1 (named (codes "en") ∷ []) refl

      pub clock_there : path_at leaves (b + 2) ≡ port_field name port (codes "clk")
      clock_there = h.each 2 (named (codes "clk") ∷ []) refl

      pub fields_there : AtPort (b + 3) (data_paths qs kind)
      fields_there = stands_right (path_at leaves) of_port b 3 control_paths (data_paths qs kind) refl h

    -- a field of data, and what is behind it
    pub field_there : (x : List ℕ) (b : ℕ) → AtPort b (behind_field x qs) → (i : ℕ) (q : LeafPath) → slice_get qs i ≡ Some q
        → path_at leaves (b + i) ≡ port_field name port x ++ q
    field_there x b h i q e = h.each i (named x ∷ q) (get_mapped (behind_step (named x)) qs i q e)

    pub field_first : (x : List ℕ) (b : ℕ) (more : List LeafPath) → AtPort b (behind_field x qs ++ more) → AtPort b (behind_field x qs)
    field_first x b more h = stands_left (path_at leaves) of_port b (behind_field x qs) more h

    pub field_behind : (x : List ℕ) (b : ℕ) (more : List LeafPath) → AtPort b (behind_field x qs ++ more) → AtPort (b + d) more
    field_behind x b more h =
        stands_right (path_at leaves) of_port b d (behind_field x qs) more (length-map qs (behind_step (named x)) ∙ long) h

    -- what tells whether a port writes, behind what it reads
    module _ (b : ℕ) (h : AtPort b (kind_paths qs reads_and_writes)) where
      abbrev pub given_paths : List LeafPath
      given_paths = behind_field (codes "wdata") qs ++ behind_field (codes "wmask") qs

      behind_read : AtPort (b + 3 + d) ((named (codes "wmode") ∷ []) ∷ given_paths)
      behind_read = field_behind (codes "rdata") (b + 3) ((named (codes "wmode") ∷ []) ∷ given_paths) (fields_there reads_and_writes b h)

      pub mode_there : path_at leaves (mode d b) ≡ port_field name port (codes "wmode")
      mode_there = stands_first (path_at leaves) of_port (b + 3 + d) (named (codes "wmode") ∷ []) given_paths behind_read

      pub given_there : AtPort (b + 3 + d + 1) given_paths
      given_there = stands_right (path_at leaves) of_port (b + 3 + d) 1 ((named (codes "wmode") ∷ []) ∷ []) given_paths refl behind_read
