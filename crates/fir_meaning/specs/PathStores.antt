-- What is stored at the leaves of a design, by their paths: the last value that was, if any (FIRRTL spec, "Last Connect Semantics").
use Rattle.std.specs.Prelude.{Option, Some, None, if◌then◌else◌}
use Rattle.fir_meaning.specs.LeafPaths.{LeafPath}
use Rattle.fir_meaning.specs.SamePaths.{same_path}

-- what was stored at each leaf, if anything was
abbrev pub DesignStore : Type 0 → Type 0
DesignStore V = LeafPath → Option V

abbrev pub nothing_kept : {V : Type 0} → DesignStore V
nothing_kept x = None

abbrev pub kept_at : {V : Type 0} → LeafPath → V → DesignStore V → DesignStore V
kept_at x v store y = if same_path x y then Some v else store y
