-- Whether two paths are the same, and whether the leaf of a path may be driven (FIRRTL spec, "Connects").
use Rattle.std.specs.Prelude.{[], ◌∷◌, Bool, true, false, ◌==◌, ◌&&◌, Option, Some, None}
use Rattle.std.specs.Str.{bytes_eq}
use Rattle.fir_meaning.specs.LeafPaths.{LeafPath, Step, named, element}

abbrev pub same_step : Step → Step → Bool
same_step (named x) (named y) = bytes_eq x y
same_step (element i) (element j) = i == j
same_step _ _ = false

abbrev pub same_path : LeafPath → LeafPath → Bool
same_path [] [] = true
same_path (x ∷ xs) (y ∷ ys) = same_step x y && same_path xs ys
same_path _ _ = false

abbrev pub may_be_driven : (LeafPath → Bool) → Option LeafPath → Bool
may_be_driven may_drive None = false
may_be_driven may_drive (Some x) = may_drive x
