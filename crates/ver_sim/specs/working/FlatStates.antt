-- The state as one list: where the words of a name begin, and writes by number.
use Rattle.std.specs.Prelude.{ℕ, ◌+◌, List, [], ◌∷◌, nat_lt, slice_set, if◌then◌else◌}
use Rattle.std.specs.Str.{bytes_eq}
use Rattle.ver_ast.specs.Nets.{Variable}
use Rattle.ver_ast.specs.Next.{Put}

-- behind the words of the names before it
abbrev pub base_of : List Variable → List ℕ → ℕ
base_of [] name = 0
base_of (k ∷ ks) name = if bytes_eq k.name name then 0 else (k.depth + base_of ks name)

abbrev pub depth_of : List Variable → List ℕ → ℕ
depth_of [] name = 0
depth_of (k ∷ ks) name = if bytes_eq k.name name then k.depth else depth_of ks name

-- a word for one of the places behind a base
pub record FlatPut : Type 0 where
  pub base : ℕ
  pub depth : ℕ
  pub place : ℕ
  pub word : ℕ

abbrev pub flat : List Variable → Put → FlatPut
flat ks p = record { base = base_of ks p.name; depth = depth_of ks p.name; place = p.place; word = p.word }

-- one past the end does nothing
abbrev pub flat_one : FlatPut → List ℕ → List ℕ
flat_one p state = if nat_lt p.place p.depth then slice_set state (p.base + p.place) p.word else state

abbrev pub flat_all : List FlatPut → List ℕ → List ℕ
flat_all [] state = state
flat_all (p ∷ ps) state = flat_all ps (flat_one p state)
