-- How many whens a leaf's declaration stands within (FIRRTL spec, "Conditional Scopes").
-- It is the number of whens in which its declaration stands in the text; none for a port.
use Rattle.std.specs.Prelude.{◌≡◌, ℕ, ◌+◌, List, [], ◌∷◌, ◌++◌, map}
use Rattle.fir_base.specs.Lists.{Distinct, In}
use Rattle.fir_ast.specs.Circuits.{PortTree}
use Rattle.fir_ast.specs.Statements.{Statement, wire, register, node, instance, memory, when, Block, done, then}
use Rattle.fir_meaning.specs.LeafPaths.{LeafPath, named}
use Rattle.fir_meaning.specs.Components.{Declaration}
use Rattle.fir_meaning.specs.Visibility.{declarations}
use Rattle.fir_meaning.specs.ModuleScenes.{Scene}
use Rattle.fir_meaning.specs.SourceFacts.{source_depth}

-- a name that is declared, with the number of whens round it
pub record Within : Type 0 where
  pub name : List ℕ
  pub whens : ℕ

abbrev mutual
  pub names_within : ℕ → Statement → List Within
  names_within k (wire p n begins t) = record { name = n.name; whens = k } ∷ []
  names_within k (register p n begins t c r) = record { name = n.name; whens = k } ∷ []
  names_within k (node p n e) = record { name = n.name; whens = k } ∷ []
  names_within k (instance p n other) = record { name = n.name; whens = k } ∷ []
  names_within k (memory p n parts) = record { name = n.name; whens = k } ∷ []
  names_within k (when p c a b) = names_within_block (k + 1) a ++ names_within_block (k + 1) b
  names_within k _ = []

  pub names_within_block : ℕ → Block → List Within
  names_within_block k done = []
  names_within_block k ((then) x b) = names_within k x ++ names_within_block k b

-- where each name is declared once
abbrev pub DepthsAreWhens : Type 0
DepthsAreWhens =
    (s : Scene) → Distinct (map (λ (d : Declaration). d.named.name) (declarations s.own.inside))
    → ((w : Within) (q : LeafPath) → In (names_within_block 0 s.own.inside.body) w → source_depth s (named w.name ∷ q) ≡ w.whens)
    × ((p : PortTree) (q : LeafPath) → In s.own.inside.ports p → source_depth s (named p.named.name ∷ q) ≡ 0)
