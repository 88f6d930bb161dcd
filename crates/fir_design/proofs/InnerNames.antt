-- The names of the memories and the instances of a module are distinct.
use Rattle.std.proofs.Common.{ℕ, List, [], ◌∷◌, ◌++◌, map, sym, ap, ◌∙◌, subst, append_assoc}
use Rattle.std.proofs.lemmas.List.{append-nil, map-append}
use Rattle.fir_base.specs.Lists.{Distinct}
use Rattle.fir_base.proofs.Twins.{distinct_right}
use Rattle.fir_ast.specs.Statements.{PlacedName, Statement, wire, register, node, instance, memory, when, connect, partial_connect, invalid, skip, Block, done, then}
use Rattle.fir_meaning.specs.Components.{Component, Declaration, Declarations}
use Rattle.fir_meaning.specs.Components as component
use Rattle.fir_meaning.specs.Visibility.{Before, behind, behind_block, declaration_at, declarations, opened, reopened, with_declaration}
use Rattle.fir_meaning.specs.ModuleScenes.{Scene, behind_all_ports}
use Rattle.fir_design.proofs.DistinctElements.{distinct_without}
use Rattle.fir_design.proofs.FineScenes.{IsFineScene}
use Rattle.fir_design.proofs.KnownDeclarations.{known_names}

-- in the order of the text
abbrev mutual
  pub inner_names : Statement → List (List ℕ)
  inner_names (memory p n parts) = n.name ∷ []
  inner_names (instance p n other) = n.name ∷ []
  inner_names (when p c a b) = inner_names_of a ++ inner_names_of b
  inner_names _ = []

  pub inner_names_of : Block → List (List ℕ)
  inner_names_of done = []
  inner_names_of ((then) x b) = inner_names x ++ inner_names_of b

abbrev names_of : Declarations → List (List ℕ)
names_of ds = map (λ (d : Declaration). d.named.name) ds

-- one that is declared, with names behind it
declared_kept : (before : Before) (n : PlacedName) (c : Component) (rest : List (List ℕ))
    → Distinct (names_of (with_declaration before n c).declared ++ rest)
    → Distinct (names_of before.declared ++ n.name ∷ rest)
declared_kept before n c rest h =
    subst Distinct
    (ap (λ ns. ns ++ rest) (map-append (λ (d : Declaration). d.named.name) before.declared (declaration_at before n c ∷ []))
    ∙ append_assoc (names_of before.declared) (n.name ∷ []) rest) h

other_left : (before : Before) (n : PlacedName) (c : Component) (rest : List (List ℕ))
    → Distinct (names_of (with_declaration before n c).declared ++ rest)
    → Distinct (names_of before.declared ++ rest)
other_left before n c rest h = distinct_without (names_of before.declared) n.name rest (declared_kept before n c rest h)

mutual
  statement_names : (x : Statement) (before : Before) (rest : List (List ℕ)) → Distinct (names_of (behind before x).declared ++ rest)
      → Distinct (names_of before.declared ++ (inner_names x ++ rest))
  statement_names (memory p n parts) before rest h = declared_kept before n (component.memory parts) rest h
  statement_names (instance p n other) before rest h = declared_kept before n (component.instance other.name) rest h
  statement_names (wire p n begins t) before rest h = other_left before n (component.wire t) rest h
  statement_names (register p n begins t c r) before rest h = other_left before n (component.register t) rest h
  statement_names (node p n e) before rest h = other_left before n (component.node e) rest h
  statement_names (when p c a b) before rest h =
      subst (λ ns. Distinct (names_of before.declared ++ ns)) (sym (append_assoc (inner_names_of a) (inner_names_of b) rest))
      (block_names a (opened before) (inner_names_of b ++ rest) (block_names b (reopened before (behind_block (opened before) a)) rest h))
  statement_names (connect p d e) before rest h = h
  statement_names (partial_connect p d e) before rest h = h
  statement_names (invalid p d) before rest h = h
  statement_names (skip p) before rest h = h

  block_names : (b : Block) (before : Before) (rest : List (List ℕ)) → Distinct (names_of (behind_block before b).declared ++ rest)
      → Distinct (names_of before.declared ++ (inner_names_of b ++ rest))
  block_names done before rest h = h
  block_names ((then) x b) before rest h =
      subst (λ ns. Distinct (names_of before.declared ++ ns)) (sym (append_assoc (inner_names x) (inner_names_of b) rest))
      (statement_names x before (inner_names_of b ++ rest) (block_names b (behind before x) rest h))

pub inner_names_distinct : (s : Scene) → IsFineScene s → Distinct (inner_names_of s.own.inside.body)
inner_names_distinct s f =
    let all = declarations s.own.inside in
    let head = behind_all_ports s.own.inside in
    let whole : Distinct (names_of all ++ []) =
    subst Distinct (known_names s.own.modules all ∙ sym (append-nil (names_of all))) f.fine.names in
    subst Distinct (append-nil (inner_names_of s.own.inside.body))
    (distinct_right (names_of head.declared) (inner_names_of s.own.inside.body ++ []) (block_names s.own.inside.body head [] whole))
