-- What bodies declare takes as many numbers as it has leaves.
use Rattle.std.proofs.Common.{◌≡◌, ℕ, ◌+◌, List, [], ◌∷◌, ◌++◌, length, true, Option, Some, None, refl, sym, ap, ◌∙◌, arith}
use Rattle.std.proofs.lemmas.List.{length-append}
use Rattle.fir_ast.specs.Types.{DataType}
use Rattle.fir_ast.specs.Circuits.{ModuleTree}
use Rattle.fir_meaning.specs.Components.{Component, Declaration, Declarations, port, wire, register, node, instance, memory}
use Rattle.fir_meaning.specs.MemoryTypes.{memory_type}
use Rattle.fir_meaning.specs.TypeKinds.{bare}
use Rattle.fir_meaning.specs.TypedScopes.{TypedScope}
use Rattle.fir_meaning.specs.ComponentTypes.{component_type, instance_bundle, known_as}
use Rattle.fir_meaning.specs.SharedLeaves.{shared_count}
use Rattle.fir_meaning.specs.SizedTypes.{bare_type, node_type, numbered}
use Rattle.fir_meaning.specs.SizedScopes.{sized_type}
use Rattle.fir_meaning.specs.SizedMemories.{as_written, count_of_any}
use Rattle.fir_meaning.specs.SizedDeclarations.{Numbering, all_port_numbers, numbered_behind, numbered_with, port_numbers, taken_of_bodies}
use Rattle.fir_meaning.proofs.SizedShapes.{node_bare}
use Rattle.fir_types.specs.working.LeafNumbers.{NextLeaf, leaf_behind, leaves_behind, numbers_taken}
use Rattle.fir_types.proofs.BareTypes.{shown_shared_count}
use Rattle.fir_width.specs.working.FlatWidths.{flat}
use Rattle.fir_width.specs.working.DeclaredWidths.{body_widths, own_widths, port_widths}
use Rattle.fir_width.proofs.DeclaredScopes.{IsTypedNode, Met, NodesTyped, expression_bare, known_behind, met_more}
use Rattle.fir_width.proofs.FlatShapes.{flat_long}

written_long : (o : Option DataType) → length (flat (as_written o)) ≡ count_of_any o
written_long None = refl
written_long (Some t) = flat_long None t

own_long : (modules : List ModuleTree) (numbers : Numbering) (d : Declaration) (c : Component)
    → length (own_widths modules numbers d c) ≡ taken_of_bodies numbers.scope d.named.place c
own_long modules numbers d (port direction t) = refl
own_long modules numbers d (wire t) = flat_long (Some numbers.next) t
own_long modules numbers d (register t) = flat_long (Some numbers.next) t
own_long modules numbers d (node e) =
    let s = sized_type numbers.scope e in
    flat_long (Some numbers.next) (node_type s) ∙ (sym (shown_shared_count true (node_type s)) ∙ ap shared_count (node_bare s))
own_long modules numbers d (instance name) = refl
own_long modules numbers d (memory parts) = written_long (memory_type d.named.place parts)

pub next_number : (modules : List ModuleTree) (numbers : Numbering) (d : Declaration)
    → (numbered_with modules numbers d).next ≡ numbers.next + length (own_widths modules numbers d d.component)
next_number modules numbers d = ap (λ n. numbers.next + n) (sym (own_long modules numbers d d.component))

pub next_behind : (modules : List ModuleTree) (numbers : Numbering) (ds : Declarations)
    → (numbered_behind modules numbers ds).next ≡ numbers.next + length (body_widths modules numbers ds)
next_behind modules numbers [] = omega arith
next_behind modules numbers (d ∷ ds) =
    let own = own_widths modules numbers d d.component in
    let rest = body_widths modules (numbered_with modules numbers d) ds in
    next_behind modules (numbered_with modules numbers d) ds ∙ ap (λ n. n + length rest) (next_number modules numbers d)
    ∙ (let e : numbers.next + length own + length rest ≡ numbers.next + length (own ++ rest) = let both = length-append own rest in omega (arith, both) in e)

pub ports_before : (k : ℕ) (ms : List ModuleTree) → length (port_widths k ms) ≡ all_port_numbers ms
ports_before k [] = refl
ports_before k (m ∷ ms) =
    length-append (flat (numbered (Some k) (instance_bundle m))) (port_widths (k + port_numbers m) ms)
    ∙ ap (λ n. n + length (port_widths (k + port_numbers m) ms)) (flat_long (Some k) (instance_bundle m))
    ∙ ap (λ n. port_numbers m + n) (ports_before (k + port_numbers m) ms)

-- the numbers of the leaves, counted by types
pub record Same (next : NextLeaf) (numbers : Numbering) : Type 0 where
  pub port : next.port ≡ numbers.port
  pub body : next.body ≡ numbers.next

taken_of_any : (o : Option DataType) → numbers_taken o ≡ count_of_any o
taken_of_any None = refl
taken_of_any (Some t) = refl

more_none : (a b : ℕ) → a ≡ b → a ≡ b + 0
more_none a b e = omega (arith, e)

module _ (modules : List ModuleTree) (start : Numbering) (empty : start.scope ≡ []) where
  pub same_more : (ks : TypedScope) (numbers : Numbering) (next : NextLeaf) (d : Declaration) → Met modules start ks numbers → Same next numbers
      → IsTypedNode ks d.component → Same (leaf_behind next d.component (known_as modules ks d).data_type) (numbered_with modules numbers d)
  same_more ks numbers next d met same typed = by d.component typed
    where
      by : (c : Component) → IsTypedNode ks c
          → Same (leaf_behind next c (component_type modules ks d.named.place c))
          (numbered_with modules numbers (record { named = d.named; component = c; depth = d.depth }))
      by (port direction t) own = record { port = ap (λ n. n + shared_count t) same.port; body = more_none next.body numbers.next same.body }
      by (wire t) own = record { port = more_none next.port numbers.port same.port; body = ap (λ n. n + shared_count t) same.body }
      by (register t) own = record { port = more_none next.port numbers.port same.port; body = ap (λ n. n + shared_count t) same.body }
      by (node e) own =
          let shape : bare_type (sized_type numbers.scope e) ≡ bare own.0 = expression_bare modules start empty ks numbers e own.0 met own.1 in
          record {
            port = more_none next.port numbers.port same.port;
            body =
                ap (λ o. next.body + numbers_taken o) own.1 ∙ ap (λ n. n + shared_count own.0) same.body
                ∙ ap (λ n. numbers.next + n) (sym (ap shared_count shape ∙ shown_shared_count true own.0));
          }
      by (instance name) own = record { port = more_none next.port numbers.port same.port; body = more_none next.body numbers.next same.body }
      by (memory parts) own = record {
        port = more_none next.port numbers.port same.port;
        body =
            ap (λ n. n + numbers_taken (memory_type d.named.place parts)) same.body
            ∙ ap (λ n. numbers.next + n) (taken_of_any (memory_type d.named.place parts));
      }

  pub same_behind : (ds : Declarations) (ks : TypedScope) (numbers : Numbering) (next : NextLeaf) → Met modules start ks numbers → Same next numbers
      → NodesTyped modules ks ds → Same (leaves_behind next ds (known_behind modules ks ds)) (numbered_behind modules numbers ds)
  same_behind [] ks numbers next met same typed = same
  same_behind (d ∷ ds) ks numbers next met same typed =
      same_behind ds (ks ++ known_as modules ks d ∷ []) (numbered_with modules numbers d) (leaf_behind next d.component (known_as modules ks d).data_type)
      (met_more modules start ks numbers d met) (same_more ks numbers next d met same typed.0) typed.1
