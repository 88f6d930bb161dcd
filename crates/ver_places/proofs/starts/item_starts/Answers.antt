use Rattle.std.proofs.Common.{◌≡◌, List, length, ap, ◌∙◌}
use Rattle.std.specs.Prelude.{drop, flat_map, slice_get}
use Rattle.ver_ast.specs.declared.place.VPlace.{VPlace}
use Rattle.ver_ast.specs.declared.tree.Item.{Item}
use Rattle.ver_ast.specs.declared.tree.Port.{Port}
use Rattle.ver_ast.specs.Grammar.{port_tokens}
use Rattle.ver_places.specs.Places.{behind, item_places}
use Rattle.ver_places.specs.working.ItemPlaces.{starts_of}
use Rattle.ver_places.proofs.ItemStarts.{item_starts_at, starts_long}
use Rattle.ver_places.proofs.starts.item_starts.Goals as goal

all : (c : goal.After-from_vec) → c.from_vec.result ≡ starts_of c.args.v.now.items (item_places c.args.v.now)
all c =
    c.from_vec.ensures ∙ c.in_ok-starts.ensures
    ∙ ap (λ (is : List Item). starts_of is c.behind_ports-items.result.now) c.as_slice-3.ensures
    ∙ ap (starts_of c.args.v.now.items)
    (c.behind_ports-items.ensures ∙ ap (λ (ps : List Port). behind (flat_map port_tokens ps) c.behind-ports.result.now) c.as_slice-2.ensures
    ∙ ap (behind (flat_map port_tokens c.args.v.now.ports)) (c.behind-ports.ensures ∙ ap (drop 2) c.as_slice.ensures))

pub returns-clause-each : goal.returns-clause-each
returns-clause-each c = ap length (all c) ∙ starts_long c.args.v.now.items (item_places c.args.v.now)

pub returns-clause-starts : goal.returns-clause-starts
returns-clause-starts c = λ k h. ap (λ (s : List VPlace). slice_get s k) (all c) ∙ item_starts_at c.args.v.now k h
