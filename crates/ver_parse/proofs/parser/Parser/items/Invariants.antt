-- The items so far are read.
use Rattle.std.proofs.Common.{[], ◌∷◌, ◌≤◌, flat_map}
use Rattle.std.specs.List.{AllByRecursion}
use Rattle.ver_ast.specs.Grammar.{item_tokens}
use Rattle.ver_ast.specs.Spells.{HasItemNames, HasNumberInType}
use Rattle.ver_parse.specs.working.Reads.{left, Leads}
use Rattle.ver_parse.specs.working.Symbols.{items}
use Rattle.ver_parse.proofs.parser.Parser.items.Given as goal

abbrev pub invariant-loop-items : goal.invariant-loop-items
invariant-loop-items l = record {
  far : Leads (items ∷ []) (flat_map item_tokens l.items.items) (items ∷ []) l.initial.self l.self;
  named : AllByRecursion HasItemNames l.items.items;
  in_type : AllByRecursion HasNumberInType l.items.items;
  nearer : left l.self ≤ left l.initial.self;
}

abbrev pub decreases-loop-items : goal.decreases-loop-items
decreases-loop-items l = left l.self
