use Rattle.std.proofs.Common.{◌≡◌, ◌<◌, map, take}
use Rattle.std.specs.List.{All}
use Rattle.fir_type_table.specs.working.Tables.{member_of, part_of, types_of}
use Rattle.fir_type_table.proofs.table.TypeTable.parts.Given as goal

abbrev pub invariant-loop-member : goal.invariant-loop-member
invariant-loop-member l = record {
  fields : map (part_of (types_of l.self)) l.parts.items ≡ map (member_of (types_of l.self)) (take l.member-index l.member-items);
  below : All (λ p. p.ty.number < l.fn.id.number) l.parts.items;
}
