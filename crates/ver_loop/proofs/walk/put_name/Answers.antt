use Rattle.std.proofs.Common.{ℕ, List, ◌++◌, [], ap, sym, ◌∙◌, append-nil, Bor}
use Rattle.std.specs.Prelude.{Option, option_map}
use Rattle.std.specs.Option.{option_to_list}
use Rattle.std.proofs.lemmas.Option.{slice_get-map, slice_get_past}
use Rattle.fir_base.specs.declared.name.Name.{Name}
use Rattle.ver_loop.proofs.walk.put_name.Goals as goal

pub returns-in_default : goal.returns-in_default
returns-in_default c =
    sym (ap (λ (o : Option (List ℕ)). c.args.out.now.items ++ (option_to_list o ++ [])) (slice_get-map (λ (n : Bor Name). n.now) c.args.names.now c.args.number ∙ ap (option_map (λ (n : Bor Name). n.now)) (slice_get_past c.args.names.now c.args.number c.in_default.ensures.lookup.3)) ∙ append-nil c.args.out.now.items)
