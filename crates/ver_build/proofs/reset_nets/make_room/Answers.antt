use Rattle.std.proofs.Common.{sym, ◌∙◌}
use Rattle.std.proofs.lemmas.Bool.{eqb-true}
use Rattle.ver_build.proofs.NotedNames.{none_kept}
use Rattle.ver_build.proofs.reset_nets.make_room.Goals as goal

pub returns : goal.returns
returns c =
    λ room.
    none_kept c.args.leaves.now c.args.names.now.items c.put_none.new.names.items
    (sym c.args.names.now.ok.0 ∙ eqb-true _ _ (sym c.is_empty.ensures ∙ c.if-not-is_empty.false)) c.in_ok-put_none.ensures
