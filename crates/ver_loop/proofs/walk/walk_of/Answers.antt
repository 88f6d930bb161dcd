use Rattle.std.proofs.Common.{ℕ, List, map, sym, ap, ◌∙◌, subst, Bor}
use Rattle.fir_base.specs.declared.name.Name.{Name}
use Rattle.ver_loop.specs.Loops.{IsClosedWalk}
use Rattle.ver_loop.specs.working.Rounds.{round}
use Rattle.ver_loop.proofs.ClosedWalks.{closed_walk}
use Rattle.ver_loop.proofs.walk.walk_of.Goals as goal

pub returns : goal.returns
returns c =
    subst (IsClosedWalk c.args.v.now)
    (sym
    (c.from_vec.ensures ∙ c.in_ok-names_round.ensures ∙ ap (λ (xs : List (Bor Name)). round (map (λ n. n.now) xs) c.args.circle.now) c.as_slice.ensures.value
    ∙ ap (λ (ns : List (List ℕ)). round ns c.args.circle.now) c.in_ok-names.ensures))
    (closed_walk c.args.v.now c.requires.distinct c.args.circle.now c.requires.circle)
