use Rattle.std.proofs.Common.{◌≡◌, [], refl, sym, ◌∙◌, inl}
use Rattle.std.proofs.lemmas.Bool.{eqb-true}
use Rattle.std.proofs.lemmas.List.{nil_from_length}
use Rattle.trace_lines.proofs.Kept.{kept_same}
use Rattle.trace_lines.proofs.lines.put_rest.Goals as goal

pub returns-then-is_empty : goal.returns-then-is_empty
returns-then-is_empty g c =
    let none : c.args.lines.now ≡ [] = nil_from_length c.args.lines.now (eqb-true _ _ (sym c.is_empty.ensures ∙ c.if-is_empty.true)) in
    inl (refl, rw none (kept_same (g.S.Sink.seen c.args.out.now)))
