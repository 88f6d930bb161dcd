-- The lengths behind a type.
use Rattle.std.proofs.Common.{refl, ◌∙◌, rules, arith}
use Rattle.fir_ast.specs.working.TypeViews.{type_of}
use Rattle.fir_parse.specs.working.Symbols.{dimensions}
use Rattle.fir_parse.proofs.Plans.{stays_before, exits_behind, stops_behind, stands_there}
use Rattle.fir_parse.proofs.TypeReads.{ends_there, not_dimension}
use Rattle.fir_parse.proofs.parser.Parser.dimensions.Goals as goal
use Rattle.fir_parse.proofs.parser.Parser.dimensions.Goals.{in_default-via-in-Mark+in_default, in_default-via-in_default}

pub loop-self-init : goal.loop-self-init
loop-self-init c = record { reads = λ end k. refl; high = (c.requires.high, c.requires.low); nearer = omega arith }

pub dimension-requires-clause-high : goal.dimension-requires-clause-high
dimension-requires-clause-high c = c.loop-self.invariant.high

pub returns-in_err-ty-in-Mark-OpenSquare-clause-reads : goal.returns-in_err-ty-in-Mark-OpenSquare-clause-reads
returns-in_err-ty-in-Mark-OpenSquare-clause-reads c =
    exits_behind _ _ _ _ _ _ c.from_residual.result _ (λ k. k) c.from_residual.ensures.1 c.loop-self.invariant.reads c.in_err-ty-in-Mark-OpenSquare.ensures.reads

pub loop-self-smaller : goal.loop-self-smaller
loop-self-smaller c = c.in_ok-ty-in-Mark-OpenSquare.ensures.nearer

pub loop-self-preserved : goal.loop-self-preserved
loop-self-preserved c = record {
  reads = λ end k. c.loop-self.invariant.reads end k ∙ c.in_ok-ty-in-Mark-OpenSquare.ensures.reads end k;
  high = c.in_ok-ty-in-Mark-OpenSquare.ensures.high;
  nearer = omega (arith, c.in_ok-ty-in-Mark-OpenSquare.ensures.nearer, c.loop-self.invariant.nearer);
}

pub returns-in-End-clause-reads : goal.returns-in-End-clause-reads
returns-in-End-clause-reads c =
    stops_behind _ _ _ _ _ (λ k. k) c.loop-self.invariant.reads
    (ends_there (dimensions c.args.depth (type_of c.loop-self.ty.tree)) _ _ _ _ c.peek-next.ensures c.in-End.is c.refused.ensures)

pub returns-in_default-clause-reads : goal.returns-in_default-clause-reads
returns-in_default-clause-reads c = λ end k.
    c.loop-self.invariant.reads end k
    ∙ stays_before (dimensions c.args.depth (type_of c.loop-self.ty.tree)) (type_of c.loop-self.ty.tree) _ _ _
    (stands_there _ c.peek-next.result.lexeme c.peek-next.result.place c.peek-next.ensures (elim c.in_default.branch [ in_default-via-in-Mark+in_default w ↦ w.in_default.not-End | in_default-via-in_default w ↦ w.in_default.not-End ]))
    (not_dimension c.args.depth (type_of c.loop-self.ty.tree) c.peek-next.result.lexeme c.peek-next.result.place (elim c.in_default.branch [ in_default-via-in-Mark+in_default w ↦ λ h. search rules | in_default-via-in_default w ↦ λ h. search rules ]))
    end k

pub returns-in_default-clause-high : goal.returns-in_default-clause-high
returns-in_default-clause-high c = c.loop-self.invariant.high

pub returns-in_default-clause-nearer : goal.returns-in_default-clause-nearer
returns-in_default-clause-nearer c = c.loop-self.invariant.nearer
